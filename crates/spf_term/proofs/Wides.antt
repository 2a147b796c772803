-- Terms of wide numbers, said of their monomials as lists.
use Rattle.std.proofs.Common.{◌≡◌, ℕ, ◌+◌, ◌<◌, ℤ, List, [], ◌∷◌, ◌++◌, length, get_or, map, take, refl, ap, sym, ◌∙◌, append_assoc, subst}
use Rattle.std.proofs.lemmas.List.{map-append, take_more}
use Rattle.std.proofs.lemmas.List.Elements.{All-from_recursion}
use Rattle.std.specs.List.{All, AllByRecursion}
use Rattle.std.specs.Cmp.Lexicographic.{slice_cmp}
use Rattle.std.specs.Ordering.{int_cmp, ordering_then}
use Rattle.std.specs.declared.cmp.Ordering.{Ordering}
use Rattle.spf_term.specs.Normal.{AllAtoms, AtomIsNormal}
use Rattle.spf_term.specs.Order.{term_cmp}
use Rattle.spf_term.specs.Wide.{plain, plain_mono, plain_monos, plain_atom}
use Rattle.spf_term.specs.declared.term.Mono.{Mono}
use Rattle.spf_term.specs.declared.term.Term.{Term, out-Term, roll-Term, out-roll-Term}
use Rattle.spf_term.specs.declared.wide.WideMono.{WideMono}
use Rattle.spf_term.specs.declared.wide.WideTerm.{WideTerm, WideTerm', out-WideTerm, roll-WideTerm, out-roll-WideTerm, Row_of-WideMono, end_of-WideMono, more_of-WideMono, items-the_row-WideMono, items_shown-the_row-WideMono-0}
use Rattle.spf_term.proofs.Compared.{mono_cmp, term_cmp_is}

abbrev pub HasNormalAtom : WideMono → Type 0
HasNormalAtom mono = AtomIsNormal (plain_atom mono.atom)

abbrev pub sum_of : List Mono → ℤ → Term
sum_of monos constant = roll-Term (record { monos = monos; constant = constant })

pub out_monos : (monos : List Mono) (constant : ℤ) → (out-Term (sum_of monos constant)).monos ≡ monos
out_monos monos constant = ap (λ term. term.monos) (out-roll-Term (record { monos = monos; constant = constant }))

pub out_constant : (monos : List Mono) (constant : ℤ) → (out-Term (sum_of monos constant)).constant ≡ constant
out_constant monos constant = ap (λ term. term.constant) (out-roll-Term (record { monos = monos; constant = constant }))

row_plain : {n : _} (row : Row_of-WideMono n) → plain_monos row ≡ map plain_mono (items-the_row-WideMono n row)
row_plain end_of-WideMono = refl
row_plain (more_of-WideMono coef atom others) = ap (λ (monos : List Mono). record { coef = coef; atom = plain_atom atom } ∷ monos) (row_plain others)

pub plain_is : (term : WideTerm) → plain term ≡ sum_of (map plain_mono (out-WideTerm term).monos) (out-WideTerm term).constant
unfolding out-WideTerm denote.Hole.Carrier.out
plain_is (WideTerm' shape monos constant) = ap (λ (of : List Mono). sum_of of constant) (row_plain monos ∙ ap (map plain_mono) (sym (items_shown-the_row-WideMono-0 shape monos)))

pub plain_monos_are : (term : WideTerm) → (out-Term (plain term)).monos ≡ map plain_mono (out-WideTerm term).monos
plain_monos_are term = ap (λ of. (out-Term of).monos) (plain_is term) ∙ out_monos (map plain_mono (out-WideTerm term).monos) (out-WideTerm term).constant

pub plain_constant_is : (term : WideTerm) → (out-Term (plain term)).constant ≡ (out-WideTerm term).constant
plain_constant_is term = ap (λ of. (out-Term of).constant) (plain_is term) ∙ out_constant (map plain_mono (out-WideTerm term).monos) (out-WideTerm term).constant

pub plain_made : (monos : List WideMono) (constant : ℤ) → plain (roll-WideTerm (record { monos = monos; constant = constant })) ≡ sum_of (map plain_mono monos) constant
plain_made monos constant = plain_is (roll-WideTerm (record { monos = monos; constant = constant })) ∙ ap (λ term. sum_of (map plain_mono term.monos) term.constant) (out-roll-WideTerm (record { monos = monos; constant = constant }))

plain_atoms : (monos : List WideMono) → AllAtoms AtomIsNormal (map plain_mono monos) → AllByRecursion HasNormalAtom monos
plain_atoms [] h = tt
plain_atoms (mono ∷ monos) h = (h.0, plain_atoms monos h.1)

pub normal_atoms : (monos : List WideMono) (others : List Mono) → map plain_mono monos ≡ others → AllAtoms AtomIsNormal others → All HasNormalAtom monos
normal_atoms monos others are h = All-from_recursion HasNormalAtom monos (plain_atoms monos (subst (AllAtoms AtomIsNormal) (sym are) h))

-- one more monomial, for the one at a place of a list
pub one_more : {X : Type 0} (front : List Mono) (f : X → Mono) (items : List X) (index : ℕ) (item : X) → index < length items → item ≡ get_or items index item
    → (monos made : List WideMono) (mono : WideMono) → made ≡ monos ++ mono ∷ [] → plain_mono mono ≡ f item → map plain_mono monos ≡ front ++ map f (take index items) → map plain_mono made ≡ front ++ map f (take (index + 1) items)
one_more {X} front f items index item inside at monos made mono pushed is before =
    ap (map plain_mono) pushed ∙ map-append plain_mono monos (mono ∷ []) ∙ (λ i. before i ++ is i ∷ []) ∙ append_assoc front (map f (take index items)) (f item ∷ [])
    ∙ ap (λ more. front ++ more)
    (sym (map-append f (take index items) (item ∷ [])) ∙ ap (map f) (ap (λ (last : X). take index items ++ last ∷ []) at ∙ sym (take_more items index item inside)))

-- ---- order

abbrev pub wide_cmp : WideMono → WideMono → Ordering
wide_cmp a b = mono_cmp (plain_mono a) (plain_mono b)

mapped_cmp : (xs ys : List WideMono) → slice_cmp mono_cmp (map plain_mono xs) (map plain_mono ys) ≡ slice_cmp wide_cmp xs ys
mapped_cmp [] [] = refl
mapped_cmp [] (y ∷ ys) = refl
mapped_cmp (x ∷ xs) [] = refl
mapped_cmp (x ∷ xs) (y ∷ ys) = ap (ordering_then (wide_cmp x y)) (mapped_cmp xs ys)

pub wide_cmp_is : (a b : WideTerm) → term_cmp (plain a) (plain b) ≡ ordering_then (slice_cmp wide_cmp (out-WideTerm a).monos (out-WideTerm b).monos) (int_cmp (out-WideTerm a).constant (out-WideTerm b).constant)
wide_cmp_is a b =
    term_cmp_is (plain a) (plain b)
    ∙ (λ i. ordering_then (slice_cmp mono_cmp (plain_monos_are a i) (plain_monos_are b i)) (int_cmp (plain_constant_is a i) (plain_constant_is b i)))
    ∙ ap (λ of. ordering_then of (int_cmp (out-WideTerm a).constant (out-WideTerm b).constant)) (mapped_cmp (out-WideTerm a).monos (out-WideTerm b).monos)
