-- There is one normal list for what monomials weigh.
use Rattle.std.proofs.Common.{◌≡◌, ℤ, pos, ◌+ℤ◌, ◌*ℤ◌, List, [], ◌∷◌, true, false, refl, ap, sym, ◌∙◌, arith}
use Rattle.std.proofs.Math.IntN.{*ℤ-one, *ℤ-zero, +ℤ_idl, +ℤ_idr}
use Rattle.std.proofs.lemmas.Cmp.{tied_itself}
use Rattle.std.proofs.lemmas.Int.{ints}
use Rattle.std.specs.Ordering.{int_eq, ordering_reverse}
use Rattle.std.specs.declared.cmp.Ordering.{Ordering}
use Rattle.std.specs.declared.cmp.Ordering.TheVariants.{Less, Equal, Greater}
use Rattle.spf_term.specs.Normal.{AllAtoms, AtomIsNormal, IsBeforeAll, ListIsNormal, all_added, by_order}
use Rattle.spf_term.specs.Order.{atom_cmp}
use Rattle.spf_term.specs.declared.term.Atom.{Atom}
use Rattle.spf_term.specs.declared.term.Mono.{Mono}
use Rattle.spf_term.proofs.Exact.{exact_atom}
use Rattle.spf_term.proofs.NormalForms.{added_normal, before_later}
use Rattle.spf_term.proofs.OrderLaws.{atom_turned, atoms_total}
use Rattle.spf_term.proofs.Weights.{added_weighed, weighed}

-- by which a list weighs the coefficient of the atom
abbrev pub only : Atom → Atom → ℤ
only atom other = by_order (atom_cmp atom other) (pos 0) (pos 1) (pos 0)

absent : (atom : Atom) (monos : List Mono) → IsBeforeAll atom monos → weighed (only atom) monos ≡ pos 0
absent atom [] h = refl
absent atom (mono ∷ monos) h =
    ap (λ order. (mono.coef *ℤ by_order order (pos 0) (pos 1) (pos 0)) +ℤ weighed (only atom) monos) h.0
    ∙ ap (λ (product : ℤ). product +ℤ weighed (only atom) monos) (*ℤ-zero mono.coef) ∙ +ℤ_idl (weighed (only atom) monos) ∙ absent atom monos h.1

first_coef : (mono : Mono) (monos : List Mono) → IsBeforeAll mono.atom monos → weighed (only mono.atom) (mono ∷ monos) ≡ mono.coef
unfolding lib.IntN.one
first_coef mono monos h =
    ap (λ order. (mono.coef *ℤ by_order order (pos 0) (pos 1) (pos 0)) +ℤ weighed (only mono.atom) monos) (tied_itself atoms_total mono.atom)
    ∙ (λ i. *ℤ-one mono.coef i +ℤ absent mono.atom monos h i) ∙ +ℤ_idr mono.coef

abbrev pub Alike : List Mono → List Mono → Type 0
Alike a b = (weight : Atom → ℤ) → weighed weight a ≡ weighed weight b

none_left : (mono : Mono) (monos others : List Mono) → ListIsNormal (mono ∷ monos) → IsBeforeAll mono.atom others → Alike (mono ∷ monos) others → ⊥
none_left mono monos others h before alike =
    let zero' : mono.coef ≡ pos 0 = sym (first_coef mono monos h.2) ∙ alike (only mono.atom) ∙ absent mono.atom others before in
    let clash : true ≡ false = ap (λ coef. int_eq coef (pos 0)) (sym zero') ∙ h.0 in
    cc

cancelled : (x y a b : ℤ) → x +ℤ a ≡ y +ℤ b → x ≡ y → a ≡ b
cancelled x y a b is same = omega (arith, ints)

unique_by : (x y : Mono) (xs ys : List Mono) → ListIsNormal (x ∷ xs) → ListIsNormal (y ∷ ys) → Alike (x ∷ xs) (y ∷ ys) → (Alike xs ys → xs ≡ ys) → (order : Ordering) → atom_cmp x.atom y.atom ≡ order → x ∷ xs ≡ y ∷ ys
unique_by x y xs ys h k alike same Less is = absurd (none_left x xs (y ∷ ys) h (is, before_later x.atom y.atom ys is k.2) alike)
unique_by x y xs ys h k alike same Greater is =
    let less : atom_cmp y.atom x.atom ≡ Less = atom_turned y.atom x.atom ∙ ap ordering_reverse is in
    absurd (none_left y ys (x ∷ xs) k (less, before_later y.atom x.atom xs less h.2) (λ weight. sym (alike weight)))
unique_by x y xs ys h k alike same Equal is =
    let atom : x.atom ≡ y.atom = exact_atom x.atom y.atom is in
    let coef : x.coef ≡ y.coef = sym (first_coef x xs h.2) ∙ alike (only x.atom) ∙ ap (λ of. weighed (only of) (y ∷ ys)) atom ∙ first_coef y ys k.2 in
    let rest : xs ≡ ys = same (λ weight. cancelled (x.coef *ℤ weight x.atom) (y.coef *ℤ weight y.atom) (weighed weight xs) (weighed weight ys) (alike weight) (λ i. coef i *ℤ weight (atom i))) in
    λ i. record { coef = coef i; atom = atom i } ∷ rest i

pub unique : (a b : List Mono) → ListIsNormal a → ListIsNormal b → Alike a b → a ≡ b
unique [] [] h k alike = refl
unique [] (y ∷ ys) h k alike = absurd (none_left y ys [] k tt (λ weight. sym (alike weight)))
unique (x ∷ xs) [] h k alike = absurd (none_left x xs [] h tt alike)
unique (x ∷ xs) (y ∷ ys) h k alike = unique_by x y xs ys h k alike (unique xs ys h.3 k.3) (atom_cmp x.atom y.atom) refl

-- ---- all added

pub all_normal : (monos : List Mono) → AllAtoms AtomIsNormal monos → ListIsNormal (all_added monos)
all_normal [] h = tt
all_normal (mono ∷ monos) h = added_normal mono.coef mono.atom (all_added monos) (all_normal monos h.1) h.0

pub all_weighed : (weight : Atom → ℤ) (monos : List Mono) → weighed weight (all_added monos) ≡ weighed weight monos
all_weighed weight [] = refl
all_weighed weight (mono ∷ monos) = added_weighed weight mono.coef mono.atom (all_added monos) ∙ ap (λ (more : ℤ). (mono.coef *ℤ weight mono.atom) +ℤ more) (all_weighed weight monos)

-- a normal list that weighs what monomials do is what they add up to
pub added_up : (made monos : List Mono) → ListIsNormal made → AllAtoms AtomIsNormal monos → Alike made monos → made ≡ all_added monos
added_up made monos h k alike = unique made (all_added monos) h (all_normal monos k) (λ weight. alike weight ∙ sym (all_weighed weight monos))
