-- What comes in place of monomials: one after another, and how large it is.
use Rattle.std.proofs.Common.{◌≡◌, ℕ, ◌+◌, ◌*◌, ◌<◌, ◌≤◌, ◌^◌, ℤ, pos, ◌+ℤ◌, ◌*ℤ◌, List, [], ◌∷◌, ◌++◌, Bool, true, false, if◌then◌else◌, None, length, get_or, take, drop, map, refl, ap, sym, ◌∙◌, subst, arith, append_assoc, unsigned_abs, FitsSigned}
use Rattle.std.proofs.Math.IntN.{+ℤ_assoc, +ℤ_idl, +ℤ_idr}
use Rattle.std.proofs.Math.Nat.{mul-add, mul-le-mul_left, zero-add}
use Rattle.std.proofs.lemmas.Bool.Decides.{nat_tests}
use Rattle.std.proofs.lemmas.Cmp.{tied_itself}
use Rattle.std.proofs.lemmas.Int.{fits_signed_from_abs, unsigned_abs-mul}
use Rattle.std.proofs.lemmas.List.{append-nil, map-append, take-append-drop, take_more}
use Rattle.std.specs.Int.{w128}
use Rattle.std.specs.declared.cmp.Ordering.{Ordering}
use Rattle.std.specs.declared.cmp.Ordering.TheVariants.{Less, Equal, Greater}
use Rattle.spf_term.specs.Normal.{IsNormal, by_order, normal_atom, normal_mono}
use Rattle.spf_term.specs.NumberRule.{excess}
use Rattle.spf_term.specs.Order.{atom_cmp}
use Rattle.spf_term.specs.Substitution.{is_variable, scaled, substituted_atom}
use Rattle.spf_term.specs.Wide.{load, load_of, plain_mono}
use Rattle.spf_term.specs.declared.term.Atom.{Atom, Var, Param, App}
use Rattle.spf_term.specs.declared.term.Mono.{Mono}
use Rattle.spf_term.specs.declared.term.Term.{Term, out-Term}
use Rattle.spf_term.specs.declared.wide.WideMono.{WideMono}
use Rattle.spf_term.proofs.Collected.{abs_sum, load_append}
use Rattle.spf_term.proofs.NormalForms.{normal_list}
use Rattle.spf_term.proofs.OrderLaws.{atoms_total}
use Rattle.spf_term.proofs.Rule.{AreSmall, IsSmallMono, few_monos, one_load, small_constant, small_monos}
use Rattle.spf_term.proofs.Settled.{once, settled_monos}
use Rattle.spf_term.proofs.Sizes.{times_within}
use Rattle.spf_term.proofs.Substituted.{constant_of, constants, part, parts}

variable_is : (var : ℕ) (atom : Atom) → is_variable var atom ≡ true → atom ≡ Var var
variable_is var (Var number) is = let same : number ≡ var = grind (arith, nat_tests) in ap Var same
variable_is var (Param number) is = cc
variable_is var (App fun arg) is = cc

load_take : (atom : Atom) (index : ℕ) (monos : List Mono) → load atom (take index monos) ≤ load atom monos
load_take atom index monos =
    let split = sym (load_append atom (take index monos) (drop index monos)) ∙ ap (load atom) (take-append-drop index monos) in
    omega (arith, split)

scaled_by : (order : Ordering) (factor times coef more all : ℕ) → times ≡ factor * coef → all ≡ factor * more → by_order order 0 times 0 + all ≡ factor * (by_order order 0 coef 0 + more)
scaled_by Less factor times coef more all first rest = zero-add all ∙ rest ∙ ap (λ (of : ℕ). factor * of) (sym (zero-add more))
scaled_by Equal factor times coef more all first rest = (λ i. first i + rest i) ∙ sym (mul-add factor coef more)
scaled_by Greater factor times coef more all first rest = zero-add all ∙ rest ∙ ap (λ (of : ℕ). factor * of) (sym (zero-add more))

scaled_load : (atom : Atom) (factor : ℤ) (monos : List Mono) → load atom (map normal_mono (scaled factor monos)) ≡ unsigned_abs factor * load atom (map normal_mono monos)
scaled_load atom factor [] = omega arith
scaled_load atom factor (mono ∷ monos) = scaled_by (atom_cmp atom (normal_atom mono.atom)) (unsigned_abs factor) (unsigned_abs (factor *ℤ mono.coef)) (unsigned_abs mono.coef) (load atom (map normal_mono monos)) _ (unsigned_abs-mul factor mono.coef) (scaled_load atom factor monos)

module _ (var : ℕ) (by : Term) where
  -- ---- one more

  parts_append : (a b : List Mono) → parts var by (a ++ b) ≡ parts var by a ++ parts var by b
  parts_append [] b = refl
  parts_append (mono ∷ monos) b = ap (λ more. part var by mono ++ more) (parts_append monos b) ∙ sym (append_assoc (part var by mono) (parts var by monos) (parts var by b))

  constants_append : (a b : List Mono) → constants var by (a ++ b) ≡ constants var by a +ℤ constants var by b
  constants_append [] b = sym (+ℤ_idl (constants var by b))
  constants_append (mono ∷ monos) b = ap (λ (more : ℤ). constant_of var by mono +ℤ more) (constants_append monos b) ∙ sym (+ℤ_assoc (constant_of var by mono) (constants var by monos) (constants var by b))

  module _ (monos : List Mono) (index : ℕ) (mono : Mono) (inside : index < length monos) (at : mono ≡ get_or monos index mono) where
    taken : take (index + 1) monos ≡ take index monos ++ mono ∷ []
    taken = take_more monos index mono inside ∙ ap (λ (last : Mono). take index monos ++ last ∷ []) (sym at)

    more_parts : parts var by (take (index + 1) monos) ≡ parts var by (take index monos) ++ part var by mono
    more_parts = ap (parts var by) taken ∙ parts_append (take index monos) (mono ∷ []) ∙ ap (λ more. parts var by (take index monos) ++ more) (append-nil (part var by mono))

    more_constants : constants var by (take (index + 1) monos) ≡ constants var by (take index monos) +ℤ constant_of var by mono
    more_constants = ap (constants var by) taken ∙ constants_append (take index monos) (mono ∷ []) ∙ ap (λ (more : ℤ). constants var by (take index monos) +ℤ more) (+ℤ_idr (constant_of var by mono))

    -- with the monomials that come in place of it
    pub gone_on : (before made : List WideMono) (piece : List Mono) → part var by mono ≡ piece → map plain_mono before ≡ map normal_mono (parts var by (take index monos)) → map plain_mono made ≡ map plain_mono before ++ map normal_mono piece → map plain_mono made ≡ map normal_mono (parts var by (take (index + 1) monos))
    gone_on before made piece is start more =
        more ∙ (λ i. start i ++ map normal_mono (sym is i)) ∙ sym (map-append normal_mono (parts var by (take index monos)) (part var by mono)) ∙ ap (map normal_mono) (sym more_parts)

    pub constant_more : (first before added : ℤ) → constant_of var by mono ≡ added → before ≡ first +ℤ constants var by (take index monos) → before +ℤ added ≡ first +ℤ constants var by (take (index + 1) monos)
    constant_more first before added is start =
        (λ i. start i +ℤ sym is i) ∙ +ℤ_assoc first (constants var by (take index monos)) (constant_of var by mono) ∙ ap (λ (more : ℤ). first +ℤ more) (sym more_constants)

    pub constant_same : (first before : ℤ) → is_variable var mono.atom ≡ false → before ≡ first +ℤ constants var by (take index monos) → before ≡ first +ℤ constants var by (take (index + 1) monos)
    constant_same first before not start = sym (+ℤ_idr before) ∙ constant_more first before (pos 0) (ap (λ test. if test then mono.coef *ℤ (out-Term by).constant else pos 0) not) start

  -- ---- sizes

  module _ (normal_by : IsNormal by) (keeps_by : excess by ≡ None) where
    constant_by : (test : Bool) (mono : Mono) → is_variable var mono.atom ≡ test → unsigned_abs (if test then mono.coef *ℤ (out-Term by).constant else pos 0) ≤ load_of (Var var) mono * 2 ^ 62
    constant_by true mono is =
        let here : load_of (Var var) mono ≡ unsigned_abs mono.coef = ap (λ order. by_order order 0 (unsigned_abs mono.coef) 0) (ap (atom_cmp (Var var)) (variable_is var mono.atom is) ∙ tied_itself atoms_total (Var var)) in
        subst (λ of. unsigned_abs (mono.coef *ℤ (out-Term by).constant) ≤ of * 2 ^ 62) (sym here) (times_within {a = unsigned_abs mono.coef} {b = 2 ^ 62} mono.coef (out-Term by).constant (omega arith) (small_constant by keeps_by))
    constant_by false mono is = omega arith

    constants_within : (monos : List Mono) → unsigned_abs (constants var by monos) ≤ load (Var var) monos * 2 ^ 62
    constants_within [] = omega arith
    constants_within (mono ∷ monos) =
        let first = constant_by (is_variable var mono.atom) mono refl in
        let more = constants_within monos in
        let sum = abs_sum (constant_of var by mono) (constants var by monos) in
        omega (arith, first, more, sum)

    by_once : (atom : Atom) → load atom (map normal_mono (out-Term by).monos) ≤ 2 ^ 62
    by_once atom = subst (λ of. load atom of ≤ 2 ^ 62) (sym (settled_monos by normal_by)) (once atom (out-Term by).monos (normal_list by normal_by) (small_monos by keeps_by))

    part_load : (test : Bool) (atom : Atom) (mono : Mono) → is_variable var mono.atom ≡ test → IsSmallMono mono → load atom (map normal_mono (if test then scaled mono.coef (out-Term by).monos else record { coef = mono.coef; atom = substituted_atom var by mono.atom } ∷ [])) ≤ 2 ^ 62 + load_of (Var var) mono * 2 ^ 62
    part_load true atom mono is small =
        let here : load_of (Var var) mono ≡ unsigned_abs mono.coef = ap (λ order. by_order order 0 (unsigned_abs mono.coef) 0) (ap (atom_cmp (Var var)) (variable_is var mono.atom is) ∙ tied_itself atoms_total (Var var)) in
        let all = scaled_load atom mono.coef (out-Term by).monos in
        let most = mul-le-mul_left (unsigned_abs mono.coef) (by_once atom) in
        omega (arith, here, all, most)
    part_load false atom mono is small =
        let one = one_load (atom_cmp atom (normal_atom (substituted_atom var by mono.atom))) mono.coef small.0 in
        omega (arith, one)

    parts_load : (atom : Atom) (monos : List Mono) → AreSmall monos → load atom (map normal_mono (parts var by monos)) ≤ length monos * 2 ^ 62 + load (Var var) monos * 2 ^ 62
    parts_load atom [] small = omega arith
    parts_load atom (mono ∷ monos) small =
        let split = ap (load atom) (map-append normal_mono (part var by mono) (parts var by monos)) ∙ load_append atom (map normal_mono (part var by mono)) (map normal_mono (parts var by monos)) in
        let first = part_load (is_variable var mono.atom) atom mono refl small.0 in
        let more = parts_load atom monos small.1 in
        omega (arith, split, first, more)

    module _ (term : Term) (normal : IsNormal term) (keeps : excess term ≡ None) where
      one_variable : load (Var var) (out-Term term).monos ≤ 2 ^ 62
      one_variable = once (Var var) (out-Term term).monos (normal_list term normal) (small_monos term keeps)

      pub constant_small : (monos : List Mono) → monos ≡ (out-Term term).monos → (index : ℕ) → unsigned_abs ((out-Term term).constant +ℤ constants var by (take index monos)) < 2 ^ 127
      constant_small monos are index =
          let sum = abs_sum (out-Term term).constant (constants var by (take index monos)) in
          let first = small_constant term keeps in
          let more = constants_within (take index monos) in
          let some = load_take (Var var) index monos in
          let all = ap (load (Var var)) are in
          let most = one_variable in
          omega (arith, sum, first, more, some, all, most)

      pub constant_fits : (monos : List Mono) → monos ≡ (out-Term term).monos → (index : ℕ) → FitsSigned w128 ((out-Term term).constant +ℤ constants var by (take index monos))
      constant_fits monos are index = fits_signed_from_abs w128 _ (constant_small monos are index)

      pub parts_fit : (made : List Mono) → made ≡ map normal_mono (parts var by (out-Term term).monos) → (atom : Atom) → load atom made < 2 ^ 127
      parts_fit made are atom =
          let same = ap (load atom) are in
          let whole = parts_load atom (out-Term term).monos (small_monos term keeps) in
          let few = few_monos term keeps in
          let most = one_variable in
          omega (arith, same, whole, few, most)
