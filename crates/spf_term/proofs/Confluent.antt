-- Substitution in normal terms leads to the same normal form.
use Rattle.std.proofs.Common.{◌≡◌, ℕ, ℤ, pos, ◌+ℤ◌, ◌*ℤ◌, List, [], ◌∷◌, Bool, true, false, if◌then◌else◌, nat_eq, map, refl, ap, sym, ◌∙◌}
use Rattle.std.proofs.Math.IntN.{*ℤ-zero, +ℤ_idr}
use Rattle.spf_term.specs.Normal.{all_added, normal, normal_atom, normal_mono}
use Rattle.spf_term.specs.Substitution.{is_variable, scaled, substituted, substituted_atom}
use Rattle.spf_term.specs.declared.term.Atom.{Atom, Var, Param, App}
use Rattle.spf_term.specs.declared.term.Mono.{Mono}
use Rattle.spf_term.specs.declared.term.Term.{Term, Term', out-Term, Row_of-Mono, end_of-Mono, more_of-Mono, items-the_row-Mono, items_shown-the_row-Mono-0}
use Rattle.spf_term.proofs.NormalForms.{each_normal, normal_atom_is, normal_term_is}
use Rattle.spf_term.proofs.Settled.{settled_atom}
use Rattle.spf_term.proofs.Substituted.{constants, normal_substituted_is, part, parts, scaled_weighed}
use Rattle.spf_term.proofs.Unique.{added_up, all_normal, all_weighed}
use Rattle.spf_term.proofs.Weights.{weighed, weighed_append}
use Rattle.spf_term.proofs.Wides.{out_constant, out_monos, sum_of}

weighed_same : (a b : Atom → ℤ) → ((atom : Atom) → a atom ≡ b atom) → (monos : List Mono) → weighed a monos ≡ weighed b monos
weighed_same a b same [] = refl
weighed_same a b same (mono ∷ monos) = λ i. (mono.coef *ℤ same mono.atom i) +ℤ weighed_same a b same monos i

-- the weight of the normal form of an atom
abbrev of_normal : (Atom → ℤ) → Atom → ℤ
of_normal weight atom = weight (normal_atom atom)

pub weighed_normal : (weight : Atom → ℤ) (monos : List Mono) → weighed weight (map normal_mono monos) ≡ weighed (of_normal weight) monos
weighed_normal weight [] = refl
weighed_normal weight (mono ∷ monos) = ap (λ (more : ℤ). (mono.coef *ℤ weight (normal_atom mono.atom)) +ℤ more) (weighed_normal weight monos)

-- as the monomials of a normal form weigh
all_normal_weighed : (weight : Atom → ℤ) (monos : List Mono) → weighed weight (all_added (map normal_mono monos)) ≡ weighed (of_normal weight) monos
all_normal_weighed weight monos = all_weighed weight (map normal_mono monos) ∙ weighed_normal weight monos

twice_normal : (weight : Atom → ℤ) (monos : List Mono) → weighed (of_normal weight) (all_added (map normal_mono monos)) ≡ weighed (of_normal weight) monos
twice_normal weight monos =
    all_normal_weighed (of_normal weight) monos ∙ weighed_same (of_normal (of_normal weight)) (of_normal weight) (λ atom. ap weight (settled_atom (normal_atom atom) (normal_atom_is atom))) monos

pub normal_monos_are : (term : Term) → (out-Term (normal term)).monos ≡ all_added (map normal_mono (out-Term term).monos)
normal_monos_are term = ap (λ of. (out-Term of).monos) (normal_term_is term) ∙ out_monos (all_added (map normal_mono (out-Term term).monos)) (out-Term term).constant

pub normal_constant_is : (term : Term) → (out-Term (normal term)).constant ≡ (out-Term term).constant
normal_constant_is term = ap (λ of. (out-Term of).constant) (normal_term_is term) ∙ out_constant (all_added (map normal_mono (out-Term term).monos)) (out-Term term).constant

module _ (var : ℕ) where
  -- what an atom weighs by what comes in place of it
  module _ (by : Term) where
    abbrev moved : (Atom → ℤ) → Atom → ℤ
    moved weight atom = if is_variable var atom then weighed (of_normal weight) (out-Term by).monos else of_normal weight (substituted_atom var by atom)

    abbrev moved_constant : Atom → ℤ
    moved_constant atom = if is_variable var atom then (out-Term by).constant else pos 0

    part_by : (weight : Atom → ℤ) (test : Bool) (coef : ℤ) (atom : Atom) → weighed (of_normal weight) (if test then scaled coef (out-Term by).monos else record { coef = coef; atom = substituted_atom var by atom } ∷ []) ≡ coef *ℤ (if test then weighed (of_normal weight) (out-Term by).monos else of_normal weight (substituted_atom var by atom))
    part_by weight true coef atom = scaled_weighed (of_normal weight) coef (out-Term by).monos
    part_by weight false coef atom = +ℤ_idr (coef *ℤ of_normal weight (substituted_atom var by atom))

    parts_weighed : (weight : Atom → ℤ) (monos : List Mono) → weighed (of_normal weight) (parts var by monos) ≡ weighed (moved weight) monos
    parts_weighed weight [] = refl
    parts_weighed weight (mono ∷ monos) = weighed_append (of_normal weight) (part var by mono) (parts var by monos) ∙ (λ i. part_by weight (is_variable var mono.atom) mono.coef mono.atom i +ℤ parts_weighed weight monos i)

    constant_by : (test : Bool) (coef : ℤ) → (if test then coef *ℤ (out-Term by).constant else pos 0) ≡ coef *ℤ (if test then (out-Term by).constant else pos 0)
    constant_by true coef = refl
    constant_by false coef = sym (*ℤ-zero coef)

    constants_weighed : (monos : List Mono) → constants var by monos ≡ weighed moved_constant monos
    constants_weighed [] = refl
    constants_weighed (mono ∷ monos) = λ i. constant_by (is_variable var mono.atom) mono.coef i +ℤ constants_weighed monos i

  module _ (by : Term) where
    same_constant : (atom : Atom) → moved_constant (normal by) (normal_atom atom) ≡ moved_constant by atom
    same_constant (Var number) = ap (λ (of : ℤ). if nat_eq number var then of else pos 0) (normal_constant_is by)
    same_constant (Param number) = refl
    same_constant (App fun arg) = refl

    confluent_by : (term : Term) → ((weight : Atom → ℤ) → weighed (λ atom. moved (normal by) weight (normal_atom atom)) (out-Term term).monos ≡ weighed (moved by weight) (out-Term term).monos) → normal (substituted var (normal by) (normal term)) ≡ normal (substituted var by term)
    confluent_by term same =
        let monos = (out-Term term).monos in
        let before = parts var (normal by) (out-Term (normal term)).monos in
        let after = parts var by monos in
        let weighs : (weight : Atom → ℤ) → weighed weight (all_added (map normal_mono before)) ≡ weighed weight (map normal_mono after) = λ weight.
        all_normal_weighed weight before ∙ parts_weighed (normal by) weight (out-Term (normal term)).monos ∙ ap (weighed (moved (normal by) weight)) (normal_monos_are term)
        ∙ all_normal_weighed (moved (normal by) weight) monos ∙ same weight ∙ sym (parts_weighed by weight monos) ∙ sym (weighed_normal weight after) in
        let constant : constants var (normal by) (out-Term (normal term)).monos ≡ constants var by monos =
        constants_weighed (normal by) (out-Term (normal term)).monos ∙ ap (weighed (moved_constant (normal by))) (normal_monos_are term) ∙ all_normal_weighed (moved_constant (normal by)) monos
        ∙ weighed_same (of_normal (moved_constant (normal by))) (moved_constant by) same_constant monos ∙ sym (constants_weighed by monos) in
        normal_substituted_is var (normal by) (normal term)
        ∙ (λ i. sum_of (added_up (all_added (map normal_mono before)) (map normal_mono after) (all_normal (map normal_mono before) (each_normal before)) (each_normal after) weighs i) (normal_constant_is term i +ℤ constant i))
        ∙ sym (normal_substituted_is var by term)

    mutual
      unfolding out-Term denote.Hole.Carrier.out

      same_atom : (weight : Atom → ℤ) (atom : Atom) → moved (normal by) weight (normal_atom atom) ≡ moved by weight atom
      same_atom weight (Var number) =
          ap (λ (of : ℤ). if nat_eq number var then of else weight (Var number)) (ap (weighed (of_normal weight)) (normal_monos_are by) ∙ twice_normal weight (out-Term by).monos)
      same_atom weight (Param number) = refl
      same_atom weight (App fun arg) = ap (λ of. weight (App fun of)) (confluent arg)

      same_row : {n : _} (weight : Atom → ℤ) (row : Row_of-Mono n) → weighed (λ atom. moved (normal by) weight (normal_atom atom)) (items-the_row-Mono n row) ≡ weighed (moved by weight) (items-the_row-Mono n row)
      same_row weight end_of-Mono = refl
      same_row weight (more_of-Mono coef atom others) = λ i. (coef *ℤ same_atom weight atom i) +ℤ same_row weight others i

      pub confluent : (term : Term) → normal (substituted var (normal by) (normal term)) ≡ normal (substituted var by term)
      confluent (Term' shape monos constant) =
          confluent_by (Term' shape monos constant)
          (λ weight.
          ap (weighed (λ atom. moved (normal by) weight (normal_atom atom))) (items_shown-the_row-Mono-0 shape monos) ∙ same_row weight monos ∙ ap (weighed (moved by weight)) (sym (items_shown-the_row-Mono-0 shape monos)))
