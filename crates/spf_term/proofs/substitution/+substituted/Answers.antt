use Rattle.std.proofs.Common.{[], ◌∷◌, ◌++◌, ◌+◌, ◌<◌, ◌^◌, unsigned_abs, ◌+ℤ◌, ◌*ℤ◌, if◌then◌else◌, ℤ, pos, map, ap, sym, ◌∙◌, subst, rules, w64, to_z, FitsSigned}
use Rattle.std.proofs.lemmas.Int.{to_z-of_z}
use Rattle.std.proofs.lemmas.List.{map-append, take_all}
use Rattle.std.specs.Int.{w128}
use Rattle.spf_term.specs.Normal.{all_added, normal_mono}
use Rattle.spf_term.specs.Substitution.{scaled, substituted_atom}
use Rattle.spf_term.specs.Wide.{plain_mono}
use Rattle.spf_term.specs.declared.term.Term.{out-Term, the_lemmas}
use Rattle.spf_term.proofs.NormalForms.{each_normal}
use Rattle.spf_term.proofs.Turning.{made_opposites}
use Rattle.spf_term.proofs.Parts.{constant_fits, constant_more, constant_small, constant_same, gone_on, parts_fit}
use Rattle.spf_term.proofs.Rule.{keeps_at}
use Rattle.spf_term.proofs.Settled.{normal_at}
use Rattle.spf_term.proofs.Substituted.{constants, normal_substituted_is, parts}
use Rattle.spf_term.proofs.Wides.{normal_atoms, plain_made, sum_of}
use Rattle.spf_term.proofs.substitution.+substituted.Goals as goal
use Rattle.spf_term.proofs.substitution.+substituted.Goals.{substituted_wide-then-is_variable+in_ok-push_scaled, substituted_wide-else-is_variable+in_ok-atom+in_ok-push}

pub substituted_wide-overflow_add-constant : goal.substituted_wide-overflow_add-constant
substituted_wide-overflow_add-constant t c =
    let is = sym c.is_variable.ensures ∙ c.if-is_variable.true in
    let left = to_z-of_z w64 c.mono-item.result.coef (search rules) in
    let right = to_z-of_z w64 (out-Term c.args.by.now).constant (search rules) in
    let added = to_z-of_z w128 c.product.result (search rules) ∙ c.product.ensures ∙ (λ i. left i *ℤ right i) in
    let sum =
    ap (λ (of : ℤ). to_z w128 c.loop-mono.constant-bits +ℤ of) added
    ∙ constant_more c.args.var c.args.by.now c.as_slice-mono-items.result.now c.loop-mono.mono-index c.mono-item.result c.loop-mono-test.true c.mono-item.is (out-Term c.args.term.now).constant (to_z w128 c.loop-mono.constant-bits) (c.mono-item.result.coef *ℤ (out-Term c.args.by.now).constant)
    (ap (λ test. if test then c.mono-item.result.coef *ℤ (out-Term c.args.by.now).constant else pos 0) is) c.loop-mono.invariant.sum in
    subst (FitsSigned w128) (sym sum) (constant_fits c.args.var c.args.by.now c.requires.normal_by c.requires.keeps_by c.args.term.now c.requires.normal c.requires.keeps c.as_slice-mono-items.result.now c.as_slice-mono-items.ensures (c.loop-mono.mono-index + 1))

pub substituted_wide-substituted_wide_atom-requires : goal.substituted_wide-substituted_wide_atom-requires
substituted_wide-substituted_wide_atom-requires t c =
    let keeps = keeps_at c.args.term.now c.requires.keeps c.as_slice-mono-items.result.now c.as_slice-mono-items.ensures c.loop-mono.mono-index c.mono-item.result c.loop-mono-test.true c.mono-item.is in
    let normal = normal_at c.args.term.now c.requires.normal c.as_slice-mono-items.result.now c.as_slice-mono-items.ensures c.loop-mono.mono-index c.mono-item.result c.loop-mono-test.true c.mono-item.is in
    search (rules, the_lemmas)

pub substituted_wide-loop-mono-preserved : goal.substituted_wide-loop-mono-preserved
substituted_wide-loop-mono-preserved t c = elim c.if-is_variable.branch [
  | substituted_wide-then-is_variable+in_ok-push_scaled w ↦
      let is = sym c.is_variable.ensures ∙ w.if-is_variable.true in
      let left = to_z-of_z w64 c.mono-item.result.coef (search rules) in
      let right = to_z-of_z w64 (out-Term c.args.by.now).constant (search rules) in
      let added = to_z-of_z w128 w.product.result (search rules) ∙ w.product.ensures ∙ (λ i. left i *ℤ right i) in
      let sum =
      ap (λ (of : ℤ). to_z w128 c.loop-mono.constant-bits +ℤ of) added
      ∙ constant_more c.args.var c.args.by.now c.as_slice-mono-items.result.now c.loop-mono.mono-index c.mono-item.result c.loop-mono-test.true c.mono-item.is (out-Term c.args.term.now).constant (to_z w128 c.loop-mono.constant-bits) (c.mono-item.result.coef *ℤ (out-Term c.args.by.now).constant)
      (ap (λ test. if test then c.mono-item.result.coef *ℤ (out-Term c.args.by.now).constant else pos 0) is) c.loop-mono.invariant.sum in
      let fits = subst (FitsSigned w128) (sym sum) (constant_fits c.args.var c.args.by.now c.requires.normal_by c.requires.keeps_by c.args.term.now c.requires.normal c.requires.keeps c.as_slice-mono-items.result.now c.as_slice-mono-items.ensures (c.loop-mono.mono-index + 1)) in
      let piece = ap (λ test. if test then scaled c.mono-item.result.coef (out-Term c.args.by.now).monos else record { coef = c.mono-item.result.coef; atom = substituted_atom c.args.var c.args.by.now c.mono-item.result.atom } ∷ []) is
      ∙ ap (λ (of : ℤ). scaled of (out-Term c.args.by.now).monos) (sym left) in
      record {
        made =
            ap (λ of. map plain_mono of.items) w.monos-is
            ∙ gone_on c.args.var c.args.by.now c.as_slice-mono-items.result.now c.loop-mono.mono-index c.mono-item.result c.loop-mono-test.true c.mono-item.is c.loop-mono.monos.items w.push_scaled.new.monos.items _ piece c.loop-mono.invariant.made w.in_ok-push_scaled.ensures;
        sum = w.constant-is ∙ to_z-of_z w128 _ fits ∙ sum;
      }
  | substituted_wide-else-is_variable+in_ok-atom+in_ok-push w ↦
      let is = sym c.is_variable.ensures ∙ w.if-is_variable.false in
      let coef = to_z-of_z w128 w.from.result (search rules) ∙ w.from.ensures ∙ to_z-of_z w64 c.mono-item.result.coef (search rules) in
      let piece = ap (λ test. if test then scaled c.mono-item.result.coef (out-Term c.args.by.now).monos else record { coef = c.mono-item.result.coef; atom = substituted_atom c.args.var c.args.by.now c.mono-item.result.atom } ∷ []) is in
      record {
        made =
            ap (λ of. map plain_mono of.items) w.monos-is
            ∙ gone_on c.args.var c.args.by.now c.as_slice-mono-items.result.now c.loop-mono.mono-index c.mono-item.result c.loop-mono-test.true c.mono-item.is c.loop-mono.monos.items w.push.new.self.items _ piece c.loop-mono.invariant.made
            (ap (map plain_mono) w.in_ok-push.ensures.items ∙ map-append plain_mono c.loop-mono.monos.items _ ∙ (λ i. map plain_mono c.loop-mono.monos.items ++ record { coef = coef i; atom = w.in_ok-atom.ensures i } ∷ []));
        sum = w.constant-is ∙ constant_same c.args.var c.args.by.now c.as_slice-mono-items.result.now c.loop-mono.mono-index c.mono-item.result c.loop-mono-test.true c.mono-item.is (out-Term c.args.term.now).constant (to_z w128 c.loop-mono.constant-bits) is c.loop-mono.invariant.sum;
      }
]

pub substituted_wide-collected-requires-clause-normal : goal.substituted_wide-collected-requires-clause-normal
substituted_wide-collected-requires-clause-normal t c =
    let all = take_all c.loop-mono.mono-index c.as_slice-mono-items.result.now c.loop-mono-test.false ∙ c.as_slice-mono-items.ensures in
    normal_atoms c.loop-mono.monos.items _ (c.loop-mono.invariant.made ∙ ap (λ of. map normal_mono (parts c.args.var c.args.by.now of)) all) (each_normal (parts c.args.var c.args.by.now (out-Term c.args.term.now).monos))

pub substituted_wide-collected-requires-clause-fits : goal.substituted_wide-collected-requires-clause-fits
substituted_wide-collected-requires-clause-fits t c =
    let all = take_all c.loop-mono.mono-index c.as_slice-mono-items.result.now c.loop-mono-test.false ∙ c.as_slice-mono-items.ensures in
    parts_fit c.args.var c.args.by.now c.requires.normal_by c.requires.keeps_by c.args.term.now c.requires.normal c.requires.keeps (map plain_mono c.loop-mono.monos.items)
    (c.loop-mono.invariant.made ∙ ap (λ of. map normal_mono (parts c.args.var c.args.by.now of)) all)

pub substituted_wide-returns-clause-form : goal.substituted_wide-returns-clause-form
substituted_wide-returns-clause-form t c =
    let all = take_all c.loop-mono.mono-index c.as_slice-mono-items.result.now c.loop-mono-test.false ∙ c.as_slice-mono-items.ensures in
    let monos = c.in_ok-collected.ensures.form ∙ ap all_added (c.loop-mono.invariant.made ∙ ap (λ of. map normal_mono (parts c.args.var c.args.by.now of)) all) in
    let constant = c.loop-mono.invariant.sum ∙ ap (λ of. (out-Term c.args.term.now).constant +ℤ constants c.args.var c.args.by.now of) all in
    plain_made c.in_ok-collected.field-0 _ ∙ (λ i. sum_of (monos i) (constant i)) ∙ sym (normal_substituted_is c.args.var c.args.by.now c.args.term.now)

pub substituted_wide-returns-clause-opposites : goal.substituted_wide-returns-clause-opposites
substituted_wide-returns-clause-opposites t c =
    made_opposites c.in_ok-collected.field-0 _ c.in_ok-collected.ensures.fits
    (subst (λ number. unsigned_abs number < 2 ^ 127) (sym c.loop-mono.invariant.sum)
    (constant_small c.args.var c.args.by.now c.requires.normal_by c.requires.keeps_by c.args.term.now c.requires.normal c.requires.keeps c.as_slice-mono-items.result.now c.as_slice-mono-items.ensures c.loop-mono.mono-index))
