use Rattle.std.proofs.Common.{[], map, ap, sym, ◌∙◌, rules, w64, arith, unsigned_abs}
use Rattle.std.proofs.lemmas.Int.{to_z-of_z}
use Rattle.std.proofs.lemmas.List.{take_all}
use Rattle.std.specs.Int.{w128}
use Rattle.spf_term.specs.Normal.{all_added, normal_atom, normal_mono}
use Rattle.spf_term.specs.Wide.{plain_mono}
use Rattle.spf_term.specs.declared.term.Term.{out-Term, the_lemmas}
use Rattle.spf_term.proofs.NormalForms.{each_normal, normal_term_is}
use Rattle.spf_term.proofs.Turning.{made_opposites}
use Rattle.spf_term.proofs.Rule.{fits_with, keeps_at, small_constant}
use Rattle.spf_term.proofs.Wides.{normal_atoms, one_more, plain_made, sum_of}
use Rattle.spf_term.proofs.normals.+normal.Goals as goal

pub normal_wide-normal_wide_atom-requires : goal.normal_wide-normal_wide_atom-requires
normal_wide-normal_wide_atom-requires t c =
    let keeps = keeps_at c.args.term.now c.requires c.as_slice-mono-items.result.now c.as_slice-mono-items.ensures c.loop-mono.mono-index c.mono-item.result c.loop-mono-test.true c.mono-item.is in
    search (rules, the_lemmas)

pub normal_wide-loop-mono-preserved : goal.normal_wide-loop-mono-preserved
normal_wide-loop-mono-preserved t c =
    let coef = to_z-of_z w128 c.from.result (search rules) ∙ c.from.ensures ∙ to_z-of_z w64 c.mono-item.result.coef (search rules) in
    one_more [] normal_mono c.as_slice-mono-items.result.now c.loop-mono.mono-index c.mono-item.result c.loop-mono-test.true c.mono-item.is c.loop-mono.monos.items c.push.new.self.items _ c.in_ok-push.ensures.items
    (λ i. record { coef = coef i; atom = c.in_ok-atom.ensures i }) c.loop-mono.invariant

pub normal_wide-collected-requires-clause-normal : goal.normal_wide-collected-requires-clause-normal
normal_wide-collected-requires-clause-normal t c =
    let all = take_all c.loop-mono.mono-index c.as_slice-mono-items.result.now c.loop-mono-test.false ∙ c.as_slice-mono-items.ensures in
    normal_atoms c.loop-mono.monos.items _ (c.loop-mono.invariant ∙ ap (map normal_mono) all) (each_normal (out-Term c.args.term.now).monos)

pub normal_wide-collected-requires-clause-fits : goal.normal_wide-collected-requires-clause-fits
normal_wide-collected-requires-clause-fits t c =
    let all = take_all c.loop-mono.mono-index c.as_slice-mono-items.result.now c.loop-mono-test.false ∙ c.as_slice-mono-items.ensures in
    fits_with normal_atom c.args.term.now c.requires (map plain_mono c.loop-mono.monos.items) (c.loop-mono.invariant ∙ ap (map normal_mono) all)

pub normal_wide-returns-clause-form : goal.normal_wide-returns-clause-form
normal_wide-returns-clause-form t c =
    let all = take_all c.loop-mono.mono-index c.as_slice-mono-items.result.now c.loop-mono-test.false ∙ c.as_slice-mono-items.ensures in
    let constant = to_z-of_z w128 c.from-2.result (search rules) ∙ c.from-2.ensures ∙ to_z-of_z w64 (out-Term c.args.term.now).constant (search rules) in
    let monos = c.in_ok-collected.ensures.form ∙ ap all_added (c.loop-mono.invariant ∙ ap (map normal_mono) all) in
    plain_made c.in_ok-collected.field-0 _ ∙ (λ i. sum_of (monos i) (constant i)) ∙ sym (normal_term_is c.args.term.now)

pub normal_wide-returns-clause-opposites : goal.normal_wide-returns-clause-opposites
normal_wide-returns-clause-opposites t c =
    let constant = to_z-of_z w128 c.from-2.result (search rules) ∙ c.from-2.ensures ∙ to_z-of_z w64 (out-Term c.args.term.now).constant (search rules) in
    let small = small_constant c.args.term.now c.requires in
    let same = ap unsigned_abs constant in
    made_opposites c.in_ok-collected.field-0 _ c.in_ok-collected.ensures.fits (omega (arith, small, same))
