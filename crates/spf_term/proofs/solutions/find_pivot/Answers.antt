use Rattle.std.proofs.Common.{[], ap, sym, ◌∙◌, rules, w64}
use Rattle.std.proofs.lemmas.Int.{to_z-of_z}
use Rattle.spf_term.specs.Solution.{solution_among}
use Rattle.spf_term.specs.declared.term.Term.{out-Term}
use Rattle.spf_term.proofs.Pivots.{found_here, none_left, not_here}
use Rattle.spf_term.proofs.solutions.find_pivot.Goals as goal

pub loop-place-init : goal.loop-place-init
loop-place-init c = ap (solution_among c.args.low c.args.high (out-Term c.args.term.now).constant []) c.as_slice-monos.ensures

pub returns-in-Some : goal.returns-in-Some
returns-in-Some c =
    found_here c.args.low c.args.high c.args.term.now c.as_slice-monos.result.now c.as_slice-monos.ensures c.loop-place.place c.index-monos-place.result c.loop-place-test.true c.index-monos-place.is
    c.in-Some.var _ (to_z-of_z w64 c.index-monos-place.result.coef (search rules)) (sym c.in-Some.ensures) c.loop-place.invariant

pub loop-place-preserved : goal.loop-place-preserved
loop-place-preserved c =
    not_here c.args.low c.args.high c.args.term.now c.as_slice-monos.result.now c.as_slice-monos.ensures c.loop-place.place c.index-monos-place.result c.loop-place-test.true c.index-monos-place.is
    (sym c.solved_variable.ensures ∙ c.in_default.is) c.loop-place.invariant

pub returns : goal.returns
returns c = none_left c.args.low c.args.high c.args.term.now c.as_slice-monos.result.now c.as_slice-monos.ensures c.loop-place.place c.loop-place-test.false c.loop-place.invariant
