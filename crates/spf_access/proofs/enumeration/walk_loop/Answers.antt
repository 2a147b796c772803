use Rattle.std.proofs.Common.{◌≡◌, ℕ, ◌^◌, ℤ, pos, ◌+ℤ◌, ◌∷◌, [], ap, arith, rules, subst, sym, w64, ◌∙◌}
use Rattle.std.proofs.lemmas.Int.{to_z-of_z}
use Rattle.std.proofs.lemmas.List.{length-map}
use Rattle.std.proofs.lemmas.Option.{slice_get_within}
use Rattle.std.proofs.lemmas.Result.{err_from_is_err_and}
use Rattle.spf_term.specs.Bounded.{AreWithin, IsWithin}
use Rattle.spf_space.specs.declared.unit.Unit.{Unit}
use Rattle.spf_store.specs.FirstFault.{first_fault}
use Rattle.spf_store.specs.Shaped.{loop_shape, loops_of}
use Rattle.spf_access.specs.Answer.{IsFault}
use Rattle.spf_access.specs.Progress.{Progress}
use Rattle.spf_access.specs.Units.{AmongUnits}
use Rattle.spf_access.proofs.Coming.{comes_fault, failed, few_closed, gone, next_loop, next_unit}
use Rattle.spf_access.proofs.Ranges.{iteration_is, iteration_within, variables_within}
use Rattle.spf_access.proofs.enumeration.walk_loop.Goals as goal

pub iteration_at-requires : goal.iteration_at-requires
iteration_at-requires c =
    let same = to_z-of_z w64 c.args.shape.now.lower (search rules) in
    subst (λ (z : ℤ). IsWithin (2 ^ 22) (z +ℤ pos c.loop-position.position)) (sym same)
    (iteration_within c.args.walk.now.env.now c.args.walk.now.tree.now c.args.loop_no c.args.shape.now c.loop-position.position c.requires.there c.requires.accepted c.loop-position-test.true)

pub walk_unit-requires-clause-there : goal.walk_unit-requires-clause-there
walk_unit-requires-clause-there c =
    let at = slice_get_within (loops_of c.args.walk.now.env.now c.args.walk.now.tree.now) c.args.loop_no c.args.shape.now c.requires.there in
    omega (arith, at, length-map c.args.walk.now.tree.now.loops (loop_shape c.args.walk.now.env.now))

pub walk_unit-requires-clause-iteration : goal.walk_unit-requires-clause-iteration
walk_unit-requires-clause-iteration c =
    let same = to_z-of_z w64 c.args.shape.now.lower (search rules) in
    to_z-of_z w64 c.iteration_at.result (search rules) ∙ c.iteration_at.ensures ∙ ap (λ (z : ℤ). z +ℤ pos c.loop-position.position) same
    ∙ iteration_is c.args.walk.now.env.now c.args.walk.now.tree.now c.args.loop_no c.args.shape.now c.loop-position.position c.requires.there

pub walk_unit-requires-clause-within : goal.walk_unit-requires-clause-within
walk_unit-requires-clause-within c =
    let same = to_z-of_z w64 c.args.shape.now.lower (search rules) in
    let is = to_z-of_z w64 c.iteration_at.result (search rules) ∙ c.iteration_at.ensures ∙ ap (λ (z : ℤ). z +ℤ pos c.loop-position.position) same in
    subst (λ (z : ℤ). AreWithin c.args.walk.now.env.now (z ∷ [])) (sym is)
    (variables_within c.args.walk.now.env.now c.args.walk.now.tree.now c.args.loop_no c.args.shape.now c.loop-position.position c.requires.there c.requires.accepted c.loop-position-test.true)

abbrev unit : ℕ → ℕ → Unit
unit loop_no position = record { step = 0; loop_no = loop_no; position = position }

pub walk_unit-requires-clause-few : goal.walk_unit-requires-clause-few
walk_unit-requires-clause-few c =
    let next = next_unit c.args.walk.now.env.now c.args.walk.now.tree.now c.args.loop_no c.args.shape.now c.requires.there c.loop-position.position c.loop-position-test.true in
    let among = subst (AmongUnits c.args.walk.now.env.now c.args.walk.now.tree.now c.loop-position.progress) next c.loop-position.invariant.units in
    few_closed c.args.walk.now.env.now c.args.walk.now.tree.now c.loop-position.progress _ _ among c.requires.few

pub returns-in_err-walk_unit : goal.returns-in_err-walk_unit
returns-in_err-walk_unit c =
    let env = c.args.walk.now.env.now in
    let tree = c.args.walk.now.tree.now in
    let next = next_unit env tree c.args.loop_no c.args.shape.now c.requires.there c.loop-position.position c.loop-position-test.true in
    let among = subst (AmongUnits env tree c.loop-position.progress) next c.loop-position.invariant.units in
    let why = c.in_err-walk_unit.field-0.0 in
    let fault = failed env tree c.loop-position.progress _ _ among why c.in_err-walk_unit.ensures in
    comes_fault env tree c.args.progress.now c.walk_unit.new.progress _ why c.from_residual.result (err_from_is_err_and c.from_residual.result c.from_residual.ensures.1)
    (subst (λ (steps : ℕ). IsFault (first_fault env tree steps) why) c.loop-position.invariant.steps fault)

pub loop-position-preserved : goal.loop-position-preserved
loop-position-preserved c =
    let env = c.args.walk.now.env.now in
    let tree = c.args.walk.now.tree.now in
    let next = next_unit env tree c.args.loop_no c.args.shape.now c.requires.there c.loop-position.position c.loop-position-test.true in
    let among = subst (AmongUnits env tree c.loop-position.progress) next c.loop-position.invariant.units in
    record {
      units = gone env tree c.loop-position.progress _ _ among c.walk_unit.new.progress c.in_ok-walk_unit.ensures.0 c.in_ok-walk_unit.ensures.1;
      steps = ap (λ (p : Progress). p.steps) c.in_ok-walk_unit.ensures.1 ∙ c.loop-position.invariant.steps;
    }

pub returns : goal.returns
returns c =
    let past : c.loop-position.position ≡ c.args.shape.now.extent = omega arith in
    let next = next_loop c.args.walk.now.env.now c.args.walk.now.tree.now c.args.loop_no c.args.shape.now c.requires.there c.loop-position.position past in
    (subst (AmongUnits c.args.walk.now.env.now c.args.walk.now.tree.now c.loop-position.progress) next c.loop-position.invariant.units, c.loop-position.invariant.steps)
