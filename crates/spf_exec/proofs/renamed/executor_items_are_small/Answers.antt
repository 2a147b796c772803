use Rattle.std.proofs.Common.{◌≡◌, ℤ, pos, ◌+ℤ◌, Option, [], ◌∷◌, ap, arith, subst}
use Rattle.spf_term.specs.Bounded.{AreWithin}
use Rattle.spf_kernel.specs.declared.tree.Loop.{Loop}
use Rattle.spf_store.specs.Shaped.{outer_value}
use Rattle.spf_store.specs.Source.{iteration_of, position_iteration}
use Rattle.spf_exec.proofs.SmallIterations.{few_positions, iteration_small}
use Rattle.spf_exec.proofs.renamed.executor_items_are_small.Goals as goal

pub returns : goal.returns
returns c env tree moved orders packings renaming unit bound is_unit =
    let few = few_positions env tree unit.loop_no is_unit.loop bound.accepted is_unit.there in
    let iteration : iteration_of env tree unit ≡ outer_value env is_unit.loop.low +ℤ pos unit.position = ap (λ (of : Option Loop). position_iteration env tree of unit.position) is_unit.there in
    iteration_small c.normal_form_keeps_the_value.ensures c.substitution_keeps_the_value.ensures c.bounded_terms_are_small.ensures env tree moved orders packings renaming bound
    unit.loop_no is_unit.loop unit.position is_unit.there (bound.positions unit.loop_no is_unit.loop unit.position is_unit.there is_unit.inside) (omega (arith, few, is_unit.inside))
    (subst (λ (number : ℤ). AreWithin env (number ∷ [])) iteration (c.accepted_numbers_are_small.ensures.iterations env tree unit is_unit.loop bound.accepted is_unit.there is_unit.inside))
