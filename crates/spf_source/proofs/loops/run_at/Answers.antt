use Rattle.std.proofs.Common.{ℕ, ◌<◌, ℤ, pos, ◌+ℤ◌, [], ◌∷◌, All, Option, w64, rules, ap, subst, sym, ◌∙◌}
use Rattle.std.proofs.lemmas.Int.{to_z-of_z}
use Rattle.spf_term.specs.Bounded.{AreWithin}
use Rattle.spf_kernel.specs.Bounded.{IsBoundedItem, IsBoundedLoop}
use Rattle.spf_kernel.specs.declared.tree.Loop.{Loop}
use Rattle.spf_store.proofs.SmallNumbers.{all_at}
use Rattle.spf_source.specs.Ready.{extent_of, lower_of}
use Rattle.spf_source.proofs.UnitRows.{effect_is, iteration_is, may_run}
use Rattle.spf_source.proofs.loops.run_at.Goals as goal

pub run_iteration-requires-clause-allows : goal.run_iteration-requires-clause-allows
run_iteration-requires-clause-allows g c =
    let env = c.args.given.now.env.now in
    let tree = c.args.tree.now in
    let at = c.loop_at-each.ensures in
    let lower = to_z-of_z w64 c.args.lower (search rules) ∙ c.requires.lower ∙ ap (lower_of env tree) at in
    let iteration = c.iteration_at-iteration.ensures ∙ ap (λ (z : ℤ). (z +ℤ pos c.args.unit.now.position) ∷ []) lower in
    may_run env tree c.args.unit.now c.loop_at-each.result.now at c.args.given.now.starts.now iteration c.as_slice.ensures c.requires.ready.starts_are
    (g.C.Cells.own c.args.cells.now) c.requires.ready.accepted c.requires.ready.bounded c.requires.own c.requires.range

pub run_iteration-requires-clause-small : goal.run_iteration-requires-clause-small
run_iteration-requires-clause-small g c =
    let env = c.args.given.now.env.now in
    let tree = c.args.tree.now in
    let unit = c.args.unit.now in
    let each = c.loop_at-each.result.now in
    let at = c.loop_at-each.ensures in
    let lower = to_z-of_z w64 c.args.lower (search rules) ∙ c.requires.lower ∙ ap (lower_of env tree) at in
    let iteration = c.iteration_at-iteration.ensures ∙ ap (λ (z : ℤ). (z +ℤ pos unit.position) ∷ []) lower in
    let inside = subst (λ (of : Option Loop). unit.position < extent_of env tree of) at c.requires.there in
    let within = c.accepted_numbers_are_small.ensures.iterations env tree unit each c.requires.ready.accepted at inside in
    let here = ap (λ (z : ℤ). z ∷ []) (iteration_is env tree unit each at) ∙ sym iteration in
    let bounded = (all_at IsBoundedLoop tree.loops unit.loop_no each c.requires.ready.bounded.loops at).items in
    c.bounded_items_are_small.ensures env c.iteration_at-iteration.result c.as_slice.result.now (subst (AreWithin env) here within) (subst (All IsBoundedItem) (sym c.as_slice.ensures) bounded)

pub returns : goal.returns
returns g c =
    let env = c.args.given.now.env.now in
    let tree = c.args.tree.now in
    let at = c.loop_at-each.ensures in
    let lower = to_z-of_z w64 c.args.lower (search rules) ∙ c.requires.lower ∙ ap (lower_of env tree) at in
    let iteration = c.iteration_at-iteration.ensures ∙ ap (λ (z : ℤ). (z +ℤ pos c.args.unit.now.position) ∷ []) lower in
    let same = effect_is env tree c.args.unit.now c.loop_at-each.result.now at c.args.given.now.starts.now iteration c.as_slice.ensures c.requires.ready.starts_are
    (g.C.Cells.value c.args.cells.now) in
    record {
      owns = c.run_iteration.ensures.owns;
      keeps = c.run_iteration.ensures.keeps;
      values = λ e. c.run_iteration.ensures.values e ∙ ap (λ (made : ℕ → ℤ). made e) same;
    }
