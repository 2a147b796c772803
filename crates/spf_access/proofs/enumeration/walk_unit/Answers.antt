use Rattle.std.proofs.Common.{◌≡◌, ℤ, List, ◌∷◌, [], All, Some, ap, arith, length, refl, rules, subst, sym, w64, ◌∙◌}
use Rattle.std.proofs.lemmas.Int.{to_z-of_z}
use Rattle.std.proofs.lemmas.Option.{slice_get_read}
use Rattle.std.specs.List.{slice_get}
use Rattle.spf_term.specs.Walk.{StopsAt, Through}
use Rattle.spf_kernel.specs.Bounded.{IsBoundedItem, IsBoundedLoop}
use Rattle.spf_store.specs.Event.{Event}
use Rattle.spf_store.specs.Small.{IsSmallItem}
use Rattle.spf_store.specs.Source.{unit_trace}
use Rattle.spf_store.specs.Trace.{items_trace}
use Rattle.spf_store.proofs.SmallNumbers.{all_at}
use Rattle.spf_access.specs.Answer.{IsFault}
use Rattle.spf_access.specs.Progress.{Accepts, Progress, Refuses}
use Rattle.spf_access.specs.Units.{fault_of, unit_fault}
use Rattle.spf_access.proofs.Coming.{closed_unit}
use Rattle.spf_access.proofs.Faults.{stopped, went_through}
use Rattle.spf_access.proofs.Ranges.{trace_is}
use Rattle.spf_access.proofs.enumeration.walk_unit.Goals as goal

pub walk_iteration-requires-clause-small : goal.walk_iteration-requires-clause-small
walk_iteration-requires-clause-small c =
    let env = c.args.walk.now.env.now in
    let tree = c.args.walk.now.tree.now in
    let unit = c.args.unit.now in
    let each = c.index-as_slice-unit.result in
    let at : slice_get tree.loops unit.loop_no ≡ Some each = slice_get_read tree.loops _ unit.loop_no each refl c.requires.there (rw c.as_slice.ensures at c.index-as_slice-unit.is) in
    let bounded = (all_at IsBoundedLoop tree.loops unit.loop_no each c.requires.bounded.loops at).items in
    let same = to_z-of_z w64 c.args.iteration (search rules) in
    subst (λ (z : ℤ). All (IsSmallItem env (z ∷ [])) c.as_slice-2.result.now) (sym same)
    (c.bounded_items_are_small.ensures env (c.args.iteration ∷ []) c.as_slice-2.result.now c.requires.within (subst (All IsBoundedItem) (sym c.as_slice-2.ensures) bounded))

pub close-requires : goal.close-requires
close-requires c =
    let gone = went_through c.args.walk.now.env.now c.args.walk.now.tree.now c.args.unit.now _ c.args.progress.now c.walk_iteration.new.state c.requires.arrays c.in-Ok.ensures in
    omega (arith, ap (λ (p : Progress). length p.closed) gone.1, c.requires.few)

pub returns-in_ok-close-in-Ok : goal.returns-in_ok-close-in-Ok
returns-in_ok-close-in-Ok c =
    let env = c.args.walk.now.env.now in
    let tree = c.args.walk.now.tree.now in
    let unit = c.args.unit.now in
    let each = c.index-as_slice-unit.result in
    let at : slice_get tree.loops unit.loop_no ≡ Some each = slice_get_read tree.loops _ unit.loop_no each refl c.requires.there (rw c.as_slice.ensures at c.index-as_slice-unit.is) in
    let iteration = to_z-of_z w64 c.args.iteration (search rules) ∙ c.requires.iteration in
    let trace = ap (items_trace env (_ ∷ []) 1) c.as_slice-2.ensures ∙ trace_is env tree unit each _ at iteration in
    let through = subst (λ (events : List Event). Through (Accepts env) c.args.progress.now events c.walk_iteration.new.state) trace c.in-Ok.ensures in
    let gone = went_through env tree unit (unit_trace env tree unit) c.args.progress.now c.walk_iteration.new.state c.requires.arrays through in
    (gone.0, closed_unit env tree c.args.progress.now c.walk_iteration.new.state c.close.new.self (unit_trace env tree unit) c.requires.fresh c.requires.arrays gone.1 c.in_ok-close-in-Ok.ensures)

pub returns-in-Err : goal.returns-in-Err
returns-in-Err c =
    let env = c.args.walk.now.env.now in
    let tree = c.args.walk.now.tree.now in
    let unit = c.args.unit.now in
    let each = c.index-as_slice-unit.result in
    let at : slice_get tree.loops unit.loop_no ≡ Some each = slice_get_read tree.loops _ unit.loop_no each refl c.requires.there (rw c.as_slice.ensures at c.index-as_slice-unit.is) in
    let iteration = to_z-of_z w64 c.args.iteration (search rules) ∙ c.requires.iteration in
    let trace = ap (items_trace env (_ ∷ []) 1) c.as_slice-2.ensures ∙ trace_is env tree unit each _ at iteration in
    let there = subst (λ (events : List Event). StopsAt (Accepts env) (Refuses env) c.args.progress.now events c.in-Err.stop) trace c.in-Err.ensures in
    let fault = stopped env tree unit (unit_trace env tree unit) c.args.progress.now c.in-Err.stop c.requires.arrays there in
    let is = c.fault_of.ensures ∙ ap (λ (z : ℤ). fault_of unit.loop_no z c.in-Err.stop) iteration in
    subst (IsFault (unit_fault env tree c.args.progress.now unit)) (sym is) fault
