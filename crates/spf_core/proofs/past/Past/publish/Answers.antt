use Rattle.std.proofs.Common.{◌≡◌, ◌<◌, ◌≤◌, arith, length}
use Rattle.std.specs.Prelude.{vec_capacity}
use Rattle.spf_core.specs.declared.event.Event.TheVariants.{Publish}
use Rattle.spf_core.proofs.MarkSteps.{publishable, marked_publish, renamed}
use Rattle.spf_core.proofs.past.Past.publish.Goals as goal

pub index_mut-requires : goal.index_mut-requires
index_mut-requires c =
    let k = publishable _ _ _ _ _ c.args.worker c.args.tile c.self.invariant (renamed _ _ (Publish c.args.worker c.args.tile) c.self.view_is c.requires) in
    let tile : c.args.tile < length c.self.inside.published.items = k.tile in
    let size = c.self.inside.published.ok.0 in
    omega arith

pub overflow_sub-worker : goal.overflow_sub-worker
overflow_sub-worker c =
    (publishable _ _ _ _ _ c.args.worker c.args.tile c.self.invariant (renamed _ _ (Publish c.args.worker c.args.tile) c.self.view_is c.requires)).worker.0

pub index_mut-requires-2 : goal.index_mut-requires-2
index_mut-requires-2 c =
    let k = publishable _ _ _ _ _ c.args.worker c.args.tile c.self.invariant (renamed _ _ (Publish c.args.worker c.args.tile) c.self.view_is c.requires) in
    let low : 1 ≤ c.args.worker = k.worker.0 in
    let high : c.args.worker ≤ c.self.inside.workers = k.worker.1 in
    let seats : length c.self.inside.held.items ≡ c.self.inside.workers = c.self.invariant.seats in
    let size = c.self.inside.held.ok.0 in
    omega arith

pub push_reserved-requires : goal.push_reserved-requires
push_reserved-requires c =
    let k = publishable _ _ _ _ _ c.args.worker c.args.tile c.self.invariant (renamed _ _ (Publish c.args.worker c.args.tile) c.self.view_is c.requires) in
    let spare : length c.self.inside.events.items < vec_capacity c.self.inside.events = k.spare in
    let size = c.self.inside.events.ok.0 in
    omega arith

pub invariant_of-self : goal.invariant_of-self
invariant_of-self c =
    rw (c.push_reserved.ensures.items, c.push_reserved.ensures.capacity)
    (marked_publish _ _ _ _ _ c.args.worker c.args.tile c.self.invariant (renamed _ _ (Publish c.args.worker c.args.tile) c.self.view_is c.requires))
