use Rattle.std.proofs.Common.{◌≡◌, ◌<◌, ◌≤◌, ◌-◌, ◌++◌, ◌∷◌, [], ◌∙◌, ap, ap₂, List, Option, ℤ, length, subst, sym, arith, refl}
use Rattle.std.proofs.lemmas.List.{with_items_is}
use Rattle.std.specs.Prelude.{is_some}
use Rattle.spf_core.specs.Copies.{value_in}
use Rattle.spf_core.specs.contracts.state.State.{the_view}
use Rattle.spf_core.specs.History.{IsHistory}
use Rattle.spf_core.specs.Marked.{Chronicle}
use Rattle.spf_core.specs.Replay.{merged, values_of, worked}
use Rattle.spf_core.specs.Stand.{IsReplayed, Stand}
use Rattle.spf_core.specs.declared.event.Event.TheVariants.{Publish}
use Rattle.spf_core.proofs.StateSteps.{publish_parts, copy_read, held_keys, replayed_publish, room_read}
use Rattle.spf_core.proofs.state.State.publish.Goals as goal

pub overflow_sub-seat : goal.overflow_sub-seat
overflow_sub-seat g c = (publish_parts _ _ _ c.args.worker c.args.tile c.requires.can).0

pub index_mut-requires : goal.index_mut-requires
index_mut-requires g c =
    let h = subst (λ (p : Stand). IsHistory p.order p.workers (p.events ++ Publish c.args.worker c.args.tile ∷ [])) (sym c.self.view_is) c.requires.can in
    let parts = publish_parts _ _ _ c.args.worker c.args.tile h in
    let low : 1 ≤ c.args.worker = parts.0 in
    let high : c.args.worker ≤ c.self.inside.past.workers = parts.1 in
    let seats : length c.self.inside.copies.items ≡ c.self.inside.past.workers = c.self.invariant.0 in
    let inside : c.args.worker - 1 < length c.self.inside.copies.items = omega arith in
    let size = c.self.inside.copies.ok.0 in
    omega arith

pub publish_copy-requires-clause-tile : goal.publish_copy-requires-clause-tile
publish_copy-requires-clause-tile g c =
    let tile : c.args.tile < length c.args.self.now.order = (publish_parts _ _ _ c.args.worker c.args.tile c.requires.can).2 in
    subst (λ n. c.args.tile < n) (ap length c.requires.order ∙ c.sound.ensures.orders) tile

pub publish_copy-requires-clause-room : goal.publish_copy-requires-clause-room
publish_copy-requires-clause-room g c =
    let h = subst (λ (p : Stand). IsHistory p.order p.workers (p.events ++ Publish c.args.worker c.args.tile ∷ [])) (sym c.self.view_is) c.requires.can in
    let parts = publish_parts _ _ _ c.args.worker c.args.tile h in
    let r = subst (λ (p : Stand). IsReplayed (g.U.Units.behavior c.args.job.now.units) c.args.job.now.tiling p) (sym c.self.view_is) c.requires.replayed in
    let low : 1 ≤ c.args.worker = parts.0 in
    let high : c.args.worker ≤ c.self.inside.past.workers = parts.1 in
    let seats : length c.self.inside.copies.items ≡ c.self.inside.past.workers = c.self.invariant.0 in
    let inside : c.args.worker - 1 < length c.self.inside.copies.items = omega arith in
    room_read c.self.inside.copies.items c.self.inside.cells.items c.args.job.now.tiling.cells (c.args.worker - 1) c.index_mut.result.now c.self.invariant.1 inside c.index_mut.ensures.value r.size

pub publish_copy-requires-clause-keys : goal.publish_copy-requires-clause-keys
publish_copy-requires-clause-keys g c e =
    let h = subst (λ (p : Stand). IsHistory p.order p.workers (p.events ++ Publish c.args.worker c.args.tile ∷ [])) (sym c.self.view_is) c.requires.can in
    let parts = publish_parts _ _ _ c.args.worker c.args.tile h in
    let r = subst (λ (p : Stand). IsReplayed (g.U.Units.behavior c.args.job.now.units) c.args.job.now.tiling p) (sym c.self.view_is) c.requires.replayed in
    let low : 1 ≤ c.args.worker = parts.0 in
    let high : c.args.worker ≤ c.self.inside.past.workers = parts.1 in
    let seats : length c.self.inside.copies.items ≡ c.self.inside.past.workers = c.self.invariant.0 in
    let inside : c.args.worker - 1 < length c.self.inside.copies.items = omega arith in
    let order = subst (λ (p : Stand). p.order ≡ c.args.job.now.tiling.order) (sym c.self.view_is) c.requires.order in
    ap (λ copied. is_some (value_in copied e)) (copy_read (the_view c.self.inside) (c.args.worker - 1) c.index_mut.result.now inside c.index_mut.ensures.value) ∙
    held_keys (g.U.Units.behavior c.args.job.now.units) (g.met.U.Units.framed c.args.job.now.units) c.args.job.now.tiling c.sound.ensures (the_view c.self.inside) r order c.args.worker c.args.tile h low high e

pub returns-clause-replayed : goal.returns-clause-replayed
returns-clause-replayed g c =
    let h = subst (λ (p : Stand). IsHistory p.order p.workers (p.events ++ Publish c.args.worker c.args.tile ∷ [])) (sym c.self.view_is) c.requires.can in
    let parts = publish_parts _ _ _ c.args.worker c.args.tile h in
    let r = subst (λ (p : Stand). IsReplayed (g.U.Units.behavior c.args.job.now.units) c.args.job.now.tiling p) (sym c.self.view_is) c.requires.replayed in
    let low : 1 ≤ c.args.worker = parts.0 in
    let high : c.args.worker ≤ c.self.inside.past.workers = parts.1 in
    let seats : length c.self.inside.copies.items ≡ c.self.inside.past.workers = c.self.invariant.0 in
    let inside : c.args.worker - 1 < length c.self.inside.copies.items = omega arith in
    let whole : c.self.inside.cells.len ≡ length c.publish_copy.new.cells = sym (c.publish_copy.auto.cells ∙ c.as_mut_slice.ensures.len) in
    let now = with_items_is c.self.inside.cells c.publish_copy.new.cells (sym whole) in
    let copy = copy_read (the_view c.self.inside) (c.args.worker - 1) c.index_mut.result.now inside c.index_mut.ensures.value in
    replayed_publish (g.U.Units.behavior c.args.job.now.units) c.args.job.now.tiling _ _ c.args.worker c.args.tile low c.publish_copy.new.copied r inside
    (ap (λ (p : Chronicle). p.workers) c.publish.ensures) refl high (ap (λ (p : Chronicle). p.events) c.publish.ensures)
    (ap length now ∙ c.publish_copy.auto.cells ∙ ap length c.as_mut_slice.ensures.value)
    c.publish_copy.ensures.nothing
    (λ e. ap (λ l. values_of l e) now ∙ c.publish_copy.ensures.cells e ∙
    ap₂ (λ (copied : List (Option ℤ)) (l : List ℤ). merged (g.U.Units.behavior c.args.job.now.units) c.args.job.now.tiling c.args.tile
    (worked (g.U.Units.behavior c.args.job.now.units) c.args.job.now.tiling c.args.tile (value_in copied)) (values_of l) e) copy c.as_mut_slice.ensures.value)
