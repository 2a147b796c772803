use Rattle.std.proofs.Common.{◌≡◌, ◌<◌, ◌≤◌, ◌-◌, ◌++◌, ◌∷◌, [], ◌∙◌, ap, length, subst, sym, arith, refl}
use Rattle.spf_core.specs.History.{IsHistory}
use Rattle.spf_core.specs.Marked.{Chronicle}
use Rattle.spf_core.specs.Replay.{claimed, values_of}
use Rattle.spf_core.specs.Stand.{IsReplayed, Stand}
use Rattle.spf_core.specs.declared.event.Event.TheVariants.{Claim}
use Rattle.spf_core.proofs.StateSteps.{claim_parts, replayed_claim, room_read}
use Rattle.spf_core.proofs.state.State.claim.Goals as goal

pub overflow_sub-seat : goal.overflow_sub-seat
overflow_sub-seat g c = (claim_parts _ _ _ c.args.worker c.args.tile c.requires.can).0

pub index_mut-requires : goal.index_mut-requires
index_mut-requires g c =
    let h = subst (λ (p : Stand). IsHistory p.order p.workers (p.events ++ Claim c.args.worker c.args.tile ∷ [])) (sym c.self.view_is) c.requires.can in
    let parts = claim_parts _ _ _ c.args.worker c.args.tile h in
    let low : 1 ≤ c.args.worker = parts.0 in
    let high : c.args.worker ≤ c.self.inside.past.workers = parts.1 in
    let seats : length c.self.inside.copies.items ≡ c.self.inside.past.workers = c.self.invariant.0 in
    let inside : c.args.worker - 1 < length c.self.inside.copies.items = omega arith in
    let size = c.self.inside.copies.ok.0 in
    omega arith

pub copy-requires-clause-tile : goal.copy-requires-clause-tile
copy-requires-clause-tile g c =
    let tile : c.args.tile < length c.args.self.now.order = (claim_parts _ _ _ c.args.worker c.args.tile c.requires.can).2 in
    subst (λ n. c.args.tile < n) (ap length c.requires.order ∙ c.sound.ensures.orders) tile

pub copy-requires-clause-room : goal.copy-requires-clause-room
copy-requires-clause-room g c =
    let h = subst (λ (p : Stand). IsHistory p.order p.workers (p.events ++ Claim c.args.worker c.args.tile ∷ [])) (sym c.self.view_is) c.requires.can in
    let parts = claim_parts _ _ _ c.args.worker c.args.tile h in
    let r = subst (λ (p : Stand). IsReplayed (g.U.Units.behavior c.args.job.now.units) c.args.job.now.tiling p) (sym c.self.view_is) c.requires.replayed in
    let low : 1 ≤ c.args.worker = parts.0 in
    let high : c.args.worker ≤ c.self.inside.past.workers = parts.1 in
    let seats : length c.self.inside.copies.items ≡ c.self.inside.past.workers = c.self.invariant.0 in
    let inside : c.args.worker - 1 < length c.self.inside.copies.items = omega arith in
    room_read c.self.inside.copies.items c.self.inside.cells.items c.args.job.now.tiling.cells (c.args.worker - 1) c.index_mut.result.now c.self.invariant.1 inside c.index_mut.ensures.value r.size

pub returns-clause-replayed : goal.returns-clause-replayed
returns-clause-replayed g c =
    let h = subst (λ (p : Stand). IsHistory p.order p.workers (p.events ++ Claim c.args.worker c.args.tile ∷ [])) (sym c.self.view_is) c.requires.can in
    let parts = claim_parts _ _ _ c.args.worker c.args.tile h in
    let r = subst (λ (p : Stand). IsReplayed (g.U.Units.behavior c.args.job.now.units) c.args.job.now.tiling p) (sym c.self.view_is) c.requires.replayed in
    let low : 1 ≤ c.args.worker = parts.0 in
    let high : c.args.worker ≤ c.self.inside.past.workers = parts.1 in
    let seats : length c.self.inside.copies.items ≡ c.self.inside.past.workers = c.self.invariant.0 in
    let inside : c.args.worker - 1 < length c.self.inside.copies.items = omega arith in
    replayed_claim (g.U.Units.behavior c.args.job.now.units) c.args.job.now.tiling _ _ c.args.worker c.args.tile low c.copy.new.copied r inside
    (ap (λ (p : Chronicle). p.workers) c.claim.ensures) refl (ap (λ (p : Chronicle). p.events) c.claim.ensures) refl
    (λ e. c.copy.ensures.values e ∙ ap (λ l. claimed (g.U.Units.behavior c.args.job.now.units) c.args.job.now.tiling c.args.tile (values_of l) e) c.as_slice.ensures.value)
