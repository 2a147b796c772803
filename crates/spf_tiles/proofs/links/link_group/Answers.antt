use Rattle.std.proofs.Common.{◌≡◌, ◌<◌, ℕ, get_or, inr, refl, sym, ◌∙◌, rules, arith}
use Rattle.spf_touch.proofs.Members.{in_at}
use Rattle.spf_tiles.specs.TileSets.{Has}
use Rattle.spf_tiles.proofs.Adding.{grown_below, grown_first, grown_like, kept, listed}
use Rattle.spf_tiles.proofs.TileSets.{none_has}
use Rattle.spf_tiles.proofs.links.link_group.Goals as goal
use Rattle.spf_tiles.proofs.links.link_group.Goals.{then-not-contains, else-not-contains}

pub loop-unit-init : goal.loop-unit-init
loop-unit-init c = record {
  size = refl;
  held = λ a low. (λ h. absurd (none_has 16 a 0 h), λ h. let no = h.1 in absurd (omega arith));
  added = λ a d low. kept _ _ (λ h. let no = h.1 in absurd (omega arith));
}

pub bounds-tile_of-unit : goal.bounds-tile_of-unit
bounds-tile_of-unit c = c.requires.within _ (in_at c.args.units.now c.loop-unit.unit-index 0 c.loop-unit-test.true)

pub unite-requires-clause-room : goal.unite-requires-clause-room
unite-requires-clause-room c =
    let inside = c.requires.within _ (in_at c.args.units.now c.loop-unit.unit-index 0 c.loop-unit-test.true) in
    omega (arith, c.requires.room _ 0 inside, c.loop-unit.auto.links)

pub loop-unit-preserved : goal.loop-unit-preserved
loop-unit-preserved c =
    let i = c.loop-unit.unit-index in
    let tile : ℕ → ℕ = λ k. get_or c.args.tile_of.now (get_or c.args.units.now k 0) 0 in
    let was = c.loop-unit.invariant in
    elim c.if-not-contains.branch [
      | then-not-contains w ↦
          record {
            size = search rules;
            held = rw w.held-is (λ a low.
                grown_first i (λ k. tile k ≡ a) _ _ (was.held a low) (grown_like _ _ _ _ (λ h. sym h.1, λ h. (refl, sym h)) (w.insert.ensures a 0 low)));
            added = rw w.links-is (λ a d low.
                grown_below i (λ k. (tile k ≡ d) × Has c.args.sources.now a 0) _ _ _ (was.added a d low) (grown_like _ _ _ _ (λ h. (sym h.0, h.1), λ h. (sym h.0, h.1)) (w.unite.ensures a d low)));
          }
      | else-not-contains w ↦
          let low' : tile i < 1024 = c.requires.few _ 0 (c.requires.within _ (in_at c.args.units.now i 0 c.loop-unit-test.true)) in
          let there : Has c.loop-unit.held (tile i) 0 = c.contains.ensures.0 (search rules) in
          let first = (was.held (tile i) low').0 there in
          record {
            size = search rules;
            held = rw w.held-is (λ a low. grown_first i (λ k. tile k ≡ a) _ _ (was.held a low) (kept _ _ (λ e. rw e at there)));
            added = rw w.links-is (λ a d low.
                grown_below i (λ k. (tile k ≡ d) × Has c.args.sources.now a 0) _ _ _ (was.added a d low)
                (kept _ _ (λ e. (was.added a d low).1 (inr (first.0, first.1, (first.2 ∙ e.0, e.1))))));
          }
    ]

pub returns-clause-held : goal.returns-clause-held
returns-clause-held c a low =
    let places = listed c.args.units.now c.loop-unit.unit-index (λ u. get_or c.args.tile_of.now u 0 ≡ a) c.loop-unit-test.false c.loop-unit.auto.unit-index-end in
    (λ h. places.0 ((c.loop-unit.invariant.held a low).0 h), λ h. (c.loop-unit.invariant.held a low).1 (places.1 h))

pub returns-clause-added : goal.returns-clause-added
returns-clause-added c a d low =
    let places = listed c.args.units.now c.loop-unit.unit-index (λ u. get_or c.args.tile_of.now u 0 ≡ d) c.loop-unit-test.false c.loop-unit.auto.unit-index-end in
    grown_like _ _ _ _ (λ h. (places.0 (h.0, h.1, h.2.0), h.2.1), λ h. let p = places.1 h.0 in (p.0, p.1, (p.2, h.1))) (c.loop-unit.invariant.added a d low)
