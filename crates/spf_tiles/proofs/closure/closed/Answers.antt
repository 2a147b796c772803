use Rattle.std.proofs.Common.{◌≡◌, ℕ, ◌<◌, ◌↔◌, true, length, length-append, refl, map, vec_items, ◌∙◌, arith}
use Rattle.std.proofs.lemmas.List.{length-map, map-append}
use Rattle.spf_touch.specs.Ordered.{is_in}
use Rattle.spf_tiles.specs.Before.{Leads}
use Rattle.spf_tiles.specs.Links.{Rises}
use Rattle.spf_tiles.proofs.Closing.{all_below, known_more, leads_rises, rising_more}
use Rattle.spf_tiles.proofs.closure.closed.Goals as goal

pub loop-tile-preserved : goal.loop-tile-preserved
loop-tile-preserved c =
    let b = c.loop-tile.tile in
    let links = c.args.links.now in
    let rows = map vec_items c.loop-tile.lists.items in
    let row = c.in_ok-listed.field-0.items in
    let size : length rows ≡ b = length-map c.loop-tile.lists.items vec_items ∙ c.loop-tile.invariant.count in
    let few : b < 1024 = omega (arith, c.requires.tiles, c.loop-tile-test.true) in
    let new : (a : ℕ) → (is_in row a ≡ true) ↔ Leads (Rises links) a b = λ a.
    let listed = c.in_ok-listed.ensures.listed a in (
      λ h. (let it = listed.0 h in (c.in_ok-before.ensures.chains a b (omega (arith, it.0)) c.loop-tile-test.true).0 (rw c.as_slice.ensures.value at it.1)),
      λ h.
          let less : a < b = leads_rises links a b h in
          listed.1 (less, rw c.as_slice.ensures.value ((c.in_ok-before.ensures.chains a b (omega arith) c.loop-tile-test.true).1 h)),
    ) in
    record {
      count = rw (c.in_ok-push.ensures.items, length-append, c.loop-tile.invariant.count) refl;
      rising = rw (c.in_ok-push.ensures.items, map-append) (rising_more rows row c.in_ok-listed.ensures.rising c.loop-tile.invariant.rising);
      chains = rw (c.in_ok-push.ensures.items, map-append) (known_more links rows b size c.loop-tile.invariant.chains row new);
    }

pub returns-clause-below : goal.returns-clause-below
returns-clause-below c =
    let rows = map vec_items c.loop-tile.lists.items in
    let end : c.loop-tile.tile ≡ c.args.tiles = omega (arith, c.loop-tile-test.false, c.loop-tile.auto.tile-end) in
    let size : length rows ≡ c.loop-tile.tile = length-map c.loop-tile.lists.items vec_items ∙ c.loop-tile.invariant.count in
    rw (← end) (all_below c.args.links.now rows c.loop-tile.tile size c.loop-tile.invariant.chains)

pub returns-clause-rising : goal.returns-clause-rising
returns-clause-rising c = c.loop-tile.invariant.rising

pub returns-clause-chains : goal.returns-clause-chains
returns-clause-chains c a b less = c.loop-tile.invariant.chains a b (omega (arith, c.loop-tile-test.false))
