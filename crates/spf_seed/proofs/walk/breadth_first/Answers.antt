use Rattle.std.proofs.Common.{◌≡◌, ℕ, ◌<◌, ◌++◌, [], ◌∷◌, List, false, length, eqb, sym, ap, ◌∙◌, inl, inr, rules, arith}
use Rattle.std.proofs.lemmas.Bool.{cases_lt, eq-eqb, or_left, or_right}
use Rattle.std.proofs.lemmas.List.{get_or_default}
use Rattle.spf_touch.specs.Ordered.{is_in}
use Rattle.spf_seed.specs.View.{AreNeighbours, positions}
use Rattle.spf_seed.proofs.Following.{order_whole}
use Rattle.spf_seed.proofs.Keeping.{begun}
use Rattle.spf_touch.proofs.Listed.{in_with}
use Rattle.spf_seed.proofs.walk.breadth_first.Goals as goal
use Rattle.spf_seed.proofs.walk.breadth_first.Goals.{then-not-index+in_ok-put+in_ok-exhaust, else-not-index}

pub exhaust-requires-clause-underway : goal.exhaust-requires-clause-underway
exhaust-requires-clause-underway c =
    let order = c.loop-position.listing.order.items in
    let kept = c.loop-position.invariant.kept in
    let position = c.loop-position.position in
    let below : position < positions c.args.view.now = omega (arith, c.positions-count.ensures) in
    let inside : position < length c.loop-position.listing.flags.items = omega (arith, kept.long) in
    let new : is_in order position ≡ false =
    sym (kept.flags position inside) ∙ get_or_default c.loop-position.listing.flags.items position false c.index.result.now inside ∙ sym c.index.ensures ∙ c.if-not-index.true in
    let long : c.len-from.result ≡ length order = search rules in
    let put : c.put.new.self.order.items ≡ order ++ position ∷ [] = rw new at c.in_ok-put.ensures.order in
    rw (put, long) (begun (AreNeighbours c.args.view.now) (positions c.args.view.now) order position c.loop-position.invariant.underway below new c.loop-position.invariant.all)

pub loop-position-preserved : goal.loop-position-preserved
loop-position-preserved c =
    let order = c.loop-position.listing.order.items in
    let kept = c.loop-position.invariant.kept in
    let position = c.loop-position.position in
    let below : position < positions c.args.view.now = omega (arith, c.positions-count.ensures) in
    let inside : position < length c.loop-position.listing.flags.items = omega (arith, kept.long) in
    elim c.if-not-index.branch [
      | then-not-index+in_ok-put+in_ok-exhaust w ↦ rw w.listing-is (record {
        kept = rw w.as_slice-then-not-index.ensures.value at w.in_ok-exhaust.ensures.kept;
        underway = w.in_ok-exhaust.ensures.underway;
        all = λ y lt. w.in_ok-exhaust.ensures.still.all y (ap (λ (l : List ℕ). is_in l y) w.in_ok-put.ensures.order ∙ in_with order position y ∙ elim (cases_lt y position) [
          | inl less ↦ or_left (is_in order y) (eqb y position) (c.loop-position.invariant.all y less)
          | inr more ↦ or_right (is_in order y) (eqb y position) (eq-eqb y position (omega arith))
        ]);
      })
      | else-not-index w ↦ rw w.listing-is (record {
        kept = kept;
        underway = c.loop-position.invariant.underway;
        all = λ y lt. elim (cases_lt y position) [
          | inl less ↦ c.loop-position.invariant.all y less
          | inr more ↦
              let same : y ≡ position = omega arith in
              rw same (sym (kept.flags position inside) ∙ get_or_default c.loop-position.listing.flags.items position false c.index.result.now inside ∙ sym c.index.ensures ∙ w.if-not-index.false)
        ];
      })
    ]

pub returns : goal.returns
returns c =
    order_whole (AreNeighbours c.args.view.now) (positions c.args.view.now) c.loop-position.listing.order.items c.loop-position.invariant.underway.each
    (λ y lt. c.loop-position.invariant.all y (omega (arith, c.positions-count.ensures)))
