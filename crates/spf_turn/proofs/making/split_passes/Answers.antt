use Rattle.std.proofs.Common.{◌≡◌, ◌+◌, ◌-◌, ◌++◌, ◌∷◌, [], ℕ, suc, List, map, length, vec_len, drop, take, refl, sym, ap, ◌∙◌, arith, length-append}
use Rattle.std.specs.List.{range_with_len}
use Rattle.std.proofs.Math.Seq.{drop-append_seam, take-append_seam}
use Rattle.std.proofs.lemmas.List.FromFn.{length-map-range_with_len, map-range_with_len_more}
use Rattle.spf_turn.specs.Passes.{PassState, fresh_pass}
use Rattle.spf_turn.specs.Seats.{pass_state, turn_state}
use Rattle.spf_turn.specs.Steps.{split_left, split_right}
use Rattle.spf_turn.proofs.Splitting.{splits}
use Rattle.spf_turn.proofs.making.split_passes.Goals as goal

-- the last one comes to the front
fronted : {A : Type 0} (xs : List A) (y : A) (n : ℕ) → n ≡ length (xs ++ y ∷ []) → drop (n - 1) (xs ++ y ∷ []) ++ take (n - 1) (xs ++ y ∷ []) ≡ y ∷ xs
fronted xs y n e =
    let here : n - 1 ≡ length xs = omega (arith, e, length-append xs (y ∷ [])) in
    rw here (λ i. drop-append_seam xs (y ∷ []) i ++ take-append_seam xs (y ∷ []) i)

pub split_seat-other-requires : goal.split_seat-other-requires
split_seat-other-requires g c =
    let inv = c.loop-number.invariant in (
      inv.table,
      omega (arith, c.requires.table.words),
      rw inv.view (splits _ _ _ _ _ _ refl (omega (arith, inv.number, c.loop-number-test.true, c.requires.passes))),
    )

pub push_reserved-requires : goal.push_reserved-requires
push_reserved-requires g c =
    let inv = c.loop-number.invariant in
    omega (arith, ap length inv.items, length-map-range_with_len (fresh_pass {E = g.row.R-Entry.Denot} (turn_state g.R.TurnRule.key c.args.table.now.table_id c.args.table.now.key)) 2 inv.count, inv.number, inv.room, c.loop-number-test.true, c.requires.room)

pub loop-number-preserved : goal.loop-number-preserved
loop-number-preserved g c =
    let inv = c.loop-number.invariant in
    let split = c.split_seat-other.ensures in
    let board = c.args.table.now in
    let new = fresh_pass (turn_state g.R.TurnRule.key board.table_id board.key) in
    let last : pass_state c.split_seat-other.result.table_id c.split_seat-other.result.me.0 ≡ new (inv.count + 1 + 1) =
    λ i. pass_state ((split.3 ∙ inv.table) i) ((ap (λ m. m.0) split.4 ∙ ap (λ m. split_right m.0) inv.view) i) in
    record {
      count = inv.count + 1;
      number = omega (arith, inv.number);
      table = split.0 ∙ inv.table;
      view = split.2 ∙ ap (λ m. (split_left m.0, m.1)) inv.view;
      items = c.push_reserved.ensures.items ∙ ((λ i. inv.items i ++ last i ∷ []) ∙ sym (map-range_with_len_more new 2 inv.count (inv.count + 1 + 1) (omega arith)));
      room = c.push_reserved.ensures.capacity ∙ inv.room;
    }

pub push_reserved-requires-2 : goal.push_reserved-requires-2
push_reserved-requires-2 g c =
    let inv = c.loop-number.invariant in
    omega (arith, ap length inv.items, length-map-range_with_len (fresh_pass {E = g.row.R-Entry.Denot} (turn_state g.R.TurnRule.key c.args.table.now.table_id c.args.table.now.key)) 2 inv.count, inv.number, inv.room, c.loop-number-test.false, c.requires.room, c.loop-number.auto.number)

pub returns : goal.returns
returns g c =
    let inv = c.loop-number.invariant in
    let board = c.args.table.now in
    let new : ℕ → PassState g.row.R-Key.Denot g.row.R-Entry.Denot = fresh_pass (turn_state g.R.TurnRule.key board.table_id board.key) in
    let xs : List (PassState g.row.R-Key.Denot g.row.R-Entry.Denot) = map new (range_with_len 2 inv.count) in
    let first : pass_state c.loop-number.seat.table_id c.loop-number.seat.me.0 ≡ new 1 = λ i. pass_state (inv.table i) (inv.view i).0 in
    let items : c.push_reserved-2.new.self.items ≡ xs ++ new 1 ∷ [] = c.push_reserved-2.ensures.items ∙ (λ i. inv.items i ++ first i ∷ []) in
    let n = vec_len c.push_reserved-2.new.self in
    let many : n ≡ length (xs ++ new 1 ∷ []) = omega (arith, ap length items) in
    let passes : suc inv.count ≡ c.args.passes = omega (arith, inv.number, c.loop-number-test.false, c.loop-number.auto, c.requires.table.some, c.requires.passes) in
    c.rotate_right.ensures.items ∙ (ap (λ ps. drop (n - 1) ps ++ take (n - 1) ps) items ∙ (fronted xs (new 1) n many ∙ ap (λ k. map new (range_with_len 1 k)) passes))
