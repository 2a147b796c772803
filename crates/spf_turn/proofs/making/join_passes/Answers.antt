use Rattle.std.proofs.Common.{◌≡◌, ◌++◌, ◌∷◌, [], false, List, Some, length, sym, ap, ◌∙◌, subst, arith, append_assoc, length-append}
use Rattle.std.proofs.lemmas.List.Elements.{All-cons, All-pop, All-same, All-weaker}
use Rattle.spf_turn.specs.Closing.{Represents}
use Rattle.spf_turn.specs.Passes.{PassState}
use Rattle.spf_turn.specs.Steps.{as_joined, join_both}
use Rattle.spf_turn.proofs.Ends.{represents_itself, represents_first, represents_second}
use Rattle.spf_turn.proofs.Joining.{joins}
use Rattle.spf_turn.proofs.making.join_passes.Goals as goal

nothing_left : {A : Type 0} (xs ys : List A) → length xs ≡ 0 → xs ++ ys ≡ ys
nothing_left [] ys e = λ _. ys
nothing_left (x ∷ xs) ys e = absurd (omega arith)

pub join_seat-requires : goal.join_seat-requires
join_seat-requires g c =
    let state = sym c.into_seat.ensures.state in
    let table = All-pop (λ p. p.table ≡ c.args.table.now.table_id) _ _ (Some c.in-Some-pop.pass) c.in-Some-pop.ensures.items c.loop-pass.invariant.tables in
    let free = All-pop (λ p. p.holds ≡ false) _ _ (Some c.in-Some-pop.pass) c.in-Some-pop.ensures.items c.loop-pass.invariant.free in
    let idle : c.into_seat.result.me.0.holds ≡ false = ap (λ p. p.holds) state ∙ free.1 in (
      c.loop-pass.invariant.table,
      ap (λ p. p.table) state ∙ table.1,
      c.into_seat.ensures.seated.free idle,
      c.requires.words,
      joins _ _ _ _ _ _ c.loop-pass.kept.me.0 c.into_seat.result.me.0 c.loop-pass.invariant.live c.into_seat.ensures.seated.live idle,
    )

pub loop-pass-preserved : goal.loop-pass-preserved
loop-pass-preserved g c =
    let who = g.R.TurnRule.who in
    let v = c.loop-pass.kept.me.0 in
    let w = c.into_seat.result.me.0 in
    let pass = c.in-Some-pop.pass in
    let inv = c.loop-pass.invariant in
    let table = All-pop (λ p. p.table ≡ c.args.table.now.table_id) _ _ (Some pass) c.in-Some-pop.ensures.items inv.tables in
    let free = All-pop (λ p. p.holds ≡ false) _ _ (Some pass) c.in-Some-pop.ensures.items inv.free in
    rw c.join_seat.ensures.2 record {
      table = c.join_seat.ensures.0 ∙ inv.table;
      live = inv.live;
      idle = inv.idle;
      tables = table.0;
      free = free.0;
      done = pass ∷ inv.done;
      whole = inv.whole ∙ (ap (λ xs. xs ++ inv.done) c.in-Some-pop.ensures.items ∙ append_assoc _ (pass ∷ []) inv.done);
      count = omega (arith, inv.count, length-append v.joined (as_joined w ∷ w.joined), ap length c.into_seat.ensures.seated.alone);
      each = All-cons (λ p. Represents who (join_both v w) p) pass inv.done
          (subst (λ (p : PassState g.row.R-Key.Denot g.row.R-Entry.Denot). Represents who (join_both v w) p) (sym c.into_seat.ensures.state) (represents_second who v w _ (represents_itself who _ w)))
          (All-weaker (λ p. Represents who v p) (λ p. Represents who (join_both v w) p) (λ p f. represents_first who v w p f) inv.done inv.each);
    }

pub returns-clause-each : goal.returns-clause-each
returns-clause-each g c =
    All-same (λ p. Represents g.R.TurnRule.who c.loop-pass.kept.me.0 p) c.args.passes.items c.loop-pass.invariant.done (c.loop-pass.invariant.whole ∙ nothing_left c.loop-pass.passes.items c.loop-pass.invariant.done (omega (arith, c.in_default-pop.ensures.cases.0))) c.loop-pass.invariant.each
