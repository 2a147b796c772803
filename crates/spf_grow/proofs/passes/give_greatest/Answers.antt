use Rattle.std.proofs.Common.{◌≡◌, ℕ, ◌+◌, ◌-◌, ◌<◌, ◌≤◌, length, inl, inr, ◌∙◌, arith}
use Rattle.std.proofs.lemmas.Bool.{cases_eq}
use Rattle.std.proofs.lemmas.List.{get_or-set_same}
use Rattle.spf_touch.specs.Repeated.{touches_at}
use Rattle.spf_grow.specs.Bounds.{AreGreatest, HaveGreatest, IsAbove, depth_in}
use Rattle.spf_grow.proofs.Passing.{deep_within, greatest_more, number_at, set_other}
use Rattle.spf_grow.proofs.passes.give_greatest.Goals as goal

abbrev unit : goal.After-greatest-depth → ℕ
unit c = c.args.first - 1 - c.loop-done.done

noted : (c : goal.After-greatest-depth) → AreGreatest (touches_at c.args.touches.now) (unit c + 1) (length c.args.numbers.now) (depth_in (number_at c.loop-done.numbers) c.args.last) c.loop-done.bounds
noted c = let from : c.args.first - c.loop-done.done ≡ unit c + 1 = omega arith in rw from at c.loop-done.invariant.noted

above : (c : goal.After-greatest-depth) → IsAbove c.loop-done.bounds (touches_at c.args.touches.now (unit c)) c.greatest-depth.result
above c = rw c.touched-touched.ensures at c.greatest-depth.ensures.above

least : (c : goal.After-greatest-depth) → (x : ℕ) → IsAbove c.loop-done.bounds (touches_at c.args.touches.now (unit c)) x → c.greatest-depth.result ≤ x
least c = rw c.touched-touched.ensures at c.greatest-depth.ensures.least

pub overflow_sub-numbers : goal.overflow_sub-numbers
overflow_sub-numbers c =
    deep_within (touches_at c.args.touches.now) (unit c) c.greatest-depth.result c.args.last (length c.args.numbers.now) c.loop-done.numbers c.loop-done.bounds (noted c) (above c) (least c)

pub loop-done-preserved : goal.loop-done-preserved
loop-done-preserved c =
    let inside : c.args.first - 1 - c.loop-done.done < length c.loop-done.numbers = omega arith in
    let from : c.args.first - c.loop-done.done ≡ c.args.first - 1 - c.loop-done.done + 1 = omega arith in
    let next : c.args.first - 1 - c.loop-done.done ≡ c.args.first - (c.loop-done.done + 1) = omega arith in
    let have : HaveGreatest (touches_at c.args.touches.now) (c.args.first - 1 - c.loop-done.done + 1) c.args.first (length c.args.numbers.now) c.args.last (number_at c.loop-done.numbers) =
    rw from at c.loop-done.invariant.greatest in
    let more = greatest_more (touches_at c.args.touches.now) (c.args.first - 1 - c.loop-done.done) c.greatest-depth.result c.args.last (length c.args.numbers.now) c.loop-done.numbers
    c.loop-done.bounds (rw from at c.loop-done.invariant.noted) (rw c.touched-touched.ensures at c.greatest-depth.ensures.above) (rw c.touched-touched.ensures at c.greatest-depth.ensures.least)
    c.note.new.bounds inside (omega arith) (rw c.touched-touched.ensures at c.note.ensures) c.args.first have in
    record {
      kept = λ u low. set_other c.loop-done.numbers _ _ u (λ e. omega arith) ∙ c.loop-done.invariant.kept u low;
      below = λ u low high. elim (cases_eq u (c.args.first - 1 - c.loop-done.done)) [
        | inl same ↦ rw (same, get_or-set_same c.loop-done.numbers (c.args.first - 1 - c.loop-done.done) _ 0 inside) (omega arith)
        | inr other ↦ rw (set_other c.loop-done.numbers _ _ u other) (c.loop-done.invariant.below u (omega arith) high)
      ];
      greatest = rw (← next) more.0;
      noted = rw (← next) more.1;
    }

pub returns-clause-greatest : goal.returns-clause-greatest
returns-clause-greatest c u low high = c.loop-done.invariant.greatest u (omega arith) high
