use Rattle.std.proofs.Common.{◌≡◌, ◌+◌, [], length, map, sym, ap, ◌∙◌, arith}
use Rattle.std.proofs.lemmas.Option.{get_or_from_slice_get}
use Rattle.spf_perm.specs.Perm.{AreInverse}
use Rattle.spf_touch.specs.declared.touch.Touch.{Touch}
use Rattle.spf_plan.specs.Seeded.{elements_at}
use Rattle.spf_plan.proofs.Views.{elements_more, iteration_read, starts_pushed, view_is}
use Rattle.spf_plan.proofs.view.view.Goals as goal

pub loop-position-preserved : goal.loop-position-preserved
loop-position-preserved c =
    let touches = c.args.touches.now in
    let shape = c.args.shape.now in
    let of = c.args.of in
    let order = c.args.order.now in
    let position = c.loop-position.position in
    let back : AreInverse order c.in_ok-back.back = rw c.in_ok-back.ensures.0 at c.inverse.ensures in
    let read = iteration_read order c.in_ok-back.back c.requires.perm back position (omega arith) (omega (arith, c.at.ensures.below, back.lengths, c.at.ensures.place)) ∙ sym c.at.ensures.place in
    let touched = get_or_from_slice_get touches (c.before-first.result + c.at.result) c.of.result.now [] c.of.ensures.list in
    let here : elements_at touches shape of order position ≡ map (λ (t : Touch). t.element) c.of.result.now = rw (read, ← c.before-first.ensures) (ap (map (λ (t : Touch). t.element)) touched) in
    let elements = c.in_ok-push_elements.ensures ∙ (rw (c.loop-position.invariant.elements, ← here) (elements_more touches shape of order position)) in
    record {
      starts = starts_pushed touches shape of order c.loop-position.starts c.push-in-loop-position.new.self c.push_elements.new.elements c.in_ok-start_behind.field-0 (position + 1)
          c.in_ok-push-2.ensures.ok c.in_ok-start_behind.ensures.start elements c.loop-position.invariant.starts;
      elements = elements;
      few = c.in_ok-start_behind.ensures.few;
    }

pub returns-clause-is : goal.returns-clause-is
returns-clause-is c =
    let all : c.loop-position.position ≡ length c.args.order.now = omega (arith, c.len-position-end.ensures) in
    let starts = rw all at c.loop-position.invariant.starts in
    let elements = rw all at c.loop-position.invariant.elements in
    let few = rw elements at c.loop-position.invariant.few in
    rw (starts, elements) (view_is c.args.touches.now c.args.shape.now c.args.of c.args.order.now c.args.parts c.requires.some c.requires.perm.few few)
