use Rattle.std.proofs.Common.{◌≡◌, ◌+◌, ◌-◌, ◌<◌, ◌≤◌, ◌^◌, ap, arith, drop, length, subst, sym, take, ◌∙◌}
use Rattle.std.proofs.lemmas.List.{length-drop}
use Rattle.std.proofs.lemmas.Result.{on_ok_weaker}
use Rattle.std.specs.List.{sum_by}
use Rattle.spf_touch.specs.Lists.{Listed, start_of}
use Rattle.spf_touch.specs.Ops.{noted}
use Rattle.spf_touch.proofs.Lists.{begins, together_end}
use Rattle.spf_touch.proofs.Marked.{closed_same, noted_more}
use Rattle.spf_touch.proofs.touch_lists.TouchLists.note.Goals as goal

pub note_from-requires-clause-start : goal.note_from-requires-clause-start
note_from-requires-clause-start c =
    let len : c.len.result ≡ length c.self.inside.ends.items = omega arith in
    let start : c.start_of-start.result ≡ start_of 0 c.self.inside.ends.items (length c.self.inside.ends.items) =
    c.start_of-start.ensures ∙ (λ i. start_of 0 (c.as_slice.ensures.value i) (len i)) in
    let at = begins c.self.inside.touches.items 0 c.self.inside.ends.items (length c.self.inside.ends.items) c.self.invariant.cut.lists (omega arith) in
    omega (arith, at.2, start)

pub note_from-requires-clause-room : goal.note_from-requires-clause-room
note_from-requires-clause-room c =
    let touches = c.self.inside.touches.items in
    let ends = c.self.inside.ends.items in
    let room = subst (λ (lists : Listed). sum_by length lists.closed + length lists.current < 2 ^ 32 - 1) (sym c.self.view_is) c.requires.room in
    let end = together_end touches 0 ends c.self.invariant.cut.lists in
    omega (arith, room, end, length-drop (start_of 0 ends (length ends)) touches)

start_is : (c : goal.After-note_from) → c.start_of-start.result ≡ start_of 0 c.self.inside.ends.items (length c.self.inside.ends.items)
start_is c =
    let len : c.len.result ≡ length c.self.inside.ends.items = omega arith in
    c.start_of-start.ensures ∙ (λ i. start_of 0 (c.as_slice.ensures.value i) (len i))

before : (c : goal.After-note_from) → take (start_of 0 c.self.inside.ends.items (length c.self.inside.ends.items)) c.note_from.new.touches.items ≡
    take (start_of 0 c.self.inside.ends.items (length c.self.inside.ends.items)) c.self.inside.touches.items
before c = rw (start_is c) at c.note_from.ensures.before

behind : (c : goal.After-note_from) → start_of 0 c.self.inside.ends.items (length c.self.inside.ends.items) ≤ length c.note_from.new.touches.items
behind c = rw (start_is c) at c.note_from.ensures.few.0

pub invariant_of-self : goal.invariant_of-self
invariant_of-self c =
    noted_more c.self.inside.touches.items c.self.inside.ends.items c.self.inside.markers.items c.self.invariant c.note_from.new.touches.items c.note_from.new.markers.items
    (before c) (behind c) c.note_from.ensures.few.1 (rw (start_is c) at c.note_from.ensures.once) (rw (start_is c) at c.note_from.ensures.marked)

pub returns-clause-noted : goal.returns-clause-noted
returns-clause-noted c =
    on_ok_weaker c.note_from.result (λ (here : drop c.start_of-start.result c.note_from.new.touches.items ≡ noted (drop c.start_of-start.result c.self.inside.touches.items) c.args.element c.args.class).
    let closed = closed_same c.self.inside.touches.items c.self.inside.ends.items c.self.inside.markers.items c.self.invariant c.note_from.new.touches.items c.note_from.new.markers.items
    (before c) (behind c) in
    let current = rw (start_is c) at here in
    (λ i. record { closed = closed i; current = current i; cells = c.note_from.ensures.cells i }) ∙
    ap (λ (of : Listed). record { closed = of.closed; current = noted of.current c.args.element c.args.class; cells = of.cells }) c.self.view_is)
    c.note_from.ensures.noted
