use Rattle.std.proofs.Common.{◌≡◌, arith, drop, length, subst, sym, ◌∙◌, get_or}
use Rattle.std.proofs.lemmas.List.{get_or_default}
use Rattle.spf_touch.specs.Frame.{IsOnce}
use Rattle.spf_touch.specs.Lists.{StandsAt}
use Rattle.spf_touch.specs.ActionLaw.{once_noted}
use Rattle.spf_touch.proofs.Marked.{marked_behind, marked_there, noted_behind, noted_there}
use Rattle.spf_touch.proofs.touch_lists.note_from.Goals as goal

stands : (c : goal.After-touches-1) → StandsAt c.args.touches.now.items c.args.start c.index.result.now c.args.element
stands c = rw c.as_slice.ensures.value at (c.stands_at.ensures.0 c.if-stands_at.true)

pub returns-then-stands_at-clause-noted : goal.returns-then-stands_at-clause-noted
returns-then-stands_at-clause-noted c =
    noted_there c.args.touches.now.items c.args.start c.index.result.now c.args.element c.args.class c.args.markers.now.items c.requires.marked (stands c)
    c.index-then-stands_at.result.now c.join-joined.result c.index-then-stands_at.ensures c.join-joined.ensures

pub returns-then-stands_at-clause-once : goal.returns-then-stands_at-clause-once
returns-then-stands_at-clause-once c =
    subst IsOnce (sym (returns-then-stands_at-clause-noted c)) (once_noted (drop c.args.start c.args.touches.now.items) c.args.element c.args.class c.requires.once)

pub returns-then-stands_at-clause-marked : goal.returns-then-stands_at-clause-marked
returns-then-stands_at-clause-marked c =
    marked_there c.args.touches.now.items c.args.start c.index.result.now c.args.element c.args.class c.args.markers.now.items c.requires.marked (stands c)
    c.index-then-stands_at.result.now c.join-joined.result c.index-then-stands_at.ensures c.join-joined.ensures

marker : (c : goal.After-markers-1) → get_or c.args.markers.now.items c.args.element 0 ≡ c.index.result.now
marker c = get_or_default c.args.markers.now.items c.args.element 0 c.index.result.now c.requires.inside ∙ sym c.index.ensures

missing : (c : goal.After-markers-1) → StandsAt c.args.touches.now.items c.args.start c.index.result.now c.args.element → ⊥
missing c there =
    let yes = c.stands_at.ensures.1 (rw (← c.as_slice.ensures.value) at there) in
    let no = c.if-stands_at.false in
    cc

pub returns-clause-noted : goal.returns-clause-noted
returns-clause-noted c =
    rw c.in_ok-push.ensures.items
    (noted_behind c.args.touches.now.items c.args.start c.index.result.now c.args.element c.args.class c.args.markers.now.items c.requires.marked c.requires.start (marker c) (missing c))

pub returns-clause-once : goal.returns-clause-once
returns-clause-once c =
    subst IsOnce (sym (returns-clause-noted c)) (once_noted (drop c.args.start c.args.touches.now.items) c.args.element c.args.class c.requires.once)

pub returns-clause-marked : goal.returns-clause-marked
returns-clause-marked c =
    let end : c.len-end.result ≡ length c.args.touches.now.items = omega arith in
    rw (c.in_ok-push.ensures.items, end)
    (marked_behind c.args.touches.now.items c.args.start c.index.result.now c.args.element c.args.class c.args.markers.now.items c.requires.marked c.requires.start (marker c) (missing c) c.requires.inside)
