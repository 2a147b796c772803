use Rattle.std.proofs.Common.{◌≡◌, ℕ, ◌+◌, ◌<◌, ◌^◌, List, [], ◌∷◌, ◌++◌, ap, arith, length, subst, sym, ◌∙◌}
use Rattle.spf_touch.specs.Lists.{AreNoted, Listed, cut, open_list}
use Rattle.spf_touch.proofs.Lists.{cut-push, length-cut}
use Rattle.spf_touch.proofs.Marked.{closed, opened}
use Rattle.spf_touch.proofs.touch_lists.TouchLists.close.Goals as goal

ends_more : (c : goal.In_ok-push) → c.push.new.self.items ≡ c.self.inside.ends.items ++ length c.self.inside.touches.items ∷ []
ends_more c =
    let end : c.len-end.result ≡ length c.self.inside.touches.items = omega arith in
    c.in_ok-push.ensures.items ∙ ap (λ (end : ℕ). c.self.inside.ends.items ++ end ∷ []) end

pub invariant_of-self-2 : goal.invariant_of-self-2
invariant_of-self-2 c =
    let room : length c.self.inside.ends.items + 1 < 2 ^ 32 =
    omega (arith, ap (λ (lists : Listed). length lists.closed) c.self.view_is, length-cut c.self.inside.touches.items 0 c.self.inside.ends.items, c.requires) in
    subst (λ (ends : List ℕ). AreNoted c.self.inside.touches.items ends c.self.inside.markers.items) (sym (ends_more c))
    (closed c.self.inside.touches.items c.self.inside.ends.items c.self.inside.markers.items c.self.invariant room)

pub returns-clause-closed : goal.returns-clause-closed
returns-clause-closed c =
    let touches = c.self.inside.touches.items in
    let lists = ap (cut touches 0) (ends_more c) ∙ cut-push touches 0 c.self.inside.ends.items in
    let rest = ap (open_list touches) (ends_more c) ∙ opened touches c.self.inside.ends.items in
    (λ i. record { closed = lists i; current = rest i; cells = length c.self.inside.markers.items }) ∙
    ap (λ (of : Listed). record { closed = of.closed ++ of.current ∷ []; current = []; cells = of.cells }) c.self.view_is
