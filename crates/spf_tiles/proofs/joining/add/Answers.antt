use Rattle.std.proofs.Common.{◌-◌, ◌<◌, All, ap, sym, ◌∙◌, rules, arith}
use Rattle.std.proofs.lemmas.List.Quantifiers.{all_pairs_push}
use Rattle.spf_touch.specs.Copy.{together}
use Rattle.spf_touch.specs.declared.touch.Touch.{Touch}
use Rattle.spf_tiles.proofs.Joins.{all_below, joins_last}
use Rattle.spf_tiles.specs.Joining.{EndsWith}
use Rattle.spf_touch.proofs.Noted.{noted_new}
use Rattle.spf_tiles.proofs.joining.add.Goals as goal

lesser : (c : goal.In_ok-push) → All (λ (o : Touch). o.element < c.args.touch.element) c.args.foot.now.items
lesser c = all_below c.args.foot.now.items c.args.touch c.requires.rising c.requires.behind (λ ends. let no = c.if-ends_with.ensures.1 (rw c.as_slice.ensures.value ends) in search rules)

pub returns-in_ok-push-clause-rising : goal.returns-in_ok-push-clause-rising
returns-in_ok-push-clause-rising c =
    rw c.in_ok-push.ensures.items (all_pairs_push (λ (a b : Touch). a.element < b.element) c.args.foot.now.items c.args.touch c.requires.rising (lesser c))

pub returns-in_ok-push-clause-noted : goal.returns-in_ok-push-clause-noted
returns-in_ok-push-clause-noted c =
    c.in_ok-push.ensures.items ∙ sym (noted_new c.args.foot.now.items c.args.touch.element c.args.touch.class (λ k d inside same. let less = lesser c k d inside in omega (arith, less, same)))

pub returns-then-ends_with-clause-noted : goal.returns-then-ends_with-clause-noted
returns-then-ends_with-clause-noted c =
    let ends : EndsWith c.args.foot.now.items c.args.touch.element = rw c.as_slice.ensures.value at (c.if-ends_with.ensures.0 (search rules)) in
    joins_last c.args.foot.now.items (c.len-last.result - 1) c.args.touch.element c.args.touch.class c.join-class.result c.index.result.now c.requires.rising ends (omega (arith, c.len-last.ensures))
    (c.join-class.ensures ∙ ap (λ (t : Touch). together t.class c.args.touch.class) c.index.ensures)
