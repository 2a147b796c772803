use Rattle.std.proofs.Common.{◌≡◌, [], ap, sym, ◌∙◌, subst, rules, arith}
use Rattle.std.proofs.lemmas.Grind.{common_steps}
use Rattle.std.proofs.lemmas.Fn.{always_returns_same}
use Rattle.spf_rel.specs.Simplified.{IsOrdered, is_last}
use Rattle.spf_rel.proofs.Sorting.{Sorting, begun, dropped, falling, kept, key_less, ordered}
use Rattle.spf_rel.proofs.ordering.ordered.Goals as goal

pub loop-term-init : goal.loop-term-init
loop-term-init c =
    let total = c.terms_are_ordered.ensures.total in
    let sorted = c.in_ok-sort_by.ensures.sorted key_less (falling total) (always_returns_same _ _ _ (λ a r f h. search rules)) in
    subst (λ whole. Sorting whole c.sort_by.new.self.items c.new-made.result.items) c.in_ok-left.ensures
    (subst (Sorting c.in_ok-left.left.items c.sort_by.new.self.items) (sym c.new-made.ensures.items) (begun total c.in_ok-left.left.items c.sort_by.new.self.items c.sort_by.ensures.permutation sorted))

pub returns : goal.returns
returns c =
    let none : c.loop-term.left.items ≡ [] = grind (arith, common_steps) in
    subst (IsOrdered c.args.terms.now) (sym c.from_vec.ensures) (ordered c.args.terms.now c.loop-term.made.items (subst (λ of. Sorting c.args.terms.now of c.loop-term.made.items) none c.loop-term.invariant))

pub loop-term-preserved-then-is_last : goal.loop-term-preserved-then-is_last
loop-term-preserved-then-is_last c =
    dropped c.args.terms.now c.pop.new.self.items c.in-Some.term c.loop-term.made.items (subst (λ of. Sorting c.args.terms.now of c.loop-term.made.items) c.in-Some.ensures.items c.loop-term.invariant) c.terms_are_ordered.ensures.exact (ap (is_last c.in-Some.term) (sym c.as_slice.ensures.value) ∙ sym c.is_last.ensures ∙ c.if-is_last.true)

pub loop-term-preserved : goal.loop-term-preserved
loop-term-preserved c =
    kept c.args.terms.now c.pop.new.self.items c.in-Some.term c.loop-term.made.items (subst (λ of. Sorting c.args.terms.now of c.loop-term.made.items) c.in-Some.ensures.items c.loop-term.invariant) c.terms_are_ordered.ensures.total (ap (is_last c.in-Some.term) (sym c.as_slice.ensures.value) ∙ sym c.is_last.ensures ∙ c.if-is_last.false) c.push.new.self.items c.in_ok-push.ensures.items
