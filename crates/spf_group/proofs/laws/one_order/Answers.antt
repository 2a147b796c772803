use Rattle.std.proofs.Common.{sym, ◌∙◌, arith}
use Rattle.spf_group.proofs.Perms.{one_list}
use Rattle.spf_group.proofs.laws.one_order.Goals as goal

pub returns : goal.returns
returns c key old a b is_a is_b first second =
    one_list a b is_a is_b (second.lengths ∙ sym first.lengths) (λ i j lti ltj.
    let f = first.order i j (omega (arith, first.lengths)) (omega (arith, first.lengths)) in
    let s = second.order i j (omega (arith, first.lengths)) (omega (arith, first.lengths)) in
    (λ lt. s.1 (f.0 lt), λ lt. f.1 (s.0 lt)))
