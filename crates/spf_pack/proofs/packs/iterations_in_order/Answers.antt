use Rattle.std.proofs.Common.{◌≡◌, ◌+◌, length, map, take, ap, ◌∙◌, arith}
use Rattle.std.proofs.lemmas.List.{take_all}
use Rattle.spf_perm.specs.Perm.{AreInverse}
use Rattle.spf_pack.proofs.Turned.{inverse_in_turn}
use Rattle.spf_pack.proofs.packs.iterations_in_order.Goals as goal

pub returns : goal.returns
returns c =
    let list = c.iterations.inside.list.items in
    let iterations = c.in_ok-iterations.iterations in
    let inverse : AreInverse c.args.order.now iterations = rw c.in_ok-iterations.ensures.0 at c.inverse.ensures in
    let all : take c.loop-position.position list ≡ list = take_all c.loop-position.position list (omega (arith, c.len.ensures, ap length c.iterations.view_is)) in
    c.loop-position.invariant ∙ ap (map (λ iteration. c.args.first + iteration)) (all ∙ c.iterations.view_is ∙ inverse_in_turn c.args.order.now iterations c.in_ok-iterations.ensures.1 inverse)
