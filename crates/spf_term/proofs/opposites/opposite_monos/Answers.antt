use Rattle.std.proofs.Common.{rules}
use Rattle.std.proofs.lemmas.Int.{to_z-of_z}
use Rattle.std.specs.Int.{w128}
use Rattle.spf_term.specs.Wide.{plain_atom}
use Rattle.spf_term.proofs.Turning.{last_smaller, opposite_fits, opposite_number, turned_more}
use Rattle.spf_term.proofs.opposites.opposite_monos.Goals as goal

pub overflow_sub-mono : goal.overflow_sub-mono
overflow_sub-mono c =
    opposite_fits c.in-Some.mono.coef _ (to_z-of_z w128 c.in-Some.mono.coef (search rules))
    (last_smaller c.args.monos c.loop-mono.monos c.pop.new.self c.in-Some.mono c.loop-mono.turned.items c.in-Some.ensures c.loop-mono.invariant)

pub loop-mono-preserved : goal.loop-mono-preserved
loop-mono-preserved c =
    let small = last_smaller c.args.monos c.loop-mono.monos c.pop.new.self c.in-Some.mono c.loop-mono.turned.items c.in-Some.ensures c.loop-mono.invariant in
    let coef = opposite_number c.in-Some.mono.coef _ (to_z-of_z w128 c.in-Some.mono.coef (search rules)) small in
    turned_more c.args.monos c.loop-mono.monos c.pop.new.self c.in-Some.mono c.loop-mono.turned.items c.in-Some.ensures c.loop-mono.invariant c.push.new.self.items _ c.in_ok-push.ensures.items
    (λ i. record { coef = coef i; atom = plain_atom c.in-Some.mono.atom })
