use Rattle.spf_kernel.proofs.Common.{◌≡◌, ◌+◌, ◌*◌, ◌-◌, ◌++◌, made, begins, repeat, Rest, atom, next_step}
use Rattle.spf_kernel.proofs.read.ix.+ix.Given as goal

abbrev pub decreases-atom : goal.decreases-atom
decreases-atom l = 9 * l.depth

abbrev pub decreases-numbered : goal.decreases-numbered
decreases-numbered l = 9 * l.depth + 2

abbrev pub decreases-mono : goal.decreases-mono
decreases-mono l = 9 * l.depth + 3

abbrev pub decreases-first_step : goal.decreases-first_step
decreases-first_step l = 9 * l.depth + 4

abbrev pub decreases-next_step : goal.decreases-next_step
decreases-next_step l = 9 * l.depth + 4

abbrev pub decreases-next_steps : goal.decreases-next_steps
decreases-next_steps l = 9 * l.depth + 5

abbrev pub decreases-ix : goal.decreases-ix
decreases-ix l = 9 * l.depth + 6

abbrev pub decreases-bracketed : goal.decreases-bracketed
decreases-bracketed l = 9 * l.depth + 7

abbrev pub decreases-subscripted : goal.decreases-subscripted
decreases-subscripted l = 9 * l.depth + 8

-- what was read, and what is still read, are the whole
abbrev pub invariant-next_steps-loop-turn : goal.invariant-next_steps-loop-turn
invariant-next_steps-loop-turn l =
    let next = next_step (atom l.depth) in
    made (λ others. l.fn.steps ++ others) (repeat (begins next) next.read l.fn.tokens) ≡ Rest (begins next) next.read l.steps (l._turn-end - l._turn) l.tokens
