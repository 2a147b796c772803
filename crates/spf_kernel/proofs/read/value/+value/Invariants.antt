use Rattle.spf_kernel.proofs.Common.{◌≡◌, ◌+◌, ◌*◌, ◌-◌, ◌++◌, same_kind, made, begins, further, repeat, sees, Star, Rest, fact, next_summand}
use Rattle.spf_kernel.proofs.read.value.+value.Given as goal

abbrev pub decreases-fact : goal.decreases-fact
decreases-fact l = 10 * l.depth

abbrev pub decreases-next_fact : goal.decreases-next_fact
decreases-next_fact l = 10 * l.depth + 1

abbrev pub decreases-next_facts : goal.decreases-next_facts
decreases-next_facts l = 10 * l.depth + 2

abbrev pub decreases-facts : goal.decreases-facts
decreases-facts l = 10 * l.depth + 3

abbrev pub decreases-first_summand : goal.decreases-first_summand
decreases-first_summand l = 10 * l.depth + 4

abbrev pub decreases-next_summand : goal.decreases-next_summand
decreases-next_summand l = 10 * l.depth + 4

abbrev pub decreases-next_summands : goal.decreases-next_summands
decreases-next_summands l = 10 * l.depth + 5

abbrev pub decreases-value : goal.decreases-value
decreases-value l = 10 * l.depth + 6

abbrev pub decreases-parenthesized : goal.decreases-parenthesized
decreases-parenthesized l = 10 * l.depth + 7

abbrev pub decreases-nested : goal.decreases-nested
decreases-nested l = 10 * l.depth + 8

-- what was read, and what is still read, are the whole
abbrev pub invariant-next_facts-loop-turn : goal.invariant-next_facts-loop-turn
invariant-next_facts-loop-turn l =
    let read = further same_kind Star (fact l.depth).read in
    made (λ others. l.fn.facts ++ others) (repeat (sees same_kind Star) read l.fn.tokens) ≡ Rest (sees same_kind Star) read l.facts (l._turn-end - l._turn) l.tokens

abbrev pub invariant-next_summands-loop-turn : goal.invariant-next_summands-loop-turn
invariant-next_summands-loop-turn l =
    let next = next_summand (fact l.depth) in
    made (λ others. l.fn.summands ++ others) (repeat (begins next) next.read l.fn.tokens) ≡ Rest (begins next) next.read l.summands (l._turn-end - l._turn) l.tokens
