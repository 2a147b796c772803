use Rattle.std.proofs.Common.{◌≡◌, ◌+◌, ◌*◌, ◌-◌, ◌++◌}
use Rattle.spf_lex.proofs.Repeating.{Rest}
use Rattle.spf_lex.specs.Derivation.{made}
use Rattle.spf_lex.specs.Production.{begins}
use Rattle.spf_lex.specs.Reader.{repeat}
use Rattle.spf_reltext.specs.Productions.{atom, next_mono}
use Rattle.spf_reltext.proofs.ix.+ix.Given as goal

abbrev pub decreases-atom : goal.decreases-atom
decreases-atom l = 9 * l.depth

abbrev pub decreases-numbered : goal.decreases-numbered
decreases-numbered l = 9 * l.depth + 2

abbrev pub decreases-mono : goal.decreases-mono
decreases-mono l = 9 * l.depth + 3

abbrev pub decreases-first_mono : goal.decreases-first_mono
decreases-first_mono l = 9 * l.depth + 4

abbrev pub decreases-next_mono : goal.decreases-next_mono
decreases-next_mono l = 9 * l.depth + 4

abbrev pub decreases-next_monos : goal.decreases-next_monos
decreases-next_monos l = 9 * l.depth + 5

abbrev pub decreases-ix : goal.decreases-ix
decreases-ix l = 9 * l.depth + 6

abbrev pub decreases-bracketed : goal.decreases-bracketed
decreases-bracketed l = 9 * l.depth + 7

abbrev pub decreases-subscripted : goal.decreases-subscripted
decreases-subscripted l = 9 * l.depth + 8

-- what was read, and what is still read, are the whole
abbrev pub invariant-next_monos-loop-turn : goal.invariant-next_monos-loop-turn
invariant-next_monos-loop-turn l =
    let next = next_mono (atom l.depth) in
    made (λ others. l.fn.monos ++ others) (repeat (begins next) next.read l.fn.tokens) ≡ Rest (begins next) next.read l.monos (l._turn-end - l._turn) l.tokens
