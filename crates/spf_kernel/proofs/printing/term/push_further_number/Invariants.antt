use Rattle.spf_kernel.proofs.Common.{◌≡◌, ◌++◌, ◌∷◌, [], flat_map, replicate, decimal, limit, sign_word}
use Rattle.spf_kernel.proofs.printing.term.push_further_number.Given as goal

abbrev pub invariant-loop-piece : goal.invariant-loop-piece
invariant-loop-piece l = l.words ≡ l.fn.words ++ flat_map (λ piece. sign_word l.minus ∷ decimal piece ∷ []) (replicate l._piece limit)
