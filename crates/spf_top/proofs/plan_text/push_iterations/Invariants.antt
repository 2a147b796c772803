use Rattle.std.proofs.Common.{◌≡◌, ◌++◌, ◌∷◌, ◌+ℤ◌, pos}
use Rattle.std.specs.Prelude.{flat_map}
use Rattle.std.specs.Fmt.{signed_decimal}
use Rattle.std.specs.List.{range_with_len}
use Rattle.spf_perm.specs.Perm.{at}
use Rattle.spf_top.proofs.plan_text.push_iterations.Given as goal

abbrev pub invariant-loop-position : goal.invariant-loop-position
invariant-loop-position l = l.text.items ≡ l.fn.text.items ++ flat_map (λ position. 32 ∷ signed_decimal (l.each.lower +ℤ pos (at l.sources position))) (range_with_len 0 l.position)
