-- Parameters that keep rule 4 are within 2^22, so that sizes, ranges, `steps` and outer bounds don't pass 64 bits.
use Rattle.std.proofs.Common.{◌≡◌, ℤ, pos, ◌^◌, List, [], ◌∷◌, None, All, arith}
use Rattle.std.specs.List.{AllByRecursion}
use Rattle.std.proofs.lemmas.Int.{ints}
use Rattle.std.proofs.lemmas.List.Elements.{All-from_recursion, All-nil}
use Rattle.spf_term.specs.Bounded.{AreWithin, IsWithin}
use Rattle.spf_kernel.specs.declared.tree.Tree.{Tree}
use Rattle.spf_store.specs.Accepted.{IsFromTo}
use Rattle.spf_input.specs.Given.{Given}
use Rattle.spf_input.specs.Numbers.{outer_env, param_values}
use Rattle.spf_input.specs.Rules.{bad_parameter}
use Rattle.spf_input.proofs.Accepting.{natural}

one_within : (number : ℤ) → IsFromTo (pos 0) (pos 4194304) number → IsWithin (2 ^ 22) number
one_within number natural = omega (arith, ints, natural.at_least, natural.at_most)

each_within : (numbers : List ℤ) → AllByRecursion (IsFromTo (pos 0) (pos 4194304)) numbers → AllByRecursion (IsWithin (2 ^ 22)) numbers
each_within [] each = tt
each_within (number ∷ numbers) each = (one_within number each.0, each_within numbers each.1)

pub outer_within : (tree : Tree) (given : List Given) → bad_parameter tree given ≡ None → AreWithin (outer_env tree given) []
outer_within tree given kept = record {
  params = All-from_recursion (IsWithin (2 ^ 22)) (param_values tree given) (each_within (param_values tree given) (natural tree given kept));
  tables = All-nil (All (IsWithin (2 ^ 22)));
  values = All-nil (IsWithin (2 ^ 22));
}
