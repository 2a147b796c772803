-- How long an indentation is.
use Rattle.std.proofs.Common.{◌≡◌, ◌≤◌, ◌+◌, ℕ, zero, suc, List, ◌++◌, length, ap, arith, length-append}
use Rattle.spf_emit.specs.Text.{indent}

indented : (depth : ℕ) → length (indent depth) ≡ depth + depth
indented zero = grind arith
indented (suc depth) = omega (arith, indented depth)

-- a text behind which there is one is as long
pub depth_within : (before text : List ℕ) (depth : ℕ) → text ≡ before ++ indent depth → depth + depth ≤ length text
depth_within before text depth is = omega (arith, ap length is, length-append before (indent depth), indented depth)
