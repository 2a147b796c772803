-- Expressions by their depth.
use Rattle.std.proofs.Common.{◌≡◌, ℕ, zero, suc, ◌<◌, ◌-◌, List, ap, arith}
use Rattle.spf_lex.specs.Language.{Lexed}
use Rattle.spf_reltext.specs.declared.kind.CalcKind.{CalcKind}
use Rattle.spf_calc.specs.Productions.{exp, nested}

pub exp_nested : (depth : ℕ) (tokens : List (Lexed CalcKind)) → 0 < depth → (exp depth).read tokens ≡ (nested (exp (depth - 1))).read tokens
unfolding exp
exp_nested zero tokens deep = absurd (omega arith)
exp_nested (suc depth) tokens deep =
    let e : depth ≡ suc depth - 1 = omega arith in
    ap (λ (n : ℕ). (nested (exp n)).read tokens) e
