-- Atoms and factors where brackets and parentheses may still stand.
use Rattle.spf_kernel.proofs.Common.{RawFactor, ◌≡◌, ℕ, zero, suc, ◌-◌, ◌<◌, true, false, List, refl, ap, arith, made, Lexed, begins, Kind, atom, fact, ix, nested, number, subscripted, value}

pub atom_deep : (depth : ℕ) (tokens : List (Lexed Kind)) → 0 < depth → (atom depth).read tokens ≡ (subscripted (ix (depth - 1))).read tokens
unfolding atom ix
atom_deep zero tokens deep = absurd (omega arith)
atom_deep (suc depth) tokens deep =
    let e : depth ≡ suc depth - 1 = omega arith in
    ap (λ (n : ℕ). (subscripted (ix n)).read tokens) e

pub fact_numbered : (depth : ℕ) (tokens : List (Lexed Kind)) → begins number tokens ≡ true → (fact depth).read tokens ≡ made RawFactor.Number (number.read tokens)
unfolding fact
fact_numbered zero tokens e = rw e refl
fact_numbered (suc depth) tokens e = rw e refl

pub fact_nested : (depth : ℕ) (tokens : List (Lexed Kind)) → begins number tokens ≡ false → 0 < depth → (fact depth).read tokens ≡ (nested (value (depth - 1))).read tokens
unfolding fact value
fact_nested zero tokens e deep = absurd (omega arith)
fact_nested (suc depth) tokens e deep =
    let same : depth ≡ suc depth - 1 = omega arith in
    rw e (ap (λ (n : ℕ). (nested (value n)).read tokens) same)
