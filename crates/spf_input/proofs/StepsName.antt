-- `steps` is a name.
use Rattle.std.proofs.Common.{ℕ, ◌≤◌, codes, inl, arith}
use Rattle.std.proofs.lemmas.List.Elements.{All-from_recursion}
use Rattle.spf_base.specs.Word.{IsName, IsWordByte}

small_letter : (b : ℕ) → 97 ≤ b → b ≤ 122 → IsWordByte b
small_letter b low high = inl (inl (low, high))

pub steps_is_name : IsName (codes "steps")
steps_is_name = record {
  word = (inl (omega arith, omega arith), All-from_recursion IsWordByte (codes "teps") (t, (e, (p, (s, tt)))));
  short = omega arith;
}
  where
    t : IsWordByte 116
    t = small_letter 116 (omega arith) (omega arith)

    e : IsWordByte 101
    e = small_letter 101 (omega arith) (omega arith)

    p : IsWordByte 112
    p = small_letter 112 (omega arith) (omega arith)

    s : IsWordByte 115
    s = small_letter 115 (omega arith) (omega arith)
