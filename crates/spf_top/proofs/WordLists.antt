-- Which words are refused, over lists.
use Rattle.std.proofs.Common.{◌≡◌, ℕ, ◌<◌, List, [], ◌∷◌, map, length, get_or, refl, ap, ◌∙◌, arith}
use Rattle.spf_top.specs.Words.{IsRefusedAt, word_of}
use Rattle.spf_top.specs.declared.words.Asked.{Asked}
use Rattle.spf_top.specs.declared.words.Asked.TheVariants.{Calc}

-- no word
pub refused_none : {X : Type 0} (text : X → List ℕ) (xs : List X) → length xs ≡ 0 → IsRefusedAt (map text xs) 1
refused_none text [] len = record {
  first = omega arith;
  last = omega arith;
  before = (word_of Calc ∷ [], (Calc, refl));
  here = λ within begins. absurd (omega (arith, within));
  behind = λ _ accepted. let e = accepted.1 in absurd cc;
}
refused_none text (x ∷ xs) len = absurd (omega (arith, len))

-- a first word that is no command's
pub refused_first : {X : Type 0} (text : X → List ℕ) (xs : List X) (x : X) → 0 < length xs → x ≡ get_or xs 0 x → ((asked : Asked) → text x ≡ word_of asked → ⊥) → IsRefusedAt (map text xs) 1
refused_first text [] x len first unknown = absurd (omega (arith, len))
refused_first text (y ∷ ys) x len first unknown = record {
  first = omega arith;
  last = omega arith;
  before = (word_of Calc ∷ [], (Calc, refl));
  here = λ _ begins. let e = begins.1.1 in let same : text y ≡ word_of begins.1.0 = cc in absurd (unknown begins.1.0 (ap text first ∙ same));
  behind = λ e _. absurd (omega (arith, e));
}
