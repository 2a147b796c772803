-- Signs are read again from the words that they are printed as.
use Rattle.spf_kernel.proofs.Common.{Becomes, Compare, Kind, ◌≡◌, ℕ, ◌≤◌, ◌^◌, ◌==◌, Bool, true, false, if◌then◌else◌, List, [], ◌∷◌, is_some, decimal, codes, refl, bundle_words, same_kind, Production, token, flag, one_of, Token, small_fixed, symbol_fixed, word_alone, on_left, on_right, Trend, sign_word, lead_words, becomes_word, compare_word, trend_words, optional, number_fixed, number_value, no_words}
use Rattle.spf_kernel.specs.Productions as syntax
use Rattle.spf_kernel.proofs.Written.{AreText, IsFixedWord}

-- the words are a text of the production that is read as this
pub record IsRead {A B : Type 0} {empty : Bool} (p : Production same_kind empty A) (seen : A → B) (value : B) (words : List (List ℕ)) (at : ℕ) : Type 0 where
  pub text : AreText p.shape.grammar words at
  pub same : seen (p.make text.derivation) ≡ value

plus_word : IsFixedWord Kind.Plus (codes "+")
plus_word = symbol_fixed bundle_words Kind.Plus (codes "+") refl refl

minus_word : IsFixedWord Kind.Minus (codes "-")
minus_word = symbol_fixed bundle_words Kind.Minus (codes "-") refl refl

-- the sign in front of a further monomial
pub sign_written : (minus : Bool) (at : ℕ) → IsRead syntax.sign is_some minus (sign_word minus ∷ []) at
unfolding syntax.sign
sign_written true at = record { text = on_right (word_alone at minus_word); same = refl }
sign_written false at = record { text = on_left (word_alone at plus_word); same = refl }

-- the `-` that may stand in front of the first
pub lead_written : (minus : Bool) (at : ℕ) → IsRead (optional (token Kind.Minus)) is_some minus (lead_words minus) at
lead_written true at = record { text = on_left (word_alone at minus_word); same = refl }
lead_written false at = record { text = on_right (no_words at); same = refl }

-- the same of summands
pub summand_sign_written : (minus : Bool) (at : ℕ) → IsRead (one_of (Kind.Plus, false) ((Kind.Minus, true) ∷ [])) (λ b. b) minus (sign_word minus ∷ []) at
summand_sign_written true at = record { text = on_right (word_alone at minus_word); same = refl }
summand_sign_written false at = record { text = on_left (word_alone at plus_word); same = refl }

pub summand_lead_written : (minus : Bool) (at : ℕ) → IsRead (flag Kind.Minus) (λ b. b) minus (lead_words minus) at
summand_lead_written true at = record { text = on_left (word_alone at minus_word); same = refl }
summand_lead_written false at = record { text = on_right (no_words at); same = refl }

pub becomes_written : (sign : Becomes) (at : ℕ) → IsRead syntax.becomes (λ x. x) sign (becomes_word sign ∷ []) at
unfolding syntax.becomes
becomes_written Becomes.Add at = record { text = on_right (word_alone at (symbol_fixed bundle_words Kind.PlusEquals (codes "+=") refl refl)); same = refl }
becomes_written Becomes.Put at = record { text = on_left (word_alone at (symbol_fixed bundle_words Kind.Equals (codes "=") refl refl)); same = refl }

pub compare_written : (sign : Compare) (at : ℕ) → IsRead syntax.compare (λ x. x) sign (compare_word sign ∷ []) at
unfolding syntax.compare
compare_written Compare.Equal at = record { text = on_left (word_alone at (symbol_fixed bundle_words Kind.Equal (codes "==") refl refl)); same = refl }
compare_written Compare.Unequal at = record { text = on_right (on_left (word_alone at (symbol_fixed bundle_words Kind.Unequal (codes "!=") refl refl))); same = refl }
compare_written Compare.Less at = record { text = on_right (on_right (on_left (word_alone at (symbol_fixed bundle_words Kind.Less (codes "<") refl refl)))); same = refl }
compare_written Compare.AtMost at = record { text = on_right (on_right (on_right (on_left (word_alone at (symbol_fixed bundle_words Kind.AtMost (codes "<=") refl refl))))); same = refl }
compare_written Compare.Greater at = record { text = on_right (on_right (on_right (on_right (on_left (word_alone at (symbol_fixed bundle_words Kind.Greater (codes ">") refl refl)))))); same = refl }
compare_written Compare.AtLeast at = record { text = on_right (on_right (on_right (on_right (on_right (word_alone at (symbol_fixed bundle_words Kind.AtLeast (codes ">=") refl refl)))))); same = refl }

pub trend_written : (trend : Trend) (at : ℕ) → IsRead syntax.trend (λ x. x) trend (trend_words trend) at
unfolding syntax.trend
trend_written Trend.Free at = record { text = on_right (no_words at); same = refl }
trend_written Trend.Monotone at = record { text = on_left (on_left (word_alone at (small_fixed bundle_words Kind.Monotone (codes "monotone") refl refl))); same = refl }
trend_written Trend.Strict at = record { text = on_left (on_right (word_alone at (small_fixed bundle_words Kind.Strict (codes "strict") refl refl))); same = refl }

-- ---- numbers

-- the text of n is a number of this value
pub number_written : (n at : ℕ) → n ≤ 2 ^ 63 → IsRead syntax.number (λ (token : Token). token.value) n (decimal n ∷ []) at
unfolding syntax.number
number_written n at small = by (n == 1) (number_fixed bundle_words n small) where
  by : (b : Bool) → IsFixedWord (if b then Kind.One else Kind.Number) (decimal n) → IsRead syntax.number (λ (token : Token). token.value) n (decimal n ∷ []) at
  by true fixed = record { text = on_left (word_alone at fixed); same = number_value bundle_words at n small }
  by false fixed = record { text = on_right (word_alone at fixed); same = number_value bundle_words at n small }
