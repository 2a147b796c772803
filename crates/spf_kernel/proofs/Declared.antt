-- Which names were declared, read off the sets of them.
use Rattle.spf_kernel.proofs.Common.{◌≡◌, ℕ, Bool, true, false, List, [], ◌∷◌, ◌++◌, ◌||◌, fold, refl, ap, sym, ◌∙◌, arith, list_any-append, bytes_eq-Decides, list_any, bytes_eq, insert_key, Before, Fact, is_param, is_table, is_data, is_loop, declares, names_that, cond, once, before_of}

pub or_false : (b : Bool) → b ≡ b || false
or_false b = grind arith

or_assoc : (a b c : Bool) → (a || b) || c ≡ a || (b || c)
or_assoc a b c = grind arith

module _ (name : List ℕ) where
  -- a name that is there already brings none
  there : (names : List (List ℕ)) (new : List ℕ) → list_any (bytes_eq new) names ≡ true → (b : Bool) → bytes_eq name new ≡ b
      → list_any (bytes_eq name) names ≡ list_any (bytes_eq name) names || b
  there names new found true e =
      let same : name ≡ new = (bytes_eq-Decides name new).0 e in
      let known : list_any (bytes_eq name) names ≡ true = ap (λ n. list_any (bytes_eq n) names) same ∙ found in
      known ∙ sym (ap (λ b. b || true) known)
  there names new found false e = or_false (list_any (bytes_eq name) names)

  inserted : (names : List (List ℕ)) (new : List ℕ) → list_any (bytes_eq name) (insert_key bytes_eq names new) ≡ list_any (bytes_eq name) names || bytes_eq name new
  inserted names new = by (list_any (bytes_eq new) names) refl
    where
      by : (b : Bool) → list_any (bytes_eq new) names ≡ b → list_any (bytes_eq name) (cond b names (names ++ new ∷ [])) ≡ list_any (bytes_eq name) names || bytes_eq name new
      by true found = there names new found (bytes_eq name new) refl
      by false e = list_any-append (bytes_eq name) names (new ∷ []) ∙ ap (λ b. list_any (bytes_eq name) names || b) (sym (or_false (bytes_eq name new)))

  folded : (kept names : List (List ℕ)) → list_any (bytes_eq name) (fold (insert_key bytes_eq) kept names) ≡ list_any (bytes_eq name) kept || list_any (bytes_eq name) names
  folded kept [] = or_false (list_any (bytes_eq name) kept)
  folded kept (new ∷ names) =
      folded (insert_key bytes_eq kept new) names
      ∙ (ap (λ b. b || list_any (bytes_eq name) names) (inserted kept new) ∙ or_assoc (list_any (bytes_eq name) kept) (bytes_eq name new) (list_any (bytes_eq name) names))

  pub among_once : (names : List (List ℕ)) → list_any (bytes_eq name) (once names) ≡ list_any (bytes_eq name) names
  unfolding once
  among_once names = folded [] names

-- what the sets say of a name
pub record IsKnown (facts : List Fact) (name : List ℕ) (before : Before) : Type 0 where
  pub params : list_any (bytes_eq name) before.params ≡ declares is_param facts name
  pub tables : list_any (bytes_eq name) before.tables ≡ declares is_table facts name
  pub data_arrays : list_any (bytes_eq name) before.data_arrays ≡ declares is_data facts name
  pub loops : list_any (bytes_eq name) before.loops ≡ declares is_loop facts name

pub known_from : (facts : List Fact) (name : List ℕ) (before : Before) → before ≡ before_of facts → IsKnown facts name before
unfolding before_of
known_from facts name before e = record {
  params = ap (λ (b : Before). list_any (bytes_eq name) b.params) e ∙ among_once name (names_that is_param facts);
  tables = ap (λ (b : Before). list_any (bytes_eq name) b.tables) e ∙ among_once name (names_that is_table facts);
  data_arrays = ap (λ (b : Before). list_any (bytes_eq name) b.data_arrays) e ∙ among_once name (names_that is_data facts);
  loops = ap (λ (b : Before). list_any (bytes_eq name) b.loops) e ∙ among_once name (names_that is_loop facts);
}
