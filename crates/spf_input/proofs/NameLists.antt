-- Whether a name is among names.
use Rattle.std.proofs.Common.{◌≡◌, ℕ, ◌+◌, ◌<◌, Bool, true, false, cond, List, [], ◌∷◌, ◌++◌, ◌||◌, length, take, get_or, refl, sym, ap, ◌∙◌, subst}
use Rattle.std.specs.Str.{bytes_eq}
use Rattle.std.proofs.lemmas.List.{take_more}
use Rattle.std.proofs.lemmas.List.Folds.{list_any-append}
use Rattle.std.proofs.lemmas.Slice.Eq.{bytes_eq-Decides}
use Rattle.indexmap.specs.IndexSet.{insert_key}
use Rattle.spf_input.specs.Rules.{is_among}

or_known : (a b : Bool) → (b ≡ true → a ≡ true) → a ≡ (a || b)
or_known true b known = refl
or_known false true known = known refl
or_known false false known = refl

or_assoc : (a b c : Bool) → ((a || b) || c) ≡ (a || (b || c))
or_assoc true b c = refl
or_assoc false b c = refl

or_false : (a : Bool) → (a || false) ≡ a
or_false true = refl
or_false false = refl

-- a name that is inserted is among the names from then on
among_insert : (names : List (List ℕ)) (key name : List ℕ) → is_among (insert_key bytes_eq names key) name ≡ (is_among names name || bytes_eq name key)
among_insert names key name = by (is_among names key) refl where
  by : (found : Bool) → is_among names key ≡ found → is_among (cond found names (names ++ key ∷ [])) name ≡ (is_among names name || bytes_eq name key)
  by true is = or_known (is_among names name) (bytes_eq name key) (λ same. subst (λ (n : List ℕ). is_among names n ≡ true) (sym ((bytes_eq-Decides name key).0 same)) is)
  by false is = list_any-append (bytes_eq name) names (key ∷ []) ∙ ap (λ b. is_among names name || b) (or_false (bytes_eq name key))

pub among_more : (before names set new : List (List ℕ)) (i : ℕ) (key name : List ℕ) → i < length names → key ≡ get_or names i key → new ≡ insert_key bytes_eq set key
    → is_among set name ≡ (is_among before name || is_among (take i names) name) → is_among new name ≡ (is_among before name || is_among (take (i + 1) names) name)
among_more before names set new i key name inside is inserted so_far =
    ap (λ (ns : List (List ℕ)). is_among ns name) inserted ∙ (among_insert set key name ∙ (ap (λ b. b || bytes_eq name key) so_far ∙ (or_assoc (is_among before name) (is_among (take i names) name) (bytes_eq name key) ∙ ap (λ b. is_among before name || b) (sym next))))
  where
    next : is_among (take (i + 1) names) name ≡ (is_among (take i names) name || bytes_eq name key)
    next = ap (λ (ns : List (List ℕ)). is_among ns name) (take_more names i key inside ∙ ap (λ (k : List ℕ). take i names ++ k ∷ []) (sym is)) ∙ (list_any-append (bytes_eq name) (take i names) (key ∷ []) ∙ ap (λ b. is_among (take i names) name || b) (or_false (bytes_eq name key)))
