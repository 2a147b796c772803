-- Where no rule is broken, each used name fits the place that it stands at, by all that is declared.
use Rattle.spf_kernel.proofs.Common.{◌≡◌, ℕ, Bool, true, false, not, ◌||◌, ◌&&◌, List, [], ◌∷◌, ◌++◌, refl, ap, ◌∙◌, subst, true≢false, append_assoc, arith, ⊤, list_any-append, list_any, AllByRecursion, bytes_eq, Note, Says, Used, Large, Excess, Spot, Fact, fact_of, facts_of, IsUnbroken, is_data, is_in_scope, is_param, is_table, names_that, takes_data, takes_table, is_known, declares, fits}
use Rattle.spf_kernel.proofs.Adding.{names_append, more}
use Rattle.spf_kernel.proofs.Unbroken.{AreSound, Keeps, sound}

-- neither unknown nor misused
known_and_used : (known used : Bool) → not known ≡ false → known && not used ≡ false → used ≡ true
known_and_used known used e f = grind arith

either : (a b c d : Bool) → (a ≡ true → c ≡ true) → (b ≡ true → d ≡ true) → a || b ≡ true → c || d ≡ true
either true b c d left right e = ap (λ x. x || d) (left refl)
either false b true d left right e = refl
either false b false d left right e = right e

both : (a b c : Bool) → (b ≡ true → c ≡ true) → a && b ≡ true → a && c ≡ true
both a b c more e = grind arith

-- what is declared before is declared in all
declared_more : (test : Says → Bool) (before after : List Fact) (name : List ℕ) → declares test before name ≡ true → declares test (before ++ after) name ≡ true
declared_more test before after name e =
    ap (list_any (bytes_eq name)) (names_append test before after)
    ∙ list_any-append (bytes_eq name) (names_that test before) (names_that test after)
    ∙ ap (λ b. b || declares test after name) e

fits_more : (before after : List Fact) (variables : List (List ℕ)) (name : List ℕ) (brackets : Bool) (spot : Spot) → fits before variables name brackets spot ≡ true
    → fits (before ++ after) variables name brackets spot ≡ true
fits_more before after variables name true spot e =
    let all = before ++ after in
    either (takes_table spot && declares is_table before name) (takes_data spot && declares is_data before name)
    (takes_table spot && declares is_table all name) (takes_data spot && declares is_data all name)
    (both (takes_table spot) (declares is_table before name) (declares is_table all name) (declared_more is_table before after name))
    (both (takes_data spot) (declares is_data before name) (declares is_data all name) (declared_more is_data before after name)) e
fits_more before after variables name false spot e =
    either (is_in_scope variables name) (declares is_param before name) (is_in_scope variables name) (declares is_param (before ++ after) name)
    (λ e. e) (declared_more is_param before after name) e

module _ (facts : List Fact) where
  -- a used name fits, and nothing is large or in excess
  abbrev pub Fits : List (List ℕ) → List ℕ → Says → Type 0
  Fits variables name (Used brackets spot) = fits facts variables name brackets spot ≡ true
  Fits variables name Large = ⊥
  Fits variables name Excess = ⊥
  Fits variables name says = ⊤

  abbrev pub IsFit : Fact → Type 0
  IsFit fact = Fits fact.variables fact.name fact.says

fact_fits : (before : List Fact) (variables : List (List ℕ)) (name : List ℕ) (says : Says) (after : List Fact) → Keeps before (record { says = says; name = name; variables = variables })
    → Fits (before ++ record { says = says; name = name; variables = variables } ∷ after) variables name says
fact_fits before variables name (Used brackets spot) after keeps =
    let here = known_and_used (is_known before variables name) (fits before variables name brackets spot) (keeps 2 _ refl) (keeps 3 _ refl) in
    fits_more before (record { says = Used brackets spot; name = name; variables = variables } ∷ after) variables name brackets spot here
fact_fits before variables name Large after keeps = true≢false (keeps 4 _ refl)
fact_fits before variables name Excess after keeps = true≢false (keeps 8 _ refl)
fact_fits before variables name says after keeps = tt

rest_fit : (front rest : List Fact) → AreSound front rest → AllByRecursion (IsFit (front ++ rest)) rest
rest_fit front [] sound = tt
rest_fit front (fact ∷ rest) sound = (
  fact_fits front fact.variables fact.name fact.says rest sound.0,
  subst (λ (all : List Fact). AllByRecursion (IsFit all) rest) (append_assoc front (fact ∷ []) rest) (rest_fit (front ++ fact ∷ []) rest sound.1),
)

-- ---- told of notes

abbrev pub IsFitting : List (List ℕ) → List Fact → Note → Type 0
IsFitting texts facts note = IsFit facts (fact_of texts note)

abbrev pub AreFitting : List (List ℕ) → List Fact → List Note → Type 0
AreFitting texts facts notes = AllByRecursion (IsFitting texts facts) notes

pub all_fit : (texts : List (List ℕ)) (notes : List Note) → IsUnbroken texts notes → AreFitting texts (facts_of texts notes) notes
all_fit texts notes unbroken = by notes (rest_fit [] (facts_of texts notes) (sound texts notes unbroken)) where
  by : (rest : List Note) → AllByRecursion (IsFit (facts_of texts notes)) (facts_of texts rest) → AreFitting texts (facts_of texts notes) rest
  by [] each = tt
  by (note ∷ rest) each = (each.0, by rest each.1)
