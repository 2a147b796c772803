-- Where no rule is broken, each fact keeps each rule behind those before: the declared names are apart, and at most 64 of a sort.
use Rattle.spf_kernel.proofs.Common.{Sort, ◌≡◌, ℕ, ◌+◌, ◌≤◌, Bool, true, false, nat_le, ◌||◌, ◌&&◌, List, [], ◌∷◌, ◌++◌, length, filter, slice_get, Some, refl, ap, sym, ◌∙◌, true≢false, append_assoc, append-nil, subst, ◌⊎◌, inl, inr, ⊎_elim, arith, ⊤, nat_tests, length-map, map-append, map_push, bytes_eq, insert_key, Before, Note, Says, Declared, Variable, Fact, fact_of, facts_of, names_of, IsUnbroken, count_that, is_data, is_in_scope, is_loop, is_naming, is_param, is_site, is_table, names_that, is_known, declares, cond, false_from_ne_true, length-filter, before_of, once, IsShort}
use Rattle.spf_kernel.specs.Rules.{late_name, rules}
use Rattle.spf_kernel.proofs.Adding.{names_more, once_names_more, with_name, count_more, more}

abbrev pub Keeps : List Fact → Fact → Type 0
Keeps before fact = (n : ℕ) (test : List Fact → Fact → Bool) → slice_get rules n ≡ Some test → test before fact ≡ false

-- behind these facts, each of the others keeps the rules
abbrev pub AreSound : List Fact → List Fact → Type 0
AreSound before [] = ⊤
AreSound before (fact ∷ facts) = Keeps before fact × AreSound (before ++ fact ∷ []) facts

sound_there : (front before : List Fact) (fact : Fact) (after : List Fact) → AreSound front (before ++ fact ∷ after) → Keeps (front ++ before) fact
sound_there front [] fact after sound = rw append-nil sound.0
sound_there front (x ∷ before) fact after sound = subst (λ (seen : List Fact). Keeps seen fact) (append_assoc front (x ∷ []) before) (sound_there (front ++ x ∷ []) before fact after sound.1)

module _ (texts : List (List ℕ)) (notes : List Note) where
  pub sound : IsUnbroken texts notes → AreSound [] (facts_of texts notes)
  sound unbroken = by [] notes refl where
    by : (seen rest : List Note) → notes ≡ seen ++ rest → AreSound (facts_of texts seen) (facts_of texts rest)
    by seen [] split = tt
    by seen (note ∷ rest) split = (
      λ n test there. false_from_ne_true _ (λ broken.
          unbroken note.token.at (n + 1) (record { before = seen; note = note; after = rest; splits = split; there = refl; test = test; number = (n, refl, there); broken = broken })),
      subst (λ (front : List Fact). AreSound front (facts_of texts rest)) (map_push (fact_of texts) seen note) (by (seen ++ note ∷ []) rest (split ∙ sym (append_assoc seen (note ∷ []) rest))),
    )

  pub unbroken_by : AreSound [] (facts_of texts notes) → IsUnbroken texts notes
  unbroken_by sound place rule b =
      let split = ap (facts_of texts) b.splits ∙ map-append (fact_of texts) b.before (b.note ∷ b.after) in
      let keeps = sound_there [] (facts_of texts b.before) (fact_of texts b.note) (facts_of texts b.after) (subst (AreSound []) split sound) in
      true≢false (sym b.broken ∙ keeps b.number.0 b.test b.number.2)

pub none_unbroken : (texts : List (List ℕ)) → IsUnbroken texts []
none_unbroken texts = unbroken_by texts [] tt

-- what holds of no facts, and with each fact more, holds of all
grown : (P : List Fact → Type 0) → ((before : List Fact) (fact : Fact) → Keeps before fact → P before → P (before ++ fact ∷ [])) → (front rest : List Fact) → P front → AreSound front rest → P (front ++ rest)
grown P step front [] here sound = subst P (sym (append-nil front)) here
grown P step front (fact ∷ rest) here sound = subst P (append_assoc front (fact ∷ []) rest) (grown P step (front ++ fact ∷ []) rest (step front fact sound.0 here) sound.1)

-- ---- how many there are

-- at most 64 parameters, and at most 64 arrays
pub record IsFew (facts : List Fact) : Type 0 where
  pub params : count_that is_param facts ≤ 64
  pub arrays : count_that is_table facts + count_that is_data facts ≤ 64

below : (limit n : ℕ) → nat_le limit n ≡ false → n + 1 ≤ limit
below limit n e = grind (arith, nat_tests)

-- one more that is counted stands below the limit
one_more : (limit : ℕ) (counts : Bool) (n : ℕ) → counts && nat_le limit n ≡ false → n ≤ limit → more counts n ≤ limit
one_more limit true n e few = below limit n e
one_more limit false n e few = few

few_after : (before : List Fact) (says : Says) → late_name before says ≡ false → IsFew before
    → (more (is_param says) (count_that is_param before) ≤ 64) × (more (is_table says) (count_that is_table before) + more (is_data says) (count_that is_data before) ≤ 64)
few_after before (Declared Sort.Param) e few = (below 64 (count_that is_param before) e, few.arrays)
few_after before (Declared Sort.Index) e few = (few.params, omega (arith, below 64 (count_that is_table before + count_that is_data before) e))
few_after before (Declared Sort.Data) e few = (few.params, omega (arith, below 64 (count_that is_table before + count_that is_data before) e))
few_after before says e few = (few.params, few.arrays)

few_more : (before : List Fact) (fact : Fact) → Keeps before fact → IsFew before → IsFew (before ++ fact ∷ [])
few_more before fact keeps few =
    let after = few_after before fact.says (keeps 5 _ refl) few in
    record {
      params = rw (count_more is_param before fact) after.0;
      arrays = rw (count_more is_table before fact, count_more is_data before fact) after.1;
    }

pub few : (facts : List Fact) → AreSound [] facts → IsFew facts
few facts sound = grown IsFew few_more [] facts (record { params = omega arith; arrays = omega arith }) sound

-- what a rule of its own bounds
at_most : (limit : ℕ) (test : Says → Bool) → ((before : List Fact) (fact : Fact) → Keeps before fact → test fact.says && nat_le limit (count_that test before) ≡ false)
    → (facts : List Fact) → AreSound [] facts → count_that test facts ≤ limit
at_most limit test rule facts sound = grown (λ seen. count_that test seen ≤ limit) step [] facts (omega arith) sound where
  step : (before : List Fact) (fact : Fact) → Keeps before fact → count_that test before ≤ limit → count_that test (before ++ fact ∷ []) ≤ limit
  step before fact keeps few = rw (count_more test before fact) (one_more limit (test fact.says) (count_that test before) (rule before fact keeps) few)

-- at most 32 loops
pub few_loops : (facts : List Fact) → AreSound [] facts → count_that is_loop facts ≤ 32
few_loops = at_most 32 is_loop (λ before fact keeps. keeps 6 _ refl)

-- at most 256 names with brackets stand in the loops
pub few_sites : (facts : List Fact) → AreSound [] facts → count_that is_site facts ≤ 256
few_sites = at_most 256 is_site (λ before fact keeps. keeps 10 _ refl)

pub how_many : (test : Says → Bool) (facts : List Fact) → length (names_that test facts) ≡ count_that test facts
how_many test facts = length-map (filter (λ (fact : Fact). test fact.says) facts) (λ (fact : Fact). fact.name) ∙ length-filter (λ (fact : Fact). test fact.says) facts

-- ---- names that are apart

all_lack : (p t d l o : Bool) → (p || (t || (d || l))) || o ≡ false → (p ≡ false) × (t ≡ false) × (d ≡ false)
all_lack p t d l o e = (grind arith, grind arith, grind arith)

not_second : (a b : Bool) → a && b ≡ false → a ≡ true → b ≡ false
not_second a b e holds = grind arith

-- a fact declares one of these sorts only where it gives a name
pub naming : (says : Says) → (is_naming says ≡ true) ⊎ ((is_param says ≡ false) × (is_table says ≡ false) × (is_data says ≡ false))
naming (Declared sort) = inl refl
naming Variable = inl refl
naming says = inr (refl, refl, refl)

-- a declared name was not declared before
new_name : (before : List Fact) (fact : Fact) → Keeps before fact → is_naming fact.says ≡ true
    → (declares is_param before fact.name ≡ false) × (declares is_table before fact.name ≡ false) × (declares is_data before fact.name ≡ false)
new_name before fact keeps names =
    all_lack (declares is_param before fact.name) (declares is_table before fact.name) (declares is_data before fact.name) (declares is_loop before fact.name)
    (is_in_scope fact.variables fact.name) (not_second (is_naming fact.says) (is_known before fact.variables fact.name) (keeps 1 _ refl) names)

once_none : once [] ≡ []
unfolding once
once_none = refl

module _ (facts : List Fact) (sound : AreSound [] facts) where
  -- where a name is new whenever it is declared to be this, the names are apart
  apart : (test : Says → Bool) → ((before : List Fact) (fact : Fact) → Keeps before fact → test fact.says ≡ true → declares test before fact.name ≡ false)
      → once (names_that test facts) ≡ names_that test facts
  apart test new = grown (λ seen. once (names_that test seen) ≡ names_that test seen) step [] facts once_none sound
    where
      step : (before : List Fact) (fact : Fact) → Keeps before fact → once (names_that test before) ≡ names_that test before
          → once (names_that test (before ++ fact ∷ [])) ≡ names_that test (before ++ fact ∷ [])
      step before fact keeps here = once_names_more test before fact ∙ (by (test fact.says) (new before fact keeps) ∙ sym (names_more test before fact))
        where
          names : List (List ℕ)
          names = names_that test before

          by : (b : Bool) → (b ≡ true → declares test before fact.name ≡ false) → with_name b (once names) fact.name ≡ cond b (names ++ fact.name ∷ []) names
          by true lacks = ap (λ (ns : List (List ℕ)). insert_key bytes_eq ns fact.name) here ∙ ap (λ (found : Bool). cond found names (names ++ fact.name ∷ [])) (lacks refl)
          by false lacks = here

  module _ (before : Before) (stands : before ≡ before_of facts) where
    params_are : before.params ≡ names_that is_param facts
    unfolding before_of
    params_are = ap (λ (b : Before). b.params) stands ∙ apart is_param (λ seen fact keeps holds. (new_name seen fact keeps (⊎_elim (λ names. names) (λ other. absurd (true≢false (sym holds ∙ other.0))) (naming fact.says))).0)

    tables_are : before.tables ≡ names_that is_table facts
    unfolding before_of
    tables_are = ap (λ (b : Before). b.tables) stands ∙ apart is_table (λ seen fact keeps holds. (new_name seen fact keeps (⊎_elim (λ names. names) (λ other. absurd (true≢false (sym holds ∙ other.1))) (naming fact.says))).1)

    data_arrays_are : before.data_arrays ≡ names_that is_data facts
    unfolding before_of
    data_arrays_are = ap (λ (b : Before). b.data_arrays) stands ∙ apart is_data (λ seen fact keeps holds. (new_name seen fact keeps (⊎_elim (λ names. names) (λ other. absurd (true≢false (sym holds ∙ other.2))) (naming fact.says))).2)

    -- the sets are the declared names
    pub are_names : record { params = before.params; tables = before.tables; data_arrays = before.data_arrays } ≡ names_of facts
    are_names = λ i. record { params = params_are i; tables = tables_are i; data_arrays = data_arrays_are i }

    -- and few
    pub are_short : IsShort (record { params = before.params; tables = before.tables; data_arrays = before.data_arrays })
    are_short = record {
      params = rw (params_are, how_many is_param facts) (few facts sound).params;
      tables = rw (tables_are, how_many is_table facts) (omega (arith, (few facts sound).arrays));
      data_arrays = rw (data_arrays_are, how_many is_data facts) (omega (arith, (few facts sound).arrays));
    }
