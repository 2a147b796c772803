-- The eleven rules. Each is said of a fact and of the facts before it, in the order of the text.
use Rattle.std.specs.Prelude.{ℕ, ◌≡◌, ◌+◌, ◌≤◌, nat_le, Bool, true, false, not, ◌&&◌, ◌||◌, List, [], ◌∷◌, ◌++◌, map, filter, reverse, take_while, count_by, slice_get, Some}
use Rattle.std.specs.List.{list_any}
use Rattle.std.specs.Str.{bytes_eq}
use Rattle.std.specs.Char.{is_ascii_uppercase}
use Rattle.spf_kernel.specs.Types.{Sort, Token, Note, Says, Spot}
use Rattle.spf_kernel.specs.Facts.{Fact, fact_of, facts_of}

-- ---- what a note says

abbrev pub is_param : Says → Bool
is_param (Says.Declared Sort.Param) = true
is_param _ = false

abbrev pub is_table : Says → Bool
is_table (Says.Declared Sort.Index) = true
is_table _ = false

abbrev pub is_data : Says → Bool
is_data (Says.Declared Sort.Data) = true
is_data _ = false

abbrev pub is_loop : Says → Bool
is_loop (Says.Declared Sort.Loop) = true
is_loop _ = false

abbrev pub is_naming : Says → Bool
is_naming (Says.Declared sort) = true
is_naming Says.Variable = true
is_naming _ = false

abbrev pub is_use : Says → Bool
is_use (Says.Used brackets spot) = true
is_use _ = false

abbrev pub is_target : Says → Bool
is_target (Says.Used brackets Spot.Target) = true
is_target _ = false

-- a name with brackets in a loop
abbrev pub is_site : Says → Bool
is_site (Says.Used brackets Spot.Head) = false
is_site (Says.Used brackets spot) = brackets
is_site _ = false

abbrev pub is_factor : Says → Bool
is_factor Says.Factor = true
is_factor _ = false

abbrev pub is_guard : Says → Bool
is_guard Says.Guard = true
is_guard _ = false

abbrev pub is_condition : Says → Bool
is_condition Says.Condition = true
is_condition _ = false

-- the tokens of the notes that say this
abbrev pub tokens_that : (Says → Bool) → List Note → List Token
tokens_that test notes = map (λ (note : Note). note.token) (filter (λ note. test note.says) notes)

-- the names that have this role
abbrev pub names_that : (Says → Bool) → List Fact → List (List ℕ)
names_that test facts = map (λ (fact : Fact). fact.name) (filter (λ (fact : Fact). test fact.says) facts)

abbrev pub count_that : (Says → Bool) → List Fact → ℕ
count_that test facts = count_by (λ (fact : Fact). test fact.says) facts

-- the facts behind the last one of this role, the nearest first
abbrev pub since : (Says → Bool) → List Fact → List Fact
since test facts = take_while (λ (fact : Fact). not (test fact.says)) (reverse facts)

-- ---- names

-- a name of this role was declared before
abbrev pub declares : (Says → Bool) → List Fact → List ℕ → Bool
declares test before name = list_any (bytes_eq name) (names_that test before)

abbrev pub is_declared : List Fact → List ℕ → Bool
is_declared before name = declares is_param before name || (declares is_table before name || (declares is_data before name || declares is_loop before name))

abbrev pub is_in_scope : List (List ℕ) → List ℕ → Bool
is_in_scope variables name = list_any (bytes_eq name) variables

abbrev pub is_known : List Fact → List (List ℕ) → List ℕ → Bool
is_known before variables name = is_declared before name || is_in_scope variables name

-- where an index array and where a data array may stand
abbrev pub takes_table : Spot → Bool
takes_table Spot.Body = true
takes_table Spot.Factor = true
takes_table spot = false

abbrev pub takes_data : Spot → Bool
takes_data Spot.Factor = true
takes_data Spot.Target = true
takes_data spot = false

-- the name is of a kind that may stand there, with brackets or without
abbrev pub fits : List Fact → List (List ℕ) → List ℕ → Bool → Spot → Bool
fits before variables name true spot = (takes_table spot && declares is_table before name) || (takes_data spot && declares is_data before name)
fits before variables name false spot = is_in_scope variables name || declares is_param before name

abbrev pub fits_as : List Fact → List (List ℕ) → List ℕ → Says → Bool
fits_as before variables name (Says.Used brackets spot) = fits before variables name brackets spot
fits_as before variables name _ = true

-- ---- the rules

-- 1: a declared name, loop name or variable has a letter from `A` to `Z`
abbrev pub has_capital : List Fact → Fact → Bool
has_capital before fact = is_naming fact.says && list_any is_ascii_uppercase fact.name

-- 2: it is a name that was declared before, or an inner variable with the name of the outer one
abbrev pub is_taken : List Fact → Fact → Bool
is_taken before fact = is_naming fact.says && is_known before fact.variables fact.name

-- 3: a name is used that was not declared before, and is no variable in scope
abbrev pub is_unknown : List Fact → Fact → Bool
is_unknown before fact = is_use fact.says && not (is_known before fact.variables fact.name)

-- 4: a known name is used that may not stand there
abbrev pub is_misused : List Fact → Fact → Bool
is_misused before fact = is_use fact.says && (is_known before fact.variables fact.name && not (fits_as before fact.variables fact.name fact.says))

abbrev pub is_large_number : Says → Bool
is_large_number Says.Large = true
is_large_number _ = false

-- 5: a number of an index expression passes its limit
abbrev pub is_large : List Fact → Fact → Bool
is_large before fact = is_large_number fact.says

abbrev pub late_name : List Fact → Says → Bool
late_name before (Says.Declared Sort.Param) = nat_le 64 (count_that is_param before)
late_name before (Says.Declared Sort.Loop) = false
late_name before (Says.Declared array) = nat_le 64 (count_that is_table before + count_that is_data before)
late_name before _ = false

-- 6: a parameter stands behind 64, or an array behind 64
abbrev pub is_late_name : List Fact → Fact → Bool
is_late_name before fact = late_name before fact.says

-- 7: a loop stands behind 32
abbrev pub is_late_loop : List Fact → Fact → Bool
is_late_loop before fact = is_loop fact.says && nat_le 32 (count_that is_loop before)

-- 8: an assignment stands behind 16 of its loop
abbrev pub is_late_target : List Fact → Fact → Bool
is_late_target before fact = is_target fact.says && nat_le 16 (count_that is_target (since is_loop before))

abbrev pub late_part : List Fact → Says → Bool
late_part before Says.Excess = true
late_part before Says.Factor = nat_le 64 (count_that is_factor (since is_target before))
late_part before _ = false

-- 9: a monomial stands behind as many as its index expression may have; a factor behind 64 of its value
abbrev pub is_late_part : List Fact → Fact → Bool
is_late_part before fact = late_part before fact.says

-- 10: a condition stands behind four of its `if`
abbrev pub is_late_condition : List Fact → Fact → Bool
is_late_condition before fact = is_condition fact.says && nat_le 4 (count_that is_condition (since is_guard before))

-- 11: a name with brackets stands behind 256 of the loops
abbrev pub is_late_site : List Fact → Fact → Bool
is_late_site before fact = is_site fact.says && nat_le 256 (count_that is_site before)

-- the rules from 1 on, of which the first four are about names
abbrev pub name_rules : List (List Fact → Fact → Bool)
name_rules = has_capital ∷ is_taken ∷ is_unknown ∷ is_misused ∷ []

abbrev pub limit_rules : List (List Fact → Fact → Bool)
limit_rules = is_large ∷ is_late_name ∷ is_late_loop ∷ is_late_target ∷ is_late_part ∷ is_late_condition ∷ is_late_site ∷ []

abbrev pub rules : List (List Fact → Fact → Bool)
rules = name_rules ++ limit_rules

module _ (texts : List (List ℕ)) where
  -- the token at `place` breaks the rule
  pub record Breaks (notes : List Note) (place rule : ℕ) : Type 0 where
    pub before : List Note
    pub note : Note
    pub after : List Note
    pub splits : notes ≡ before ++ note ∷ after
    pub there : note.token.at ≡ place
    pub test : List Fact → Fact → Bool
    pub number : (n : ℕ) × (rule ≡ n + 1) × (slice_get rules n ≡ Some test)
    pub broken : test (facts_of texts before) (fact_of texts note) ≡ true

  -- the least place at which a rule is broken, and the least rule that is broken there
  pub record IsFirstBreach (notes : List Note) (place rule : ℕ) : Type 0 where
    pub breaks : Breaks notes place rule
    pub least_place : (p r : ℕ) → Breaks notes p r → place ≤ p
    pub least_rule : (r : ℕ) → Breaks notes place r → rule ≤ r

  -- no rule is broken
  abbrev pub IsUnbroken : List Note → Type 0
  IsUnbroken notes = (place rule : ℕ) → ¬ Breaks notes place rule
