-- Traces that do the same where elements go to other places.
use Rattle.std.proofs.Common.{◌≡◌, ℕ, ◌+◌, ℤ, Bool, true, false, List, [], ◌∷◌, ◌++◌, map, refl, ap, sym, ◌∙◌}
use Rattle.std.specs.Prelude.{if◌then◌else◌}
use Rattle.std.specs.List.{AllByRecursion, flat_map}
use Rattle.std.proofs.lemmas.List.{map-append}
use Rattle.spf_term.specs.Environment.{Environment}
use Rattle.spf_term.specs.Value.{Entry}
use Rattle.spf_touch.specs.Renaming.{Renaming, renamed_access, unpacked}
use Rattle.spf_store.specs.Accesses.{accesses_of}
use Rattle.spf_store.specs.Effect.{assigned, effect}
use Rattle.spf_store.specs.Event.{Event, Turn, Bound, Read, Access, Store}
use Rattle.spf_store.specs.Needs.{Allows}
use Rattle.spf_store.specs.Trace.{one_by_one}

pub split_each : {A : Type 0} (P : A → Type 0) (xs ys : List A) → AllByRecursion P (xs ++ ys) → AllByRecursion P xs × AllByRecursion P ys
split_each P [] ys each = (tt, each)
split_each P (x ∷ xs) ys each = let rest = split_each P xs ys each.1 in ((each.0, rest.0), rest.1)

pub join_each : {A : Type 0} (P : A → Type 0) (xs ys : List A) → AllByRecursion P xs → AllByRecursion P ys → AllByRecursion P (xs ++ ys)
join_each P [] ys first second = second
join_each P (x ∷ xs) ys first second = (first.0, join_each P xs ys first.1 second)

-- the event may come, if the cells own what it accesses
abbrev pub May : List ℕ → Event → Type 0
May starts = Allows starts (λ e. true)

module _ (env : Environment) (starts : List ℕ) where
  effect-append : (first second : List Event) (values : ℕ → ℤ) → effect env starts (first ++ second) values ≡ effect env starts second (effect env starts first values)
  effect-append [] second values = refl
  effect-append (Turn ∷ first) second values = effect-append first second values
  effect-append (Bound site value ∷ first) second values = effect-append first second values
  effect-append (Read entry ∷ first) second values = effect-append first second values
  effect-append (Access site class array place ∷ first) second values = effect-append first second values
  effect-append (Store assign variables ∷ first) second values = effect-append first second (assigned env starts assign variables values)

  -- events that change and access nothing
  pub record Silent (events : List Event) : Type 0 where
    pub effects : (values : ℕ → ℤ) → effect env starts events values ≡ values
    pub accesses : accesses_of starts events ≡ []
    pub may : AllByRecursion (May starts) events

accesses-append : (starts : List ℕ) (first second : List Event) → accesses_of starts (first ++ second) ≡ accesses_of starts first ++ accesses_of starts second
accesses-append starts [] second = refl
accesses-append starts (Turn ∷ first) second = accesses-append starts first second
accesses-append starts (Bound site value ∷ first) second = accesses-append starts first second
accesses-append starts (Read entry ∷ first) second = accesses-append starts first second
accesses-append starts (Access site class array place ∷ first) second = ap (λ rest. accesses_of starts (Access site class array place ∷ []) ++ rest) (accesses-append starts first second)
accesses-append starts (Store assign variables ∷ first) second = accesses-append starts first second

module _ (env : Environment) (starts : List ℕ) where
  pub reads_silent : (entries : List Entry) → Silent env starts (map Read entries)
  reads_silent [] = record { effects = λ values. refl; accesses = refl; may = tt }
  reads_silent (entry ∷ entries) = let rest = reads_silent entries in record { effects = rest.effects; accesses = rest.accesses; may = (tt, rest.may) }

  pub both_silent : (first second : List Event) → Silent env starts first → Silent env starts second → Silent env starts (first ++ second)
  both_silent first second p q = record {
    effects = λ values. effect-append env starts first second values ∙ q.effects (effect env starts first values) ∙ p.effects values;
    accesses = accesses-append starts first second ∙ (λ i. p.accesses i ++ q.accesses i);
    may = join_each (May starts) first second p.may q.may;
  }

-- in these environments, with these starts of arrays
module _ (exec env : Environment) (starts : List ℕ) (renaming : Renaming) where
  -- mine do to the unpacked values what theirs do, and access the places to which elements go
  pub record Alike (mine theirs : List Event) : Type 0 where
    pub effects : (values : ℕ → ℤ) → unpacked renaming (effect exec starts mine values) ≡ effect env starts theirs (unpacked renaming values)
    pub accesses : accesses_of starts mine ≡ map (renamed_access renaming) (accesses_of starts theirs)
    pub may : AllByRecursion (May starts) mine

  pub both_alike : (first others second more : List Event) → Alike first others → Alike second more → Alike (first ++ second) (others ++ more)
  both_alike first others second more p q = record {
    effects = λ values.
        ap (unpacked renaming) (effect-append exec starts first second values) ∙ q.effects (effect exec starts first values)
        ∙ ap (effect env starts more) (p.effects values) ∙ sym (effect-append env starts others more (unpacked renaming values));
    accesses =
        accesses-append starts first second ∙ (λ i. p.accesses i ++ q.accesses i)
        ∙ sym (ap (map (renamed_access renaming)) (accesses-append starts others more) ∙ map-append (renamed_access renaming) (accesses_of starts others) (accesses_of starts more));
    may = join_each (May starts) first second p.may q.may;
  }

  pub silent_alike : (mine theirs : List Event) → Silent exec starts mine → Silent env starts theirs → Alike mine theirs
  silent_alike mine theirs p q = record {
    effects = λ values. ap (unpacked renaming) (p.effects values) ∙ sym (q.effects (unpacked renaming values));
    accesses = p.accesses ∙ sym (ap (map (renamed_access renaming)) q.accesses);
    may = p.may;
  }

  module _ (InRange : Event → Type 0) where
    -- mine are alike to theirs, if those are in range
    abbrev pub Mirrors : List Event → List Event → Type 0
    Mirrors mine theirs = AllByRecursion InRange theirs → Alike mine theirs

    pub both_mirror : (first others second more : List Event) → Mirrors first others → Mirrors second more → Mirrors (first ++ second) (others ++ more)
    both_mirror first others second more p q range =
        let parts = split_each InRange others more range in both_alike first others second more (p parts.0) (q parts.1)

    pub if_mirrors : (mine theirs : Bool) → mine ≡ theirs → (first others : List Event) → Mirrors first others → Mirrors (if mine then first else []) (if theirs then others else [])
    if_mirrors true true same first others p = p
    if_mirrors false false same first others p = λ range. record { effects = λ values. refl; accesses = refl; may = tt }
    if_mirrors true false same first others p = cc
    if_mirrors false true same first others p = cc

    -- parts one behind the other
    pub parts_mirror : {A B : Type 0} (P : A → Type 0) (sites : A → ℕ) (sites' : B → ℕ) (trace : ℕ → A → List Event) (trace' : ℕ → B → List Event) (f : A → B) →
        ((at site : ℕ) (part : A) → P part → Mirrors (trace' at (f part)) (trace site part)) → (at site : ℕ) (parts : List A) → AllByRecursion P parts →
        Mirrors (one_by_one sites' trace' at (map f parts)) (one_by_one sites trace site parts)
    parts_mirror P sites sites' trace trace' f each at site [] all = λ range. record { effects = λ values. refl; accesses = refl; may = tt }
    parts_mirror P sites sites' trace trace' f each at site (part ∷ parts) all =
        both_mirror (trace' at (f part)) (trace site part) (one_by_one sites' trace' (at + sites' (f part)) (map f parts)) (one_by_one sites trace (site + sites part) parts)
        (each at site part all.0) (parts_mirror P sites sites' trace trace' f each (at + sites' (f part)) (site + sites part) parts all.1)

    -- turns one behind the other
    pub turns_mirror : (mine theirs : ℤ → List Event) → ((inner : ℤ) → Mirrors (mine inner) (theirs inner)) → (inners : List ℤ) → Mirrors (flat_map mine inners) (flat_map theirs inners)
    turns_mirror mine theirs each [] = λ range. record { effects = λ values. refl; accesses = refl; may = tt }
    turns_mirror mine theirs each (inner ∷ inners) = both_mirror (mine inner) (theirs inner) (flat_map mine inners) (flat_map theirs inners) (each inner) (turns_mirror mine theirs each inners)
