-- The points of a set and the pairs of a relation under an environment. Tables are extended by 0 outside their length.
use Rattle.std.specs.Prelude.{ℕ, ◌≡◌, ◌+◌, ◌<◌, ◌^◌, ◌⊎◌, ◌↔◌, ℤ, pos, ◌≤ℤ◌, List, ◌++◌, length, All}
use Rattle.std.specs.List.{Contains}
use Rattle.spf_term.specs.Environment.{Environment}
use Rattle.spf_term.specs.Value.{value}
use Rattle.spf_term.specs.declared.term.Term.{Term}
use Rattle.spf_rel.specs.Renumbering.{Variables}
use Rattle.spf_rel.specs.declared.relation.Conj.{Conj}
use Rattle.spf_rel.specs.declared.relation.Set.{Set}
use Rattle.spf_rel.specs.declared.relation.Rel.{Rel}

module _ (env : Environment) where
  -- with these numbers for the variables each constraint holds
  pub record Holds (variables : List ℤ) (conj : Conj) : Type 0 where
    pub equal : All (λ (term : Term). value env variables term ≡ pos 0) conj.equal
    pub least : All (λ (term : Term). pos 0 ≤ℤ value env variables term) conj.least

  -- there are integers for the inner variables with which each constraint holds
  pub record Meets (point : List ℤ) (conj : Conj) : Type 0 where
    pub inner : List ℤ
    pub count : length inner ≡ conj.inner
    pub holds : Holds (point ++ inner) conj

  -- the point meets some conjunction
  pub record MeetsSome (point : List ℤ) (conjs : List Conj) : Type 0 where
    pub conj : Conj
    pub there : Contains conjs conj
    pub meets : Meets point conj

  -- the point is in the set
  pub record IsIn (set : Set) (point : List ℤ) : Type 0 where
    pub arity : length point ≡ set.arity
    pub meets : MeetsSome point set.conjs

  -- the pair of points is in the relation
  pub record Relates (rel : Rel) (input output : List ℤ) : Type 0 where
    pub ins : length input ≡ rel.ins
    pub outs : length output ≡ rel.outs
    pub meets : MeetsSome (input ++ output) rel.conjs

-- ---- what each call wants of its sets and relations

-- behind these many inputs and outputs: each variable has a number below that of all variables, which has 32 bits
pub record IsFormed (outer : ℕ) (conj : Conj) : Type 0 where
  pub few : outer + conj.inner < 2 ^ 32
  pub equal : All (Variables (λ number. number < outer + conj.inner)) conj.equal
  pub least : All (Variables (λ number. number < outer + conj.inner)) conj.least

-- the numbers of variables have 32 bits
pub record IsNumbered (conj : Conj) : Type 0 where
  pub equal : All (Variables (λ number. number < 2 ^ 32)) conj.equal
  pub least : All (Variables (λ number. number < 2 ^ 32)) conj.least

abbrev pub IsFormedSet : Set → Type 0
IsFormedSet set = All (IsFormed set.arity) set.conjs

abbrev pub IsFormedRel : Rel → Type 0
IsFormedRel rel = All (IsFormed (rel.ins + rel.outs)) rel.conjs

-- under every environment points of so many numbers meet some conjunction of the one list where they meet some of the other
abbrev pub MeanTheSame : ℕ → List Conj → List Conj → Type 0
MeanTheSame outer conjs made = (env : Environment) (point : List ℤ) → length point ≡ outer → MeetsSome env point conjs ↔ MeetsSome env point made

-- ---- what the operations mean, under every environment

abbrev pub IsSameRelation : Rel → Rel → Type 0
IsSameRelation r made = (env : Environment) (input output : List ℤ) → Relates env made input output ↔ Relates env r input output

abbrev pub IsSameSet : Set → Set → Type 0
IsSameSet s made = (env : Environment) (point : List ℤ) → IsIn env made point ↔ IsIn env s point

abbrev pub IsInverse : Rel → Rel → Type 0
IsInverse r made = (env : Environment) (input output : List ℤ) → Relates env made input output ↔ Relates env r output input

abbrev pub IsUnion : Rel → Rel → Rel → Type 0
IsUnion a b made = (env : Environment) (input output : List ℤ) → Relates env made input output ↔ (Relates env a input output ⊎ Relates env b input output)

abbrev pub IsUnionOfSets : Set → Set → Set → Type 0
IsUnionOfSets a b made = (env : Environment) (point : List ℤ) → IsIn env made point ↔ (IsIn env a point ⊎ IsIn env b point)

-- a leads to a middle point, and b from there on
abbrev pub IsComposition : Rel → Rel → Rel → Type 0
IsComposition b a made = (env : Environment) (input output : List ℤ) → Relates env made input output ↔ ((middle : List ℤ) × Relates env a input middle × Relates env b middle output)

-- the points to which r leads from a point of s
abbrev pub IsImage : Rel → Set → Set → Type 0
IsImage r s made = (env : Environment) (point : List ℤ) → IsIn env made point ↔ ((from : List ℤ) × IsIn env s from × Relates env r from point)

abbrev pub IsIntersection : Rel → Rel → Rel → Type 0
IsIntersection a b made = (env : Environment) (input output : List ℤ) → Relates env made input output ↔ (Relates env a input output × Relates env b input output)

abbrev pub IsIntersectionOfSets : Set → Set → Set → Type 0
IsIntersectionOfSets a b made = (env : Environment) (point : List ℤ) → IsIn env made point ↔ (IsIn env a point × IsIn env b point)

abbrev pub IsRestriction : Rel → Set → Rel → Type 0
IsRestriction r s made = (env : Environment) (input output : List ℤ) → Relates env made input output ↔ (Relates env r input output × IsIn env s input)
