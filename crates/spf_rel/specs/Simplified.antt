-- Simplified conjunctions: what each step makes, and which tests come on the way.
use Rattle.std.specs.Prelude.{◌≡◌, ℕ, zero, suc, ◌+◌, ◌-◌, ℤ, pos, Bool, true, false, if◌then◌else◌, nat_eq, Option, None, Some, Result, Ok, Err, List, [], ◌∷◌, ◌++◌, length, map, ◌↔◌, ⊤}
use Rattle.std.specs.List.{AllByRecursion, Contains, filter, filter_map, list_any, slice_index_or}
use Rattle.std.specs.Option.{option_map}
use Rattle.std.specs.Ordering.{int_eq, is_eq}
use Rattle.std.specs.declared.cmp.Ordering.TheVariants.{Less}
use Rattle.spf_term.specs.Normal.{normal}
use Rattle.spf_term.specs.Order.{term_cmp}
use Rattle.spf_term.specs.Solution.{is_negative, mentions, oriented, solution}
use Rattle.spf_term.specs.Substitution.{substituted}
use Rattle.spf_term.specs.declared.fault.TermFault.{TermFault}
use Rattle.spf_term.specs.declared.fault.TermFault.TheVariants.{Wide, Memory}
use Rattle.spf_term.specs.declared.solutions.Solution.{Solution}
use Rattle.spf_term.specs.declared.term.Term.{Term, out-Term}
use Rattle.spf_rel.specs.Renumbering.{moved, renumbered}
use Rattle.spf_rel.specs.Rule.{conj_excess}
use Rattle.spf_rel.specs.declared.relation.Conj.{Conj}
use Rattle.spf_rel.specs.declared.relation.Rel.{Rel}
use Rattle.spf_rel.specs.declared.relation.Set.{Set}
use Rattle.spf_rel.specs.declared.renumber.Blocks.{Blocks}

-- ---- step 1

-- all terms are normal, and equalities begin with a positive coefficient
abbrev pub normal_conj : Conj → Conj
normal_conj conj = record { inner = conj.inner; equal = map (λ (term : Term). oriented (normal term)) conj.equal; least = map normal conj.least }

-- ---- step 2

-- an equality is solved, and these are the others
pub record Choice : Type 0 where
  pub found : Solution
  pub others : List Term

abbrev pub first_choice : Option Solution → List Term → Option Choice → Option Choice
first_choice (Some found) others later = Some (record { found = found; others = others })
first_choice None others later = later

-- the first equality that can be solved for a variable of these numbers
abbrev pub choice : ℕ → ℕ → List Term → List Term → Option Choice
choice low high before [] = None
choice low high before (term ∷ after) = first_choice (solution low high term) (before ++ after) (choice low high (before ++ term ∷ []) after)

-- the solution stands in place of its variable; step 1 follows
abbrev pub eliminated : Conj → Choice → Conj
eliminated conj choice =
    normal_conj (record { inner = conj.inner; equal = map (substituted choice.found.var choice.found.by) choice.others; least = map (substituted choice.found.var choice.found.by) conj.least })

-- one inner variable fewer occurs
abbrev pub next : ℕ → Conj → Option Conj
next outer conj = option_map (eliminated conj) (choice outer (outer + conj.inner) [] conj.equal)

-- the number rule is passed, or else this is the outcome
abbrev pub tested : {A : Type 0} → Option ℤ → Result A ℤ → Result A ℤ
tested (Some number) outcome = Err number
tested None outcome = outcome

abbrev pub go_on : Conj → Option Conj → (Conj → Result Conj ℤ) → Result Conj ℤ
go_on conj None further = Ok conj
go_on conj (Some made) further = further made

-- as often as an equality can be solved, which are fewer each time
abbrev pub rounds : ℕ → ℕ → Conj → Result Conj ℤ
rounds zero outer conj = tested (conj_excess conj) (Ok conj)
rounds (suc fewer) outer conj = tested (conj_excess conj) (go_on conj (next outer conj) (rounds fewer outer))

-- the conjunction is tested as it is given, and then after each step 1
abbrev pub solved : ℕ → Conj → Result Conj ℤ
solved outer conj = tested (conj_excess conj) (rounds (length conj.equal) outer (normal_conj conj))

-- the conjunction is made, or the number is told
abbrev pub IsOutcome : Result Conj ℤ → Result Conj TermFault → Type 0
IsOutcome wanted (Ok made) = wanted ≡ Ok made
IsOutcome wanted (Err (Wide number)) = wanted ≡ Err number
IsOutcome wanted (Err Memory) = ⊤

-- ---- step 3

abbrev pub has_monomials : Term → Bool
has_monomials term = if nat_eq (length (out-Term term).monos) 0 then false else true

abbrev pub is_false_equality : Term → Bool
is_false_equality term = if has_monomials term then false else if int_eq (out-Term term).constant (pos 0) then false else true

abbrev pub is_false_inequality : Term → Bool
is_false_inequality term = if has_monomials term then false else is_negative (out-Term term).constant

-- without constant constraints, unless one is false
abbrev pub settled : Conj → Option Conj
settled conj =
    if list_any is_false_equality conj.equal then None
    else if list_any is_false_inequality conj.least then None
    else Some (record { inner = conj.inner; equal = filter has_monomials conj.equal; least = filter has_monomials conj.least })

-- ---- step 4

abbrev pub conj_mentions : ℕ → Conj → Bool
conj_mentions var conj = if list_any (mentions var) conj.equal then true else list_any (mentions var) conj.least

-- variables behind this one take the number before theirs
abbrev pub closing : ℕ → Blocks
closing var = record { first = var; second = 1; to_first = 0; to_second = 0; to_others = var }

abbrev pub without : ℕ → Conj → Conj
without var conj = record { inner = conj.inner - 1; equal = map (renumbered (moved (closing var))) conj.equal; least = map (renumbered (moved (closing var))) conj.least }

-- without those of the first inner variables that don't occur, the last of them first
abbrev pub compacted : ℕ → ℕ → Conj → Conj
compacted outer zero conj = conj
compacted outer (suc left) conj = compacted outer left (if conj_mentions (outer + left) conj then conj else without (outer + left) conj)

abbrev pub IsAscending : List Term → Type 0
IsAscending [] = ⊤
IsAscending (term ∷ terms) = AllByRecursion (λ (other : Term). term_cmp term other ≡ Less) terms × IsAscending terms

-- the same terms in order, each once
pub record IsOrdered (terms made : List Term) : Type 0 where
  pub ascending : IsAscending made
  pub alike : (term : Term) → Contains terms term ↔ Contains made term

-- the last of the terms compares equal to this one
abbrev pub is_last : Term → List Term → Bool
is_last term terms = if nat_eq (length terms) 0 then false else is_eq (term_cmp term (slice_index_or terms (length terms - 1) term))

pub record IsTidy (outer : ℕ) (conj made : Conj) : Type 0 where
  pub inner : made.inner ≡ (compacted outer conj.inner conj).inner
  pub equal : IsOrdered (compacted outer conj.inner conj).equal made.equal
  pub least : IsOrdered (compacted outer conj.inner conj).least made.least

-- ---- all conjunctions

abbrev pub both : Result Conj ℤ → Result (List Conj) ℤ → Result (List Conj) ℤ
both (Ok conj) (Ok conjs) = Ok (conj ∷ conjs)
both (Ok conj) (Err number) = Err number
both (Err number) later = Err number

-- the first test that is failed tells its number
abbrev pub all_solved : ℕ → List Conj → Result (List Conj) ℤ
all_solved outer [] = Ok []
all_solved outer (conj ∷ conjs) = both (solved outer conj) (all_solved outer conjs)

abbrev pub AreTidy : ℕ → List Conj → List Conj → Type 0
AreTidy outer [] [] = ⊤
AreTidy outer [] (made ∷ more) = ⊥
AreTidy outer (conj ∷ conjs) [] = ⊥
AreTidy outer (conj ∷ conjs) (made ∷ more) = IsTidy outer conj made × AreTidy outer conjs more

abbrev pub same_terms : List Term → List Term → Bool
same_terms [] [] = true
same_terms [] (other ∷ others) = false
same_terms (term ∷ terms) [] = false
same_terms (term ∷ terms) (other ∷ others) = if is_eq (term_cmp term other) then same_terms terms others else false

abbrev pub same_conj : Conj → Conj → Bool
same_conj a b = if nat_eq a.inner b.inner then (if same_terms a.equal b.equal then same_terms a.least b.least else false) else false

-- with this one behind them, unless an equal one is there
abbrev pub with_new : Conj → List Conj → List Conj
with_new conj kept = if list_any (same_conj conj) kept then kept else kept ++ conj ∷ []

-- those kept so far, and the others without those that are equal to an earlier one
abbrev pub distinct : List Conj → List Conj → List Conj
distinct kept [] = kept
distinct kept (conj ∷ conjs) = distinct (with_new conj kept) conjs

-- steps 3 and 4 for each conjunction, and each result once
pub record AreDistinct (outer : ℕ) (conjs made : List Conj) : Type 0 where
  pub tidy : List Conj
  pub tidied : AreTidy outer (filter_map settled conjs) tidy
  pub is : made ≡ distinct [] tidy

pub record IsSimplification (outer : ℕ) (conjs made : List Conj) : Type 0 where
  pub done : List Conj
  pub solved : all_solved outer conjs ≡ Ok done
  pub distinct : AreDistinct outer done made

-- ---- what the calls answer

-- each conjunction is solved, or the number is told
abbrev pub AreOutcomes : Result (List Conj) ℤ → Result (List Conj) TermFault → Type 0
AreOutcomes wanted (Ok made) = wanted ≡ Ok made
AreOutcomes wanted (Err (Wide number)) = wanted ≡ Err number
AreOutcomes wanted (Err Memory) = ⊤

abbrev pub IsSimplifiedList : ℕ → List Conj → Result (List Conj) TermFault → Type 0
IsSimplifiedList outer conjs (Ok made) = IsSimplification outer conjs made
IsSimplifiedList outer conjs (Err (Wide number)) = all_solved outer conjs ≡ Err number
IsSimplifiedList outer conjs (Err Memory) = ⊤

abbrev pub IsSimplified : Rel → Result Rel TermFault → Type 0
IsSimplified r (Ok made) = (made.ins ≡ r.ins) × (made.outs ≡ r.outs) × IsSimplification (r.ins + r.outs) r.conjs made.conjs
IsSimplified r (Err (Wide number)) = all_solved (r.ins + r.outs) r.conjs ≡ Err number
IsSimplified r (Err Memory) = ⊤

abbrev pub IsSimplifiedSet : Set → Result Set TermFault → Type 0
IsSimplifiedSet s (Ok made) = (made.arity ≡ s.arity) × IsSimplification s.arity s.conjs made.conjs
IsSimplifiedSet s (Err (Wide number)) = all_solved s.arity s.conjs ≡ Err number
IsSimplifiedSet s (Err Memory) = ⊤
