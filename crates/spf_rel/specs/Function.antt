-- The outputs of a relation as terms in its inputs: what each step finds, and which tests come on the way.
use Rattle.std.specs.Prelude.{◌≡◌, ℕ, zero, suc, ◌+◌, ◌<◌, ℤ, Bool, true, false, if◌then◌else◌, nat_lt, Option, None, Some, Result, Ok, Err, List, [], ◌∷◌, ◌++◌, length, map, All, ◌⊎◌, ⊤}
use Rattle.std.specs.List.{list_any}
use Rattle.spf_term.specs.Environment.{Environment}
use Rattle.spf_term.specs.Value.{value}
use Rattle.spf_term.specs.declared.fault.TermFault.{TermFault}
use Rattle.spf_term.specs.declared.fault.TermFault.TheVariants.{Wide, Memory}
use Rattle.spf_term.specs.declared.term.Atom.{Atom, Var, Param, App}
use Rattle.spf_term.specs.declared.term.Term.{Term, Term', Row_of-Mono, end_of-Mono, more_of-Mono}
use Rattle.spf_rel.specs.Elimination.{AreReady, put}
use Rattle.spf_rel.specs.Meaning.{Relates}
use Rattle.spf_rel.specs.Renumbering.{Variables}
use Rattle.spf_rel.specs.Rule.{excess_together}
use Rattle.spf_rel.specs.Simplified.{Choice, IsSimplification, all_solved, choice, tested}
use Rattle.spf_rel.specs.declared.partly.Partly.{Partly}
use Rattle.spf_rel.specs.declared.relation.Conj.{Conj}
use Rattle.spf_rel.specs.declared.relation.Rel.{Rel}

-- ---- one output after another

-- no output is found yet
abbrev pub begun : Conj → Partly
begun conj = record { equal = conj.equal; least = conj.least; results = [] }

-- the solution stands in place of its output in the rest and in the earlier results, all made normal; it is the last result
abbrev pub assigned : Choice → Partly → Partly
assigned choice partly = record {
  equal = map (put choice.found) choice.others;
  least = map (put choice.found) partly.least;
  results = map (put choice.found) partly.results ++ choice.found.by ∷ [];
}

-- the number rule for the rest and the results together
abbrev pub partly_excess : Partly → Option ℤ
partly_excess partly = excess_together (partly.equal ++ (partly.least ++ partly.results))

-- an equality is solved for an output, or none can be
abbrev pub find_on : Partly → Option Choice → (Partly → Result (Option (List Term)) ℤ) → Result (Option (List Term)) ℤ
find_on partly None further = Ok None
find_on partly (Some choice) further = tested (partly_excess (assigned choice partly)) (further (assigned choice partly))

-- these many outputs, from this number on
abbrev pub outputs_found : ℕ → ℕ → Partly → Result (Option (List Term)) ℤ
outputs_found zero output partly = Ok (Some partly.results)
outputs_found (suc fewer) output partly = find_on partly (choice output (output + 1) [] partly.equal) (outputs_found fewer (output + 1))

-- ---- inner variables that are left

-- a variable of at least this number occurs, in an argument too
abbrev mutual
  pub mentions_from : ℕ → Term → Bool
  mentions_from low (Term' shape monos constant) = sum_mentions_from low monos

  pub sum_mentions_from : {n : _} → ℕ → Row_of-Mono n → Bool
  sum_mentions_from low end_of-Mono = false
  sum_mentions_from low (more_of-Mono coef atom others) = if atom_mentions_from low atom then true else sum_mentions_from low others

  pub atom_mentions_from : ℕ → Atom → Bool
  atom_mentions_from low (Var number) = if nat_lt number low then false else true
  atom_mentions_from low (Param number) = false
  atom_mentions_from low (App fun arg) = mentions_from low arg

-- a variable that isn't an input is left: an inner one, since each output was solved for
abbrev pub only_inputs : ℕ → Result (Option (List Term)) ℤ → Result (Option (List Term)) ℤ
only_inputs ins (Ok (Some terms)) = if list_any (mentions_from ins) terms then Ok None else Ok (Some terms)
only_inputs ins (Ok None) = Ok None
only_inputs ins (Err number) = Err number

-- ---- the whole relation

abbrev pub single : List Conj → Option Conj
single [] = None
single (conj ∷ []) = Some conj
single (conj ∷ (other ∷ more)) = None

abbrev pub function_of_one : ℕ → ℕ → Option Conj → Result (Option (List Term)) ℤ
function_of_one ins outs None = Ok None
function_of_one ins outs (Some conj) = only_inputs ins (outputs_found outs ins (begun conj))

-- the outputs as terms in the inputs, of a relation that is simplified
abbrev pub function_of : ℕ → ℕ → List Conj → Result (Option (List Term)) ℤ
function_of ins outs conjs = function_of_one ins outs (single conjs)

-- ---- what the steps want of terms

pub record IsReadyPartly (partly : Partly) : Type 0 where
  pub equal : AreReady partly.equal
  pub least : AreReady partly.least
  pub results : AreReady partly.results

abbrev pub AreFound : ℕ → Option (List Term) → Type 0
AreFound outs None = ⊤
AreFound outs (Some terms) = (length terms ≡ outs) × AreReady terms

-- ---- what the calls answer

-- what is left keeps the number rule, or what passes it is told
abbrev pub IsTestedPartly : Partly → Result Partly TermFault → Type 0
IsTestedPartly wanted (Ok made) = (made ≡ wanted) × (partly_excess wanted ≡ None)
IsTestedPartly wanted (Err (Wide number)) = partly_excess wanted ≡ Some number
IsTestedPartly wanted (Err Memory) = ⊤

-- an outcome is given, or the number is told
abbrev pub Tells : {A : Type 0} → Result A ℤ → Result A TermFault → Type 0
Tells wanted (Ok made) = wanted ≡ Ok made
Tells wanted (Err (Wide number)) = wanted ≡ Err number
Tells wanted (Err Memory) = ⊤

-- the relation simplified, of which there is but one, has this outcome
pub record HasOutcome (r : Rel) (wanted : Result (Option (List Term)) ℤ) : Type 0 where
  pub simplified : List Conj
  pub is : IsSimplification (r.ins + r.outs) r.conjs simplified
  pub outcome : function_of r.ins r.outs simplified ≡ wanted

abbrev pub IsFunction : Rel → Result (Option (List Term)) TermFault → Type 0
IsFunction r (Ok found) = HasOutcome r (Ok found)
IsFunction r (Err (Wide number)) = (all_solved (r.ins + r.outs) r.conjs ≡ Err number) ⊎ HasOutcome r (Err number)
IsFunction r (Err Memory) = ⊤

-- at the input of each pair the terms, if there are any, have the numbers of its output
abbrev pub GiveOutputs : Rel → Option (List Term) → Type 0
GiveOutputs r None = ⊤
GiveOutputs r (Some terms) = (env : Environment) (input output : List ℤ) → Relates env r input output → output ≡ map (value env input) terms

-- one term for each output, normal and within the number rule, of inputs alone
pub record AreOfInputs (ins outs : ℕ) (terms : List Term) : Type 0 where
  pub count : length terms ≡ outs
  pub inputs : All (Variables (λ number. number < ins)) terms
  pub ready : AreReady terms

abbrev pub IsFormedFunction : ℕ → ℕ → Option (List Term) → Type 0
IsFormedFunction ins outs None = ⊤
IsFormedFunction ins outs (Some terms) = AreOfInputs ins outs terms
