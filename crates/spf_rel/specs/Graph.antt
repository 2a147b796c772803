-- Graphs: relations whose outputs are terms of their inputs. The composition of two of them is simplified to the equality of its
-- output with one term.
use Rattle.std.specs.Prelude.{◌≡◌, ℕ, ◌+◌, ◌<◌, ◌≤◌, ◌^◌, negsuc, ◌*ℤ◌, Option, Some, Result, Ok, Err, List, [], ◌∷◌, ◌++◌, length, map, All, ⊤}
use Rattle.spf_term.specs.Bounded.{monomials}
use Rattle.spf_term.specs.Equation.{difference, equation}
use Rattle.spf_term.specs.Measure.{factor, size}
use Rattle.spf_term.specs.Normal.{normal}
use Rattle.spf_term.specs.Substitution.{substituted}
use Rattle.spf_term.specs.declared.fault.TermFault.{TermFault}
use Rattle.spf_term.specs.declared.fault.TermFault.TheVariants.{Wide, Memory}
use Rattle.spf_term.specs.declared.term.Mono.{Mono}
use Rattle.spf_term.specs.declared.term.Term.{Term}
use Rattle.spf_rel.specs.Renumbering.{Variables, renumbered, renumbered_atom}
use Rattle.spf_rel.specs.declared.relation.Conj.{Conj}
use Rattle.spf_rel.specs.declared.relation.Rel.{Rel}
use Rattle.spf_rel.specs.declared.renumber.Blocks.{Blocks}

-- the variables from this number on are these terms
abbrev pub definitions : ℕ → List Term → List Term
definitions var [] = []
definitions var (term ∷ terms) = difference var term ∷ definitions (var + 1) terms

-- one output for each term
abbrev pub graph : ℕ → List Term → Rel
graph ins terms = record { ins = ins; outs = length terms; conjs = record { inner = 0; equal = definitions ins terms; least = [] } ∷ [] }

-- the terms, made normal, each in its turn in place of a variable, the first in place of this one
abbrev pub put_all : ℕ → List Term → Term → Term
put_all var [] term = term
put_all var (by ∷ terms) term = put_all (var + 1) terms (substituted var (normal by) term)

-- the term with variables from this number on
abbrev pub shifted : ℕ → Term → Term
shifted start term = renumbered (λ number. start + number) term

-- the monomial with the opposite coefficient, and other numbers for its variables
abbrev pub opposite_mono : (ℕ → ℕ) → Mono → Mono
opposite_mono to mono = record { coef = negsuc 0 *ℤ mono.coef; atom = renumbered_atom to mono.atom }

-- all numbers are larger by this
abbrev pub shifting : ℕ → Blocks
shifting by = record { first = 0; second = 0; to_first = 0; to_second = 0; to_others = by }

-- from the numbers that terms have to their variables: one input for each term of so many outputs
abbrev pub reversed : ℕ → List Term → Rel
reversed outs terms = record { ins = length terms; outs = outs; conjs = record { inner = 0; equal = definitions 0 (map (shifted (length terms)) terms); least = [] } ∷ [] }

-- the last term of its inputs, with the first ones in place of them
abbrev pub composed_term : ℕ → List Term → Term → Term
composed_term ins terms last = put_all (ins + 1) terms (shifted (ins + 1) last)

-- ---- the number rule

-- the equalities of variables with these terms keep the number rule
abbrev pub count_all : List Term → ℕ
count_all [] = 0
count_all (term ∷ terms) = 1 + monomials term + count_all terms

abbrev pub AreSmall : List Term → Type 0
AreSmall [] = ⊤
AreSmall (term ∷ terms) = (1 + size term ≤ 2 ^ 62) × AreSmall terms

pub record AreLight (terms : List Term) : Type 0 where
  pub few : count_all terms ≤ 16384
  pub small : AreSmall terms

-- and so do those that are left when the terms have been put in place of variables, one after another
abbrev pub StayLight : ℕ → List Term → Term → Type 0
StayLight var [] term = AreLight (term ∷ [])
StayLight var (by ∷ terms) term = AreLight ((by ∷ terms) ++ term ∷ []) × StayLight (var + 1) terms (substituted var (normal by) term)

-- how many monomials a term has, and how large its numbers are together
pub record IsWithinSize (most_monomials largest_size largest_factor : ℕ) (term : Term) : Type 0 where
  pub few : monomials term ≤ most_monomials
  pub small : size term ≤ largest_size
  pub light : factor term ≤ largest_factor

-- terms of so many inputs, and a term of as many inputs as there are terms
pub record Compose (ins : ℕ) (terms : List Term) (last : Term) : Type 0 where
  pub few : ins + 1 + length terms < 2 ^ 32
  pub of_inputs : All (Variables (λ number. number < ins)) terms
  pub of_outputs : Variables (λ number. number < length terms) last
  pub light : StayLight (ins + 1) terms (shifted (ins + 1) last)

-- the one conjunction, with so many inner variables
abbrev pub alone : ℕ → ℕ → Term → Conj
alone inner ins term = record { inner = inner; equal = equation ins term ∷ []; least = [] }

-- there is one output, which is this term, unless memory runs out
abbrev pub IsOnly : Term → Result (Option (List Term)) TermFault → Type 0
IsOnly term (Ok found) = found ≡ Some (term ∷ [])
IsOnly term (Err (Wide number)) = ⊥
IsOnly term (Err Memory) = ⊤
