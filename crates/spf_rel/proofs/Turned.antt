-- The inverse of the relation from the numbers that terms have to their variables.
use Rattle.std.proofs.Common.{◌≡◌, ℕ, ◌+◌, ◌<◌, ◌≤◌, ◌^◌, List, [], ◌∷◌, length, map, refl, ap, ◌∙◌, subst, sym, arith}
use Rattle.std.proofs.lemmas.List.{length-map}
use Rattle.std.proofs.lemmas.List.Elements.{All-cons, All-head, All-nil, All-tail}
use Rattle.std.specs.List.{All}
use Rattle.spf_term.specs.Equation.{difference}
use Rattle.spf_term.specs.declared.term.Atom.{Atom, Var, Param, App}
use Rattle.spf_term.specs.declared.term.Mono.{Mono}
use Rattle.spf_term.specs.declared.term.Term.{Term, Term', out-roll-Term, Row_of-Mono, end_of-Mono, more_of-Mono}
use Rattle.spf_rel.specs.Graph.{definitions, graph, reversed, shifted}
use Rattle.spf_rel.specs.Meaning.{IsFormed, IsFormedRel}
use Rattle.spf_rel.specs.Operations.{inverse, swap}
use Rattle.spf_rel.specs.Renumbering.{Variables, moved, renumbered, renumbered_atom, renumbered_monos}
use Rattle.spf_rel.specs.declared.renumber.Blocks.{Blocks}
use Rattle.spf_rel.proofs.Formed.{definitions_below}
use Rattle.spf_rel.proofs.Graphed.{renumbered_difference}
use Rattle.spf_rel.proofs.Lone.{conj_with}
use Rattle.spf_rel.proofs.Moved.{in_first, in_second}
use Rattle.spf_rel.proofs.Renumbered.{all_lead, renumbered_is, renumbered_mono, sum_of}
use Rattle.spf_rel.proofs.Replaced.{renumbered_same}

-- ---- new numbers, and then others

module _ (first later : ℕ → ℕ) where
  mutual
    atom_twice : (atom : Atom) → renumbered_atom later (renumbered_atom first atom) ≡ renumbered_atom (λ number. later (first number)) atom
    atom_twice (Var number) = refl
    atom_twice (Param number) = refl
    atom_twice (App fun arg) = ap (App fun) (twice arg)

    row_twice : {n : _} (row : Row_of-Mono n) → map (renumbered_mono later) (renumbered_monos first row) ≡ renumbered_monos (λ number. later (first number)) row
    row_twice end_of-Mono = refl
    row_twice (more_of-Mono coef atom others) = λ i. record { coef = coef; atom = atom_twice atom i } ∷ row_twice others i

    pub twice : (term : Term) → renumbered later (renumbered first term) ≡ renumbered (λ number. later (first number)) term
    twice (Term' shape monos constant) =
        renumbered_is later (sum_of first (renumbered_monos first monos) constant)
        ∙ ap (λ term. sum_of later (map (renumbered_mono later) term.monos) term.constant) (out-roll-Term (record { monos = renumbered_monos first monos; constant = constant }))
        ∙ ap (λ (of : List Mono). sum_of later of constant) (row_twice monos)

-- ---- inputs for outputs

module _ (ins count : ℕ) where
  abbrev swapping : Blocks
  swapping = swap count ins

  defined_moves : (var : ℕ) → var < count → moved swapping var ≡ ins + var
  defined_moves var less = in_first swapping var less

  input_back : (number : ℕ) → number < ins → moved swapping (count + number) ≡ number
  input_back number less = in_second swapping (count + number) (omega arith) (omega (arith, less)) ∙ omega arith

  back : (term : Term) → Variables (λ number. number < ins) term → renumbered (moved swapping) (shifted count term) ≡ term
  back term h = twice (λ number. count + number) (moved swapping) term ∙ renumbered_same (λ number. number < ins) (λ number. moved swapping (count + number)) input_back term h

  all_back : (from : ℕ) (terms : List Term) → from + length terms ≤ count → All (Variables (λ number. number < ins)) terms
      → map (renumbered (moved swapping)) (definitions from (map (shifted count) terms)) ≡ definitions (ins + from) terms
  all_back from [] room each = refl
  all_back from (term ∷ terms) room each =
      let here = renumbered_difference (moved swapping) from (shifted count term)
      ∙ (λ i. difference (defined_moves from (omega (arith, room)) i) (back term (All-head (Variables (λ number. number < ins)) term terms each) i)) in
      let next : ins + (from + 1) ≡ ins + from + 1 = omega arith in
      let later = all_back (from + 1) terms (omega (arith, room)) (All-tail (Variables (λ number. number < ins)) term terms each) ∙ ap (λ start. definitions start terms) next in
      λ i. here i ∷ later i

module _ (ins : ℕ) (terms : List Term) (each : All (Variables (λ number. number < ins)) terms) where
  pub inverse_is : inverse (reversed ins terms) ≡ graph ins terms
  inverse_is =
      let none : ins + 0 ≡ ins = omega arith in
      let equal = all_back ins (length terms) 0 terms (omega arith) each ∙ ap (λ start. definitions start terms) none in
      λ i. record { ins = ins; outs = length terms; conjs = record { inner = 0; equal = equal i; least = [] } ∷ [] }

  pub reversed_formed : ins + length terms < 2 ^ 32 → IsFormedRel (reversed ins terms)
  reversed_formed few =
      let outer = length terms + ins in
      let shifts = map (shifted (length terms)) terms in
      let count = length-map terms (shifted (length terms)) in
      let below = all_lead (λ number. length terms + number) (λ number. number < ins) (λ number. number < outer) (λ number less. omega (arith, less)) terms each in
      All-cons (IsFormed outer) (conj_with 0 (definitions 0 shifts)) []
      (record { few = omega (arith, few); equal = definitions_below outer (outer + 0) 0 shifts (omega arith) (omega (arith, count)) below; least = All-nil (Variables (λ number. number < outer + 0)) })
      (All-nil (IsFormed outer))
