-- The composition of two graphs, simplified.
use Rattle.std.proofs.Common.{◌≡◌, inr, ℕ, ◌+◌, ◌-◌, ◌<◌, ◌≤◌, ℤ, pos, negsuc, ◌*ℤ◌, List, [], ◌∷◌, ◌++◌, None, Some, Ok, length, map, refl, ap, sym, ◌∙◌, subst, arith}
use Rattle.std.proofs.lemmas.List.Elements.{All-head, All-tail}
use Rattle.std.specs.List.{All, cons_option, filter_map}
use Rattle.spf_term.specs.Equation.{difference, equation}
use Rattle.spf_term.specs.Normal.{normal}
use Rattle.spf_term.specs.Solution.{solution}
use Rattle.spf_term.specs.Substitution.{scaled}
use Rattle.spf_term.specs.declared.term.Atom.{Var}
use Rattle.spf_term.specs.declared.term.Mono.{Mono}
use Rattle.spf_term.specs.declared.term.Term.{Term, out-Term, roll-Term, out-roll-Term}
use Rattle.spf_rel.specs.Graph.{Compose, alone, composed_term, definitions, graph, shifted}
use Rattle.spf_rel.specs.Operations.{compose}
use Rattle.spf_rel.specs.Renumbering.{Variables, moved, renumbered}
use Rattle.spf_rel.specs.Simplified.{AreDistinct, AreTidy, IsOrdered, IsSimplification, IsTidy, all_solved, both, choice, distinct, first_choice, settled}
use Rattle.spf_rel.specs.declared.relation.Conj.{Conj}
use Rattle.spf_rel.specs.declared.renumber.Blocks.{Blocks}
use Rattle.spf_rel.proofs.GraphLaws.{GraphLaws}
use Rattle.spf_rel.proofs.Lone.{compacted_one, conj_with, ordered_none, ordered_one, settled_one, some_monos, tidy_one}
use Rattle.spf_rel.proofs.Middles.{Left, conj_solved, difference_kept, put_all_left}
use Rattle.spf_rel.proofs.Kept.{normal_kept, oriented_kept}
use Rattle.spf_rel.proofs.Moved.{in_first, in_second}
use Rattle.spf_rel.proofs.Renumbered.{renumbered_is, renumbered_leads, renumbered_mono, weaker}
use Rattle.spf_rel.proofs.Replaced.{apart, renumbered_alike, renumbered_same}

-- ---- new numbers in differences

scaled_renumbered : (to : ℕ → ℕ) (factor : ℤ) (monos : List Mono) → map (renumbered_mono to) (scaled factor monos) ≡ scaled factor (map (renumbered_mono to) monos)
scaled_renumbered to factor [] = refl
scaled_renumbered to factor (mono ∷ monos) = ap (λ more. record { coef = factor *ℤ mono.coef; atom = (renumbered_mono to mono).atom } ∷ more) (scaled_renumbered to factor monos)

pub renumbered_difference : (to : ℕ → ℕ) (var : ℕ) (term : Term) → renumbered to (difference var term) ≡ difference (to var) (renumbered to term)
renumbered_difference to var term =
    let monos = (out-Term term).monos in
    let constant = (out-Term term).constant in
    let first : Mono = record { coef = pos 1; atom = Var var } in
    let new : Mono = record { coef = pos 1; atom = Var (to var) } in
    let given = out-roll-Term (record { monos = first ∷ scaled (negsuc 0) monos; constant = negsuc 0 *ℤ constant }) in
    let made = out-roll-Term (record { monos = map (renumbered_mono to) monos; constant = constant }) in
    renumbered_is to (difference var term)
    ∙ (λ i. roll-Term (record { monos = map (renumbered_mono to) (given i).monos; constant = (given i).constant }))
    ∙ ap (λ (more : List Mono). roll-Term (record { monos = new ∷ more; constant = negsuc 0 *ℤ constant })) (scaled_renumbered to (negsuc 0) monos)
    ∙ (λ i. roll-Term (record { monos = new ∷ scaled (negsuc 0) (sym made i).monos; constant = negsuc 0 *ℤ (sym made i).constant }))
    ∙ ap (difference (to var)) (sym (renumbered_is to term))

-- ---- the composition

module _ (ins : ℕ) (terms : List Term) (last : Term) where
  abbrev count : ℕ
  count = length terms

  abbrev left_blocks : Blocks
  left_blocks = record { first = ins; second = count; to_first = 0; to_second = ins + 1 + 0 + 0; to_others = ins + 1 }

  abbrev right_blocks : Blocks
  right_blocks = record { first = count; second = 1; to_first = ins + 1 + 0 + 0; to_second = ins; to_others = ins + 1 + 0 }

  abbrev left : ℕ → ℕ
  left = moved left_blocks

  abbrev right : ℕ → ℕ
  right = moved right_blocks

  input_stays : (number : ℕ) → number < ins → left number ≡ number
  input_stays number less = in_first left_blocks number less ∙ omega arith

  output_moves : (number : ℕ) → number < count → left (ins + number) ≡ ins + 1 + number
  output_moves number less = in_second left_blocks (ins + number) (omega arith) (omega (arith, less)) ∙ omega arith

  middle_moves : (number : ℕ) → number < count → right number ≡ ins + 1 + number
  middle_moves number less = in_first right_blocks number less ∙ omega arith

  last_moves : right count ≡ ins
  last_moves = in_second right_blocks count (omega arith) (omega arith) ∙ omega arith

  moved_definitions : (from : ℕ) (some : List Term) → from + length some ≤ count → All (Variables (λ number. number < ins)) some → map (renumbered left) (definitions (ins + from) some) ≡ definitions (ins + 1 + from) some
  moved_definitions from [] room each = refl
  moved_definitions from (term ∷ some) room each =
      let same = renumbered_same (λ number. number < ins) left input_stays term (All-head (Variables (λ number. number < ins)) term some each) in
      let here = renumbered_difference left (ins + from) term ∙ (λ i. difference (output_moves from (omega (arith, room)) i) (same i)) in
      let a : ins + from + 1 ≡ ins + (from + 1) = omega arith in
      let b : ins + 1 + (from + 1) ≡ ins + 1 + from + 1 = omega arith in
      let later = ap (λ start. map (renumbered left) (definitions start some)) a ∙ moved_definitions (from + 1) some (omega (arith, room)) (All-tail (Variables (λ number. number < ins)) term some each) ∙ ap (λ start. definitions start some) b in
      λ i. here i ∷ later i

  module _ (h : Compose ins terms last) where
    shifted_last : renumbered right last ≡ shifted (ins + 1) last
    shifted_last = renumbered_alike (λ number. number < count) right (λ number. ins + 1 + number) middle_moves last h.of_outputs

    abbrev high : ℕ
    high = ins + 1 + count

    pub composition_is : (compose (graph count (last ∷ [])) (graph ins terms)).conjs ≡ conj_with count (definitions (ins + 1) terms ++ difference ins (shifted (ins + 1) last) ∷ []) ∷ []
    composition_is =
        let a : ins ≡ ins + 0 = omega arith in
        let b : ins + 1 + 0 ≡ ins + 1 = omega arith in
        let firsts = ap (λ start. map (renumbered left) (definitions start terms)) a ∙ moved_definitions 0 terms (omega arith) h.of_inputs ∙ ap (λ start. definitions start terms) b in
        let seconds = renumbered_difference right count last ∙ (λ i. difference (last_moves i) (shifted_last i)) in
        let inner : 0 + count ≡ count = omega arith in
        λ i. record { inner = inner i; equal = firsts i ++ seconds i ∷ []; least = [] } ∷ []

    abbrev pub composition : Term
    composition = composed_term ins terms last

    shifted_left : Variables (Left ins high (ins + 1)) (shifted (ins + 1) last)
    shifted_left = renumbered_leads (λ number. ins + 1 + number) (λ number. number < count) (Left ins high (ins + 1)) (λ number less. inr (omega arith, omega (arith, less))) last h.of_outputs

    pub made_inputs : Variables (λ number. number < ins) composition
    made_inputs = put_all_left ins high (ins + 1) terms (shifted (ins + 1) last) refl h.of_inputs shifted_left

    pub all_of_it : (laws : GraphLaws) → all_solved (ins + 1) (compose (graph count (last ∷ [])) (graph ins terms)).conjs ≡ Ok (alone count ins composition ∷ [])
    all_of_it laws =
        ap (all_solved (ins + 1)) composition_is
        ∙ ap (λ first. both first (Ok [])) (conj_solved laws ins high count (ins + 1) terms (shifted (ins + 1) last) (omega arith) refl refl h.of_inputs shifted_left h.light)

-- ---- simplified

module _ (laws : GraphLaws) (ins : ℕ) (terms : List Term) (last : Term) (h : Compose ins terms last) where
  abbrev equality : Term
  equality = equation ins (composition ins terms last h)

  pub solution_is : solution ins (ins + 1) equality ≡ Some (record { var = ins; by = normal (composition ins terms last h) })
  solution_is =
      laws.solved ins (ins + 1) ins (composition ins terms last h) (omega arith) (omega arith)
      (λ number from to. apart (λ other. other < ins) number (λ less. omega (arith, less, from)) (normal (composition ins terms last h)) (normal_kept (λ other. other < ins) (composition ins terms last h) (made_inputs ins terms last h)))

  pub choice_is : choice ins (ins + 1) [] (alone 0 ins (composition ins terms last h)).equal ≡ Some (record { found = record { var = ins; by = normal (composition ins terms last h) }; others = [] })
  choice_is = ap (λ found. first_choice found [] None) solution_is

  equality_inputs : Variables (λ number. number < ins + 1) equality
  equality_inputs =
      oriented_kept (λ number. number < ins + 1) (normal (difference ins (composition ins terms last h))) (normal_kept (λ number. number < ins + 1) (difference ins (composition ins terms last h))
      (difference_kept (λ number. number < ins + 1) ins (composition ins terms last h) (omega arith) (weaker (λ number. number < ins) (λ number. number < ins + 1) (λ number less. omega (arith, less)) (composition ins terms last h) (made_inputs ins terms last h))))

  tidy_is : (conj : Conj) → IsTidy (ins + 1) (conj_with (length terms) (equality ∷ [])) conj → conj ≡ conj_with 0 (equality ∷ [])
  tidy_is conj tidy =
      let compact = compacted_one equality (ins + 1) (ins + 1) (omega arith) equality_inputs (length terms) (length terms) (omega arith) in
      let inner : conj.inner ≡ 0 = tidy.inner ∙ ap (λ (of : Conj). of.inner) compact ∙ omega arith in
      let equal = ordered_one equality laws.total conj.equal (subst (λ (of : Conj). IsOrdered of.equal conj.equal) compact tidy.equal) in
      let least = ordered_none equality conj.least (subst (λ (of : Conj). IsOrdered of.least conj.least) compact tidy.least) in
      λ i. record { inner = inner i; equal = equal i; least = least i }

  distinct_is : (made : List Conj) → AreDistinct (ins + 1) (conj_with (length terms) (equality ∷ []) ∷ []) made → made ≡ conj_with 0 (equality ∷ []) ∷ []
  distinct_is made are =
      let has = some_monos ins (ins + 1) (out-Term equality).constant (out-Term equality).monos (record { var = ins; by = normal (composed_term ins terms last) }) solution_is in
      let settled' : filter_map settled (conj_with (length terms) (equality ∷ []) ∷ []) ≡ conj_with (length terms) (equality ∷ []) ∷ [] = ap (λ found. cons_option found []) (settled_one equality (length terms) has) in
      let one = tidy_one (ins + 1) (conj_with (length terms) (equality ∷ [])) are.tidy (subst (λ conjs. AreTidy (ins + 1) conjs are.tidy) settled' are.tidied) in
      are.is ∙ ap (distinct []) one.2 ∙ ap (λ (conj : Conj). conj ∷ []) (tidy_is one.0 one.1)

  pub simplified_is : (made : List Conj) → IsSimplification (ins + 1) (compose (graph (length terms) (last ∷ [])) (graph ins terms)).conjs made → made ≡ conj_with 0 (equality ∷ []) ∷ []
  simplified_is made is =
      let same : Ok is.done ≡ Ok (conj_with (length terms) (equality ∷ []) ∷ []) = sym is.solved ∙ all_of_it ins terms last h laws in
      let done : is.done ≡ conj_with (length terms) (equality ∷ []) ∷ [] = cc in
      distinct_is made (subst (λ done. AreDistinct (ins + 1) done made) done is.distinct)
