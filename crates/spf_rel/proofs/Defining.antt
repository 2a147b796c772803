-- Differences of variables and terms, as they are made.
use Rattle.std.proofs.Common.{◌≡◌, ℕ, ◌+◌, ◌<◌, ◌≤◌, ◌^◌, ℤ, pos, negsuc, ◌*ℤ◌, ◌-ℤ◌, of_z, to_z, FitsSigned, unsigned_abs, List, [], ◌∷◌, ◌++◌, length, get_or, map, take, refl, ap, sym, ◌∙◌, subst, arith}
use Rattle.std.proofs.Math.IntN.{pred_ℤ-*ℤ, zero-*ℤ}
use Rattle.std.proofs.lemmas.Int.{fits_signed_from_abs, ints, to_z-of_z}
use Rattle.std.proofs.lemmas.List.{length-map, length-take-le, map-append, take_more}
use Rattle.std.proofs.lemmas.List.Elements.{All-cons, All-nil}
use Rattle.std.specs.Int.{w64}
use Rattle.std.specs.List.{All}
use Rattle.spf_term.specs.Equation.{difference}
use Rattle.spf_term.specs.Measure.{by_size, size}
use Rattle.spf_term.specs.Substitution.{scaled}
use Rattle.spf_term.specs.declared.term.Atom.{Var}
use Rattle.spf_term.specs.declared.term.Mono.{Mono}
use Rattle.spf_term.specs.declared.term.Term.{Term, out-Term, roll-Term, out-roll-Term}
use Rattle.spf_rel.specs.Graph.{definitions, graph, opposite_mono, shifted, shifting}
use Rattle.spf_rel.specs.Renumbering.{Variables, moved, renumbered}
use Rattle.spf_rel.specs.declared.relation.Conj.{Conj}
use Rattle.spf_rel.specs.declared.relation.Rel.{Rel}
use Rattle.spf_rel.specs.declared.renumber.Blocks.{Blocks}
use Rattle.spf_rel.proofs.Moved.{in_others}
use Rattle.spf_rel.proofs.Renumbered.{renumbered_is, renumbered_mono, weaker}
use Rattle.spf_rel.proofs.Replaced.{itself}
use Rattle.spf_rel.proofs.Sized.{list_measured, measured_is}

-- ---- opposite numbers

opposite_size : (number : ℤ) → unsigned_abs (pos 0 -ℤ number) ≡ unsigned_abs number
opposite_size (pos number) = omega (arith, ints)
opposite_size (negsuc number) = omega (arith, ints)

pub opposite_fits : (number : ℤ) → unsigned_abs number ≤ 2 ^ 62 → FitsSigned w64 (pos 0 -ℤ number)
opposite_fits number small = let size = opposite_size number in fits_signed_from_abs w64 (pos 0 -ℤ number) (omega (arith, size, small))

pub opposite_is : (number : ℤ) → unsigned_abs number ≤ 2 ^ 62 → to_z w64 (of_z w64 (pos 0 -ℤ number)) ≡ negsuc 0 *ℤ number
opposite_is number small =
    let e = pred_ℤ-*ℤ (pos 0) number in
    let z = zero-*ℤ number in
    let turn : pos 0 -ℤ number ≡ negsuc 0 *ℤ number = omega (arith, ints, e, z) in
    to_z-of_z w64 (pos 0 -ℤ number) (opposite_fits number small) ∙ turn

-- ---- sizes

each_small : (monos : List Mono) (bound : ℕ) → list_measured by_size monos ≤ bound → All (λ (mono : Mono). unsigned_abs mono.coef ≤ bound) monos
each_small [] bound less = All-nil (λ (mono : Mono). unsigned_abs mono.coef ≤ bound)
each_small (mono ∷ monos) bound less = All-cons (λ (mono : Mono). unsigned_abs mono.coef ≤ bound) mono monos (omega (arith, less)) (each_small monos bound (omega (arith, less)))

module _ (term : Term) (bound : ℕ) (small : size term ≤ bound) where
  pub small_monos : All (λ (mono : Mono). unsigned_abs mono.coef ≤ bound) (out-Term term).monos
  small_monos = let is = measured_is by_size term in each_small (out-Term term).monos bound (omega (arith, is, small))

  pub small_constant : unsigned_abs (out-Term term).constant ≤ bound
  small_constant = let is = measured_is by_size term in omega (arith, is, small)

-- ---- one difference

scaled_renumbered : (to : ℕ → ℕ) (monos : List Mono) → scaled (negsuc 0) (map (renumbered_mono to) monos) ≡ map (opposite_mono to) monos
scaled_renumbered to [] = refl
scaled_renumbered to (mono ∷ monos) = ap (λ more. opposite_mono to mono ∷ more) (scaled_renumbered to monos)

pub difference_is : (to : ℕ → ℕ) (var : ℕ) (term : Term) (monos : List Mono) (constant : ℤ) → monos ≡ (record { coef = pos 1; atom = Var var } ∷ []) ++ map (opposite_mono to) (out-Term term).monos → constant ≡ negsuc 0 *ℤ (out-Term term).constant
    → roll-Term (record { monos = monos; constant = constant }) ≡ difference var (renumbered to term)
difference_is to var term monos constant are is =
    let made = ap out-Term (renumbered_is to term) ∙ out-roll-Term (record { monos = map (renumbered_mono to) (out-Term term).monos; constant = (out-Term term).constant }) in
    (λ i. roll-Term (record { monos = are i; constant = is i }))
    ∙ ap (λ (more : List Mono). roll-Term (record { monos = record { coef = pos 1; atom = Var var } ∷ more; constant = negsuc 0 *ℤ (out-Term term).constant })) (sym (scaled_renumbered to (out-Term term).monos))
    ∙ (λ i. roll-Term (record { monos = record { coef = pos 1; atom = Var var } ∷ scaled (negsuc 0) (sym made i).monos; constant = negsuc 0 *ℤ (sym made i).constant }))

-- ---- one difference after another

pub defined_more : (var : ℕ) (terms : List Term) (term : Term) (next : ℕ) → next ≡ var + length terms → definitions var (terms ++ term ∷ []) ≡ definitions var terms ++ difference next term ∷ []
defined_more var [] term next is = ap (λ (of : ℕ). difference of term ∷ []) (omega (arith, is))
defined_more var (first ∷ terms) term next is = ap (λ more. difference var first ∷ more) (defined_more (var + 1) terms term next (omega (arith, is)))

module _ (to : ℕ → ℕ) (first : ℕ) (terms : List Term) (index : ℕ) (term : Term) (var : ℕ) (inside : index < length terms) (at : term ≡ get_or terms index term) where
  taken : take (index + 1) terms ≡ take index terms ++ term ∷ []
  taken = take_more terms index term inside ∙ ap (λ (last : Term). take index terms ++ last ∷ []) (sym at)

  pub defined_next : var ≡ first + index → definitions first (map (renumbered to) (take (index + 1) terms)) ≡ definitions first (map (renumbered to) (take index terms)) ++ difference var (renumbered to term) ∷ []
  defined_next is =
      let count : length (map (renumbered to) (take index terms)) ≡ index = length-map (take index terms) (renumbered to) ∙ length-take-le index terms (omega (arith, inside)) in
      ap (λ (some : List Term). definitions first (map (renumbered to) some)) taken
      ∙ ap (definitions first) (map-append (renumbered to) (take index terms) (term ∷ []))
      ∙ defined_more first (map (renumbered to) (take index terms)) (renumbered to term) var (omega (arith, is, count))

-- ---- larger numbers

pub shift_is : (by number : ℕ) → moved (shifting by) number ≡ by + number
shift_is by number = in_others (shifting by) number (omega arith) (omega arith) ∙ omega arith

pub shifted_is : (by : ℕ) (terms : List Term) → map (renumbered (moved (shifting by))) terms ≡ map (shifted by) terms
shifted_is by terms = ap (λ (to : ℕ → ℕ). map (renumbered to) terms) (λ i. λ number. shift_is by number i)

none_is : (number : ℕ) → moved (shifting 0) number ≡ number
none_is number = shift_is 0 number ∙ omega arith

pub none_shifted : (terms : List Term) → map (renumbered (moved (shifting 0))) terms ≡ terms
none_shifted [] = refl
none_shifted (term ∷ terms) = λ i. (ap (λ (to : ℕ → ℕ). renumbered to term) (λ j. λ number. none_is number j) ∙ itself term) i ∷ none_shifted terms i

pub shifts_fit : (by bound : ℕ) (terms : List Term) → by + bound < 2 ^ 32 → All (Variables (λ number. number < bound)) terms → All (Variables (λ number. moved (shifting by) number < 2 ^ 32)) terms
shifts_fit by bound terms few each = λ k d inside. weaker (λ number. number < bound) (λ number. moved (shifting by) number < 2 ^ 32) (λ number less. let is = shift_is by number in omega (arith, is, less, few)) (get_or terms k d) (each k d inside)

pub graph_is : (ins : ℕ) (terms : List Term) (blocks : Blocks) (equal : List Term) (conjs : List Conj) → blocks ≡ shifting 0 → equal ≡ definitions ins (map (renumbered (moved blocks)) terms) → conjs ≡ record { inner = 0; equal = equal; least = [] } ∷ []
    → record { ins = ins; outs = length terms; conjs = conjs } ≡ graph ins terms
graph_is ins terms blocks equal conjs none are is =
    let equal_is = are ∙ ap (λ (by : Blocks). definitions ins (map (renumbered (moved by)) terms)) none ∙ ap (definitions ins) (none_shifted terms) in
    let conjs_are = is ∙ ap (λ (of : List Term). record { inner = 0; equal = of; least = [] } ∷ []) equal_is in
    λ i. record { ins = ins; outs = length terms; conjs = conjs_are i }
