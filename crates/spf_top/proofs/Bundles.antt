-- What is known of a bundle that was read, and of the cells and the text of what it gives.
use Rattle.std.proofs.Common.{◌≡◌, ℕ, suc, ◌+◌, ◌≤◌, List, [], ◌∷◌, length, map, All, Ok, None, refl, sym, ap, ◌∙◌, subst, arith}
use Rattle.std.specs.Prelude.{ℤ, pos, slice_index_or}
use Rattle.std.specs.List.{AllByRecursion, range_with_len}
use Rattle.std.proofs.lemmas.List.Elements.{All-from_recursion}
use Rattle.std.proofs.lemmas.List.Sums.{sum_by-cons}
use Rattle.spf_term.specs.Environment.{Environment}
use Rattle.spf_space.specs.Layout.{AreAdjacent, cells_in}
use Rattle.spf_space.specs.declared.shape.ArrayShape.{ArrayShape}
use Rattle.spf_kernel.specs.Parsed.{IsParsed}
use Rattle.spf_kernel.specs.declared.tree.Tree.{Tree}
use Rattle.spf_store.specs.Accepted.{IsAccepted}
use Rattle.spf_store.specs.Source.{source_result}
use Rattle.spf_store.specs.Stored.{IsStored, Stored}
use Rattle.spf_input.specs.Answer.{IsBundleAnswer}
use Rattle.spf_input.specs.Given.{Given, given_in}
use Rattle.spf_input.specs.Numbers.{env_of}
use Rattle.spf_input.specs.Rules.{first_fault_of}
use Rattle.spf_input.specs.declared.reading.Bundle.{Bundle}
use Rattle.spf_top.specs.Kept.{IsKept}
use Rattle.spf_top.specs.Texts.{arrays_text, cell_of, result_cells, text_of}

pub kept_bundle : ((tree : Tree) (given : List Given) → IsParsed tree → first_fault_of tree given ≡ None → IsAccepted (env_of tree given) tree) → (bundle : Bundle) → IsParsed bundle.kernel
    → (bytes : List ℕ) → IsBundleAnswer bytes (Ok bundle) → IsKept bundle
kept_bundle law bundle parsed bytes (tokens, lexes, (pair, parses, (((same, raw), tree), judged, is))) =
    let accepted = law tree (given_in same raw.input) (subst IsParsed is.kernel parsed) is.unbroken in
    record {
      accepted = subst (λ (t : Tree). IsAccepted bundle.env t) (sym is.kernel) (subst (λ (env : Environment). IsAccepted env tree) (sym is.env) accepted);
      arrays = rw (is.kernel, is.env) is.arrays;
      steps = rw (is.kernel, is.env) is.steps;
    }

-- ---- the text

cells_from : (f : ℕ → ℤ) (at : ℕ) (cells : List ℤ) → ((e : ℕ) → slice_index_or cells e (pos 0) ≡ f (at + e)) → cells ≡ map f (range_with_len at (length cells))
cells_from f at [] each = refl
cells_from f at (cell ∷ cells) each =
    let here : at + 0 ≡ at = omega arith in
    let there : (e : ℕ) → at + suc e ≡ at + 1 + e = λ e. omega arith in
    let head : cell ≡ f at = each 0 ∙ ap f here in
    let tail = cells_from f (at + 1) cells (λ e. each (suc e) ∙ ap f (there e)) in
    λ i. head i ∷ tail i

pub result_text : (bundle : Bundle) (after : Stored) → after.arrays ≡ bundle.store.arrays → length after.cells ≡ length bundle.store.cells
    → ((e : ℕ) → cell_of after e ≡ source_result bundle.env bundle.kernel bundle.steps (cell_of bundle.store) e) → arrays_text after.cells after.arrays ≡ text_of bundle
result_text bundle after arrays count each =
    let values = source_result bundle.env bundle.kernel bundle.steps (cell_of bundle.store) in
    let none : (e : ℕ) → e ≡ 0 + e = λ e. omega arith in
    let cells : after.cells ≡ result_cells bundle = cells_from values 0 after.cells (λ e. each e ∙ ap values (none e)) ∙ ap (λ n. map values (range_with_len 0 n)) count in
    λ i. arrays_text (cells i) (arrays i)

ends_within : (total from : ℕ) (arrays : List ArrayShape) → AreAdjacent from arrays → from + cells_in arrays ≤ total → AllByRecursion (λ (array : ArrayShape). array.start + array.length ≤ total) arrays
ends_within total from [] adjacent within = tt
ends_within total from (array ∷ arrays) adjacent within =
    let all = sum_by-cons (λ (each : ArrayShape). each.length) array arrays in
    (omega (arith, adjacent.0, all, within), ends_within total (from + array.length) arrays adjacent.1 (omega (arith, all, within)))

-- each array of a store lies among its cells
pub arrays_fit : (store : Stored) → IsStored store → All (λ (array : ArrayShape). array.start + array.length ≤ length store.cells) store.arrays
arrays_fit store is = All-from_recursion (λ (array : ArrayShape). array.start + array.length ≤ length store.cells) store.arrays
    (ends_within (length store.cells) 0 store.arrays is.adjacent (omega (arith, is.filled)))
