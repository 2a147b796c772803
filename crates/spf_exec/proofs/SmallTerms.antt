-- Composed terms, and packed ones, are small by value.
use Rattle.std.proofs.Common.{◌≡◌, ℕ, zero, suc, ◌+◌, ◌<◌, ◌≤◌, ℤ, pos, negsuc, Option, None, Some, List, [], ◌∷◌, FitsSigned, w64, length, map, get_or, ap, sym, ◌∙◌, subst, arith}
use Rattle.std.specs.Option.{is_some}
use Rattle.std.specs.Prelude.{◌^◌}
use Rattle.std.specs.List.{AllByRecursion}
use Rattle.std.proofs.lemmas.Int.{ints}
use Rattle.spf_term.specs.Environment.{Environment}
use Rattle.spf_term.specs.Value.{IsSmall, applications, atom_applications, number_at, table_at, value}
use Rattle.spf_term.specs.declared.term.Atom.{Atom, Var, Param, App}
use Rattle.spf_term.specs.declared.term.Mono.{Mono}
use Rattle.spf_term.specs.declared.term.Term.{Term, Term', out-Term, Row_of-Mono, end_of-Mono, more_of-Mono}
use Rattle.spf_term.proofs.Monos.{applications_are, list_applications}
use Rattle.spf_kernel.specs.Kept.{KeepsFactor}
use Rattle.spf_kernel.specs.Named.{AreNamedMonos, IsNamedAtom, IsNamedTerm, NameCounts}
use Rattle.spf_store.specs.Small.{IsSmallValue, small}
use Rattle.spf_exec.specs.Composed.{applied, iteration_by, packed_by, variable}
use Rattle.spf_exec.specs.Executor.{IsPackingTable, executor_env}
use Rattle.spf_exec.specs.Moves.{IsMove}
use Rattle.spf_exec.specs.Rewritten.{as_value, factor_of}
use Rattle.spf_exec.proofs.Arguments.{AllAtoms, AtomHasSmallArguments, HasSmallArguments, HaveSmallArguments, arguments_of, rolled_arguments, small_by}
use Rattle.spf_exec.proofs.AsValues.{term_kept}
use Rattle.spf_exec.proofs.Behind.{term_same}
use Rattle.spf_exec.proofs.Counts.{rolled_applications}
use Rattle.spf_exec.proofs.Iterations.{atom_alone}

-- a term that names index arrays alone has the same arguments where further tables stand behind them
module _ (env : Environment) (orders packings : List (List ℤ)) (counts : NameCounts) (tables : length env.tables ≡ counts.tables)
    (variables : ℕ) (here there : List ℤ) (alike : (number : ℕ) → number < variables → number_at here (pos number) ≡ number_at there (pos number)) where
  mutual
    pub carried : (term : Term) → IsNamedTerm counts variables term → HasSmallArguments env there term → HasSmallArguments (executor_env env orders packings) here term
    carried (Term' shape monos constant) is each = row_carried monos is each

    row_carried : {n : _} (row : Row_of-Mono n) → AreNamedMonos counts variables row → HaveSmallArguments env there row → HaveSmallArguments (executor_env env orders packings) here row
    row_carried end_of-Mono is each = tt
    row_carried (more_of-Mono coef atom others) is each = (atom_carried atom is.0 each.0, row_carried others is.1 each.1)

    atom_carried : (atom : Atom) → IsNamedAtom counts variables atom → AtomHasSmallArguments env there atom → AtomHasSmallArguments (executor_env env orders packings) here atom
    atom_carried (Var number) is each = tt
    atom_carried (Param number) is each = tt
    atom_carried (App fun arg) is each =
        (subst (FitsSigned w64) (sym (term_same env orders packings counts tables variables here there alike arg is.1)) each.0, carried arg is.1 each.1)

module _ (exec : Environment) (here : List ℤ) where
  -- a name by itself
  pub variable_arguments : (number : ℕ) → HasSmallArguments exec here (variable number)
  variable_arguments number = rolled_arguments exec here (record { coef = pos 1; atom = Var number } ∷ []) (pos 0) (tt, tt)

  pub applied_arguments : (fun : ℕ) (arg : Term) → FitsSigned w64 (value exec here arg) → HasSmallArguments exec here arg → HasSmallArguments exec here (applied fun arg)
  applied_arguments fun arg fits each = rolled_arguments exec here (record { coef = pos 1; atom = App fun arg } ∷ []) (pos 0) ((fits, each), tt)

  applied_few : (fun : ℕ) (arg : Term) → applications (applied fun arg) ≡ 1 + applications arg
  applied_few fun arg = let is = rolled_applications (record { coef = pos 1; atom = App fun arg } ∷ []) (pos 0) in omega (arith, is)

  -- the iteration at a position
  pub by_arguments : (moves : Option (List ℕ)) (order : ℕ) (low : Term) → FitsSigned w64 (number_at here (pos 0)) → HasSmallArguments exec here low → HasSmallArguments exec here (iteration_by (is_some moves) order low)
  by_arguments None order low fits each =
      rolled_arguments exec here (record { coef = pos 1; atom = Var 0 } ∷ (out-Term low).monos) (out-Term low).constant (tt, arguments_of exec here low each)
  by_arguments (Some moves) order low fits each = applied_arguments order (variable 0) (subst (FitsSigned w64) (sym (atom_alone exec here (Var 0))) fits) (variable_arguments 0)

  pub by_few : (moves : Option (List ℕ)) (order : ℕ) (low : Term) → applications low ≤ 64 → applications (iteration_by (is_some moves) order low) ≤ 64
  by_few None order low few =
      let is = rolled_applications (record { coef = pos 1; atom = Var 0 } ∷ (out-Term low).monos) (out-Term low).constant in omega (arith, is, applications_are low, few)
  by_few (Some moves) order low few =
      let is = applied_few order (variable 0) in let none = rolled_applications (record { coef = pos 1; atom = Var 0 } ∷ []) (pos 0) in omega (arith, is, none)

  -- an entry of a packing
  entry_fits : (moves : List ℕ) → length moves < 2 ^ 32 → ((e : ℕ) → e < length moves → get_or moves e 0 < length moves) → (place : ℤ) → FitsSigned w64 (number_at (map pos moves) place)
  entry_fits moves few below (negsuc place) = omega (arith, ints)
  entry_fits moves few below (pos place) = entry (length moves) few moves below place where
    entry : (most : ℕ) → most < 2 ^ 32 → (moves : List ℕ) → ((e : ℕ) → e < length moves → get_or moves e 0 < most) → (place : ℕ) → FitsSigned w64 (get_or (map pos moves) place (pos 0))
    entry most few [] below place = omega (arith, ints)
    entry most few (first ∷ moves) below zero = let less = below 0 (omega arith) in omega (arith, ints, less, few)
    entry most few (first ∷ moves) below (suc place) = entry most few moves (λ e inside. below (suc e) (omega (arith, inside))) place

  -- a packed place
  pub packed_small : (moves : Option (List ℕ)) (packing : ℕ) (place : Term) → IsMove moves → IsPackingTable moves (table_at exec packing) → FitsSigned w64 (value exec here place) → HasSmallArguments exec here place →
      applications place ≤ 16383 → IsSmall exec here (packed_by (is_some moves) packing place)
  packed_small None packing place move table fits each few = small_by exec here place fits each (omega (arith, few))
  packed_small (Some moves) packing place move table fits each few =
      small_by exec here (applied packing place)
      (subst (FitsSigned w64) (sym (atom_alone exec here (App packing place) ∙ ap (λ numbers. number_at numbers (value exec here place)) table)) (entry_fits moves move.few move.below (value exec here place)))
      (applied_arguments packing place fits each) (let is = applied_few packing place in omega (arith, is, few))

  -- terms as values
  atom_small : (atom : Atom) → AtomHasSmallArguments exec here atom → atom_applications atom ≤ 16384 → KeepsFactor (small exec here) (factor_of atom)
  atom_small (Var number) each few = tt
  atom_small (Param number) each few = tt
  atom_small (App fun arg) each few = small_by exec here arg each.0 each.1 (omega (arith, few))

  atoms_small : (monos : List Mono) → AllAtoms (AtomHasSmallArguments exec here) monos → list_applications monos ≤ 16384 → AllByRecursion (λ (mono : Mono). KeepsFactor (small exec here) (factor_of mono.atom)) monos
  atoms_small [] each few = tt
  atoms_small (mono ∷ monos) each few = (atom_small mono.atom each.0 (omega (arith, few)), atoms_small monos each.1 (omega (arith, few)))

  pub as_value_small : (term : Term) → HasSmallArguments exec here term → applications term ≤ 16384 → IsSmallValue exec here (as_value term)
  as_value_small term each few =
      term_kept (small exec here) (λ n. tt) term (atoms_small (out-Term term).monos (arguments_of exec here term each) (let is = applications_are term in omega (arith, is, few)))

  pub entry_small : (fun : ℕ) (arg : Term) → IsSmall exec here arg → HasSmallArguments exec here arg → applications arg ≤ 16383 → IsSmallValue exec here (as_value (applied fun arg))
  entry_small fun arg is each few = as_value_small (applied fun arg) (applied_arguments fun arg is.value each) (let more = applied_few fun arg in omega (arith, more, few))
