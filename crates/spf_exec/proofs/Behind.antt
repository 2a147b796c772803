-- A term that names index arrays alone has the same value where further tables stand behind them.
use Rattle.std.proofs.Common.{◌≡◌, ℕ, ◌+◌, ◌<◌, ℤ, pos, ◌+ℤ◌, ◌*ℤ◌, List, [], ◌++◌, length, get_or, refl, ap, sym, ◌∙◌, arith}
use Rattle.std.proofs.lemmas.List.{get_or-append-add, get_or_append_left}
use Rattle.spf_term.specs.Environment.{Environment}
use Rattle.spf_term.specs.Value.{atom_value, number_at, sum_value, table_at, value}
use Rattle.spf_term.specs.declared.term.Atom.{Atom, Var, Param, App}
use Rattle.spf_term.specs.declared.term.Term.{Term, Term', Row_of-Mono, end_of-Mono, more_of-Mono}
use Rattle.spf_kernel.specs.Named.{AreNamedMonos, IsNamedAtom, IsNamedTerm, NameCounts}
use Rattle.spf_exec.specs.Executor.{executor_env}

module _ (env : Environment) (orders packings : List (List ℤ)) (counts : NameCounts) (tables : length env.tables ≡ counts.tables) where
  abbrev pub further : Environment
  further = executor_env env orders packings

  index_array : (fun : ℕ) → fun < counts.tables → table_at further fun ≡ table_at env fun
  index_array fun inside = get_or_append_left env.tables (orders ++ packings) [] fun (omega (arith, inside, tables))

  pub order_table : (loop_no : ℕ) → loop_no < length orders → table_at further (counts.tables + loop_no) ≡ get_or orders loop_no []
  order_table loop_no inside =
      ap (λ before. get_or (env.tables ++ (orders ++ packings)) (before + loop_no) []) (sym tables) ∙ get_or-append-add env.tables (orders ++ packings) loop_no [] ∙ get_or_append_left orders packings [] loop_no inside

  pub packing_table : (loops array : ℕ) → length orders ≡ loops → table_at further (counts.tables + loops + array) ≡ get_or packings array []
  packing_table loops array are =
      let place : counts.tables + loops + array ≡ length env.tables + (length orders + array) = omega (arith, tables, are) in
      ap (λ fun. get_or (env.tables ++ (orders ++ packings)) fun []) place ∙ get_or-append-add env.tables (orders ++ packings) (length orders + array) [] ∙ get_or-append-add orders packings array []

  -- with the same numbers for the variables that may stand in the term
  module _ (variables : ℕ) (here there : List ℤ) (alike : (number : ℕ) → number < variables → number_at here (pos number) ≡ number_at there (pos number)) where
    mutual
      atom_same : (atom : Atom) → IsNamedAtom counts variables atom → atom_value further here atom ≡ atom_value env there atom
      atom_same (Var number) h = alike number h
      atom_same (Param number) h = refl
      atom_same (App fun arg) h = λ i. number_at (index_array fun h.0 i) (term_same arg h.1 i)

      row_same : {n : _} (row : Row_of-Mono n) → AreNamedMonos counts variables row → sum_value further here row ≡ sum_value env there row
      row_same end_of-Mono h = refl
      row_same (more_of-Mono coef atom others) h = λ i. (coef *ℤ atom_same atom h.0 i) +ℤ row_same others h.1 i

      pub term_same : (term : Term) → IsNamedTerm counts variables term → value further here term ≡ value env there term
      term_same (Term' shape monos constant) h = ap (λ (sum : ℤ). sum +ℤ constant) (row_same monos h)
