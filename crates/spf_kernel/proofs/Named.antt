-- Where no rule is broken, each number in the tree that a kernel means names something.
use Rattle.spf_kernel.proofs.Common.{Factor, ◌≡◌, ℕ, ◌<◌, Bool, true, false, List, [], length, Option, None, Some, is_some, refl, subst, ℤ, if◌then◌else◌, AllByRecursion, split_each, join_each, Term, Term', roll-Term, out-roll-Term, Row_of-Mono, end_of-Mono, more_of-Mono, items-the_row-Mono, items_shown-the_row-Mono-0, Mono, Token, Spot, Scope, RawIx, RawIx', Row_of-RawStep, end_of-RawStep, more_of-RawStep, RawMono, Number', RawMono-Number-1-None', RawMono-Number-1-Some', RawAtom, RawAtom', RawAtom-at-None', RawAtom-at-Some', end_of-RawIx, more_of-RawIx, Fact, text_of, variables_in, NameCounts, IsNamedTerm, Names, names_of, ix_notes, steps_notes, mono_notes, atom_notes, subscript_notes, excess_notes, expression_notes, ix_monomials, monomial_limit, number_notes, constant_of, variable_of, table_of, data_array_of, is_data_array, bare_atom, bare_factor, term_of, more_monos, monos_of, atom_of, factor_at, takes_data, fits, sym, RawKernel, Tree, facts_of, IsParsed, loop_of, tree_of, IsUnbroken, is_data, wrap, out-Term, KeepsFactor, KeepsLoop, loop_notes, kernel_notes}
use Rattle.spf_kernel.specs.Named.{AreNamedMonos, IsNamedAtom, named, counts_in, IsNamed, IsNamedTree}
use Rattle.spf_kernel.proofs.FittingNames.{IsBare, bare_fits, table_fits, IsEntry, entry_fits, variable_named, number_declared}
use Rattle.spf_kernel.proofs.NamedUses.{AreFitting, IsFitting, all_fit}
use Rattle.spf_kernel.proofs.Kept.{AreKept, all_kept, each_kept, loop_kept}
use Rattle.spf_kernel.proofs.NamedLists.{params_found, tables_found, arrays_found}

-- ---- terms made of lists

module _ (counts : NameCounts) (variables : ℕ) where
  abbrev pub IsNamedMono : Mono → Type 0
  IsNamedMono mono = IsNamedAtom counts variables mono.atom

  monos_named : {n : _} (row : Row_of-Mono n) → AllByRecursion IsNamedMono (items-the_row-Mono n row) → AreNamedMonos counts variables row
  monos_named end_of-Mono each = tt
  monos_named (more_of-Mono coef atom others) each = (each.0, monos_named others each.1)

  term_named_by : (term : Term) → AllByRecursion IsNamedMono (out-Term term).monos → IsNamedTerm counts variables term
  unfolding out-Term denote.Hole.Carrier.out
  term_named_by (Term' shape monos constant) each = monos_named monos (subst (AllByRecursion IsNamedMono) (items_shown-the_row-Mono-0 shape monos) each)

  pub rolled_term : (monos : List Mono) (constant : ℤ) → AllByRecursion IsNamedMono monos → IsNamedTerm counts variables (roll-Term (record { monos = monos; constant = constant }))
  rolled_term monos constant each = term_named_by (roll-Term (record { monos = monos; constant = constant })) (rw (out-roll-Term (record { monos = monos; constant = constant })) each)

-- ---- names that fit

-- as many as there are of these names
abbrev pub counts_of_names : Names → NameCounts
counts_of_names names = record { params = length names.params; tables = length names.tables; arrays = length names.data_arrays }

module _ (texts : List (List ℕ)) (facts : List Fact) (scope : Scope) where
  abbrev names : Names
  names = names_of facts

  abbrev counts : NameCounts
  counts = counts_of_names names

  abbrev variables : ℕ
  variables = length (variables_in texts scope)

  -- a variable in scope, or else a declared parameter
  abbrev IsNamedBare : Token → Option ℕ → Type 0
  IsNamedBare name = IsBare facts (λ variable. variable < variables) (text_of texts name)

  bare : (spot : Spot) (name : Token) → fits facts (variables_in texts scope) (text_of texts name) false spot ≡ true → IsNamedBare name (variable_of (variables_in texts scope) (text_of texts name))
  bare spot name fit =
      bare_fits facts (λ variable. variable < variables) spot (variables_in texts scope) (text_of texts name) fit (λ variable found. (variable_named (variables_in texts scope) (text_of texts name) variable found).below)

  atom_bare : (name : Token) (variable : Option ℕ) → IsNamedBare name variable → IsNamedAtom counts variables (bare_atom texts names variable name)
  atom_bare name (Some variable) below = below
  atom_bare name None number = number.below

  factor_bare : (name : Token) (variable : Option ℕ) → IsNamedBare name variable → KeepsFactor (named counts variables) (bare_factor texts names variable name)
  factor_bare name (Some variable) below = below
  factor_bare name None number = number.below

  -- ---- index expressions

  module _ (spot : Spot) (no_data : takes_data spot ≡ false) where
    mutual
      term_named : (x : RawIx) → AreFitting texts facts (ix_notes spot scope x) → IsNamedTerm counts variables (term_of texts names scope x)
      term_named (RawIx' shape steps) each = rolled_term counts variables (more_monos texts names scope steps) (wrap (constant_of (RawIx' shape steps))) (steps_named steps each)

      steps_named : {n : _} (row : Row_of-RawStep n) → AreFitting texts facts (steps_notes spot scope row) → AllByRecursion (IsNamedMono counts variables) (more_monos texts names scope row)
      steps_named end_of-RawStep each = tt
      steps_named (more_of-RawStep minus mono others) each =
          let parts = split_each (IsFitting texts facts) (mono_notes spot scope mono) (steps_notes spot scope others) each in
          join_each (IsNamedMono counts variables) (monos_of texts names scope (is_some minus) mono) (more_monos texts names scope others) (mono_named (is_some minus) mono parts.0) (steps_named others parts.1)

      mono_named : (minus : Bool) (x : RawMono) → AreFitting texts facts (mono_notes spot scope x) → AllByRecursion (IsNamedMono counts variables) (monos_of texts names scope minus x)
      mono_named minus (Number' number RawMono-Number-1-None') each = tt
      mono_named minus (Number' number (RawMono-Number-1-Some' atom)) each = (atom_named atom (split_each (IsFitting texts facts) (number_notes true number) (atom_notes spot scope atom) each).1, tt)
      mono_named minus (RawMono.Atom atom) each = (atom_named atom each, tt)

      atom_named : (x : RawAtom) → AreFitting texts facts (atom_notes spot scope x) → IsNamedAtom counts variables (atom_of texts names scope x)
      atom_named (RawAtom' name RawAtom-at-None') each = atom_bare name (variable_of (variables_in texts scope) (text_of texts name)) (bare spot name each.0)
      atom_named (RawAtom' name (RawAtom-at-Some' shape (more_of-RawIx ix end_of-RawIx))) each =
          let parts = split_each (IsFitting texts facts) (ix_notes spot scope ix) [] each.1 in
          ((table_fits facts spot no_data (variables_in texts scope) (text_of texts name) each.0).below, term_named ix parts.0)

    pub expression_named : (x : RawIx) → AreFitting texts facts (expression_notes spot scope x) → IsNamedTerm counts variables (term_of texts names scope x)
    expression_named x each = term_named x (split_each (IsFitting texts facts) (excess_notes (monomial_limit spot) (ix_monomials x)) (ix_notes spot scope x) each).1

  -- ---- values

  -- a name, and what stands in the brackets behind it
  pub at_named : (name : Token) (at : Option RawIx) → fits facts (variables_in texts scope) (text_of texts name) (is_some at) Spot.Factor ≡ true → AreFitting texts facts (subscript_notes scope at) → KeepsFactor (named counts variables) (factor_at texts names scope name at)
  at_named name None fit each = factor_bare name (variable_of (variables_in texts scope) (text_of texts name)) (bare Spot.Factor name fit)
  at_named name (Some ix) fit each = by (is_data_array texts names name) (entry_fits facts (variables_in texts scope) (text_of texts name) fit) where
    by : (b : Bool) → IsEntry facts (text_of texts name) b
        → KeepsFactor (named counts variables) (if b then Factor.Cell (data_array_of texts names name) (term_of texts names scope ix) else Factor.Index (table_of texts names name) (term_of texts names scope ix))
    by true number = (number.below, expression_named Spot.Body refl ix each)
    by false number = (number.below, expression_named Spot.Body refl ix each)

-- ---- trees

abbrev all_counts : List Fact → NameCounts
all_counts facts = counts_of_names (names_of facts)

module _ (texts : List (List ℕ)) (facts : List Fact) where
  -- what the property asks of the leaves
  leaves : AreKept texts facts (named (all_counts facts))
  leaves = record {
    ix = expression_named texts facts;
    number = λ variables n. tt;
    name = at_named texts facts;
    array = λ variables name declared. (number_declared is_data facts name declared).below;
  }

  kernel_named : (x : RawKernel) → AreFitting texts facts (kernel_notes x) → IsNamedTree (all_counts facts) (tree_of texts (names_of facts) x)
  kernel_named x each =
      let all = all_kept texts facts (named (all_counts facts)) leaves x each in
      record { decls = all.decls; steps = all.steps; loops = each_kept texts facts (named (all_counts facts)) (KeepsLoop (named (all_counts facts))) loop_notes (loop_of texts (names_of facts)) (loop_kept texts facts (named (all_counts facts)) leaves) x.loops all.loops }

module _ (texts : List (List ℕ)) (raw : RawKernel) where
  -- the declarations give as many names as the notes declare
  same_counts : counts_of_names (names_of (facts_of texts (kernel_notes raw))) ≡ counts_in (tree_of texts (names_of (facts_of texts (kernel_notes raw))) raw).decls
  same_counts =
      let names = names_of (facts_of texts (kernel_notes raw)) in
      λ i. record { params = length (params_found texts names raw i); tables = length (tables_found texts names raw i); arrays = length (arrays_found texts names raw i) }

  tree_named : IsUnbroken texts (kernel_notes raw) → IsNamed (tree_of texts (names_of (facts_of texts (kernel_notes raw))) raw)
  unfolding IsNamed
  tree_named unbroken =
      let facts = facts_of texts (kernel_notes raw) in
      subst (λ (counts : NameCounts). IsNamedTree counts (tree_of texts (names_of facts) raw)) same_counts (kernel_named texts facts raw (all_fit texts (kernel_notes raw) unbroken))

pub parsed_is_named : (tree : Tree) → IsParsed tree → IsNamed tree
parsed_is_named tree parsed =
    let parses = parsed.parses in
    subst IsNamed (sym parses.means) (tree_named _ parses.raw parses.unbroken)
