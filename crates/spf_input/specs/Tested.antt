-- What a test of a rule answers.
use Rattle.std.specs.Prelude.{ℕ, ◌≡◌, ℤ, pos, List, [], ◌∷◌, Option, None, Some, Result, Ok, Err, ⊤, codes}
use Rattle.std.specs.List.{AllByRecursion}
use Rattle.spf_base.specs.Word.{IsName}
use Rattle.spf_lex.specs.Tokens.{texts}
use Rattle.spf_kernel.specs.Facts.{text_of}
use Rattle.spf_input.specs.Given.{Given, numbers_between}
use Rattle.spf_term.specs.Environment.{Environment}
use Rattle.spf_store.specs.Shaped.{data_of, outer_value, size}
use Rattle.spf_kernel.specs.declared.tree.Decl.{Decl}
use Rattle.spf_kernel.specs.declared.tree.Tree.{Tree}
use Rattle.spf_input.specs.Answer.{IsInputFault}
use Rattle.spf_input.specs.Numbers.{cells_of, env_of}
use Rattle.spf_input.specs.Rules.{Spot, bad_bound_of, bad_entry_of, bad_length_of, bad_parameter, bad_size_of, bad_trend_of, first, first_array, first_broken, first_fault_of, is_from_to, large_number, missing, repeated, spot, undeclared, unless}
use Rattle.spf_input.specs.declared.entries.RawEntry.{RawEntry}
use Rattle.spf_input.specs.declared.fault.InputFault.{InputFault}
use Rattle.spf_input.specs.declared.fault.InputFault.TheVariants.{Text, Kernel, Input, Memory}
use Rattle.spf_input.specs.declared.given.Numbers.{Numbers}
use Rattle.spf_input.specs.declared.input.KernelInput.{KernelInput}

-- the rule with this number is refused there; out of memory is free
abbrev pub IsRefused : ℕ → Option Spot → InputFault → Type 0
IsRefused rule broken (Input name place number) = (broken ≡ Some (spot name place)) × (number ≡ rule)
IsRefused rule broken Memory = ⊤
IsRefused rule broken (Text place kind) = ⊥
IsRefused rule broken (Kernel place number) = ⊥

-- the rule is kept, or refused where it is broken
abbrev pub Tests : {A : Type 0} → ℕ → Option Spot → Result A InputFault → Type 0
Tests rule broken (Ok a) = broken ≡ None
Tests rule broken (Err fault) = IsRefused rule broken fault

-- ---- some rules, by what each of them finds

abbrev pub AreKept : List (Option Spot) → Type 0
AreKept found = AllByRecursion (λ (one : Option Spot). one ≡ None) found

-- the fault is that of this rule at this spot; out of memory is free
abbrev pub IsFaultOf : Option (ℕ × Spot) → InputFault → Type 0
IsFaultOf found (Input name place rule) = found ≡ Some (rule, spot name place)
IsFaultOf found Memory = ⊤
IsFaultOf found (Text place kind) = ⊥
IsFaultOf found (Kernel place rule) = ⊥

-- all rules from this number on are kept, or the first that is broken is refused there
abbrev pub TestsAll : {A : Type 0} → ℕ → List (Option Spot) → Result A InputFault → Type 0
TestsAll rule found (Ok a) = AreKept found
TestsAll rule found (Err fault) = IsFaultOf (first_broken rule found) fault

module _ (tree : Tree) (given : List Given) where
  -- rules 1 to 3
  abbrev pub of_names : List (Option Spot)
  of_names = undeclared tree given ∷ repeated given ∷ missing tree given ∷ []

  -- rules 4 and 5
  abbrev pub of_numbers : List (Option Spot)
  of_numbers = bad_parameter tree given ∷ large_number given ∷ []

module _ (env : Environment) (given : List Given) (decls : List Decl) where
  -- rules 6 and 7
  abbrev pub of_sizes : List (Option Spot)
  of_sizes = first (first_array (bad_size_of env)) decls ∷ first (first_array (bad_length_of env given)) decls ∷ []

  -- rules 8 and 9
  abbrev pub of_tables : List (Option Spot)
  of_tables = first (bad_entry_of env given) decls ∷ first (bad_trend_of given) decls ∷ []

-- rules 10 and 11
abbrev pub of_bounds : Environment → Tree → List (Option Spot)
of_bounds env tree = unless (is_from_to (pos 0) (pos 4194304) (outer_value env tree.steps)) (codes "steps") ∷ first (bad_bound_of env) tree.loops ∷ []

-- ---- what is given

-- the numbers that stand there
abbrev pub listed : Numbers → List ℤ
listed numbers = numbers_between (texts numbers.tokens.now) numbers.at numbers.to

-- the name of each entry is a word
abbrev pub AreNamed : List (List ℕ) → List RawEntry → Type 0
AreNamed texts entries = AllByRecursion (λ (entry : RawEntry). IsName (text_of texts entry.name)) entries

-- the numbers of an entry, if there is one
abbrev pub numbers_at : Option Given → List ℤ
numbers_at None = []
numbers_at (Some entry) = entry.numbers

-- no rule of the input is broken, and this is what the kernel is given; or the first rule that is broken
pub record IsInputOf (tree : Tree) (given : List Given) (input : KernelInput) : Type 0 where
  pub unbroken : first_fault_of tree given ≡ None
  pub env : input.env ≡ env_of tree given
  pub cells : input.cells.items ≡ cells_of tree given
  pub arrays : input.arrays ≡ data_of (env_of tree given) tree
  pub steps : input.steps ≡ size (env_of tree given) tree.steps

abbrev pub IsInputAnswer : Tree → List Given → Result KernelInput InputFault → Type 0
IsInputAnswer tree given (Ok input) = IsInputOf tree given input
IsInputAnswer tree given (Err fault) = IsInputFault tree given fault
