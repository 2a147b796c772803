-- The first rule that is broken, where those before it are kept.
use Rattle.std.proofs.Common.{◌≡◌, ◌∙◌, ℕ, ◌+◌, List, [], ◌∷◌, ◌++◌, Option, None, Some, length, refl, ap, arith}
use Rattle.spf_kernel.specs.declared.tree.Tree.{Tree}
use Rattle.spf_input.specs.Answer.{IsInputFault}
use Rattle.spf_input.specs.Given.{Given}
use Rattle.spf_input.specs.Rules.{Spot, first_broken, first_fault_of, spot}
use Rattle.spf_input.specs.Tested.{AreKept, IsFaultOf}
use Rattle.spf_input.specs.declared.fault.InputFault.{InputFault}
use Rattle.spf_input.specs.declared.fault.InputFault.TheVariants.{Text, Kernel, Input, Memory}

first_behind : (rule : ℕ) (before rest : List (Option Spot)) → AreKept before → first_broken rule (before ++ rest) ≡ first_broken (rule + length before) rest
first_behind rule [] rest kept = ap (λ n. first_broken n rest) (omega arith)
first_behind rule (None ∷ before) rest kept = first_behind (rule + 1) before rest kept.1 ∙ ap (λ n. first_broken n rest) (omega arith)
first_behind rule (Some one ∷ before) rest kept = absurd cc

-- no rule is broken
pub unbroken : (rule : ℕ) (found : List (Option Spot)) → AreKept found → first_broken rule found ≡ None
unbroken rule [] kept = refl
unbroken rule (None ∷ found) kept = unbroken (rule + 1) found kept.1
unbroken rule (Some one ∷ found) kept = absurd cc

-- ---- the faults of some rules among all of them

broken_first : (rule : ℕ) (found after : List (Option Spot)) (broken : ℕ × Spot) → first_broken rule found ≡ Some broken → first_broken rule (found ++ after) ≡ Some broken
broken_first rule [] after broken is = absurd cc
broken_first rule (None ∷ found) after broken is = broken_first (rule + 1) found after broken is
broken_first rule (Some one ∷ found) after broken is = is

pub refused_among : (rule : ℕ) (before found after : List (Option Spot)) (fault : InputFault)
    → AreKept before → IsFaultOf (first_broken (rule + length before) found) fault → IsFaultOf (first_broken rule (before ++ (found ++ after))) fault
refused_among rule before found after Memory kept refused = tt
refused_among rule before found after (Text place kind) kept refused = refused
refused_among rule before found after (Kernel place number) kept refused = refused
refused_among rule before found after (Input name place number) kept refused =
    first_behind rule before (found ++ after) kept ∙ broken_first (rule + length before) found after (number, spot name place) refused

pub answered : (tree : Tree) (given : List Given) (fault : InputFault) → IsFaultOf (first_fault_of tree given) fault → IsInputFault tree given fault
answered tree given Memory refused = tt
answered tree given (Text place kind) refused = refused
answered tree given (Kernel place number) refused = refused
answered tree given (Input name place number) refused = refused
