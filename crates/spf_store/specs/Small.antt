-- Items whose terms are small wherever they are evaluated: each value, and each place that is read for it, has 64 bits.
use Rattle.std.specs.Prelude.{◌^◌, ℤ, List, [], ◌∷◌, All, ⊤}
use Rattle.spf_term.specs.Bounded.{IsWithin}
use Rattle.spf_term.specs.Environment.{Environment}
use Rattle.spf_term.specs.Value.{IsSmall}
use Rattle.spf_kernel.specs.Kept.{Property, KeepsValue, KeepsFactor, KeepsAssign, KeepsCond, KeepsGuard, KeepsPart}
use Rattle.spf_kernel.specs.declared.tree.Value.{Value}
use Rattle.spf_kernel.specs.declared.tree.Factor.{Factor}
use Rattle.spf_kernel.specs.declared.tree.Factor.TheVariants as factor_is
use Rattle.spf_kernel.specs.declared.tree.Assign.{Assign}
use Rattle.spf_kernel.specs.declared.tree.Cond.{Cond}
use Rattle.spf_kernel.specs.declared.tree.Guard.{Guard}
use Rattle.spf_kernel.specs.declared.tree.Part.{Part}
use Rattle.spf_kernel.specs.declared.tree.Item.{Item}
use Rattle.spf_kernel.specs.declared.tree.Item.TheVariants as item_is
use Rattle.spf_store.specs.Trace.{outer_of}

module _ (env : Environment) where
  module _ (variables : List ℤ) where
    abbrev pub HasSmall : Factor → Type 0
    HasSmall (factor_is.Index array sub) = IsSmall env variables sub
    HasSmall (factor_is.Cell array sub) = IsSmall env variables sub
    HasSmall factor = ⊤

    -- each term is small where the variables have these values
    abbrev pub small : Property
    small = record { ix = IsSmall env variables; leaf = HasSmall; array = λ number. ⊤ }

    abbrev pub IsSmallFactor : Factor → Type 0
    IsSmallFactor = KeepsFactor small

    abbrev pub IsSmallValue : Value → Type 0
    IsSmallValue = KeepsValue small

    abbrev pub IsSmallAssign : Assign → Type 0
    IsSmallAssign = KeepsAssign small

    abbrev pub IsSmallCond : Cond → Type 0
    IsSmallCond = KeepsCond small

    abbrev pub IsSmallGuard : Guard → Type 0
    IsSmallGuard = KeepsGuard small

    abbrev pub IsSmallPart : Part → Type 0
    IsSmallPart = KeepsPart small

  module _ (variables : List ℤ) where
    -- the parts of a `for`, wherever its variable is within the greatest bound
    abbrev pub AreSmallTurns : List Part → Type 0
    AreSmallTurns parts = (inner : ℤ) → IsWithin (2 ^ 22) inner → All (IsSmallPart (outer_of variables ∷ inner ∷ [])) parts

    abbrev pub IsSmallItem : Item → Type 0
    IsSmallItem (item_is.Assign assign) = IsSmallAssign variables assign
    IsSmallItem (item_is.Branch guard) = IsSmallGuard variables guard
    IsSmallItem (item_is.Inner var low high parts) = IsSmall env variables low × IsSmall env variables high × AreSmallTurns parts
