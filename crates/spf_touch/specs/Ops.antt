-- Units that are lists of operations.
use Rattle.std.specs.Prelude.{◌≡◌, ℕ, ◌<◌, ◌^◌, ◌+ℤ◌, List, [], All, length, map, slice_index_or}
use Rattle.spf_touch.specs.Actions.{Action, action_behavior, both, cell, constant, touches_of}
use Rattle.spf_touch.specs.Frame.{Behavior}
pub use Rattle.spf_touch.specs.Noted.{noted}
use Rattle.spf_touch.specs.declared.class.Class.TheVariants.{Write, Add}
use Rattle.spf_touch.specs.declared.op.Op.{Op}
use Rattle.spf_touch.specs.declared.op.Op.TheVariants.{Put, Gain}
use Rattle.spf_touch.specs.declared.touch.Touch.{Touch}

-- the element that the operation reads
abbrev pub source : Op → ℕ
source (Put to from plus) = from
source (Gain to from) = from

-- the element that the operation changes
abbrev pub target : Op → ℕ
target (Put to from plus) = to
target (Gain to from) = to

-- an operation as an action
abbrev pub action_of : Op → Action
action_of (Put to from plus) = record { target = to; class = Write; made = both (λ old more. old +ℤ more) (cell from) (constant plus) }
action_of (Gain to from) = record { target = to; class = Add; made = cell from }

abbrev pub actions_of : List Op → List Action
actions_of ops = map action_of ops

-- what the operations touch
abbrev pub op_touches : List Op → List Touch
op_touches ops = touches_of (actions_of ops)

abbrev pub ops_of : List (List Op) → ℕ → List Op
ops_of units u = slice_index_or units u []

-- a unit performs its operations
abbrev pub op_behavior : List (List Op) → Behavior
op_behavior units = action_behavior (λ u. actions_of (ops_of units u)) (length units)

-- the touches are those of the units, and all may be numbered in 32 bits
pub record IsNoted (units : List (List Op)) (touches : List (List Touch)) : Type 0 where
  pub few : length units < 2 ^ 32
  pub same : touches ≡ map op_touches units
  pub short : All (λ list. length list < 2 ^ 32) touches
