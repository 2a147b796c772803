-- The executor's units: what they are bound to, and what they do.
use Rattle.std.specs.Prelude.{ℕ, ◌≡◌, ◌+◌, ◌<◌, ◌^◌, ℤ, List, All}
use Rattle.std.specs.List.{sum_by}
use Rattle.spf_perm.specs.Perm.{IsPerm}
use Rattle.spf_term.specs.Environment.{Environment}
use Rattle.spf_touch.specs.Frame.{Behavior, FrameLaw, after_unit}
use Rattle.spf_touch.specs.Renaming.{renamed_units}
use Rattle.spf_touch.specs.RenamingLaw.{renamed_law}
use Rattle.spf_touch.specs.declared.touch.Touch.{Touch}
use Rattle.spf_kernel.specs.BodySites.{item_sites}
use Rattle.spf_kernel.specs.declared.tree.Item.{Item}
use Rattle.spf_kernel.specs.declared.tree.Tree.{Tree}
use Rattle.spf_space.specs.declared.shape.Shape.{Shape}
use Rattle.spf_pack.specs.Packing.{renaming_of}
use Rattle.spf_store.specs.Behavior.{AreSourced, Sourced, source_behavior, unit_at}
use Rattle.spf_store.specs.BehaviorLaw.{source_law}
use Rattle.spf_store.specs.Shaped.{starts_of}
use Rattle.spf_exec.specs.Executor.{AreTablesOf, executor_env}
use Rattle.spf_exec.specs.Generated.{program_of}
use Rattle.spf_exec.specs.Meaning.{AreBound, executor_effect}
use Rattle.spf_exec.specs.Moves.{AreMovesOf, lengths, packings_of}
use Rattle.spf_exec.specs.declared.program.Body.{Body}
use Rattle.spf_exec.specs.declared.program.Moved.{Moved}
use Rattle.spf_exec.specs.declared.program.Program.{Program}

-- the source's units, and the packings of the arrays on whose cells the executor runs
pub record Executed : Type 0 where
  pub source : Sourced
  pub packings : List (List ℕ)
  pub perms : All IsPerm packings

-- the source's units, where each element goes to its packed place
abbrev pub executor_behavior : Executed → Behavior
executor_behavior of = renamed_units (renaming_of of.packings of.perms) (source_behavior of.source.env of.source.tree of.source.steps)

pub executor_law : (of : Executed) → FrameLaw (executor_behavior of)
executor_law of =
    renamed_law (renaming_of of.packings of.perms) (source_behavior of.source.env of.source.tree of.source.steps) (source_law of.source.env of.source.tree of.source.steps)

-- whatever the tables of the moves are, each unit makes of values what the executor's events at its new position do
abbrev pub DoesExecutor : Environment → Tree → Moved → ℕ → Behavior → Type 0
DoesExecutor env tree moved steps units =
    (orders packings : List (List ℤ)) → AreTablesOf tree moved env orders packings → (u : ℕ) → u < units.count → (values : ℕ → ℤ) (e : ℕ) →
    after_unit units u values e ≡ executor_effect env tree moved orders packings (unit_at env tree steps u) values e

-- the sites of a body have numbers of 32 bits
abbrev pub HasFewSites : List Item → Type 0
HasFewSites items = 1 + sum_by item_sites items < 2 ^ 32

-- what a runner has is that of the kernel, its numbers and what is moved
pub record IsRunner (env executor : Environment) (tree : Tree) (shape : Shape) (touches : List (List Touch)) (moved : Moved) (program : Program) (starts : List ℕ) : Type 0 where
  pub sourced : AreSourced env tree shape touches
  pub moves : AreMovesOf (lengths shape.arrays) moved.arrays
  pub program_is : program ≡ program_of tree moved
  pub sites : All (λ (body : Body). HasFewSites body.items) program.loops
  pub starts_are : starts ≡ starts_of env tree
  pub orders : List (List ℤ)
  pub packings : List (List ℤ)
  pub executor_is : executor ≡ executor_env env orders packings
  pub bound : (perms : All IsPerm (packings_of moved.arrays shape.arrays)) → AreBound env tree moved orders packings (renaming_of (packings_of moved.arrays shape.arrays) perms)
