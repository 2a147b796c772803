-- What resolving a script for a shape answers.
use Rattle.std.specs.Prelude.{ℕ, ◌≡◌, ◌+◌, ◌≤◌, ◌<◌, ⊤, Bool, true, false, List, [], ◌∷◌, map, length, slice_get, None, Some, Result, Ok, Err, All, AllPairs}
use Rattle.std.specs.List.{position_or_len}
use Rattle.std.specs.Str.{bytes_eq}
use Rattle.spf_space.specs.declared.shape.ArrayShape.{ArrayShape}
use Rattle.spf_space.specs.declared.shape.LoopShape.{LoopShape}
use Rattle.spf_space.specs.declared.shape.Shape.{Shape}
use Rattle.spf_script.specs.Rules.{least_rule}
use Rattle.spf_script.specs.declared.resolved.Seed.{Seed}
use Rattle.spf_script.specs.declared.resolved.Seed.TheVariants.{Block, Spread, Plug}
use Rattle.spf_script.specs.declared.resolved.Step.{Step}
use Rattle.spf_script.specs.declared.resolved.Step.TheVariants.{Cpack, LexGroup, LexSort, Bucket, Tile, TilePack}
use Rattle.spf_script.specs.declared.resolving.ScriptFault.{ScriptFault}
use Rattle.spf_script.specs.declared.resolving.ScriptFault.TheVariants.{Rule, Tiles, Memory}
use Rattle.spf_script.specs.declared.step.TextSeed.{TextSeed}
use Rattle.spf_script.specs.declared.step.TextSeed.TheVariants as text_seed
use Rattle.spf_script.specs.declared.step.TextStep.{TextStep}
use Rattle.spf_script.specs.declared.step.TextStep.TheVariants as text

-- the number of the first loop of this name, or how many loops there are
abbrev pub loop_number : List LoopShape → List ℕ → ℕ
loop_number loops name = position_or_len (λ (each : LoopShape). bytes_eq each.name name) loops

-- the number of the first array of this name, or how many arrays there are
abbrev pub array_number : List ArrayShape → List ℕ → ℕ
array_number arrays name = position_or_len (λ (array : ArrayShape). bytes_eq array.name name) arrays

abbrev pub resolved_seed : TextSeed → Seed
resolved_seed text_seed.Block = Block
resolved_seed text_seed.Spread = Spread
resolved_seed (text_seed.Plug number) = Plug number

module _ (shape : Shape) where
  -- the step with its names as numbers
  abbrev pub resolved : TextStep → Step
  resolved (text.Cpack arrays by) = Cpack (map (array_number shape.arrays) arrays) (loop_number shape.loops by)
  resolved (text.LexGroup of by) = LexGroup (loop_number shape.loops of) (array_number shape.arrays by)
  resolved (text.LexSort of by) = LexSort (loop_number shape.loops of) (array_number shape.arrays by)
  resolved (text.Bucket of by size) = Bucket (loop_number shape.loops of) (array_number shape.arrays by) size
  resolved (text.Tile of at seed parts) = Tile (loop_number shape.loops of) at (resolved_seed seed) parts
  resolved (text.TilePack arrays) = TilePack (map (array_number shape.arrays) arrays)

-- the greatest number of parts
abbrev pub most_parts : ℕ
most_parts = 1024

-- the number of parts of the first `tile`
abbrev pub parts_in : List TextStep → ℕ
parts_in [] = 0
parts_in (text.Tile of at seed parts ∷ steps) = parts
parts_in (text.Cpack arrays by ∷ steps) = parts_in steps
parts_in (text.LexGroup of by ∷ steps) = parts_in steps
parts_in (text.LexSort of by ∷ steps) = parts_in steps
parts_in (text.Bucket of by size ∷ steps) = parts_in steps
parts_in (text.TilePack arrays ∷ steps) = parts_in steps

module _ (shape : Shape) (plugs : ℕ) (script : List TextStep) where
  -- no step breaks a rule
  abbrev pub IsWellFormed : Type 0
  IsWellFormed = (place : ℕ) → least_rule shape plugs script place ≡ None

  -- the step with this number, counted from 1, is the first that breaks a rule, and this is the least one that it breaks
  pub record IsFirstBroken (number rule : ℕ) : Type 0 where
    pub place : ℕ
    pub numbered : number ≡ place + 1
    pub broken : least_rule shape plugs script place ≡ Some rule
    pub before : (other : ℕ) → other < place → least_rule shape plugs script other ≡ None

  -- no rule is broken, or the first that is
  abbrev pub TestsRules : {A : Type 0} → Result A ScriptFault → Type 0
  TestsRules (Ok done) = IsWellFormed
  TestsRules (Err (Rule step rule)) = IsFirstBroken step rule
  TestsRules (Err (Tiles count)) = ⊥
  TestsRules (Err Memory) = ⊥

  -- the steps of a script that breaks no rule and has no more parts than there may be, with their names as numbers
  pub record AreResolved (steps : List Step) : Type 0 where
    pub well_formed : IsWellFormed
    pub few : parts_in script ≤ most_parts
    pub steps_are : steps ≡ map (resolved shape) script

  -- a script that breaks no rule has this many parts, which is more than there may be
  pub record HasManyParts (count : ℕ) : Type 0 where
    pub well_formed : IsWellFormed
    pub counted : count ≡ parts_in script
    pub many : most_parts < count

  -- what `resolve` answers; out of memory is free
  abbrev pub IsResolveAnswer : Result (List Step) ScriptFault → Type 0
  IsResolveAnswer (Ok steps) = AreResolved steps
  IsResolveAnswer (Err (Rule step rule)) = IsFirstBroken step rule
  IsResolveAnswer (Err (Tiles count)) = HasManyParts count
  IsResolveAnswer (Err Memory) = ⊤

abbrev pub IsSeedFor : ℕ → Seed → Type 0
IsSeedFor plugs Block = ⊤
IsSeedFor plugs Spread = ⊤
IsSeedFor plugs (Plug number) = number < plugs

-- the numbers are those of arrays that have one length
pub record AreAlike (shape : Shape) (numbers : List ℕ) : Type 0 where
  pub count : ℕ
  pub each : All (λ number. (array : ArrayShape) × (slice_get shape.arrays number ≡ Some array) × (array.length ≡ count)) numbers

module _ (shape : Shape) (plugs : ℕ) where
  abbrev pub IsLoop : ℕ → Type 0
  IsLoop number = number < length shape.loops

  abbrev pub IsArray : ℕ → Type 0
  IsArray number = number < length shape.arrays

  -- the numbers of a step are such as the shape and the partitioners have
  abbrev pub IsStepFor : Step → Type 0
  IsStepFor (Cpack arrays by) = AreAlike shape arrays × IsLoop by
  IsStepFor (LexGroup of by) = IsLoop of × IsArray by
  IsStepFor (LexSort of by) = IsLoop of × IsArray by
  IsStepFor (Bucket of by size) = IsLoop of × IsArray by × (1 ≤ size)
  IsStepFor (Tile of at seed parts) = IsLoop of × (at < shape.steps) × IsSeedFor plugs seed × (1 ≤ parts) × (parts ≤ most_parts)
  IsStepFor (TilePack arrays) = AreAlike shape arrays

-- whether the step is a tiling
abbrev pub is_tiling : Step → Bool
is_tiling (Tile of at seed parts) = true
is_tiling _ = false

-- no tiling comes after another one
abbrev pub TilesOnce : List Step → Type 0
TilesOnce steps = AllPairs (λ (a b : Step). is_tiling a ≡ true → is_tiling b ≡ false) steps
