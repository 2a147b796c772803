-- Chains of nodes: for each element one from its first unit to its last.
use Rattle.std.specs.Prelude.{◌≡◌, ℕ, ◌-◌, ◌<◌, ◌≤◌, ◌^◌, List, [], ◌∷◌, Option, Some, None, length, slice_get, slice_index_or}
use Rattle.spf_touch.specs.Frame.{class_at}
use Rattle.spf_touch.specs.declared.class.Class.{Class}
use Rattle.spf_touch.specs.declared.touch.Touch.{Touch}
use Rattle.spf_layers.specs.Groups.{Group, in_front}
use Rattle.spf_layers.specs.declared.chains.Node.{Node}

-- a unit that touches an element, and how
pub record Entry : Type 0 where
  pub unit : ℕ
  pub class : Class

abbrev pub entry_in_front : ℕ → Option Class → List Entry → List Entry
entry_in_front u None entries = entries
entry_in_front u (Some c) entries = record { unit = u; class = c } ∷ entries

-- those of these units that touch the element
abbrev pub entries : (ℕ → List Touch) → ℕ → List ℕ → List Entry
entries touches e [] = []
entries touches e (u ∷ us) = entry_in_front u (class_at (touches u) e) (entries touches e us)

abbrev pub grouped_entries : List Entry → List Group
grouped_entries [] = []
grouped_entries (x ∷ xs) = in_front x.unit x.class (grouped_entries xs)

-- the nodes from this number on, counted from 1, are these entries; 0 ends a chain
abbrev pub AreChained : List Node → ℕ → List Entry → Type 0
AreChained nodes number [] = number ≡ 0
AreChained nodes number (x ∷ xs) =
    (next : ℕ) × (0 < number) × (slice_get nodes (number - 1) ≡ Some (record { unit = x.unit; class = x.class; next = next })) × AreChained nodes next xs

-- a chain leads on to earlier nodes alone
abbrev pub LeadBack : List Node → Type 0
LeadBack nodes = (k : ℕ) (d : Node) → k < length nodes → (slice_index_or nodes k d).next ≤ k

-- the chain from each head has these entries
pub record AreChains (nodes : List Node) (heads : List ℕ) (of : ℕ → List Entry) : Type 0 where
  pub few : length nodes < 2 ^ 32
  pub back : LeadBack nodes
  pub each : (e : ℕ) → e < length heads → AreChained nodes (slice_index_or heads e 0) (of e)
