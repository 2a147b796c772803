-- The groups of units in which an element is touched.
use Rattle.std.specs.Prelude.{ℕ, List, [], ◌∷◌, Option, Some, None, if◌then◌else◌, slice_index_or}
use Rattle.std.specs.List.{range_with_len}
use Rattle.spf_touch.specs.Conflict.{is_shared}
use Rattle.spf_touch.specs.Frame.{class_at}
use Rattle.spf_touch.specs.declared.class.Class.{Class}
use Rattle.spf_touch.specs.declared.class.Class.TheVariants.{Read}
use Rattle.spf_touch.specs.declared.touch.Touch.{Touch}

-- units that touch an element one after another, and how they do
pub record Group : Type 0 where
  pub class : Class
  pub units : List ℕ

-- one more unit before these groups: it joins the first one where their classes are shared, and else opens one
abbrev pub in_front : ℕ → Class → List Group → List Group
in_front u c [] = record { class = c; units = u ∷ [] } ∷ []
in_front u c (g ∷ gs) = if is_shared c g.class then record { class = c; units = u ∷ g.units } ∷ gs else record { class = c; units = u ∷ [] } ∷ g ∷ gs

-- a unit that doesn't touch the element stands in no group
abbrev pub touched_in_front : ℕ → Option Class → List Group → List Group
touched_in_front u None gs = gs
touched_in_front u (Some c) gs = in_front u c gs

-- the groups of the element over these units
abbrev pub groups_from : (ℕ → List Touch) → ℕ → List ℕ → List Group
groups_from touches e [] = []
groups_from touches e (u ∷ us) = touched_in_front u (class_at (touches u) e) (groups_from touches e us)

-- the groups of the element over all units below count
abbrev pub groups_at : (ℕ → List Touch) → ℕ → ℕ → List Group
groups_at touches count e = groups_from touches e (range_with_len 0 count)

-- the groups that layers have of the element, and the group of a number
abbrev pub element_groups : List (List Group) → ℕ → List Group
element_groups layers e = slice_index_or layers e []

abbrev pub group_at : List Group → ℕ → Group
group_at groups n = slice_index_or groups n (record { class = Read; units = [] })
