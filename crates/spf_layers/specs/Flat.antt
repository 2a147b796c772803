-- Lists that lie one behind the other in one list, and groups kept so.
use Rattle.std.specs.Prelude.{◌≡◌, ℕ, ◌-◌, ◌<◌, ◌≤◌, ◌^◌, Bool, ◌&&◌, nat_lt, List, [], ◌∷◌, ◌++◌, if◌then◌else◌, length, slice_index_or}
use Rattle.std.specs.List.{slice_range}
use Rattle.spf_touch.specs.Conflict.{is_shared}
use Rattle.spf_touch.specs.declared.class.Class.{Class}
use Rattle.spf_touch.specs.declared.class.Class.TheVariants.{Write}
use Rattle.spf_layers.specs.Groups.{Group}
use Rattle.spf_layers.specs.declared.rows.Rows.{Rows}

-- the lists that end at these places, of which the first begins at `from`
abbrev pub parts : {X : Type 0} → List X → ℕ → List ℕ → List (List X)
parts xs from [] = []
parts xs from (end ∷ ends) = slice_range xs from end ∷ parts xs end ends

-- each list ends where it begins or behind that, and the last one ends with the whole
abbrev pub AreEnds : ℕ → ℕ → List ℕ → Type 0
AreEnds whole from [] = from ≡ whole
AreEnds whole from (end ∷ ends) = (from ≤ end) × AreEnds whole end ends

-- groups of these classes and units
abbrev pub grouped : List Class → List (List ℕ) → List Group
grouped [] rows = []
grouped (c ∷ cs) [] = []
grouped (c ∷ cs) (units ∷ rows) = record { class = c; units = units } ∷ grouped cs rows

abbrev pub groups_in : Rows → List Group
groups_in rows = grouped rows.classes.items (parts rows.units.items 0 rows.ends.items)

pub record AreRows (rows : Rows) : Type 0 where
  pub ends : AreEnds (length rows.units.items) 0 rows.ends.items
  pub classes : length rows.classes.items ≡ length rows.ends.items
  pub few : length rows.units.items < 2 ^ 32
  pub few_groups : length rows.ends.items ≤ length rows.units.items

-- one more unit behind these groups
abbrev pub behind : ℕ → Class → List Group → List Group
behind u c [] = record { class = c; units = u ∷ [] } ∷ []
behind u c (g ∷ []) = if is_shared g.class c then record { class = g.class; units = g.units ++ u ∷ [] } ∷ [] else g ∷ record { class = c; units = u ∷ [] } ∷ []
behind u c (g ∷ h ∷ gs) = g ∷ behind u c (h ∷ gs)

-- one more unit in the last of these groups
abbrev pub joined_last : ℕ → List Group → List Group
joined_last u [] = []
joined_last u (g ∷ []) = record { class = g.class; units = g.units ++ u ∷ [] } ∷ []
joined_last u (g ∷ h ∷ gs) = g ∷ joined_last u (h ∷ gs)

-- whether a unit of this class joins the last of the groups of these classes, if that one isn't before `start`
abbrev pub joins : List Class → ℕ → Class → Bool
joins classes start c = nat_lt start (length classes) && is_shared (slice_index_or classes (length classes - 1) Write) c

-- what the model of layers keeps
pub record AreLaid (rows : Rows) (ends : List ℕ) : Type 0 where
  pub groups : AreRows rows
  pub elements : AreEnds (length rows.ends.items) 0 ends
  pub few : length ends < 2 ^ 32
