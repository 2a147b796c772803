-- Touch lists that lie one behind the other among all touches, and markers by which a touch of the last one is found.
use Rattle.std.specs.Prelude.{◌≡◌, ℕ, zero, suc, ◌+◌, ◌<◌, ◌≤◌, ◌^◌, List, [], ◌∷◌, drop, get_or, length}
use Rattle.std.specs.List.{slice_range}
use Rattle.spf_touch.specs.Frame.{IsOnce}
use Rattle.spf_touch.specs.declared.touch.Touch.{Touch}

-- where the list of this number begins, if the first one begins at `from`: where the one before it ends
abbrev pub start_of : ℕ → List ℕ → ℕ → ℕ
start_of from ends zero = from
start_of from [] (suc list) = from
start_of from (end ∷ ends) (suc list) = start_of end ends list

-- the lists that end at these places among the touches, of which the first begins at `from`
abbrev pub cut : List Touch → ℕ → List ℕ → List (List Touch)
cut touches from [] = []
cut touches from (end ∷ ends) = slice_range touches from end ∷ cut touches end ends

-- each list ends where it begins or behind that, and not behind the touches, and names an element at most once
abbrev pub AreLists : List Touch → ℕ → List ℕ → Type 0
AreLists touches from [] = from ≤ length touches
AreLists touches from (end ∷ ends) = (from ≤ end) × IsOnce (slice_range touches from end) × AreLists touches end ends

-- the ends are those of lists, and all may be numbered in 32 bits
pub record AreCut (touches : List Touch) (ends : List ℕ) : Type 0 where
  pub lists : AreLists touches 0 ends
  pub few_lists : length ends < 2 ^ 32
  pub few_touches : length touches < 2 ^ 32

-- finished lists, the list at work, and the number of cells of which elements may be noted
pub record Listed : Type 0 where
  pub closed : List (List Touch)
  pub current : List Touch
  pub cells : ℕ

-- the touches behind the last end
abbrev pub open_list : List Touch → List ℕ → List Touch
open_list touches ends = drop (start_of 0 ends (length ends)) touches

-- each touch of a list that begins at `start` stands where its element's marker says
abbrev pub AreMarked : ℕ → List Touch → List ℕ → Type 0
AreMarked start touches markers = (k : ℕ) (d : Touch) → k < length touches → get_or markers (get_or touches k d).element 0 ≡ start + k

-- a touch of the element stands at this place, in the list that begins at `start`
pub record StandsAt (touches : List Touch) (start place element : ℕ) : Type 0 where
  pub behind : start ≤ place
  pub inside : place < length touches
  pub same : (d : Touch) → (get_or touches place d).element ≡ element

-- the list at work names an element at most once too, and its touches are marked
pub record AreNoted (touches : List Touch) (ends markers : List ℕ) : Type 0 where
  pub cut : AreCut touches ends
  pub once : IsOnce (open_list touches ends)
  pub marked : AreMarked (start_of 0 ends (length ends)) (open_list touches ends) markers
