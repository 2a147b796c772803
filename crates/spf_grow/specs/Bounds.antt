-- Numbers as bounds: the greatest of the units that conflict with one, kept by element and class.
use Rattle.std.specs.Prelude.{◌≡◌, ℕ, ◌+◌, ◌-◌, ◌<◌, ◌≤◌, ◌^◌, List, All, max, length, slice_index_or}
use Rattle.spf_touch.specs.Conflict.{Conflict}
use Rattle.spf_touch.specs.Repeated.{touches_at}
use Rattle.spf_touch.specs.declared.class.Class.{Class}
use Rattle.spf_touch.specs.declared.class.Class.TheVariants.{Read, Write, Add}
use Rattle.spf_touch.specs.declared.touch.Touch.{Touch}
use Rattle.spf_grow.specs.declared.extremes.Extremes.{Extremes}

-- the greatest number of a class, and of those that conflict with a class
abbrev pub extreme_of : Extremes → Class → ℕ
extreme_of x Read = x.read
extreme_of x Write = x.write
extreme_of x Add = x.add

abbrev pub against_of : Extremes → Class → ℕ
against_of x Read = max x.write x.add
against_of x Write = max x.read (max x.write x.add)
against_of x Add = max x.read x.write

-- with one more number in a class
abbrev pub with_number : Extremes → Class → ℕ → Extremes
with_number x Read n = record x { read = max x.read n }
with_number x Write n = record x { write = max x.write n }
with_number x Add n = record x { add = max x.add n }

abbrev pub nothing : Extremes
nothing = record { read = 0; write = 0; add = 0 }

-- the greatest numbers at an element
abbrev pub extremes_at : List Extremes → ℕ → Extremes
extremes_at bounds e = slice_index_or bounds e nothing

-- there is no number yet
abbrev pub AreEmpty : List Extremes → Type 0
AreEmpty bounds = (e : ℕ) (c : Class) → extreme_of (extremes_at bounds e) c ≡ 0

-- no number at the elements of these touches, in a class that conflicts with theirs, is above this one
abbrev pub IsAbove : List Extremes → List Touch → ℕ → Type 0
IsAbove bounds touches n = All (λ (t : Touch). against_of (extremes_at bounds t.element) t.class ≤ n) touches

-- all elements of these touches are below cells
abbrev pub AreWithin : List Touch → ℕ → Type 0
AreWithin touches cells = All (λ (t : Touch). t.element < cells) touches

-- what a pass over the units below count asks: they have touches, all of elements below cells
pub record ArePassed (touches : List (List Touch)) (count cells : ℕ) : Type 0 where
  pub few : count < 2 ^ 32
  pub some : 0 < count → 0 < length touches
  pub inside : (u : ℕ) → u < count → AreWithin (touches_at touches u) cells

-- what becomes of the numbers by one more, of a unit with these touches
pub record IsNoted (before : List Extremes) (touches : List Touch) (n : ℕ) (after : List Extremes) : Type 0 where
  pub kept : (e : ℕ) (c : Class) → extreme_of (extremes_at before e) c ≤ extreme_of (extremes_at after e) c
  pub reached : All (λ (t : Touch). n ≤ extreme_of (extremes_at after t.element) t.class) touches
  pub least : (e : ℕ) (c : Class) (x : ℕ) → extreme_of (extremes_at before e) c ≤ x → All (λ (t : Touch). t.element ≡ e → t.class ≡ c → n ≤ x) touches →
      extreme_of (extremes_at after e) c ≤ x

-- the greatest of the values of these units, by element and class
pub record AreGreatest (touches : ℕ → List Touch) (from to : ℕ) (value : ℕ → ℕ) (bounds : List Extremes) : Type 0 where
  pub reached : (u : ℕ) → from ≤ u → u < to → All (λ (t : Touch). value u ≤ extreme_of (extremes_at bounds t.element) t.class) (touches u)
  pub least : (e : ℕ) (c : Class) (x : ℕ) → ((u : ℕ) → from ≤ u → u < to → All (λ (t : Touch). t.element ≡ e → t.class ≡ c → value u ≤ x) (touches u)) →
      extreme_of (extremes_at bounds e) c ≤ x

-- the number is the greatest of the values of those of these units that conflict with one, and 0 if there is none
pub record IsBound (touches : ℕ → List Touch) (from to : ℕ) (value : ℕ → ℕ) (u n : ℕ) : Type 0 where
  pub above : (v : ℕ) → from ≤ v → v < to → Conflict (touches v) (touches u) → value v ≤ n
  pub least : (x : ℕ) → ((v : ℕ) → from ≤ v → v < to → Conflict (touches v) (touches u) → value v ≤ x) → n ≤ x

-- each of the units from `from` on has the bound of the units from `first` on and before it
abbrev pub HaveLeast : (ℕ → List Touch) → ℕ → ℕ → ℕ → (ℕ → ℕ) → Type 0
HaveLeast touches first from to numbers = (u : ℕ) → from ≤ u → u < to → IsBound touches first u numbers u (numbers u)

-- how far below the last part the number is
abbrev pub depth_in : (ℕ → ℕ) → ℕ → ℕ → ℕ
depth_in numbers last u = last - numbers u

-- each of these units is as deep below the last part as the deepest unit behind it with which it conflicts
abbrev pub HaveGreatest : (ℕ → List Touch) → ℕ → ℕ → ℕ → ℕ → (ℕ → ℕ) → Type 0
HaveGreatest touches from to count last numbers = (u : ℕ) → from ≤ u → u < to → IsBound touches (u + 1) count (depth_in numbers last) u (depth_in numbers last u)
