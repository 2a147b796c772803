-- What an iteration needs of the cells that it is run on.
use Rattle.std.specs.Prelude.{ℕ, ◌≡◌, ◌+◌, ◌<◌, ◌^◌, ℤ, pos, Bool, true, All, List, length, slice_index_or, ⊤}
use Rattle.spf_term.specs.Bounded.{IsWithin}
use Rattle.spf_term.specs.Environment.{Environment}
use Rattle.spf_term.specs.Value as term
use Rattle.spf_term.specs.Value.{IsSmall}
use Rattle.spf_touch.specs.declared.class.Class.{Class}
use Rattle.spf_kernel.specs.Kept.{Property, KeepsValue, KeepsFactor}
use Rattle.spf_kernel.specs.declared.tree.Value.{Value}
use Rattle.spf_kernel.specs.declared.tree.Factor.{Factor}
use Rattle.spf_kernel.specs.declared.tree.Factor.TheVariants as factor_is
use Rattle.spf_store.specs.Effect.{element_at}
use Rattle.spf_store.specs.Event.{Event, Turn, Bound, Read, Access, Store}

-- there is an array of this number, and at this place it has an element with a number of 32 bits
pub record IsPlaced (starts : List ℕ) (array : ℕ) (place : ℤ) : Type 0 where
  pub known : array < length starts
  pub at : ℕ
  pub is : place ≡ pos at
  pub fits : slice_index_or starts array 0 + at < 2 ^ 32

-- and that is one of the cells' own
pub record IsOwn (starts : List ℕ) (owns : ℕ → Bool) (array : ℕ) (place : ℤ) : Type 0 where
  pub placed : IsPlaced starts array place
  pub own : owns (element_at (slice_index_or starts array 0) place) ≡ true

-- all that is accessed is the cells' own
abbrev pub OwnsAll : (ℕ → Bool) → List (ℕ × Class) → Type 0
OwnsAll owns accesses = All (λ access. owns access.0 ≡ true) accesses

module _ (starts : List ℕ) (owns : ℕ → Bool) where
  -- the event may come: a bound of a `for` is small, and what is accessed is the cells' own
  abbrev pub Allows : Event → Type 0
  Allows Turn = ⊤
  Allows (Bound site value) = IsWithin (2 ^ 22) value
  Allows (Read entry) = ⊤
  Allows (Access site class array place) = IsOwn starts owns array place
  Allows (Store assign variables) = ⊤

module _ (env : Environment) (starts : List ℕ) (owns : ℕ → Bool) (variables : List ℤ) where
  abbrev pub HasReadable : Factor → Type 0
  HasReadable (factor_is.Index array sub) = IsSmall env variables sub
  HasReadable (factor_is.Cell array sub) = IsSmall env variables sub × IsOwn starts owns array (term.value env variables sub)
  HasReadable factor = ⊤

  -- subscripts are small, and the elements that are read are the cells' own
  abbrev pub readable : Property
  readable = record { ix = IsSmall env variables; leaf = HasReadable; array = λ number. ⊤ }

  abbrev pub IsReadable : Value → Type 0
  IsReadable = KeepsValue readable

  abbrev pub IsFactorReadable : Factor → Type 0
  IsFactorReadable = KeepsFactor readable
