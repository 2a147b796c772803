-- What a history makes of the cells.
use Rattle.std.specs.Prelude.{ℕ, ℤ, pos, List, [], ◌∷◌, Option, None, ◌==◌, if◌then◌else◌, slice_index_or, option_map}
use Rattle.spf_touch.specs.Copy.{copy_at, value_or_0}
use Rattle.spf_touch.specs.Frame.{Behavior, after_units, blend_at}
use Rattle.spf_core.specs.Tiling.{Tiling, list_of, tile_class}
use Rattle.spf_core.specs.declared.event.Event.{Event}
use Rattle.spf_core.specs.declared.event.Event.TheVariants.{Claim, Publish}

-- the values of the cells, and of each worker's copy
pub record Moment : Type 0 where
  pub cells : ℕ → ℤ
  pub copies : ℕ → ℕ → Option ℤ

-- cells as values: 0 behind their end
abbrev pub values_of : List ℤ → ℕ → ℤ
values_of cells e = slice_index_or cells e (pos 0)

-- the copy that a claim of the tile gives: of each of its elements the value, or the neutral number of a reduction class
abbrev pub claimed : Behavior → Tiling → ℕ → (ℕ → ℤ) → ℕ → Option ℤ
claimed units job t cells e = copy_at (tile_class units job t e) (cells e)

-- the copy after the tile's units
abbrev pub worked : Behavior → Tiling → ℕ → (ℕ → Option ℤ) → ℕ → Option ℤ
worked units job t copy e = option_map (λ _. after_units units (list_of job t) (λ x. value_or_0 (copy x)) e) (copy e)

-- the cells after publication of the worked copy: each of the tile's elements gets its class's blend with the copy's value
abbrev pub merged : Behavior → Tiling → ℕ → (ℕ → Option ℤ) → (ℕ → ℤ) → ℕ → ℤ
merged units job t copy cells e = blend_at (tile_class units job t e) (cells e) (value_or_0 (copy e))

-- the moment after the event: a claim gives its worker a copy, and a publication works on that and blends it into the cells
abbrev pub next : Behavior → Tiling → Moment → Event → Moment
next units job m (Claim w t) = record { cells = m.cells; copies = λ v. if v == w then claimed units job t m.cells else m.copies v }
next units job m (Publish w t) = record {
  cells = merged units job t (worked units job t (m.copies w)) m.cells;
  copies = λ v. if v == w then (λ e. None) else m.copies v;
}

-- the moment after these events
abbrev pub replay_from : Behavior → Tiling → Moment → List Event → Moment
replay_from units job m [] = m
replay_from units job m (event ∷ events) = replay_from units job (next units job m event) events

-- the moment after the history, which begins with the job's cells and no copy
abbrev pub replay : Behavior → Tiling → List Event → Moment
replay units job events = replay_from units job (record { cells = values_of job.cells; copies = λ w e. None }) events
