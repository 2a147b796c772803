-- What it means for the events that a walk has no fault.
use Rattle.std.proofs.Common.{◌≡◌, ℕ, ◌+◌, ◌*◌, ◌<◌, ℤ, pos, negsuc, List, [], ◌∷◌, Option, Some, None, All, inl, inr, refl, sym, subst, map, arith, eqb}
use Rattle.std.proofs.lemmas.Bool.{cases_Bool, ne_eqb}
use Rattle.std.proofs.lemmas.Int.{ints}
use Rattle.std.proofs.lemmas.List.Elements.{All-from_recursion}
use Rattle.std.specs.List.{AllByRecursion, flat_map}
use Rattle.std.specs.Option.{option_or}
use Rattle.std.specs.Prelude.{◌&&◌, nat_lt, slice_index_or}
use Rattle.spf_term.specs.Environment.{Environment}
use Rattle.spf_touch.specs.Ops.{noted}
use Rattle.spf_touch.specs.declared.class.Class.{Class}
use Rattle.spf_touch.specs.declared.touch.Touch.{Touch}
use Rattle.spf_kernel.specs.declared.tree.DataDecl.{DataDecl}
use Rattle.spf_kernel.specs.declared.tree.Tree.{Tree}
use Rattle.spf_space.specs.Layout.{AreAdjacent, cells_in}
use Rattle.spf_space.specs.Units.{loops_units}
use Rattle.spf_space.specs.declared.unit.Unit.{Unit}
use Rattle.spf_store.specs.Accesses.{accesses_of, noted_all, touches_in, touches_of}
use Rattle.spf_store.specs.Effect.{element_at}
use Rattle.spf_store.specs.Event.{Event, Turn, Bound, Read, Access, Store}
use Rattle.spf_store.specs.FirstFault.{AreInRange, IsInRange, counted, counted_all, data_length, event_fault, events_fault, first_fault, is_visit, outside, range_fault, units_fault, unless_between, visit_limit, walked}
use Rattle.spf_store.specs.Shaped.{array_shapes, data_in, data_of, loops_of, size, starts_of}
use Rattle.spf_store.specs.Source.{unit_trace}
use Rattle.spf_store.proofs.InRange.{between, place_is_cell}

both_none : {A : Type 0} (first second : Option A) → option_or first second ≡ None → (first ≡ None) × (second ≡ None)
both_none None second h = (refl, h)
both_none (Some x) second h = cc

-- the arrays of a kernel lie one behind the other
are_adjacent : (env : Environment) (from : ℕ) (arrays : List DataDecl) → AreAdjacent from (array_shapes env from arrays)
are_adjacent env from [] = tt
are_adjacent env from (array ∷ arrays) = (refl, are_adjacent env (from + size env array.size) arrays)

module _ (env : Environment) (tree : Tree) (steps : ℕ) where
  range_none : (unit : Unit) (o : Option (ℕ × ℤ)) → range_fault env tree steps unit o ≡ None → o ≡ None
  range_none unit None h = refl
  range_none unit (Some (site, value)) h = cc

  event_none : (unit : Unit) (count : ℕ) (event : Event) → event_fault env tree steps unit count event ≡ None → outside env tree event ≡ None
  event_none unit count event h = elim (cases_Bool (is_visit event && nat_lt visit_limit (count * steps))) [
    | inl many ↦ let no = rw many at h in cc
    | inr few ↦ range_none unit (outside env tree event) (rw few at h)
  ]

  events_none : (unit : Unit) (count : ℕ) (events : List Event) → events_fault env tree steps unit count events ≡ None → AllByRecursion (λ event. outside env tree event ≡ None) events
  events_none unit count [] h = tt
  events_none unit count (event ∷ events) h =
      let both = both_none (event_fault env tree steps unit (counted count event) event) (events_fault env tree steps unit (counted count event) events) h in
      (event_none unit (counted count event) event both.0, events_none unit (counted count event) events both.1)

  -- each unit's way is in range
  abbrev WalkedInRange : Unit → Type 0
  WalkedInRange unit = AllByRecursion (λ event. outside env tree event ≡ None) (walked env tree steps unit)

  units_none : (count : ℕ) (units : List Unit) → units_fault env tree steps count units ≡ None → AllByRecursion WalkedInRange units
  units_none count [] h = tt
  units_none count (unit ∷ units) h =
      let both = both_none (events_fault env tree steps unit count (walked env tree steps unit)) (units_fault env tree steps (counted_all count (walked env tree steps unit)) units) h in
      (events_none unit count (walked env tree steps unit) both.0, units_none (counted_all count (walked env tree steps unit)) units both.1)

  walked_range : (units : List Unit) → 0 < steps → AllByRecursion WalkedInRange units → AllByRecursion (IsInRange env tree) units
  walked_range [] some h = tt
  walked_range (unit ∷ units) some h =
      let is : walked env tree steps unit ≡ unit_trace env tree unit = rw (ne_eqb steps 0 (λ none. omega arith)) refl in
      (All-from_recursion (λ event. outside env tree event ≡ None) (unit_trace env tree unit) (subst (AllByRecursion (λ event. outside env tree event ≡ None)) is h.0), walked_range units some h.1)

  pub in_range : first_fault env tree steps ≡ None → 0 < steps → AreInRange env tree
  unfolding first_fault
  in_range none some = All-from_recursion (IsInRange env tree) (loops_units 0 0 (loops_of env tree)) (walked_range _ some (units_none 0 (loops_units 0 0 (loops_of env tree)) none))

  abbrev cells : ℕ
  cells = cells_in (data_of env tree)

  abbrev IsCell : Touch → Type 0
  IsCell touch = touch.element < cells

  noted_cells : (touches : List Touch) (element : ℕ) (class : Class) → element < cells → AllByRecursion IsCell touches → AllByRecursion IsCell (noted touches element class)
  noted_cells [] element class inside h = (inside, tt)
  noted_cells (touch ∷ touches) element class inside h = elim (cases_Bool (eqb touch.element element)) [
    | inl here ↦ rw here (inside, h.1)
    | inr other ↦ rw other (h.0, noted_cells touches element class inside h.1)
  ]

  place_inside : (n site : ℕ) (place : ℤ) → unless_between (pos 0) (pos n) site place ≡ None → (p : ℕ) × (place ≡ pos p) × (p < n)
  place_inside n site (pos p) h = (p, refl, omega (arith, ints, (between (pos 0) (pos n) site (pos p) h).1))
  place_inside n site (negsuc p) h = absurd (omega (arith, ints, (between (pos 0) (pos n) site (negsuc p) h).0))

  all_cells : (touches : List Touch) (events : List Event) → AllByRecursion IsCell touches → AllByRecursion (λ event. outside env tree event ≡ None) events →
      AllByRecursion IsCell (noted_all touches (accesses_of (starts_of env tree) events))
  all_cells touches [] h range = h
  all_cells touches (Turn ∷ events) h range = all_cells touches events h range.1
  all_cells touches (Bound site value ∷ events) h range = all_cells touches events h range.1
  all_cells touches (Read entry ∷ events) h range = all_cells touches events h range.1
  all_cells touches (Store assign variables ∷ events) h range = all_cells touches events h range.1
  all_cells touches (Access site class array place ∷ events) h range =
      let at = place_inside (data_length env (data_of env tree) array) site place range.0 in
      let inside : element_at (slice_index_or (starts_of env tree) array 0) place < cells =
      subst (λ (z : ℤ). element_at (slice_index_or (starts_of env tree) array 0) z < cells) (sym at.1) (place_is_cell env tree (are_adjacent env 0 (flat_map data_in tree.decls)) array at.0 at.2) in
      all_cells (noted touches (element_at (slice_index_or (starts_of env tree) array 0) place) class) events (noted_cells touches _ class inside h) range.1

  lists_cells : (units : List Unit) → AllByRecursion WalkedInRange units → AllByRecursion (All IsCell) (map (λ unit. touches_in (starts_of env tree) (walked env tree steps unit)) units)
  lists_cells [] h = tt
  lists_cells (unit ∷ units) h = (All-from_recursion IsCell _ (all_cells [] (walked env tree steps unit) tt h.0), lists_cells units h.1)

  pub touched_cells : first_fault env tree steps ≡ None → All (All IsCell) (touches_of env tree steps)
  unfolding first_fault touches_of
  touched_cells none = All-from_recursion (All IsCell) _ (lists_cells (loops_units 0 0 (loops_of env tree)) (units_none 0 (loops_units 0 0 (loops_of env tree)) none))
