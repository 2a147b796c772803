-- How far a walk has come among the units of a step.
use Rattle.std.proofs.Common.{◌≡◌, ℕ, ◌+◌, ◌-◌, ◌<◌, ◌^◌, List, [], ◌∷◌, ◌++◌, Option, Some, None, refl, sym, ap, ◌∙◌, subst, map, arith, length, drop, append_assoc, append-nil, replicate, Result, Err}
use Rattle.std.proofs.lemmas.Bool.{ne_eqb}
use Rattle.std.proofs.lemmas.List.{drop_at, drop_more, length-append, length-map, get_or_append_left}
use Rattle.std.proofs.lemmas.Option.{get_or_from_slice_get, slice_get_within}
use Rattle.std.proofs.lemmas.List.FromFn.{get_or-map-range_with_len, length-map-range_with_len}
use Rattle.std.specs.List.{range_with_len, slice_get}
use Rattle.std.specs.Option.{option_or}
use Rattle.spf_term.specs.Environment.{Environment}
use Rattle.spf_touch.specs.declared.touch.Touch.{Touch}
use Rattle.spf_kernel.specs.declared.tree.Tree.{Tree}
use Rattle.spf_space.specs.Layout.{iterations}
use Rattle.spf_space.specs.Units.{loops_units}
use Rattle.spf_space.specs.declared.shape.LoopShape.{LoopShape}
use Rattle.spf_space.specs.declared.unit.Unit.{Unit}
use Rattle.spf_space.proofs.Standing.{step_length}
use Rattle.spf_store.specs.Accesses.{accesses_of, noted_all, touches_in, touches_of}
use Rattle.spf_store.specs.Event.{Event}
use Rattle.spf_store.specs.FirstFault.{Fault, counted_all, events_fault, first_fault, units_fault, walked}
use Rattle.spf_store.specs.Shaped.{data_of, loops_of, starts_of}
use Rattle.spf_store.specs.Source.{unit_trace}
use Rattle.spf_access.specs.Answer.{IsFault}
use Rattle.spf_access.specs.Progress.{Progress, starts_in}
use Rattle.spf_access.specs.Units.{AmongUnits, Comes, list_of, unit_fault}
use Rattle.spf_access.proofs.Faults.{behind}
use Rattle.spf_access.specs.declared.access_fault.AccessFault.{AccessFault}
use Rattle.spf_access.specs.declared.access_fault.AccessFault.TheVariants as fault

-- the fault of a unit is the first one
first_is : (first unit rest : Option Fault) (why : AccessFault) → first ≡ option_or unit rest → IsFault unit why → IsFault first why
first_is first unit rest (fault.Range loop_no iteration site value) is at = is ∙ ap (λ (o : Option Fault). option_or o rest) at
first_is first unit rest (fault.Visits count) is at = is ∙ ap (λ (o : Option Fault). option_or o rest) at
first_is first unit rest fault.Memory is at = tt

module _ (env : Environment) (tree : Tree) where
  walked_is : (steps : ℕ) (unit : Unit) → 0 < steps → walked env tree steps unit ≡ unit_trace env tree unit
  walked_is steps unit some = rw (ne_eqb steps 0 (λ none. omega arith)) refl

  module _ (before : Progress) (unit : Unit) (rest : List Unit) (among : AmongUnits env tree before (unit ∷ rest)) where
    abbrev events : List Event
    events = unit_trace env tree unit

    abbrev later : Option Fault
    later = units_fault env tree before.steps (counted_all before.visits events) rest

    ahead : first_fault env tree before.steps ≡ option_or (unit_fault env tree before unit) later
    ahead = among.fault ∙ ap (λ (of : List Event). option_or (events_fault env tree before.steps unit before.visits of) (units_fault env tree before.steps (counted_all before.visits of) rest))
        (walked_is before.steps unit among.some)

    pub failed : (why : AccessFault) → IsFault (unit_fault env tree before unit) why → IsFault (first_fault env tree before.steps) why
    failed why at = first_is (first_fault env tree before.steps) (unit_fault env tree before unit) later why ahead at

    abbrev now : Progress
    now = record before { closed = before.closed ++ touches_in (starts_of env tree) events ∷ []; visits = counted_all before.visits events }

    pub gone : (after : Progress) → unit_fault env tree before unit ≡ None → after ≡ now → AmongUnits env tree after rest
    gone after none is = subst (λ (state : Progress). AmongUnits env tree state rest) (sym is) (record {
      some = among.some;
      fault = ahead ∙ ap (λ (o : Option Fault). option_or o later) none;
      lists = among.lists ∙ ap (λ (of : List Event). before.closed ++ touches_in (starts_of env tree) of ∷ map (list_of env tree before.steps) rest) (walked_is before.steps unit among.some)
          ∙ sym (append_assoc before.closed (touches_in (starts_of env tree) events ∷ []) (map (list_of env tree before.steps) rest));
      fresh = among.fresh;
      arrays = among.arrays;
    })

  length-touches : (steps : ℕ) → length (touches_of env tree steps) ≡ iterations (loops_of env tree)
  unfolding touches_of
  length-touches steps = length-map (loops_units 0 0 (loops_of env tree)) (list_of env tree steps) ∙ step_length 0 0 (loops_of env tree)

  -- a further list may be numbered
  pub few_closed : (before : Progress) (unit : Unit) (rest : List Unit) → AmongUnits env tree before (unit ∷ rest) → iterations (loops_of env tree) < 2 ^ 32 → length before.closed < 2 ^ 32 - 1
  few_closed before unit rest among few =
      omega (arith, few, length-touches before.steps, ap length among.lists, length-append before.closed (map (list_of env tree before.steps) (unit ∷ rest)))

  -- no unit is done, and all are
  pub at_first : (before : Progress) → 0 < before.steps → before.closed ≡ [] → before.current ≡ [] → before.visits ≡ 0 → before.arrays ≡ data_of env tree →
      AmongUnits env tree before (loops_units 0 0 (loops_of env tree))
  unfolding first_fault touches_of
  at_first before some closed current visits arrays = record {
    some = some;
    fault = ap (λ (count : ℕ). units_fault env tree before.steps count (loops_units 0 0 (loops_of env tree))) (sym visits);
    lists = ap (λ (lists : List (List Touch)). lists ++ map (list_of env tree before.steps) (loops_units 0 0 (loops_of env tree))) (sym closed);
    fresh = current;
    arrays = arrays;
  }

  pub at_last : (after : Progress) → AmongUnits env tree after [] → (first_fault env tree after.steps ≡ None) × (after.closed ≡ touches_of env tree after.steps)
  at_last after among = (among.fault, sym (append-nil after.closed) ∙ sym among.lists)

  -- the units from a loop on
  abbrev pub from_loop : ℕ → List Unit
  from_loop loop_no = loops_units 0 loop_no (drop loop_no (loops_of env tree))

  module _ (loop_no : ℕ) (shape : LoopShape) (there : slice_get (loops_of env tree) loop_no ≡ Some shape) where
    abbrev unit_at : ℕ → Unit
    unit_at position = record { step = 0; loop_no = loop_no; position = position }

    abbrev here : List Unit
    here = map unit_at (range_with_len 0 shape.extent)

    split : from_loop loop_no ≡ here ++ from_loop (loop_no + 1)
    split = ap (loops_units 0 loop_no) (drop_more (loops_of env tree) loop_no shape (slice_get_within (loops_of env tree) loop_no shape there)
        ∙ ap (λ (first : LoopShape). first ∷ drop (loop_no + 1) (loops_of env tree)) (get_or_from_slice_get (loops_of env tree) loop_no shape shape there))

    length-here : length here ≡ shape.extent
    length-here = length-map-range_with_len unit_at 0 shape.extent

    pub next_unit : (position : ℕ) → position < shape.extent → drop position (from_loop loop_no) ≡ unit_at position ∷ drop (position + 1) (from_loop loop_no)
    next_unit position inside =
        let low : position < length here = omega (arith, length-here) in
        let whole : position < length (here ++ from_loop (loop_no + 1)) = omega (arith, length-append here (from_loop (loop_no + 1))) in
        ap (drop position) split ∙ drop_more (here ++ from_loop (loop_no + 1)) position (unit_at 0) whole
        ∙ ap (λ (first : Unit). first ∷ drop (position + 1) (here ++ from_loop (loop_no + 1)))
        (get_or_append_left here (from_loop (loop_no + 1)) (unit_at 0) position low ∙ get_or-map-range_with_len unit_at 0 shape.extent position position (unit_at 0) inside (omega arith))
        ∙ ap (λ (units : List Unit). unit_at position ∷ drop (position + 1) units) (sym split)

    pub next_loop : (position : ℕ) → position ≡ shape.extent → drop position (from_loop loop_no) ≡ from_loop (loop_no + 1)
    next_loop position past = ap (drop position) split ∙ drop_at here (from_loop (loop_no + 1)) position (length-here ∙ sym past)

  -- so many units of a loop are done, and the steps are those of the start
  pub record AmongLoop (before after : Progress) (loop_no position : ℕ) : Type 0 where
    pub units : AmongUnits env tree after (drop position (from_loop loop_no))
    pub steps : after.steps ≡ before.steps

  -- the touch list of a unit is finished
  pub closed_unit : (before after later : Progress) (events : List Event) → before.current ≡ [] → before.arrays ≡ data_of env tree → after ≡ behind before events →
      later ≡ record after { closed = after.closed ++ after.current ∷ []; current = [] } →
      later ≡ record before { closed = before.closed ++ touches_in (starts_of env tree) events ∷ []; visits = counted_all before.visits events }
  closed_unit before after later events fresh arrays is last =
      last ∙ ap (λ (p : Progress). record p { closed = p.closed ++ p.current ∷ []; current = [] }) is
      ∙ (λ i. record before {
        closed = before.closed ++ noted_all (fresh i) (accesses_of (starts_in (arrays i)) events) ∷ [];
        current = (sym fresh) i;
        visits = counted_all before.visits events;
      })

  -- the walk ended with this fault
  pub comes_fault : {A : Type 0} (before after : Progress) (rest : List Unit) (why : AccessFault) (result : Result A AccessFault) →
      (other : AccessFault) × (result ≡ Err other) × (other ≡ why) → IsFault (first_fault env tree before.steps) why → Comes env tree before result after rest
  comes_fault {A = A} before after rest why result known at =
      subst (λ (of : Result A AccessFault). Comes env tree before of after rest) (sym (known.1 ∙ ap Err known.2)) at

  -- with no steps there is no fault, and each list is empty
  no_fault : (count : ℕ) (units : List Unit) → units_fault env tree 0 count units ≡ None
  no_fault count [] = refl
  no_fault count (unit ∷ units) = no_fault count units

  no_touches : (units : List Unit) → map (list_of env tree 0) units ≡ replicate (length units) []
  no_touches [] = refl
  no_touches (unit ∷ units) = ap (λ (lists : List (List Touch)). [] ∷ lists) (no_touches units)

  pub no_steps : (steps : ℕ) → steps ≡ 0 → (first_fault env tree steps ≡ None) × (touches_of env tree steps ≡ replicate (iterations (loops_of env tree)) [])
  unfolding first_fault touches_of
  no_steps steps none = rw none (
    no_fault 0 (loops_units 0 0 (loops_of env tree)),
    no_touches (loops_units 0 0 (loops_of env tree)) ∙ ap (λ (n : ℕ). replicate n []) (step_length 0 0 (loops_of env tree)),
  )
