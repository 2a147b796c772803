-- The trace of an iteration: its events in the order of evaluation. Bounds, conditions and subscripts read index arrays,
-- parameters and variables alone, so that no data is needed to know it. It is total, since a place outside an index array
-- counts as 0: what stands behind a fault means nothing.
use Rattle.std.specs.Prelude.{ℕ, ◌+◌, ℤ, pos, ◌+ℤ◌, Bool, not, if◌then◌else◌, List, [], ◌∷◌, ◌++◌, map, int_lt, int_le}
use Rattle.std.specs.Int.{int_gap}
use Rattle.std.specs.List.{flat_map, range_with_len}
use Rattle.std.specs.Ordering.{int_eq}
use Rattle.spf_term.specs.Environment.{Environment}
use Rattle.spf_term.specs.Value.{applications, entries, number_at, value}
use Rattle.spf_term.specs.declared.term.Term.{Term}
use Rattle.spf_touch.specs.declared.class.Class.{Class}
use Rattle.spf_touch.specs.declared.class.Class.TheVariants as class_is
use Rattle.spf_kernel.specs.declared.tree.Value.{Value, Value', Row_of-Prod, end_of-Prod, more_of-Prod, Row_of-Factor, end_of-Factor, more_of-Factor}
use Rattle.spf_kernel.specs.declared.tree.Factor.{Factor}
use Rattle.spf_kernel.specs.declared.tree.Factor.TheVariants as factor_is
use Rattle.spf_kernel.specs.declared.tree.Assign.{Assign}
use Rattle.spf_kernel.specs.declared.tree.Becomes.{Becomes}
use Rattle.spf_kernel.specs.declared.tree.Becomes.TheVariants.{Put, Add}
use Rattle.spf_kernel.specs.declared.tree.Compare.{Compare}
use Rattle.spf_kernel.specs.declared.tree.Compare.TheVariants.{Equal, Unequal, Less, AtMost, Greater, AtLeast}
use Rattle.spf_kernel.specs.declared.tree.Cond.{Cond}
use Rattle.spf_kernel.specs.declared.tree.Part.{Part}
use Rattle.spf_kernel.specs.declared.tree.Part.TheVariants as part_is
use Rattle.spf_kernel.specs.declared.tree.Item.{Item}
use Rattle.spf_kernel.specs.declared.tree.Item.TheVariants as item_is
use Rattle.spf_store.specs.Event.{Event, Turn, Bound, Read, Access, Store}
use Rattle.spf_kernel.specs.BodySites.{assign_sites, cond_sites, fact_sites, facts_sites, item_sites, part_sites}

-- the class of an assignment's target
abbrev pub target_class : Becomes → Class
target_class Put = class_is.Write
target_class Add = class_is.Add

abbrev pub compares : Compare → ℤ → ℤ → Bool
compares Equal a b = int_eq a b
compares Unequal a b = not (int_eq a b)
compares Less a b = int_lt a b
compares AtMost a b = int_le a b
compares Greater a b = int_lt b a
compares AtLeast a b = int_le b a

-- the integers from a lower bound up to an upper one
abbrev pub integers : ℤ → ℤ → List ℤ
integers low high = map (λ n. low +ℤ pos n) (range_with_len 0 (int_gap low high))

-- the events of parts one behind the other, where each part's sites are numbered from behind those of the one before it
abbrev pub one_by_one : {A : Type 0} → (A → ℕ) → (ℕ → A → List Event) → ℕ → List A → List Event
one_by_one sites trace site [] = []
one_by_one sites trace site (part ∷ parts) = trace site part ++ one_by_one sites trace (site + sites part) parts

-- the outer variable
abbrev pub outer_of : List ℤ → ℤ
outer_of variables = number_at variables (pos 0)

module _ (env : Environment) where
  module _ (variables : List ℤ) where
    abbrev pub term_trace : ℕ → Term → List Event
    term_trace site term = map Read (entries env variables site term)

    -- a name with brackets: its subscript is evaluated, and then it is read or accessed
    abbrev pub index_trace : ℕ → ℕ → Term → List Event
    index_trace site table sub = term_trace (site + 1) sub ++ Read (record { site = site; table = table; place = value env variables sub }) ∷ []

    abbrev pub access_trace : ℕ → Class → ℕ → Term → List Event
    access_trace site class array sub = term_trace (site + 1) sub ++ Access site class array (value env variables sub) ∷ []

    abbrev mutual
      pub value_trace : ℕ → Value → List Event
      value_trace site (Value' shape prods) = prods_trace site prods

      pub prods_trace : {n : _} → ℕ → Row_of-Prod n → List Event
      prods_trace site end_of-Prod = []
      prods_trace site (more_of-Prod minus shape facts others) = facts_trace site facts ++ prods_trace (site + facts_sites facts) others

      pub facts_trace : {n : _} → ℕ → Row_of-Factor n → List Event
      facts_trace site end_of-Factor = []
      facts_trace site (more_of-Factor fact others) = fact_trace site fact ++ facts_trace (site + fact_sites fact) others

      pub fact_trace : ℕ → Factor → List Event
      fact_trace site (factor_is.Number number) = []
      fact_trace site (factor_is.Paren inside) = value_trace site inside
      fact_trace site (factor_is.Param number) = []
      fact_trace site (factor_is.Var number) = []
      fact_trace site (factor_is.Index array sub) = index_trace site array sub
      fact_trace site (factor_is.Cell array sub) = access_trace site class_is.Read array sub

    -- the value, then the target, and then the cell is changed
    abbrev pub assign_trace : ℕ → Assign → List Event
    assign_trace site assign =
        value_trace (site + (1 + applications assign.sub)) assign.value
        ++ (access_trace site (target_class assign.sign) assign.array assign.sub ++ Store assign variables ∷ [])

    abbrev pub assigns_trace : ℕ → List Assign → List Event
    assigns_trace = one_by_one assign_sites assign_trace

    abbrev pub holds : Cond → Bool
    holds cond = compares cond.sign (value env variables cond.left) (value env variables cond.right)

    -- both sides of a condition
    abbrev pub cond_trace : ℕ → Cond → List Event
    cond_trace site cond = term_trace site cond.left ++ term_trace (site + applications cond.left) cond.right

    -- the conditions from the left to the right up to the first that is false, and the body where none is
    abbrev pub branch_trace : ℕ → List Cond → List Assign → List Event
    branch_trace site [] body = assigns_trace site body
    branch_trace site (cond ∷ conds) body = cond_trace site cond ++ (if holds cond then branch_trace (site + cond_sites cond) conds body else [])

    abbrev pub part_trace : ℕ → Part → List Event
    part_trace site (part_is.Assign assign) = assign_trace site assign
    part_trace site (part_is.Branch guard) = branch_trace site guard.conds guard.body

    abbrev pub parts_trace : ℕ → List Part → List Event
    parts_trace = one_by_one part_sites part_trace

    -- a bound of a `for`
    abbrev pub bound_trace : ℕ → Term → List Event
    bound_trace site bound = term_trace (site + 1) bound ++ Bound site (value env variables bound) ∷ []

  abbrev pub turn_trace : List ℤ → ℕ → List Part → List Event
  turn_trace variables site parts = Turn ∷ parts_trace variables site parts

  -- the turns of a `for`, in which the inner variable has these values
  abbrev pub turns_trace : List ℤ → ℕ → List Part → List ℤ → List Event
  turns_trace variables site parts inners = flat_map (λ inner. turn_trace (outer_of variables ∷ inner ∷ []) site parts) inners

  module _ (variables : List ℤ) where
    -- a `for`: its bounds, each evaluated once, and its turns
    abbrev pub inner_trace : ℕ → Term → Term → List Part → List Event
    inner_trace site low high parts =
        bound_trace variables site low ++ (bound_trace variables (site + (1 + applications low)) high
        ++ turns_trace variables (site + (1 + applications low) + (1 + applications high)) parts
        (integers (value env variables low) (value env variables high)))

    abbrev pub item_trace : ℕ → Item → List Event
    item_trace site (item_is.Assign assign) = assign_trace variables site assign
    item_trace site (item_is.Branch guard) = branch_trace variables site guard.conds guard.body
    item_trace site (item_is.Inner var low high parts) = inner_trace site low high parts

    -- the trace of an iteration of a loop with these items, of which the first has its first site at `site`
    abbrev pub items_trace : ℕ → List Item → List Event
    items_trace = one_by_one item_sites item_trace
