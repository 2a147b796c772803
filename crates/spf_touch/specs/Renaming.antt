-- Elements that go to other places, as in a packing: what units do there.
use Rattle.std.specs.Prelude.{◌≡◌, ℕ, ◌<◌, ℤ, true, List, [], ◌∷◌, map}
use Rattle.std.proofs.Common.{ap, eqb, inl, inr}
use Rattle.std.proofs.lemmas.Bool.{eq-eqb, eqb-true, or_cases, or_left, or_right}
use Rattle.spf_touch.specs.Actions.{Action, AlikeAt, Made}
use Rattle.spf_touch.specs.Frame.{Behavior, IsTouched}
use Rattle.spf_touch.specs.Ordered.{is_in}
use Rattle.spf_touch.specs.declared.class.Class.{Class}
use Rattle.spf_touch.specs.declared.touch.Touch.{Touch}

-- where each element goes, and which element comes from there
pub record Renaming : Type 0 where
  pub to : ℕ → ℕ
  pub back : ℕ → ℕ
  pub returns : (e : ℕ) → back (to e) ≡ e

-- the values of the elements, where these are the values of the places to which they go
abbrev pub unpacked : Renaming → (ℕ → ℤ) → ℕ → ℤ
unpacked renaming values e = values (renaming.to e)

-- the touch, of where its element goes
abbrev pub renamed_touch : Renaming → Touch → Touch
renamed_touch renaming touch = record { element = renaming.to touch.element; class = touch.class }

-- the touches, each of where its element goes
abbrev pub renamed_touches : Renaming → List Touch → List Touch
renamed_touches renaming touches = map (renamed_touch renaming) touches

-- the access, of where its element goes
abbrev pub renamed_access : Renaming → ℕ × Class → ℕ × Class
renamed_access renaming access = (renaming.to access.0, access.1)

-- units that touch where the elements of these go, and give there what these give on the unpacked values
abbrev pub renamed_units : Renaming → Behavior → Behavior
renamed_units renaming units = record {
  count = units.count;
  touches = λ u. renamed_touches renaming (units.touches u);
  given = λ u values e. units.given u (unpacked renaming values) (renaming.back e);
}

in_renamed : (renaming : Renaming) (reads : List ℕ) (e : ℕ) → is_in reads e ≡ true → is_in (map renaming.to reads) (renaming.to e) ≡ true
in_renamed renaming [] e h = h
in_renamed renaming (x ∷ reads) e h = elim (or_cases (eqb e x) (is_in reads e) h) [
  | inl here ↦ or_left _ (is_in (map renaming.to reads) (renaming.to e)) (eq-eqb (renaming.to e) (renaming.to x) (ap renaming.to (eqb-true e x here)))
  | inr later ↦ or_right (eqb (renaming.to e) (renaming.to x)) _ (in_renamed renaming reads e later)
]

pub alike_unpacked : (renaming : Renaming) (made : Made) (values others : ℕ → ℤ) → AlikeAt (map renaming.to made.reads) values others →
    made.value (unpacked renaming values) ≡ made.value (unpacked renaming others)
alike_unpacked renaming made values others alike =
    made.frame (unpacked renaming values) (unpacked renaming others) (λ e h. alike (renaming.to e) (in_renamed renaming made.reads e h))

-- what is made of the unpacked values
abbrev pub renamed_made : Renaming → Made → Made
renamed_made renaming made = record {
  reads = map renaming.to made.reads;
  value = λ values. made.value (unpacked renaming values);
  frame = alike_unpacked renaming made;
}

-- the action, on where its elements go
abbrev pub renamed_action : Renaming → Action → Action
renamed_action renaming action = record { target = renaming.to action.target; class = action.class; made = renamed_made renaming action.made }

abbrev pub renamed_actions : Renaming → List Action → List Action
renamed_actions renaming actions = map (renamed_action renaming) actions

-- as many units, which touch the same, and give the same to what they touch
pub record AreAlike (mine theirs : Behavior) : Type 0 where
  pub count : mine.count ≡ theirs.count
  pub touch : (u : ℕ) → u < mine.count → mine.touches u ≡ theirs.touches u
  pub give : (u : ℕ) (values : ℕ → ℤ) → u < mine.count → (e : ℕ) → IsTouched (mine.touches u) e → mine.given u values e ≡ theirs.given u values e
