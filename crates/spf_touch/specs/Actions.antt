-- Straight-line actions: each reads elements and changes one, by what it makes of the values that it reads.
use Rattle.std.specs.Prelude.{◌≡◌, ℕ, ℤ, true, List, [], ◌∷◌, ◌++◌, map, if◌then◌else◌, ◌==◌, refl}
use Rattle.std.specs.List.{flat_map}
use Rattle.std.proofs.Common.{eqb}
use Rattle.std.proofs.lemmas.Bool.{eq-eqb, or_cases, or_left, or_right}
use Rattle.std.proofs.Common.{inl, inr}
use Rattle.spf_base.specs.Wrap.{wrap}
use Rattle.spf_touch.specs.Blend.{blend}
use Rattle.spf_touch.specs.Copy.{copied}
use Rattle.spf_touch.specs.Frame.{Behavior}
use Rattle.spf_touch.specs.Noted.{noted_all}
use Rattle.spf_touch.specs.Ordered.{is_in}
use Rattle.spf_touch.specs.declared.class.Class.{Class}
use Rattle.spf_touch.specs.declared.class.Class.TheVariants.{Read}
use Rattle.spf_touch.specs.declared.touch.Touch.{Touch}

-- the values agree at these elements
abbrev pub AlikeAt : List ℕ → (ℕ → ℤ) → (ℕ → ℤ) → Type 0
AlikeAt reads values others = (e : ℕ) → is_in reads e ≡ true → values e ≡ others e

-- what is made of the values of the elements that are read, in this order: where those agree it is the same
pub record Made : Type 0 where
  pub reads : List ℕ
  pub value : (ℕ → ℤ) → ℤ
  pub frame : (values others : ℕ → ℤ) → AlikeAt reads values others → value values ≡ value others

pub alike_cell : (e : ℕ) (values others : ℕ → ℤ) → AlikeAt (e ∷ []) values others → values e ≡ others e
alike_cell e values others alike = alike e (or_left (eqb e e) (is_in [] e) (eq-eqb e e refl))

in_first : (xs ys : List ℕ) (e : ℕ) → is_in xs e ≡ true → is_in (xs ++ ys) e ≡ true
in_first [] ys e h = cc
in_first (x ∷ xs) ys e h = elim (or_cases (eqb e x) (is_in xs e) h) [
  | inl here ↦ or_left (eqb e x) (is_in (xs ++ ys) e) here
  | inr later ↦ or_right (eqb e x) (is_in (xs ++ ys) e) (in_first xs ys e later)
]

in_second : (xs ys : List ℕ) (e : ℕ) → is_in ys e ≡ true → is_in (xs ++ ys) e ≡ true
in_second [] ys e h = h
in_second (x ∷ xs) ys e h = or_right (eqb e x) (is_in (xs ++ ys) e) (in_second xs ys e h)

pub alike_both : (f : ℤ → ℤ → ℤ) (first second : Made) (values others : ℕ → ℤ) → AlikeAt (first.reads ++ second.reads) values others →
    f (first.value values) (second.value values) ≡ f (first.value others) (second.value others)
alike_both f first second values others alike =
    let one = first.frame values others (λ e h. alike e (in_first first.reads second.reads e h)) in
    let two = second.frame values others (λ e h. alike e (in_second first.reads second.reads e h)) in
    λ i. f (one i) (two i)

-- a number that depends on no element
abbrev pub constant : ℤ → Made
constant number = record { reads = []; value = λ values. number; frame = λ values others alike. refl }

-- the value of an element
abbrev pub cell : ℕ → Made
cell e = record { reads = e ∷ []; value = λ values. values e; frame = alike_cell e }

-- what is made of both, of which the first is made first
abbrev pub both : (ℤ → ℤ → ℤ) → Made → Made → Made
both f first second = record {
  reads = first.reads ++ second.reads;
  value = λ values. f (first.value values) (second.value values);
  frame = alike_both f first second;
}

-- the target takes what is made, wrapped to 64 bits: class Write stores it, and a reduction class blends it in
pub record Action : Type 0 where
  pub target : ℕ
  pub class : Class
  pub made : Made

-- the values after the action
abbrev pub change : Action → (ℕ → ℤ) → ℕ → ℤ
change action values e = if e == action.target then blend action.class (values e) (wrap (action.made.value values)) else values e

-- the values after these actions, one after another
abbrev pub performed : List Action → (ℕ → ℤ) → ℕ → ℤ
performed [] values = values
performed (action ∷ actions) values = performed actions (change action values)

-- the elements that the action names: those that it reads, and then its target
abbrev pub accesses : Action → List (ℕ × Class)
accesses action = map (λ e. (e, Read)) action.made.reads ++ (action.target, action.class) ∷ []

-- the distinct elements that the actions name, in the order of first access
abbrev pub touches_of : List Action → List Touch
touches_of actions = noted_all [] (flat_map accesses actions)

-- units of which each performs its actions: a unit gives what they make of a copy of what it touches
abbrev pub action_behavior : (ℕ → List Action) → ℕ → Behavior
action_behavior units count = record {
  count = count;
  touches = λ u. touches_of (units u);
  given = λ u values. performed (units u) (copied (touches_of (units u)) values);
}
