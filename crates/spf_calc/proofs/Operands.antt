-- Operands that fit have a result, with the shape that the shapes of the operands give.
use Rattle.std.proofs.Common.{◌≡◌, ℕ, ◌*◌, Bool, true, false, nat_le, List, [], ◌∷◌, length, map, Option, None, Some, All, refl, arith, inl, mul_comm, length-append}
use Rattle.std.specs.Prelude.{IfSome, IsSome, cond, if◌then◌else◌}
use Rattle.std.specs.List.{find, flat_map}
use Rattle.std.specs.Option.{option_map}
use Rattle.std.specs.Str.{bytes_eq}
use Rattle.std.proofs.lemmas.Bool.{leb-false}
use Rattle.std.proofs.lemmas.List.{length-map}
use Rattle.std.proofs.lemmas.List.Elements.{All-head, All-tail}
use Rattle.spf_rel.specs.Join.{joined}
use Rattle.spf_rel.specs.Operations as make
use Rattle.spf_rel.specs.declared.relation.Conj.{Conj}
use Rattle.spf_reltext.specs.declared.rules.Shape.{Shape}
use Rattle.spf_reltext.specs.declared.rules.Shape.TheVariants as kind
use Rattle.spf_calc.specs.Room.{count_of}
use Rattle.spf_reltext.specs.Resolved.{ins_of, outputs_of}
use Rattle.spf_calc.specs.Rules.{empty_shape, fitting, turned, value_named}
use Rattle.spf_calc.specs.Values.{AreFormed, Becomes, IsFormedValue, MadeBecomes, combined, conjs_of, empty, fits, inverted, result_shape, shape_of}
use Rattle.spf_calc.specs.declared.raw.Operation.{Operation}
use Rattle.spf_calc.specs.declared.raw.Operation.TheVariants.{Compose, Apply, Union, Intersect, Restrict}
use Rattle.spf_calc.specs.declared.value.Binding.{Binding}
use Rattle.spf_calc.specs.declared.value.Value.{Value}
use Rattle.spf_calc.specs.declared.value.Value.TheVariants.{Points, Pairs}

joined_count : (join : Conj → Conj → Conj) (lefts rights : List Conj) → length (flat_map (λ (left : Conj). map (join left) rights) lefts) ≡ length lefts * length rights
joined_count join [] rights = omega arith
joined_count join (left ∷ lefts) rights =
    let more = joined_count join lefts rights in
    let ends = length-append (map (join left) rights) (flat_map (λ (left : Conj). map (join left) rights) lefts) in
    let here = length-map rights (join left) in
    omega arith

-- what the operation makes of the operands
record IsMade (operation : Operation) (first second : Value) : Type 0 where
  made : Value
  is : combined operation first second ≡ Some made
  count : length (conjs_of made) ≡ count_of operation (length (conjs_of first)) (length (conjs_of second))
  shape : shape_of made ≡ result_shape operation (shape_of first) (shape_of second)

is_made : (operation : Operation) (first second : Value) → fits operation (shape_of first) (shape_of second) ≡ true → IsMade operation first second
is_made Compose (Points a) (Points b) e = absurd cc
is_made Compose (Points a) (Pairs b) e = absurd cc
is_made Compose (Pairs a) (Points b) e = absurd cc
is_made Compose (Pairs b) (Pairs a) e = record { made = Pairs (make.compose b a); is = refl; count = rw (mul_comm (length b.conjs) (length a.conjs)) (joined_count (joined (make.composing b a)) a.conjs b.conjs); shape = refl }
is_made Apply (Points a) (Points b) e = absurd cc
is_made Apply (Points a) (Pairs b) e = absurd cc
is_made Apply (Pairs r) (Points s) e = record { made = Points (make.apply r s); is = refl; count = rw (mul_comm (length r.conjs) (length s.conjs)) (joined_count (joined (make.applying r s)) s.conjs r.conjs); shape = refl }
is_made Apply (Pairs a) (Pairs b) e = absurd cc
is_made Union (Points a) (Points b) e = record { made = Points (make.union_sets a b); is = refl; count = length-append a.conjs b.conjs; shape = refl }
is_made Union (Points a) (Pairs b) e = absurd cc
is_made Union (Pairs a) (Points b) e = absurd cc
is_made Union (Pairs a) (Pairs b) e = record { made = Pairs (make.union a b); is = refl; count = length-append a.conjs b.conjs; shape = refl }
is_made Intersect (Points a) (Points b) e = record { made = Points (make.intersect_sets a b); is = refl; count = joined_count (joined (make.meeting a.arity 0 b.arity 0)) a.conjs b.conjs; shape = refl }
is_made Intersect (Points a) (Pairs b) e = absurd cc
is_made Intersect (Pairs a) (Points b) e = absurd cc
is_made Intersect (Pairs a) (Pairs b) e = record { made = Pairs (make.intersect a b); is = refl; count = joined_count (joined (make.meeting a.ins a.outs b.ins b.outs)) a.conjs b.conjs; shape = refl }
is_made Restrict (Points a) (Points b) e = absurd cc
is_made Restrict (Points a) (Pairs b) e = absurd cc
is_made Restrict (Pairs r) (Points s) e = record { made = Pairs (make.restrict_domain r s); is = refl; count = joined_count (joined (make.meeting r.ins r.outs s.arity 0)) r.conjs s.conjs; shape = refl }
is_made Restrict (Pairs a) (Pairs b) e = absurd cc

pub too_many : (operation : Operation) (first second : Value) → fits operation (shape_of first) (shape_of second) ≡ true
    → nat_le (count_of operation (length (conjs_of first)) (length (conjs_of second))) 256 ≡ false → MadeBecomes (combined operation first second) None
too_many operation first second fit many =
    let is = is_made operation first second fit in
    rw is.is (inl (rw is.count (leb-false _ 256 many)))

pub becomes : (operation : Operation) (first second made : Value) (outcome : Option Value) → combined operation first second ≡ Some made
    → Becomes made outcome → MadeBecomes (combined operation first second) outcome
becomes operation first second made outcome is b = rw is b

pub result_shape_is : (operation : Operation) (first second made : Value) → fits operation (shape_of first) (shape_of second) ≡ true → combined operation first second ≡ Some made
    → shape_of made ≡ result_shape operation (shape_of first) (shape_of second)
result_shape_is operation first second made fit e =
    let is = is_made operation first second fit in
    let same : is.made ≡ made = cc (is.is, e) in
    rw same at is.shape

-- ---- from the shape of an expression to those of its operands

by_test : {A : Type 0} (test : Bool) (a : A) → IsSome (if test then Some a else None) → (test ≡ true) × ((if test then Some a else None) ≡ Some a)
by_test true a some = (refl, refl)
by_test false a some = absurd cc

pub fitting_is : (operation : Operation) (first second : Shape) → IsSome (fitting operation (Some first) (Some second))
    → (fits operation first second ≡ true) × (fitting operation (Some first) (Some second) ≡ Some (result_shape operation first second))
fitting_is operation first second some = by_test (fits operation first second) (result_shape operation first second) some

pub operands_have : (operation : Operation) (first second : Option Shape) → IsSome (fitting operation first second) → IsSome first × IsSome second
operands_have operation None second some = absurd cc
operands_have operation (Some first) None some = absurd cc
operands_have operation (Some first) (Some second) some = (refl, refl)

pub turned_has : (inside : Option Shape) → IsSome (turned inside) → IsSome inside
turned_has None some = absurd cc
turned_has (Some shape) some = refl

pub pairs_turn : (value : Value) → IsSome (turned (Some (shape_of value))) → IsSome (inverted value)
pairs_turn (Points set) some = absurd cc
pairs_turn (Pairs rel) some = refl

-- ---- shapes of values

pub points_shape : (shape : Shape) (arity : ℕ) → shape ≡ kind.Points arity → kind.Points (ins_of shape) ≡ shape
points_shape (kind.Points n) arity e = refl
points_shape (kind.Pairs n m) arity e = absurd cc

pub pairs_shape : (shape : Shape) (ins outs : ℕ) → shape ≡ kind.Pairs ins outs → kind.Pairs (ins_of shape) (outputs_of shape) ≡ shape
pairs_shape (kind.Points n) ins outs e = absurd cc
pairs_shape (kind.Pairs n m) ins outs e = refl

pub empty_has : (ins : ℕ) (outs : Option ℕ) → shape_of (empty ins outs) ≡ empty_shape ins outs
empty_has ins None = refl
empty_has ins (Some outs) = refl

-- ---- names

pub named_has : (value : Option Value) → IsSome (option_map shape_of value) → IsSome value
named_has None some = absurd cc
named_has (Some value) some = refl

found : {X : Type 0} (P : X → Type 0) (test : Bool) (x : X) (later : Option X) → P x → IfSome later P → IfSome (cond test (Some x) later) P
found P true x later here more = here
found P false x later here more = more

find_all : {X : Type 0} (P : X → Type 0) (test : X → Bool) (xs : List X) → All P xs → IfSome (find test xs) P
find_all P test [] all = tt
find_all P test (x ∷ xs) all = found P (test x) x (find test xs) (All-head P x xs all) (find_all P test xs (All-tail P x xs all))

value_of : (found : Option Binding) → IfSome found (λ (binding : Binding). IsFormedValue binding.value) → IfSome (option_map (λ (binding : Binding). binding.value) found) IsFormedValue
value_of None formed = tt
value_of (Some binding) formed = formed

pub formed_named : (bindings : List Binding) (name : List ℕ) → AreFormed bindings → IfSome (value_named bindings name) IsFormedValue
formed_named bindings name formed =
    let test : Binding → Bool = λ (binding : Binding). bytes_eq binding.name name in
    value_of (find test bindings) (find_all (λ (binding : Binding). IsFormedValue binding.value) test bindings formed)
