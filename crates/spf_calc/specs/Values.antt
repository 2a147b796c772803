-- Sets and relations as values: which operands fit, what an operation makes of them, and simplified values.
use Rattle.std.specs.Prelude.{ℕ, ◌≡◌, ◌<◌, ◌≤◌, ◌+◌, ◌⊎◌, ◌==◌, ℤ, Bool, false, Option, None, Some, Err, Ok, List, [], length, All}
use Rattle.spf_rel.specs.Meaning.{IsFormedRel, IsFormedSet}
use Rattle.spf_rel.specs.Operations as make
use Rattle.spf_rel.specs.Simplified.{IsSimplified, IsSimplifiedSet, all_solved}
use Rattle.spf_rel.specs.declared.relation.Conj.{Conj}
use Rattle.spf_reltext.specs.Rules.{same_shape}
use Rattle.spf_reltext.specs.declared.rules.Shape.{Shape}
use Rattle.spf_reltext.specs.declared.rules.Shape.TheVariants as shape
use Rattle.spf_calc.specs.declared.raw.Operation.{Operation}
use Rattle.spf_calc.specs.declared.raw.Operation.TheVariants.{Compose, Apply, Union, Intersect, Restrict}
use Rattle.spf_calc.specs.declared.value.TheConstants.{MOST_CONJUNCTIONS}
use Rattle.spf_calc.specs.declared.value.Binding.{Binding}
use Rattle.spf_calc.specs.declared.value.Value.{Value}
use Rattle.spf_calc.specs.declared.value.Value.TheVariants.{Points, Pairs}

-- ---- shapes

abbrev pub shape_of : Value → Shape
shape_of (Points set) = shape.Points set.arity
shape_of (Pairs rel) = shape.Pairs rel.ins rel.outs

-- the operation has a result on operands of these shapes
abbrev pub fits : Operation → Shape → Shape → Bool
fits Compose (shape.Pairs ins outs) (shape.Pairs from to) = to == ins
fits Apply (shape.Pairs ins outs) (shape.Points arity) = arity == ins
fits Union first second = same_shape first second
fits Intersect first second = same_shape first second
fits Restrict (shape.Pairs ins outs) (shape.Points arity) = arity == ins
fits _ _ _ = false

-- the shape of the result on operands that fit
abbrev pub result_shape : Operation → Shape → Shape → Shape
result_shape Compose (shape.Pairs ins outs) (shape.Pairs from to) = shape.Pairs from outs
result_shape Apply (shape.Pairs ins outs) second = shape.Points outs
result_shape _ first second = first

-- ---- operations

-- what the operation makes, where it has a result on such operands
abbrev pub combined : Operation → Value → Value → Option Value
combined Compose (Pairs b) (Pairs a) = Some (Pairs (make.compose b a))
combined Apply (Pairs r) (Points s) = Some (Points (make.apply r s))
combined Union (Points a) (Points b) = Some (Points (make.union_sets a b))
combined Union (Pairs a) (Pairs b) = Some (Pairs (make.union a b))
combined Intersect (Points a) (Points b) = Some (Points (make.intersect_sets a b))
combined Intersect (Pairs a) (Pairs b) = Some (Pairs (make.intersect a b))
combined Restrict (Pairs r) (Points s) = Some (Pairs (make.restrict_domain r s))
combined _ _ _ = None

abbrev pub inverted : Value → Option Value
inverted (Points set) = None
inverted (Pairs rel) = Some (Pairs (make.inverse rel))

abbrev pub empty : ℕ → Option ℕ → Value
empty ins None = Points (record { arity = ins; conjs = [] })
empty ins (Some outs) = Pairs (record { ins = ins; outs = outs; conjs = [] })

-- ---- simplified values

abbrev pub conjs_of : Value → List Conj
conjs_of (Points set) = set.conjs
conjs_of (Pairs rel) = rel.conjs

-- the number of inputs and outputs
abbrev pub outer_of : Value → ℕ
outer_of (Points set) = set.arity
outer_of (Pairs rel) = rel.ins + rel.outs

abbrev pub IsFormedValue : Value → Type 0
IsFormedValue (Points set) = IsFormedSet set
IsFormedValue (Pairs rel) = IsFormedRel rel

abbrev pub AreFormed : List Binding → Type 0
AreFormed bindings = All (λ (binding : Binding). IsFormedValue binding.value) bindings

-- there are too many conjunctions, or the number rule is passed as they are simplified
abbrev pub IsTooWide : Value → Type 0
IsTooWide value = (MOST_CONJUNCTIONS < length (conjs_of value)) ⊎ ((number : ℤ) × (all_solved (outer_of value) (conjs_of value) ≡ Err number))

abbrev pub IsSimple : Value → Value → Type 0
IsSimple (Points set) (Points made) = IsSimplifiedSet set (Ok made)
IsSimple (Pairs rel) (Pairs made) = IsSimplified rel (Ok made)
IsSimple _ _ = ⊥

-- the value simplified, or none where it is too wide
abbrev pub Becomes : Value → Option Value → Type 0
Becomes value (Some made) = (length (conjs_of value) ≤ MOST_CONJUNCTIONS) × IsSimple value made
Becomes value None = IsTooWide value

-- a value is made, and becomes this
abbrev pub MadeBecomes : Option Value → Option Value → Type 0
MadeBecomes (Some value) outcome = Becomes value outcome
MadeBecomes None outcome = ⊥

-- what the inverse of the operand becomes; none where the operand was too wide
abbrev pub InverseBecomes : Option Value → Option Value → Type 0
InverseBecomes (Some value) outcome = MadeBecomes (inverted value) outcome
InverseBecomes None outcome = outcome ≡ None

-- what the operation's result becomes; none where an operand was too wide
abbrev pub ResultBecomes : Operation → Option Value → Option Value → Option Value → Type 0
ResultBecomes operation (Some first) (Some second) outcome = MadeBecomes (combined operation first second) outcome
ResultBecomes operation (Some first) None outcome = outcome ≡ None
ResultBecomes operation None second outcome = outcome ≡ None
