-- What literals that break no rule mean has few variables, each with a number below that of all.
use Rattle.std.proofs.Common.{◌≡◌, ℕ, ◌+◌, ◌<◌, ◌≤◌, ◌^◌, ◌==◌, ℤ, Bool, true, false, not, ◌&&◌, ◌||◌, cond, nat_lt, List, [], ◌∷◌, ◌++◌, length, map, flat_map, position, Option, None, Some, unwrap_or, if◌then◌else◌, refl, ap, sym, ◌∙◌, subst, arith}
use Rattle.std.proofs.lemmas.Bool.{eqb-true, ltb-false}
use Rattle.std.proofs.lemmas.Grind.{common_steps}
use Rattle.std.proofs.lemmas.List.{length-append}
use Rattle.std.proofs.lemmas.List.Elements.{All-append, All-cons, All-head, All-nil, All-tail}
use Rattle.std.proofs.lemmas.List.Sums.{prefix_len-le-length}
use Rattle.std.specs.List.{All, list_any, position_or_len}
use Rattle.std.specs.Str.{bytes_eq}
use Rattle.spf_rel.specs.Meaning.{IsFormed, IsFormedRel, IsFormedSet}
use Rattle.spf_rel.specs.Renumbering.{AtomVariables, SumVariables, Variables}
use Rattle.spf_reltext.specs.Names.{number_of}
use Rattle.spf_reltext.specs.Resolved.{conj_of, difference, equal_by, equal_terms, ins_of, ix_monos, least_by, least_terms, mono_of, monomial, monos_of, opposite, outputs_of, plain_atom, rel_of, set_of, term_of}
use Rattle.spf_reltext.specs.Rules.{breaks_arities, breaks_limits, breaks_names, differ, has_long_side, is_wanted, least_rule, outs_of, same_shape, shape_of_all, shape_with, variables}
use Rattle.spf_reltext.specs.declared.names.RelNames.{RelNames}
use Rattle.spf_reltext.specs.declared.raw.Compare.{Compare}
use Rattle.spf_reltext.specs.declared.raw.Compare.TheVariants.{Equal, AtMost, Less, AtLeast, Greater}
use Rattle.spf_reltext.specs.declared.raw.RawAtom.{RawAtom}
use Rattle.spf_reltext.specs.declared.raw.RawAtom.TheVariants.{Unit, Plain, Entry}
use Rattle.spf_reltext.specs.declared.raw.RawConstraint.{RawConstraint}
use Rattle.spf_reltext.specs.declared.raw.RawIx.{RawIx, RawIx', Row_of-RawMono, end_of-RawMono, more_of-RawMono}
use Rattle.spf_reltext.specs.declared.raw.RawLiteral.{RawLiteral}
use Rattle.spf_reltext.specs.declared.rules.Shape.{Shape}
use Rattle.spf_reltext.specs.declared.rules.Shape.TheVariants.{Points, Pairs}
use Rattle.spf_reltext.specs.declared.rules.Wanted.{Wanted}
use Rattle.spf_reltext.specs.declared.rules.Wanted.TheVariants as wanted
use Rattle.spf_term.specs.declared.term.Atom.{Atom}
use Rattle.spf_term.specs.declared.term.Mono.{Mono}
use Rattle.spf_term.specs.declared.term.Term.{Term, Term', roll-Term, out-roll-Term, Row_of-Mono, end_of-Mono, more_of-Mono, items-the_row-Mono, items_shown-the_row-Mono-0}
unfoldable use Rattle.spf_term.specs.declared.term.Term.{out-Term}

-- ---- tests

left_false : (a b : Bool) → (a || b) ≡ false → a ≡ false
left_false true b e = cc
left_false false b e = refl

right_false : (a b : Bool) → (a || b) ≡ false → b ≡ false
right_false true b e = cc
right_false false b e = e

left_true : (a b : Bool) → (a && b) ≡ true → a ≡ true
left_true true b e = refl
left_true false b e = cc

right_true : (a b : Bool) → (a && b) ≡ true → b ≡ true
right_true true b e = e
right_true false b e = cc

from_not : (a : Bool) → not a ≡ false → a ≡ true
from_not true e = refl
from_not false e = cc

-- ---- numbers of names

pub place_or_len : {A : Type 0} (p : A → Bool) (xs : List A) → unwrap_or (position p xs) (length xs) ≡ position_or_len p xs
place_or_len p xs =
    let e = prefix_len-le-length (λ x. not (p x)) xs in
    grind (arith, common_steps)

place_within : {A : Type 0} (p : A → Bool) (xs : List A) → list_any p xs ≡ true → position_or_len p xs < length xs
place_within p [] any = cc
place_within p (x ∷ xs) any = by (p x) any (place_within p xs) where
  by : (b : Bool) → (b || list_any p xs) ≡ true → (list_any p xs ≡ true → position_or_len p xs < length xs)
      → cond (not b) (1 + position_or_len p xs) 0 < length (x ∷ xs)
  by true any within = omega arith
  by false any within = let h = within any in omega arith

number_within : (names : List (List ℕ)) (name : List ℕ) → list_any (bytes_eq name) names ≡ true → number_of names name < length names
number_within names name any = rw (place_or_len (bytes_eq name) names) (place_within (bytes_eq name) names any)

-- ---- terms

module _ (P : ℕ → Type 0) where
  abbrev MonoVariables : Mono → Type 0
  MonoVariables mono = AtomVariables P mono.atom

  in_row : {n : _} (row : Row_of-Mono n) → All MonoVariables (items-the_row-Mono n row) → SumVariables P row
  in_row end_of-Mono h = tt
  in_row (more_of-Mono coef atom others) h = (All-head MonoVariables _ _ h, in_row others (All-tail MonoVariables _ _ h))

  in_term : (term : Term) → All MonoVariables (out-Term term).monos → Variables P term
  unfolding out-Term denote.Hole.Carrier.out
  in_term (Term' shape monos constant) h = in_row monos (subst (All MonoVariables) (items_shown-the_row-Mono-0 shape monos) h)

  from_monos : (monos : List Mono) (constant : ℤ) → All MonoVariables monos → Variables P (roll-Term (record { monos = monos; constant = constant }))
  from_monos monos constant h =
      in_term (roll-Term (record { monos = monos; constant = constant }))
      (subst (All MonoVariables) (sym (ap (λ term. term.monos) (out-roll-Term (record { monos = monos; constant = constant })))) h)

module _ (variables : List (List ℕ)) (names : RelNames) where
  abbrev Below : ℕ → Type 0
  Below number = number < length variables

  plain_below : (name : List ℕ) → AtomVariables Below (plain_atom variables names name)
  plain_below name = by (list_any (bytes_eq name) variables) refl where
    by : (b : Bool) → list_any (bytes_eq name) variables ≡ b → AtomVariables Below (if b then Atom.Var (number_of variables name) else Atom.Param (number_of names.params name))
    by true e = number_within variables name e
    by false e = tt

  one_below : (minus : Bool) (number : ℕ) (atom : Atom) → AtomVariables Below atom → All (MonoVariables Below) (monomial minus number atom)
  one_below minus number atom h = All-cons (MonoVariables Below) _ [] h (All-nil (MonoVariables Below))

  mutual
    term_below : (ix : RawIx) → Variables Below (term_of variables names ix)
    term_below (RawIx' shape monos) = from_monos Below (monos_of variables names false monos) _ (monos_below false monos)

    monos_below : {n : _} (flips : Bool) (row : Row_of-RawMono n) → All (MonoVariables Below) (monos_of variables names flips row)
    monos_below flips end_of-RawMono = All-nil (MonoVariables Below)
    monos_below flips (more_of-RawMono minus number atom others) =
        All-append (MonoVariables Below) (mono_of variables names (opposite flips minus) number atom) (monos_of variables names flips others) (mono_below (opposite flips minus) number atom) (monos_below flips others)

    mono_below : (minus : Bool) (number : ℕ) (atom : RawAtom) → All (MonoVariables Below) (mono_of variables names minus number atom)
    mono_below minus number Unit = All-nil (MonoVariables Below)
    mono_below minus number (Plain name) = one_below minus number (plain_atom variables names name) (plain_below name)
    mono_below minus number (Entry name at) = one_below minus number (Atom.App (number_of names.funs name) (term_of variables names at)) (term_below at)

  ix_below : (flips : Bool) (ix : RawIx) → All (MonoVariables Below) (ix_monos variables names flips ix)
  ix_below flips (RawIx' shape monos) = monos_below flips monos

  difference_below : (left right : RawIx) (number : ℤ) → Variables Below (difference variables names left right number)
  difference_below left right number =
      from_monos Below (ix_monos variables names false left ++ ix_monos variables names true right) _
      (All-append (MonoVariables Below) (ix_monos variables names false left) (ix_monos variables names true right) (ix_below false left) (ix_below true right))

  single : (left right : RawIx) (number : ℤ) → All (Variables Below) (difference variables names left right number ∷ [])
  single left right number = All-cons (Variables Below) _ [] (difference_below left right number) (All-nil (Variables Below))

  none : All (Variables Below) []
  none = All-nil (Variables Below)

  equal_below : (sign : Compare) (left right : RawIx) → All (Variables Below) (equal_by variables names sign left right)
  equal_below Equal left right = single left right _
  equal_below AtMost left right = none
  equal_below Less left right = none
  equal_below AtLeast left right = none
  equal_below Greater left right = none

  least_below : (sign : Compare) (left right : RawIx) → All (Variables Below) (least_by variables names sign left right)
  least_below Equal left right = none
  least_below AtMost left right = single right left _
  least_below Less left right = single right left _
  least_below AtLeast left right = single left right _
  least_below Greater left right = single left right _

  all_equal : (constraints : List RawConstraint) → All (Variables Below) (flat_map (equal_terms variables names) constraints)
  all_equal [] = none
  all_equal (one ∷ others) =
      All-append (Variables Below) (equal_terms variables names one) (flat_map (equal_terms variables names) others) (equal_below one.sign one.left one.right) (all_equal others)

  all_least : (constraints : List RawConstraint) → All (Variables Below) (flat_map (least_terms variables names) constraints)
  all_least [] = none
  all_least (one ∷ others) =
      All-append (Variables Below) (least_terms variables names one) (flat_map (least_terms variables names) others) (least_below one.sign one.left one.right) (all_least others)

-- ---- literals

count_variables : (literal : RawLiteral) → length (variables literal) ≡ length literal.ins + length (outs_of literal) + length literal.inner
count_variables literal =
    length-append (literal.ins ++ outs_of literal) literal.inner ∙ ap (λ (n : ℕ). n + length literal.inner) (length-append literal.ins (outs_of literal))

few_by : (a b c : ℕ) (d e : Bool) → (nat_lt 8 a || nat_lt 8 b || nat_lt 8 c || d || e) ≡ false → a + b + c < 2 ^ 32
few_by a b c d e none =
    let three : (nat_lt 8 a || nat_lt 8 b || nat_lt 8 c) ≡ false = left_false _ d (left_false _ e none) in
    let first : a ≤ 8 = ltb-false 8 a (left_false _ (nat_lt 8 b) (left_false _ (nat_lt 8 c) three)) in
    let second : b ≤ 8 = ltb-false 8 b (right_false (nat_lt 8 a) _ (left_false _ (nat_lt 8 c) three)) in
    let third : c ≤ 8 = ltb-false 8 c (right_false (nat_lt 8 a || nat_lt 8 b) _ three) in
    omega (arith, first, second, third)

conj_formed : (names : RelNames) (literal : RawLiteral) (outer : ℕ) → outer ≡ length literal.ins + length (outs_of literal) → breaks_limits literal ≡ false → IsFormed outer (conj_of names literal)
conj_formed names literal outer is e =
    let count : length (variables literal) ≡ outer + length literal.inner = omega (arith, is, count_variables literal) in
    let few = few_by (length literal.ins) (length (outs_of literal)) (length literal.inner) (nat_lt 64 (length literal.constraints)) (list_any has_long_side literal.constraints) e in
    record {
      few = omega (arith, is, few);
      equal = subst (λ (n : ℕ). All (Variables (λ number. number < n)) (flat_map (equal_terms (variables literal) names) literal.constraints)) count (all_equal (variables literal) names literal.constraints);
      least = subst (λ (n : ℕ). All (Variables (λ number. number < n)) (flat_map (least_terms (variables literal) names) literal.constraints)) count (all_least (variables literal) names literal.constraints);
    }

arities_are : (ins : ℕ) (outs : Option (List (List ℕ))) (shape : Shape) → same_shape (shape_with ins outs) shape ≡ true → ins_of shape + outputs_of shape ≡ ins + length (unwrap_or outs [])
arities_are ins None (Points arity) e = let same = eqb-true ins arity e in omega (arith, same)
arities_are ins None (Pairs a b) e = absurd cc
arities_are ins (Some outs) (Points arity) e = absurd cc
arities_are ins (Some outs) (Pairs a b) e =
    let same_ins : ins ≡ a = eqb-true ins a (left_true (ins == a) (length outs == b) e) in
    let same_outs : length outs ≡ b = eqb-true (length outs) b (right_true (ins == a) (length outs == b) e) in
    omega (arith, same_ins, same_outs)

conjs_formed : (names : RelNames) (shape : Shape) (literals : List RawLiteral) → differ shape literals ≡ false → list_any breaks_limits literals ≡ false → All (IsFormed (ins_of shape + outputs_of shape)) (map (conj_of names) literals)
conjs_formed names shape [] same few = All-nil (IsFormed (ins_of shape + outputs_of shape))
conjs_formed names shape (literal ∷ literals) same few =
    All-cons (IsFormed (ins_of shape + outputs_of shape)) (conj_of names literal) (map (conj_of names) literals)
    (conj_formed names literal (ins_of shape + outputs_of shape) (arities_are (length literal.ins) literal.outs shape (from_not _ (left_false _ _ same))) (left_false _ _ few))
    (conjs_formed names shape literals (right_false _ _ same) (right_false _ _ few))

unbroken : (a b c : Bool) → ◌≡◌ {A = Option ℕ} (if a then Some 22 else if b then Some 23 else if c then Some 24 else None) None → (a ≡ false) × (c ≡ false)
unbroken false false false e = (refl, refl)
unbroken true b c e = absurd cc
unbroken false true c e = absurd cc
unbroken false false true e = absurd cc

pub rel_formed_by : (names : RelNames) (literals : List RawLiteral) → differ (shape_of_all literals) literals ≡ false → list_any breaks_limits literals ≡ false → IsFormedRel (rel_of names literals)
rel_formed_by names literals same few = conjs_formed names (shape_of_all literals) literals same few

no_outputs : (shape : Shape) → is_wanted wanted.Set shape ≡ true → ins_of shape + outputs_of shape ≡ ins_of shape
no_outputs (Points arity) e = omega arith
no_outputs (Pairs ins outs) e = absurd cc

pub set_formed_by : (names : RelNames) (literals : List RawLiteral) → is_wanted wanted.Set (shape_of_all literals) ≡ true → differ (shape_of_all literals) literals ≡ false → list_any breaks_limits literals ≡ false
    → IsFormedSet (set_of names literals)
set_formed_by names literals points same few =
    subst (λ (outer : ℕ). All (IsFormed outer) (map (conj_of names) literals)) (no_outputs (shape_of_all literals) points) (conjs_formed names (shape_of_all literals) literals same few)

module _ (wanted : Wanted) (literals : List RawLiteral) (kept : least_rule wanted literals ≡ None) where
  rules : (breaks_arities wanted literals ≡ false) × (list_any breaks_limits literals ≡ false)
  rules = unbroken (breaks_arities wanted literals) (list_any breaks_names literals) (list_any breaks_limits literals) kept

pub rel_formed : (names : RelNames) (literals : List RawLiteral) → least_rule wanted.Relation literals ≡ None → IsFormedRel (rel_of names literals)
rel_formed names literals kept =
    let r = rules wanted.Relation literals kept in
    rel_formed_by names literals (right_false _ _ r.0) r.1

pub set_formed : (names : RelNames) (literals : List RawLiteral) → least_rule wanted.Set literals ≡ None → IsFormedSet (set_of names literals)
set_formed names literals kept =
    let r = rules wanted.Set literals kept in
    set_formed_by names literals (from_not _ (left_false _ _ r.0)) (right_false _ _ r.0) r.1
