-- What joined conjunctions mean.
use Rattle.std.proofs.Common.{◌≡◌, ℕ, ◌+◌, ◌<◌, ◌≤◌, ℤ, pos, ◌≤ℤ◌, List, ◌++◌, length, get_or, map, take, drop, ap, sym, ◌∙◌, subst, arith, length-append, length-drop}
use Rattle.std.specs.List.{All}
use Rattle.std.proofs.lemmas.List.{length-take-le, take-append-drop}
use Rattle.std.proofs.lemmas.List.Elements.{All-append}
use Rattle.spf_term.specs.Environment.{Environment}
use Rattle.spf_term.specs.Value.{value, number_at}
use Rattle.spf_term.specs.declared.term.Term.{Term}
use Rattle.spf_rel.specs.Join.{blocks_of, both, joined, joined_all, start_of, to_left, to_right}
use Rattle.spf_rel.specs.Meaning.{Holds, IsFormed, MeetsSome}
use Rattle.spf_rel.specs.Renumbering.{Variables, renumbered}
use Rattle.spf_rel.specs.declared.join.Join.{Join}
use Rattle.spf_rel.specs.declared.join.Side.{Side}
use Rattle.spf_rel.specs.declared.join.Spot.{Spot}
use Rattle.spf_rel.specs.declared.join.Spot.TheVariants.{Outer, Middle}
use Rattle.spf_rel.specs.declared.relation.Conj.{Conj}
use Rattle.spf_rel.proofs.Joined.{formed_at}
use Rattle.spf_rel.proofs.Moved.{At, at_first, at_later, at_longer, moved_value}
use Rattle.spf_rel.proofs.Pairs.{all_first, all_second, in_pairs, of_pairs}
use Rattle.spf_rel.proofs.Renumbered.{all_came, all_kept}

-- ---- where tuples stand

-- the tuple has its numbers among those of the inputs and outputs, or is the middle tuple
abbrev pub Stands : List ℤ → List ℤ → Spot → List ℤ → Type 0
Stands outer middle (Outer start) tuple = At outer start tuple × (start + length tuple ≤ length outer)
Stands outer middle Middle tuple = tuple ≡ middle

pub record Tuples (outer middle : List ℤ) (side : Side) (first second : List ℤ) : Type 0 where
  pub count : length first ≡ side.first
  pub stands : Stands outer middle side.first_to first
  pub count_second : length second ≡ side.second
  pub stands_second : Stands outer middle side.second_to second

pub at_same : (values : List ℤ) (start other : ℕ) (part : List ℤ) → start ≡ other → At values start part → At values other part
at_same values start other part same at = subst (λ of. At values of part) same at

pub at_start : (values : List ℤ) → At values 0 values
at_start values = record { each = λ k inside. ap (λ place. get_or values place (pos 0)) (omega arith) }

module _ (outer left right middle : List ℤ) where
  -- the values of all variables
  abbrev pub all_values : List ℤ
  all_values = outer ++ (left ++ (right ++ middle))

  tuple_at : (spot : Spot) (tuple : List ℤ) (from : ℕ) → length outer + length left + length right ≡ from → Stands outer middle spot tuple → At all_values (start_of spot from) tuple
  tuple_at (Outer start) tuple from is stands = at_longer outer (left ++ (right ++ middle)) start tuple stands.1 stands.0
  tuple_at Middle tuple from is stands =
      subst (At all_values from) (sym stands)
      (at_same all_values (length outer + (length left + (length right + 0))) from middle (omega arith)
      (at_later outer (left ++ (right ++ middle)) (length left + (length right + 0)) middle
      (at_later left (right ++ middle) (length right + 0) middle (at_later right middle 0 middle (at_start middle)))))

module _ (join : Join) (l r : Conj) (outer left right middle : List ℤ)
    (is_outer : length outer ≡ join.ins + join.outs) (is_left : length left ≡ l.inner) (is_right : length right ≡ r.inner) (first second : List ℤ) where
  from_middle : length outer + length left + length right ≡ join.ins + join.outs + l.inner + r.inner
  from_middle = omega arith

  left_values : Tuples outer middle join.left first second → (number : ℕ) → number < join.left.first + join.left.second + l.inner
      → number_at (all_values outer left right middle) (pos (to_left join l r number)) ≡ number_at ((first ++ second) ++ left) (pos number)
  left_values tuples number inside =
      moved_value (blocks_of join.left (join.ins + join.outs) (join.ins + join.outs + l.inner + r.inner)) (all_values outer left right middle) first second left tuples.count tuples.count_second
      (tuple_at outer left right middle join.left.first_to first _ from_middle tuples.stands)
      (tuple_at outer left right middle join.left.second_to second _ from_middle tuples.stands_second)
      (at_same _ (length outer + 0) (join.ins + join.outs) left (omega arith) (at_later outer (left ++ (right ++ middle)) 0 left (at_first left (right ++ middle))))
      number (omega arith)

  right_values : Tuples outer middle join.right first second → (number : ℕ) → number < join.right.first + join.right.second + r.inner
      → number_at (all_values outer left right middle) (pos (to_right join l r number)) ≡ number_at ((first ++ second) ++ right) (pos number)
  right_values tuples number inside =
      moved_value (blocks_of join.right (join.ins + join.outs + l.inner) (join.ins + join.outs + l.inner + r.inner)) (all_values outer left right middle) first second right tuples.count tuples.count_second
      (tuple_at outer left right middle join.right.first_to first _ from_middle tuples.stands)
      (tuple_at outer left right middle join.right.second_to second _ from_middle tuples.stands_second)
      (at_same _ (length outer + (length left + 0)) (join.ins + join.outs + l.inner) right (omega arith)
      (at_later outer (left ++ (right ++ middle)) (length left + 0) right (at_later left (right ++ middle) 0 right (at_first right middle))))
      number (omega arith)

-- ---- constraints

abbrev pub IsZero : ℤ → Type 0
IsZero number = number ≡ pos 0

abbrev pub IsLeast : ℤ → Type 0
IsLeast number = pos 0 ≤ℤ number

module _ (env : Environment) (join : Join) (l r : Conj) (outer left right middle : List ℤ)
    (is_outer : length outer ≡ join.ins + join.outs) (is_left : length left ≡ l.inner) (is_right : length right ≡ r.inner)
    (l_formed : IsFormed (join.left.first + join.left.second) l) (r_formed : IsFormed (join.right.first + join.right.second) r)
    (l_first l_second r_first r_second : List ℤ) (l_tuples : Tuples outer middle join.left l_first l_second) (r_tuples : Tuples outer middle join.right r_first r_second) where
  abbrev values : List ℤ
  values = all_values outer left right middle

  abbrev left_values' : List ℤ
  left_values' = (l_first ++ l_second) ++ left

  abbrev right_values' : List ℤ
  right_values' = (r_first ++ r_second) ++ right

  abbrev InLeft : ℕ → Type 0
  InLeft number = number < join.left.first + join.left.second + l.inner

  abbrev InRight : ℕ → Type 0
  InRight number = number < join.right.first + join.right.second + r.inner

  same_left : (number : ℕ) → InLeft number → number_at values (pos (to_left join l r number)) ≡ number_at left_values' (pos number)
  same_left = left_values join l r outer left right middle is_outer is_left is_right l_first l_second l_tuples

  same_right : (number : ℕ) → InRight number → number_at values (pos (to_right join l r number)) ≡ number_at right_values' (pos number)
  same_right = right_values join l r outer left right middle is_outer is_left is_right r_first r_second r_tuples

  module _ (R : ℤ → Type 0) (lefts rights : List Term) (l_below : All (Variables InLeft) lefts) (r_below : All (Variables InRight) rights) where
    both_hold : All (λ (term : Term). R (value env left_values' term)) lefts → All (λ (term : Term). R (value env right_values' term)) rights → All (λ (term : Term). R (value env values term)) (both join l r lefts rights)
    both_hold h k = All-append (λ (term : Term). R (value env values term)) _ _
        (all_kept (to_left join l r) env left_values' values InLeft same_left R lefts l_below h)
        (all_kept (to_right join l r) env right_values' values InRight same_right R rights r_below k)

    left_holds : All (λ (term : Term). R (value env values term)) (both join l r lefts rights) → All (λ (term : Term). R (value env left_values' term)) lefts
    left_holds h = all_came (to_left join l r) env left_values' values InLeft same_left R lefts l_below (all_first (λ (term : Term). R (value env values term)) _ _ h)

    right_holds : All (λ (term : Term). R (value env values term)) (both join l r lefts rights) → All (λ (term : Term). R (value env right_values' term)) rights
    right_holds h = all_came (to_right join l r) env right_values' values InRight same_right R rights r_below (all_second (λ (term : Term). R (value env values term)) (map (renumbered (to_left join l r)) lefts) _ h)

  pub joined_holds : Holds env left_values' l → Holds env right_values' r → Holds env values (joined join l r)
  joined_holds h k = record {
    equal = both_hold IsZero l.equal r.equal l_formed.equal r_formed.equal h.equal k.equal;
    least = both_hold IsLeast l.least r.least l_formed.least r_formed.least h.least k.least;
  }

  pub left_of_joined : Holds env values (joined join l r) → Holds env left_values' l
  left_of_joined h = record { equal = left_holds IsZero l.equal r.equal l_formed.equal r_formed.equal h.equal; least = left_holds IsLeast l.least r.least l_formed.least r_formed.least h.least }

  pub right_of_joined : Holds env values (joined join l r) → Holds env right_values' r
  right_of_joined h = record { equal = right_holds IsZero l.equal r.equal l_formed.equal r_formed.equal h.equal; least = right_holds IsLeast l.least r.least l_formed.least r_formed.least h.least }

-- ---- all of them

-- values of three blocks, one behind the other
record Split (values : List ℤ) (a b c : ℕ) : Type 0 where
  pub first : List ℤ
  pub second : List ℤ
  pub third : List ℤ
  pub count_first : length first ≡ a
  pub count_second : length second ≡ b
  pub count_third : length third ≡ c
  pub is : values ≡ first ++ (second ++ third)

split : (values : List ℤ) (a b c : ℕ) → length values ≡ a + b + c → Split values a b c
split values a b c count =
    let rest : List ℤ = drop a values in
    let l : length rest ≡ b + c = omega (arith, length-drop a values) in
    record {
      first = take a values;
      second = take b rest;
      third = drop b rest;
      count_first = length-take-le a values (omega arith);
      count_second = length-take-le b rest (omega arith);
      count_third = omega (arith, length-drop b rest);
      is = sym (ap (λ of. take a values ++ of) (take-append-drop b rest) ∙ take-append-drop a values);
    }

module _ (env : Environment) (join : Join) (lefts rights : List Conj) (l_formed : All (IsFormed (join.left.first + join.left.second)) lefts) (r_formed : All (IsFormed (join.right.first + join.right.second)) rights)
    (outer : List ℤ) (is_outer : length outer ≡ join.ins + join.outs) where
  module _ (middle : List ℤ) (is_middle : length middle ≡ join.middle) (l_first l_second r_first r_second : List ℤ)
      (l_tuples : Tuples outer middle join.left l_first l_second) (r_tuples : Tuples outer middle join.right r_first r_second) where
    -- points of both operands with one middle tuple make one of the result
    pub joined_meet : MeetsSome env (l_first ++ l_second) lefts → MeetsSome env (r_first ++ r_second) rights → MeetsSome env outer (joined_all join lefts rights)
    joined_meet l r = record {
      conj = joined join l.conj r.conj;
      there = in_pairs (joined join) rights lefts l.conj r.conj l.there r.there;
      meets = record {
        inner = l.meets.inner ++ (r.meets.inner ++ middle);
        count = omega (arith, length-append l.meets.inner (r.meets.inner ++ middle), length-append r.meets.inner middle, l.meets.count, r.meets.count);
        holds = joined_holds env join l.conj r.conj outer l.meets.inner r.meets.inner middle is_outer l.meets.count r.meets.count
            (formed_at (join.left.first + join.left.second) lefts l.conj l_formed l.there) (formed_at (join.right.first + join.right.second) rights r.conj r_formed r.there) l_first l_second r_first r_second l_tuples r_tuples l.meets.holds r.meets.holds;
      };
    }

  -- a middle tuple with which both operands have their points
  pub record Parts : Type 0 where
    pub middle : List ℤ
    pub count : length middle ≡ join.middle
    pub meet : (l_first l_second r_first r_second : List ℤ) → Tuples outer middle join.left l_first l_second → Tuples outer middle join.right r_first r_second
        → MeetsSome env (l_first ++ l_second) lefts × MeetsSome env (r_first ++ r_second) rights

  -- a point of the result has its parts
  pub parts : MeetsSome env outer (joined_all join lefts rights) → Parts
  parts some =
      let made = of_pairs (joined join) rights lefts some.conj some.there in
      let l = made.left in
      let r = made.right in
      let inner = some.meets.inner in
      let s = split inner l.inner r.inner join.middle (some.meets.count ∙ ap (λ (conj : Conj). conj.inner) made.is) in
      let holds : Holds env (outer ++ (s.first ++ (s.second ++ s.third))) (joined join l r) = subst (Holds env (outer ++ (s.first ++ (s.second ++ s.third)))) made.is (subst (λ of. Holds env (outer ++ of) some.conj) s.is some.meets.holds) in
      let l_is : IsFormed (join.left.first + join.left.second) l = formed_at (join.left.first + join.left.second) lefts l l_formed made.in_left in
      let r_is : IsFormed (join.right.first + join.right.second) r = formed_at (join.right.first + join.right.second) rights r r_formed made.in_right in
      record {
        middle = s.third;
        count = s.count_third;
        meet = λ l_first l_second r_first r_second l_tuples r_tuples. (
          record {
            conj = l;
            there = made.in_left;
            meets = record {
              inner = s.first;
              count = s.count_first;
              holds = left_of_joined env join l r outer s.first s.second s.third is_outer s.count_first s.count_second l_is r_is l_first l_second r_first r_second l_tuples r_tuples holds;
            };
          },
          record {
            conj = r;
            there = made.in_right;
            meets = record {
              inner = s.second;
              count = s.count_second;
              holds = right_of_joined env join l r outer s.first s.second s.third is_outer s.count_first s.count_second l_is r_is l_first l_second r_first r_second l_tuples r_tuples holds;
            };
          },
        );
      }
