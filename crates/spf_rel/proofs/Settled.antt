-- Conjunctions without constant constraints, and without variables that don't occur.
use Rattle.std.proofs.Common.{◌≡◌, inl, inr, ℕ, zero, suc, ◌+◌, ◌-◌, ◌<◌, ◌≤◌, ℤ, pos, negsuc, ◌+ℤ◌, ◌≤ℤ◌, List, [], ◌∷◌, ◌++◌, Bool, true, false, if◌then◌else◌, cond, None, Some, length, get_or, take, drop, nat_eq, refl, ap, sym, ◌∙◌, subst, arith, append_assoc, length-append, length-drop}
use Rattle.std.proofs.Math.IntN.{+ℤ_idl}
use Rattle.std.proofs.lemmas.Bool.{cases_lt}
use Rattle.std.proofs.lemmas.Bool.Decides.{Decides-int_eq, nat_tests}
use Rattle.std.proofs.lemmas.Int.{ints}
use Rattle.std.proofs.lemmas.List.{drop_more, get_or-append_right, get_or_append_left, length-take-le, take-append-drop}
use Rattle.std.proofs.lemmas.List.Folds.{list_any_at, list_any_none}
use Rattle.std.proofs.lemmas.List.Elements.{All-cons, All-filter, All-head, All-nil, All-tail, All-weaker}
use Rattle.std.specs.List.{All, filter, list_any}
use Rattle.std.specs.Ordering.{int_eq}
use Rattle.spf_term.specs.Environment.{Environment}
use Rattle.spf_term.specs.Solution.{is_negative, mentions}
use Rattle.spf_term.specs.Value.{number_at, value}
use Rattle.spf_term.specs.declared.term.Mono.{Mono}
use Rattle.spf_term.specs.declared.term.Term.{Term, out-Term}
use Rattle.spf_term.proofs.Monos.{list_value, value_is}
use Rattle.spf_rel.specs.Meaning.{Holds, IsFormed}
use Rattle.spf_rel.specs.Renumbering.{Variables, moved}
use Rattle.spf_rel.specs.Simplified.{closing, compacted, conj_mentions, has_monomials, is_false_equality, is_false_inequality, settled, without}
use Rattle.spf_rel.specs.declared.relation.Conj.{Conj}
use Rattle.spf_rel.proofs.Eliminated.{IsBelow, IsKept, kept_chain, kept_same}
use Rattle.spf_rel.proofs.Kept.{IsOther, others_kept}
use Rattle.spf_rel.proofs.Renumbered.{all_came, all_kept, all_lead}

-- ---- step 3

no_true : (test : Bool) → (test ≡ true → ⊥) → test ≡ false
no_true true h = absurd (h refl)
no_true false h = refl

-- no element passes the test
pub none_of : {X : Type 0} (test : X → Bool) (xs : List X) → list_any test xs ≡ false → All (λ (x : X). test x ≡ false) xs
none_of test xs is = λ k d inside. no_true (test (get_or xs k d)) (λ yes. let clash : true ≡ false = sym (list_any_at test xs k d inside yes) ∙ is in cc)

module _ {X : Type 0} (test : X → Bool) (P : X → Type 0) where
  unfilter_by : (here : Bool) (x : X) (xs : List X) → test x ≡ here → (test x ≡ false → P x) → (All P (filter test xs) → All P xs) → All P (cond here (x ∷ filter test xs) (filter test xs)) → All P (x ∷ xs)
  unfilter_by true x xs at holds more h = All-cons P x xs (All-head P x (filter test xs) h) (more (All-tail P x (filter test xs) h))
  unfilter_by false x xs at holds more h = All-cons P x xs (holds at) (more h)

  -- the others hold anyway
  unfilter : (xs : List X) → All (λ (x : X). test x ≡ false → P x) xs → All P (filter test xs) → All P xs
  unfilter [] others h = All-nil P
  unfilter (x ∷ xs) others h =
      unfilter_by (test x) x xs refl (All-head (λ (x : X). test x ≡ false → P x) x xs others) (unfilter xs (All-tail (λ (x : X). test x ≡ false → P x) x xs others)) h

module _ (env : Environment) (variables : List ℤ) where
  sum_alone : (monos : List Mono) (constant : ℤ) → (if nat_eq (length monos) 0 then false else true) ≡ false → list_value env variables monos +ℤ constant ≡ constant
  sum_alone [] constant none = +ℤ_idl constant
  sum_alone (mono ∷ monos) constant none =
      let some : nat_eq (length (mono ∷ monos)) 0 ≡ false = grind (arith, nat_tests) in
      let clash : true ≡ false = sym (ap (λ test. if test then false else true) some) ∙ none in
      cc

  constant_value : (term : Term) → has_monomials term ≡ false → value env variables term ≡ (out-Term term).constant
  constant_value term none = value_is env variables term ∙ sum_alone (out-Term term).monos (out-Term term).constant none

  -- a constant equality
  true_equality : (has zero' : Bool) (term : Term) → has_monomials term ≡ has → int_eq (out-Term term).constant (pos 0) ≡ zero' → value env variables term ≡ pos 0 → (if has then false else if zero' then false else true) ≡ false
  true_equality true zero' term at is h = refl
  true_equality false true term at is h = refl
  true_equality false false term at is h =
      let clash : true ≡ false = sym ((Decides-int_eq (out-Term term).constant (pos 0)).1 (sym (constant_value term at) ∙ h)) ∙ is in
      cc

  zero_equality : (has zero' : Bool) (term : Term) → has_monomials term ≡ has → int_eq (out-Term term).constant (pos 0) ≡ zero' → (if has then false else if zero' then false else true) ≡ false → has ≡ false → value env variables term ≡ pos 0
  zero_equality true zero' term at is h none = cc
  zero_equality false true term at is h none = constant_value term at ∙ (Decides-int_eq (out-Term term).constant (pos 0)).0 is
  zero_equality false false term at is h none = cc

  -- a constant inequality
  not_negative : (number : ℤ) → pos 0 ≤ℤ number → is_negative number ≡ false
  not_negative (pos number) h = refl
  not_negative (negsuc number) h = absurd (omega (arith, ints, h))

  least_number : (number : ℤ) → is_negative number ≡ false → pos 0 ≤ℤ number
  least_number (pos number) h = omega (arith, ints)
  least_number (negsuc number) h = cc

  true_inequality : (has : Bool) (term : Term) → has_monomials term ≡ has → pos 0 ≤ℤ value env variables term → (if has then false else is_negative (out-Term term).constant) ≡ false
  true_inequality true term at h = refl
  true_inequality false term at h = not_negative (out-Term term).constant (subst (λ number. pos 0 ≤ℤ number) (constant_value term at) h)

  least_inequality : (has : Bool) (term : Term) → has_monomials term ≡ has → (if has then false else is_negative (out-Term term).constant) ≡ false → has ≡ false → pos 0 ≤ℤ value env variables term
  least_inequality true term at h none = cc
  least_inequality false term at h none = subst (λ number. pos 0 ≤ℤ number) (sym (constant_value term at)) (least_number (out-Term term).constant h)

  abbrev pub IsZero : Term → Type 0
  IsZero term = value env variables term ≡ pos 0

  abbrev pub IsLeast : Term → Type 0
  IsLeast term = pos 0 ≤ℤ value env variables term

  no_false_equality : (terms : List Term) → All IsZero terms → list_any is_false_equality terms ≡ false
  no_false_equality terms h = list_any_none is_false_equality terms (All-weaker IsZero (λ (term : Term). is_false_equality term ≡ false) (λ term is. true_equality (has_monomials term) (int_eq (out-Term term).constant (pos 0)) term refl refl is) terms h)

  no_false_inequality : (terms : List Term) → All IsLeast terms → list_any is_false_inequality terms ≡ false
  no_false_inequality terms h = list_any_none is_false_inequality terms (All-weaker IsLeast (λ (term : Term). is_false_inequality term ≡ false) (λ term is. true_inequality (has_monomials term) term refl is) terms h)

  all_zero : (terms : List Term) → list_any is_false_equality terms ≡ false → All IsZero (filter has_monomials terms) → All IsZero terms
  all_zero terms none h =
      unfilter has_monomials IsZero terms
      (All-weaker (λ (term : Term). is_false_equality term ≡ false) (λ (term : Term). has_monomials term ≡ false → IsZero term) (λ term is has. zero_equality (has_monomials term) (int_eq (out-Term term).constant (pos 0)) term refl refl is has) terms (none_of is_false_equality terms none)) h

  all_least : (terms : List Term) → list_any is_false_inequality terms ≡ false → All IsLeast (filter has_monomials terms) → All IsLeast terms
  all_least terms none h =
      unfilter has_monomials IsLeast terms
      (All-weaker (λ (term : Term). is_false_inequality term ≡ false) (λ (term : Term). has_monomials term ≡ false → IsLeast term) (λ term is has. least_inequality (has_monomials term) term refl is has) terms (none_of is_false_inequality terms none)) h

module _ (conj : Conj) where
  abbrev cleared : Conj
  cleared = record { inner = conj.inner; equal = filter has_monomials conj.equal; least = filter has_monomials conj.least }

  cleared_holds : (env : Environment) (variables : List ℤ) → Holds env variables conj → Holds env variables cleared
  cleared_holds env variables h = record { equal = All-filter has_monomials (IsZero env variables) conj.equal h.equal; least = All-filter has_monomials (IsLeast env variables) conj.least h.least }

  module _ (no_equality : list_any is_false_equality conj.equal ≡ false) (no_inequality : list_any is_false_inequality conj.least ≡ false) where
    holds_cleared : (env : Environment) (variables : List ℤ) → Holds env variables cleared → Holds env variables conj
    holds_cleared env variables h = record { equal = all_zero env variables conj.equal no_equality h.equal; least = all_least env variables conj.least no_inequality h.least }

    cleared_kept : (outer : ℕ) → IsFormed outer conj → IsKept outer conj cleared
    cleared_kept outer formed = record {
      alike = λ env point is. (
        λ meets. record { inner = meets.inner; count = meets.count; holds = cleared_holds env (point ++ meets.inner) meets.holds },
        λ meets. record { inner = meets.inner; count = meets.count; holds = holds_cleared env (point ++ meets.inner) meets.holds },
      );
      formed = record {
        few = formed.few;
        equal = All-filter has_monomials (Variables (IsBelow (outer + conj.inner))) conj.equal formed.equal;
        least = All-filter has_monomials (Variables (IsBelow (outer + conj.inner))) conj.least formed.least;
      };
    }

  some_by : (a b : Bool) (outer : ℕ) (made : Conj) → list_any is_false_equality conj.equal ≡ a → list_any is_false_inequality conj.least ≡ b → IsFormed outer conj → (if a then None else if b then None else Some cleared) ≡ Some made → IsKept outer conj made
  some_by true b outer made at_a at_b formed is = cc
  some_by false true outer made at_a at_b formed is = cc
  some_by false false outer made at_a at_b formed is = let same : cleared ≡ made = cc in subst (IsKept outer conj) same (cleared_kept at_a at_b outer formed)

  -- step 3 keeps the meaning
  pub settled_kept : (outer : ℕ) (made : Conj) → IsFormed outer conj → settled conj ≡ Some made → IsKept outer conj made
  settled_kept outer made formed is = some_by (list_any is_false_equality conj.equal) (list_any is_false_inequality conj.least) outer made refl refl formed is

  none_by : (a b : Bool) → list_any is_false_equality conj.equal ≡ a → list_any is_false_inequality conj.least ≡ b → (env : Environment) (variables : List ℤ) → Holds env variables conj → (if a then None else if b then None else Some cleared) ≡ None → ⊥
  none_by true b at_a at_b env variables h is = let clash : true ≡ false = sym at_a ∙ no_false_equality env variables conj.equal h.equal in cc
  none_by false true at_a at_b env variables h is = let clash : true ≡ false = sym at_b ∙ no_false_inequality env variables conj.least h.least in cc
  none_by false false at_a at_b env variables h is = cc

  -- a conjunction that is dropped has no points
  pub settled_none : (env : Environment) (variables : List ℤ) → Holds env variables conj → settled conj ≡ None → ⊥
  settled_none env variables h is = none_by (list_any is_false_equality conj.equal) (list_any is_false_inequality conj.least) refl refl env variables h is

-- ---- step 4

-- behind the first list stands one number more
module _ (first : List ℤ) (number : ℤ) (second : List ℤ) (var : ℕ) (is : length first ≡ var) where
  closed_at : (other : ℕ) → nat_eq other var ≡ false → get_or (first ++ second) (moved (closing var) other) (pos 0) ≡ get_or (first ++ number ∷ second) other (pos 0)
  closed_at other apart = elim (cases_lt other var) [
    | inl here ↦
        let to : moved (closing var) other ≡ other = grind (arith, nat_tests) in
        ap (λ place. get_or (first ++ second) place (pos 0)) to ∙ get_or_append_left first second (pos 0) other (omega arith) ∙ sym (get_or_append_left first (number ∷ second) (pos 0) other (omega arith))
    | inr past ↦
        let beyond : var < other = grind (arith, nat_tests) in
        let to : moved (closing var) other ≡ other - 1 = grind (arith, nat_tests) in
        let place : other - var ≡ suc (other - 1 - var) = omega arith in
        ap (λ place. get_or (first ++ second) place (pos 0)) to ∙ get_or-append_right first second var (other - 1) (pos 0) is (omega arith)
        ∙ sym (get_or-append_right first (number ∷ second) var other (pos 0) is past ∙ ap (λ place. get_or (number ∷ second) place (pos 0)) place)
  ]

module _ (outer left : ℕ) (conj : Conj) (inside : left < conj.inner) (formed : IsFormed outer conj) (none : conj_mentions (outer + left) conj ≡ false) where
  abbrev var : ℕ
  var = outer + left

  abbrev to : ℕ → ℕ
  to = moved (closing var)

  abbrev Others : ℕ → Type 0
  Others = IsOther (IsBelow (outer + conj.inner)) var

  either_false : (first second : Bool) → (if first then true else second) ≡ false → (first ≡ false) × (second ≡ false)
  either_false true second is = cc
  either_false false second is = (refl, is)

  others_in : (terms : List Term) → All (Variables (IsBelow (outer + conj.inner))) terms → list_any (mentions var) terms ≡ false → All (Variables Others) terms
  others_in terms h is = λ k d within. others_kept (IsBelow (outer + conj.inner)) var (get_or terms k d) (h k d within) (none_of (mentions var) terms is k d within)

  none_in : (list_any (mentions var) conj.equal ≡ false) × (list_any (mentions var) conj.least ≡ false)
  none_in = either_false (list_any (mentions var) conj.equal) (list_any (mentions var) conj.least) none

  equal_others : All (Variables Others) conj.equal
  equal_others = others_in conj.equal formed.equal none_in.0

  least_others : All (Variables Others) conj.least
  least_others = others_in conj.least formed.least none_in.1

  module _ (env : Environment) (first : List ℤ) (number : ℤ) (second : List ℤ) (is : length first ≡ var) where
    abbrev old : List ℤ
    old = first ++ number ∷ second

    abbrev new : List ℤ
    new = first ++ second

    same : (other : ℕ) → Others other → number_at new (pos (to other)) ≡ number_at old (pos other)
    same other h = closed_at first number second var is other h.1

    without_holds : Holds env old conj → Holds env new (without var conj)
    without_holds h = record {
      equal = all_kept to env old new Others same (λ (at : ℤ). at ≡ pos 0) conj.equal equal_others h.equal;
      least = all_kept to env old new Others same (λ (at : ℤ). pos 0 ≤ℤ at) conj.least least_others h.least;
    }

    holds_without : Holds env new (without var conj) → Holds env old conj
    holds_without h = record {
      equal = all_came to env old new Others same (λ (at : ℤ). at ≡ pos 0) conj.equal equal_others h.equal;
      least = all_came to env old new Others same (λ (at : ℤ). pos 0 ≤ℤ at) conj.least least_others h.least;
    }

  -- numbers of the inner variables, apart
  record Apart (inner : List ℤ) : Type 0 where
    pub first : List ℤ
    pub number : ℤ
    pub second : List ℤ
    pub are : inner ≡ first ++ number ∷ second
    pub count : length first ≡ left

  apart : (inner : List ℤ) → left < length inner → Apart inner
  apart inner within = record {
    first = take left inner;
    number = get_or inner left (pos 0);
    second = drop (left + 1) inner;
    are = sym (take-append-drop left inner) ∙ ap (λ of. take left inner ++ of) (drop_more inner left (pos 0) within);
    count = length-take-le left inner (omega arith);
  }

  abbrev fewer : ℕ
  fewer = conj.inner - 1

  below_fewer : (other : ℕ) → Others other → to other < outer + fewer
  below_fewer other h = elim (cases_lt other var) [
    | inl here ↦ let is : moved (closing var) other ≡ other = grind (arith, nat_tests) in omega (arith, is)
    | inr past ↦
        let apart' = h.1 in
        let below' = h.0 in
        let beyond : var < other = grind (arith, nat_tests) in
        let is : moved (closing var) other ≡ other - 1 = grind (arith, nat_tests) in
        omega (arith, is, below', beyond)
  ]

  pub without_kept : IsKept outer conj (without var conj)
  without_kept = record {
    alike = λ env point is. (
      λ meets.
          let parts = apart meets.inner (omega (arith, meets.count)) in
          let holds : Holds env ((point ++ parts.first) ++ parts.number ∷ parts.second) conj =
          subst (λ of. Holds env of conj) (ap (λ of. point ++ of) parts.are ∙ sym (append_assoc point parts.first (parts.number ∷ parts.second))) meets.holds in
          record {
            inner = parts.first ++ parts.second;
            count = omega (arith, length-append parts.first parts.second, length-append parts.first (parts.number ∷ parts.second), ap length parts.are, meets.count);
            holds = subst (λ of. Holds env of (without var conj)) (append_assoc point parts.first parts.second)
                (without_holds env (point ++ parts.first) parts.number parts.second (omega (arith, length-append point parts.first, parts.count, is)) holds);
          },
      λ meets.
          let first = take left meets.inner in
          let second = drop left meets.inner in
          let count : length first ≡ left = length-take-le left meets.inner (omega (arith, meets.count)) in
          let holds : Holds env ((point ++ first) ++ second) (without var conj) =
          subst (λ of. Holds env of (without var conj)) (ap (λ of. point ++ of) (sym (take-append-drop left meets.inner)) ∙ sym (append_assoc point first second)) meets.holds in
          record {
            inner = first ++ pos 0 ∷ second;
            count = omega (arith, length-append first (pos 0 ∷ second), count, length-drop left meets.inner, meets.count);
            holds = subst (λ of. Holds env of conj) (append_assoc point first (pos 0 ∷ second))
                (holds_without env (point ++ first) (pos 0) second (omega (arith, length-append point first, count, is)) holds);
          },
    );
    formed = record {
      few = omega (arith, formed.few);
      equal = all_lead to Others (IsBelow (outer + fewer)) below_fewer conj.equal equal_others;
      least = all_lead to Others (IsBelow (outer + fewer)) below_fewer conj.least least_others;
    };
  }

-- one after another
compact_by : (outer left : ℕ) (occurs : Bool) (conj : Conj) → left < conj.inner → IsFormed outer conj → conj_mentions (outer + left) conj ≡ occurs
    → ((more : Conj) → left ≤ more.inner → IsFormed outer more → IsKept outer more (compacted outer left more)) → IsKept outer conj (compacted outer left (if occurs then conj else without (outer + left) conj))
compact_by outer left true conj inside formed at further = further conj (omega arith) formed
compact_by outer left false conj inside formed at further =
    let kept = without_kept outer left conj inside formed at in
    kept_chain outer conj (without (outer + left) conj) _ kept.alike (further (without (outer + left) conj) (omega arith) kept.formed)

-- variables that don't occur don't matter
pub compacted_kept : (outer left : ℕ) (conj : Conj) → left ≤ conj.inner → IsFormed outer conj → IsKept outer conj (compacted outer left conj)
compacted_kept outer zero conj inside formed = kept_same outer conj conj formed refl
compacted_kept outer (suc left) conj inside formed =
    compact_by outer left (conj_mentions (outer + left) conj) conj (omega (arith, inside)) formed refl (λ more. compacted_kept outer left more)
