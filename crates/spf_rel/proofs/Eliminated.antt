-- Conjunctions made normal, and with a solution in place of its variable: what they mean.
use Rattle.std.proofs.Common.{◌≡◌, ◌≢◌, ◌↔◌, inl, inr, ℕ, zero, suc, ◌+◌, ◌-◌, ◌<◌, ◌≤◌, ℤ, pos, ◌≤ℤ◌, List, [], ◌∷◌, ◌++◌, false, Option, None, Some, Result, Ok, length, get_or, map, nat_eq, refl, ap, sym, ◌∙◌, subst, arith, append_assoc}
use Rattle.std.proofs.Math.ListN.{set}
use Rattle.std.proofs.lemmas.Bool.{cases_lt}
use Rattle.std.proofs.lemmas.Bool.Decides.{nat_tests}
use Rattle.std.proofs.lemmas.List.{get_or-append_right, get_or-set_other, get_or-set_same, get_or_append_left, length-set}
use Rattle.std.proofs.lemmas.List.Elements.{All-append, All-cons, All-head, All-map, All-tail, All-weaker}
use Rattle.std.specs.List.{All}
use Rattle.std.specs.Option.{option_map}
use Rattle.spf_term.specs.Environment.{Environment}
use Rattle.spf_term.specs.Normal.{normal}
use Rattle.spf_term.specs.Solution.{Solves, oriented, solution}
use Rattle.spf_term.specs.Substitution.{IsReplaced, substituted}
use Rattle.spf_term.specs.Value.{number_at, value}
use Rattle.spf_term.specs.declared.solutions.Solution.{Solution}
use Rattle.spf_term.specs.declared.term.Term.{Term}
use Rattle.spf_rel.specs.Meaning.{Holds, IsFormed, Meets}
use Rattle.spf_rel.specs.Renumbering.{Variables}
use Rattle.spf_rel.specs.Rule.{conj_excess}
use Rattle.spf_rel.specs.Simplified.{Choice, choice, eliminated, first_choice, go_on, next, normal_conj, rounds, solved, tested}
use Rattle.spf_rel.specs.declared.relation.Conj.{Conj}
use Rattle.spf_rel.proofs.Kept.{normal_kept, oriented_kept, solution_kept, substituted_kept}
use Rattle.spf_rel.proofs.Laws.{Laws}
use Rattle.spf_rel.proofs.Pairs.{all_first, all_from_map, all_second}

-- points of so many numbers meet one conjunction where they meet the other
abbrev pub IsAlike : ℕ → Conj → Conj → Type 0
IsAlike outer a b = (env : Environment) (point : List ℤ) → length point ≡ outer → Meets env point a ↔ Meets env point b

pub alike_chain : (outer : ℕ) (a b c : Conj) → IsAlike outer a b → IsAlike outer b c → IsAlike outer a c
alike_chain outer a b c h k env point is = (λ meets. (k env point is).0 ((h env point is).0 meets), λ meets. (h env point is).1 ((k env point is).1 meets))

-- what leads from terms to those that are made of them, and back
module _ (f : Term → Term) (P Q : Term → Type 0) (terms : List Term) where
  pub mapped : ((term : Term) → P term → Q (f term)) → All P terms → All Q (map f terms)
  mapped leads h = All-map Q f terms (All-weaker P (λ (term : Term). Q (f term)) leads terms h)

  pub unmapped : ((term : Term) → Q (f term) → P term) → All Q (map f terms) → All P terms
  unmapped leads h = All-weaker (λ (term : Term). Q (f term)) P leads terms (all_from_map f Q terms h)

abbrev pub IsBelow : ℕ → ℕ → Type 0
IsBelow bound number = number < bound

module _ (laws : Laws) where
  -- ---- step 1

  module _ (env : Environment) (variables : List ℤ) (conj : Conj) where
    abbrev IsZero : Term → Type 0
    IsZero term = value env variables term ≡ pos 0

    abbrev IsLeast : Term → Type 0
    IsLeast term = pos 0 ≤ℤ value env variables term

    pub normal_holds : Holds env variables conj → Holds env variables (normal_conj conj)
    normal_holds h = record {
      equal = mapped (λ (term : Term). oriented (normal term)) IsZero IsZero conj.equal (λ term is. (laws.oriented env variables (normal term)).1 (laws.normal env variables term ∙ is)) h.equal;
      least = mapped normal IsLeast IsLeast conj.least (λ term is. subst (λ number. pos 0 ≤ℤ number) (sym (laws.normal env variables term)) is) h.least;
    }

    pub holds_normal : Holds env variables (normal_conj conj) → Holds env variables conj
    holds_normal h = record {
      equal = unmapped (λ (term : Term). oriented (normal term)) IsZero IsZero conj.equal (λ term is. sym (laws.normal env variables term) ∙ (laws.oriented env variables (normal term)).0 is) h.equal;
      least = unmapped normal IsLeast IsLeast conj.least (λ term is. subst (λ number. pos 0 ≤ℤ number) (laws.normal env variables term) is) h.least;
    }

  pub normal_alike : (outer : ℕ) (conj : Conj) → IsAlike outer conj (normal_conj conj)
  normal_alike outer conj env point is = (
    λ meets. record { inner = meets.inner; count = meets.count; holds = normal_holds env (point ++ meets.inner) conj meets.holds },
    λ meets. record { inner = meets.inner; count = meets.count; holds = holds_normal env (point ++ meets.inner) conj meets.holds },
  )

pub normal_formed : (outer : ℕ) (conj : Conj) → IsFormed outer conj → IsFormed outer (normal_conj conj)
normal_formed outer conj h =
    let P = IsBelow (outer + conj.inner) in
    record {
      few = h.few;
      equal = mapped (λ (term : Term). oriented (normal term)) (Variables P) (Variables P) conj.equal (λ term is. oriented_kept P (normal term) (normal_kept P term is)) h.equal;
      least = mapped normal (Variables P) (Variables P) conj.least (normal_kept P) h.least;
    }

-- ---- step 2

-- the equality that is solved, between the others
pub record Chosen (low high : ℕ) (terms : List Term) (made : Choice) : Type 0 where
  pub before : List Term
  pub term : Term
  pub after : List Term
  pub are : terms ≡ before ++ term ∷ after
  pub others : made.others ≡ before ++ after
  pub found : solution low high term ≡ Some made.found

module _ (low high : ℕ) where
  chosen_by : (first : Option Solution) (before after : List Term) (term : Term) (made : Choice) (later : Option Choice) → solution low high term ≡ first
      → (later ≡ Some made → Chosen low high ((before ++ term ∷ []) ++ after) made) → first_choice first (before ++ after) later ≡ Some made → Chosen low high (before ++ term ∷ after) made
  chosen_by (Some found) before after term made later at further is =
      let here : Choice = record { found = found; others = before ++ after } in
      let same : here ≡ made = cc in
      record { before = before; term = term; after = after; are = refl; others = sym (ap (λ (of : Choice). of.others) same); found = at ∙ ap (λ (of : Choice). Some of.found) same }
  chosen_by None before after term made later at further is = subst (λ terms. Chosen low high terms made) (append_assoc before (term ∷ []) after) (further is)

  chosen_among : (before after : List Term) (made : Choice) → choice low high before after ≡ Some made → Chosen low high (before ++ after) made
  chosen_among before [] made is = cc
  chosen_among before (term ∷ after) made is =
      chosen_by (solution low high term) before after term made (choice low high (before ++ term ∷ []) after) refl (chosen_among (before ++ term ∷ []) after made) is

  pub chosen : (terms : List Term) (made : Choice) → choice low high [] terms ≡ Some made → Chosen low high terms made
  chosen terms made is = chosen_among [] terms made is

-- one more among others
module _ (P : Term → Type 0) (before : List Term) (term : Term) (after : List Term) where
  pub all_others : All P (before ++ term ∷ after) → All P (before ++ after)
  all_others h = All-append P before after (all_first P before (term ∷ after) h) (All-tail P term after (all_second P before (term ∷ after) h))

  pub that_one : All P (before ++ term ∷ after) → P term
  that_one h = All-head P term after (all_second P before (term ∷ after) h)

  pub with_one : All P (before ++ after) → P term → All P (before ++ term ∷ after)
  with_one h is = All-append P before (term ∷ after) (all_first P before after h) (All-cons P term after is (all_second P before after h))

-- another value for a variable behind the point
module _ (point inner : List ℤ) (var : ℕ) (number : ℤ) (from : length point ≤ var) (below : var < length point + length inner) where
  abbrev changed : List ℤ
  changed = set inner (var - length point) number

  changed_at : (other : ℕ) → nat_eq other var ≡ false → get_or (point ++ changed) other (pos 0) ≡ get_or (point ++ inner) other (pos 0)
  changed_at other apart = elim (cases_lt other (length point)) [
    | inl here ↦ get_or_append_left point changed (pos 0) other here ∙ sym (get_or_append_left point inner (pos 0) other here)
    | inr past ↦
        let differs : other - length point ≢ var - length point = λ same. let is : other ≡ var = omega (arith, same) in grind (arith, nat_tests) in
        get_or-append_right point changed (length point) other (pos 0) refl past
        ∙ get_or-set_other inner (var - length point) (other - length point) number (pos 0) differs
        ∙ sym (get_or-append_right point inner (length point) other (pos 0) refl past)
  ]

  pub replaced : IsReplaced var number (point ++ inner) (point ++ changed)
  replaced = record {
    new = get_or-append_right point changed (length point) var (pos 0) refl from ∙ get_or-set_same inner (var - length point) number (pos 0) (omega arith);
    others = changed_at;
  }

module _ (laws : Laws) (outer : ℕ) (conj : Conj) (made : Choice) (c : Chosen outer (outer + conj.inner) conj.equal made) where
  abbrev var : ℕ
  var = made.found.var

  abbrev by : Term
  by = made.found.by

  abbrev put : Term → Term
  put = substituted var by

  told : Solves outer (outer + conj.inner) c.term made.found
  told = laws.solves outer (outer + conj.inner) c.term made.found c.found

  -- before step 1 follows
  abbrev half : Conj
  half = record { inner = conj.inner; equal = map put made.others; least = map put conj.least }

  module _ (env : Environment) where
    abbrev ZeroAt : List ℤ → Term → Type 0
    ZeroAt variables term = value env variables term ≡ pos 0

    abbrev LeastAt : List ℤ → Term → Type 0
    LeastAt variables term = pos 0 ≤ℤ value env variables term

    -- where the variable has the value of the solution it may be taken for it
    half_holds : (variables : List ℤ) → Holds env variables conj → Holds env variables half
    half_holds variables h =
        let all = subst (All (ZeroAt variables)) c.are h.equal in
        let same : number_at variables (pos var) ≡ value env variables by = (told.zero env variables).0 (that_one (ZeroAt variables) c.before c.term c.after all) in
        let stays : IsReplaced var (value env variables by) variables variables = record { new = same; others = λ other apart. refl } in
        let kept = λ (term : Term). laws.substituted env variables variables var by term stays in
        record {
          equal = mapped put (ZeroAt variables) (ZeroAt variables) made.others (λ term is. kept term ∙ is) (subst (All (ZeroAt variables)) (sym c.others) (all_others (ZeroAt variables) c.before c.term c.after all));
          least = mapped put (LeastAt variables) (LeastAt variables) conj.least (λ term is. subst (λ number. pos 0 ≤ℤ number) (sym (kept term)) is) h.least;
        }

    -- the variable gets the value of the solution
    holds_half : (before after : List ℤ) → IsReplaced var (value env before by) before after → Holds env before half → Holds env after conj
    holds_half before after changes h =
        let kept = λ (term : Term). laws.substituted env before after var by term changes in
        let others = unmapped put (ZeroAt after) (ZeroAt before) made.others (λ term is. sym (kept term) ∙ is) h.equal in
        let one : ZeroAt after c.term = (told.zero env after).1 (changes.new ∙ sym (told.apart env (value env before by) before after changes)) in
        record {
          equal = subst (All (ZeroAt after)) (sym c.are) (with_one (ZeroAt after) c.before c.term c.after (subst (All (ZeroAt after)) c.others others) one);
          least = unmapped put (LeastAt after) (LeastAt before) conj.least (λ term is. subst (λ number. pos 0 ≤ℤ number) (kept term) is) h.least;
        }

  half_alike : IsAlike outer conj half
  half_alike env point is = (
    λ meets. record { inner = meets.inner; count = meets.count; holds = half_holds env (point ++ meets.inner) meets.holds },
    λ meets.
        let number = value env (point ++ meets.inner) by in
        let from : length point ≤ var = omega (arith, told.from, is) in
        let below : var < length point + length meets.inner = omega (arith, told.below, is, meets.count) in
        record {
          inner = changed point meets.inner var number from below;
          count = length-set meets.inner (var - length point) number ∙ meets.count;
          holds = holds_half env (point ++ meets.inner) (point ++ changed point meets.inner var number from below) (replaced point meets.inner var number from below) meets.holds;
        },
  )

  pub eliminated_alike : IsAlike outer conj (eliminated conj made)
  eliminated_alike = alike_chain outer conj half (normal_conj half) half_alike (normal_alike laws outer half)

  pub eliminated_formed : IsFormed outer conj → IsFormed outer (eliminated conj made)
  eliminated_formed h =
      let P = IsBelow (outer + conj.inner) in
      let all = subst (All (Variables P)) c.are h.equal in
      let by_is = solution_kept P outer (outer + conj.inner) c.term made.found (that_one (Variables P) c.before c.term c.after all) c.found in
      normal_formed outer half (record {
        few = h.few;
        equal = mapped put (Variables P) (Variables P) made.others (substituted_kept P var by by_is) (subst (All (Variables P)) (sym c.others) (all_others (Variables P) c.before c.term c.after all));
        least = mapped put (Variables P) (Variables P) conj.least (substituted_kept P var by by_is) h.least;
      })

-- ---- all rounds

pub record IsKept (outer : ℕ) (conj made : Conj) : Type 0 where
  pub alike : IsAlike outer conj made
  pub formed : IsFormed outer made

pub kept_chain : (outer : ℕ) (a b c : Conj) → IsAlike outer a b → IsKept outer b c → IsKept outer a c
kept_chain outer a b c h k = record { alike = alike_chain outer a b c h k.alike; formed = k.formed }

pub kept_same : (outer : ℕ) (conj made : Conj) → IsFormed outer conj → conj ≡ made → IsKept outer conj made
kept_same outer conj made formed same = subst (IsKept outer conj) same (record { alike = λ env point is. (λ meets. meets, λ meets. meets); formed = formed })

-- a test that is passed
pub past_test : {A : Type 0} (test : Option ℤ) (outcome : Result A ℤ) (made : A) → tested test outcome ≡ Ok made → outcome ≡ Ok made
past_test (Some number) outcome made is = cc
past_test None outcome made is = is

module _ (laws : Laws) (outer : ℕ) where
  further : (conj made : Conj) (found : Option Choice) (go : Conj → Result Conj ℤ) → choice outer (outer + conj.inner) [] conj.equal ≡ found → IsFormed outer conj
      → ((more : Conj) → IsFormed outer more → go more ≡ Ok made → IsKept outer more made) → go_on conj (option_map (eliminated conj) found) go ≡ Ok made → IsKept outer conj made
  further conj made None go at formed keeps is = let same : conj ≡ made = cc in kept_same outer conj made formed same
  further conj made (Some found) go at formed keeps is =
      let c = chosen outer (outer + conj.inner) conj.equal found at in
      kept_chain outer conj (eliminated conj found) made (eliminated_alike laws outer conj found c) (keeps (eliminated conj found) (eliminated_formed laws outer conj found c formed) is)

  rounds_kept : (fuel : ℕ) (conj made : Conj) → IsFormed outer conj → rounds fuel outer conj ≡ Ok made → IsKept outer conj made
  rounds_kept zero conj made formed is =
      let passed = past_test (conj_excess conj) (Ok conj) made is in
      let same : conj ≡ made = cc in
      kept_same outer conj made formed same
  rounds_kept (suc fuel) conj made formed is =
      further conj made (choice outer (outer + conj.inner) [] conj.equal) (rounds fuel outer) refl formed (λ more. rounds_kept fuel more made)
      (past_test (conj_excess conj) (go_on conj (next outer conj) (rounds fuel outer)) made is)

  -- steps 1 and 2 keep the meaning
  pub solved_kept : (conj made : Conj) → IsFormed outer conj → solved outer conj ≡ Ok made → IsKept outer conj made
  solved_kept conj made formed is =
      kept_chain outer conj (normal_conj conj) made (normal_alike laws outer conj)
      (rounds_kept (length conj.equal) (normal_conj conj) made (normal_formed outer conj formed) (past_test (conj_excess conj) (rounds (length conj.equal) outer (normal_conj conj)) made is))
