-- The terms of simplified conjunctions are normal and keep the number rule.
use Rattle.std.proofs.Common.{◌≡◌, ◌⊎◌, inl, inr, ℕ, zero, suc, ◌+◌, ◌-◌, ◌<◌, ◌≤◌, ℤ, List, [], ◌∷◌, ◌++◌, Bool, true, false, if◌then◌else◌, Option, None, Some, Result, Ok, Err, length, get_or, map, nat_eq, refl, ap, sym, ◌∙◌, subst, arith}
use Rattle.std.proofs.lemmas.Bool.{cases_lt}
use Rattle.std.proofs.lemmas.Bool.Decides.{nat_tests}
use Rattle.std.proofs.lemmas.List.Elements.{All-cons, All-filter, All-head, All-map, All-nil, All-push, All-tail}
use Rattle.std.specs.Cmp.{nat_cmp_is}
use Rattle.std.specs.Prelude.{⊤}
use Rattle.std.specs.List.{All, cons_option, filter, filter_map, list_any}
use Rattle.std.specs.Option.{option_map}
use Rattle.std.specs.Ordering.{nat_cmp}
use Rattle.std.specs.declared.cmp.Ordering.TheVariants.{Less, Equal, Greater}
use Rattle.spf_term.specs.Solution.{mentions}
use Rattle.spf_term.specs.Substitution.{substituted}
use Rattle.spf_term.specs.declared.term.Atom.{Atom, Var, Param, App}
use Rattle.spf_term.specs.declared.term.Term.{Term, Term', Row_of-Mono, end_of-Mono, more_of-Mono}
use Rattle.spf_rel.specs.Elimination.{AreReady, IsReadyConj, IsReadyTerm}
use Rattle.spf_rel.specs.Renumbering.{AtomVariables, SumVariables, Variables, moved, renumbered}
use Rattle.spf_rel.specs.Rule.{conj_excess}
use Rattle.spf_rel.specs.Simplified.{AreTidy, Choice, IsSimplification, IsTidy, all_solved, both, choice, closing, compacted, conj_mentions, distinct, eliminated, go_on, has_monomials, is_false_equality, is_false_inequality, next, normal_conj, rounds, same_conj, settled, solved, tested, with_new, without}
use Rattle.spf_rel.specs.declared.relation.Conj.{Conj}
use Rattle.spf_rel.proofs.Eliminated.{past_test}
use Rattle.spf_rel.proofs.Kept.{IsOther, others_kept}
use Rattle.spf_rel.proofs.Monotone.{excess_same, normal_same}
use Rattle.spf_rel.proofs.Rounds.{NormalLaws, equal_ready, least_ready}
use Rattle.spf_rel.proofs.Settled.{none_of}
use Rattle.spf_rel.proofs.Simplifying.{all_ordered}

-- ---- steps 1 and 2

test_none : {A : Type 0} (test : Option ℤ) (outcome : Result A ℤ) (made : A) → tested test outcome ≡ Ok made → test ≡ None
test_none (Some number) outcome made is = cc
test_none None outcome made is = refl

module _ (laws : NormalLaws) (outer : ℕ) where
  normal_ready : (half made : Conj) → conj_excess (normal_conj half) ≡ None → normal_conj half ≡ made → IsReadyConj made
  normal_ready half made none same = subst IsReadyConj same (record { equal = equal_ready laws half none; least = least_ready laws half none })

  further_ready : (half made : Conj) (found : Option Choice) (go : Conj → Result Conj ℤ) → conj_excess (normal_conj half) ≡ None → ((more : Conj) → go (normal_conj more) ≡ Ok made → IsReadyConj made)
      → go_on (normal_conj half) (option_map (eliminated (normal_conj half)) found) go ≡ Ok made → IsReadyConj made
  further_ready half made None go none later is = let same : normal_conj half ≡ made = cc in normal_ready half made none same
  further_ready half made (Some found) go none later is =
      let put = map (substituted found.found.var found.found.by) in
      later (record { inner = half.inner; equal = put found.others; least = put (normal_conj half).least }) is

  rounds_ready : (fuel : ℕ) (half made : Conj) → rounds fuel outer (normal_conj half) ≡ Ok made → IsReadyConj made
  rounds_ready zero half made is =
      let passed = past_test (conj_excess (normal_conj half)) (Ok (normal_conj half)) made is in
      let same : normal_conj half ≡ made = cc in
      normal_ready half made (test_none (conj_excess (normal_conj half)) (Ok (normal_conj half)) made is) same
  rounds_ready (suc fuel) half made is =
      let outcome = go_on (normal_conj half) (next outer (normal_conj half)) (rounds fuel outer) in
      further_ready half made (choice outer (outer + half.inner) [] (normal_conj half).equal) (rounds fuel outer) (test_none (conj_excess (normal_conj half)) outcome made is) (λ more. rounds_ready fuel more made)
      (past_test (conj_excess (normal_conj half)) outcome made is)

  solved_by : (first : Result Conj ℤ) (rest : Result (List Conj) ℤ) (done : List Conj) → ((conj : Conj) → first ≡ Ok conj → IsReadyConj conj) → ((more : List Conj) → rest ≡ Ok more → All IsReadyConj more) → both first rest ≡ Ok done → All IsReadyConj done
  solved_by (Ok conj) (Ok more) done here later is =
      let same : conj ∷ more ≡ done = cc in
      subst (All IsReadyConj) same (All-cons IsReadyConj conj more (here conj refl) (later more refl))
  solved_by (Ok conj) (Err number) done here later is = cc
  solved_by (Err number) rest done here later is = cc

  all_solved_ready : (conjs done : List Conj) → all_solved outer conjs ≡ Ok done → All IsReadyConj done
  all_solved_ready [] done is = let same : [] ≡ done = cc in subst (All IsReadyConj) same (All-nil IsReadyConj)
  all_solved_ready (conj ∷ conjs) done is =
      solved_by (solved outer conj) (all_solved outer conjs) done
      (λ made at. rounds_ready (length conj.equal) conj made (past_test (conj_excess conj) (rounds (length conj.equal) outer (normal_conj conj)) made at)) (all_solved_ready conjs) is

-- ---- step 3

settled_by : (a b : Bool) (conj : Conj) (conjs : List Conj) → IsReadyConj conj → All IsReadyConj conjs
    → All IsReadyConj (cons_option (if a then None else if b then None else Some (record { inner = conj.inner; equal = filter has_monomials conj.equal; least = filter has_monomials conj.least })) conjs)
settled_by true b conj conjs ready h = h
settled_by false true conj conjs ready h = h
settled_by false false conj conjs ready h = All-cons IsReadyConj _ conjs (record { equal = All-filter has_monomials IsReadyTerm conj.equal ready.equal; least = All-filter has_monomials IsReadyTerm conj.least ready.least }) h

all_settled_ready : (conjs : List Conj) → All IsReadyConj conjs → All IsReadyConj (filter_map settled conjs)
all_settled_ready [] h = h
all_settled_ready (conj ∷ conjs) h =
    settled_by (list_any is_false_equality conj.equal) (list_any is_false_inequality conj.least) conj (filter_map settled conjs) (All-head IsReadyConj conj conjs h) (all_settled_ready conjs (All-tail IsReadyConj conj conjs h))

-- ---- step 4

-- any variables
abbrev Any : ℕ → Type 0
Any number = ⊤

mutual
  atom_any : (atom : Atom) → AtomVariables Any atom
  atom_any (Var number) = tt
  atom_any (Param number) = tt
  atom_any (App fun arg) = all_any arg

  row_any : {n : _} (row : Row_of-Mono n) → SumVariables Any row
  row_any end_of-Mono = tt
  row_any (more_of-Mono coef atom others) = (atom_any atom, row_any others)

  all_any : (term : Term) → Variables Any term
  all_any (Term' shape monos constant) = row_any monos

order_kept : (a b c d : ℕ) → (a < b → c < d) → (b < a → d < c) → (a ≡ b → c ≡ d) → nat_cmp c d ≡ nat_cmp a b
order_kept a b c d less greater equal = elim (cases_lt a b) [
  | inl below ↦ sym (nat_cmp_is c d Less (less below)) ∙ nat_cmp_is a b Less below
  | inr past ↦ elim (cases_lt b a) [
    | inl above ↦ sym (nat_cmp_is c d Greater (greater above)) ∙ nat_cmp_is a b Greater above
    | inr not_above ↦ let same : a ≡ b = omega (arith, past, not_above) in sym (nat_cmp_is c d Equal (equal same)) ∙ nat_cmp_is a b Equal same
  ]
]

module _ (var : ℕ) where
  abbrev to : ℕ → ℕ
  to = moved (closing var)

  abbrev Others : ℕ → Type 0
  Others = IsOther Any var

  placed : (number : ℕ) → nat_eq number var ≡ false → ((number < var) × (to number ≡ number)) ⊎ ((var < number) × (to number ≡ number - 1))
  placed number apart = elim (cases_lt number var) [
    | inl here ↦ let is : moved (closing var) number ≡ number = grind (arith, nat_tests) in inl (here, is)
    | inr past ↦
        let beyond : var < number = grind (arith, nat_tests) in
        let is : moved (closing var) number ≡ number - 1 = grind (arith, nat_tests) in
        inr (beyond, is)
  ]

  abbrev Placed : ℕ → Type 0
  Placed number = ((number < var) × (to number ≡ number)) ⊎ ((var < number) × (to number ≡ number - 1))

  less : (a b : ℕ) → Placed a → Placed b → a < b → to a < to b
  less a b (inl p) (inl q) below = let x = p.1 in let y = q.1 in omega (arith, x, y, below)
  less a b (inl p) (inr q) below = let x = p.1 in let y = q.1 in let u = p.0 in let v = q.0 in omega (arith, x, y, u, v)
  less a b (inr p) (inl q) below = let u = p.0 in let v = q.0 in absurd (omega (arith, u, v, below))
  less a b (inr p) (inr q) below = let x = p.1 in let y = q.1 in let u = p.0 in omega (arith, x, y, u, below)

  keeps_order : (a b : ℕ) → Others a → Others b → nat_cmp (to a) (to b) ≡ nat_cmp a b
  keeps_order a b h k =
      let p = placed a h.1 in
      let q = placed b k.1 in
      order_kept a b (to a) (to b) (less a b p q) (less b a q p) (λ same. ap to same)

  without_terms : (terms : List Term) → list_any (mentions var) terms ≡ false → AreReady terms → AreReady (map (renumbered to) terms)
  without_terms terms none ready =
      All-map IsReadyTerm (renumbered to) terms (λ k d inside. (
        normal_same to Others keeps_order (get_or terms k d) (others_kept Any var (get_or terms k d) (all_any (get_or terms k d)) (none_of (mentions var) terms none k d inside)) (ready k d inside).0,
        excess_same to (get_or terms k d) ∙ (ready k d inside).1,
      ))

  without_by : (first : Bool) (conj : Conj) → list_any (mentions var) conj.equal ≡ first → (if first then true else list_any (mentions var) conj.least) ≡ false → IsReadyConj conj → IsReadyConj (without var conj)
  without_by true conj at none ready = cc
  without_by false conj at none ready = record { equal = without_terms conj.equal at ready.equal; least = without_terms conj.least none ready.least }

  one_ready : (occurs : Bool) (conj : Conj) → conj_mentions var conj ≡ occurs → IsReadyConj conj → IsReadyConj (if occurs then conj else without var conj)
  one_ready true conj at ready = ready
  one_ready false conj at ready = without_by (list_any (mentions var) conj.equal) conj refl at ready

compacted_ready : (outer left : ℕ) (conj : Conj) → IsReadyConj conj → IsReadyConj (compacted outer left conj)
compacted_ready outer zero conj ready = ready
compacted_ready outer (suc left) conj ready =
    compacted_ready outer left (if conj_mentions (outer + left) conj then conj else without (outer + left) conj) (one_ready (outer + left) (conj_mentions (outer + left) conj) conj refl ready)

tidy_ready : (outer : ℕ) (conj made : Conj) → IsReadyConj conj → IsTidy outer conj made → IsReadyConj made
tidy_ready outer conj made ready tidy =
    let compact = compacted outer conj.inner conj in
    let h = compacted_ready outer conj.inner conj ready in
    record { equal = all_ordered IsReadyTerm compact.equal made.equal tidy.equal h.equal; least = all_ordered IsReadyTerm compact.least made.least tidy.least h.least }

all_tidy_ready : (outer : ℕ) (conjs made : List Conj) → All IsReadyConj conjs → AreTidy outer conjs made → All IsReadyConj made
all_tidy_ready outer [] [] h tidy = h
all_tidy_ready outer [] (made ∷ more) h tidy = absurd tidy
all_tidy_ready outer (conj ∷ conjs) [] h tidy = absurd tidy
all_tidy_ready outer (conj ∷ conjs) (made ∷ more) h tidy =
    All-cons IsReadyConj made more (tidy_ready outer conj made (All-head IsReadyConj conj conjs h) tidy.0) (all_tidy_ready outer conjs more (All-tail IsReadyConj conj conjs h) tidy.1)

-- ---- equal conjunctions

new_by : (known : Bool) (conj : Conj) (kept : List Conj) → IsReadyConj conj → All IsReadyConj kept → All IsReadyConj (if known then kept else kept ++ conj ∷ [])
new_by true conj kept ready h = h
new_by false conj kept ready h = All-push IsReadyConj kept conj h ready

distinct_ready : (conjs kept : List Conj) → All IsReadyConj kept → All IsReadyConj conjs → All IsReadyConj (distinct kept conjs)
distinct_ready [] kept h k = h
distinct_ready (conj ∷ conjs) kept h k =
    distinct_ready conjs (with_new conj kept) (new_by (list_any (same_conj conj) kept) conj kept (All-head IsReadyConj conj conjs k) h) (All-tail IsReadyConj conj conjs k)

pub simplification_ready : NormalLaws → (outer : ℕ) (conjs made : List Conj) → IsSimplification outer conjs made → All IsReadyConj made
simplification_ready laws outer conjs made h =
    let first = all_solved_ready laws outer conjs h.done h.solved in
    let second = all_settled_ready h.done first in
    let tidy = all_tidy_ready outer (filter_map settled h.done) h.distinct.tidy second h.distinct.tidied in
    subst (All IsReadyConj) (sym h.distinct.is) (distinct_ready h.distinct.tidy [] (All-nil IsReadyConj) tidy)
