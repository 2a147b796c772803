-- Simplified relations mean what the given ones mean.
use Rattle.std.proofs.Common.{◌≡◌, ◌↔◌, ◌⊎◌, inl, inr, ℕ, ◌+◌, ◌<◌, ◌^◌, ℤ, List, [], ◌∷◌, ◌++◌, Bool, true, false, if◌then◌else◌, Option, None, Some, Result, Ok, Err, length, get_or, nat_eq, refl, sym, ◌∙◌, subst, append_assoc, append-nil, arith}
use Rattle.std.proofs.lemmas.Bool.Decides.{nat_tests}
use Rattle.std.proofs.lemmas.List.Elements.{All-cons, All-contains, All-head, All-nil, All-tail, Contains-append_cases, Contains-append_left, Contains-append_right, Contains-get_or}
use Rattle.std.proofs.lemmas.List.Folds.{Any-from_list_any}
use Rattle.std.specs.Cmp.{Equal-is}
use Rattle.std.specs.List.{All, Contains, cons_option, filter_map, list_any}
use Rattle.std.specs.Ordering.{is_eq}
use Rattle.spf_term.specs.Environment.{Environment}
use Rattle.spf_term.specs.Order.{term_cmp}
use Rattle.spf_term.specs.declared.term.Term.{Term}
use Rattle.spf_rel.specs.Meaning.{IsFormed, Meets, MeetsSome}
use Rattle.spf_rel.specs.Renumbering.{Variables}
use Rattle.spf_rel.specs.Simplified.{AreTidy, IsOrdered, IsSimplification, IsTidy, all_solved, both, compacted, distinct, same_conj, same_terms, settled, solved}
use Rattle.spf_rel.specs.declared.relation.Conj.{Conj}
use Rattle.spf_rel.proofs.Eliminated.{IsBelow, IsKept, kept_chain, solved_kept}
use Rattle.spf_rel.proofs.Laws.{Laws}
use Rattle.spf_rel.proofs.Pairs.{cases, there_first, there_later}
use Rattle.spf_rel.proofs.Settled.{IsLeast, IsZero, compacted_kept, settled_kept, settled_none}

-- ---- order

module _ (P : Term → Type 0) (terms made : List Term) (ordered : IsOrdered terms made) where
  pub all_ordered : All P terms → All P made
  all_ordered h = λ k d inside. All-contains P terms (get_or made k d) h ((ordered.alike (get_or made k d)).1 (Contains-get_or made k d inside))

  ordered_all : All P made → All P terms
  ordered_all h = λ k d inside. All-contains P made (get_or terms k d) h ((ordered.alike (get_or terms k d)).0 (Contains-get_or terms k d inside))

module _ (outer : ℕ) (conj made : Conj) (inner : made.inner ≡ conj.inner) (equal : IsOrdered conj.equal made.equal) (least : IsOrdered conj.least made.least) where
  ordered_kept : IsFormed outer conj → IsKept outer conj made
  ordered_kept formed = record {
    alike = λ env point is. (
      λ meets. record {
        inner = meets.inner;
        count = meets.count ∙ sym inner;
        holds = record {
          equal = all_ordered (IsZero env (point ++ meets.inner)) conj.equal made.equal equal meets.holds.equal;
          least = all_ordered (IsLeast env (point ++ meets.inner)) conj.least made.least least meets.holds.least;
        };
      },
      λ meets. record {
        inner = meets.inner;
        count = meets.count ∙ inner;
        holds = record {
          equal = ordered_all (IsZero env (point ++ meets.inner)) conj.equal made.equal equal meets.holds.equal;
          least = ordered_all (IsLeast env (point ++ meets.inner)) conj.least made.least least meets.holds.least;
        };
      },
    );
    formed = record {
      few = subst (λ count. outer + count < 2 ^ 32) (sym inner) formed.few;
      equal = subst (λ count. All (Variables (IsBelow (outer + count))) made.equal) (sym inner) (all_ordered (Variables (IsBelow (outer + conj.inner))) conj.equal made.equal equal formed.equal);
      least = subst (λ count. All (Variables (IsBelow (outer + count))) made.least) (sym inner) (all_ordered (Variables (IsBelow (outer + conj.inner))) conj.least made.least least formed.least);
    };
  }

-- step 4 keeps the meaning
tidy_kept : (outer : ℕ) (conj made : Conj) → IsFormed outer conj → IsTidy outer conj made → IsKept outer conj made
tidy_kept outer conj made formed tidy =
    let compact = compacted outer conj.inner conj in
    let kept = compacted_kept outer conj.inner conj (omega arith) formed in
    kept_chain outer conj compact made kept.alike (ordered_kept outer compact made tidy.inner tidy.equal tidy.least kept.formed)

-- ---- lists of conjunctions

pub record AreKept (outer : ℕ) (conjs made : List Conj) : Type 0 where
  pub alike : (env : Environment) (point : List ℤ) → length point ≡ outer → MeetsSome env point conjs ↔ MeetsSome env point made
  pub formed : All (IsFormed outer) made

module _ (env : Environment) (point : List ℤ) where
  pub meets_here : (conj : Conj) (conjs : List Conj) → Meets env point conj → MeetsSome env point (conj ∷ conjs)
  meets_here conj conjs meets = record { conj = conj; there = there_first conj conjs; meets = meets }

  pub meets_later : (conj : Conj) (conjs : List Conj) → MeetsSome env point conjs → MeetsSome env point (conj ∷ conjs)
  meets_later conj conjs some = record { conj = some.conj; there = there_later conj some.conj conjs some.there; meets = some.meets }

  pub meets_either : (conj : Conj) (conjs : List Conj) → MeetsSome env point (conj ∷ conjs) → Meets env point conj ⊎ MeetsSome env point conjs
  meets_either conj conjs some = elim (cases conj some.conj conjs some.there) [
    | inl here ↦ inl (subst (Meets env point) here some.meets)
    | inr later ↦ inr (record { conj = some.conj; there = later; meets = some.meets })
  ]

  meets_within : (conjs made : List Conj) → ((conj : Conj) → Contains conjs conj → Contains made conj) → MeetsSome env point conjs → MeetsSome env point made
  meets_within conjs made leads some = record { conj = some.conj; there = leads some.conj some.there; meets = some.meets }

module _ (outer : ℕ) where
  none_kept : AreKept outer [] []
  none_kept = record { alike = λ env point is. (λ some. some, λ some. some); formed = All-nil (IsFormed outer) }

  one_kept : (conj made : Conj) (conjs more : List Conj) → IsKept outer conj made → AreKept outer conjs more → AreKept outer (conj ∷ conjs) (made ∷ more)
  one_kept conj made conjs more h k = record {
    alike = λ env point is. (
      λ some. elim (meets_either env point conj conjs some) [
        | inl here ↦ meets_here env point made more ((h.alike env point is).0 here)
        | inr later ↦ meets_later env point made more ((k.alike env point is).0 later)
      ],
      λ some. elim (meets_either env point made more some) [
        | inl here ↦ meets_here env point conj conjs ((h.alike env point is).1 here)
        | inr later ↦ meets_later env point conj conjs ((k.alike env point is).1 later)
      ],
    );
    formed = All-cons (IsFormed outer) made more h.formed k.formed;
  }

  one_dropped : (conj : Conj) (conjs more : List Conj) → ((env : Environment) (point : List ℤ) → Meets env point conj → ⊥) → AreKept outer conjs more → AreKept outer (conj ∷ conjs) more
  one_dropped conj conjs more none k = record {
    alike = λ env point is. (
      λ some. elim (meets_either env point conj conjs some) [
        | inl here ↦ absurd (none env point here)
        | inr later ↦ (k.alike env point is).0 later
      ],
      λ some. meets_later env point conj conjs ((k.alike env point is).1 some),
    );
    formed = k.formed;
  }

  all_chain : (a b c : List Conj) → AreKept outer a b → AreKept outer b c → AreKept outer a c
  all_chain a b c h k = record {
    alike = λ env point is. (λ some. (k.alike env point is).0 ((h.alike env point is).0 some), λ some. (h.alike env point is).1 ((k.alike env point is).1 some));
    formed = k.formed;
  }

  module _ (laws : Laws) where
    solved_by : (first : Result Conj ℤ) (rest : Result (List Conj) ℤ) (conj : Conj) (conjs done : List Conj) → IsFormed outer conj → solved outer conj ≡ first
        → ((more : List Conj) → rest ≡ Ok more → AreKept outer conjs more) → both first rest ≡ Ok done → AreKept outer (conj ∷ conjs) done
    solved_by (Ok made) (Ok more) conj conjs done formed at later is =
        let same : made ∷ more ≡ done = cc in
        subst (AreKept outer (conj ∷ conjs)) same (one_kept conj made conjs more (solved_kept laws outer conj made formed at) (later more refl))
    solved_by (Ok made) (Err number) conj conjs done formed at later is = cc
    solved_by (Err number) rest conj conjs done formed at later is = cc

    pub all_solved_kept : (conjs done : List Conj) → All (IsFormed outer) conjs → all_solved outer conjs ≡ Ok done → AreKept outer conjs done
    all_solved_kept [] done formed is = let same : [] ≡ done = cc in subst (AreKept outer []) same none_kept
    all_solved_kept (conj ∷ conjs) done formed is =
        solved_by (solved outer conj) (all_solved outer conjs) conj conjs done (All-head (IsFormed outer) conj conjs formed) refl
        (λ more. all_solved_kept conjs more (All-tail (IsFormed outer) conj conjs formed)) is

  settled_by : (first : Option Conj) (conj : Conj) (conjs : List Conj) → IsFormed outer conj → settled conj ≡ first → AreKept outer conjs (filter_map settled conjs) → AreKept outer (conj ∷ conjs) (cons_option first (filter_map settled conjs))
  settled_by None conj conjs formed at k = one_dropped conj conjs (filter_map settled conjs) (λ env point meets. settled_none conj env (point ++ meets.inner) meets.holds at) k
  settled_by (Some made) conj conjs formed at k = one_kept conj made conjs (filter_map settled conjs) (settled_kept conj outer made formed at) k

  all_settled_kept : (conjs : List Conj) → All (IsFormed outer) conjs → AreKept outer conjs (filter_map settled conjs)
  all_settled_kept [] formed = none_kept
  all_settled_kept (conj ∷ conjs) formed = settled_by (settled conj) conj conjs (All-head (IsFormed outer) conj conjs formed) refl (all_settled_kept conjs (All-tail (IsFormed outer) conj conjs formed))

  all_tidy_kept : (conjs made : List Conj) → All (IsFormed outer) conjs → AreTidy outer conjs made → AreKept outer conjs made
  all_tidy_kept [] [] formed tidy = none_kept
  all_tidy_kept [] (made ∷ more) formed tidy = absurd tidy
  all_tidy_kept (conj ∷ conjs) [] formed tidy = absurd tidy
  all_tidy_kept (conj ∷ conjs) (made ∷ more) formed tidy =
      one_kept conj made conjs more (tidy_kept outer conj made (All-head (IsFormed outer) conj conjs formed) tidy.0) (all_tidy_kept conjs more (All-tail (IsFormed outer) conj conjs formed) tidy.1)

-- ---- equal conjunctions

module _ (laws : Laws) where
  terms_by : (first : Bool) (term other : Term) (terms others : List Term) → is_eq (term_cmp term other) ≡ first → (same_terms terms others ≡ true → terms ≡ others) → (if first then same_terms terms others else false) ≡ true → term ∷ terms ≡ other ∷ others
  terms_by true term other terms others at later is = λ i. laws.exact term other ((Equal-is (term_cmp term other)).0 at) i ∷ later is i
  terms_by false term other terms others at later is = cc

  pub terms_same : (terms others : List Term) → same_terms terms others ≡ true → terms ≡ others
  terms_same [] [] is = refl
  terms_same [] (other ∷ others) is = cc
  terms_same (term ∷ terms) [] is = cc
  terms_same (term ∷ terms) (other ∷ others) is = terms_by (is_eq (term_cmp term other)) term other terms others refl (terms_same terms others) is

  conj_by : (first second : Bool) (a b : Conj) → nat_eq a.inner b.inner ≡ first → same_terms a.equal b.equal ≡ second → (if first then (if second then same_terms a.least b.least else false) else false) ≡ true → a ≡ b
  conj_by true true a b at_inner at_equal is =
      let inner : a.inner ≡ b.inner = grind (arith, nat_tests) in
      λ i. record { inner = inner i; equal = terms_same a.equal b.equal at_equal i; least = terms_same a.least b.least is i }
  conj_by true false a b at_inner at_equal is = cc
  conj_by false second a b at_inner at_equal is = cc

  pub conj_same : (a b : Conj) → same_conj a b ≡ true → a ≡ b
  conj_same a b is = conj_by (nat_eq a.inner b.inner) (same_terms a.equal b.equal) a b refl refl is

  earlier : (conj : Conj) (kept : List Conj) → list_any (same_conj conj) kept ≡ true → Contains kept conj
  earlier conj kept is =
      let found = Any-from_list_any (same_conj conj) kept is in
      subst (Contains kept) (sym (conj_same conj found.1 found.4)) (found.0, found.2, found.3)

  -- the same conjunctions, whichever of two equal ones is kept
  abbrev Same : List Conj → List Conj → Type 0
  Same conjs made = (conj : Conj) → Contains conjs conj ↔ Contains made conj

  again : (conj other : Conj) (kept conjs : List Conj) → Contains kept conj → Contains (kept ++ conj ∷ conjs) other → Contains (kept ++ conjs) other
  again conj other kept conjs there at = elim (Contains-append_cases kept (conj ∷ conjs) other at) [
    | inl first ↦ Contains-append_left kept conjs other first
    | inr second ↦ elim (cases conj other conjs second) [
      | inl here ↦ Contains-append_left kept conjs other (subst (Contains kept) (sym here) there)
      | inr later ↦ Contains-append_right kept conjs other later
    ]
  ]

  longer : (conj other : Conj) (kept conjs : List Conj) → Contains (kept ++ conjs) other → Contains (kept ++ conj ∷ conjs) other
  longer conj other kept conjs at = elim (Contains-append_cases kept conjs other at) [
    | inl first ↦ Contains-append_left kept (conj ∷ conjs) other first
    | inr second ↦ Contains-append_right kept (conj ∷ conjs) other (there_later conj other conjs second)
  ]

  distinct_by : (known : Bool) (conj : Conj) (kept conjs : List Conj) → list_any (same_conj conj) kept ≡ known → ((all : List Conj) → Same (all ++ conjs) (distinct all conjs))
      → Same (kept ++ conj ∷ conjs) (distinct (if known then kept else kept ++ conj ∷ []) conjs)
  distinct_by true conj kept conjs at further other =
      (λ there. (further kept other).0 (again conj other kept conjs (earlier conj kept at) there), λ there. longer conj other kept conjs ((further kept other).1 there))
  distinct_by false conj kept conjs at further other =
      let same : (kept ++ conj ∷ []) ++ conjs ≡ kept ++ conj ∷ conjs = append_assoc kept (conj ∷ []) conjs in
      subst (λ all. Contains all other ↔ Contains (distinct (kept ++ conj ∷ []) conjs) other) same (further (kept ++ conj ∷ []) other)

  distinct_same : (conjs kept : List Conj) → Same (kept ++ conjs) (distinct kept conjs)
  distinct_same [] kept other = subst (λ all. Contains all other ↔ Contains kept other) (sym (append-nil kept)) (λ there. there, λ there. there)
  distinct_same (conj ∷ conjs) kept other = distinct_by (list_any (same_conj conj) kept) conj kept conjs refl (distinct_same conjs) other

  distinct_kept : (outer : ℕ) (conjs : List Conj) → All (IsFormed outer) conjs → AreKept outer conjs (distinct [] conjs)
  distinct_kept outer conjs formed = record {
    alike = λ env point is.
        (meets_within env point conjs (distinct [] conjs) (λ conj. (distinct_same conjs [] conj).0), meets_within env point (distinct [] conjs) conjs (λ conj. (distinct_same conjs [] conj).1));
    formed = λ k d inside.
        let conj = get_or (distinct [] conjs) k d in
        All-contains (IsFormed outer) conjs conj formed ((distinct_same conjs [] conj).1 (Contains-get_or (distinct [] conjs) k d inside));
  }

  -- simplification keeps the meaning, and variables below their number
  pub simplification_kept : (outer : ℕ) (conjs made : List Conj) → All (IsFormed outer) conjs → IsSimplification outer conjs made → AreKept outer conjs made
  simplification_kept outer conjs made formed h =
      let first = all_solved_kept outer laws conjs h.done formed h.solved in
      let second = all_settled_kept outer h.done first.formed in
      let tidy = h.distinct.tidy in
      let third = all_tidy_kept outer (filter_map settled h.done) tidy second.formed h.distinct.tidied in
      let fourth = distinct_kept outer tidy third.formed in
      subst (AreKept outer conjs) (sym h.distinct.is)
      (all_chain outer conjs h.done (distinct [] tidy) first
      (all_chain outer h.done (filter_map settled h.done) (distinct [] tidy) second (all_chain outer (filter_map settled h.done) tidy (distinct [] tidy) third fourth)))
