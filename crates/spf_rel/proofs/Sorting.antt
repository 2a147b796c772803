-- Terms that are taken from the end of a sorted list, each once.
use Rattle.std.proofs.Common.{◌≡◌, ◌↔◌, ◌⊎◌, inl, inr, suc, ◌-◌, ◌<◌, ℕ, List, [], ◌∷◌, ◌++◌, Bool, true, false, if◌then◌else◌, nat_eq, length, get_or, refl, sym, ◌∙◌, subst, arith, length-append, append-nil}
use Rattle.std.proofs.Math.ListN.{get_or-append}
use Rattle.std.proofs.Math.Seq.{get_or-append_seam}
use Rattle.std.proofs.lemmas.Bool.{cases_lt}
use Rattle.std.proofs.lemmas.List.{get_or_default}
use Rattle.std.proofs.lemmas.Bool.Decides.{nat_tests}
use Rattle.std.proofs.lemmas.List.Elements.{All-nil, All-push, Contains-append_cases, Contains-append_left, Contains-append_right, Contains-get_or, recursion_from_All}
use Rattle.std.proofs.lemmas.List.MinMax.{IsStrictWeakOrder-flip, ranks_by}
use Rattle.std.proofs.lemmas.List.Quantifiers.{all_pairs_push}
use Rattle.std.proofs.lemmas.List.Sorted.{Contains-permutation, IsPermutation-sym, sorted_far}
use Rattle.std.specs.Cmp.{Equal-is, IsStrictWeakOrder, IsTotalOrder}
use Rattle.std.specs.List.{All, AllPairs, Contains}
use Rattle.std.specs.List.Sorted.{IsPermutation, IsSortedBy}
use Rattle.std.specs.Ordering.{is_eq, is_lt, ordering_reverse}
use Rattle.std.specs.declared.cmp.Ordering.{Ordering}
use Rattle.std.specs.declared.cmp.Ordering.TheVariants.{Less, Equal, Greater}
use Rattle.spf_term.specs.Order.{term_cmp}
use Rattle.spf_term.specs.declared.term.Term.{Term}
use Rattle.spf_rel.specs.Simplified.{IsAscending, IsOrdered, is_last}
use Rattle.spf_rel.proofs.Pairs.{all_first, all_second, cases, there_first}

abbrev pub NotLess : Term → Term → Type 0
NotLess a b = is_lt (term_cmp a b) ≡ false

abbrev pub Rises : Term → Term → Type 0
Rises a b = term_cmp a b ≡ Less

-- what is made of the whole, and what is left of it
pub record Sorting (whole left made : List Term) : Type 0 where
  pub falls : AllPairs NotLess left
  pub rises : AllPairs Rises made
  pub later : All (λ (term : Term). All (λ (other : Term). NotLess other term) left) made
  pub alike : (term : Term) → Contains whole term ↔ Contains (left ++ made) term

-- ---- the ends

abbrev pub key_less : Term → Term → Bool
key_less a b = is_lt (term_cmp b a)

pub falling : IsTotalOrder term_cmp → IsStrictWeakOrder key_less
falling total = IsStrictWeakOrder-flip (λ (a b : Term). is_lt (term_cmp a b)) (ranks_by total (λ (term : Term). term))

pub begun : IsTotalOrder term_cmp → (whole left : List Term) → IsPermutation whole left → IsSortedBy key_less left → Sorting whole left []
begun total whole left moved sorted = record {
  falls = λ i j d less inside. sorted_far key_less (falling total) left sorted i j d (omega (arith, less)) inside;
  rises = λ i j d less inside. absurd (omega (arith, inside));
  later = All-nil (λ (term : Term). All (λ (other : Term). NotLess other term) left);
  alike = λ term. subst (λ of. Contains whole term ↔ Contains of term) (sym (append-nil left))
      (Contains-permutation whole left term moved, Contains-permutation left whole term (IsPermutation-sym whole left moved));
}

ascending : (made : List Term) → AllPairs Rises made → IsAscending made
ascending [] h = tt
ascending (term ∷ terms) h = (
  recursion_from_All (Rises term) terms (λ k d inside. h 0 (suc k) d (omega arith) (omega (arith, inside))),
  ascending terms (λ i j d less inside. h (suc i) (suc j) d (omega (arith, less)) (omega (arith, inside))),
)

pub ordered : (whole made : List Term) → Sorting whole [] made → IsOrdered whole made
ordered whole made h = record { ascending = ascending made h.rises; alike = h.alike }

-- ---- one step

greater_by : (order : Ordering) → is_lt order ≡ false → is_eq order ≡ false → ordering_reverse order ≡ Less
greater_by Less low other = cc
greater_by Equal low other = cc
greater_by Greater low other = refl

module _ (total : IsTotalOrder term_cmp) where
  above : (a b : Term) → NotLess a b → is_eq (term_cmp a b) ≡ false → Rises b a
  above a b low other = total.antisymm b a ∙ greater_by (term_cmp a b) low other

  module _ (term : Term) (made : List Term) where
    last_by : (empty : Bool) → nat_eq (length made) 0 ≡ empty → (if empty then false else is_eq (term_cmp term (get_or made (length made - 1) term))) ≡ false
        → 0 < length made → is_eq (term_cmp term (get_or made (length made - 1) term)) ≡ false
    last_by true at is some = absurd (let clash : nat_eq (length made) 0 ≡ false = grind (arith, nat_tests) in let both : true ≡ false = sym at ∙ clash in cc)
    last_by false at is some = is

    -- it is behind all that are made, unless it is the last of them
    behind : AllPairs Rises made → All (NotLess term) made → is_last term made ≡ false → (k : ℕ) (d : Term) → k < length made → Rises (get_or made k d) term
    behind rises low other k d inside =
        let last = length made - 1 in
        let differs = last_by (nat_eq (length made) 0) refl other (omega (arith, inside)) in
        let at_last : Rises (get_or made last term) term = above term (get_or made last term) (low last term (omega (arith, inside))) differs in
        let same = get_or_default made k d term inside in
        subst (λ (of : Term). Rises of term) (sym same)
        (elim (cases_lt k last) [
          | inl before ↦ total.trans (get_or made k term) (get_or made last term) term (rises k last term before (omega (arith, inside))) at_last
          | inr past ↦ let at : k ≡ last = omega (arith, past, inside) in subst (λ (of : ℕ). Rises (get_or made of term) term) (sym at) at_last
        ])

there_by : (exact : (a b : Term) → term_cmp a b ≡ Equal → a ≡ b) (empty : Bool) (term : Term) (made : List Term) → nat_eq (length made) 0 ≡ empty → (if empty then false else is_eq (term_cmp term (get_or made (length made - 1) term))) ≡ true → Contains made term
there_by exact true term made at is = cc
there_by exact false term made at is =
    let some : 0 < length made = grind (arith, nat_tests) in
    let same = exact term (get_or made (length made - 1) term) ((Equal-is (term_cmp term (get_or made (length made - 1) term))).0 is) in
    subst (Contains made) (sym same) (Contains-get_or made (length made - 1) term (omega (arith, some)))

module _ (whole front : List Term) (last : Term) (made : List Term) (h : Sorting whole (front ++ last ∷ []) made) where
  falls_on : AllPairs NotLess front
  falls_on = λ i j d less inside.
      let long = length-append front (last ∷ []) in
      subst (λ of. NotLess (get_or front i d) of) (get_or-append front (last ∷ []) d j inside)
      (subst (λ of. NotLess of (get_or (front ++ last ∷ []) j d)) (get_or-append front (last ∷ []) d i (omega (arith, less, inside))) (h.falls i j d less (omega (arith, long, inside))))

  last_low : All (λ (other : Term). NotLess other last) front
  last_low = λ k d inside.
      let long = length-append front (last ∷ []) in
      subst (λ of. NotLess (get_or front k d) of) (get_or-append_seam front last [] d)
      (subst (λ of. NotLess of (get_or (front ++ last ∷ []) (length front) d)) (get_or-append front (last ∷ []) d k inside) (h.falls k (length front) d inside (omega (arith, long))))

  later_on : All (λ (term : Term). All (λ (other : Term). NotLess other term) front) made
  later_on = λ k d inside. all_first (λ (other : Term). NotLess other (get_or made k d)) front (last ∷ []) (h.later k d inside)

  not_less : All (NotLess last) made
  not_less = λ k d inside. (all_second (λ (other : Term). NotLess other (get_or made k d)) front (last ∷ []) (h.later k d inside)) 0 last (omega arith)

  either : (term : Term) → Contains ((front ++ last ∷ []) ++ made) term → Contains front term ⊎ ((term ≡ last) ⊎ Contains made term)
  either term at = elim (Contains-append_cases (front ++ last ∷ []) made term at) [
    | inr later ↦ inr (inr later)
    | inl left ↦ elim (Contains-append_cases front (last ∷ []) term left) [
      | inl before ↦ inl before
      | inr here ↦ elim (cases last term [] here) [
        | inl is ↦ inr (inl is)
        | inr none ↦ absurd (let past = none.1 in omega (arith, past))
      ]
    ]
  ]

  dropped_from : (term : Term) → Contains made last → Contains ((front ++ last ∷ []) ++ made) term → Contains (front ++ made) term
  dropped_from term there at = elim (either term at) [
    | inl before ↦ Contains-append_left front made term before
    | inr (inl is) ↦ Contains-append_right front made term (subst (Contains made) (sym is) there)
    | inr (inr later) ↦ Contains-append_right front made term later
  ]

  dropped_to : (term : Term) → Contains (front ++ made) term → Contains ((front ++ last ∷ []) ++ made) term
  dropped_to term at = elim (Contains-append_cases front made term at) [
    | inl before ↦ Contains-append_left (front ++ last ∷ []) made term (Contains-append_left front (last ∷ []) term before)
    | inr later ↦ Contains-append_right (front ++ last ∷ []) made term later
  ]

  -- it is the last that was made
  pub dropped : ((a b : Term) → term_cmp a b ≡ Equal → a ≡ b) → is_last last made ≡ true → Sorting whole front made
  dropped exact is = record {
    falls = falls_on;
    rises = h.rises;
    later = later_on;
    alike = λ term. (λ at. dropped_from term (there_by exact (nat_eq (length made) 0) last made refl is) ((h.alike term).0 at), λ at. (h.alike term).1 (dropped_to term at));
  }

  kept_from : (term : Term) → Contains ((front ++ last ∷ []) ++ made) term → Contains (front ++ (made ++ last ∷ [])) term
  kept_from term at = elim (either term at) [
    | inl before ↦ Contains-append_left front (made ++ last ∷ []) term before
    | inr (inl is) ↦ Contains-append_right front (made ++ last ∷ []) term (Contains-append_right made (last ∷ []) term (subst (Contains (last ∷ [])) (sym is) (there_first last [])))
    | inr (inr later) ↦ Contains-append_right front (made ++ last ∷ []) term (Contains-append_left made (last ∷ []) term later)
  ]

  kept_to : (term : Term) → Contains (front ++ (made ++ last ∷ [])) term → Contains ((front ++ last ∷ []) ++ made) term
  kept_to term at = elim (Contains-append_cases front (made ++ last ∷ []) term at) [
    | inl before ↦ Contains-append_left (front ++ last ∷ []) made term (Contains-append_left front (last ∷ []) term before)
    | inr behind ↦ elim (Contains-append_cases made (last ∷ []) term behind) [
      | inl later ↦ Contains-append_right (front ++ last ∷ []) made term later
      | inr here ↦ Contains-append_left (front ++ last ∷ []) made term (Contains-append_right front (last ∷ []) term here)
    ]
  ]

  pub kept : IsTotalOrder term_cmp → is_last last made ≡ false → (more : List Term) → more ≡ made ++ last ∷ [] → Sorting whole front more
  kept total other more is = subst (Sorting whole front) (sym is) (record {
    falls = falls_on;
    rises = all_pairs_push Rises made last h.rises (behind total last made h.rises not_less other);
    later = All-push (λ (term : Term). All (λ (before : Term). NotLess before term) front) made last later_on last_low;
    alike = λ term. (λ at. kept_from term ((h.alike term).0 at), λ at. (h.alike term).1 (kept_to term at));
  })
