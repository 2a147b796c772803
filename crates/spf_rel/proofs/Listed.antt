-- Lists of conjunctions, one more at a time.
use Rattle.std.proofs.Common.{◌≡◌, ◌≢◌, ℕ, ◌+◌, ◌<◌, ℤ, suc, List, [], ◌∷◌, ◌++◌, Bool, true, false, if◌then◌else◌, Option, None, Some, Result, Ok, Err, length, get_or, take, drop, refl, ap, sym, ◌∙◌, subst, append-nil}
use Rattle.std.proofs.lemmas.List.{drop_more, take-append-drop, take_more}
use Rattle.std.specs.List.{cons_option, filter_map}
use Rattle.std.specs.Ordering.{is_eq}
use Rattle.spf_term.specs.Order.{term_cmp}
use Rattle.spf_term.specs.declared.fault.TermFault.{TermFault}
use Rattle.spf_term.specs.declared.fault.TermFault.TheVariants.{Wide, Memory}
use Rattle.spf_term.specs.declared.term.Term.{Term}
use Rattle.spf_rel.specs.Simplified.{AreDistinct, AreOutcomes, AreTidy, IsOutcome, IsTidy, all_solved, both, distinct, same_terms, settled, solved, with_new}
use Rattle.spf_rel.specs.declared.relation.Conj.{Conj}

-- ---- steps 1 and 2

abbrev joined : List Conj → Result (List Conj) ℤ → Result (List Conj) ℤ
joined made (Ok more) = Ok (made ++ more)
joined made (Err number) = Err number

joined_nil : (rest : Result (List Conj) ℤ) → rest ≡ joined [] rest
joined_nil (Ok more) = refl
joined_nil (Err number) = refl

both_joined : (conj : Conj) (more : List Conj) (rest : Result (List Conj) ℤ) → both (Ok conj) (joined more rest) ≡ joined (conj ∷ more) rest
both_joined conj more (Ok others) = refl
both_joined conj more (Err number) = refl

front_by : (first : Result Conj ℤ) (later whole rest : Result (List Conj) ℤ) (made : List Conj) → both first later ≡ Ok made → ((more : List Conj) → later ≡ Ok more → whole ≡ joined more rest) → both first whole ≡ joined made rest
front_by (Ok conj) (Ok more) whole rest made is further =
    let same : conj ∷ more ≡ made = cc in
    ap (both (Ok conj)) (further more refl) ∙ both_joined conj more rest ∙ ap (λ (of : List Conj). joined of rest) same
front_by (Ok conj) (Err number) whole rest made is further = cc
front_by (Err number) later whole rest made is further = cc

-- ---- steps 3 and 4

cons_behind : (first : Option Conj) (front last : List Conj) → cons_option first (front ++ last) ≡ cons_option first front ++ last
cons_behind None front last = refl
cons_behind (Some conj) front last = refl

settled_behind : (front : List Conj) (conj : Conj) → filter_map settled (front ++ conj ∷ []) ≡ filter_map settled front ++ cons_option (settled conj) []
settled_behind [] conj = refl
settled_behind (first ∷ front) conj = ap (cons_option (settled first)) (settled_behind front conj) ∙ cons_behind (settled first) (filter_map settled front) (cons_option (settled conj) [])

tidy_behind : (outer : ℕ) (conjs made : List Conj) (conj tidy : Conj) → AreTidy outer conjs made → IsTidy outer conj tidy → AreTidy outer (conjs ++ conj ∷ []) (made ++ tidy ∷ [])
tidy_behind outer [] [] conj tidy are is = (is, tt)
tidy_behind outer [] (first ∷ made) conj tidy are is = absurd are
tidy_behind outer (other ∷ conjs) [] conj tidy are is = absurd are
tidy_behind outer (other ∷ conjs) (first ∷ made) conj tidy are is = (are.0, tidy_behind outer conjs made conj tidy are.1 is)

distinct_behind : (tidy kept : List Conj) (conj : Conj) → distinct kept (tidy ++ conj ∷ []) ≡ with_new conj (distinct kept tidy)
distinct_behind [] kept conj = refl
distinct_behind (first ∷ tidy) kept conj = distinct_behind tidy (with_new first kept) conj

-- ---- one more

module _ (outer : ℕ) where
  solved_front : (front rest made : List Conj) → all_solved outer front ≡ Ok made → all_solved outer (front ++ rest) ≡ joined made (all_solved outer rest)
  solved_front [] rest made is = let none : [] ≡ made = cc in joined_nil (all_solved outer rest) ∙ ap (λ (of : List Conj). joined of (all_solved outer rest)) none
  solved_front (conj ∷ front) rest made is =
      front_by (solved outer conj) (all_solved outer front) (all_solved outer (front ++ rest)) (all_solved outer rest) made is (λ more. solved_front front rest more)

  module _ (conjs : List Conj) (index : ℕ) (conj : Conj) (inside : index < length conjs) (at : conj ≡ get_or conjs index conj) where
    next_is : take (index + 1) conjs ≡ take index conjs ++ conj ∷ []
    next_is = take_more conjs index conj inside ∙ ap (λ (last : Conj). take index conjs ++ last ∷ []) (sym at)

    whole_is : conjs ≡ take index conjs ++ conj ∷ drop (index + 1) conjs
    whole_is = sym (take-append-drop index conjs) ∙ ap (λ rest. take index conjs ++ rest) (drop_more conjs index conj inside ∙ ap (λ (first : Conj). first ∷ drop (index + 1) conjs) (sym at))

    pub solved_next : (made : List Conj) (done : Conj) → all_solved outer (take index conjs) ≡ Ok made → solved outer conj ≡ Ok done → all_solved outer (take (index + 1) conjs) ≡ Ok (made ++ done ∷ [])
    solved_next made done is now = ap (all_solved outer) next_is ∙ solved_front (take index conjs) (conj ∷ []) made is ∙ ap (λ first. joined made (both first (Ok []))) now

    pub solved_fails : (made : List Conj) (fault : TermFault) → all_solved outer (take index conjs) ≡ Ok made → IsOutcome (solved outer conj) (Err fault) → AreOutcomes (all_solved outer conjs) (Err fault)
    solved_fails made (Wide number) is now =
        ap (all_solved outer) whole_is ∙ solved_front (take index conjs) (conj ∷ drop (index + 1) conjs) made is ∙ ap (λ first. joined made (both first (all_solved outer (drop (index + 1) conjs)))) now
    solved_fails made Memory is now = tt

    settled_next : filter_map settled (take (index + 1) conjs) ≡ filter_map settled (take index conjs) ++ cons_option (settled conj) []
    settled_next = ap (filter_map settled) next_is ∙ settled_behind (take index conjs) conj

    pub none_next : (made : List Conj) → settled conj ≡ None → AreDistinct outer (take index conjs) made → AreDistinct outer (take (index + 1) conjs) made
    none_next made none h = record {
      tidy = h.tidy;
      tidied = subst (λ of. AreTidy outer of h.tidy) (sym (settled_next ∙ ap (λ first. filter_map settled (take index conjs) ++ cons_option first []) none ∙ append-nil (filter_map settled (take index conjs)))) h.tidied;
      is = h.is;
    }

    pub some_next : (made more : List Conj) (kept tidy : Conj) → settled conj ≡ Some kept → IsTidy outer kept tidy → more ≡ with_new tidy made → AreDistinct outer (take index conjs) made → AreDistinct outer (take (index + 1) conjs) more
    some_next made more kept tidy some done is h = record {
      tidy = h.tidy ++ tidy ∷ [];
      tidied = subst (λ of. AreTidy outer of (h.tidy ++ tidy ∷ [])) (sym (settled_next ∙ ap (λ first. filter_map settled (take index conjs) ++ cons_option first []) some)) (tidy_behind outer (filter_map settled (take index conjs)) h.tidy kept tidy h.tidied done);
      is = is ∙ ap (with_new tidy) h.is ∙ sym (distinct_behind h.tidy [] tidy);
    }

-- ---- equal terms

differ_by : (first later : Bool) → later ≡ false → (if first then later else false) ≡ false
differ_by true later is = is
differ_by false later is = refl

pub differ : (terms others : List Term) → length terms ≢ length others → same_terms terms others ≡ false
differ [] [] long = absurd (long refl)
differ [] (other ∷ others) long = refl
differ (term ∷ terms) [] long = refl
differ (term ∷ terms) (other ∷ others) long = differ_by (is_eq (term_cmp term other)) (same_terms terms others) (differ terms others (λ same. long (ap suc same)))
