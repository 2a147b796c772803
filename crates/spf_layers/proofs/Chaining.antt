-- Chains with one more node, and with the nodes of one more unit.
use Rattle.std.proofs.Common.{◌≡◌, ℕ, zero, suc, ◌+◌, ◌-◌, ◌<◌, ◌≤◌, ◌^◌, Bool, true, false, Option, Some, None, List, [], ◌∷◌, ◌++◌, length, get_or, set, take, slice_get, inl, inr, refl, sym, ap, ◌∙◌, subst, add-one, arith, cond, eqb}
use Rattle.std.proofs.lemmas.Bool.{cases_Bool, cases_lt, eq-eqb, eqb-false, eqb-true, ne_eqb}
use Rattle.std.proofs.lemmas.List.{get_or-set_other, get_or-set_same, get_or_append_left, get_or_push, length-set, length_push, take_all, take_more}
use Rattle.std.proofs.lemmas.Option.{slice_get_within}
use Rattle.std.specs.List.{range_with_len}
use Rattle.spf_touch.specs.Frame.{IsOnce, IsTouched, class_at}
use Rattle.spf_touch.specs.declared.class.Class.{Class}
use Rattle.spf_touch.specs.declared.touch.Touch.{Touch}
use Rattle.spf_layers.specs.Chains.{AreChained, AreChains, Entry, entries, entry_in_front}
use Rattle.spf_layers.specs.declared.chains.Node.{Node}

got_more : (nodes : List Node) (node x : Node) (k : ℕ) → slice_get nodes k ≡ Some x → slice_get (nodes ++ node ∷ []) k ≡ Some x
got_more [] node x k h = cc
got_more (n ∷ nodes) node x zero h = h
got_more (n ∷ nodes) node x (suc k) h = got_more nodes node x k h

got_last : (nodes : List Node) (node : Node) → slice_get (nodes ++ node ∷ []) (length nodes) ≡ Some node
got_last [] node = refl
got_last (n ∷ nodes) node = got_last nodes node

chained_more : (nodes : List Node) (node : Node) (number : ℕ) (xs : List Entry) → AreChained nodes number xs → AreChained (nodes ++ node ∷ []) number xs
chained_more nodes node number [] h = h
chained_more nodes node number (x ∷ xs) h = (h.0, h.1, got_more nodes node _ (number - 1) h.2, chained_more nodes node h.0 xs h.3)

pub chained_within : (nodes : List Node) (number : ℕ) (xs : List Entry) → AreChained nodes number xs → number ≤ length nodes
chained_within nodes number [] h = let e : number ≡ 0 = h in omega arith
chained_within nodes number (x ∷ xs) h = let low = h.1 in let lt = slice_get_within nodes (number - 1) _ h.2 in omega arith

-- a node before the chain of one element
abbrev pub put_before : ℕ → ℕ → Class → (ℕ → List Entry) → ℕ → List Entry
put_before unit element class of e = cond (eqb element e) (record { unit = unit; class = class } ∷ of e) (of e)

module _ (nodes : List Node) (heads : List ℕ) (of : ℕ → List Entry) (chains : AreChains nodes heads of) (unit element : ℕ) (class : Class) (inside : element < length heads) where
  abbrev node : Node
  node = record { unit = unit; class = class; next = get_or heads element 0 }

  pub chain_more : length (nodes ++ node ∷ []) < 2 ^ 32 → AreChains (nodes ++ node ∷ []) (set heads element (length nodes + 1)) (put_before unit element class of)
  chain_more few = record {
    few = few;
    back = λ k d lt. elim (cases_lt k (length nodes)) [
      | inl old ↦ rw get_or_append_left (chains.back k d old)
      | inr new ↦
          let last : length nodes ≡ k = omega (arith, length_push nodes node) in
          rw (get_or_push nodes node d k last) (omega (arith, chained_within nodes (get_or heads element 0) (of element) (chains.each element inside)))
    ];
    each = λ e lt. elim (cases_Bool (eqb element e)) [
      | inl same ↦
          let at = eqb-true element e same in
          let minus : length nodes + 1 - 1 ≡ length nodes = omega arith in
          rw (same, ← at, get_or-set_same heads element (length nodes + 1) 0 inside)
          (get_or heads element 0, omega arith, rw minus (got_last nodes node), chained_more nodes node (get_or heads element 0) (of element) (chains.each element inside))
      | inr other ↦
          let away : e ≡ element → ⊥ = λ at. eqb-false element e other (sym at) in
          rw (other, get_or-set_other heads element e (length nodes + 1) 0 away)
          (chained_more nodes node (get_or heads e 0) (of e) (chains.each e (rw length-set at lt)))
    ];
  }

-- the class that one more touch gives an element
class_push : (ts : List Touch) (t : Touch) (e : ℕ) → class_at ts t.element ≡ None → (o : Option Class) → class_at ts e ≡ o →
    class_at (ts ++ t ∷ []) e ≡ cond (eqb t.element e) (Some t.class) o
class_push [] t e new o h = rw (← h) refl
class_push (s ∷ ts) t e new o h = elim (cases_Bool (eqb s.element t.element)) [
  | inl same ↦ let no : Some s.class ≡ None = rw same at new in cc
  | inr other ↦ elim (cases_Bool (eqb s.element e)) [
    | inl here ↦
        let at = eqb-true s.element e here in
        let away : eqb t.element e ≡ false = ne_eqb t.element e (λ k. eqb-false s.element t.element other (at ∙ sym k)) in
        rw (here, away) (rw here at h)
    | inr past ↦ rw past (class_push ts t e (rw other at new) o (rw past at h))
  ]
]

-- a touch's element isn't touched before, where no element is named twice
new_touch : (ts : List Touch) (k : ℕ) (d : Touch) → IsOnce ts → k < length ts → class_at (take k ts) (get_or ts k d).element ≡ None
new_touch [] k d once lt = absurd (omega arith)
new_touch (t ∷ ts) zero d once lt = refl
new_touch (t ∷ ts) (suc k) d once lt = elim (cases_Bool (eqb t.element (get_or ts k d).element)) [
  | inl same ↦ let no = untouched ts k d t.element once.0 (omega arith) in absurd (no (sym (eqb-true t.element (get_or ts k d).element same)))
  | inr other ↦ rw other (new_touch ts k d once.1 (omega arith))
]
  where
    untouched : (ts : List Touch) (k : ℕ) (d : Touch) (e : ℕ) → class_at ts e ≡ None → k < length ts → (get_or ts k d).element ≡ e → ⊥
    untouched [] k d e none lt = absurd (omega arith)
    untouched (t ∷ ts) zero d e none lt = λ at. let no : Some t.class ≡ None = rw (eq-eqb t.element e at) at none in cc
    untouched (t ∷ ts) (suc k) d e none lt = λ at. elim (cases_Bool (eqb t.element e)) [
      | inl same ↦ let no : Some t.class ≡ None = rw same at none in cc
      | inr other ↦ untouched ts k d e (rw other at none) (omega arith) at
    ]

entry_step : (unit : ℕ) (b : Bool) (c : Class) (o : Option Class) (later : List Entry) → (b ≡ true → o ≡ None) →
    cond b (record { unit = unit; class = c } ∷ entry_in_front unit o later) (entry_in_front unit o later) ≡ entry_in_front unit (cond b (Some c) o) later
entry_step unit true c o later h = rw (h refl) refl
entry_step unit false c o later h = refl

-- one touch more of a unit
pub touch_more : (ts : List Touch) (k : ℕ) (d : Touch) (unit : ℕ) (later : ℕ → List Entry) → IsOnce ts → k < length ts → (e : ℕ) →
    put_before unit (get_or ts k d).element (get_or ts k d).class (λ e. entry_in_front unit (class_at (take k ts) e) (later e)) e ≡ entry_in_front unit (class_at (take (k + 1) ts) e) (later e)
touch_more ts k d unit later once lt e =
    let t = get_or ts k d in
    let new = new_touch ts k d once lt in
    entry_step unit (eqb t.element e) t.class (class_at (take k ts) e) (later e) (λ same. rw (← eqb-true t.element e same) new) ∙
    ap (λ o. entry_in_front unit o (later e)) (sym (class_push (take k ts) t e new (class_at (take k ts) e) refl) ∙ ap (λ l. class_at l e) (sym (take_more ts k d lt)))

-- the touch at a place touches its element
pub touch_there : (ts : List Touch) (k : ℕ) (d : Touch) → k < length ts → IsTouched ts (get_or ts k d).element
touch_there [] k d lt = absurd (omega arith)
touch_there (t ∷ ts) zero d lt = rw (eq-eqb t.element t.element refl) refl
touch_there (t ∷ ts) (suc k) d lt = elim (cases_Bool (eqb t.element (get_or ts k d).element)) [
  | inl same ↦ rw same refl
  | inr other ↦ rw other (touch_there ts k d (omega arith))
]

chains_alike : (nodes : List Node) (heads : List ℕ) (f g : ℕ → List Entry) → ((e : ℕ) → f e ≡ g e) → AreChains nodes heads f → AreChains nodes heads g
chains_alike nodes heads f g same chains = record { few = chains.few; back = chains.back; each = λ e lt. subst (AreChained nodes (get_or heads e 0)) (same e) (chains.each e lt) }

-- the chains with a node for one touch more of a unit
pub unit_more : (nodes : List Node) (heads : List ℕ) (ts : List Touch) (k : ℕ) (d : Touch) (unit : ℕ) (later : ℕ → List Entry) → IsOnce ts → k < length ts → (get_or ts k d).element < length heads →
    AreChains nodes heads (λ e. entry_in_front unit (class_at (take k ts) e) (later e)) →
    length (nodes ++ record { unit = unit; class = (get_or ts k d).class; next = get_or heads (get_or ts k d).element 0 } ∷ []) < 2 ^ 32 →
    AreChains (nodes ++ record { unit = unit; class = (get_or ts k d).class; next = get_or heads (get_or ts k d).element 0 } ∷ []) (set heads (get_or ts k d).element (length nodes + 1))
    (λ e. entry_in_front unit (class_at (take (k + 1) ts) e) (later e))
unit_more nodes heads ts k d unit later once lt inside chains few =
    chains_alike _ _ _ _ (touch_more ts k d unit later once lt)
    (chain_more nodes heads (λ e. entry_in_front unit (class_at (take k ts) e) (later e)) chains unit (get_or ts k d).element (get_or ts k d).class inside few)

-- all touches of a unit
pub unit_done : (nodes : List Node) (heads : List ℕ) (ts : List Touch) (k unit : ℕ) (later : ℕ → List Entry) → length ts ≤ k →
    AreChains nodes heads (λ e. entry_in_front unit (class_at (take k ts) e) (later e)) → AreChains nodes heads (λ e. entry_in_front unit (class_at ts e) (later e))
unit_done nodes heads ts k unit later past = chains_alike nodes heads _ _ (λ e. ap (λ l. entry_in_front unit (class_at l e) (later e)) (take_all k ts past))

-- all units after this one and this one itself
pub units_more : (nodes : List Node) (heads : List ℕ) (touches : ℕ → List Touch) (count done : ℕ) → done < count →
    AreChains nodes heads (λ e. entry_in_front (count - 1 - done) (class_at (touches (count - 1 - done)) e) (entries touches e (range_with_len (count - done) done))) →
    AreChains nodes heads (λ e. entries touches e (range_with_len (count - (done + 1)) (done + 1)))
units_more nodes heads touches count done lt =
    let first : count - suc done ≡ count - 1 - done = omega arith in
    let second : count - 1 - done + 1 ≡ count - done = omega arith in
    chains_alike nodes heads _ _ (λ e. rw (add-one, first, second) refl)
