-- Units in the order of legal places stand in a legal order.
use Rattle.std.proofs.Common.{◌≡◌, ℕ, suc, ◌<◌, ℤ, true, List, [], ◌∷◌, inl, inr, sym, ap, ◌∙◌, subst, arith}
use Rattle.std.proofs.lemmas.Bool.{cases_order, false_from_ne_true}
use Rattle.std.specs.List.{AllPairs, range_with_len}
use Rattle.spf_space.proofs.InOrder.{before_once, stands}
use Rattle.spf_space.specs.InOrder.{AreInOrder, ComesBefore, units_in}
use Rattle.spf_space.specs.Places.{place_of}
use Rattle.spf_space.specs.declared.places.Places.{Places}
use Rattle.spf_space.specs.declared.shape.Shape.{Shape}
use Rattle.spf_touch.specs.Conflict.{Conflict}
use Rattle.spf_touch.specs.Frame.{Behavior, FrameLaw, after_units}
use Rattle.spf_touch.specs.Ordered.{IsLegalOrder, is_in}
use Rattle.spf_touch.specs.declared.touch.Touch.{Touch}
use Rattle.spf_touch.proofs.Classes.{conflict_turned}
use Rattle.spf_touch.proofs.Members.{in_head, in_tail, place_in}
use Rattle.spf_touch.proofs.Orders.{ascending_all, reordered}
use Rattle.spf_layers.specs.Legality.{IsLegal}

-- units of which each comes before all behind it, where of two that conflict the lesser comes before the other
module _ (units : Behavior) (Before : ℕ → ℕ → Type 0) (once : (u v : ℕ) → Before u v → Before v u → ⊥)
    (rises : (p q : ℕ) → p < q → q < units.count → Conflict (units.touches p) (units.touches q) → Before p q) where
  legal_order : (us : List ℕ) → ((u : ℕ) → is_in us u ≡ true → u < units.count) → AllPairs Before us → IsLegalOrder units us
  legal_order [] below order = tt
  legal_order (u ∷ us) below order = (
    below u (in_head u us),
    false_from_ne_true (is_in us u) (λ again. once u u (behind u again) (behind u again)),
    λ v there conflict. elim (cases_order u v) [
      | inl same ↦ let itself : Before u u = subst (Before u) (sym same) (behind v there) in absurd (once u u itself itself)
      | inr (inl lt) ↦ lt
      | inr (inr gt) ↦ absurd (once u v (behind v there) (rises v u gt (below u (in_head u us)) (conflict_turned (units.touches u) (units.touches v) conflict)))
    ],
    legal_order us (λ v k. below v (in_tail u us v k)) (λ i j d lt inside. order (suc i) (suc j) d (omega arith) (omega arith)),
  )
    where
      behind : (v : ℕ) → is_in us v ≡ true → Before u v
      behind v there = let at = place_in us v there in subst (Before u) (at.2 0) (order 0 (suc at.0) 0 (omega arith) (omega (arith, at.1)))

-- running the units in the order of their places is running them in textual order
pub in_turn : (shape : Shape) (places : Places) (us : List ℕ) → AreInOrder shape places us → (units : Behavior) → FrameLaw units → units.count ≡ units_in shape →
    (touches : ℕ → List Touch) → ((u : ℕ) → u < units_in shape → units.touches u ≡ touches u) →
    IsLegal touches (place_of shape.steps shape.loops places.tiles places.orders) (units_in shape) → (values : ℕ → ℤ) →
    after_units units us values ≡ after_units units (range_with_len 0 (units_in shape)) values
in_turn shape places us are units law same touches each legal values =
    let rises : (p q : ℕ) → p < q → q < units.count → Conflict (units.touches p) (units.touches q) → ComesBefore shape places p q = λ p q lt inside conflict.
    let q_in : q < units_in shape = omega arith in
    let p_in : p < units_in shape = omega arith in
    legal p q lt q_in (rw (each p p_in, each q q_in) at conflict) in
    let order = legal_order units (ComesBefore shape places) (before_once shape places) rises us (λ u there. omega (arith, (stands shape places us are u).0 there)) are.order in
    reordered units law us values order ∙ ap (λ l. after_units units l values) (ascending_all units.count us (λ u lt. (stands shape places us are u).1 (omega arith)) ∙ ap (range_with_len 0) same)
