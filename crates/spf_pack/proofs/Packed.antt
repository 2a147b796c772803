-- The places that are listed make a packing.
use Rattle.std.proofs.Common.{◌≡◌, ℕ, ◌<◌, true, List, [], ◌++◌, length, All, sym, ap, subst, ◌∙◌, eqb}
use Rattle.std.proofs.lemmas.Bool.{or_right}
use Rattle.std.specs.List.{IsDistinct}
use Rattle.spf_touch.proofs.Listed.{all_append, in_all}
use Rattle.spf_perm.proofs.Bijections.{reached}
use Rattle.spf_perm.specs.Perm.{AreInverse, IsPerm}
use Rattle.spf_touch.specs.Listed.{all_listed}
use Rattle.spf_pack.specs.FirstTouch.{first_touch_order, once}
use Rattle.spf_touch.specs.Ordered.{is_in}
use Rattle.spf_pack.proofs.Listed.{all_distinct, distinct_long, distinct_perm, nothing_distinct}
use Rattle.spf_touch.proofs.Members.{in_at, place_in}
use Rattle.spf_pack.proofs.Turned.{inverse_in_turn}

module _ (touched now back order : List ℕ) (is : IsPerm back) (inverse : AreInverse now back) (listed : order ≡ all_listed (all_listed [] touched) back) where
  pub order_is : order ≡ first_touch_order touched now
  order_is = listed ∙ sym (all_append [] touched back) ∙ ap (λ (l : List ℕ). once (touched ++ l)) (inverse_in_turn now back is inverse)

  back_has : (y : ℕ) → y < length back → is_in back y ≡ true
  back_has y lt = let r = reached back is y lt in subst (λ x. is_in back x ≡ true) r.2 (in_at back r.0 0 r.1)

  distinct : IsDistinct eqb order
  distinct = subst (IsDistinct eqb) (sym listed) (all_distinct (all_listed [] touched) back (all_distinct [] touched nothing_distinct))

  inside : All (λ x. x < length back) order → (y : ℕ) → is_in order y ≡ true → y < length back
  inside below y h = let at = place_in order y h in subst (λ x. x < length back) (at.2 0) (below at.0 0 at.1)

  has : (y : ℕ) → y < length back → is_in order y ≡ true
  has y lt = rw listed (in_all (all_listed [] touched) back y ∙ or_right (is_in (all_listed [] touched) y) (is_in back y) (back_has y lt))

  pub order_perm : All (λ x. x < length back) order → IsPerm order
  order_perm below = distinct_perm order (length back) is.few distinct (inside below) has

  pub order_long : All (λ x. x < length back) order → length order ≡ length now
  order_long below = distinct_long order (length back) distinct (inside below) has ∙ inverse.lengths
