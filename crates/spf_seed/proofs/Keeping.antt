-- What a step of the walk keeps.
use Rattle.std.proofs.Common.{◌≡◌, ◌≢◌, ℕ, ◌+◌, ◌<◌, ◌≤◌, Bool, true, false, not, ◌||◌, List, [], ◌∷◌, ◌++◌, length, get_or, take, drop, slice_set, inl, inr, refl, sym, ap, ◌∙◌, eqb, length-append, arith}
use Rattle.std.specs.Cmp.{nat_eq_equiv}
use Rattle.std.specs.List.{AllPairs, flat_map}
use Rattle.std.specs.List.Sorted.{IsPermutation, IsSorted}
use Rattle.std.specs.Ordering.{nat_cmp}
use Rattle.std.proofs.lemmas.Bool.{and_from, and_parts, cases_eq, cases_lt, not-true, not_from_false, or_left, or_right}
use Rattle.std.proofs.lemmas.Bool.Decides.{Decides-eqb}
use Rattle.std.proofs.lemmas.List.{drop_at, get_or-set_other, length-set, take-append-drop, take_at}
use Rattle.std.proofs.lemmas.List.Sorted.{IsNonDecreasingBy-from_sort, list_any-IsPermutation}
use Rattle.std.proofs.lemmas.Map.Keys.{IsDistinct-IsPermutation}
use Rattle.std.proofs.lemmas.Map.Made.{AllPairs-from_IsDistinct, IsDistinct-from_AllPairs}
use Rattle.spf_seed.specs.BreadthFirst.{IsFree}
use Rattle.spf_seed.specs.Entries.{AreInverted, has_entry, positions_in, row_of}
use Rattle.spf_touch.specs.Listed.{all_listed}
use Rattle.spf_touch.specs.Ordered.{is_in}
use Rattle.spf_seed.specs.Listings.{AreFlags, IsListing, IsLonger, IsUnderway}
use Rattle.spf_seed.specs.View.{AreNeighbours, positions, touched}
use Rattle.spf_seed.specs.declared.inverted.Entry.{Entry}
use Rattle.spf_seed.specs.declared.listing.Listing.{Listing}
use Rattle.spf_seed.specs.declared.view.SeedView.{SeedView}
use Rattle.spf_seed.proofs.Following.{grown_more, neighbours_follow, used_before}
use Rattle.spf_seed.proofs.Members.{all_fresh, all_there, fresh, fresh_apart, fresh_in}
use Rattle.spf_touch.proofs.Listed.{in_all}
use Rattle.spf_touch.proofs.Members.{in_append, in_at}
use Rattle.spf_seed.proofs.Rows.{has, has_from, in_row, in_rows, rows_have}

module _ (count : ℕ) (entries : List Entry) (old new : Listing) (kept : IsListing count entries old) (flags : AreFlags new) (still : length new.flags.items ≡ length old.flags.items) where
  -- more is listed
  pub listing_more : new.done.items ≡ old.done.items → ((y : ℕ) → is_in old.order.items y ≡ true → is_in new.order.items y ≡ true) → IsListing count entries new
  listing_more done more = record {
    long = still ∙ kept.long;
    flags = flags;
    long_done = ap length done ∙ kept.long_done;
    done = λ k j d lt is h. more j (kept.done k j d lt (rw done at is) h);
  }

  -- an element's positions are listed
  pub element_done : (e start : ℕ) → ((d : Entry) → (get_or entries start d).element ≡ e) → new.done.items ≡ slice_set old.done.items start true →
      new.order.items ≡ all_listed old.order.items (positions_in (row_of entries e)) → IsListing count entries new
  element_done e start begins done order = record {
    long = still ∙ kept.long;
    flags = flags;
    long_done = ap length done ∙ length-set old.done.items start true ∙ kept.long_done;
    done = λ k j d lt is h. ap (λ (l : List ℕ). is_in l j) order ∙ in_all old.order.items (positions_in (row_of entries e)) j ∙ elim (cases_eq k start) [
      | inl same ↦
          let here : has_entry entries e j ≡ true = rw (same, begins d) at h in
          or_right (is_in old.order.items j) (is_in (positions_in (row_of entries e)) j) (in_row entries e j ∙ here)
      | inr other ↦
          let before : get_or old.done.items k false ≡ true = rw (done, get_or-set_other old.done.items start k true false other) at is in
          or_left (is_in old.order.items j) (is_in (positions_in (row_of entries e)) j) (kept.done k j d lt before h)
    ];
  }

-- the same is listed in another order
pub listing_alike : (count : ℕ) (entries : List Entry) (old new : Listing) → IsListing count entries old → new.flags.items ≡ old.flags.items → new.done.items ≡ old.done.items →
    ((y : ℕ) → is_in new.order.items y ≡ is_in old.order.items y) → IsListing count entries new
listing_alike count entries old new kept flags done alike = record {
  long = ap length flags ∙ kept.long;
  flags = λ x lt. ap (λ (l : List Bool). get_or l x false) flags ∙ kept.flags x (rw flags at lt) ∙ sym (alike x);
  long_done = ap length done ∙ kept.long_done;
  done = λ k j d lt is h. alike j ∙ kept.done k j d lt (rw done at is) h;
}

-- an element that was gone through has nothing new
pub nothing_new : (count : ℕ) (entries : List Entry) (listing : Listing) (e start : ℕ) → IsListing count entries listing → start < length entries → ((d : Entry) → (get_or entries start d).element ≡ e) →
    get_or listing.done.items start false ≡ true → listing.order.items ≡ all_listed listing.order.items (positions_in (row_of entries e))
nothing_new count entries listing e start kept lt begins done = sym (all_there listing.order.items (positions_in (row_of entries e)) (λ y h.
    let none : Entry = record { element = 0; position = 0 } in
    kept.done start y none lt done (rw (begins none) (sym (in_row entries e y) ∙ h))))

-- the neighbours of the member at a place of the order are listed and sorted
module _ (view : SeedView) (entries : List Entry) (are : AreInverted (touched view) (positions view) entries) (base : List ℕ) (place : ℕ) (inside : place < length base)
    (underway : IsUnderway (AreNeighbours view) (positions view) base place) (after : List ℕ)
    (put : after ≡ all_listed base (flat_map (λ e. positions_in (row_of entries e)) (touched view (get_or base place 0)))) where
  pub found : List ℕ
  found = flat_map (λ e. positions_in (row_of entries e)) (touched view (get_or base place 0))

  pub after_is : after ≡ base ++ fresh base found
  unfolding found
  after_is = put ∙ all_fresh base found

  pub after_long : length base ≤ length after
  after_long = omega (arith, ap length after_is, length-append base (fresh base found))

  module _ (new : List ℕ) (front : take (length base) new ≡ take (length base) after) (moved : IsPermutation (drop (length base) after) (drop (length base) new))
      (sorted : IsSorted nat_cmp (drop (length base) new)) where
    pub tail : List ℕ
    tail = drop (length base) new

    tail_moved : IsPermutation (fresh base found) tail
    unfolding tail
    tail_moved = rw (drop_at base (fresh base found) (length base) refl) at (rw after_is at moved)

    new_is : new ≡ base ++ tail
    unfolding tail
    new_is = sym (take-append-drop (length base) new) ∙ ap (λ (l : List ℕ). l ++ drop (length base) new) (front ∙ ap (take (length base)) after_is ∙ take_at base (fresh base found) (length base) refl)

    tail_in : (y : ℕ) → is_in tail y ≡ is_in (fresh base found) y
    tail_in y = sym (list_any-IsPermutation (eqb y) (fresh base found) tail tail_moved)

    pub new_in : (y : ℕ) → is_in new y ≡ is_in after y
    new_in y = ap (λ (l : List ℕ). is_in l y) new_is ∙ in_append base tail y ∙ ap (λ b. is_in base y || b) (tail_in y) ∙ sym (in_append base (fresh base found) y) ∙ ap (λ (l : List ℕ). is_in l y) (sym after_is)

    pub new_longer : IsLonger base new
    new_longer = record {
      long = omega (arith, ap length new_is, length-append base tail);
      all = λ y h. ap (λ (l : List ℕ). is_in l y) new_is ∙ in_append base tail y ∙ or_left (is_in base y) (is_in tail y) h;
    }

    ascending : AllPairs (λ (x y : ℕ). x < y) tail
    unfolding tail
    ascending i j d lt in' =
        let rising = IsNonDecreasingBy-from_sort (λ x. x) tail sorted' i j d (omega arith) in' in
        let other = apart i j d lt in' in
        elim (cases_eq (get_or tail i d) (get_or tail j d)) [ inl same ↦ absurd (other same) | inr off ↦ omega arith ]
      where
        sorted' : IsSorted nat_cmp tail
        sorted' = sorted

        apart : AllPairs (λ x y. x ≢ y) tail
        apart = AllPairs-from_IsDistinct Decides-eqb tail (IsDistinct-IsPermutation eqb (λ x y. nat_eq_equiv.symm x y) (fresh base found) tail tail_moved (IsDistinct-from_AllPairs Decides-eqb (fresh base found) (fresh_apart base found)))

    free : (y : ℕ) → is_in tail y ≡ true → IsFree (positions view) base y × AreNeighbours view (get_or base place 0) y
    unfolding found
    free y h =
        let parts = and_parts (is_in found y) (not (is_in base y)) (sym (fresh_in base found y) ∙ sym (tail_in y) ∙ h) in
        let off : is_in base y ≡ false = not-true (is_in base y) parts.1 in
        let row = in_rows entries (touched view (get_or base place 0)) y parts.0 in
        let there = has (touched view) (positions view) entries are.each row.0 y row.2 in (
          record { below = there.0; new = off },
          record {
            apart = λ same. let on : is_in base y ≡ true = rw same at (in_at base place 0 inside) in cc;
            shared = (row.0, row.1, there.1);
          },
        )

    all : (y : ℕ) → IsFree (positions view) base y → AreNeighbours view (get_or base place 0) y → is_in tail y ≡ true
    unfolding found
    all y is near =
        let e = near.shared in
        tail_in y ∙ fresh_in base found y ∙ and_from (is_in found y) (not (is_in base y))
        (rows_have entries (touched view (get_or base place 0)) e.0 y e.1 (has_from (touched view) (positions view) entries are.each e.0 y is.below e.2)) (not_from_false (is_in base y) is.new)

    pub new_underway : IsUnderway (AreNeighbours view) (positions view) new (place + 1)
    new_underway = rw new_is (neighbours_follow (AreNeighbours view) (positions view) tail base place inside underway.each underway.used ascending free all)

-- a walk begins anew at the least position that isn't listed
pub begun : (near : ℕ → ℕ → Type 0) (count : ℕ) (order : List ℕ) (x : ℕ) → IsUnderway near count order (length order) → x < count → is_in order x ≡ false →
    ((y : ℕ) → y < x → is_in order y ≡ true) → IsUnderway near count (order ++ x ∷ []) (length order)
begun near count order x underway below new before = record {
  each = grown_more near count order x underway.each (inr (
    underway.used,
    record {
      holds = record { below = below; new = new };
      least = λ y is. elim (cases_lt y x) [ inl less ↦ let on = before y less in let off = is.new in cc | inr le ↦ le ];
    },
  ));
  used = used_before near count order (x ∷ []) (length order) (omega arith) underway.used;
}
