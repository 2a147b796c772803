-- Lists that lie one behind the other among all touches.
use Rattle.std.proofs.Common.{◌≡◌, ℕ, zero, suc, ◌+◌, ◌-◌, ◌<◌, ◌≤◌, List, [], ◌∷◌, ◌++◌, Some, length, get_or, take, drop, refl, sym, ap, ◌∙◌, subst, add-one, arith}
use Rattle.std.proofs.lemmas.List.{drop-take, length-drop, length-take-le, take-take, take_rest}
use Rattle.std.proofs.lemmas.List.Sums.{sum_by-cons}
use Rattle.std.specs.List.{slice_get, slice_range, sum_by}
use Rattle.spf_touch.specs.Frame.{IsOnce}
use Rattle.spf_touch.specs.Lists.{AreLists, cut, start_of}
use Rattle.spf_touch.specs.declared.touch.Touch.{Touch}

-- a list begins where the one before it ends
start_behind : (from : ℕ) (ends : List ℕ) (list d : ℕ) → list < length ends → start_of from ends (suc list) ≡ get_or ends list d
start_behind from [] list d inside = absurd (omega arith)
start_behind from (end ∷ ends) zero d inside = refl
start_behind from (end ∷ ends) (suc list) d inside = start_behind end ends list d (omega arith)

pub start_more : (from : ℕ) (ends : List ℕ) (list d : ℕ) → list < length ends → start_of from ends (list + 1) ≡ get_or ends list d
start_more from ends list d inside = rw add-one (start_behind from ends list d inside)

-- the list of a number
pub cut_at : (touches : List Touch) (from : ℕ) (ends : List ℕ) (list d : ℕ) → list < length ends →
    slice_get (cut touches from ends) list ≡ Some (slice_range touches (start_of from ends list) (get_or ends list d))
cut_at touches from [] list d inside = absurd (omega arith)
cut_at touches from (end ∷ ends) zero d inside = refl
cut_at touches from (end ∷ ends) (suc list) d inside = cut_at touches end ends list d (omega arith)

pub length-cut : (touches : List Touch) (from : ℕ) (ends : List ℕ) → length (cut touches from ends) ≡ length ends
length-cut touches from [] = refl
length-cut touches from (end ∷ ends) = ap suc (length-cut touches end ends)

-- no list begins in front of the first, and none ends behind the touches
pub begins : (touches : List Touch) (from : ℕ) (ends : List ℕ) (list : ℕ) → AreLists touches from ends → list ≤ length ends →
    (from ≤ start_of from ends list) × (start_of from ends list ≤ start_of from ends (length ends)) × (start_of from ends (length ends) ≤ length touches)
begins touches from [] zero lists inside = (omega arith, omega arith, lists)
begins touches from [] (suc list) lists inside = absurd (omega arith)
begins touches from (end ∷ ends) zero lists inside =
    let more = begins touches end ends 0 lists.2 (omega arith) in
    let low = lists.0 in
    (omega arith, omega (arith, more.0, more.1), more.2)
begins touches from (end ∷ ends) (suc list) lists inside =
    let more = begins touches end ends list lists.2 (omega arith) in
    let low = lists.0 in
    (omega (arith, more.0), more.1, more.2)

pub is_once : (touches : List Touch) (from : ℕ) (ends : List ℕ) (list d : ℕ) → AreLists touches from ends → list < length ends →
    (start_of from ends list ≤ get_or ends list d) × (get_or ends list d ≤ length touches) × IsOnce (slice_range touches (start_of from ends list) (get_or ends list d))
is_once touches from [] list d lists inside = absurd (omega arith)
is_once touches from (end ∷ ends) zero d lists inside =
    let more = begins touches end ends 0 lists.2 (omega arith) in
    (lists.0, omega (arith, more.0, more.1, more.2), lists.1)
is_once touches from (end ∷ ends) (suc list) d lists inside = is_once touches end ends list d lists.2 (omega arith)

pub length-range : (touches : List Touch) (from end : ℕ) → from ≤ end → end ≤ length touches → length (slice_range touches from end) ≤ length touches
length-range touches from end low high = omega (arith, length-take-le (end - from) (drop from touches) (omega (arith, length-drop from touches)))

-- the touches of all lists together end where the last list does
pub together_end : (touches : List Touch) (from : ℕ) (ends : List ℕ) → AreLists touches from ends →
    from + sum_by length (cut touches from ends) ≡ start_of from ends (length ends)
together_end touches from [] lists = omega arith
together_end touches from (end ∷ ends) lists =
    let more = together_end touches end ends lists.2 in
    let last = begins touches end ends 0 lists.2 (omega arith) in
    let low = lists.0 in
    let all : end ≤ length touches = omega (arith, last.0, last.1, last.2) in
    let here : length (slice_range touches from end) ≡ end - from = length-take-le (end - from) (drop from touches) (omega (arith, length-drop from touches)) in
    omega (arith, more, here, sum_by-cons length (slice_range touches from end) (cut touches end ends))

-- one list more, which ends with the touches
pub cut-push : (touches : List Touch) (from : ℕ) (ends : List ℕ) →
    cut touches from (ends ++ length touches ∷ []) ≡ cut touches from ends ++ drop (start_of from ends (length ends)) touches ∷ []
cut-push touches from [] = ap (λ list. list ∷ []) (take_rest touches from)
cut-push touches from (end ∷ ends) = ap (λ lists. slice_range touches from end ∷ lists) (cut-push touches end ends)

pub lists-push : (touches : List Touch) (from : ℕ) (ends : List ℕ) → AreLists touches from ends → IsOnce (drop (start_of from ends (length ends)) touches) →
    AreLists touches from (ends ++ length touches ∷ [])
lists-push touches from [] lists once = (lists, subst IsOnce (sym (take_rest touches from)) once, omega arith)
lists-push touches from (end ∷ ends) lists once = (lists.0, lists.1, lists-push touches end ends lists.2 once)

pub start-push : (from : ℕ) (ends : List ℕ) (end : ℕ) → start_of from (ends ++ end ∷ []) (length (ends ++ end ∷ [])) ≡ end
start-push from [] end = refl
start-push from (first ∷ ends) end = start-push first ends end

-- what stands in front of an end isn't changed by what becomes of the touches behind it
module _ (xs ys : List Touch) (n : ℕ) (same : take n ys ≡ take n xs) where
  same_range : (from end : ℕ) → from ≤ end → end ≤ n → slice_range ys from end ≡ slice_range xs from end
  same_range from end low high =
      let whole : from + (end - from) ≡ end = omega arith in
      let front : take end ys ≡ take end xs = sym (take-take end n ys high) ∙ ap (take end) same ∙ take-take end n xs high in
      sym (drop-take from (end - from) ys) ∙ ap (drop from) (ap (λ m. take m ys) whole ∙ front ∙ sym (ap (λ m. take m xs) whole)) ∙ drop-take from (end - from) xs

  pub same_cut : (from : ℕ) (ends : List ℕ) → AreLists xs from ends → start_of from ends (length ends) ≤ n → cut ys from ends ≡ cut xs from ends
  same_cut from [] lists high = refl
  same_cut from (end ∷ ends) lists high =
      let last = begins xs end ends 0 lists.2 (omega arith) in
      let low = lists.0 in
      let here = same_range from end low (omega (arith, last.0, last.1)) in
      let more = same_cut end ends lists.2 high in
      λ i. here i ∷ more i

  pub same_lists : (from : ℕ) (ends : List ℕ) → AreLists xs from ends → start_of from ends (length ends) ≤ n → n ≤ length ys → AreLists ys from ends
  same_lists from [] lists high inside = omega arith
  same_lists from (end ∷ ends) lists high inside =
      let last = begins xs end ends 0 lists.2 (omega arith) in
      let low = lists.0 in
      (low, subst IsOnce (sym (same_range from end low (omega (arith, last.0, last.1)))) lists.1, same_lists end ends lists.2 high inside)
