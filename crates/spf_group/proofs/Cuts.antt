-- Lists that lie one behind the other.
use Rattle.std.proofs.Common.{◌≡◌, ℕ, zero, suc, ◌+◌, ◌-◌, ◌<◌, ◌≤◌, List, [], ◌∷◌, ◌++◌, length, map, take, drop, slice_index_or, refl, sym, ap, ◌∙◌, inl, inr, arith, length-append, length-drop}
use Rattle.std.specs.List.{range_with_len, slice_range}
use Rattle.std.proofs.lemmas.Bool.{cases_eq}
use Rattle.std.proofs.lemmas.List.{drop-append-le, drop_at, get_or_append_left, get_or_past, get_or_push, take-append-le}
use Rattle.std.proofs.lemmas.List.FromFn.{length-map-range_with_len, get_or-map-range_with_len}
use Rattle.std.proofs.Math.Seq.{take-length}
use Rattle.spf_perm.specs.Perm.{at}
use Rattle.spf_group.specs.Parts.{AreStarts, cut}

part : List ℕ → List ℕ → ℕ → List ℕ
part parts starts n = slice_range parts (at starts n) (at starts (n + 1))

pub cut_at : (parts starts : List ℕ) (n : ℕ) → n + 1 < length starts → slice_range parts (at starts n) (at starts (n + 1)) ≡ slice_index_or (cut parts starts) n []
unfolding part
cut_at parts starts n lt = sym (get_or-map-range_with_len (part parts starts) 0 (length starts - 1) n n [] (omega arith) (omega arith))

pub cut_past : (parts starts : List ℕ) (n : ℕ) → length starts ≤ n + 1 → [] ≡ slice_index_or (cut parts starts) n []
unfolding part
cut_past parts starts n le = sym (get_or_past (cut parts starts) n [] (omega (arith, length-map-range_with_len (part parts starts) 0 (length starts - 1))))

-- as many lists as this lie behind each other, each the one that is wanted
pub record AreMade (wanted : ℕ → List ℕ) (count : ℕ) (parts starts : List ℕ) : Type 0 where
  pub long : length starts ≡ count + 1
  pub last : at starts count ≡ length parts
  pub starts_order : (n : ℕ) → n < count → at starts n ≤ at starts (n + 1)
  pub starts_inside : (n : ℕ) → n < count + 1 → at starts n ≤ length parts
  pub lists : (n : ℕ) → n < count → slice_range parts (at starts n) (at starts (n + 1)) ≡ wanted n

-- a part that ends within the first of two lists, and the whole second list
part_front : (xs ys : List ℕ) (from to : ℕ) → from ≤ to → to ≤ length xs → slice_range (xs ++ ys) from to ≡ slice_range xs from to
part_front xs ys from to order inside =
    ap (take (to - from)) (drop-append-le from xs ys (omega arith)) ∙ take-append-le (to - from) (drop from xs) ys (omega (arith, length-drop from xs))

part_end : (xs ys : List ℕ) (from to : ℕ) → from ≡ length xs → to ≡ length xs + length ys → slice_range (xs ++ ys) from to ≡ ys
part_end xs ys from to begins ends =
    let size : to - from ≡ length ys = omega arith in
    ap (take (to - from)) (drop_at xs ys from (sym begins)) ∙ rw size (take-length ys)

pub made_more : (wanted : ℕ → List ℕ) (count : ℕ) (parts starts more : List ℕ) → more ≡ parts ++ wanted count → AreMade wanted count parts starts
    → AreMade wanted (count + 1) more (starts ++ length more ∷ [])
made_more wanted count parts starts more is made = record {
  long = omega (arith, made.long, length-append starts (length more ∷ []));
  last = end;
  starts_order = λ n lt. elim (cases_eq n count) [
    | inl same ↦ rw same (omega (arith, front count (omega arith), made.last, end, longer))
    | inr other ↦ omega (arith, front n (omega arith), front (n + 1) (omega arith), made.starts_order n (omega arith))
  ];
  starts_inside = λ n lt. elim (cases_eq n (count + 1)) [
    | inl same ↦ rw same (omega (arith, end))
    | inr other ↦ omega (arith, front n (omega arith), made.starts_inside n (omega arith), longer)
  ];
  lists = λ n lt. elim (cases_eq n count) as (λ _. slice_range more (at (starts ++ length more ∷ []) n) (at (starts ++ length more ∷ []) (n + 1)) ≡ wanted n) [
    | inl same ↦
        let here = part_end parts (wanted count) (at (starts ++ length more ∷ []) count) (at (starts ++ length more ∷ []) (count + 1)) (front count (omega arith) ∙ made.last) (end ∙ longer) in
        rw same (ap (λ (l : List ℕ). slice_range l (at (starts ++ length more ∷ []) count) (at (starts ++ length more ∷ []) (count + 1))) is ∙ here)
    | inr other ↦
        let there = part_front parts (wanted count) (at starts n) (at starts (n + 1)) (made.starts_order n (omega arith)) (made.starts_inside (n + 1) (omega arith)) in
        rw (front n (omega arith), front (n + 1) (omega arith)) (ap (λ (l : List ℕ). slice_range l (at starts n) (at starts (n + 1))) is ∙ there ∙ made.lists n (omega arith))
  ];
}
  where
    front : (n : ℕ) → n < count + 1 → at (starts ++ length more ∷ []) n ≡ at starts n
    front n lt = get_or_append_left starts (length more ∷ []) 0 n (omega (arith, made.long))

    end : at (starts ++ length more ∷ []) (count + 1) ≡ length more
    end = get_or_push starts (length more) 0 (count + 1) made.long

    longer : length more ≡ length parts + length (wanted count)
    longer = ap length is ∙ length-append parts (wanted count)

pub made_starts : (wanted : ℕ → List ℕ) (count : ℕ) (parts starts : List ℕ) → AreMade wanted count parts starts → AreStarts parts starts
made_starts wanted count parts starts made = record {
  order = λ n lt. made.starts_order n (omega (arith, made.long));
  inside = λ n lt. made.starts_inside n (omega (arith, made.long));
}

same_map : (f g : ℕ → List ℕ) (from count : ℕ) → ((n : ℕ) → from ≤ n → n < from + count → f n ≡ g n) → map f (range_with_len from count) ≡ map g (range_with_len from count)
same_map f g from zero same = refl
same_map f g from (suc count) same = ap (λ (l : List ℕ). l ∷ map f (range_with_len (from + 1) count)) (same from (omega arith) (omega arith)) ∙ ap (λ (rest : List (List ℕ)). g from ∷ rest) (same_map f g (from + 1) count (λ n low high. same n (omega arith) (omega arith)))

pub made_cut : (wanted : ℕ → List ℕ) (count : ℕ) (parts starts : List ℕ) → AreMade wanted count parts starts → cut parts starts ≡ map wanted (range_with_len 0 count)
unfolding part
made_cut wanted count parts starts made =
    let n : length starts - 1 ≡ count = omega (arith, made.long) in
    rw n (same_map (part parts starts) wanted 0 count (λ n from lt. made.lists n (omega arith)))

pub cut_read : (lists : List (List ℕ)) (wanted : ℕ → List ℕ) (count n : ℕ) → lists ≡ map wanted (range_with_len 0 count) → n < count → slice_index_or lists n [] ≡ wanted n
cut_read lists wanted count n is lt = rw is (get_or-map-range_with_len wanted 0 count n n [] lt (omega arith))
