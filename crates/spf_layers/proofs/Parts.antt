-- Lists that lie one behind the other in one list.
use Rattle.std.proofs.Common.{◌≡◌, ℕ, zero, suc, ◌+◌, ◌-◌, ◌<◌, ◌≤◌, List, [], ◌∷◌, ◌++◌, length, get_or, set, take, drop, refl, sym, ap, ◌∙◌, arith}
use Rattle.std.proofs.lemmas.List.{drop-append-le, length-append, length-drop, take-append-le, take_all, take_rest}
use Rattle.std.specs.List.{slice_range}
use Rattle.spf_touch.specs.Lists.{start_of}
use Rattle.spf_touch.specs.declared.class.Class.{Class}
use Rattle.spf_layers.specs.Flat.{AreEnds, grouped, joined_last, parts}
use Rattle.spf_layers.specs.Groups.{group_at}

pub ends_rise : (whole from : ℕ) (ends : List ℕ) → AreEnds whole from ends → from ≤ whole
ends_rise whole from [] h = let e : from ≡ whole = h in omega arith
ends_rise whole from (end ∷ ends) h = let low = h.0 in omega (arith, ends_rise whole end ends h.1)

-- where a part begins and ends
pub part_within : (whole from : ℕ) (ends : List ℕ) (n d : ℕ) → AreEnds whole from ends → n < length ends →
    (start_of from ends n ≤ get_or ends n d) × (get_or ends n d ≤ whole)
part_within whole from [] n d h lt = absurd (omega arith)
part_within whole from (end ∷ ends) zero d h lt = (h.0, ends_rise whole end ends h.1)
part_within whole from (end ∷ ends) (suc n) d h lt = part_within whole end ends n d h.1 (omega arith)

pub ends-push : (whole from : ℕ) (ends : List ℕ) (more : ℕ) → AreEnds whole from ends → whole ≤ more → AreEnds more from (ends ++ more ∷ [])
ends-push whole from [] more h le = let e : from ≡ whole = h in (omega arith, refl)
ends-push whole from (end ∷ ends) more h le = (h.0, ends-push whole end ends more h.1 le)

pub ends-last : (whole from : ℕ) (ends : List ℕ) (last more : ℕ) → AreEnds whole from ends → suc last ≡ length ends → whole ≤ more → AreEnds more from (set ends last more)
ends-last whole from [] last more h e le = absurd (omega arith)
ends-last whole from (end ∷ []) zero more h e le = let low = h.0 in let at : end ≡ whole = h.1 in (omega arith, refl)
ends-last whole from (end ∷ []) (suc last) more h e le = absurd (omega arith)
ends-last whole from (end ∷ next ∷ ends) zero more h e le = absurd (omega arith)
ends-last whole from (end ∷ next ∷ ends) (suc last) more h e le = (h.0, ends-last whole end (next ∷ ends) last more h.1 (omega arith) le)

module _ {X : Type 0} where
  pub length-parts : (xs : List X) (from : ℕ) (ends : List ℕ) → length (parts xs from ends) ≡ length ends
  length-parts xs from [] = refl
  length-parts xs from (end ∷ ends) = ap suc (length-parts xs end ends)

  pub part_at : (xs : List X) (from : ℕ) (ends : List ℕ) (n d : ℕ) (e : List X) → n < length ends →
      get_or (parts xs from ends) n e ≡ slice_range xs (start_of from ends n) (get_or ends n d)
  part_at xs from [] n d e lt = absurd (omega arith)
  part_at xs from (end ∷ ends) zero d e lt = refl
  part_at xs from (end ∷ ends) (suc n) d e lt = part_at xs end ends n d e (omega arith)

  -- what is put behind the whole doesn't change a part, and is the rest of a part that ends with it
  part_before : (xs ys : List X) (from end : ℕ) → from ≤ end → end ≤ length xs → slice_range (xs ++ ys) from end ≡ slice_range xs from end
  part_before xs ys from end low high =
      let cut : from ≤ length xs = omega arith in
      let short : end - from ≤ length (drop from xs) = omega (arith, length-drop from xs) in
      rw drop-append-le (take-append-le (end - from) (drop from xs) ys short)

  part_more : (xs ys : List X) (from more : ℕ) → from ≤ length xs → more ≡ length xs + length ys → slice_range (xs ++ ys) from more ≡ slice_range xs from (length xs) ++ ys
  part_more xs ys from more low e =
      let all : length (drop from xs ++ ys) ≤ more - from = omega (arith, length-append (drop from xs) ys, length-drop from xs) in
      rw (drop-append-le, take_rest) (take_all (more - from) (drop from xs ++ ys) all)

  -- one part more
  pub parts-push : (xs ys : List X) (from : ℕ) (ends : List ℕ) (more : ℕ) → AreEnds (length xs) from ends → more ≡ length xs + length ys →
      parts (xs ++ ys) from (ends ++ more ∷ []) ≡ parts xs from ends ++ ys ∷ []
  parts-push xs ys from [] more h e =
      let at : from ≡ length xs = h in
      let none : slice_range xs from (length xs) ≡ [] = let z : length xs - from ≡ 0 = omega arith in ap (λ n. take n (drop from xs)) z in
      ap (λ p. p ∷ []) (part_more xs ys from more (omega arith) e ∙ ap (λ p. p ++ ys) none)
  parts-push xs ys from (end ∷ ends) more h e =
      let high = ends_rise (length xs) end ends h.1 in
      let here = part_before xs ys from end h.0 high in
      let rest = parts-push xs ys end ends more h.1 e in
      λ i. here i ∷ rest i

pub length-grouped : (cs : List Class) (rows : List (List ℕ)) → length cs ≡ length rows → length (grouped cs rows) ≡ length cs
length-grouped [] rows e = refl
length-grouped (c ∷ cs) [] e = absurd (omega arith)
length-grouped (c ∷ cs) (r ∷ rows) e = ap suc (length-grouped cs rows (omega arith))

pub grouped_at : (cs : List Class) (rows : List (List ℕ)) (n : ℕ) (d : Class) → length cs ≡ length rows → n < length cs →
    group_at (grouped cs rows) n ≡ record { class = get_or cs n d; units = get_or rows n [] }
grouped_at [] rows n d e lt = absurd (omega arith)
grouped_at (c ∷ cs) [] n d e lt = absurd (omega arith)
grouped_at (c ∷ cs) (r ∷ rows) zero d e lt = refl
grouped_at (c ∷ cs) (r ∷ rows) (suc n) d e lt = grouped_at cs rows n d (omega arith) (omega arith)

pub grouped-push : (cs : List Class) (rows : List (List ℕ)) (c : Class) (units : List ℕ) → length cs ≡ length rows →
    grouped (cs ++ c ∷ []) (rows ++ units ∷ []) ≡ grouped cs rows ++ record { class = c; units = units } ∷ []
grouped-push [] [] c units e = refl
grouped-push [] (r ∷ rows) c units e = absurd (omega arith)
grouped-push (d ∷ cs) [] c units e = absurd (omega arith)
grouped-push (d ∷ cs) (r ∷ rows) c units e = ap (λ gs. record { class = d; units = r } ∷ gs) (grouped-push cs rows c units (omega arith))

-- one more unit in the last group
pub grouped-last : (xs : List ℕ) (u from : ℕ) (ends : List ℕ) (cs : List Class) (last : ℕ) → AreEnds (length xs) from ends → suc last ≡ length ends → length cs ≡ length ends →
    grouped cs (parts (xs ++ u ∷ []) from (set ends last (length xs + 1))) ≡ joined_last u (grouped cs (parts xs from ends))
grouped-last xs u from [] cs last h e same = absurd (omega arith)
grouped-last xs u from (end ∷ ends) [] last h e same = absurd (omega arith)
grouped-last xs u from (end ∷ []) (c ∷ d ∷ cs) last h e same = absurd (omega arith)
grouped-last xs u from (end ∷ next ∷ ends) (c ∷ []) last h e same = absurd (omega arith)
grouped-last xs u from (end ∷ []) (c ∷ []) (suc last) h e same = absurd (omega arith)
grouped-last xs u from (end ∷ next ∷ ends) (c ∷ d ∷ cs) zero h e same = absurd (omega arith)
grouped-last xs u from (end ∷ []) (c ∷ []) zero h e same =
    let at : end ≡ length xs = h.1 in
    let low = h.0 in
    let here = part_more xs (u ∷ []) from (length xs + 1) (omega arith) refl in
    ap (λ units. record { class = c; units = units } ∷ []) (here ∙ ap (λ n. slice_range xs from n ++ u ∷ []) (sym at))
grouped-last xs u from (end ∷ next ∷ ends) (c ∷ d ∷ cs) (suc last) h e same =
    let high = ends_rise (length xs) end (next ∷ ends) h.1 in
    let here = part_before xs (u ∷ []) from end h.0 high in
    let rest = grouped-last xs u end (next ∷ ends) (d ∷ cs) last h.1 (omega arith) (omega arith) in
    λ i. record { class = c; units = here i } ∷ rest i
