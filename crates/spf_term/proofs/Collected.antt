-- Monomials that are added in the order of their atoms.
use Rattle.std.proofs.Common.{◌≡◌, ℕ, ◌+◌, ◌<◌, ◌≤◌, ◌^◌, ℤ, pos, negsuc, ◌+ℤ◌, List, [], ◌∷◌, ◌++◌, Bool, true, false, if◌then◌else◌, map, refl, ap, sym, ◌∙◌, append_assoc, subst, arith, unsigned_abs, FitsSigned}
use Rattle.std.proofs.lemmas.Cmp.{tied_itself}
use Rattle.std.proofs.lemmas.Int.{fits_signed_from_abs, ints}
use Rattle.std.proofs.lemmas.List.{map-append}
use Rattle.std.proofs.lemmas.List.Recursion.{is_sum_by}
use Rattle.std.proofs.lemmas.List.Sorted.{sum_by-IsPermutation}
use Rattle.std.specs.Int.{w128}
use Rattle.std.specs.List.Sorted.{IsPermutation}
use Rattle.std.specs.Ordering.{int_eq, is_lt, ordering_reverse}
use Rattle.std.specs.declared.cmp.Ordering.{Ordering}
use Rattle.std.specs.declared.cmp.Ordering.TheVariants.{Less, Equal, Greater}
use Rattle.spf_term.specs.Normal.{AllAtoms, ListIsNormal, added, by_order, kept}
use Rattle.spf_term.specs.Order.{atom_cmp}
use Rattle.spf_term.specs.Wide.{load, load_of, plain_atom, plain_mono}
use Rattle.spf_term.specs.declared.wide.WideMono.{WideMono}
use Rattle.spf_term.specs.declared.term.Atom.{Atom}
use Rattle.spf_term.specs.declared.term.Mono.{Mono}
use Rattle.spf_term.proofs.Exact.{exact_atom}
use Rattle.spf_term.proofs.OrderLaws.{atom_chain, atom_turned, atoms_total}

-- ---- distances from 0

pub abs_sum : (a b : ℤ) → unsigned_abs (a +ℤ b) ≤ unsigned_abs a + unsigned_abs b
abs_sum (pos m) (pos n) = omega (arith, ints)
abs_sum (pos m) (negsuc n) = omega (arith, ints)
abs_sum (negsuc m) (pos n) = omega (arith, ints)
abs_sum (negsuc m) (negsuc n) = omega (arith, ints)

module _ (atom : Atom) where
  pub load_append : (a b : List Mono) → load atom (a ++ b) ≡ load atom a + load atom b
  load_append [] b = omega arith
  load_append (mono ∷ monos) b = let more = load_append monos b in omega (arith, more)

  pub load_permutation : (xs ys : List Mono) → IsPermutation xs ys → load atom ys ≡ load atom xs
  load_permutation xs ys is =
      is_sum_by (load atom) (load_of atom) refl (λ mono monos. refl) ys ∙ sum_by-IsPermutation (load_of atom) xs ys is ∙ sym (is_sum_by (load atom) (load_of atom) refl (λ mono monos. refl) xs)

  kept_load : (coef : ℤ) (of : Atom) (monos : List Mono) (none : Bool) → load atom (if none then monos else record { coef = coef; atom = of } ∷ monos) ≤ load_of atom (record { coef = coef; atom = of }) + load atom monos
  kept_load coef of monos true = omega arith
  kept_load coef of monos false = omega arith

  sum_load : (order : Ordering) (a b : ℤ) → by_order order 0 (unsigned_abs (a +ℤ b)) 0 ≤ by_order order 0 (unsigned_abs a) 0 + by_order order 0 (unsigned_abs b) 0
  sum_load Less a b = omega arith
  sum_load Equal a b = abs_sum a b
  sum_load Greater a b = omega arith

  through : (a b c d : ℕ) → a ≤ b + c → b ≤ d → a ≤ d + c
  through a b c d first second = omega (arith, first, second)

  load_by : (order : Ordering) (coef : ℤ) (of : Atom) (mono : Mono) (monos more : List Mono) → atom_cmp of mono.atom ≡ order
      → load atom more ≤ load_of atom (record { coef = coef; atom = of }) + load atom monos
      → load atom (by_order order (kept coef of (mono ∷ monos)) (kept (coef +ℤ mono.coef) mono.atom monos) (mono ∷ more)) ≤ load_of atom (record { coef = coef; atom = of }) + load atom (mono ∷ monos)
  load_by Less coef of mono monos more is h = kept_load coef of (mono ∷ monos) (int_eq coef (pos 0))
  load_by Equal coef of mono monos more is h =
      let first = kept_load (coef +ℤ mono.coef) mono.atom monos (int_eq (coef +ℤ mono.coef) (pos 0)) in
      let second = sum_load (atom_cmp atom mono.atom) coef mono.coef in
      let same : load_of atom (record { coef = coef; atom = of }) ≡ load_of atom (record { coef = coef; atom = mono.atom }) = ap (λ other. load_of atom (record { coef = coef; atom = other })) (exact_atom of mono.atom is) in
      omega (arith, first, second, same)
  load_by Greater coef of mono monos more is h = omega (arith, h)

  pub added_load : (coef : ℤ) (of : Atom) (monos : List Mono) → load atom (added coef of monos) ≤ load_of atom (record { coef = coef; atom = of }) + load atom monos
  added_load coef of [] = kept_load coef of [] (int_eq coef (pos 0))
  added_load coef of (mono ∷ monos) = load_by (atom_cmp of mono.atom) coef of mono monos (added coef of monos) refl (added_load coef of monos)

-- the coefficients of the last two monomials, of one atom, are added within 128 bits
pub sum_fits : (monos : List Mono) (last mono : Mono) → atom_cmp mono.atom last.atom ≡ Equal → load mono.atom ((monos ++ last ∷ []) ++ mono ∷ []) < 2 ^ 127 → FitsSigned w128 (mono.coef +ℤ last.coef)
sum_fits monos last mono alike fits =
    let all = load_append mono.atom (monos ++ last ∷ []) (mono ∷ []) in
    let front = load_append mono.atom monos (last ∷ []) in
    let here : load_of mono.atom mono ≡ unsigned_abs mono.coef = ap (λ order. by_order order 0 (unsigned_abs mono.coef) 0) (tied_itself atoms_total mono.atom) in
    let there : load_of mono.atom last ≡ unsigned_abs last.coef = ap (λ order. by_order order 0 (unsigned_abs last.coef) 0) alike in
    let sum = abs_sum mono.coef last.coef in
    fits_signed_from_abs w128 (mono.coef +ℤ last.coef) (omega (arith, all, front, here, there, sum, fits))

-- ---- at the end

end_by : {A : Type 0} (order : Ordering) (first less equal greater : A) → is_lt order ≡ false → by_order order first equal greater ≡ by_order order less equal greater
end_by Less first less equal greater is = cc
end_by Equal first less equal greater is = refl
end_by Greater first less equal greater is = refl

last_of : (P : Atom → Type 0) (monos : List Mono) (last : Mono) → AllAtoms P (monos ++ last ∷ []) → P last.atom
last_of P [] last h = h.0
last_of P (mono ∷ monos) last h = last_of P monos last h.1

later_by : (order : Ordering) (a b c : Atom) → atom_cmp b c ≡ order → atom_cmp a b ≡ Less → is_lt (atom_cmp c b) ≡ false → atom_cmp c a ≡ Greater
later_by Less a b c is less not_less = atom_turned c a ∙ ap ordering_reverse ((atom_chain a b c).less less is)
later_by Equal a b c is less not_less = atom_turned c a ∙ ap ordering_reverse ((atom_chain a b c).right is ∙ less)
later_by Greater a b c is less not_less = let clash : true ≡ false = sym (ap is_lt (atom_turned c b ∙ ap ordering_reverse is)) ∙ not_less in cc

-- a monomial whose atom is not before the last one goes to the end, or is added to the last one
pub added_last : (coef : ℤ) (atom : Atom) (monos : List Mono) (last : Mono) → ListIsNormal (monos ++ last ∷ []) → is_lt (atom_cmp atom last.atom) ≡ false
    → added coef atom (monos ++ last ∷ []) ≡ monos ++ by_order (atom_cmp atom last.atom) [] (kept (coef +ℤ last.coef) last.atom []) (last ∷ kept coef atom [])
added_last coef atom [] last h not_less = end_by (atom_cmp atom last.atom) (kept coef atom (last ∷ [])) [] _ _ not_less
added_last coef atom (mono ∷ monos) last h not_less =
    let less = last_of (λ other. atom_cmp mono.atom other ≡ Less) monos last h.2 in
    let later = later_by (atom_cmp last.atom atom) mono.atom last.atom atom refl less not_less in
    ap (λ order. by_order order (kept coef atom (mono ∷ (monos ++ last ∷ []))) (kept (coef +ℤ mono.coef) mono.atom (monos ++ last ∷ [])) (mono ∷ added coef atom (monos ++ last ∷ []))) later
    ∙ ap (λ (more : List Mono). mono ∷ more) (added_last coef atom monos last h.3 not_less)

-- ---- of wide monomials

abbrev pub NotLess : Atom → Atom → Type 0
NotLess atom other = is_lt (atom_cmp atom other) ≡ false

-- what the wide monomials but the last, and the last, make with one more
module _ (made rest : List WideMono) (last mono : WideMono) (is : made ≡ rest ++ last ∷ []) where
  parted : map plain_mono made ≡ map plain_mono rest ++ plain_mono last ∷ []
  parted = ap (map plain_mono) is ∙ map-append plain_mono rest (last ∷ [])

  pub wide_sum_fits : atom_cmp (plain_atom mono.atom) (plain_atom last.atom) ≡ Equal → load (plain_atom mono.atom) (map plain_mono (made ++ mono ∷ [])) < 2 ^ 127 → FitsSigned w128 (mono.coef +ℤ last.coef)
  wide_sum_fits alike fits =
      sum_fits (map plain_mono rest) (plain_mono last) (plain_mono mono) alike
      (subst (λ of. load (plain_atom mono.atom) of < 2 ^ 127) (map-append plain_mono made (mono ∷ []) ∙ ap (λ of. of ++ plain_mono mono ∷ []) parted) fits)

  pub last_added : (order : Ordering) → atom_cmp (plain_atom mono.atom) (plain_atom last.atom) ≡ order → ListIsNormal (map plain_mono made) → AllAtoms (NotLess (plain_atom mono.atom)) (map plain_mono made)
      → added mono.coef (plain_atom mono.atom) (map plain_mono made) ≡ map plain_mono rest ++ by_order order [] (kept (mono.coef +ℤ last.coef) (plain_atom last.atom) []) (plain_mono last ∷ kept mono.coef (plain_atom mono.atom) [])
  last_added order compares normal not_less =
      ap (added mono.coef (plain_atom mono.atom)) parted
      ∙ added_last mono.coef (plain_atom mono.atom) (map plain_mono rest) (plain_mono last) (subst ListIsNormal parted normal)
      (last_of (NotLess (plain_atom mono.atom)) (map plain_mono rest) (plain_mono last) (subst (AllAtoms (NotLess (plain_atom mono.atom))) parted not_less))
      ∙ ap (λ of. map plain_mono rest ++ by_order of [] (kept (mono.coef +ℤ last.coef) (plain_atom last.atom) []) (plain_mono last ∷ kept mono.coef (plain_atom mono.atom) [])) compares

  pub last_apart : (order : Ordering) → atom_cmp (plain_atom mono.atom) (plain_atom last.atom) ≡ order → (order ≡ Equal → ⊥) → ListIsNormal (map plain_mono made) → AllAtoms (NotLess (plain_atom mono.atom)) (map plain_mono made)
      → added mono.coef (plain_atom mono.atom) (map plain_mono made) ≡ map plain_mono made ++ kept mono.coef (plain_atom mono.atom) []
  last_apart Less compares apart normal not_less =
      let clash : true ≡ false = sym (ap is_lt compares) ∙ last_of (NotLess (plain_atom mono.atom)) (map plain_mono rest) (plain_mono last) (subst (AllAtoms (NotLess (plain_atom mono.atom))) parted not_less) in
      cc
  last_apart Equal compares apart normal not_less = absurd (apart refl)
  last_apart Greater compares apart normal not_less =
      last_added Greater compares normal not_less ∙ sym (append_assoc (map plain_mono rest) (plain_mono last ∷ []) (kept mono.coef (plain_atom mono.atom) []))
      ∙ ap (λ of. of ++ kept mono.coef (plain_atom mono.atom) []) (sym parted)
