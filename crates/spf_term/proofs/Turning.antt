-- Wide terms whose numbers can be negated.
use Rattle.std.proofs.Common.{◌≡◌, ◌<◌, ◌^◌, ℤ, pos, negsuc, ◌*ℤ◌, ◌-ℤ◌, to_z, of_z, FitsSigned, ◌<ℤ◌, ◌≤ℤ◌, true, false, None, Some, List, [], ◌∷◌, ◌++◌, map, reverse, slice_get, refl, ap, sym, ◌∙◌, append_assoc, subst, unsigned_abs, arith}
use Rattle.std.proofs.lemmas.Cmp.{tied_itself}
use Rattle.std.proofs.lemmas.Int.{fits_signed_from_abs, ints, to_z-of_z}
use Rattle.std.proofs.lemmas.List.{map-append, reverse-append}
use Rattle.std.specs.Int.{w128}
use Rattle.std.specs.List.{AllByRecursion}
use Rattle.spf_term.specs.Normal.{by_order}
use Rattle.spf_term.specs.Solution.{is_negative, leads_negative, times}
use Rattle.spf_term.specs.Substitution.{scaled}
use Rattle.spf_term.specs.Wide.{HasOpposites, load, load_of, plain, plain_atom, plain_mono}
use Rattle.spf_term.specs.declared.term.Atom.{Atom}
use Rattle.spf_term.specs.declared.term.Mono.{Mono}
use Rattle.spf_term.specs.declared.term.Term.{out-Term}
use Rattle.spf_term.specs.declared.wide.WideMono.{WideMono}
use Rattle.spf_term.specs.declared.wide.WideTerm.{WideTerm, out-WideTerm, roll-WideTerm}
use Rattle.spf_term.proofs.OrderLaws.{atoms_total}
use Rattle.spf_term.proofs.Solved.{times_minus}
use Rattle.spf_term.proofs.Wides.{out_constant, out_monos, plain_constant_is, plain_made, plain_monos_are, sum_of}

abbrev pub IsSmaller : Mono → Type 0
IsSmaller mono = unsigned_abs mono.coef < 2 ^ 127

each_smaller : (monos : List Mono) → ((atom : Atom) → load atom monos < 2 ^ 127) → AllByRecursion IsSmaller monos
each_smaller [] fits = tt
each_smaller (mono ∷ monos) fits =
    let all = fits mono.atom in
    let here : load_of mono.atom mono ≡ unsigned_abs mono.coef = ap (λ order. by_order order 0 (unsigned_abs mono.coef) 0) (tied_itself atoms_total mono.atom) in
    (omega (arith, all, here), each_smaller monos (λ atom. let more = fits atom in omega (arith, more)))

pub made_opposites : (monos : List WideMono) (constant : ℤ) → ((atom : Atom) → load atom (map plain_mono monos) < 2 ^ 127) → unsigned_abs constant < 2 ^ 127 → HasOpposites (plain (roll-WideTerm (record { monos = monos; constant = constant })))
made_opposites monos constant fits small =
    subst HasOpposites (sym (plain_made monos constant)) (
      subst (AllByRecursion IsSmaller) (sym (out_monos (map plain_mono monos) constant)) (each_smaller (map plain_mono monos) fits),
      subst (λ number. unsigned_abs number < 2 ^ 127) (sym (out_constant (map plain_mono monos) constant)) small,
    )

-- ---- negated monomials

abbrev pub negated : List Mono → List Mono
negated = scaled (negsuc 0)

-- what is left, and what is turned, the last first
pub record Turning (whole left turned : List WideMono) : Type 0 where
  pub made : negated (map plain_mono left) ++ map plain_mono (reverse turned) ≡ negated (map plain_mono whole)
  pub small : AllByRecursion IsSmaller (map plain_mono left)

small_front : (front : List Mono) (last : Mono) → AllByRecursion IsSmaller (front ++ last ∷ []) → AllByRecursion IsSmaller front
small_front [] last h = tt
small_front (mono ∷ front) last h = (h.0, small_front front last h.1)

small_last : (front : List Mono) (last : Mono) → AllByRecursion IsSmaller (front ++ last ∷ []) → IsSmaller last
small_last [] last h = h.0
small_last (mono ∷ front) last h = small_last front last h.1

module _ (whole left front : List WideMono) (last : WideMono) (turned : List WideMono) (is : left ≡ front ++ last ∷ []) (h : Turning whole left turned) where
  parted : map plain_mono left ≡ map plain_mono front ++ plain_mono last ∷ []
  parted = ap (map plain_mono) is ∙ map-append plain_mono front (last ∷ [])

  pub last_smaller : unsigned_abs last.coef < 2 ^ 127
  last_smaller = small_last (map plain_mono front) (plain_mono last) (subst (AllByRecursion IsSmaller) parted h.small)

  pub turned_more : (more : List WideMono) (one : WideMono) → more ≡ turned ++ one ∷ [] → plain_mono one ≡ record { coef = negsuc 0 *ℤ last.coef; atom = plain_atom last.atom } → Turning whole front more
  turned_more more one pushed one_is = record {
    made =
        (λ i. negated (map plain_mono front) ++ map plain_mono ((ap reverse pushed ∙ reverse-append turned (one ∷ [])) i))
        ∙ (λ i. negated (map plain_mono front) ++ one_is i ∷ map plain_mono (reverse turned))
        ∙ sym (append_assoc (negated (map plain_mono front)) (negated (plain_mono last ∷ [])) (map plain_mono (reverse turned)))
        ∙ ap (λ of. of ++ map plain_mono (reverse turned)) (sym (map-append (λ (mono : Mono). record { coef = negsuc 0 *ℤ mono.coef; atom = mono.atom }) (map plain_mono front) (plain_mono last ∷ [])))
        ∙ ap (λ of. negated of ++ map plain_mono (reverse turned)) (sym parted) ∙ h.made;
    small = small_front (map plain_mono front) (plain_mono last) (subst (AllByRecursion IsSmaller) parted h.small);
  }

pub all_turned : (whole left turned : List WideMono) → left ≡ [] → Turning whole left turned → map plain_mono (reverse turned) ≡ negated (map plain_mono whole)
all_turned whole left turned none h = sym (ap (λ of. negated (map plain_mono of) ++ map plain_mono (reverse turned)) none) ∙ h.made

-- ---- terms

pub opposite_is : (term : WideTerm) (monos : List WideMono) (constant : ℤ) → map plain_mono monos ≡ negated (map plain_mono (out-WideTerm term).monos) → constant ≡ negsuc 0 *ℤ (out-WideTerm term).constant
    → plain (roll-WideTerm (record { monos = monos; constant = constant })) ≡ times (negsuc 0) (plain term)
opposite_is term monos constant are is =
    plain_made monos constant
    ∙ (λ i. sum_of ((are ∙ ap negated (sym (plain_monos_are term))) i) ((is ∙ ap (λ (of : ℤ). negsuc 0 *ℤ of) (sym (plain_constant_is term))) i))

module _ (term : WideTerm) (h : HasOpposites (plain term)) where
  pub small_monos_of : AllByRecursion IsSmaller (map plain_mono (out-WideTerm term).monos)
  small_monos_of = subst (AllByRecursion IsSmaller) (plain_monos_are term) h.0

  pub small_constant_of : unsigned_abs (out-WideTerm term).constant < 2 ^ 127
  small_constant_of = subst (λ number. unsigned_abs number < 2 ^ 127) (plain_constant_is term) h.1

pub leads_first : (first : WideMono) (monos : List WideMono) → slice_get monos 0 ≡ Some first → leads_negative (map plain_mono monos) ≡ is_negative first.coef
leads_first first [] is = cc
leads_first first (mono ∷ monos) is = let same : mono ≡ first = cc in ap (λ (of : WideMono). is_negative of.coef) same

pub leads_none : (monos : List WideMono) → slice_get monos 0 ≡ None → leads_negative (map plain_mono monos) ≡ false
leads_none [] is = refl
leads_none (mono ∷ monos) is = cc

pub leads_are : (term : WideTerm) → leads_negative (out-Term (plain term)).monos ≡ leads_negative (map plain_mono (out-WideTerm term).monos)
leads_are term = ap leads_negative (plain_monos_are term)

pub below_zero : (number : ℤ) → number <ℤ pos 0 → is_negative number ≡ true
below_zero (pos number) h = absurd (omega (arith, ints, h))
below_zero (negsuc number) h = refl

pub not_below : (number : ℤ) → pos 0 ≤ℤ number → is_negative number ≡ false
not_below (pos number) h = refl
not_below (negsuc number) h = absurd (omega (arith, ints, h))

-- ---- opposite numbers

opposite_size : (number : ℤ) → unsigned_abs (pos 0 -ℤ number) ≡ unsigned_abs number
opposite_size (pos number) = omega (arith, ints)
opposite_size (negsuc number) = omega (arith, ints)

pub opposite_fits : (number same : ℤ) → same ≡ number → unsigned_abs number < 2 ^ 127 → FitsSigned w128 (pos 0 -ℤ same)
opposite_fits number same is small = let size = opposite_size same in let equal = ap unsigned_abs is in fits_signed_from_abs w128 (pos 0 -ℤ same) (omega (arith, size, equal, small))

pub opposite_number : (number same : ℤ) → same ≡ number → unsigned_abs number < 2 ^ 127 → to_z w128 (of_z w128 (pos 0 -ℤ same)) ≡ negsuc 0 *ℤ number
opposite_number number same is small =
    let minus = times_minus number in
    let turn : pos 0 -ℤ number ≡ negsuc 0 *ℤ number = omega (arith, ints, minus) in
    to_z-of_z w128 (pos 0 -ℤ same) (opposite_fits number same is small) ∙ ap (λ of. pos 0 -ℤ of) is ∙ turn
