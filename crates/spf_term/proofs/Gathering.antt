-- Monomials that are taken from the end of a sorted list, and added.
use Rattle.std.proofs.Common.{◌≡◌, ◌+◌, ◌<◌, ◌≤◌, ◌^◌, ℤ, ◌+ℤ◌, ◌*ℤ◌, List, [], ◌∷◌, ◌++◌, Bool, length, map, ap, sym, ◌∙◌, subst, arith, get_or, length-append}
use Rattle.std.proofs.Math.IntN.{+ℤ_idl, +ℤ_idr}
use Rattle.std.proofs.lemmas.Int.{ints}
use Rattle.std.proofs.Math.ListN.{get_or-append}
use Rattle.std.proofs.Math.Seq.{get_or-append_seam}
use Rattle.std.proofs.lemmas.List.{map-append}
use Rattle.std.proofs.lemmas.List.Elements.{All-map, recursion_from_All}
use Rattle.std.proofs.lemmas.List.Sorted.{All-permutation, IsPermutation-map, IsStrictWeakOrder-flip, ranks_by, sorted_far}
use Rattle.std.specs.Cmp.{IsStrictWeakOrder}
use Rattle.std.specs.List.{All, AllPairs}
use Rattle.std.specs.List.Sorted.{IsPermutation, IsSortedBy}
use Rattle.std.specs.Ordering.{is_lt}
use Rattle.spf_term.specs.Normal.{AllAtoms, AtomIsNormal, ListIsNormal, added, all_added}
use Rattle.spf_term.specs.Order.{atom_cmp}
use Rattle.spf_term.specs.Wide.{load, load_of, plain_atom, plain_mono}
use Rattle.spf_term.specs.declared.term.Atom.{Atom}
use Rattle.spf_term.specs.declared.term.Mono.{Mono}
use Rattle.spf_term.specs.declared.wide.WideMono.{WideMono}
use Rattle.spf_term.proofs.Collected.{NotLess, added_load, load_append, load_permutation}
use Rattle.spf_term.proofs.NormalForms.{added_each, added_normal}
use Rattle.spf_term.proofs.OrderLaws.{atoms_total}
use Rattle.spf_term.proofs.Unique.{added_up}
use Rattle.spf_term.proofs.Wides.{HasNormalAtom}
use Rattle.spf_term.proofs.Weights.{added_weighed, weighed, weighed_append, weighed_permutation}

-- no monomial has its atom before that of a later one
abbrev pub Falls : List WideMono → Type 0
Falls monos = AllPairs (λ (a b : WideMono). NotLess (plain_atom a.atom) (plain_atom b.atom)) monos

-- no monomial has its atom before this one
abbrev pub AreNotLess : List WideMono → Atom → Type 0
AreNotLess monos atom = All (λ (mono : WideMono). NotLess (plain_atom mono.atom) atom) monos

-- what is made of the whole, and what is left of it
pub record Gathering (whole left made : List WideMono) : Type 0 where
  pub normal : ListIsNormal (map plain_mono made)
  pub atoms : All HasNormalAtom left
  pub falls : Falls left
  pub later : AllAtoms (AreNotLess left) (map plain_mono made)
  pub weighs : (weight : Atom → ℤ) → weighed weight (map plain_mono made) +ℤ weighed weight (map plain_mono left) ≡ weighed weight (map plain_mono whole)
  pub loads : (atom : Atom) → load atom (map plain_mono made) + load atom (map plain_mono left) ≤ load atom (map plain_mono whole)

each_weaker : (P Q : Atom → Type 0) → ((atom : Atom) → P atom → Q atom) → (monos : List Mono) → AllAtoms P monos → AllAtoms Q monos
each_weaker P Q leads [] h = tt
each_weaker P Q leads (mono ∷ monos) h = (leads mono.atom h.0, each_weaker P Q leads monos h.1)

-- ---- the ends

abbrev pub key_less : WideMono → WideMono → Bool
key_less a b = is_lt (atom_cmp (plain_atom b.atom) (plain_atom a.atom))

pub falling : IsStrictWeakOrder key_less
falling = IsStrictWeakOrder-flip (λ (a b : WideMono). is_lt (atom_cmp (plain_atom a.atom) (plain_atom b.atom))) (ranks_by atoms_total (λ (mono : WideMono). plain_atom mono.atom))

pub begun : (whole left : List WideMono) → IsPermutation whole left → IsSortedBy key_less left → All HasNormalAtom whole → Gathering whole left []
begun whole left moved sorted atoms = record {
  normal = tt;
  atoms = All-permutation HasNormalAtom whole left moved atoms;
  falls = λ i j d less inside. sorted_far key_less falling left sorted i j d (omega (arith, less)) inside;
  later = tt;
  weighs = λ weight. +ℤ_idl (weighed weight (map plain_mono left)) ∙ weighed_permutation weight (map plain_mono whole) (map plain_mono left) (IsPermutation-map plain_mono whole left moved);
  loads = λ atom. let same = load_permutation atom (map plain_mono whole) (map plain_mono left) (IsPermutation-map plain_mono whole left moved) in omega (arith, same);
}

pub gathered : (whole made : List WideMono) → Gathering whole [] made → All HasNormalAtom whole → map plain_mono made ≡ all_added (map plain_mono whole)
gathered whole made done atoms =
    added_up (map plain_mono made) (map plain_mono whole) done.normal
    (recursion_from_All (λ (mono : Mono). AtomIsNormal mono.atom) (map plain_mono whole) (All-map (λ (mono : Mono). AtomIsNormal mono.atom) plain_mono whole atoms))
    (λ weight. sym (+ℤ_idr (weighed weight (map plain_mono made))) ∙ done.weighs weight)

-- ---- one step

all_front : {X : Type 0} (P : X → Type 0) (front : List X) (last : X) → All P (front ++ last ∷ []) → All P front
all_front P front last h = λ k d inside. subst P (get_or-append front (last ∷ []) d k inside) (h k d (let long = length-append front (last ∷ []) in omega (arith, long, inside)))

all_last : {X : Type 0} (P : X → Type 0) (front : List X) (last : X) → All P (front ++ last ∷ []) → P last
all_last P front last h = subst P (get_or-append_seam front last [] last) (h (length front) last (let long = length-append front (last ∷ []) in omega (arith, long)))

pairs_front : {X : Type 0} (R : X → X → Type 0) (front : List X) (last : X) → AllPairs R (front ++ last ∷ []) → AllPairs R front
pairs_front R front last h = λ i j d less inside.
    let long = length-append front (last ∷ []) in
    subst (λ of. R (get_or front i d) of) (get_or-append front (last ∷ []) d j inside)
    (subst (λ of. R of (get_or (front ++ last ∷ []) j d)) (get_or-append front (last ∷ []) d i (omega (arith, less, inside))) (h i j d less (omega (arith, long, inside))))

pairs_last : {X : Type 0} (R : X → X → Type 0) (front : List X) (last : X) → AllPairs R (front ++ last ∷ []) → All (λ (x : X). R x last) front
pairs_last R front last h = λ k d inside.
    let long = length-append front (last ∷ []) in
    subst (λ of. R (get_or front k d) of) (get_or-append_seam front last [] d)
    (subst (λ of. R of (get_or (front ++ last ∷ []) (length front) d)) (get_or-append front (last ∷ []) d k inside) (h k (length front) d inside (omega (arith, long))))

taken : (m n a l : ℤ) (w : ℤ) → m +ℤ (n +ℤ l) ≡ w → a ≡ l +ℤ m → a +ℤ n ≡ w
taken m n a l w whole more = omega (arith, ints)

module _ (whole front : List WideMono) (last : WideMono) (made : List WideMono) (h : Gathering whole (front ++ last ∷ []) made) where
  pub last_not_less : AllAtoms (NotLess (plain_atom last.atom)) (map plain_mono made)
  last_not_less = each_weaker (AreNotLess (front ++ last ∷ [])) (NotLess (plain_atom last.atom)) (λ atom are. all_last (λ (mono : WideMono). NotLess (plain_atom mono.atom) atom) front last are) (map plain_mono made) h.later

  split_load : (atom : Atom) → load atom (map plain_mono (front ++ last ∷ [])) ≡ load atom (map plain_mono front) + load_of atom (plain_mono last)
  split_load atom =
      let parts = ap (load atom) (map-append plain_mono front (last ∷ [])) ∙ load_append atom (map plain_mono front) (plain_mono last ∷ []) in
      omega (arith, parts)

  split_weight : (weight : Atom → ℤ) → weighed weight (map plain_mono (front ++ last ∷ [])) ≡ weighed weight (map plain_mono front) +ℤ (last.coef *ℤ weight (plain_atom last.atom))
  split_weight weight =
      ap (weighed weight) (map-append plain_mono front (last ∷ [])) ∙ weighed_append weight (map plain_mono front) (plain_mono last ∷ [])
      ∙ ap (λ (more : ℤ). weighed weight (map plain_mono front) +ℤ more) (+ℤ_idr (last.coef *ℤ weight (plain_atom last.atom)))

  pub last_fits : ((atom : Atom) → load atom (map plain_mono whole) < 2 ^ 127) → (atom : Atom) → load atom (map plain_mono (made ++ last ∷ [])) < 2 ^ 127
  last_fits fits atom =
      let parts = ap (load atom) (map-append plain_mono made (last ∷ [])) ∙ load_append atom (map plain_mono made) (plain_mono last ∷ []) in
      let all = h.loads atom in
      let left = split_load atom in
      let small = fits atom in
      omega (arith, parts, all, left, small)

  pub gone_on : (more : List WideMono) → map plain_mono more ≡ added last.coef (plain_atom last.atom) (map plain_mono made) → Gathering whole front more
  gone_on more is = record {
    normal = subst ListIsNormal (sym is) (added_normal last.coef (plain_atom last.atom) (map plain_mono made) h.normal (all_last HasNormalAtom front last h.atoms));
    atoms = all_front HasNormalAtom front last h.atoms;
    falls = pairs_front (λ (a b : WideMono). NotLess (plain_atom a.atom) (plain_atom b.atom)) front last h.falls;
    later = subst (AllAtoms (AreNotLess front)) (sym is)
        (added_each (AreNotLess front) last.coef (plain_atom last.atom) (map plain_mono made)
        (each_weaker (AreNotLess (front ++ last ∷ [])) (AreNotLess front) (λ atom. all_front (λ (mono : WideMono). NotLess (plain_atom mono.atom) atom) front last) (map plain_mono made) h.later)
        (pairs_last (λ (a b : WideMono). NotLess (plain_atom a.atom) (plain_atom b.atom)) front last h.falls));
    weighs = λ weight.
        taken (weighed weight (map plain_mono made)) (weighed weight (map plain_mono front)) (weighed weight (map plain_mono more)) (last.coef *ℤ weight (plain_atom last.atom)) (weighed weight (map plain_mono whole))
        (ap (λ (left : ℤ). weighed weight (map plain_mono made) +ℤ left) (sym (split_weight weight)) ∙ h.weighs weight)
        (ap (weighed weight) is ∙ added_weighed weight last.coef (plain_atom last.atom) (map plain_mono made));
    loads = λ atom.
        let one = ap (load atom) is in
        let two = added_load atom last.coef (plain_atom last.atom) (map plain_mono made) in
        let all = h.loads atom in
        let left = split_load atom in
        omega (arith, one, two, all, left);
  }
