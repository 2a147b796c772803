-- Numbers and monomials of lists of terms.
use Rattle.std.proofs.Common.{◌≡◌, ℕ, ◌+◌, ◌-◌, ◌<◌, ◌≤◌, ◌^◌, ℤ, pos, List, [], ◌∷◌, ◌++◌, Bool, true, false, if◌then◌else◌, Option, None, Some, Err, nat_lt, length, get_or, take, drop, map, min, refl, ap, sym, ◌∙◌, arith, append-nil}
use Rattle.std.proofs.lemmas.Bool.Decides.{nat_tests}
use Rattle.std.proofs.lemmas.List.{drop_more, map-append, take-append-drop, take_all, take_more}
use Rattle.std.proofs.lemmas.List.Concat.{flat_map-cons}
use Rattle.std.proofs.lemmas.Grind.{flat_map-append}
use Rattle.std.proofs.lemmas.List.Sums.{sum_by-append, sum_by-cons}
use Rattle.std.proofs.lemmas.List.Folds.{find-append, flat_map-map}
use Rattle.std.proofs.lemmas.List.Elements.{All-cons, All-nil}
use Rattle.std.specs.List.{All, find, flat_map, sum_by}
use Rattle.std.specs.Option.{option_or}
use Rattle.spf_term.specs.Bounded.{monomials}
use Rattle.spf_term.specs.NumberRule.{excess, is_outside, numbers}
use Rattle.spf_term.specs.Wide.{IsNarrowed, plain}
use Rattle.spf_term.specs.declared.fault.TermFault.{TermFault}
use Rattle.spf_term.specs.declared.fault.TermFault.TheVariants.{Wide, Memory}
use Rattle.spf_term.specs.declared.term.Term.{Term}
use Rattle.spf_term.specs.declared.wide.WideTerm.{WideTerm}
use Rattle.spf_rel.specs.Rule.{IsTestedTogether, conj_excess, excess_together}
use Rattle.spf_rel.specs.declared.relation.Conj.{Conj}
use Rattle.spf_rel.proofs.Pairs.{all_first, all_second}

abbrev pub outside : List ℤ → Option ℤ
outside = find is_outside

module _ {X : Type 0} (of : X → List ℤ) (xs : List X) (index : ℕ) (x : X) (inside : index < length xs) (at : x ≡ get_or xs index x) where
  whole_is : flat_map of xs ≡ flat_map of (take index xs) ++ (of x ++ flat_map of (drop (index + 1) xs))
  whole_is =
      ap (flat_map of) (sym (take-append-drop index xs) ∙ ap (λ rest. take index xs ++ rest) (drop_more xs index x inside ∙ ap (λ (first : X). first ∷ drop (index + 1) xs) (sym at)))
      ∙ flat_map-append of (take index xs) (x ∷ drop (index + 1) xs) ∙ ap (λ rest. flat_map of (take index xs) ++ rest) (flat_map-cons of x (drop (index + 1) xs))

  -- the first number outside is one of this element
  pub found_now : (number : ℤ) → outside (flat_map of (take index xs)) ≡ None → outside (of x) ≡ Some number → outside (flat_map of xs) ≡ Some number
  found_now number none is =
      ap outside whole_is ∙ find-append is_outside (flat_map of (take index xs)) (of x ++ flat_map of (drop (index + 1) xs)) ∙ ap (λ first. option_or first (outside (of x ++ flat_map of (drop (index + 1) xs)))) none
      ∙ find-append is_outside (of x) (flat_map of (drop (index + 1) xs)) ∙ ap (λ first. option_or first (outside (flat_map of (drop (index + 1) xs)))) is

  pub none_more : outside (flat_map of (take index xs)) ≡ None → outside (of x) ≡ None → outside (flat_map of (take (index + 1) xs)) ≡ None
  none_more none is =
      ap (λ ys. outside (flat_map of ys)) (take_more xs index x inside ∙ ap (λ (last : X). take index xs ++ last ∷ []) (sym at))
      ∙ ap outside (flat_map-append of (take index xs) (x ∷ []) ∙ ap (λ rest. flat_map of (take index xs) ++ rest) (flat_map-cons of x []))
      ∙ find-append is_outside (flat_map of (take index xs)) (of x ++ []) ∙ ap (λ first. option_or first (outside (of x ++ []))) none ∙ ap outside (append-nil (of x)) ∙ is

pub none_in : {X : Type 0} (of : X → List ℤ) (xs : List X) (index : ℕ) → length xs ≤ index → outside (flat_map of (take index xs)) ≡ None → outside (flat_map of xs) ≡ None
none_in of xs index past none = ap (λ ys. outside (flat_map of ys)) (sym (take_all index xs past)) ∙ none

-- one element more
pub sum_next : {X : Type 0} (f : X → ℕ) (xs : List X) (index : ℕ) (x : X) → index < length xs → x ≡ get_or xs index x → sum_by f (take (index + 1) xs) ≡ sum_by f (take index xs) + f x
sum_next {X} f xs index x inside at =
    let one = sum_by-cons f x [] in
    let both = ap (sum_by f) (take_more xs index x inside ∙ ap (λ (last : X). take index xs ++ last ∷ []) (sym at)) ∙ sum_by-append f (take index xs) (x ∷ []) in
    omega (arith, one, both)

pub map_next : {X Y : Type 0} (f : X → Y) (xs : List X) (index : ℕ) (x : X) → index < length xs → x ≡ get_or xs index x → map f (take (index + 1) xs) ≡ map f (take index xs) ++ f x ∷ []
map_next {X} f xs index x inside at = ap (map f) (take_more xs index x inside ∙ ap (λ (last : X). take index xs ++ last ∷ []) (sym at)) ∙ map-append f (take index xs) (x ∷ [])

-- ---- two lists

both_none : (first second : List ℤ) → outside first ≡ None → outside (first ++ second) ≡ outside second
both_none first second none = find-append is_outside first second ∙ ap (λ found. option_or found (outside second)) none

both_some : (first second : List ℤ) (number : ℤ) → outside first ≡ Some number → outside (first ++ second) ≡ Some number
both_some first second number is = find-append is_outside first second ∙ ap (λ found. option_or found (outside second)) is

module _ (equal least : List Term) where
  abbrev total : ℕ
  total = sum_by monomials (equal ++ least)

  total_is : total ≡ sum_by monomials equal + sum_by monomials least
  total_is = sum_by-append monomials equal least

  numbers_are : flat_map numbers (equal ++ least) ≡ flat_map numbers equal ++ flat_map numbers least
  numbers_are = flat_map-append numbers equal least

  pub too_many : (count : ℕ) → count ≡ min (sum_by monomials equal + sum_by monomials least) (2 ^ 64 - 1) → 16384 < count → excess_together (equal ++ least) ≡ Some (pos count)
  too_many count is many =
      let t = total_is in
      let test : nat_lt 16384 total ≡ true = grind (arith, nat_tests) in
      let same : min total (2 ^ 64 - 1) ≡ count = omega (arith, t, is) in
      ap (λ more. if more then Some (pos (min total (2 ^ 64 - 1))) else outside (flat_map numbers (equal ++ least))) test ∙ ap (λ number. Some (pos number)) same

  module _ (count : ℕ) (is : count ≡ min (sum_by monomials equal + sum_by monomials least) (2 ^ 64 - 1)) (few : count ≤ 16384) where
    few_is : excess_together (equal ++ least) ≡ outside (flat_map numbers equal ++ flat_map numbers least)
    few_is =
        let t = total_is in
        let low : total ≤ 16384 = omega (arith, t, is, few) in
        let test : nat_lt 16384 total ≡ false = grind (arith, nat_tests) in
        ap (λ more. if more then Some (pos (min total (2 ^ 64 - 1))) else outside (flat_map numbers (equal ++ least))) test ∙ ap outside numbers_are

    pub first_told : (number : ℤ) → outside (flat_map numbers equal) ≡ Some number → excess_together (equal ++ least) ≡ Some number
    first_told number found = few_is ∙ both_some (flat_map numbers equal) (flat_map numbers least) number found

    pub second_told : (found : Option ℤ) → outside (flat_map numbers equal) ≡ None → outside (flat_map numbers least) ≡ found → excess_together (equal ++ least) ≡ found
    second_told found none is' = few_is ∙ both_none (flat_map numbers equal) (flat_map numbers least) none ∙ is'

pub sum_of_map : {X : Type 0} (f : Term → ℕ) (of : X → Term) (xs : List X) → sum_by f (map of xs) ≡ sum_by (λ (x : X). f (of x)) xs
sum_of_map f of [] = refl
sum_of_map {X} f of (x ∷ xs) = sum_by-cons f (of x) (map of xs) ∙ ap (λ more. f (of x) + more) (sum_of_map f of xs) ∙ sym (sum_by-cons (λ (y : X). f (of y)) x xs)

pub count_is : (a b count x y : ℕ) → a ≡ min x (2 ^ 64 - 1) → b ≡ min y (2 ^ 64 - 1) → count ≡ min (a + b) (2 ^ 64 - 1) → count ≡ min (x + y) (2 ^ 64 - 1)
count_is a b count x y first second both = omega arith

-- ---- refusals

pub refused : {A B : Type 0} (part whole : List ℤ) (made : A) (wanted : B) (fault : TermFault) → ((number : ℤ) → outside part ≡ Some number → outside whole ≡ Some number) → IsNarrowed part made (Err fault) → IsNarrowed whole wanted (Err fault)
refused part whole made wanted (Wide number) leads is = leads number is
refused part whole made wanted Memory leads is = tt

pub conj_refused : (part : List ℤ) (made : List Term) (wanted : Conj) (fault : TermFault) → ((number : ℤ) → outside part ≡ Some number → conj_excess wanted ≡ Some number) → IsNarrowed part made (Err fault) → IsTestedTogether wanted (Err fault)
conj_refused part made wanted (Wide number) leads is = leads number is
conj_refused part made wanted Memory leads is = tt

-- wide terms, as they are counted and read one by one
module _ (equal least : List WideTerm) where
  abbrev pub plain_numbers : WideTerm → List ℤ
  plain_numbers term = numbers (plain term)

  pub wide_count : (a b count : ℕ) → a ≡ min (sum_by (λ (term : WideTerm). monomials (plain term)) equal) (2 ^ 64 - 1) → b ≡ min (sum_by (λ (term : WideTerm). monomials (plain term)) least) (2 ^ 64 - 1) → count ≡ min (a + b) (2 ^ 64 - 1)
      → count ≡ min (sum_by monomials (map plain equal) + sum_by monomials (map plain least)) (2 ^ 64 - 1)
  wide_count a b count first second both =
      let one = sum_of_map monomials plain equal in
      let two = sum_of_map monomials plain least in
      omega (arith, one, two, first, second, both)

pub wide_numbers : (terms : List WideTerm) → flat_map numbers (map plain terms) ≡ flat_map (λ (term : WideTerm). numbers (plain term)) terms
wide_numbers terms = flat_map-map numbers plain terms

-- ---- each term of a conjunction

one_by : (many : Bool) (count : ℕ) (told : Option ℤ) → nat_lt 16384 count ≡ many → count ≤ 16384 → told ≡ None → (if many then Some (pos (min count (2 ^ 64 - 1))) else told) ≡ None
one_by true count told is few none = absurd (let clash : nat_lt 16384 count ≡ false = grind (arith, nat_tests) in let both : true ≡ false = sym is ∙ clash in cc)
one_by false count told is few none = none

all_by : (many : Bool) (count : ℕ) (told : Option ℤ) → nat_lt 16384 count ≡ many → (if many then Some (pos (min count (2 ^ 64 - 1))) else told) ≡ None → (count ≤ 16384) × (told ≡ None)
all_by true count told is none = cc
all_by false count told is none = let few : count ≤ 16384 = grind (arith, nat_tests) in (few, none)

either_none : (first second : Option ℤ) → option_or first second ≡ None → (first ≡ None) × (second ≡ None)
either_none None second is = (refl, is)
either_none (Some number) second is = cc

each_keeps : (terms : List Term) → sum_by monomials terms ≤ 16384 → outside (flat_map numbers terms) ≡ None → All (λ (term : Term). excess term ≡ None) terms
each_keeps [] few none = All-nil (λ (term : Term). excess term ≡ None)
each_keeps (term ∷ terms) few none =
    let sum = sum_by-cons monomials term terms in
    let parts = either_none (outside (numbers term)) (outside (flat_map numbers terms)) (sym (ap outside (flat_map-cons numbers term terms) ∙ find-append is_outside (numbers term) (flat_map numbers terms)) ∙ none) in
    All-cons (λ (term : Term). excess term ≡ None) term terms (one_by (nat_lt 16384 (monomials term)) (monomials term) (outside (numbers term)) refl (omega (arith, sum, few)) parts.0)
    (each_keeps terms (omega (arith, sum, few)) parts.1)

pub all_keep : (terms : List Term) → excess_together terms ≡ None → All (λ (term : Term). excess term ≡ None) terms
all_keep terms none =
    let both = all_by (nat_lt 16384 (sum_by monomials terms)) (sum_by monomials terms) (outside (flat_map numbers terms)) refl none in
    each_keeps terms both.0 both.1

module _ (conj : Conj) (none : conj_excess conj ≡ None) where
  pub equalities_keep : All (λ (term : Term). excess term ≡ None) conj.equal
  equalities_keep = all_first (λ (term : Term). excess term ≡ None) conj.equal conj.least (all_keep (conj.equal ++ conj.least) none)

  pub inequalities_keep : All (λ (term : Term). excess term ≡ None) conj.least
  inequalities_keep = all_second (λ (term : Term). excess term ≡ None) conj.equal conj.least (all_keep (conj.equal ++ conj.least) none)
