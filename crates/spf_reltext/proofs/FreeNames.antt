-- The names of variables, and free names of parameters and functions: each is a word for a reader, and is found at its number.
use Rattle.std.proofs.Common.{◌≡◌, ◌≢◌, ◌⊎◌, ℕ, zero, suc, ◌+◌, ◌-◌, ◌<◌, ◌≤◌, ◌^◌, Bool, true, false, nat_lt, cond, if◌then◌else◌, List, [], ◌∷◌, ◌++◌, length, map, get_or, count_by, codes, refl, ap, sym, ◌∙◌, inl, inr, arith, length-append}
use Rattle.std.proofs.lemmas.Bool.{ltb-false, ltb-true}
use Rattle.std.proofs.lemmas.Bool.Decides.{nat_tests}
use Rattle.std.proofs.lemmas.Fmt.{decimal_injective}
use Rattle.std.proofs.lemmas.List.{get_or_append_left, get_or-append_right}
use Rattle.std.proofs.lemmas.List.Folds.{list_any-append, list_any_at, list_any_none}
use Rattle.std.proofs.lemmas.List.FromFn.{length-map-range_with_len, get_or-map-range_with_len}
use Rattle.std.proofs.lemmas.List.Sums.{position_or_len_is, sum_by-cons}
use Rattle.std.proofs.lemmas.Option.{unwrap_or-slice_get}
use Rattle.std.proofs.lemmas.Slice.Eq.{bytes_eq-Decides}
use Rattle.std.specs.List.{AllByRecursion, list_any, range_with_len}
use Rattle.std.specs.Str.{bytes_eq}
use Rattle.spf_base.specs.Word.{IsLetter, IsName}
use Rattle.spf_lex.proofs.FixedWords.{name_fixed}
use Rattle.spf_lex.proofs.Spacing.{numbered_name}
use Rattle.spf_reltext.proofs.Formed.{place_or_len}
use Rattle.spf_reltext.proofs.LiteralsRead.{AreFixed}
use Rattle.spf_reltext.proofs.LiteralsSpaced.{AreLetters}
use Rattle.spf_reltext.proofs.PrintedLiterals.{letters, numbers}
use Rattle.spf_reltext.proofs.TermsMeant.{AreFound}
use Rattle.spf_reltext.proofs.TermsRead.{AreNames, IsFixedWord}
use Rattle.spf_reltext.proofs.TermsSpaced.{AreWords}
use Rattle.spf_reltext.specs.CalcWords.{calc_words}
use Rattle.spf_reltext.specs.Names.{number_of}
use Rattle.spf_reltext.specs.Printed.{name_at, numbered, variable_text}
use Rattle.spf_reltext.specs.Rules.{is_twice, repeats}
use Rattle.spf_reltext.specs.RoundTrip.{AreFree, HasFreeNames, IsFree}
use Rattle.spf_reltext.specs.declared.kind.CalcKind.TheVariants as kind
use Rattle.spf_reltext.specs.declared.names.RelNames.{RelNames}

-- ---- a name among others

other_bytes : (one other : List ℕ) → one ≢ other → bytes_eq one other ≡ false
other_bytes one other differ = by (bytes_eq one other) (bytes_eq-Decides one other).0 where
  by : (b : Bool) → (b ≡ true → one ≡ other) → b ≡ false
  by true same = absurd (differ (same refl))
  by false same = refl

same_bytes : (one other : List ℕ) → one ≡ other → bytes_eq one other ≡ true
same_bytes one other same = (bytes_eq-Decides one other).1 same

-- the name stands at this number, and at no number before
found_at : (names : List (List ℕ)) (name : List ℕ) (n : ℕ) → n < length names → name ≡ get_or names n [] → ((d : ℕ) → d < n → name ≢ get_or names d [])
    → (list_any (bytes_eq name) names ≡ true) × (number_of names name ≡ n)
found_at names name n inside is before = (
  list_any_at (bytes_eq name) names n [] inside (same_bytes name (get_or names n []) is),
  place_or_len (bytes_eq name) names ∙ position_or_len_is (bytes_eq name) names n [] (omega (arith, inside)) (λ d h. other_bytes name (get_or names d []) (before d h)) (λ _. same_bytes name (get_or names n []) is),
)

name_is : (names : List (List ℕ)) (n : ℕ) → name_at names n ≡ get_or names n []
name_is names n = unwrap_or-slice_get names n []

free_found : (names : List (List ℕ)) → AreFree names → (n : ℕ) → n < length names → (list_any (bytes_eq (name_at names n)) names ≡ true) × (number_of names (name_at names n) ≡ n)
free_found names free n inside =
    found_at names (name_at names n) n inside (name_is names n) (λ d before same. free.distinct d n before inside (name_is names d ∙ sym same))

free_at : (names : List (List ℕ)) → AreFree names → (n : ℕ) → n < length names → IsFree (name_at names n)
free_at names free n inside = rw (name_is names n) (free.each n [] inside)

fixed_name : (name : List ℕ) → IsFree name → IsFixedWord kind.Name name
fixed_name name free = name_fixed calc_words name free.word free.unquoted

-- ---- names of variables

letter_name : (letter : ℕ) → IsLetter letter → (n : ℕ) → n < 2 ^ 32 → IsName (numbered (letter ∷ []) n)
letter_name letter is n small = numbered_name letter n is (omega (arith, small))

x_name : (n : ℕ) → n < 2 ^ 32 → IsName (numbered (codes "X") n)
x_name = letter_name 88 (inr (omega arith, omega arith))

y_name : (n : ℕ) → n < 2 ^ 32 → IsName (numbered (codes "Y") n)
y_name = letter_name 89 (inr (omega arith, omega arith))

e_name : (n : ℕ) → n < 2 ^ 32 → IsName (numbered (codes "E") n)
e_name = letter_name 69 (inr (omega arith, omega arith))

x_fixed : (n : ℕ) → n < 2 ^ 32 → IsFixedWord kind.Name (numbered (codes "X") n)
x_fixed n small = name_fixed calc_words (numbered (codes "X") n) (x_name n small) refl

y_fixed : (n : ℕ) → n < 2 ^ 32 → IsFixedWord kind.Name (numbered (codes "Y") n)
y_fixed n small = name_fixed calc_words (numbered (codes "Y") n) (y_name n small) refl

e_fixed : (n : ℕ) → n < 2 ^ 32 → IsFixedWord kind.Name (numbered (codes "E") n)
e_fixed n small = name_fixed calc_words (numbered (codes "E") n) (e_name n small) refl

each_number : (P : ℕ → Type 0) (from count : ℕ) → ((n : ℕ) → n < from + count → P n) → AllByRecursion P (range_with_len from count)
each_number P from zero each = tt
each_number P from (suc count) each = (each from (omega arith), each_number P (from + 1) count (λ n h. each n (omega (arith, h))))

pub letters_fixed : (ins : ℕ) → ins ≤ 2 ^ 32 → AreFixed (codes "X") (numbers ins) × AreFixed (codes "Y") (numbers ins) × AreFixed (codes "E") (numbers ins)
letters_fixed count small = (
  each_number (λ n. IsFixedWord kind.Name (numbered (codes "X") n)) 0 count (λ n h. x_fixed n (omega (arith, h, small))),
  each_number (λ n. IsFixedWord kind.Name (numbered (codes "Y") n)) 0 count (λ n h. y_fixed n (omega (arith, h, small))),
  each_number (λ n. IsFixedWord kind.Name (numbered (codes "E") n)) 0 count (λ n h. e_fixed n (omega (arith, h, small))),
)

pub letters_named : (ins : ℕ) → ins ≤ 2 ^ 32 → AreLetters (codes "X") (numbers ins) × AreLetters (codes "Y") (numbers ins) × AreLetters (codes "E") (numbers ins)
letters_named count small = (
  each_number (λ n. IsName (numbered (codes "X") n)) 0 count (λ n h. x_name n (omega (arith, h, small))),
  each_number (λ n. IsName (numbered (codes "Y") n)) 0 count (λ n h. y_name n (omega (arith, h, small))),
  each_number (λ n. IsName (numbered (codes "E") n)) 0 count (λ n h. e_name n (omega (arith, h, small))),
)

one_number : (letter m n : ℕ) → m < 2 ^ 64 → n < 2 ^ 64 → numbered (letter ∷ []) m ≡ numbered (letter ∷ []) n → m ≡ n
one_number letter m n first second same = decimal_injective m n first second cc

one_letter : (a b m n : ℕ) → numbered (a ∷ []) m ≡ numbered (b ∷ []) n → a ≡ b
one_letter a b m n same = ap (λ (text : List ℕ). get_or text 0 0) same

get_or_default_same : {A : Type 0} (xs : List (List A)) (k : ℕ) (d : List A) → k < length xs → get_or xs k d ≡ get_or xs k []
get_or_default_same [] k d inside = absurd (omega (arith, inside))
get_or_default_same (x ∷ xs) zero d inside = refl
get_or_default_same (x ∷ xs) (suc k) d inside = get_or_default_same xs k d (omega (arith, inside))

-- one more name
counted : (p : List ℕ → Bool) (x : List ℕ) (xs : List (List ℕ)) (b : Bool) (n : ℕ) → p x ≡ b → cond b 1 0 ≡ n → count_by p (x ∷ xs) ≡ n + count_by p xs
counted p x xs b n passes is = sum_by-cons (λ x. cond (p x) 1 0) x xs ∙ ap (λ (first : ℕ). first + count_by p xs) (ap (λ (b : Bool). cond {A = ℕ} b 1 0) passes ∙ is)

none_counted : (p : List ℕ → Bool) (xs : List (List ℕ)) → ((e : ℕ) → e < length xs → p (get_or xs e []) ≡ false) → count_by p xs ≡ 0
none_counted p [] none = refl
none_counted p (x ∷ xs) none = omega (arith, counted p x xs false 0 (none 0 (omega arith)) refl, none_counted p xs (λ e inside. none (suc e) (omega (arith, inside))))

-- where all others fail, one passes at most
counted_once : (p : List ℕ → Bool) (xs : List (List ℕ)) (k : ℕ) → ((e : ℕ) → e < length xs → e ≢ k → p (get_or xs e []) ≡ false) → count_by p xs ≤ 1
counted_once p [] k others = omega arith
counted_once p (x ∷ xs) zero others =
    let rest = none_counted p xs (λ e inside. others (suc e) (omega (arith, inside)) (λ same. omega (arith, same))) in
    by (p x) refl rest
  where
    by : (b : Bool) → p x ≡ b → count_by p xs ≡ 0 → count_by p (x ∷ xs) ≤ 1
    by true e rest = omega (arith, counted p x xs true 1 e refl, rest)
    by false e rest = omega (arith, counted p x xs false 0 e refl, rest)
counted_once p (x ∷ xs) (suc k) others =
    let rest = counted_once p xs k (λ e inside differ. others (suc e) (omega (arith, inside)) (λ same. differ (omega (arith, same)))) in
    omega (arith, rest, counted p x xs false 0 (others 0 (omega arith) (λ same. omega (arith, same))) refl)

not_twice : (n : ℕ) → n ≤ 1 → nat_lt 1 n ≡ false
not_twice n once = grind (arith, nat_tests)

module _ (ins outs inner : ℕ) (few : ins + outs + inner < 2 ^ 32) where
  abbrev pub vars : List (List ℕ)
  vars = letters (codes "X") ins ++ letters (codes "Y") outs ++ letters (codes "E") inner

  abbrev pub Below : ℕ → Type 0
  Below n = n < ins + outs + inner

  -- what a variable is: an input, an output or an inner one
  abbrev IsSort : ℕ → List ℕ → Type 0
  IsSort n text =
      ((n < ins) × (text ≡ numbered (codes "X") n))
      ⊎ ((((ins ≤ n) × (n < ins + outs)) × (text ≡ numbered (codes "Y") (n - ins))) ⊎ ((ins + outs ≤ n) × (text ≡ numbered (codes "E") (n - ins - outs))))

  sort : (n : ℕ) → IsSort n (variable_text ins outs n)
  sort n = by (nat_lt n ins) refl (nat_lt (n - ins) outs) refl where
    by : (a : Bool) → nat_lt n ins ≡ a → (b : Bool) → nat_lt (n - ins) outs ≡ b
        → IsSort n (if a then numbered (codes "X") n else if b then numbered (codes "Y") (n - ins) else numbered (codes "E") (n - ins - outs))
    by true e b f = inl (ltb-true n ins e, refl)
    by false e true f = let past = ltb-false n ins e in let below = ltb-true (n - ins) outs f in inr (inl ((past, omega (arith, past, below)), refl))
    by false e false f = let past = ltb-false n ins e in let above = ltb-false (n - ins) outs f in inr (inr (omega (arith, past, above), refl))

  variable_name : (n : ℕ) → Below n → IsName (variable_text ins outs n)
  variable_name n below = elim (sort n) [
    | inl is ↦ rw is.1 (x_name n (omega (arith, below, few)))
    | inr (inl is) ↦ rw is.1 (y_name (n - ins) (omega (arith, below, few)))
    | inr (inr is) ↦ rw is.1 (e_name (n - ins - outs) (omega (arith, below, few)))
  ]

  variable_fixed : (n : ℕ) → Below n → IsFixedWord kind.Name (variable_text ins outs n)
  variable_fixed n below = elim (sort n) [
    | inl is ↦ rw is.1 (x_fixed n (omega (arith, below, few)))
    | inr (inl is) ↦ rw is.1 (y_fixed (n - ins) (omega (arith, below, few)))
    | inr (inr is) ↦ rw is.1 (e_fixed (n - ins - outs) (omega (arith, below, few)))
  ]

  all_letters : length (letters (codes "X") ins ++ letters (codes "Y") outs) ≡ ins + outs
  all_letters =
      length-append (letters (codes "X") ins) (letters (codes "Y") outs)
      ∙ omega (arith, length-map-range_with_len (numbered (codes "X")) 0 ins, length-map-range_with_len (numbered (codes "Y")) 0 outs)

  pub vars_count : length vars ≡ ins + outs + inner
  vars_count =
      length-append (letters (codes "X") ins ++ letters (codes "Y") outs) (letters (codes "E") inner)
      ∙ omega (arith, all_letters, length-map-range_with_len (numbered (codes "E")) 0 inner)

  variable_at : (n : ℕ) → Below n → variable_text ins outs n ≡ get_or vars n []
  variable_at n below = elim (sort n) [
    | inl is ↦
        rw is.1 (sym (get_or_append_left (xs ++ ys) es [] n (omega (arith, all_letters, is.0)) ∙ get_or_append_left xs ys [] n (omega (arith, x_count, is.0))
        ∙ get_or-map-range_with_len (numbered (codes "X")) 0 ins n n [] is.0 (omega arith)))
    | inr (inl is) ↦
        rw is.1 (sym (get_or_append_left (xs ++ ys) es [] n (omega (arith, all_letters, is.0.1)) ∙ get_or-append_right xs ys ins n [] x_count is.0.0
        ∙ get_or-map-range_with_len (numbered (codes "Y")) 0 outs (n - ins) (n - ins) [] (omega (arith, is.0.0, is.0.1)) (omega arith)))
    | inr (inr is) ↦
        rw is.1 (sym (get_or-append_right (xs ++ ys) es (ins + outs) n [] all_letters is.0
        ∙ get_or-map-range_with_len (numbered (codes "E")) 0 inner (n - (ins + outs)) (n - ins - outs) [] (omega (arith, is.0, below)) (omega (arith, is.0))))
  ]
    where
      xs : List (List ℕ)
      xs = letters (codes "X") ins

      ys : List (List ℕ)
      ys = letters (codes "Y") outs

      es : List (List ℕ)
      es = letters (codes "E") inner

      x_count : length xs ≡ ins
      x_count = length-map-range_with_len (numbered (codes "X")) 0 ins

  -- variables of two sorts have different letters, and those of one sort different numbers
  one_variable : (m n : ℕ) → Below m → Below n → variable_text ins outs m ≡ variable_text ins outs n → m ≡ n
  one_variable m n first second same = by (sort m) (sort n) where
    by : IsSort m (variable_text ins outs m) → IsSort n (variable_text ins outs n) → m ≡ n
    by (inl a) (inl b) = one_number 88 m n (omega (arith, first, few)) (omega (arith, second, few)) (sym a.1 ∙ same ∙ b.1)
    by (inr (inl a)) (inr (inl b)) =
        omega (arith, one_number 89 (m - ins) (n - ins) (omega (arith, first, few)) (omega (arith, second, few)) (sym a.1 ∙ same ∙ b.1), a.0.0, b.0.0)
    by (inr (inr a)) (inr (inr b)) =
        omega (arith, one_number 69 (m - ins - outs) (n - ins - outs) (omega (arith, first, few)) (omega (arith, second, few)) (sym a.1 ∙ same ∙ b.1), a.0, b.0)
    by (inl a) (inr (inl b)) = absurd (omega (arith, one_letter 88 89 m (n - ins) (sym a.1 ∙ same ∙ b.1)))
    by (inl a) (inr (inr b)) = absurd (omega (arith, one_letter 88 69 m (n - ins - outs) (sym a.1 ∙ same ∙ b.1)))
    by (inr (inl a)) (inl b) = absurd (omega (arith, one_letter 89 88 (m - ins) n (sym a.1 ∙ same ∙ b.1)))
    by (inr (inl a)) (inr (inr b)) = absurd (omega (arith, one_letter 89 69 (m - ins) (n - ins - outs) (sym a.1 ∙ same ∙ b.1)))
    by (inr (inr a)) (inl b) = absurd (omega (arith, one_letter 69 88 (m - ins - outs) n (sym a.1 ∙ same ∙ b.1)))
    by (inr (inr a)) (inr (inl b)) = absurd (omega (arith, one_letter 69 89 (m - ins - outs) (n - ins) (sym a.1 ∙ same ∙ b.1)))

  variable_found : (n : ℕ) → Below n → (list_any (bytes_eq (variable_text ins outs n)) vars ≡ true) × (number_of vars (variable_text ins outs n) ≡ n)
  variable_found n below =
      found_at vars (variable_text ins outs n) n (omega (arith, vars_count, below)) (variable_at n below)
      (λ d before same. let e = one_variable n d below (omega (arith, before, below)) (same ∙ sym (variable_at d (omega (arith, before, below)))) in omega (arith, e, before))

  -- no variable stands twice
  pub no_repeats : repeats vars ≡ false
  no_repeats =
      list_any_none (is_twice vars) vars (λ k d inside.
      let small : k < ins + outs + inner = omega (arith, inside, vars_count) in
      let name = get_or vars k d in
      let is : name ≡ variable_text ins outs k = get_or_default_same vars k d inside ∙ sym (variable_at k small) in
      not_twice (count_by (bytes_eq name) vars) (counted_once (bytes_eq name) vars k (λ e within differ.
      let below : e < ins + outs + inner = omega (arith, within, vars_count) in
      other_bytes name (get_or vars e []) (λ same. differ (one_variable e k below small (variable_at e below ∙ sym same ∙ is))))))

  none_in : (name letter : List ℕ) (ns : List ℕ) → ((n : ℕ) → name ≢ numbered letter n) → list_any (bytes_eq name) (map (numbered letter) ns) ≡ false
  none_in name letter [] differ = refl
  none_in name letter (n ∷ ns) differ = rw (other_bytes name (numbered letter n) (differ n)) (none_in name letter ns differ)

  no_variable : (name : List ℕ) → IsFree name → list_any (bytes_eq name) vars ≡ false
  no_variable name free =
      list_any-append (bytes_eq name) (letters (codes "X") ins ++ letters (codes "Y") outs) (letters (codes "E") inner)
      ∙ rw (list_any-append (bytes_eq name) (letters (codes "X") ins) (letters (codes "Y") outs), none_in name (codes "X") (numbers ins) free.no_input, none_in name (codes "Y") (numbers outs) free.no_output, none_in name (codes "E") (numbers inner) free.no_inner) refl

  module _ (names : RelNames) (free : HasFreeNames names) where
    pub are_names : AreNames names (variable_text ins outs) Below
    are_names = record {
      variables = variable_fixed;
      params = λ n h. fixed_name (name_at names.params n) (free_at names.params free.params n h);
      funs = λ n h. fixed_name (name_at names.funs n) (free_at names.funs free.funs n h);
    }

    pub are_words : AreWords names (variable_text ins outs) Below
    are_words = record { variables = variable_name; params = λ n h. (free_at names.params free.params n h).word; funs = λ n h. (free_at names.funs free.funs n h).word }

    pub are_found : AreFound vars names (variable_text ins outs) Below
    are_found = record {
      variables = variable_found;
      params = λ n h. let is = free_found names.params free.params n h in (no_variable (name_at names.params n) (free_at names.params free.params n h), is.0, is.1);
      funs = λ n h. let is = free_found names.funs free.funs n h in (no_variable (name_at names.funs n) (free_at names.funs free.funs n h), is.0, is.1);
    }
