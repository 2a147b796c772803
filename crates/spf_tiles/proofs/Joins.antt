-- Touches of one element, joined.
use Rattle.std.proofs.Common.{◌≡◌, ℕ, ◌+◌, ◌-◌, ◌<◌, ◌≤◌, Bool, true, false, ◌||◌, Option, Some, None, List, [], ◌∷◌, ◌++◌, length, get_or, set, take, All, AllPairs, inl, inr, refl, sym, ap, ◌∙◌, eqb, arith}
use Rattle.std.proofs.Math.Bool.{or-false}
use Rattle.std.proofs.lemmas.Bool.{cases_Bool, cases_lt, eqb-true}
use Rattle.std.proofs.lemmas.List.{get_or_default, take_more}
use Rattle.std.proofs.lemmas.List.Folds.{list_any-append}
use Rattle.std.proofs.lemmas.List.Sorted.{IsPermutation-to_front, list_any-IsPermutation}
use Rattle.std.specs.List.{flat_map, list_any}
use Rattle.std.specs.List.Sorted.{IsPermutation}
use Rattle.spf_touch.proofs.Members.{in_head, in_tail}
use Rattle.spf_touch.proofs.Noted.{noted_at}
use Rattle.spf_touch.specs.ActionLaw.{class_at-noted}
use Rattle.spf_touch.specs.Copy.{class_of, joined, together}
use Rattle.spf_touch.specs.Frame.{IsOnce, class_at}
use Rattle.spf_touch.specs.Noted.{noted}
use Rattle.spf_touch.specs.Ordered.{is_in}
use Rattle.spf_touch.specs.declared.class.Class.{Class}
use Rattle.spf_touch.specs.declared.class.Class.TheVariants.{Read, Write, Add}
use Rattle.spf_touch.specs.declared.touch.Touch.{Touch}
use Rattle.spf_tiles.specs.Joining.{EndsWith, class_by, class_in, is_same, is_touch}

abbrev pub AreRising : List Touch → Type 0
AreRising ts = AllPairs (λ (a b : Touch). a.element < b.element) ts

-- one touch in the place of the last one, of its element
pub joins_last : (ts : List Touch) (k e : ℕ) (c class : Class) (d : Touch) → AreRising ts → EndsWith ts e → k ≡ length ts - 1 → class ≡ together (get_or ts k d).class c →
    set ts k (record { element = e; class = class }) ≡ noted ts e c
joins_last ts k e c class d rising ends at is =
    let inside : k < length ts = omega (arith, ends.some) in
    let last : (d' : Touch) → (get_or ts k d').element ≡ e = λ d'. rw at (ends.last d') in
    rw is (sym (noted_at ts k e c d inside (λ j d' less same. omega (arith, rising j k d' less inside, last d', same)) (last d)))

pub all_below : (ts : List Touch) (t : Touch) → AreRising ts → All (λ (o : Touch). o.element ≤ t.element) ts → (EndsWith ts t.element → ⊥) → All (λ (o : Touch). o.element < t.element) ts
all_below ts t rising behind not k d inside = elim (cases_lt k (length ts - 1)) [
  | inl less ↦ omega (arith, rising k (length ts - 1) d less (omega arith), behind (length ts - 1) d (omega arith))
  | inr last ↦
      let is : k ≡ length ts - 1 = omega arith in
      elim (cases_lt (get_or ts k d).element t.element) [
        | inl lt ↦ lt
        | inr ge ↦ absurd (not (record { some = omega arith; last = λ d'. rw (← is, get_or_default ts k d' d inside) (omega (arith, ge, behind k d inside)) }))
      ]
]

flags : (c : Class) (r w a : Bool) → class_by (r || (is_same Read c || false)) (w || (is_same Write c || false)) (a || (is_same Add c || false)) ≡ joined (class_by r w a) (Some c)
flags Read r true a = refl
flags Read true false true = refl
flags Read true false false = refl
flags Read false false true = refl
flags Read false false false = refl
flags Write r true a = refl
flags Write true false true = refl
flags Write true false false = refl
flags Write false false true = refl
flags Write false false false = refl
flags Add r true a = refl
flags Add true false true = refl
flags Add true false false = refl
flags Add false false true = refl
flags Add false false false = refl

off : (r w a : Bool) → class_by (r || false) (w || false) (a || false) ≡ class_by r w a
off r w a = rw (or-false r, or-false w, or-false a) refl

-- one touch more
module _ (ts : List Touch) (t : Touch) (e : ℕ) where
  split_off : class_in (ts ++ t ∷ []) e ≡ class_by (list_any (is_touch e Read) ts || (is_touch e Read t || false)) (list_any (is_touch e Write) ts || (is_touch e Write t || false)) (list_any (is_touch e Add) ts || (is_touch e Add t || false))
  split_off = rw (list_any-append (is_touch e Read) ts (t ∷ []), list_any-append (is_touch e Write) ts (t ∷ []), list_any-append (is_touch e Add) ts (t ∷ [])) refl

  pub more_here : eqb t.element e ≡ true → class_in (ts ++ t ∷ []) e ≡ joined (class_in ts e) (Some t.class)
  more_here here = split_off ∙ rw here (flags t.class (list_any (is_touch e Read) ts) (list_any (is_touch e Write) ts) (list_any (is_touch e Add) ts))

  pub more_other : eqb t.element e ≡ false → class_in (ts ++ t ∷ []) e ≡ class_in ts e
  more_other other = split_off ∙ rw other (off (list_any (is_touch e Read) ts) (list_any (is_touch e Write) ts) (list_any (is_touch e Add) ts))

pub class_in_moved : (xs ys : List Touch) (e : ℕ) → IsPermutation xs ys → class_in xs e ≡ class_in ys e
class_in_moved xs ys e moved = rw (list_any-IsPermutation (is_touch e Read) xs ys moved, list_any-IsPermutation (is_touch e Write) xs ys moved, list_any-IsPermutation (is_touch e Add) xs ys moved) refl

together_turned : (c d : Class) → together c d ≡ together d c
together_turned Read Read = refl
together_turned Read Write = refl
together_turned Read Add = refl
together_turned Write Read = refl
together_turned Write Write = refl
together_turned Write Add = refl
together_turned Add Read = refl
together_turned Add Write = refl
together_turned Add Add = refl

joined_turned : (x : Option Class) (c : Class) → joined x (Some c) ≡ joined (Some c) x
joined_turned None c = refl
joined_turned (Some d) c = ap (λ k. Some k) (together_turned d c)

-- touches of one unit in front of others
gathered : (ts rest : List Touch) (e : ℕ) → IsOnce ts → class_in (ts ++ rest) e ≡ joined (class_at ts e) (class_in rest e)
gathered [] rest e once = refl
gathered (t ∷ ts) rest e once =
    let moved = class_in_moved ((ts ++ rest) ++ t ∷ []) (t ∷ (ts ++ rest)) e (IsPermutation-to_front (ts ++ rest) t) in
    let back = gathered ts rest e once.1 in
    elim (cases_Bool (eqb t.element e)) [
      | inl here ↦
          let none : class_at ts e ≡ None = rw (eqb-true t.element e here) at once.0 in
          let first : class_at (t ∷ ts) e ≡ Some t.class = rw here refl in
          sym moved ∙ more_here (ts ++ rest) t e here ∙ ap (λ x. joined x (Some t.class)) (back ∙ ap (λ x. joined x (class_in rest e)) none) ∙ joined_turned (class_in rest e) t.class
          ∙ ap (λ x. joined x (class_in rest e)) (sym first)
      | inr other ↦
          let first : class_at (t ∷ ts) e ≡ class_at ts e = rw other refl in
          sym moved ∙ more_other (ts ++ rest) t e other ∙ back ∙ ap (λ x. joined x (class_in rest e)) (sym first)
    ]

-- all touches of a list of units
pub gathered_all : (touches : ℕ → List Touch) (us : List ℕ) (e : ℕ) → ((u : ℕ) → is_in us u ≡ true → IsOnce (touches u)) → class_in (flat_map touches us) e ≡ class_of touches us e
gathered_all touches [] e once = refl
gathered_all touches (u ∷ us) e once =
    gathered (touches u) (flat_map touches us) e (once u (in_head u us)) ∙ ap (joined (class_at (touches u) e)) (gathered_all touches us e (λ v h. once v (in_tail u us v h)))

pub step_joined : (ts foot : List Touch) (k : ℕ) (d t : Touch) → k < length ts → get_or ts k d ≡ t → ((e : ℕ) → class_at foot e ≡ class_in (take k ts) e) →
    (e : ℕ) → class_at (noted foot t.element t.class) e ≡ class_in (take (k + 1) ts) e
step_joined ts foot k d t inside is old e =
    let more : take (k + 1) ts ≡ take k ts ++ t ∷ [] = take_more ts k d inside ∙ ap (λ x. take k ts ++ x ∷ []) is in
    let new = class_at-noted foot t.element t.class e in
    elim (cases_Bool (eqb t.element e)) [
      | inl here ↦ (rw here at new) ∙ ap (λ x. joined x (Some t.class)) (old e) ∙ sym (more_here (take k ts) t e here) ∙ ap (λ l. class_in l e) (sym more)
      | inr other ↦ (rw other at new) ∙ old e ∙ sym (more_other (take k ts) t e other) ∙ ap (λ l. class_in l e) (sym more)
    ]
