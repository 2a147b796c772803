-- Touches that are found by the markers of their elements.
use Rattle.std.proofs.Common.{◌≡◌, ℕ, ◌+◌, ◌-◌, ◌<◌, ◌≤◌, ◌^◌, List, [], ◌∷◌, ◌++◌, length, get_or, set, take, drop, inl, inr, sym, ap, ◌∙◌, subst, arith}
use Rattle.std.proofs.lemmas.Bool.{cases_order, cases_eq}
use Rattle.std.proofs.lemmas.List.{drop-append-le, drop-set-add, get_or-drop, length-drop, length-set, get_or-set_same, get_or-set_other, get_or_push, get_or_append_left, get_or_default, length_push, drop_all}
use Rattle.spf_touch.specs.Copy.{together}
use Rattle.spf_touch.specs.Frame.{IsOnce}
use Rattle.spf_touch.specs.Lists.{AreMarked, AreNoted, StandsAt, cut, open_list, start_of}
use Rattle.spf_touch.specs.Noted.{noted}
use Rattle.spf_touch.specs.declared.class.Class.{Class}
use Rattle.spf_touch.specs.declared.touch.Touch.{Touch}
use Rattle.spf_touch.proofs.Lists.{lists-push, same_cut, same_lists, start-push}
use Rattle.spf_touch.proofs.Noted.{NotBefore, noted_at, noted_new}

module _ (start : ℕ) (ts : List Touch) (markers : List ℕ) (marked : AreMarked start ts markers) (e : ℕ) (c : Class) where
  -- the touch at the marker of its element is the only one of that element
  pub marked_at : (k : ℕ) (d : Touch) → k < length ts → (get_or ts k d).element ≡ e →
      set ts k (record { element = e; class = together (get_or ts k d).class c }) ≡ noted ts e c
  marked_at k d inside here =
      sym (noted_at ts k e c d inside (λ j d' before same.
      let there = marked j d' (omega arith) in
      let mine = marked k d inside in
      let both : start + j ≡ start + k = sym there ∙ ap (λ x. get_or markers x 0) (same ∙ sym here) ∙ mine in
      omega arith) here)

  -- what is written there changes no element
  pub marked_again : (k : ℕ) (d t : Touch) → k < length ts → (get_or ts k d).element ≡ t.element → AreMarked start (set ts k t) markers
  marked_again k d t inside same j d' below =
      let low : j < length ts = subst (λ n. j < n) (length-set ts k t) below in
      let at : (get_or (set ts k t) j d').element ≡ (get_or ts j d').element = elim (cases_eq j k) [
        | inl here ↦ ap (λ n. (get_or (set ts k t) n d').element) here ∙ ap (λ x. x.element) (get_or-set_same ts k t d' inside) ∙ sym same ∙
            ap (λ x. x.element) (get_or_default ts k d d' inside) ∙ ap (λ n. (get_or ts n d').element) (sym here)
        | inr other ↦ ap (λ x. x.element) (get_or-set_other ts k j t d' other)
      ] in
      ap (λ x. get_or markers x 0) at ∙ marked j d' low

  module _ (new : (k : ℕ) (d : Touch) → k < length ts → get_or markers e 0 ≡ start + k → (get_or ts k d).element ≡ e → ⊥) where
    none : NotBefore ts (length ts) e
    none k d inside same = new k d inside (ap (λ x. get_or markers x 0) (sym same) ∙ marked k d inside) same

    -- an element that isn't found is new
    pub marked_new : noted ts e c ≡ ts ++ record { element = e; class = c } ∷ []
    marked_new = noted_new ts e c none

    pub marked_more : e < length markers → AreMarked start (ts ++ record { element = e; class = c } ∷ []) (set markers e (start + length ts))
    marked_more inside k d below = elim (cases_order k (length ts)) [
      | inl last ↦
          let at = get_or_push ts (record { element = e; class = c }) d k (sym last) in
          ap (λ (t : Touch). get_or (set markers e (start + length ts)) t.element 0) at ∙ get_or-set_same markers e (start + length ts) 0 inside ∙ ap (λ n. start + n) (sym last)
      | inr (inl less) ↦
          let at = get_or_append_left ts (record { element = e; class = c } ∷ []) d k less in
          ap (λ (t : Touch). get_or (set markers e (start + length ts)) t.element 0) at ∙
          get_or-set_other markers e (get_or ts k d).element (start + length ts) 0 (none k d less) ∙ marked k d less
      | inr (inr more) ↦ absurd (omega (arith, length_push ts (record { element = e; class = c })))
    ]

-- what the code writes where the marker leads to a touch of the element
module _ (touches : List Touch) (start place : ℕ) (e : ℕ) (c : Class) (markers : List ℕ) (marked : AreMarked start (drop start touches) markers) (stands : StandsAt touches start place e) where
  abbrev k : ℕ
  k = place - start

  whole : start + k ≡ place
  whole = omega (arith, stands.behind)

  within : k < length (drop start touches)
  within = omega (arith, length-drop start touches, stands.behind, stands.inside)

  read : (d : Touch) → get_or (drop start touches) k d ≡ get_or touches place d
  read d = get_or-drop start touches k d ∙ ap (λ n. get_or touches n d) whole

  written : (t : Touch) → drop start (set touches place t) ≡ set (drop start touches) k t
  written t = ap (λ n. drop start (set touches n t)) (sym whole) ∙ drop-set-add start touches k t

  module _ (y : Touch) (j : Class) (at : y ≡ get_or touches place y) (class : j ≡ together y.class c) where
    pub noted_there : drop start (set touches place (record { element = e; class = j })) ≡ noted (drop start touches) e c
    noted_there =
        written (record { element = e; class = j }) ∙
        ap (λ (x : Class). set (drop start touches) k (record { element = e; class = x })) (class ∙ ap (λ (t : Touch). together t.class c) (at ∙ sym (read y))) ∙
        marked_at start (drop start touches) markers marked e c k y within (ap (λ (t : Touch). t.element) (read y) ∙ stands.same y)

    pub marked_there : AreMarked start (drop start (set touches place (record { element = e; class = j }))) markers
    marked_there = subst (λ (ts : List Touch). AreMarked start ts markers) (sym (written (record { element = e; class = j })))
        (marked_again start (drop start touches) markers marked e c k y (record { element = e; class = j }) within (ap (λ (t : Touch). t.element) (read y) ∙ stands.same y))

-- and where it doesn't
module _ (touches : List Touch) (start place : ℕ) (e : ℕ) (c : Class) (markers : List ℕ) (marked : AreMarked start (drop start touches) markers) (low : start ≤ length touches)
    (at : get_or markers e 0 ≡ place) (missing : StandsAt touches start place e → ⊥) where
  new : (k : ℕ) (d : Touch) → k < length (drop start touches) → get_or markers e 0 ≡ start + k → (get_or (drop start touches) k d).element ≡ e → ⊥
  new k d inside here same =
      let is : start + k ≡ place = sym here ∙ at in
      missing (record {
        behind = omega arith;
        inside = omega (arith, length-drop start touches);
        same = λ d'. ap (λ n. (get_or touches n d').element) (sym is) ∙ ap (λ (t : Touch). t.element) (sym (get_or-drop start touches k d')) ∙
            ap (λ (t : Touch). t.element) (get_or_default (drop start touches) k d' d inside) ∙ same;
      })

  pushed : (t : Touch) → drop start (touches ++ t ∷ []) ≡ drop start touches ++ t ∷ []
  pushed t = drop-append-le start touches (t ∷ []) low

  pub noted_behind : drop start (touches ++ record { element = e; class = c } ∷ []) ≡ noted (drop start touches) e c
  noted_behind = pushed (record { element = e; class = c }) ∙ sym (marked_new start (drop start touches) markers marked e c new)

  pub marked_behind : e < length markers → AreMarked start (drop start (touches ++ record { element = e; class = c } ∷ [])) (set markers e (length touches))
  marked_behind inside =
      let end : start + length (drop start touches) ≡ length touches = omega (arith, length-drop start touches) in
      subst (λ (ts : List Touch). AreMarked start ts (set markers e (length touches))) (sym (pushed (record { element = e; class = c })))
      (subst (λ (n : ℕ). AreMarked start (drop start touches ++ record { element = e; class = c } ∷ []) (set markers e n)) end
      (marked_more start (drop start touches) markers marked e c new inside))

pub opened : (touches : List Touch) (ends : List ℕ) → open_list touches (ends ++ length touches ∷ []) ≡ []
opened touches ends = ap (λ n. drop n touches) (start-push 0 ends (length touches)) ∙ drop_all (length touches) touches (omega arith)

-- the list at work is finished, and nothing is noted in the next one so far
pub closed : (touches : List Touch) (ends markers : List ℕ) → AreNoted touches ends markers → length ends + 1 < 2 ^ 32 → AreNoted touches (ends ++ length touches ∷ []) markers
closed touches ends markers noted room =
    let empty = opened touches ends in
    record {
      cut = record {
        lists = lists-push touches 0 ends noted.cut.lists noted.once;
        few_lists = omega (arith, length_push ends (length touches), room);
        few_touches = noted.cut.few_touches;
      };
      once = subst IsOnce (sym empty) tt;
      marked = λ k d inside. absurd (omega (arith, ap length empty, inside));
    }

-- one access more in the list at work
module _ (touches : List Touch) (ends markers : List ℕ) (noted : AreNoted touches ends markers) (more : List Touch) (after : List ℕ) where
  abbrev start : ℕ
  start = start_of 0 ends (length ends)

  module _ (same : take start more ≡ take start touches) (inside : start ≤ length more) where
    pub closed_same : cut more 0 ends ≡ cut touches 0 ends
    closed_same = same_cut touches more start same 0 ends noted.cut.lists (omega arith)

    pub noted_more : length more < 2 ^ 32 → IsOnce (drop start more) → AreMarked start (drop start more) after → AreNoted more ends after
    noted_more few once marked = record {
      cut = record {
        lists = same_lists touches more start same 0 ends noted.cut.lists (omega arith) inside;
        few_lists = noted.cut.few_lists;
        few_touches = few;
      };
      once = once;
      marked = marked;
    }
