-- What is known of the tiles of every history.
use Rattle.std.proofs.Common.{◌≡◌, ℕ, ◌<◌, ◌≤◌, ◌⊎◌, true, false, ◌&&◌, not, List, [], ◌∷◌, ◌++◌, length, inl, inr, refl, sym, ap, ◌∙◌, eqb}
use Rattle.std.proofs.lemmas.Bool.{and_from, and_parts, eqb-true, false≢true, not-true, not_from_false, or_cases, or_left, or_right, or_parts, eq-eqb}
use Rattle.spf_touch.specs.Ordered.{is_in}
use Rattle.spf_touch.proofs.Members.{in_append}
use Rattle.spf_core.specs.History.{MayClaim, claimed_tiles, has_claimed, holds, is_before, published_tiles}
use Rattle.spf_core.specs.declared.event.Event.{Event}
use Rattle.spf_core.specs.declared.event.Event.TheVariants.{Claim, Publish}
use Rattle.spf_core.proofs.Events.{claimed-claim, claimed-publish, has_claimed-claim, has_claimed-publish, published-claim, published-publish}

pub in_old : (xs : List ℕ) (x n : ℕ) → is_in xs n ≡ true → is_in (xs ++ x ∷ []) n ≡ true
in_old xs x n h = in_append xs (x ∷ []) n ∙ or_left (is_in xs n) (is_in (x ∷ []) n) h

pub in_new : (xs : List ℕ) (x : ℕ) → is_in (xs ++ x ∷ []) x ≡ true
in_new xs x = in_append xs (x ∷ []) x ∙ or_right (is_in xs x) (is_in (x ∷ []) x) (or_left (eqb x x) false (eq-eqb x x refl))

pub in_push : (xs : List ℕ) (x n : ℕ) → is_in (xs ++ x ∷ []) n ≡ true → (is_in xs n ≡ true) ⊎ (n ≡ x)
in_push xs x n h = elim (or_cases (is_in xs n) (is_in (x ∷ []) n) (sym (in_append xs (x ∷ []) n) ∙ h)) [
  | inl old ↦ inl old
  | inr last ↦ elim (or_cases (eqb n x) false last) [ inl new ↦ inr (eqb-true n x new) | inr never ↦ absurd (false≢true never) ]
]

pub out_push : (xs : List ℕ) (x n : ℕ) → is_in (xs ++ x ∷ []) n ≡ false → (is_in xs n ≡ false) × (n ≡ x → ⊥)
out_push xs x n h =
    let parts = or_parts (is_in xs n) (is_in (x ∷ []) n) (sym (in_append xs (x ∷ []) n) ∙ h) in
    (parts.0, λ same. false≢true (sym (or_parts (eqb n x) false parts.1).0 ∙ eq-eqb n x same))

pub holds_parts : (es : List Event) (w t : ℕ) → holds es w t ≡ true → (has_claimed es w t ≡ true) × (is_in (published_tiles es) t ≡ false)
holds_parts es w t h =
    let parts = and_parts (has_claimed es w t) (not (is_in (published_tiles es) t)) h in
    (parts.0, not-true (is_in (published_tiles es) t) parts.1)

pub holds_from : (es : List Event) (w t : ℕ) → has_claimed es w t ≡ true → is_in (published_tiles es) t ≡ false → holds es w t ≡ true
holds_from es w t h k = and_from (has_claimed es w t) (not (is_in (published_tiles es) t)) h (not_from_false (is_in (published_tiles es) t) k)

pub claimed_cases : (es : List Event) (w t v s : ℕ) → has_claimed (es ++ Claim w t ∷ []) v s ≡ true → (has_claimed es v s ≡ true) ⊎ ((v ≡ w) × (s ≡ t))
claimed_cases es w t v s h = elim (or_cases (has_claimed es v s) ((eqb v w) && (eqb s t)) (sym (has_claimed-claim es w t v s) ∙ h)) [
  | inl old ↦ inl old
  | inr new ↦ let same = and_parts (eqb v w) (eqb s t) new in inr (eqb-true v w same.0, eqb-true s t same.1)
]

-- who holds after a claim held before, or has just claimed
pub holds-claim : (es : List Event) (w t v s : ℕ) → holds (es ++ Claim w t ∷ []) v s ≡ true → (holds es v s ≡ true) ⊎ ((v ≡ w) × (s ≡ t))
holds-claim es w t v s h =
    let parts = holds_parts (es ++ Claim w t ∷ []) v s h in
    let out : is_in (published_tiles es) s ≡ false = ap (λ l. is_in l s) (sym (published-claim es w t)) ∙ parts.1 in
    elim (or_cases (has_claimed es v s) ((eqb v w) && (eqb s t)) (sym (has_claimed-claim es w t v s) ∙ parts.0)) [
      | inl old ↦ inl (holds_from es v s old out)
      | inr new ↦ let same = and_parts (eqb v w) (eqb s t) new in inr (eqb-true v w same.0, eqb-true s t same.1)
    ]

-- who holds after a publication held before, another tile
pub holds-publish : (es : List Event) (w t v s : ℕ) → holds (es ++ Publish w t ∷ []) v s ≡ true → (holds es v s ≡ true) × (s ≡ t → ⊥)
holds-publish es w t v s h =
    let parts = holds_parts (es ++ Publish w t ∷ []) v s h in
    let out = out_push (published_tiles es) t s (ap (λ l. is_in l s) (sym (published-publish es w t)) ∙ parts.1) in
    (holds_from es v s (sym (has_claimed-publish es w t v s) ∙ parts.0) out.0, out.1)

-- what is known of the tiles of every history
pub record Marks (order : List (List ℕ)) (workers : ℕ) (es : List Event) : Type 0 where
  pub ranged : (w t : ℕ) → has_claimed es w t ≡ true → (1 ≤ w) × (w ≤ workers)
  pub sole : (v w t : ℕ) → has_claimed es v t ≡ true → has_claimed es w t ≡ true → v ≡ w
  pub inside : (t : ℕ) → is_in (claimed_tiles es) t ≡ true → t < length order
  pub taken : (w t : ℕ) → has_claimed es w t ≡ true → is_in (claimed_tiles es) t ≡ true
  pub given : (t : ℕ) → is_in (published_tiles es) t ≡ true → is_in (claimed_tiles es) t ≡ true
  pub ready : (s t : ℕ) → is_in (claimed_tiles es) t ≡ true → is_before order s t ≡ true → is_in (published_tiles es) s ≡ true
  pub single : (w s t : ℕ) → holds es w s ≡ true → holds es w t ≡ true → s ≡ t

pub no_marks : (order : List (List ℕ)) (workers : ℕ) → Marks order workers []
no_marks order workers = record { ranged = λ w t h. cc; sole = λ v w t h k. cc; inside = λ t h. cc; taken = λ w t h. cc; given = λ t h. cc; ready = λ s t h k. cc; single = λ w s t h k. cc }

module _ (order : List (List ℕ)) (workers : ℕ) (es : List Event) (m : Marks order workers es) (w t : ℕ) where
  pub marks_claim : MayClaim order workers es w t → Marks order workers (es ++ Claim w t ∷ [])
  marks_claim may = record {
    ranged = λ v s h. elim (claimed_cases es w t v s h) [
      | inl old ↦ m.ranged v s old
      | inr new ↦ rw new.0 may.worker
    ];
    sole = λ v u s h k. elim (claimed_cases es w t v s h) [
      | inl old ↦ elim (claimed_cases es w t u s k) [
        | inl old' ↦ m.sole v u s old old'
        | inr new' ↦ absurd (false≢true (sym may.unclaimed ∙ m.taken v t (rw new'.1 at old)))
      ]
      | inr new ↦ elim (claimed_cases es w t u s k) [
        | inl old' ↦ absurd (false≢true (sym may.unclaimed ∙ m.taken u t (rw new.1 at old')))
        | inr new' ↦ new.0 ∙ sym new'.0
      ]
    ];
    inside = λ s h. elim (in_push (claimed_tiles es) t s (ap (λ l. is_in l s) (sym (claimed-claim es w t)) ∙ h)) [
      | inl old ↦ m.inside s old
      | inr new ↦ rw new may.tile
    ];
    taken = λ v s h. ap (λ l. is_in l s) (claimed-claim es w t) ∙ elim (or_cases (has_claimed es v s) ((eqb v w) && (eqb s t)) (sym (has_claimed-claim es w t v s) ∙ h)) [
      | inl old ↦ in_old (claimed_tiles es) t s (m.taken v s old)
      | inr new ↦ rw (eqb-true s t (and_parts (eqb v w) (eqb s t) new).1) (in_new (claimed_tiles es) t)
    ];
    given = λ s h. ap (λ l. is_in l s) (claimed-claim es w t) ∙ in_old (claimed_tiles es) t s (m.given s (ap (λ l. is_in l s) (sym (published-claim es w t)) ∙ h));
    ready = λ r s h k. ap (λ l. is_in l r) (published-claim es w t) ∙ elim (in_push (claimed_tiles es) t s (ap (λ l. is_in l s) (sym (claimed-claim es w t)) ∙ h)) [
      | inl old ↦ m.ready r s old k
      | inr new ↦ may.ready r (rw new at k)
    ];
    single = λ v r s h k. elim (holds-claim es w t v r h) [
      | inl old ↦ elim (holds-claim es w t v s k) [
        | inl old' ↦ m.single v r s old old'
        | inr new' ↦ absurd (false≢true (sym (may.idle r) ∙ (rw new'.0 at old)))
      ]
      | inr new ↦ elim (holds-claim es w t v s k) [
        | inl old' ↦ absurd (false≢true (sym (may.idle s) ∙ (rw new.0 at old')))
        | inr new' ↦ new.1 ∙ sym new'.1
      ]
    ];
  }

  pub marks_publish : holds es w t ≡ true → Marks order workers (es ++ Publish w t ∷ [])
  marks_publish held = record {
    ranged = λ v s h. m.ranged v s (sym (has_claimed-publish es w t v s) ∙ h);
    sole = λ v u s h k. m.sole v u s (sym (has_claimed-publish es w t v s) ∙ h) (sym (has_claimed-publish es w t u s) ∙ k);
    inside = λ s h. m.inside s (ap (λ l. is_in l s) (sym (claimed-publish es w t)) ∙ h);
    taken = λ v s h. ap (λ l. is_in l s) (claimed-publish es w t) ∙ m.taken v s (sym (has_claimed-publish es w t v s) ∙ h);
    given = λ s h. ap (λ l. is_in l s) (claimed-publish es w t) ∙ elim (in_push (published_tiles es) t s (ap (λ l. is_in l s) (sym (published-publish es w t)) ∙ h)) [
      | inl old ↦ m.given s old
      | inr new ↦ rw new (m.taken w t (holds_parts es w t held).0)
    ];
    ready = λ r s h k. ap (λ l. is_in l r) (published-publish es w t) ∙ in_old (published_tiles es) t r (m.ready r s (ap (λ l. is_in l s) (sym (claimed-publish es w t)) ∙ h) k);
    single = λ v r s h k. m.single v r s (holds-publish es w t v r h).0 (holds-publish es w t v s k).0;
  }
