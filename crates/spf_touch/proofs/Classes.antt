-- What two classes at one element allow.
use Rattle.std.proofs.Common.{◌≡◌, ℕ, ℤ, Bool, true, false, Option, Some, None, List, [], ◌∷◌, suc, inl, inr, refl, sym, ◌∙◌, subst, arith, eqb}
use Rattle.std.proofs.lemmas.Bool.{eqb-true, cond-true, cases_Bool, or_cases}
use Rattle.std.specs.Prelude.{Any, IsSome}
use Rattle.spf_touch.specs.Conflict.{Clash, Conflict, is_shared}
use Rattle.spf_touch.specs.Copy.{joined, class_of}
use Rattle.spf_touch.specs.Frame.{class_at, blend_at, is_seen}
use Rattle.spf_touch.specs.Ordered.{is_in}
use Rattle.spf_touch.proofs.Members.{in_head, in_tail}
use Rattle.spf_touch.specs.declared.class.Class.{Class}
use Rattle.spf_touch.specs.declared.class.Class.TheVariants.{Read, Write, Add}
use Rattle.spf_touch.specs.declared.touch.Touch.{Touch}

-- two classes at one element that don't clash
abbrev pub is_free : Option Class → Option Class → Bool
is_free None d = true
is_free (Some c) None = true
is_free (Some c) (Some d) = is_shared c d

pub shared_same : (c d : Class) → is_shared c d ≡ true → c ≡ d
shared_same Read Read h = refl
shared_same Read Write h = cc
shared_same Read Add h = cc
shared_same Write Read h = cc
shared_same Write Write h = cc
shared_same Write Add h = cc
shared_same Add Read h = cc
shared_same Add Write h = cc
shared_same Add Add h = refl

pub free_turned : (c d : Option Class) → is_free c d ≡ true → is_free d c ≡ true
free_turned None None h = refl
free_turned None (Some d) h = refl
free_turned (Some c) None h = refl
free_turned (Some c) (Some d) h = let e = shared_same c d h in rw (← e) (rw (← e) at h)

shared_turned : (c d : Class) (b : Bool) → is_shared c d ≡ b → is_shared d c ≡ b
shared_turned Read Read b h = h
shared_turned Read Write b h = h
shared_turned Read Add b h = h
shared_turned Write Read b h = h
shared_turned Write Write b h = h
shared_turned Write Add b h = h
shared_turned Add Read b h = h
shared_turned Add Write b h = h
shared_turned Add Add b h = h

pub conflict_turned : (a b : List Touch) → Conflict a b → Conflict b a
conflict_turned a b (k, s, inside, at, (j, t, inside', at', clash)) = (j, t, inside', at', (k, s, inside, at, (sym clash.0, shared_turned s.class t.class false clash.1)))

-- classes that are free of a third are so together
pub free_joined : (c d x : Option Class) → is_free c x ≡ true → is_free d x ≡ true → is_free (joined c d) x ≡ true
free_joined None d x h k = k
free_joined (Some c) None x h k = h
free_joined (Some c) (Some d) None h k = refl
free_joined (Some c) (Some d) (Some x) h k =
    let e : is_shared c d ≡ true = let p = shared_same c x h in let q = shared_same d x k in rw (q ∙ sym p) (rw (← p) at h) in
    rw (cond-true (is_shared c d) c Write e) h

-- what is free of a class at which a unit looks keeps the old value
pub free_keeps : (c d : Option Class) (old new : ℤ) → is_free c d ≡ true → is_seen c ≡ true → blend_at d old new ≡ old
free_keeps None d old new h k = cc
free_keeps (Some c) None old new h k = refl
free_keeps (Some Read) (Some Read) old new h k = refl
free_keeps (Some Read) (Some Write) old new h k = cc
free_keeps (Some Read) (Some Add) old new h k = cc
free_keeps (Some Write) (Some d) old new h k = cc
free_keeps (Some Add) (Some d) old new h k = cc

any_later : (P : Touch → Type 0) (t : Touch) (ts : List Touch) → Any P ts → Any P (t ∷ ts)
any_later P t ts a = (suc a.0, a.1, omega arith, a.3, a.4)

-- a class of a list of touches is that of some touch
touch_at : (P : Touch → Type 0) (ts : List Touch) (e : ℕ) (c : Class) → class_at ts e ≡ Some c → ((t : Touch) → t.element ≡ e → t.class ≡ c → P t) → Any P ts
touch_at P [] e c h p = cc
touch_at P (t ∷ ts) e c h p = elim (cases_Bool (eqb t.element e)) [
  | inl same ↦ let k : Some t.class ≡ Some c = rw same at h in (0, t, omega arith, refl, p t (eqb-true _ _ same) (cc))
  | inr other ↦ any_later P t ts (touch_at P ts e c (rw other at h) p)
]

conflict_from : (a b : List Touch) (e : ℕ) (c d : Class) → class_at a e ≡ Some c → class_at b e ≡ Some d → is_shared c d ≡ false → Conflict a b
conflict_from a b e c d h k n =
    touch_at (λ s. Any (Clash s) b) a e c h (λ s at class. touch_at (Clash s) b e d k (λ t at' class'. (at ∙ sym at', rw (class, class') n)))

free_cases : (a b : List Touch) → (Conflict a b → ⊥) → (e : ℕ) (c d : Option Class) → class_at a e ≡ c → class_at b e ≡ d → is_free c d ≡ true
free_cases a b n e None d h k = refl
free_cases a b n e (Some c) None h k = refl
free_cases a b n e (Some c) (Some d) h k = elim (cases_Bool (is_shared c d)) [
  | inl shared ↦ shared
  | inr clash ↦ absurd (n (conflict_from a b e c d h k clash))
]

-- the classes of lists that don't conflict are free of each other
pub free_from : (a b : List Touch) → (Conflict a b → ⊥) → (e : ℕ) → is_free (class_at a e) (class_at b e) ≡ true
free_from a b n e = free_cases a b n e _ _ refl refl

-- what is free of each unit of a list is free of the list's class
pub free_of_all : (touches : ℕ → List Touch) (us : List ℕ) (e : ℕ) (x : Option Class) → ((u : ℕ) → is_in us u ≡ true → is_free (class_at (touches u) e) x ≡ true) → is_free (class_of touches us e) x ≡ true
free_of_all touches [] e x h = refl
free_of_all touches (u ∷ us) e x h =
    free_joined (class_at (touches u) e) (class_of touches us e) x (h u (in_head u us)) (free_of_all touches us e x (λ v k. h v (in_tail u us v k)))

-- a class that stands for both, so that whoever looks at the second looks at the first
abbrev pub covers : Option Class → Option Class → Bool
covers c None = true
covers None (Some d) = false
covers (Some Write) (Some d) = true
covers (Some c) (Some d) = is_shared c d

shared_itself : (c : Class) → covers (Some c) (Some c) ≡ true
shared_itself Read = refl
shared_itself Write = refl
shared_itself Add = refl

pub joined_covers_first : (c d : Option Class) → covers (joined c d) c ≡ true
joined_covers_first None d = refl
joined_covers_first (Some c) None = shared_itself c
joined_covers_first (Some c) (Some d) = elim (cases_Bool (is_shared c d)) [
  | inl shared ↦ rw shared (shared_itself c)
  | inr clash ↦ rw clash refl
]

joined_covers_second : (c d x : Option Class) → covers d x ≡ true → covers (joined c d) x ≡ true
joined_covers_second c d None h = refl
joined_covers_second None d (Some x) h = h
joined_covers_second (Some c) None (Some x) h = cc
joined_covers_second (Some c) (Some d) (Some x) h = elim (cases_Bool (is_shared c d)) [
  | inl shared ↦ rw shared (rw (shared_same c d shared) h)
  | inr clash ↦ rw clash refl
]

-- the class of a list covers that of each of its units
pub class_of_covers : (touches : ℕ → List Touch) (us : List ℕ) (e u : ℕ) → is_in us u ≡ true → covers (class_of touches us e) (class_at (touches u) e) ≡ true
class_of_covers touches [] e u h = cc
class_of_covers touches (x ∷ us) e u h = elim (or_cases (eqb u x) (is_in us u) h) [
  | inl here ↦ rw (eqb-true u x here) (joined_covers_first (class_at (touches x) e) (class_of touches us e))
  | inr later ↦ joined_covers_second (class_at (touches x) e) (class_of touches us e) _ (class_of_covers touches us e u later)
]

-- a unit looks only where its list looks
pub seen_covered : (c d : Option Class) → covers c d ≡ true → is_seen d ≡ true → is_seen c ≡ true
seen_covered c None h k = cc
seen_covered None (Some d) h k = cc
seen_covered (Some Write) (Some d) h k = refl
seen_covered (Some Read) (Some d) h k = refl
seen_covered (Some Add) (Some d) h k = subst (λ c. is_seen (Some c) ≡ true) (sym (shared_same Add d h)) k

pub covers_trans : (c d x : Option Class) → covers c d ≡ true → covers d x ≡ true → covers c x ≡ true
covers_trans c d None h k = refl
covers_trans c None (Some x) h k = cc
covers_trans None (Some d) (Some x) h k = cc
covers_trans (Some Write) (Some d) (Some x) h k = refl
covers_trans (Some Read) (Some d) (Some x) h k = subst (λ c. covers (Some c) (Some x) ≡ true) (sym (shared_same Read d h)) k
covers_trans (Some Add) (Some d) (Some x) h k = subst (λ c. covers (Some c) (Some x) ≡ true) (sym (shared_same Add d h)) k

pub covers_itself : (c : Option Class) → covers c c ≡ true
covers_itself None = refl
covers_itself (Some c) = shared_itself c

write_joined : (x : Class) → joined (Some Write) (Some x) ≡ Some Write
write_joined Read = refl
write_joined Write = refl
write_joined Add = refl

pub joined_covers : (c d : Option Class) (x : Class) → covers c d ≡ true → covers (joined c (Some x)) (joined d (Some x)) ≡ true
joined_covers c None x h = joined_covers_second c (Some x) (Some x) (shared_itself x)
joined_covers None (Some d) x h = cc
joined_covers (Some Write) (Some d) x h = subst (λ j. covers j (joined (Some d) (Some x)) ≡ true) (sym (write_joined x)) refl
joined_covers (Some Read) (Some d) x h = subst (λ c. covers (joined (Some Read) (Some x)) (joined (Some c) (Some x)) ≡ true) (shared_same Read d h) (covers_itself (joined (Some Read) (Some x)))
joined_covers (Some Add) (Some d) x h = subst (λ c. covers (joined (Some Add) (Some x)) (joined (Some c) (Some x)) ≡ true) (shared_same Add d h) (covers_itself (joined (Some Add) (Some x)))

pub touched_covered : (c : Option Class) (d : Class) → covers c (Some d) ≡ true → IsSome c
touched_covered None d h = cc
touched_covered (Some c) d h = refl

pub covered_touched : (c d : Option Class) → covers c d ≡ true → IsSome d → IsSome c
covered_touched c None h k = cc
covered_touched c (Some d) h k = touched_covered c d h
