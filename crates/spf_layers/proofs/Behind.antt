-- A unit put behind groups, and groups made from the first unit to the last.
use Rattle.std.proofs.Common.{◌≡◌, ℕ, zero, suc, ◌-◌, ◌<◌, ◌≤◌, Bool, true, false, Option, Some, None, List, [], ◌∷◌, ◌++◌, length, get_or, take, drop, ltb, inl, inr, refl, sym, ap, ◌∙◌, arith}
use Rattle.std.proofs.lemmas.Bool.{and_cases, and_parts, both_ways, cases_Bool, cases_lt, lt-ltb, ltb-true}
use Rattle.std.proofs.lemmas.List.{drop_all}
use Rattle.spf_touch.specs.Conflict.{is_shared}
use Rattle.spf_touch.specs.Frame.{class_at}
use Rattle.spf_touch.proofs.Classes.{shared_same}
use Rattle.spf_touch.specs.declared.class.Class.{Class}
use Rattle.spf_touch.specs.declared.class.Class.TheVariants.{Write}
use Rattle.spf_touch.specs.declared.touch.Touch.{Touch}
use Rattle.spf_layers.specs.Chains.{Entry, entries, entry_in_front, grouped_entries}
use Rattle.spf_layers.specs.Flat.{behind, grouped, joined_last, joins}
use Rattle.spf_layers.specs.Groups.{Group, groups_from, in_front, touched_in_front}
use Rattle.spf_layers.proofs.Parts.{length-grouped}

-- putting a unit before groups and another behind them may be done in either order
front_behind : (u v : ℕ) (c d : Class) (gs : List Group) → in_front u c (behind v d gs) ≡ behind v d (in_front u c gs)
front_behind u v c d [] = elim (cases_Bool (is_shared c d)) [ inl shared ↦ rw shared refl | inr apart ↦ rw apart refl ]
front_behind u v c d (g ∷ []) = elim (cases_Bool (is_shared c g.class)) [
  | inl shared ↦
      let same = shared_same c g.class shared in
      elim (cases_Bool (is_shared g.class d)) [
        | inl join ↦ let join' : is_shared c d ≡ true = rw same join in rw (join, shared, join') refl
        | inr open' ↦ let open'' : is_shared c d ≡ false = rw same open' in rw (open', shared, open'') refl
      ]
  | inr apart ↦ elim (cases_Bool (is_shared g.class d)) [ inl join ↦ rw (join, apart, join) refl | inr open' ↦ rw (open', apart, open') refl ]
]
front_behind u v c d (g ∷ h ∷ gs) = elim (cases_Bool (is_shared c g.class)) [ inl shared ↦ rw shared refl | inr apart ↦ rw apart refl ]

-- these entries put behind groups one after another
abbrev pub behind_all : List Group → List Entry → List Group
behind_all gs [] = gs
behind_all gs (x ∷ xs) = behind_all (behind x.unit x.class gs) xs

front_behind_all : (u : ℕ) (c : Class) (gs : List Group) (xs : List Entry) → in_front u c (behind_all gs xs) ≡ behind_all (in_front u c gs) xs
front_behind_all u c gs [] = refl
front_behind_all u c gs (x ∷ xs) = front_behind_all u c (behind x.unit x.class gs) xs ∙ ap (λ hs. behind_all hs xs) (front_behind u x.unit c x.class gs)

pub from_first : (xs : List Entry) → behind_all [] xs ≡ grouped_entries xs
from_first [] = refl
from_first (x ∷ xs) = sym (front_behind_all x.unit x.class [] xs) ∙ ap (in_front x.unit x.class) (from_first xs)

entry_groups : (u : ℕ) (o : Option Class) (xs : List Entry) → grouped_entries (entry_in_front u o xs) ≡ touched_in_front u o (grouped_entries xs)
entry_groups u None xs = refl
entry_groups u (Some c) xs = refl

-- the groups of the units that touch the element are its groups
pub entries_groups : (touches : ℕ → List Touch) (e : ℕ) (us : List ℕ) → grouped_entries (entries touches e us) ≡ groups_from touches e us
entries_groups touches e [] = refl
entries_groups touches e (u ∷ us) =
    entry_groups u (class_at (touches u) e) (entries touches e us) ∙ ap (touched_in_front u (class_at (touches u) e)) (entries_groups touches e us)

-- whether a unit of this class joins the last of these groups
abbrev ends_shared : List Group → Class → Bool
ends_shared [] c = false
ends_shared (g ∷ []) c = is_shared g.class c
ends_shared (g ∷ h ∷ gs) c = ends_shared (h ∷ gs) c

abbrev alone : ℕ → Class → List Group
alone u c = record { class = c; units = u ∷ [] } ∷ []

joined_behind : (u : ℕ) (c : Class) (gs : List Group) → ends_shared gs c ≡ true → behind u c gs ≡ joined_last u gs
joined_behind u c [] h = cc
joined_behind u c (g ∷ []) h = rw h refl
joined_behind u c (g ∷ k ∷ gs) h = ap (λ r. g ∷ r) (joined_behind u c (k ∷ gs) h)

opened_behind : (u : ℕ) (c : Class) (gs : List Group) → ends_shared gs c ≡ false → behind u c gs ≡ gs ++ alone u c
opened_behind u c [] h = refl
opened_behind u c (g ∷ []) h = rw h refl
opened_behind u c (g ∷ k ∷ gs) h = ap (λ r. g ∷ r) (opened_behind u c (k ∷ gs) h)

-- the groups before `start` stay as they are
joined_from : (u : ℕ) (c : Class) (start : ℕ) (gs : List Group) → ends_shared (drop start gs) c ≡ true → joined_last u gs ≡ take start gs ++ behind u c (drop start gs)
joined_from u c zero gs h = sym (joined_behind u c gs h)
joined_from u c (suc start) [] h = cc
joined_from u c (suc zero) (g ∷ []) h = cc
joined_from u c (suc (suc start)) (g ∷ []) h = cc
joined_from u c (suc start) (g ∷ k ∷ gs) h = ap (λ r. g ∷ r) (joined_from u c start (k ∷ gs) h)

opened_from : (u : ℕ) (c : Class) (start : ℕ) (gs : List Group) → ends_shared (drop start gs) c ≡ false → start ≤ length gs →
    gs ++ alone u c ≡ take start gs ++ behind u c (drop start gs)
opened_from u c zero gs h le = sym (opened_behind u c gs h)
opened_from u c (suc start) [] h le = absurd (omega arith)
opened_from u c (suc start) (g ∷ gs) h le = ap (λ r. g ∷ r) (opened_from u c start gs h (omega arith))

-- what the code tests
ends_by_classes : (cs : List Class) (rows : List (List ℕ)) (c d : Class) (last : ℕ) → length cs ≡ length rows → suc last ≡ length cs →
    ends_shared (grouped cs rows) c ≡ is_shared (get_or cs last d) c
ends_by_classes [] rows c d last e l = absurd (omega arith)
ends_by_classes (x ∷ cs) [] c d last e l = absurd (omega arith)
ends_by_classes (x ∷ []) (r ∷ []) c d zero e l = refl
ends_by_classes (x ∷ []) (r ∷ s ∷ rows) c d last e l = absurd (omega arith)
ends_by_classes (x ∷ []) (r ∷ []) c d (suc last) e l = absurd (omega arith)
ends_by_classes (x ∷ y ∷ cs) (r ∷ []) c d last e l = absurd (omega arith)
ends_by_classes (x ∷ y ∷ cs) (r ∷ s ∷ rows) c d zero e l = absurd (omega arith)
ends_by_classes (x ∷ y ∷ cs) (r ∷ s ∷ rows) c d (suc last) e l = ends_by_classes (y ∷ cs) (s ∷ rows) c d last (omega arith) (omega arith)

ends_dropped : (start : ℕ) (gs : List Group) (c : Class) → start < length gs → ends_shared (drop start gs) c ≡ ends_shared gs c
ends_dropped zero gs c lt = refl
ends_dropped (suc start) [] c lt = absurd (omega arith)
ends_dropped (suc zero) (g ∷ []) c lt = absurd (omega arith)
ends_dropped (suc (suc start)) (g ∷ []) c lt = absurd (omega arith)
ends_dropped (suc start) (g ∷ k ∷ gs) c lt = ends_dropped start (k ∷ gs) c (omega arith)

module _ (classes : List Class) (rows : List (List ℕ)) (same : length classes ≡ length rows) (start u : ℕ) (c : Class) where
  ends_joins : start < length classes → ends_shared (drop start (grouped classes rows)) c ≡ is_shared (get_or classes (length classes - 1) Write) c
  ends_joins lt =
      ends_dropped start (grouped classes rows) c (omega (arith, length-grouped classes rows same)) ∙
      ends_by_classes classes rows c Write (length classes - 1) same (omega arith)

  pub placed_join : joins classes start c ≡ true → joined_last u (grouped classes rows) ≡ take start (grouped classes rows) ++ behind u c (drop start (grouped classes rows))
  placed_join h =
      let parts = and_parts (ltb start (length classes)) (is_shared (get_or classes (length classes - 1) Write) c) h in
      joined_from u c start (grouped classes rows) (ends_joins (ltb-true start (length classes) parts.0) ∙ parts.1)

  pub placed_open : joins classes start c ≡ false → start ≤ length classes →
      grouped classes rows ++ record { class = c; units = u ∷ [] } ∷ [] ≡ take start (grouped classes rows) ++ behind u c (drop start (grouped classes rows))
  placed_open h le =
      opened_from u c start (grouped classes rows)
      (elim (cases_lt start (length classes)) [
        | inl lt ↦ elim (and_cases (ltb start (length classes)) (is_shared (get_or classes (length classes - 1) Write) c) h) [
          | inl past ↦ absurd (both_ways (ltb start (length classes)) past (lt-ltb start (length classes) lt))
          | inr apart ↦ ends_joins lt ∙ apart
        ]
        | inr past ↦ ap (λ gs. ends_shared gs c) (drop_all start (grouped classes rows) (omega (arith, length-grouped classes rows same)))
      ]) (omega (arith, length-grouped classes rows same))
