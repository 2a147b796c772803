-- A text of a clear grammar has one derivation.
use Rattle.std.proofs.Common.{◌≡◌, ◌⊎◌, Bool, true, false, not, ◌&&◌, List, [], ◌∷◌, ◌++◌, map, length, Ok, refl, sym, ap, subst, ◌∙◌, inl, inr, arith}
use Rattle.std.proofs.lemmas.List.{length-map, length-append, map-append}
use Rattle.std.proofs.lemmas.Bool.{and_parts}
use Rattle.spf_lex.specs.Grammar.{Grammar, Nothing, One, Then, Or, Many, In, Each, IsExact, joined}
use Rattle.spf_lex.specs.LookAhead.{is_clear, nullable, first, extension, are_disjoint}
use Rattle.spf_lex.specs.Reading.{run, starts}
use Rattle.spf_lex.specs.Derivation.{Derivation, Spells, SpellsEach}
use Rattle.spf_lex.proofs.Follows.{Ends, no_way_on}
use Rattle.spf_lex.proofs.Readings.{follows}
use Rattle.spf_lex.proofs.Texts.{nullable_from_In, first_from_In, not_in_both}

module _ {K T : Type 0} (kind : T → K) where
  kinds : List T → List K
  kinds tokens = map kind tokens

  -- the parts of a repetition
  parts_in : {D : Type 0} (g : Grammar K) (P : List T → D → Type 0) → ((ts : List T) (d : D) → P ts d → In g (map kind ts)) → (tokens : List T) (ds : List D) → SpellsEach P tokens ds → (parts : List (List K)) × (map kind tokens ≡ joined parts) × Each (In g) parts
  parts_in g P one tokens [] s = ([], ap (map kind) s, tt)
  parts_in g P one tokens (d ∷ ds) s =
      let more = parts_in g P one s.1 ds s.4 in
      (map kind s.0 ∷ more.0, ap (map kind) s.2 ∙ map-append kind s.0 s.1 ∙ ap (λ (ks : List K). map kind s.0 ++ ks) more.1, (one s.0 d s.3, more.2))

  -- what has a derivation is a text
  pub spelled_in : (g : Grammar K) (tokens : List T) (d : Derivation T g) → Spells kind g tokens d → In g (map kind tokens)
  unfolding Spells In
  spelled_in Nothing tokens d s = ap (map kind) s
  spelled_in (One k) tokens d s = ap (map kind) s.0 ∙ ap (λ (x : K). x ∷ []) s.1
  spelled_in (Then g h) tokens d s = (map kind s.0, map kind s.1, ap (map kind) s.2 ∙ map-append kind s.0 s.1, spelled_in g s.0 d.0 s.3, spelled_in h s.1 d.1 s.4)
  spelled_in (Or g h) tokens (inl d) s = inl (spelled_in g tokens d s)
  spelled_in (Or g h) tokens (inr d) s = inr (spelled_in h tokens d s)
  spelled_in (Many g) tokens ds s = parts_in g (Spells kind g) (spelled_in g) tokens ds s

  module _ (same : K → K → Bool) (exact : IsExact same) where
    -- where a first text ends doesn't depend on what the second one is
    one_end : (g h : Grammar K) → is_clear same g ≡ true → are_disjoint same (extension g) (first h) ≡ true → (front back : List T) → In g (map kind front) → In h (map kind back) → run same g (map kind (front ++ back)) ≡ Ok (map kind back)
    one_end g h clear apart front back p q = by_ends (map kind back) refl ((follows same exact g clear).ends (map kind front) (map kind back) p) where
      by_ends : (ks : List K) → map kind back ≡ ks → Ends same (extension g) (map kind back) (run same g (map kind front ++ map kind back)) → run same g (map kind (front ++ back)) ≡ Ok (map kind back)
      by_ends ks e (inl ok) = ap (run same g) (map-append kind front back) ∙ ok
      by_ends [] e (inr on) = absurd (let f = on.is in cc)
      by_ends (k ∷ ks) e (inr on) = absurd (no_way_on same exact g h apart k ks ks (run same g (map kind front ++ k ∷ ks)) (rw e at q) (rw e at on))

    -- equal lists are split in one place where what is behind is as long
    pub same_split : (a b c d : List T) → a ++ b ≡ c ++ d → length b ≡ length d → (a ≡ c) × (b ≡ d)
    same_split [] b [] d e l = (refl, e)
    same_split [] b (y ∷ c) d e l = absurd (omega (arith, ap length e, l, length-append c d))
    same_split (x ∷ a) b [] d e l = absurd (omega (arith, ap length e, l, length-append a b))
    same_split (x ∷ a) b (y ∷ c) d e l =
        let head : x ≡ y = cc in
        let tail : a ++ b ≡ c ++ d = cc in
        let others = same_split a b c d tail l in
        (cc, others.1)

    one_split : (g h h' : Grammar K) → is_clear same g ≡ true → are_disjoint same (extension g) (first h) ≡ true → are_disjoint same (extension g) (first h') ≡ true → (tokens a b c d : List T) → tokens ≡ a ++ b → tokens ≡ c ++ d
        → In g (map kind a) → In h (map kind b) → In g (map kind c) → In h' (map kind d) → (a ≡ c) × (b ≡ d)
    one_split g h h' clear apart apart' tokens a b c d e f p q r s =
        let one : run same g (map kind tokens) ≡ Ok (map kind b) = ap (λ (ts : List T). run same g (map kind ts)) e ∙ one_end g h clear apart a b p q in
        let two : run same g (map kind tokens) ≡ Ok (map kind d) = ap (λ (ts : List T). run same g (map kind ts)) f ∙ one_end g h' clear apart' c d r s in
        let kinds_same : map kind b ≡ map kind d = cc in
        same_split a b c d (sym e ∙ f) (sym (length-map b kind) ∙ ap length kinds_same ∙ length-map d kind)

    -- derivations of one text by the same part of the grammar are one
    SameText : {D : Type 0} → (List T → D → Type 0) → Type 0
    SameText {D} P = (tokens : List T) (d e : D) → P tokens d → P tokens e → d ≡ e

    starts_first : (g : Grammar K) (tokens : List T) → In g (map kind tokens) → nullable g ≡ false → (t : T) × (others : List T) × (tokens ≡ t ∷ others) × (starts same g (map kind tokens) ≡ true)
    starts_first g [] p n = absurd (let m = nullable_from_In g p in cc)
    starts_first g (t ∷ tokens) p n = (t, tokens, refl, first_from_In same exact g (kind t) (map kind tokens) p)

    not_both : (g h : Grammar K) → not (nullable g && nullable h) ≡ true → are_disjoint same (first g) (first h) ≡ true → (tokens : List T) → In g (map kind tokens) → In h (map kind tokens) → ⊥
    not_both g h some apart [] p q = let m = nullable_from_In g p in let n = nullable_from_In h q in let e : not (true && true) ≡ true = rw (m, n) at some in absurd cc
    not_both g h some apart (t ∷ tokens) p q = not_in_both same exact (kind t) (first g) (first h) apart (first_from_In same exact g (kind t) (map kind tokens) p) (first_from_In same exact h (kind t) (map kind tokens) q)

    -- a part takes a token
    no_part : (g : Grammar K) → not (nullable g) ≡ true → (tokens : List T) → tokens ≡ [] → (e : Derivation T g) (es : List (Derivation T g)) → SpellsEach (Spells kind g) tokens (e ∷ es) → ⊥
    no_part g some tokens none e es s = by_front s.0 (sym none ∙ s.2) (spelled_in g s.0 e s.3) where
      by_front : (front : List T) → [] ≡ front ++ s.1 → In g (map kind front) → ⊥
      by_front [] f p = let m = nullable_from_In g p in let n : not true ≡ true = rw m at some in absurd cc
      by_front (t ∷ front) f p = absurd cc

    -- a repetition splits in one way: its first part ends where another can begin, or at the end
    one_many : (g : Grammar K) → is_clear same g ≡ true → not (nullable g) ≡ true → are_disjoint same (extension g) (first g) ≡ true → SameText (Spells kind g) → SameText (SpellsEach (Spells kind g))
    unfolding SameText
    one_many g clear some apart one tokens [] [] s t = refl
    one_many g clear some apart one tokens [] (e ∷ es) s t = absurd (no_part g some tokens s e es t)
    one_many g clear some apart one tokens (d ∷ ds) [] s t = absurd (no_part g some tokens t d ds s)
    one_many g clear some apart one tokens (d ∷ ds) (e ∷ es) s t =
        let many_in : (ts : List T) (xs : List (Derivation T g)) → SpellsEach (Spells kind g) ts xs → In (Many g) (map kind ts) = λ ts xs p. unfold In in parts_in g (Spells kind g) (spelled_in g) ts xs p in
        let split = one_split g (Many g) (Many g) clear (unfold first in apart) (unfold first in apart) tokens s.0 s.1 t.0 t.1 s.2 t.2 (spelled_in g s.0 d s.3) (many_in s.1 ds s.4) (spelled_in g t.0 e t.3) (many_in t.1 es t.4) in
        let first_same : d ≡ e = one s.0 d e s.3 (subst (λ (ts : List T). Spells kind g ts e) (sym split.0) t.3) in
        let others_same : ds ≡ es = one_many g clear some apart one s.1 ds es s.4 (subst (λ (ts : List T). SpellsEach (Spells kind g) ts es) (sym split.1) t.4) in
        cc

    -- a text of a clear grammar has one derivation
    pub one_derivation : (g : Grammar K) → is_clear same g ≡ true → (tokens : List T) (d e : Derivation T g) → Spells kind g tokens d → Spells kind g tokens e → d ≡ e
    unfolding Spells is_clear SameText
    one_derivation Nothing clear tokens d e s t = refl
    one_derivation (One k) clear tokens d e s t = let x = s.0 in let y = t.0 in cc
    one_derivation (Then g h) clear tokens (d, d') (e, e') s t =
        let both = and_parts (is_clear same g && is_clear same h) (are_disjoint same (extension g) (first h)) clear in
        let each = and_parts (is_clear same g) (is_clear same h) both.0 in
        let split = one_split g h h each.0 both.1 both.1 tokens s.0 s.1 t.0 t.1 s.2 t.2 (spelled_in g s.0 d s.3) (spelled_in h s.1 d' s.4) (spelled_in g t.0 e t.3) (spelled_in h t.1 e' t.4) in
        let one : d ≡ e = one_derivation g each.0 s.0 d e s.3 (subst (λ (ts : List T). Spells kind g ts e) (sym split.0) t.3) in
        let two : d' ≡ e' = one_derivation h each.1 s.1 d' e' s.4 (subst (λ (ts : List T). Spells kind h ts e') (sym split.1) t.4) in
        cc
    one_derivation (Or g h) clear tokens d e s t =
        let apart = and_parts (is_clear same g && is_clear same h && not (nullable g && nullable h)) (are_disjoint same (first g) (first h)) clear in
        let one = and_parts (is_clear same g && is_clear same h) (not (nullable g && nullable h)) apart.0 in
        let each = and_parts (is_clear same g) (is_clear same h) one.0 in
        by_side (one_derivation g each.0 tokens) (one_derivation h each.1 tokens) (not_both g h one.1 apart.1 tokens) d e s t
      where
        by_side : ((d e : Derivation T g) → Spells kind g tokens d → Spells kind g tokens e → d ≡ e) → ((d e : Derivation T h) → Spells kind h tokens d → Spells kind h tokens e → d ≡ e) → (In g (map kind tokens) → In h (map kind tokens) → ⊥)
            → (d e : Derivation T g ⊎ Derivation T h) → Spells kind (Or g h) tokens d → Spells kind (Or g h) tokens e → d ≡ e
        by_side one two apart (inl d) (inl e) s t = ap inl (one d e s t)
        by_side one two apart (inr d) (inr e) s t = ap inr (two d e s t)
        by_side one two apart (inl d) (inr e) s t = absurd (apart (spelled_in g tokens d s) (spelled_in h tokens e t))
        by_side one two apart (inr d) (inl e) s t = absurd (apart (spelled_in g tokens e t) (spelled_in h tokens d s))
    one_derivation (Many g) clear tokens ds es s t =
        let apart = and_parts (is_clear same g && not (nullable g)) (are_disjoint same (extension g) (first g)) clear in
        let some = and_parts (is_clear same g) (not (nullable g)) apart.0 in
        one_many g some.0 some.1 apart.1 (one_derivation g some.0) tokens ds es s t
