-- How deep brackets stand in the words of a text: no text of the grammar has brackets more than so many deep.
use Rattle.std.proofs.Common.{◌≡◌, ℕ, zero, suc, ◌+◌, Bool, true, false, List, [], ◌∷◌, ◌++◌, refl, ap, sym, ◌∙◌, inl, inr, append_assoc, append-nil, arith}
use Rattle.spf_lex.specs.Grammar.{Grammar, Nothing, One, Then, Or, Many, In, Each, joined}
use Rattle.spf_reltext.specs.Productions as p
use Rattle.spf_reltext.specs.declared.kind.CalcKind.{CalcKind}
use Rattle.spf_reltext.specs.declared.kind.CalcKind.TheVariants as kind
use Rattle.spf_reltext.specs.declared.raw.RawAtom.{RawAtom}

-- what a kind does to how many brackets may still be opened
abbrev pub climb_at : CalcKind → (ℕ → Bool) → ℕ → Bool
climb_at kind.OpenBracket rest zero = false
climb_at kind.OpenBracket rest (suc depth) = rest depth
climb_at kind.CloseBracket rest depth = rest (suc depth)
climb_at _ rest depth = rest depth

-- the brackets stand no deeper than this
abbrev pub climb : List CalcKind → ℕ → Bool
climb [] depth = true
climb (k ∷ kinds) depth = climb_at k (climb kinds) depth

abbrev pub Level : Grammar CalcKind → ℕ → Type 0
Level g depth = (kinds rest : List CalcKind) (more : ℕ) → In g kinds → climb (kinds ++ rest) (depth + more) ≡ climb rest (depth + more)

level_nothing : (depth : ℕ) → Level Nothing depth
unfolding In
level_nothing depth kinds rest more e = rw e refl

abbrev IsFlat : CalcKind → Type 0
IsFlat k = (rest : ℕ → Bool) (depth : ℕ) → climb_at k rest depth ≡ rest depth

level_one : (k : CalcKind) (depth : ℕ) → IsFlat k → Level (One k) depth
unfolding In
level_one k depth flat kinds rest more e = rw e (flat (climb rest) (depth + more))

level_then : (g h : Grammar CalcKind) (depth : ℕ) → Level g depth → Level h depth → Level (Then g h) depth
unfolding In
level_then g h depth first second kinds rest more (front, back, e, in_front, in_back) =
    rw e (rw append_assoc (first front (back ++ rest) more in_front ∙ second back rest more in_back))

level_or : (g h : Grammar CalcKind) (depth : ℕ) → Level g depth → Level h depth → Level (Or g h) depth
unfolding In
level_or g h depth first second kinds rest more (inl one) = first kinds rest more one
level_or g h depth first second kinds rest more (inr one) = second kinds rest more one

level_many : (g : Grammar CalcKind) (depth : ℕ) → Level g depth → Level (Many g) depth
unfolding In
level_many g depth each kinds rest more (parts, e, in_each) = rw e (by parts in_each) where
  by : (parts : List (List CalcKind)) → Each (In g) parts → climb (joined parts ++ rest) (depth + more) ≡ climb rest (depth + more)
  by [] tt = refl
  by (part ∷ parts) (one, others) = rw append_assoc (each part (joined parts ++ rest) more one ∙ by parts others)

level_between : (g : Grammar CalcKind) (depth : ℕ) → Level g depth → Level (Then (One kind.OpenBracket) (Then g (One kind.CloseBracket))) (suc depth)
unfolding In
level_between g depth inside kinds rest more (front, back, e, opens, (body, last, f, in_body, closes)) = rw (e, opens, f, closes) (by (suc depth + more) refl) where
  by : (level : ℕ) → level ≡ suc depth + more → climb ((kind.OpenBracket ∷ []) ++ (body ++ kind.CloseBracket ∷ []) ++ rest) level ≡ climb rest level
  by zero e = absurd (omega (arith, e))
  by (suc level) e =
      let same : level ≡ depth + more = omega (arith, e) in
      let returns : climb ((body ++ kind.CloseBracket ∷ []) ++ rest) level ≡ climb rest (suc level) = rw (append_assoc, same) (inside body (kind.CloseBracket ∷ rest) more in_body) in
      returns

-- ---- productions

level_number : (depth : ℕ) → Level p.number.shape.grammar depth
unfolding p.number
level_number depth = level_or (One kind.One) (One kind.Number) depth (level_one kind.One depth (λ rest d. refl)) (level_one kind.Number depth (λ rest d. refl))

level_optional : (g : Grammar CalcKind) (depth : ℕ) → Level g depth → Level (Or g Nothing) depth
level_optional g depth level = level_or g Nothing depth level (level_nothing depth)

level_behind : (k : CalcKind) (g : Grammar CalcKind) (depth : ℕ) → IsFlat k → Level g depth → Level (Then (One k) g) depth
level_behind k g depth flat level = level_then (One k) g depth (level_one k depth flat) level

module _ (a : p.Syntax RawAtom) (depth : ℕ) (level : Level a.shape.grammar depth) where
  level_mono : Level (p.mono a).shape.grammar depth
  unfolding p.mono p.numbered
  level_mono = level_or _ _ depth (level_then _ _ depth (level_number depth) (level_optional _ depth (level_behind kind.Star _ depth (λ rest d. refl) level))) level

  level_sum : Level (p.sum a).shape.grammar depth
  unfolding p.sum p.first_mono p.next_mono
  level_sum =
      level_then _ _ depth (level_then _ _ depth (level_optional _ depth (level_one kind.Minus depth (λ rest d. refl))) level_mono)
      (level_many _ depth (level_then _ _ depth (level_or _ _ depth (level_one kind.Plus depth (λ rest d. refl)) (level_one kind.Minus depth (λ rest d. refl))) level_mono))

level_atom : (depth : ℕ) → Level (p.atom depth).shape.grammar depth
unfolding p.atom p.name p.subscripted
level_atom zero = level_one kind.Name zero (λ rest d. refl)
level_atom (suc depth) =
    level_behind kind.Name _ (suc depth) (λ rest d. refl) (level_optional _ (suc depth) (level_between _ depth (level_sum (p.atom depth) depth (level_atom depth))))

level_ix : (depth : ℕ) → Level (p.ix depth).shape.grammar depth
unfolding p.ix
level_ix depth = level_sum (p.atom depth) depth (level_atom depth)

level_separated : (k : CalcKind) (g : Grammar CalcKind) (depth : ℕ) → IsFlat k → Level g depth → Level (Then g (Many (Then (One k) g))) depth
level_separated k g depth flat level = level_then g _ depth level (level_many _ depth (level_behind k g depth flat level))

level_constraint : Level p.constraint.shape.grammar 5
unfolding p.constraint p.compare
level_constraint =
    level_then _ _ 5 (level_ix 5) (level_then _ _ 5
    (level_or _ _ 5 (level_one kind.Equals 5 (λ rest d. refl)) (level_or _ _ 5 (level_one kind.AtMost 5 (λ rest d. refl)) (level_or _ _ 5 (level_one kind.Less 5 (λ rest d. refl))
    (level_or _ _ 5 (level_one kind.AtLeast 5 (λ rest d. refl)) (level_one kind.Greater 5 (λ rest d. refl))))))
    (level_ix 5))

level_names : (depth : ℕ) → Level p.names.shape.grammar depth
unfolding p.names p.name
level_names depth = level_separated kind.Comma (One kind.Name) depth (λ rest d. refl) (level_one kind.Name depth (λ rest d. refl))

level_tuple : Level p.tuple.shape.grammar 5
unfolding p.tuple
level_tuple = level_between _ 4 (level_optional _ 4 (level_names 4))

level_literal : Level p.literal.shape.grammar 5
unfolding p.literal p.inner p.constraints
level_literal =
    level_behind kind.OpenBrace _ 5 (λ rest d. refl) (level_then _ _ 5 level_tuple (level_then _ _ 5 (level_optional _ 5 (level_behind kind.Arrow _ 5 (λ rest d. refl) level_tuple))
    (level_then _ _ 5 (level_optional _ 5 (level_behind kind.With _ 5 (λ rest d. refl) (level_names 5)))
    (level_then _ _ 5 (level_optional _ 5 (level_behind kind.Colon _ 5 (λ rest d. refl) (level_separated kind.And _ 5 (λ rest d. refl) level_constraint)))
    (level_one kind.CloseBrace 5 (λ rest d. refl))))))

-- in no text of literals brackets stand deeper than 5
pub literals_climb : (kinds : List CalcKind) → In p.literals.shape.grammar kinds → climb kinds 5 ≡ true
unfolding p.literals
literals_climb kinds text = ap (λ (ks : List CalcKind). climb ks 5) (sym (append-nil kinds)) ∙ level_separated kind.Bar _ 5 (λ rest d. refl) level_literal kinds [] 0 text
