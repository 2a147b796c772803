-- Points that meet conjunctions without inner variables.
use Rattle.std.proofs.Common.{◌≡◌, ◌↔◌, ℕ, ◌+◌, ◌<◌, ◌≤◌, ℤ, List, [], ◌∷◌, ◌++◌, length, get_or, take, drop, refl, ap, sym, ◌∙◌, subst, arith, append-nil, length-drop}
use Rattle.std.proofs.lemmas.List.{length-take-le, take-append-drop, take_all, take_more}
use Rattle.std.proofs.lemmas.List.Elements.{All-contains, All-push, Contains-get_or}
use Rattle.std.specs.List.{All, Contains}
use Rattle.spf_term.specs.Environment.{Environment}
use Rattle.spf_rel.specs.Meaning.{Holds, Meets, MeetsSome, Relates}
use Rattle.spf_rel.specs.declared.relation.Conj.{Conj}
use Rattle.spf_rel.specs.declared.relation.Rel.{Rel}

module _ {X : Type 0} (P : X → Type 0) (xs : List X) (index : ℕ) where
  pub one_more : (x : X) → index < length xs → x ≡ get_or xs index x → All P (take index xs) → P x → All P (take (index + 1) xs)
  one_more x inside at h is = subst (All P) (sym (take_more xs index x inside ∙ ap (λ (last : X). take index xs ++ last ∷ []) (sym at))) (All-push P (take index xs) x h is)

  pub no_more : length xs ≤ index → All P (take index xs) → All P xs
  no_more past h = subst (All P) (take_all index xs past) h

no_numbers : (inner : List ℤ) → length inner ≡ 0 → inner ≡ []
no_numbers [] is = refl
no_numbers (number ∷ inner) is = absurd (omega (arith, is))

abbrev pub HasNoInner : Conj → Type 0
HasNoInner conj = conj.inner ≡ 0

module _ (env : Environment) (point : List ℤ) where
  abbrev pub Fails : Conj → Type 0
  Fails conj = ¬ Holds env point conj

  pub meets_one : (conjs : List Conj) (index : ℕ) (conj : Conj) → index < length conjs → conj ≡ get_or conjs index conj → All HasNoInner conjs → Holds env point conj → MeetsSome env point conjs
  meets_one conjs index conj inside at alone holds = record {
    conj = conj;
    there = subst (Contains conjs) (sym at) (Contains-get_or conjs index conj inside);
    meets = record {
      inner = [];
      count = sym (subst HasNoInner (sym at) (alone index conj inside));
      holds = subst (λ of. Holds env of conj) (sym (append-nil point)) holds;
    };
  }

  pub meets_none : (conjs : List Conj) → All HasNoInner conjs → All Fails conjs → MeetsSome env point conjs → ⊥
  meets_none conjs alone fail some =
      let none : some.meets.inner ≡ [] = no_numbers some.meets.inner (some.meets.count ∙ All-contains HasNoInner conjs some.conj alone some.there) in
      All-contains Fails conjs some.conj fail some.there (subst (λ of. Holds env of some.conj) (ap (λ of. point ++ of) none ∙ append-nil point) some.meets.holds)

  pub relates : (r : Rel) → length point ≡ r.ins + r.outs → MeetsSome env point r.conjs ↔ Relates env r (take r.ins point) (drop r.ins point)
  relates r count =
      let whole = take-append-drop r.ins point in (
        λ some. record {
          ins = length-take-le r.ins point (omega (arith, count));
          outs = omega (arith, count, length-drop r.ins point);
          meets = subst (λ of. MeetsSome env of r.conjs) (sym whole) some;
        },
        λ related. subst (λ of. MeetsSome env of r.conjs) whole related.meets,
      )
