-- Results of operands with room have room.
use Rattle.std.proofs.Common.{◌≡◌, ◌≤◌, ◌<◌, ◌+◌, ◌*◌, ◌^◌, ℕ, Bool, true, false, ◌&&◌, nat_le, List, [], ◌∷◌, map, All, refl, arith}
use Rattle.std.proofs.lemmas.Bool.{leb-true}
use Rattle.std.proofs.lemmas.List.Elements.{All-append, All-cons, All-nil}
use Rattle.std.specs.List.{flat_map, list_all}
use Rattle.spf_rel.specs.Join.{joined}
use Rattle.spf_rel.specs.Operations as make
use Rattle.spf_rel.specs.declared.relation.Conj.{Conj}
use Rattle.spf_rel.specs.declared.relation.Rel.{Rel}
use Rattle.spf_rel.specs.declared.relation.Set.{Set}
use Rattle.spf_calc.specs.Room.{has_room}
use Rattle.spf_calc.specs.declared.operating.TheConstants.{ROOM}
use Rattle.spf_calc.specs.declared.value.Value.TheVariants.{Points, Pairs}

left_true : (a b : Bool) → (a && b) ≡ true → a ≡ true
left_true true b e = refl
left_true false b e = cc

right_true : (a b : Bool) → (a && b) ≡ true → b ≡ true
right_true true b e = e
right_true false b e = cc

abbrev is_small : Conj → Bool
is_small conj = nat_le conj.inner ROOM

module _ (join : Conj → Conj → Conj) (outer middle : ℕ) (few : outer + middle ≤ 3 * 2 ^ 28) (inner : (left right : Conj) → (join left right).inner ≡ left.inner + right.inner + middle) where
  abbrev HasNumbers : Conj → Type 0
  HasNumbers conj = outer + conj.inner < 2 ^ 32

  one : (left : Conj) (rights : List Conj) → is_small left ≡ true → list_all is_small rights ≡ true → All HasNumbers (map (join left) rights)
  one left [] l rs = All-nil HasNumbers
  one left (right ∷ rights) l rs =
      All-cons HasNumbers (join left right) (map (join left) rights)
      (omega (arith, few, inner left right, leb-true left.inner ROOM l, leb-true right.inner ROOM (left_true (is_small right) (list_all is_small rights) rs)))
      (one left rights l (right_true (is_small right) (list_all is_small rights) rs))

  all : (lefts rights : List Conj) → list_all is_small lefts ≡ true → list_all is_small rights ≡ true → All HasNumbers (flat_map (λ (left : Conj). map (join left) rights) lefts)
  all [] rights ls rs = All-nil HasNumbers
  all (left ∷ lefts) rights ls rs =
      All-append HasNumbers (map (join left) rights) (flat_map (λ (left : Conj). map (join left) rights) lefts)
      (one left rights (left_true (is_small left) (list_all is_small lefts) ls) rs)
      (all lefts rights (right_true (is_small left) (list_all is_small lefts) ls) rs)

record Small (ins outs : ℕ) (conjs : List Conj) : Type 0 where
  few_ins : ins ≤ 2 ^ 28
  few_outs : outs ≤ 2 ^ 28
  few_inner : list_all is_small conjs ≡ true

small : (ins outs : ℕ) (conjs : List Conj) → (nat_le ins ROOM && nat_le outs ROOM && list_all is_small conjs) ≡ true → Small ins outs conjs
small ins outs conjs e =
    let both = left_true (nat_le ins ROOM && nat_le outs ROOM) (list_all is_small conjs) e in
    record {
      few_ins = leb-true ins ROOM (left_true (nat_le ins ROOM) (nat_le outs ROOM) both);
      few_outs = leb-true outs ROOM (right_true (nat_le ins ROOM) (nat_le outs ROOM) both);
      few_inner = right_true (nat_le ins ROOM && nat_le outs ROOM) (list_all is_small conjs) e;
    }

pub compose_room : (b a : Rel) → has_room (Pairs b) ≡ true → has_room (Pairs a) ≡ true → make.HasRoomRel (make.compose b a)
compose_room b a e f =
    let x = small b.ins b.outs b.conjs e in
    let y = small a.ins a.outs a.conjs f in
    all (joined (make.composing b a)) (a.ins + b.outs) a.outs (omega (arith, x.few_outs, y.few_ins, y.few_outs)) (λ left right. refl) a.conjs b.conjs y.few_inner x.few_inner

pub apply_room : (r : Rel) (s : Set) → has_room (Pairs r) ≡ true → has_room (Points s) ≡ true → make.HasRoomSet (make.apply r s)
apply_room r s e f =
    let x = small r.ins r.outs r.conjs e in
    let y = small s.arity 0 s.conjs f in
    all (joined (make.applying r s)) r.outs r.ins (omega (arith, x.few_outs, x.few_ins)) (λ left right. refl) s.conjs r.conjs y.few_inner x.few_inner

pub intersect_room : (a b : Rel) → has_room (Pairs a) ≡ true → has_room (Pairs b) ≡ true → make.HasRoomRel (make.intersect a b)
intersect_room a b e f =
    let x = small a.ins a.outs a.conjs e in
    let y = small b.ins b.outs b.conjs f in
    all (joined (make.meeting a.ins a.outs b.ins b.outs)) (a.ins + a.outs) 0 (omega (arith, x.few_ins, x.few_outs)) (λ left right. refl) a.conjs b.conjs x.few_inner y.few_inner

pub intersect_sets_room : (a b : Set) → has_room (Points a) ≡ true → has_room (Points b) ≡ true → make.HasRoomSet (make.intersect_sets a b)
intersect_sets_room a b e f =
    let x = small a.arity 0 a.conjs e in
    let y = small b.arity 0 b.conjs f in
    all (joined (make.meeting a.arity 0 b.arity 0)) a.arity 0 (omega (arith, x.few_ins)) (λ left right. refl) a.conjs b.conjs x.few_inner y.few_inner

pub restrict_room : (r : Rel) (s : Set) → has_room (Pairs r) ≡ true → has_room (Points s) ≡ true → make.HasRoomRel (make.restrict_domain r s)
restrict_room r s e f =
    let x = small r.ins r.outs r.conjs e in
    let y = small s.arity 0 s.conjs f in
    all (joined (make.meeting r.ins r.outs s.arity 0)) (r.ins + r.outs) 0 (omega (arith, x.few_ins, x.few_outs)) (λ left right. refl) r.conjs s.conjs x.few_inner y.few_inner
