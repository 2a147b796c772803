-- Lists of vectors, seen as lists of lists.
use Rattle.std.proofs.Common.{◌≡◌, ℕ, ◌*◌, ◌<◌, ◌≤◌, ◌^◌, Global, List, [], ◌∷◌, Vec, length, get_or, map, vec_items, refl, sym, ap, ◌∙◌, subst, arith}
use Rattle.std.proofs.lemmas.List.{get_or-map, length-map}
use Rattle.std.specs.List.{All, flat_map}
use Rattle.spf_touch.specs.Actions.{accesses}
use Rattle.spf_touch.specs.Ops.{IsNoted, actions_of, op_touches, ops_of}
use Rattle.spf_touch.specs.declared.op.Op.TheVariants.{Put, Gain}
use Rattle.spf_touch.specs.declared.op.Op.{Op}
use Rattle.spf_touch.specs.declared.touch.Touch.{Touch}
use Rattle.spf_touch.proofs.Noted.{length_all}

-- the row of a vector that was read
pub row_read : {X : Type 0} (vs : List (Vec X Global)) (i : ℕ) (v : Vec X Global) → i < length vs → v ≡ get_or vs i v → get_or (map vec_items vs) i [] ≡ v.items
row_read vs i v inside e = get_or-map vec_items vs i v [] inside ∙ ap vec_items (sym e)

pub map-map : {X Y Z : Type 0} (f : Y → Z) (g : X → Y) (xs : List X) → map f (map g xs) ≡ map (λ x. f (g x)) xs
map-map f g [] = refl
map-map f g (x ∷ xs) = ap (λ l. f (g x) ∷ l) (map-map f g xs)

pub noted_length : (units : List (List Op)) (ts : List (Vec Touch Global)) → map vec_items ts ≡ map op_touches units → length ts ≡ length units
noted_length units ts same = sym (length-map ts vec_items) ∙ ap length same ∙ length-map units op_touches

pub noted_row : (units : List (List Op)) (ts : List (Vec Touch Global)) (i : ℕ) (v : Vec Touch Global) → map vec_items ts ≡ map op_touches units →
    i < length units → v ≡ get_or ts i v → v.items ≡ op_touches (ops_of units i)
noted_row units ts i v same inside e =
    sym (row_read ts i v (subst (λ n. i < n) (sym (noted_length units ts same)) inside) e) ∙ ap (λ l. get_or l i []) same ∙ get_or-map op_touches units i [] [] inside

pub all_row : (P : List Touch → Type 0) (ts : List (Vec Touch Global)) (i : ℕ) (v : Vec Touch Global) → All P (map vec_items ts) → i < length (map vec_items ts) → v ≡ get_or ts i v → P v.items
all_row P ts i v all inside e = subst P (row_read ts i v (subst (λ n. i < n) (length-map ts vec_items) inside) e) (all i [] inside)

-- an operation names two elements
two_each : (ops : List Op) → length (flat_map accesses (actions_of ops)) ≡ 2 * length ops
two_each [] = omega arith
two_each (Put to from plus ∷ ops) = let rest = two_each ops in omega arith
two_each (Gain to from ∷ ops) = let rest = two_each ops in omega arith

length_touches : (ops : List Op) → length (op_touches ops) ≤ 2 * length ops
length_touches ops = omega (arith, length_all [] (flat_map accesses (actions_of ops)), two_each ops)

pub all_noted : (us : List (Vec Op Global)) (ts : List (Vec Touch Global)) → length us < 2 ^ 32 → All (λ ops. length ops < 2 ^ 31) (map vec_items us) →
    map vec_items ts ≡ map (λ ops. op_touches (vec_items ops)) us → IsNoted (map vec_items us) (map vec_items ts)
all_noted us ts few short same =
    let all : map vec_items ts ≡ map op_touches (map vec_items us) = same ∙ sym (map-map op_touches vec_items us) in
    record {
      few = rw length-map few;
      same = all;
      short = rw all (λ k d inside.
          let at : k < length (map vec_items us) = subst (λ n. k < n) (length-map (map vec_items us) op_touches) inside in
          let few_ops : length (get_or (map vec_items us) k []) < 2 ^ 31 = short k [] at in
          let most = length_touches (get_or (map vec_items us) k []) in
          rw (get_or-map op_touches (map vec_items us) k [] d at) (omega arith));
    }
