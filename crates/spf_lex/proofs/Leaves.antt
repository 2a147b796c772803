-- What holds of each token of a text holds of each token of its derivation.
use Rattle.std.proofs.Common.{List, [], ◌∷◌, ◌++◌, inl, inr}
use Rattle.std.specs.Prelude.{⊤}
use Rattle.std.specs.List.{AllByRecursion}
use Rattle.spf_lex.specs.Grammar.{Grammar, Nothing, One, Then, Or, Many}
use Rattle.spf_lex.specs.Derivation.{Derivation, SpellsEach, Spells}

-- P holds of each element of both parts
pub split_each : {A : Type 0} (P : A → Type 0) (xs ys : List A) → AllByRecursion P (xs ++ ys) → AllByRecursion P xs × AllByRecursion P ys
split_each P [] ys each = (tt, each)
split_each P (x ∷ xs) ys each = let parts = split_each P xs ys each.1 in ((each.0, parts.0), parts.1)

pub join_each : {A : Type 0} (P : A → Type 0) (xs ys : List A) → AllByRecursion P xs → AllByRecursion P ys → AllByRecursion P (xs ++ ys)
join_each P [] ys front back = back
join_each P (x ∷ xs) ys front back = (front.0, join_each P xs ys front.1 back)

module _ {K T : Type 0} (P : K → T → Type 0) where
  -- P holds of each kind that the grammar wants and of the token that stands there
  unfoldable pub Leaves : (g : Grammar K) → Derivation T g → Type 0
  Leaves Nothing d = ⊤
  Leaves (One k) d = P k d
  Leaves (Then g h) d = Leaves g d.0 × Leaves h d.1
  Leaves (Or g h) (inl d) = Leaves g d
  Leaves (Or g h) (inr d) = Leaves h d
  Leaves (Many g) ds = AllByRecursion (Leaves g) ds

module _ {K T : Type 0} (kind : T → K) (P : K → T → Type 0) where
  leaves_of_each : {D : Type 0} (Spelled : List T → D → Type 0) (Leaf : D → Type 0) → ((tokens : List T) (d : D) → Spelled tokens d → AllByRecursion (λ t. P (kind t) t) tokens → Leaf d)
      → (tokens : List T) (ds : List D) → SpellsEach Spelled tokens ds → AllByRecursion (λ t. P (kind t) t) tokens → AllByRecursion Leaf ds
  leaves_of_each Spelled Leaf one tokens [] spells each = tt
  leaves_of_each Spelled Leaf one tokens (d ∷ ds) (front, back, e, spells, others) each =
      let parts = split_each (λ t. P (kind t) t) front back (rw e at each) in
      (one front d spells parts.0, leaves_of_each Spelled Leaf one back ds others parts.1)

  pub spelled_leaves : (g : Grammar K) (tokens : List T) (d : Derivation T g) → Spells kind g tokens d → AllByRecursion (λ t. P (kind t) t) tokens → Leaves P g d
  unfolding Spells Leaves
  spelled_leaves Nothing tokens d spells each = tt
  spelled_leaves (One k) tokens d spells each =
      let here = rw spells.0 at each in
      rw spells.1 at here.0
  spelled_leaves (Then g h) tokens d (front, back, e, first, second) each =
      let parts = split_each (λ t. P (kind t) t) front back (rw e at each) in
      (spelled_leaves g front d.0 first parts.0, spelled_leaves h back d.1 second parts.1)
  spelled_leaves (Or g h) tokens (inl d) spells each = spelled_leaves g tokens d spells each
  spelled_leaves (Or g h) tokens (inr d) spells each = spelled_leaves h tokens d spells each
  spelled_leaves (Many g) tokens ds spells each = leaves_of_each (Spells kind g) (Leaves P g) (spelled_leaves g) tokens ds spells each
