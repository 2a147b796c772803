-- Numbers that a kernel may be given are small.
use Rattle.std.proofs.Common.{◌≡◌, ℕ, ◌^◌, ◌<◌, ℤ, pos, negsuc, List, [], ◌∷◌, All, Some, slice_get, sym, arith, subst}
use Rattle.std.proofs.lemmas.Int.{ints}
use Rattle.std.proofs.lemmas.List.Elements.{All-cons}
use Rattle.std.proofs.lemmas.Option.{get_or_from_slice_get, slice_get_within}
use Rattle.spf_term.specs.Bounded.{AreWithin, IsWithin}
use Rattle.spf_term.specs.Environment.{Environment}
use Rattle.spf_kernel.specs.declared.tree.Decl.{Decl}
use Rattle.spf_kernel.specs.declared.tree.Decl.TheVariants.{Params, Index, Values}
use Rattle.spf_kernel.specs.declared.tree.Loop.{Loop}
use Rattle.spf_kernel.specs.declared.tree.Tree.{Tree}
use Rattle.spf_space.specs.declared.unit.Unit.{Unit}
use Rattle.spf_store.specs.Accepted.{AreTables, IsAccepted, IsBoundedBy, IsFromTo, IsIndex}
use Rattle.spf_store.specs.Shaped.{loop_shape, outer_value}
use Rattle.spf_store.specs.Source.{iteration_of, position_iteration}
use Rattle.spf_store.proofs.Turns.{between_within}

-- what holds of each element holds of the one at a place
pub all_at : {A : Type 0} (P : A → Type 0) (xs : List A) (n : ℕ) (x : A) → All P xs → slice_get xs n ≡ Some x → P x
all_at P xs n x all at = subst P (get_or_from_slice_get xs n x x at) (all n x (slice_get_within xs n x at))

pub index_within : (z : ℤ) → IsIndex z → IsWithin (2 ^ 22) z
index_within (pos n) index = omega (arith, ints)
index_within (negsuc n) index = omega (arith, ints)

natural_within : (z : ℤ) → IsFromTo (pos 0) (pos 4194304) z → IsWithin (2 ^ 22) z
natural_within (pos n) natural = omega (arith, ints)
natural_within (negsuc n) natural = omega (arith, ints)

none : {A : Type 0} (P : A → Type 0) → All P []
none P k d inside = absurd (omega arith)

module _ (env : Environment) where
  tables_within : (decls : List Decl) (tables : List (List ℤ)) → AreTables env decls tables → All (All (IsWithin (2 ^ 22))) tables
  tables_within [] [] are = none (All (IsWithin (2 ^ 22)))
  tables_within [] (table ∷ tables) are = absurd are
  tables_within (Params names ∷ decls) tables are = tables_within decls tables are
  tables_within (Values arrays ∷ decls) tables are = tables_within decls tables are
  tables_within (Index name size low high trend ∷ decls) [] are = absurd are
  tables_within (Index name size low high trend ∷ decls) (table ∷ tables) are =
      All-cons (All (IsWithin (2 ^ 22))) table tables (λ k d inside. index_within _ (are.0.range k d inside).2) (tables_within decls tables are.1)

  module _ (tree : Tree) (accepted : IsAccepted env tree) where
    pub numbers_within : AreWithin env []
    numbers_within = record {
      params = λ k d inside. natural_within _ (accepted.natural k d inside);
      tables = tables_within tree.decls env.tables accepted.tables;
      values = none (IsWithin (2 ^ 22));
    }

    pub iteration_within : (unit : Unit) (each : Loop) → slice_get tree.loops unit.loop_no ≡ Some each → unit.position < (loop_shape env each).extent →
        AreWithin env (iteration_of env tree unit ∷ [])
    iteration_within unit each at inside =
        let bounds = all_at (IsBoundedBy env) tree.loops unit.loop_no each accepted.bounds at in
        let small = between_within (outer_value env each.low) (outer_value env each.high) unit.position (index_within _ bounds.0) (index_within _ bounds.1) inside in
        record {
          params = numbers_within.params;
          tables = numbers_within.tables;
          values = All-cons (IsWithin (2 ^ 22)) _ [] (subst (λ of. IsWithin (2 ^ 22) (position_iteration env tree of unit.position)) (sym at) small) (none (IsWithin (2 ^ 22)));
        }
