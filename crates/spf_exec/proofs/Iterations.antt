-- What the terms of iterations, composed terms and packed terms are.
use Rattle.std.proofs.Common.{◌≡◌, ℕ, zero, suc, ◌<◌, ℤ, pos, ◌+ℤ◌, ◌*ℤ◌, Option, None, Some, List, [], ◌∷◌, false, length, map, nat_eq, get_or, slice_get, refl, ap, sym, ◌∙◌, subst, arith}
use Rattle.std.proofs.Math.IntN.{+ℤ_idr, suc_ℤ-*ℤ, zero-*ℤ}
use Rattle.std.proofs.lemmas.Int.{ints}
use Rattle.std.proofs.lemmas.Option.{get_or_from_slice_get, slice_get_within}
use Rattle.std.specs.Option.{is_some}
use Rattle.spf_perm.specs.Perm.{at}
use Rattle.spf_term.specs.Environment.{Environment}
use Rattle.spf_term.specs.Substitution.{IsReplaced}
use Rattle.spf_term.specs.Value.{atom_value, number_at, table_at, value}
use Rattle.spf_term.specs.declared.term.Atom.{Atom, Var, App}
use Rattle.spf_term.specs.declared.term.Mono.{Mono}
use Rattle.spf_term.specs.declared.term.Term.{Term, out-Term, roll-Term, out-roll-Term}
use Rattle.spf_term.proofs.Monos.{list_value, value_is}
use Rattle.spf_kernel.specs.Kept.{KeepsLoop}
use Rattle.spf_kernel.specs.Named.{IsNamed, IsNamedTerm, counts_in, named as named_in}
use Rattle.spf_kernel.specs.declared.tree.Loop.{Loop}
use Rattle.spf_kernel.specs.declared.tree.Tree.{Tree}
use Rattle.spf_exec.specs.Composed.{from_lower, iteration_by, packed_by, term_of, variable}
use Rattle.spf_exec.specs.Executor.{IsOfMoved, IsOrderTable, IsPackingTable, moved_to}

times_one : (number : ℤ) → pos 1 *ℤ number ≡ number
times_one number = let e = suc_ℤ-*ℤ (pos 0) number in let z = zero-*ℤ number in omega (arith, ints, e, z)

regrouped : (a b c x : ℤ) → x ≡ a → (x +ℤ b) +ℤ c ≡ (b +ℤ c) +ℤ a
regrouped a b c x is = omega (arith, ints)

module _ (env : Environment) (variables : List ℤ) where
  rolled_value : (monos : List Mono) (constant : ℤ) → value env variables (roll-Term (record { monos = monos; constant = constant })) ≡ list_value env variables monos +ℤ constant
  rolled_value monos constant =
      value_is env variables (roll-Term (record { monos = monos; constant = constant }))
      ∙ ap (λ term. list_value env variables term.monos +ℤ term.constant) (out-roll-Term (record { monos = monos; constant = constant }))

  pub atom_alone : (atom : Atom) → value env variables (term_of atom) ≡ atom_value env variables atom
  atom_alone atom =
      rolled_value (record { coef = pos 1; atom = atom } ∷ []) (pos 0) ∙ +ℤ_idr ((pos 1 *ℤ atom_value env variables atom) +ℤ pos 0) ∙ +ℤ_idr (pos 1 *ℤ atom_value env variables atom) ∙ times_one (atom_value env variables atom)

  pub lower_value : (lower : Term) → value env variables (from_lower lower) ≡ value env variables lower +ℤ number_at variables (pos 0)
  lower_value lower =
      rolled_value (record { coef = pos 1; atom = Var 0 } ∷ (out-Term lower).monos) (out-Term lower).constant
      ∙ regrouped (number_at variables (pos 0)) (list_value env variables (out-Term lower).monos) (out-Term lower).constant (pos 1 *ℤ number_at variables (pos 0)) (times_one (number_at variables (pos 0)))
      ∙ ap (λ (sum : ℤ). sum +ℤ number_at variables (pos 0)) (sym (value_is env variables lower))

  pub packed_value : (moves : Option (List ℕ)) (packing place : ℕ) (term : Term) → IsOfMoved moves place → IsPackingTable moves (table_at env packing) → value env variables term ≡ pos place
      → value env variables (packed_by (is_some moves) packing term) ≡ pos (moved_to moves place)
  packed_value None packing place term inside table is = is
  packed_value (Some moves) packing place term inside table is =
      atom_alone (App packing term) ∙ (λ i. number_at (table i) (is i)) ∙ entry moves place inside where
        entry : (moves : List ℕ) (place : ℕ) → place < length moves → get_or (map pos moves) place (pos 0) ≡ pos (at moves place)
        entry [] place inside = absurd (omega (arith, inside))
        entry (first ∷ moves) zero inside = refl
        entry (first ∷ moves) (suc place) inside = entry moves place (omega (arith, inside))

pub iteration_value : (env : Environment) (moves : Option (List ℕ)) (order position : ℕ) (inner lower : ℤ) (low : Term) → IsOfMoved moves position → IsOrderTable lower moves (table_at env order)
    → value env (pos (moved_to moves position) ∷ inner ∷ []) low ≡ lower → value env (pos (moved_to moves position) ∷ inner ∷ []) (iteration_by (is_some moves) order low) ≡ lower +ℤ pos position
iteration_value env None order position inner lower low inside table is = lower_value env (pos position ∷ inner ∷ []) low ∙ ap (λ (sum : ℤ). sum +ℤ pos position) is
iteration_value env (Some moves) order position inner lower low inside table is =
    let variables = pos (at moves position) ∷ inner ∷ [] in
    atom_alone env variables (App order (variable 0)) ∙ ap (number_at (table_at env order)) (atom_alone env variables (Var 0)) ∙ table position inside

-- the outer variable has another value
pub outer_replaced : (old new inner : ℤ) → IsReplaced 0 new (old ∷ inner ∷ []) (new ∷ inner ∷ [])
outer_replaced old new inner = record { new = refl; others = others } where
  others : (other : ℕ) → nat_eq other 0 ≡ false → number_at (new ∷ inner ∷ []) (pos other) ≡ number_at (old ∷ inner ∷ []) (pos other)
  others zero apart = cc
  others (suc other) apart = refl

-- ---- a loop of a tree

pub there_inside : {X Y : Type 0} (xs : List X) (ys : List Y) (n : ℕ) (x : X) → slice_get xs n ≡ Some x → length ys ≡ length xs → n < length ys
there_inside xs ys n x at same = let inside = slice_get_within xs n x at in omega (arith, inside, same)

pub lower_named : (tree : Tree) (loop_no : ℕ) (loop : Loop) → IsNamed tree → slice_get tree.loops loop_no ≡ Some loop → IsNamedTerm (counts_in tree.decls) 0 loop.low
unfolding IsNamed
lower_named tree loop_no loop named at =
    let keeps : KeepsLoop (named_in (counts_in tree.decls)) (get_or tree.loops loop_no loop) = named.loops loop_no loop (slice_get_within tree.loops loop_no loop at) in
    subst (λ (of : Loop). IsNamedTerm (counts_in tree.decls) 0 of.low) (get_or_from_slice_get tree.loops loop_no loop loop at) keeps.low
