-- Operations performed as actions.
use Rattle.std.proofs.Common.{◌≡◌, ℕ, ℤ, ◌+ℤ◌, ◌+◌, ◌<◌, List, [], ◌∷◌, length, get_or, drop, sym, ap, ◌∙◌, cond, eqb, inl, inr, refl}
use Rattle.std.proofs.lemmas.Bool.{cases_eq, eq-eqb, ne_eqb}
use Rattle.std.proofs.lemmas.List.{at_drop_more}
use Rattle.std.proofs.lemmas.List.Elements.{All-from_recursion}
use Rattle.std.specs.List.{All, AllByRecursion, flat_map}
use mathlib.Core.Path.{fun_ext}
use Rattle.spf_base.specs.Wrap.{wrap}
use Rattle.spf_touch.specs.Actions.{accesses, change, performed}
use Rattle.spf_touch.specs.Frame.{IsTouched}
use Rattle.spf_touch.specs.Ops.{action_of, actions_of, op_touches, source, target}
use Rattle.spf_touch.proofs.Accessed.{accessed}
use Rattle.spf_touch.proofs.Blends.{wrap_inner}
use Rattle.spf_touch.specs.declared.op.Op.{Op}
use Rattle.spf_touch.specs.declared.op.Op.TheVariants.{Put, Gain}

named : (P : ℕ → Type 0) (ops : List Op) → AllByRecursion (λ access. P access.0) (flat_map accesses (actions_of ops)) → AllByRecursion (λ op. P (source op) × P (target op)) ops
named P [] h = tt
named P (Put to from plus ∷ ops) h = ((h.0, h.1.0), named P ops h.1.1)
named P (Gain to from ∷ ops) h = ((h.0, h.1.0), named P ops h.1.1)

-- what holds of all touched elements holds of those that the operations name
pub ops_own : (P : ℕ → Type 0) (ops : List Op) → ((e : ℕ) → IsTouched (op_touches ops) e → P e) → All (λ op. P (source op) × P (target op)) ops
ops_own P ops h = All-from_recursion (λ op. P (source op) × P (target op)) ops (named P ops (accessed P [] (flat_map accesses (actions_of ops)) h))

-- what is stored is wrapped once
pub gained : (to from : ℕ) (values : ℕ → ℤ) (e : ℕ) → cond (eqb e to) (wrap (values to +ℤ values from)) (values e) ≡ change (action_of (Gain to from)) values e
gained to from values e = elim (cases_eq e to) [
  | inl here ↦ rw (here, eq-eqb to to refl) (sym (wrap_inner (values to) (values from)))
  | inr other ↦ rw (ne_eqb e to other) refl
]

-- a loop over operations, one step on
pub perform_more : (ops : List Op) (i : ℕ) (d : Op) (before after all : ℕ → ℤ) → i < length ops → ((e : ℕ) → after e ≡ change (action_of (get_or ops i d)) before e) →
    performed (actions_of (drop i ops)) before ≡ all → performed (actions_of (drop (i + 1) ops)) after ≡ all
perform_more ops i d before after all inside step rest =
    ap (performed (actions_of (drop (i + 1) ops))) (fun_ext step) ∙ sym (at_drop_more (λ l. performed (actions_of l) before) ops i d inside) ∙ rest
