-- A script has one answer.
use Rattle.std.proofs.Common.{◌≡◌, ◌⊎◌, ℕ, ◌+◌, ◌<◌, List, Result, Ok, Err, Some, inl, inr, arith, refl, sym, ap, ◌∙◌}
use Rattle.std.proofs.lemmas.Bool.{cases_order}
use Rattle.spf_space.specs.declared.shape.Shape.{Shape}
use Rattle.spf_script.specs.Resolved.{IsFirstBroken, IsResolveAnswer}
use Rattle.spf_script.specs.Rules.{least_rule}
use Rattle.spf_script.specs.declared.resolved.Step.{Step}
use Rattle.spf_script.specs.declared.resolving.ScriptFault.{ScriptFault}
use Rattle.spf_script.specs.declared.resolving.ScriptFault.TheVariants.{Rule, Tiles, Memory}
use Rattle.spf_script.specs.declared.step.TextStep.{TextStep}

module _ (shape : Shape) (plugs : ℕ) (script : List TextStep) where
  abbrev First : ℕ → ℕ → Type 0
  First = IsFirstBroken shape plugs script

  -- a place before that of a first broken one breaks no rule
  later : (m n r s : ℕ) (a : First m r) (b : First n s) → a.place < b.place → ⊥
  later m n r s a b lt = let e = b.before a.place lt in let f = a.broken in cc

  same_place : (m n r s : ℕ) (a : First m r) (b : First n s) → a.place ≡ b.place
  same_place m n r s a b = elim (cases_order a.place b.place) [
    | inl e ↦ e
    | inr (inl lt) ↦ absurd (later m n r s a b lt)
    | inr (inr lt) ↦ absurd (later n m s r b a lt)
  ]

  one_first : (m n r s : ℕ) → First m r → First n s → (m ≡ n) × (r ≡ s)
  one_first m n r s a b =
      let e = same_place m n r s a b in
      let p : Some r ≡ Some s = sym a.broken ∙ (ap (least_rule shape plugs script) e ∙ b.broken) in
      (a.numbered ∙ (ap (λ n. n + 1) e ∙ sym b.numbered), cc)

  pub one_answer : (a b : Result (List Step) ScriptFault) → IsResolveAnswer shape plugs script a → IsResolveAnswer shape plugs script b → (a ≡ b) ⊎ ((a ≡ Err Memory) ⊎ (b ≡ Err Memory))
  one_answer (Err Memory) b x y = inr (inl refl)
  one_answer (Ok s) (Err Memory) x y = inr (inr refl)
  one_answer (Err (Rule n r)) (Err Memory) x y = inr (inr refl)
  one_answer (Err (Tiles n)) (Err Memory) x y = inr (inr refl)
  one_answer (Ok s) (Ok t) x y = inl (ap Ok (x.steps_are ∙ sym y.steps_are))
  one_answer (Ok s) (Err (Rule n r)) x y = let e = x.well_formed y.place in let f = y.broken in cc
  one_answer (Ok s) (Err (Tiles n)) x y = absurd (omega arith)
  one_answer (Err (Rule n r)) (Ok s) y x = let e = x.well_formed y.place in let f = y.broken in cc
  one_answer (Err (Rule m r)) (Err (Rule n s)) x y = let e = one_first m n r s x y in inl (ap (λ (p : ℕ × ℕ). Err (Rule p.0 p.1)) (let h : (m, r) ≡ (n, s) = cc in h))
  one_answer (Err (Rule n r)) (Err (Tiles m)) y x = let e = x.well_formed y.place in let f = y.broken in cc
  one_answer (Err (Tiles n)) (Ok s) x y = absurd (omega arith)
  one_answer (Err (Tiles m)) (Err (Rule n r)) x y = let e = x.well_formed y.place in let f = y.broken in cc
  one_answer (Err (Tiles m)) (Err (Tiles n)) x y = let e : m ≡ n = x.counted ∙ sym y.counted in inl (ap (λ (k : ℕ). Err (Tiles k)) e)
