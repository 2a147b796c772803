-- The conjunctions of one operand, and then those of the other.
use Rattle.std.proofs.Common.{◌≡◌, ℕ, ◌+◌, ◌<◌, ◌^◌, ◌⊎◌, inl, inr, ℤ, List, ◌++◌, get_or, sym, ◌∙◌, subst, arith}
use Rattle.std.specs.List.{All}
use Rattle.std.proofs.lemmas.List.Elements.{All-append, Contains-append_cases, Contains-append_left, Contains-append_right}
use Rattle.spf_term.specs.Environment.{Environment}
use Rattle.spf_rel.specs.Meaning.{IsFormed, IsFormedRel, IsFormedSet, IsNumbered, IsUnion, IsUnionOfSets, MeetsSome}
use Rattle.spf_rel.specs.Operations.{union, union_sets}
use Rattle.spf_rel.specs.declared.relation.Conj.{Conj}
use Rattle.spf_rel.specs.declared.relation.Set.{Set}
use Rattle.spf_rel.specs.declared.relation.Rel.{Rel}
use Rattle.spf_rel.proofs.Renumbered.{all_weaker}

numbered : (outer : ℕ) (conj : Conj) → IsFormed outer conj → IsNumbered conj
numbered outer conj h = record {
  equal = all_weaker (λ number. number < outer + conj.inner) (λ number. number < 2 ^ 32) (λ number inside. omega (arith, h.few)) conj.equal h.equal;
  least = all_weaker (λ number. number < outer + conj.inner) (λ number. number < 2 ^ 32) (λ number inside. omega (arith, h.few)) conj.least h.least;
}

pub all_numbered : (outer : ℕ) (conjs : List Conj) → All (IsFormed outer) conjs → All IsNumbered conjs
all_numbered outer conjs h = λ k d inside. numbered outer (get_or conjs k d) (h k d inside)

module _ (env : Environment) (point : List ℤ) (a b : List Conj) where
  first_meets : MeetsSome env point a → MeetsSome env point (a ++ b)
  first_meets some = record { conj = some.conj; there = Contains-append_left a b some.conj some.there; meets = some.meets }

  second_meets : MeetsSome env point b → MeetsSome env point (a ++ b)
  second_meets some = record { conj = some.conj; there = Contains-append_right a b some.conj some.there; meets = some.meets }

  either_meets : MeetsSome env point (a ++ b) → MeetsSome env point a ⊎ MeetsSome env point b
  either_meets some = elim (Contains-append_cases a b some.conj some.there) [
    | inl there ↦ inl (record { conj = some.conj; there = there; meets = some.meets })
    | inr there ↦ inr (record { conj = some.conj; there = there; meets = some.meets })
  ]

module _ (a b : Rel) (ins : a.ins ≡ b.ins) (outs : a.outs ≡ b.outs) where
  pub union_formed : IsFormedRel a → IsFormedRel b → IsFormedRel (union a b)
  union_formed h k =
      let same : b.ins + b.outs ≡ a.ins + a.outs = omega arith in
      All-append (IsFormed (a.ins + a.outs)) a.conjs b.conjs h (subst (λ outer. All (IsFormed outer) b.conjs) same k)

  pub union_means : IsUnion a b (union a b)
  union_means env input output = (
    λ related. elim (either_meets env (input ++ output) a.conjs b.conjs related.meets) [
      | inl meets ↦ inl (record { ins = related.ins; outs = related.outs; meets = meets })
      | inr meets ↦ inr (record { ins = related.ins ∙ ins; outs = related.outs ∙ outs; meets = meets })
    ],
    λ either. elim either [
      | inl related ↦ record { ins = related.ins; outs = related.outs; meets = first_meets env (input ++ output) a.conjs b.conjs related.meets }
      | inr related ↦ record { ins = related.ins ∙ sym ins; outs = related.outs ∙ sym outs; meets = second_meets env (input ++ output) a.conjs b.conjs related.meets }
    ],
  )

module _ (a b : Set) (arities : a.arity ≡ b.arity) where
  pub union_sets_formed : IsFormedSet a → IsFormedSet b → IsFormedSet (union_sets a b)
  union_sets_formed h k = All-append (IsFormed a.arity) a.conjs b.conjs h (subst (λ outer. All (IsFormed outer) b.conjs) (sym arities) k)

  pub union_sets_means : IsUnionOfSets a b (union_sets a b)
  union_sets_means env point = (
    λ within. elim (either_meets env point a.conjs b.conjs within.meets) [
      | inl meets ↦ inl (record { arity = within.arity; meets = meets })
      | inr meets ↦ inr (record { arity = within.arity ∙ arities; meets = meets })
    ],
    λ either. elim either [
      | inl within ↦ record { arity = within.arity; meets = first_meets env point a.conjs b.conjs within.meets }
      | inr within ↦ record { arity = within.arity ∙ sym arities; meets = second_meets env point a.conjs b.conjs within.meets }
    ],
  )
