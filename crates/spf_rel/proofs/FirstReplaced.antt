-- Composed terms of which the second is variable 1.
use Rattle.std.proofs.Common.{◌≡◌, ℕ, ◌+◌, ◌<◌, pos, [], ◌∷◌, ap, arith, sym, ◌∙◌}
use Rattle.spf_term.specs.Normal.{normal}
use Rattle.spf_term.specs.Substitution.{substituted}
use Rattle.spf_term.specs.declared.term.Atom.{Var}
use Rattle.spf_term.specs.declared.term.Term.{Term, out-Term}
use Rattle.spf_rel.specs.Graph.{composed_term, shifted}
use Rattle.spf_rel.specs.Renumbering.{Variables}
use Rattle.spf_rel.proofs.Placed.{placed}
use Rattle.spf_rel.proofs.Renumbered.{weaker}

module _ (normal_by : (var : ℕ) (by term : Term) → normal (substituted var (normal by) term) ≡ normal (substituted var by term)) (normal_whole : (var : ℕ) (by term : Term) → normal (substituted var by (normal term)) ≡ normal (substituted var by term)) where
  pub replaced_first : (ins : ℕ) (by inner term : Term) → Variables (λ number. number < ins) by → (out-Term inner).monos ≡ record { coef = pos 1; atom = Var 1 } ∷ [] → (out-Term inner).constant ≡ pos 0
      → Variables (λ number. number < 2) term → normal (composed_term ins (by ∷ inner ∷ []) term) ≡ normal (substituted 0 by term)
  replaced_first ins by inner term below is none h =
      let start = ins + 1 in
      let given = shifted start term in
      normal_by (start + 1) inner (substituted start (normal by) given)
      ∙ sym (normal_whole (start + 1) inner (substituted start (normal by) given))
      ∙ ap (λ of. normal (substituted (start + 1) inner of)) (normal_by start by given)
      ∙ normal_whole (start + 1) inner (substituted start by given)
      ∙ ap normal (placed start by inner (weaker (λ number. number < ins) (λ number. number < start) (λ number less. omega (arith, less)) by below) is none term h)
