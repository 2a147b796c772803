-- Inner variables that don't occur go one after another, the last first.
use Rattle.std.proofs.Common.{◌≡◌, inl, inr, ℕ, suc, ◌+◌, ◌-◌, ◌<◌, ◌≤◌, ◌^◌, true, false, if◌then◌else◌, List, ap, sym, ◌∙◌, subst, arith}
use Rattle.std.proofs.lemmas.Bool.{cases_lt}
use Rattle.std.proofs.lemmas.Bool.Decides.{nat_tests}
use Rattle.std.specs.List.{All}
use Rattle.spf_term.specs.declared.term.Term.{Term}
use Rattle.spf_rel.specs.Meaning.{IsFormed, IsNumbered}
use Rattle.spf_rel.specs.Renumbering.{Variables, moved}
use Rattle.spf_rel.specs.Simplified.{closing, compacted, conj_mentions, without}
use Rattle.spf_rel.specs.declared.relation.Conj.{Conj}
use Rattle.spf_rel.proofs.Renumbered.{all_weaker}
use Rattle.spf_rel.proofs.Settled.{without_kept}

closed_below : (var bound number : ℕ) → number < bound → moved (closing var) number < bound
closed_below var bound number inside = elim (cases_lt number var) [
  | inl here ↦ let is : moved (closing var) number ≡ number = grind (arith, nat_tests) in omega (arith, is, inside)
  | inr past ↦ elim (cases_lt (number - var) 1) [
    | inl same ↦ let is : moved (closing var) number ≡ 0 + (number - var) = grind (arith, nat_tests) in omega (arith, is, inside, same)
    | inr beyond ↦ let is : moved (closing var) number ≡ var + (number - var - 1) = grind (arith, nat_tests) in omega (arith, is, inside, beyond)
  ]
]

pub closing_fits : (var : ℕ) (terms : List Term) → All (Variables (λ number. number < 2 ^ 32)) terms → All (Variables (λ number. moved (closing var) number < 2 ^ 32)) terms
closing_fits var terms h = all_weaker (λ number. number < 2 ^ 32) (λ number. moved (closing var) number < 2 ^ 32) (closed_below var (2 ^ 32)) terms h

pub formed_numbered : (outer : ℕ) (conj : Conj) → IsFormed outer conj → IsNumbered conj
formed_numbered outer conj h = record {
  equal = all_weaker (λ number. number < outer + conj.inner) (λ number. number < 2 ^ 32) (λ number inside. omega (arith, h.few)) conj.equal h.equal;
  least = all_weaker (λ number. number < outer + conj.inner) (λ number. number < 2 ^ 32) (λ number inside. omega (arith, h.few)) conj.least h.least;
}

-- these many inner variables are still to be looked at
pub record Compacting (outer left : ℕ) (given current : Conj) : Type 0 where
  pub same : compacted outer left current ≡ compacted outer given.inner given
  pub formed : IsFormed outer current
  pub inside : left ≤ current.inner

module _ (outer left fewer : ℕ) (given current : Conj) (more : left ≡ suc fewer) (h : Compacting outer left given current) where
  split : compacted outer left current ≡ compacted outer fewer (if conj_mentions (outer + fewer) current then current else without (outer + fewer) current)
  split = ap (λ of. compacted outer of current) more

  pub stays : conj_mentions (outer + fewer) current ≡ true → Compacting outer fewer given current
  stays occurs = record {
    same = sym (split ∙ ap (λ test. compacted outer fewer (if test then current else without (outer + fewer) current)) occurs) ∙ h.same;
    formed = h.formed;
    inside = let within = h.inside in omega (arith, within, more);
  }

  pub goes : conj_mentions (outer + fewer) current ≡ false → (made : Conj) → made ≡ without (outer + fewer) current → Compacting outer fewer given made
  goes none made is =
      let within = h.inside in
      subst (Compacting outer fewer given) (sym is) (record {
        same = sym (split ∙ ap (λ test. compacted outer fewer (if test then current else without (outer + fewer) current)) none) ∙ h.same;
        formed = (without_kept outer fewer current (omega (arith, within, more)) h.formed none).formed;
        inside = omega (arith, within, more);
      })

pub all_compacted : (outer left : ℕ) (given current : Conj) → left ≡ 0 → Compacting outer left given current → current ≡ compacted outer given.inner given
all_compacted outer left given current none h = sym (ap (λ of. compacted outer of current) none) ∙ h.same
