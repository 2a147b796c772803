-- One round after another.
use Rattle.std.proofs.Common.{◌≡◌, ℕ, zero, suc, ◌+◌, ℤ, [], None, Some, Result, Ok, Err, length, map, get_or, ap, sym, ◌∙◌, subst}
use Rattle.std.proofs.lemmas.List.{length-map}
use Rattle.std.proofs.lemmas.List.Elements.{All-map}
use Rattle.std.specs.List.{All}
use Rattle.std.specs.Option.{option_map}
use Rattle.spf_term.specs.Normal.{IsNormal, normal}
use Rattle.spf_term.specs.Solution.{oriented}
use Rattle.spf_term.specs.Substitution.{substituted}
use Rattle.spf_term.specs.declared.fault.TermFault.{TermFault}
use Rattle.spf_term.specs.declared.fault.TermFault.TheVariants.{Wide, Memory}
use Rattle.spf_term.specs.declared.term.Term.{Term}
use Rattle.spf_rel.specs.Elimination.{AreReady}
use Rattle.spf_rel.specs.Rule.{IsTestedTogether, conj_excess}
use Rattle.spf_rel.specs.Simplified.{Choice, IsOutcome, choice, eliminated, go_on, next, normal_conj, rounds, solved, tested}
use Rattle.spf_rel.specs.declared.relation.Conj.{Conj}
use Rattle.spf_rel.proofs.Together.{equalities_keep, inequalities_keep}

-- what the laws on normal forms tell
pub record NormalLaws : Type 0 where
  pub normal : (term : Term) → IsNormal (normal term)
  pub oriented : (term : Term) → IsNormal term → IsNormal (oriented term)

module _ (laws : NormalLaws) (conj : Conj) (none : conj_excess (normal_conj conj) ≡ None) where
  equal_normal : All IsNormal (normal_conj conj).equal
  equal_normal = All-map IsNormal (λ (term : Term). oriented (normal term)) conj.equal (λ k d inside. laws.oriented (normal (get_or conj.equal k d)) (laws.normal (get_or conj.equal k d)))

  least_normal : All IsNormal (normal_conj conj).least
  least_normal = All-map IsNormal normal conj.least (λ k d inside. laws.normal (get_or conj.least k d))

  pub equal_ready : AreReady (normal_conj conj).equal
  equal_ready = λ k d inside. (equal_normal k d inside, equalities_keep (normal_conj conj) none k d inside)

  pub least_ready : AreReady (normal_conj conj).least
  least_ready = λ k d inside. (least_normal k d inside, inequalities_keep (normal_conj conj) none k d inside)

module _ (outer : ℕ) where
  pub rounds_told : (fuel : ℕ) (conj : Conj) (number : ℤ) → conj_excess conj ≡ Some number → rounds fuel outer conj ≡ Err number
  rounds_told zero conj number is = ap (λ test. tested test (Ok conj)) is
  rounds_told (suc fuel) conj number is = ap (λ test. tested test (go_on conj (next outer conj) (rounds fuel outer))) is

  pub rounds_over : (fuel : ℕ) (conj : Conj) → fuel ≡ 0 → conj_excess conj ≡ None → rounds fuel outer conj ≡ Ok conj
  rounds_over fuel conj over is = ap (λ of. rounds of outer conj) over ∙ ap (λ test. tested test (Ok conj)) is

  pub rounds_done : (fuel fewer : ℕ) (conj : Conj) → fuel ≡ suc fewer → conj_excess conj ≡ None → choice outer (outer + conj.inner) [] conj.equal ≡ None → rounds fuel outer conj ≡ Ok conj
  rounds_done fuel fewer conj more is none =
      ap (λ of. rounds of outer conj) more ∙ ap (λ test. tested test (go_on conj (next outer conj) (rounds fewer outer))) is ∙ ap (λ found. go_on conj (option_map (eliminated conj) found) (rounds fewer outer)) none

  pub rounds_further : (fuel fewer : ℕ) (conj : Conj) (found : Choice) → fuel ≡ suc fewer → conj_excess conj ≡ None → choice outer (outer + conj.inner) [] conj.equal ≡ Some found → rounds fuel outer conj ≡ rounds fewer outer (eliminated conj found)
  rounds_further fuel fewer conj found more is some =
      ap (λ of. rounds of outer conj) more ∙ ap (λ test. tested test (go_on conj (next outer conj) (rounds fewer outer))) is ∙ ap (λ found. go_on conj (option_map (eliminated conj) found) (rounds fewer outer)) some

  -- where the state of a loop is, and what is left to do
  pub record Going (left whole : ℕ) (given current : Conj) : Type 0 where
    pub same : rounds left outer current ≡ rounds whole outer given
    pub room : current.inner ≡ given.inner
    pub keeps : conj_excess current ≡ None
    pub equal : AreReady current.equal
    pub least : AreReady current.least

  module _ (laws : NormalLaws) (left fewer whole : ℕ) (given current : Conj) (more : left ≡ suc fewer) (h : Going left whole given current) (found : Choice)
      (some : choice outer (outer + current.inner) [] current.equal ≡ Some found) where
    -- before step 1 follows
    abbrev half : Conj
    half = record { inner = current.inner; equal = map (substituted found.found.var found.found.by) found.others; least = map (substituted found.found.var found.found.by) current.least }

    pub gone_on : (made : Conj) → IsTestedTogether (eliminated current found) (Ok made) → Going fewer whole given made
    gone_on made is =
        subst (Going fewer whole given) (sym is.0) (record {
          same = sym (rounds_further left fewer current found more h.keeps some) ∙ h.same;
          room = h.room;
          keeps = is.1;
          equal = equal_ready laws half is.1;
          least = least_ready laws half is.1;
        })

    pub stopped : (fault : TermFault) → IsTestedTogether (eliminated current found) (Err fault) → IsOutcome (rounds whole outer given) (Err fault)
    stopped (Wide number) is = sym h.same ∙ rounds_further left fewer current found more h.keeps some ∙ rounds_told fewer (eliminated current found) number is
    stopped Memory is = tt

  -- ---- from the start

  pub told_first : (conj : Conj) (number : ℤ) → conj_excess conj ≡ Some number → solved outer conj ≡ Err number
  told_first conj number is = ap (λ test. tested test (rounds (length conj.equal) outer (normal_conj conj))) is

  pub past_first : (conj : Conj) → conj_excess conj ≡ None → solved outer conj ≡ rounds (length conj.equal) outer (normal_conj conj)
  past_first conj is = ap (λ test. tested test (rounds (length conj.equal) outer (normal_conj conj))) is

  pub told_second : (conj : Conj) (fault : TermFault) → conj_excess conj ≡ None → IsTestedTogether (normal_conj conj) (Err fault) → IsOutcome (solved outer conj) (Err fault)
  told_second conj (Wide number) none is = past_first conj none ∙ rounds_told (length conj.equal) (normal_conj conj) number is
  told_second conj Memory none is = tt

  outcome_same : (first second : Result Conj ℤ) (result : Result Conj TermFault) → first ≡ second → IsOutcome second result → IsOutcome first result
  outcome_same first second result same is = subst (λ of. IsOutcome of result) (sym same) is

  pub solved_as : (conj made : Conj) (result : Result Conj TermFault) → conj_excess conj ≡ None → made ≡ normal_conj conj → IsOutcome (rounds (length made.equal) outer made) result → IsOutcome (solved outer conj) result
  solved_as conj made result none is outcome =
      outcome_same (solved outer conj) (rounds (length made.equal) outer made) result
      (past_first conj none ∙ (λ i. rounds (sym (length-map conj.equal (λ (term : Term). oriented (normal term))) i) outer (normal_conj conj)) ∙ ap (λ (of : Conj). rounds (length of.equal) outer of) (sym is)) outcome
