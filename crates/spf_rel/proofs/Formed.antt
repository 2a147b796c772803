-- Graphs of terms are formed, and there is room for their composition.
use Rattle.std.proofs.Common.{ℕ, ◌+◌, ◌<◌, ◌≤◌, ◌^◌, List, [], ◌∷◌, ◌++◌, length, sym, subst, arith}
use Rattle.std.proofs.lemmas.List.Elements.{All-cons, All-head, All-nil, All-tail}
use Rattle.std.specs.List.{All}
use Rattle.spf_term.specs.Equation.{difference}
use Rattle.spf_term.specs.declared.term.Term.{Term}
use Rattle.spf_rel.specs.Graph.{Compose, definitions, graph, shifted}
use Rattle.spf_rel.specs.Meaning.{IsFormed, IsFormedRel}
use Rattle.spf_rel.specs.Operations.{HasRoomRel, compose}
use Rattle.spf_rel.specs.Renumbering.{Variables}
use Rattle.spf_rel.specs.declared.relation.Conj.{Conj}
use Rattle.spf_rel.proofs.Graphed.{composition_is}
use Rattle.spf_rel.proofs.Lone.{conj_with}
use Rattle.spf_rel.proofs.Middles.{difference_kept}
use Rattle.spf_rel.proofs.Renumbered.{weaker}

abbrev Below : ℕ → Term → Type 0
Below bound = Variables (λ number. number < bound)

pub definitions_below : (low bound var : ℕ) (terms : List Term) → low ≤ bound → var + length terms ≤ bound → All (Below low) terms → All (Below bound) (definitions var terms)
definitions_below low bound var [] less room each = All-nil (Below bound)
definitions_below low bound var (term ∷ terms) less room each =
    All-cons (Below bound) (difference var term) (definitions (var + 1) terms)
    (difference_kept (λ number. number < bound) var term (omega (arith, room)) (weaker (λ number. number < low) (λ number. number < bound) (λ number below. omega (arith, below, less)) term (All-head (Below low) term terms each)))
    (definitions_below low bound (var + 1) terms less (omega (arith, room)) (All-tail (Below low) term terms each))

graph_formed : (ins : ℕ) (terms : List Term) → ins + length terms + 0 < 2 ^ 32 → All (Below ins) terms → IsFormedRel (graph ins terms)
graph_formed ins terms few each =
    let outer = ins + length terms in
    All-cons (IsFormed outer) (conj_with 0 (definitions ins terms)) []
    (record { few = few; equal = definitions_below ins (outer + 0) ins terms (omega arith) (omega arith) each; least = All-nil (Below (outer + 0)) })
    (All-nil (IsFormed outer))

module _ (ins : ℕ) (terms : List Term) (last : Term) (h : Compose ins terms last) where
  pub first_formed : IsFormedRel (graph ins terms)
  first_formed = let few = h.few in graph_formed ins terms (omega (arith, few)) h.of_inputs

  pub last_formed : IsFormedRel (graph (length terms) (last ∷ []))
  last_formed = let few = h.few in graph_formed (length terms) (last ∷ []) (omega (arith, few)) (All-cons (Below (length terms)) last [] h.of_outputs (All-nil (Below (length terms))))

  pub has_room : HasRoomRel (compose (graph (length terms) (last ∷ [])) (graph ins terms))
  has_room =
      let few = h.few in
      subst (All (λ (conj : Conj). ins + 1 + conj.inner < 2 ^ 32)) (sym (composition_is ins terms last h))
      (All-cons (λ (conj : Conj). ins + 1 + conj.inner < 2 ^ 32) (conj_with (length terms) (definitions (ins + 1) terms ++ difference ins (shifted (ins + 1) last) ∷ [])) [] (omega (arith, few)) (All-nil (λ (conj : Conj). ins + 1 + conj.inner < 2 ^ 32)))
