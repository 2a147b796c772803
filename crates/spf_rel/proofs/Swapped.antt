-- Inputs for outputs, and terms as they are.
use Rattle.std.proofs.Common.{◌≡◌, ℕ, ◌+◌, ◌<◌, ◌^◌, ℤ, pos, List, [], ◌∷◌, ◌++◌, map, length, get_or, refl, ap, sym, ◌∙◌, subst, arith, length-append}
use Rattle.std.specs.List.{All}
use Rattle.std.proofs.lemmas.List.Elements.{All-map}
use Rattle.spf_term.specs.Environment.{Environment}
use Rattle.spf_term.specs.Value.{number_at}
use Rattle.spf_term.specs.declared.term.Atom.{Atom, Var, Param, App}
use Rattle.spf_term.specs.declared.term.Mono.{Mono}
use Rattle.spf_term.specs.declared.term.Term.{Term, Term', out-Term, roll-Term, roll-out-Term, Row_of-Mono, end_of-Mono, more_of-Mono, items-the_row-Mono, items_shown-the_row-Mono-0}
use Rattle.spf_rel.specs.Meaning.{Holds, IsFormed, IsFormedRel, IsInverse, Meets, MeetsSome}
use Rattle.spf_rel.specs.Operations.{inverse, swap, swapped}
use Rattle.spf_rel.specs.declared.relation.Conj.{Conj}
use Rattle.spf_rel.specs.declared.relation.Rel.{Rel}
use Rattle.spf_rel.proofs.Joined.{formed_at}
use Rattle.spf_rel.proofs.Meanings.{IsLeast, IsZero, at_same, at_start}
use Rattle.spf_rel.proofs.Moved.{at_first, at_later, at_longer, moved_below, moved_value}
use Rattle.spf_rel.proofs.Pairs.{in_map, of_map}
use Rattle.spf_rel.proofs.Renumbered.{all_came, all_kept, all_lead, all_weaker}
use Rattle.spf_rel.specs.Renumbering.{Variables, moved, renumbered, renumbered_monos, renumbered_atom}

rolled : (term : Term) → roll-Term (record { monos = (out-Term term).monos; constant = (out-Term term).constant }) ≡ term
rolled term = roll-out-Term term

module _ (to : ℕ → ℕ) (same : (number : ℕ) → to number ≡ number) where
  mutual
    unfolding out-Term denote.Hole.Carrier.out

    atom_same : (atom : Atom) → renumbered_atom to atom ≡ atom
    atom_same (Var number) = ap Var (same number)
    atom_same (Param number) = refl
    atom_same (App fun arg) = ap (App fun) (term_same arg)

    row_same : {n : _} (row : Row_of-Mono n) → renumbered_monos to row ≡ items-the_row-Mono n row
    row_same end_of-Mono = refl
    row_same (more_of-Mono coef atom others) = λ i. record { coef = coef; atom = atom_same atom i } ∷ row_same others i

    pub term_same : (term : Term) → renumbered to term ≡ term
    term_same (Term' shape monos constant) = ap (λ (of : List Mono). roll-Term (record { monos = of; constant = constant })) (row_same monos ∙ sym (items_shown-the_row-Mono-0 shape monos)) ∙ rolled (Term' shape monos constant)

  pub terms_same : (terms : List Term) → map (renumbered to) terms ≡ terms
  terms_same [] = refl
  terms_same (term ∷ terms) = λ i. term_same term i ∷ terms_same terms i

-- ---- inputs for outputs

module _ (ins outs inner : ℕ) where
  swap_below : (number : ℕ) → number < ins + outs + inner → moved (swap ins outs) number < outs + ins + inner
  swap_below number inside = moved_below (swap ins outs) number inner (outs + ins + inner) (omega arith) (omega arith) (omega arith) inside

  pub swap_fits : ins + outs + inner < 2 ^ 32 → (terms : List Term) → All (Variables (λ number. number < ins + outs + inner)) terms → All (Variables (λ number. moved (swap ins outs) number < 2 ^ 32)) terms
  swap_fits few terms h = all_weaker (λ number. number < ins + outs + inner) (λ number. moved (swap ins outs) number < 2 ^ 32) (λ number inside. omega (arith, swap_below number inside)) terms h

  swap_leads : (terms : List Term) → All (Variables (λ number. number < ins + outs + inner)) terms → All (Variables (λ number. number < outs + ins + inner)) (map (renumbered (moved (swap ins outs))) terms)
  swap_leads terms h = all_lead (moved (swap ins outs)) (λ number. number < ins + outs + inner) (λ number. number < outs + ins + inner) swap_below terms h

swapped_formed : (ins outs : ℕ) (conj : Conj) → IsFormed (ins + outs) conj → IsFormed (outs + ins) (swapped ins outs conj)
swapped_formed ins outs conj h = record { few = omega (arith, h.few); equal = swap_leads ins outs conj.inner conj.equal h.equal; least = swap_leads ins outs conj.inner conj.least h.least }

pub inverse_formed : (r : Rel) → IsFormedRel r → IsFormedRel (inverse r)
inverse_formed r h = All-map (IsFormed (r.outs + r.ins)) (swapped r.ins r.outs) r.conjs (λ k d inside. swapped_formed r.ins r.outs (get_or r.conjs k d) (h k d inside))

module _ (env : Environment) (ins outs : ℕ) (input output : List ℤ) (is_ins : length input ≡ ins) (is_outs : length output ≡ outs) where
  module _ (conj : Conj) (formed : IsFormed (ins + outs) conj) (inner : List ℤ) (count : length inner ≡ conj.inner) where
    abbrev old : List ℤ
    old = (input ++ output) ++ inner

    abbrev new : List ℤ
    new = (output ++ input) ++ inner

    abbrev InConj : ℕ → Type 0
    InConj number = number < ins + outs + conj.inner

    swapped_values : (number : ℕ) → InConj number → number_at new (pos (moved (swap ins outs) number)) ≡ number_at old (pos number)
    swapped_values number inside =
        moved_value (swap ins outs) new input output inner is_ins is_outs
        (at_longer (output ++ input) inner outs input (omega (arith, length-append output input)) (at_same (output ++ input) (length output + 0) outs input (omega arith) (at_later output input 0 input (at_start input))))
        (at_longer (output ++ input) inner 0 output (omega (arith, length-append output input)) (at_first output input))
        (at_same new (length (output ++ input) + 0) (ins + outs) inner (omega (arith, length-append output input)) (at_later (output ++ input) inner 0 inner (at_start inner)))
        number (omega arith)

    swapped_holds : Holds env old conj → Holds env new (swapped ins outs conj)
    swapped_holds h = record {
      equal = all_kept (moved (swap ins outs)) env old new InConj swapped_values IsZero conj.equal formed.equal h.equal;
      least = all_kept (moved (swap ins outs)) env old new InConj swapped_values IsLeast conj.least formed.least h.least;
    }

    holds_swapped : Holds env new (swapped ins outs conj) → Holds env old conj
    holds_swapped h = record {
      equal = all_came (moved (swap ins outs)) env old new InConj swapped_values IsZero conj.equal formed.equal h.equal;
      least = all_came (moved (swap ins outs)) env old new InConj swapped_values IsLeast conj.least formed.least h.least;
    }

  module _ (conjs : List Conj) (formed : All (IsFormed (ins + outs)) conjs) where
    swapped_meet : MeetsSome env (input ++ output) conjs → MeetsSome env (output ++ input) (map (swapped ins outs) conjs)
    swapped_meet some = record {
      conj = swapped ins outs some.conj;
      there = in_map (swapped ins outs) conjs some.conj some.there;
      meets = record {
        inner = some.meets.inner;
        count = some.meets.count;
        holds = swapped_holds some.conj (formed_at (ins + outs) conjs some.conj formed some.there) some.meets.inner some.meets.count some.meets.holds;
      };
    }

    meet_swapped : MeetsSome env (output ++ input) (map (swapped ins outs) conjs) → MeetsSome env (input ++ output) conjs
    meet_swapped some =
        let (conj, there, is) = of_map (swapped ins outs) conjs some.conj some.there in
        let meets : Meets env (output ++ input) (swapped ins outs conj) = subst (Meets env (output ++ input)) is some.meets in
        record {
          conj = conj;
          there = there;
          meets = record { inner = meets.inner; count = meets.count; holds = holds_swapped conj (formed_at (ins + outs) conjs conj formed there) meets.inner meets.count meets.holds };
        }

pub inverse_means : (r : Rel) → IsFormedRel r → IsInverse r (inverse r)
inverse_means r formed env input output = (
  λ related. record { ins = related.outs; outs = related.ins; meets = meet_swapped env r.ins r.outs output input related.outs related.ins r.conjs formed related.meets },
  λ related. record { ins = related.outs; outs = related.ins; meets = swapped_meet env r.ins r.outs output input related.ins related.outs r.conjs formed related.meets },
)
