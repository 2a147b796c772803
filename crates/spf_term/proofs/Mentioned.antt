-- Where a variable occurs, said of monomials as lists.
use Rattle.std.proofs.Common.{◌≡◌, ℕ, ◌+◌, ◌<◌, ◌≤◌, List, [], ◌∷◌, ◌++◌, Bool, true, false, if◌then◌else◌, length, get_or, drop, refl, ap, sym, ◌∙◌}
use Rattle.std.proofs.lemmas.List.{drop_all}
use Rattle.spf_term.specs.Solution.{atom_mentions, mentions, some_mention, sum_mentions}
use Rattle.spf_term.specs.declared.term.Mono.{Mono}
use Rattle.spf_term.specs.declared.term.Term.{Term, Term', out-Term, Row_of-Mono, end_of-Mono, more_of-Mono, items-the_row-Mono, items_shown-the_row-Mono-0}
use Rattle.spf_term.proofs.Monos.{drop_next}

module _ (var : ℕ) where
  row_mentions : {n : _} (row : Row_of-Mono n) → sum_mentions var row ≡ some_mention var (items-the_row-Mono n row)
  row_mentions end_of-Mono = refl
  row_mentions (more_of-Mono coef atom others) = ap (λ later. if atom_mentions var atom then true else later) (row_mentions others)

  pub mentions_are : (term : Term) → mentions var term ≡ some_mention var (out-Term term).monos
  unfolding out-Term denote.Hole.Carrier.out
  mentions_are (Term' shape monos constant) = row_mentions monos ∙ ap (some_mention var) (sym (items_shown-the_row-Mono-0 shape monos))

  module _ (monos : List Mono) (index : ℕ) (mono : Mono) (inside : index < length monos) (at : mono ≡ get_or monos index mono) where
    pub mention_here : atom_mentions var mono.atom ≡ true → some_mention var (drop index monos) ≡ true
    mention_here is = ap (some_mention var) (drop_next monos index mono inside at) ∙ ap (λ here. if here then true else some_mention var (drop (index + 1) monos)) is

    pub mention_later : atom_mentions var mono.atom ≡ false → some_mention var (drop index monos) ≡ some_mention var (drop (index + 1) monos)
    mention_later is = ap (some_mention var) (drop_next monos index mono inside at) ∙ ap (λ here. if here then true else some_mention var (drop (index + 1) monos)) is

  pub mention_end : (monos : List Mono) (index : ℕ) → length monos ≤ index → some_mention var (drop index monos) ≡ false
  mention_end monos index past = ap (some_mention var) (drop_all index monos past)

  both_by : (here first whole second : Bool) → whole ≡ (if first then true else second) → (if here then true else whole) ≡ (if (if here then true else first) then true else second)
  both_by true first whole second is = refl
  both_by false first whole second is = is

  pub mention_both : (first second : List Mono) → some_mention var (first ++ second) ≡ (if some_mention var first then true else some_mention var second)
  mention_both [] second = refl
  mention_both (mono ∷ first) second = both_by (atom_mentions var mono.atom) (some_mention var first) (some_mention var (first ++ second)) (some_mention var second) (mention_both first second)
