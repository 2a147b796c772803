use Rattle.std.proofs.Common.{◌≡◌, None}
use Rattle.std.proofs.lemmas.List.Elements.{All-same}
use Rattle.spf_term.specs.NumberRule.{excess}
use Rattle.spf_term.specs.declared.term.Term.{Term}
use Rattle.spf_rel.proofs.Together.{equalities_keep, inequalities_keep}
use Rattle.spf_rel.proofs.normal_terms.made_normal.Goals as goal

pub normal_equalities-requires : goal.normal_equalities-requires
normal_equalities-requires c = All-same (λ (term : Term). excess term ≡ None) _ _ c.as_slice.ensures (equalities_keep c.args.conj.now c.requires)

pub normal_inequalities-requires : goal.normal_inequalities-requires
normal_inequalities-requires c = All-same (λ (term : Term). excess term ≡ None) _ _ c.as_slice-2.ensures (inequalities_keep c.args.conj.now c.requires)
