use Rattle.std.proofs.Common.{◌+◌, List, sym, subst}
use Rattle.std.proofs.lemmas.List.Elements.{All-same}
use Rattle.spf_rel.specs.Meaning.{IsFormed, IsInverse}
use Rattle.spf_rel.specs.declared.relation.Conj.{Conj}
use Rattle.spf_rel.proofs.Swapped.{inverse_formed, inverse_means}
use Rattle.spf_rel.proofs.inverses.inverse.Goals as goal

pub returns-clause-formed : goal.returns-clause-formed
returns-clause-formed c = All-same (IsFormed (c.args.r.now.outs + c.args.r.now.ins)) _ _ c.in_ok-all_swapped.ensures (inverse_formed c.args.r.now c.requires)

pub returns-clause-meaning : goal.returns-clause-meaning
returns-clause-meaning c =
    subst (λ (conjs : List Conj). IsInverse c.args.r.now (record { ins = c.args.r.now.outs; outs = c.args.r.now.ins; conjs = conjs })) (sym c.in_ok-all_swapped.ensures) (inverse_means c.args.r.now c.requires)
