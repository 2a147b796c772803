use Rattle.std.proofs.Common.{◌+◌, List, sym, subst}
use Rattle.std.proofs.lemmas.List.Elements.{All-same}
use Rattle.spf_rel.specs.Meaning.{IsFormed, IsUnion}
use Rattle.spf_rel.specs.declared.relation.Conj.{Conj}
use Rattle.spf_rel.proofs.United.{all_numbered, union_formed, union_means}
use Rattle.spf_rel.proofs.unions.union.Goals as goal

pub both-requires-clause-first : goal.both-requires-clause-first
both-requires-clause-first c = all_numbered (c.args.a.now.ins + c.args.a.now.outs) c.args.a.now.conjs c.requires.a

pub both-requires-clause-second : goal.both-requires-clause-second
both-requires-clause-second c = all_numbered (c.args.b.now.ins + c.args.b.now.outs) c.args.b.now.conjs c.requires.b

pub returns-clause-formed : goal.returns-clause-formed
returns-clause-formed c = All-same (IsFormed (c.args.a.now.ins + c.args.a.now.outs)) _ _ c.in_ok-both.ensures (union_formed c.args.a.now c.args.b.now c.requires.ins c.requires.outs c.requires.a c.requires.b)

pub returns-clause-meaning : goal.returns-clause-meaning
returns-clause-meaning c =
    subst (λ (conjs : List Conj). IsUnion c.args.a.now c.args.b.now (record { ins = c.args.a.now.ins; outs = c.args.a.now.outs; conjs = conjs })) (sym c.in_ok-both.ensures)
    (union_means c.args.a.now c.args.b.now c.requires.ins c.requires.outs)
