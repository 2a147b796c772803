use Rattle.std.proofs.Common.{List, sym, subst}
use Rattle.std.proofs.lemmas.List.Elements.{All-same}
use Rattle.spf_rel.specs.Meaning.{IsFormed, IsUnionOfSets}
use Rattle.spf_rel.specs.declared.relation.Conj.{Conj}
use Rattle.spf_rel.proofs.United.{all_numbered, union_sets_formed, union_sets_means}
use Rattle.spf_rel.proofs.unions.union_sets.Goals as goal

pub both-requires-clause-first : goal.both-requires-clause-first
both-requires-clause-first c = all_numbered c.args.a.now.arity c.args.a.now.conjs c.requires.a

pub both-requires-clause-second : goal.both-requires-clause-second
both-requires-clause-second c = all_numbered c.args.b.now.arity c.args.b.now.conjs c.requires.b

pub returns-clause-formed : goal.returns-clause-formed
returns-clause-formed c = All-same (IsFormed c.args.a.now.arity) _ _ c.in_ok-both.ensures (union_sets_formed c.args.a.now c.args.b.now c.requires.arities c.requires.a c.requires.b)

pub returns-clause-meaning : goal.returns-clause-meaning
returns-clause-meaning c =
    subst (λ (conjs : List Conj). IsUnionOfSets c.args.a.now c.args.b.now (record { arity = c.args.a.now.arity; conjs = conjs })) (sym c.in_ok-both.ensures)
    (union_sets_means c.args.a.now c.args.b.now c.requires.arities)
