use Rattle.std.proofs.Common.{◌+◌, List, sym, subst}
use Rattle.std.proofs.lemmas.List.Elements.{All-same}
use Rattle.spf_rel.specs.Meaning.{IsComposition, IsFormed}
use Rattle.spf_rel.specs.Operations.{composing}
use Rattle.spf_rel.specs.declared.relation.Conj.{Conj}
use Rattle.spf_rel.proofs.Combined.{compose_formed, compose_means, each_has_room}
use Rattle.spf_rel.proofs.products.compose.Goals as goal

pub joined_all-requires-clause-room : goal.joined_all-requires-clause-room
joined_all-requires-clause-room c = each_has_room (composing c.args.b.now c.args.a.now) c.args.a.now.conjs c.args.b.now.conjs c.requires.room

pub returns-clause-formed : goal.returns-clause-formed
returns-clause-formed c = All-same (IsFormed (c.args.a.now.ins + c.args.b.now.outs)) _ _ c.in_ok-joined_all.ensures (compose_formed c.args.b.now c.args.a.now c.requires.arities c.requires.a c.requires.b c.requires.room)

pub returns-clause-meaning : goal.returns-clause-meaning
returns-clause-meaning c =
    subst (λ (conjs : List Conj). IsComposition c.args.b.now c.args.a.now (record { ins = c.args.a.now.ins; outs = c.args.b.now.outs; conjs = conjs })) (sym c.in_ok-joined_all.ensures)
    (compose_means c.args.b.now c.args.a.now c.requires.arities c.requires.a c.requires.b)
