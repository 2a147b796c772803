use Rattle.std.proofs.Common.{List, sym, subst}
use Rattle.std.proofs.lemmas.List.Elements.{All-same}
use Rattle.spf_rel.specs.declared.relation.Conj.{Conj}
use Rattle.spf_rel.specs.Meaning.{IsFormed, IsImage}
use Rattle.spf_rel.proofs.Combined.{apply_formed, apply_means, apply_room}
use Rattle.spf_rel.proofs.products.apply.Goals as goal

pub joined_all-requires-clause-room : goal.joined_all-requires-clause-room
joined_all-requires-clause-room c = apply_room c.args.r.now c.args.s.now c.requires.arities c.requires.r c.requires.s c.requires.room

pub returns-clause-formed : goal.returns-clause-formed
returns-clause-formed c = All-same (IsFormed c.args.r.now.outs) _ _ (c.in_ok-joined_all.ensures) (apply_formed c.args.r.now c.args.s.now c.requires.arities c.requires.r c.requires.s c.requires.room)

pub returns-clause-meaning : goal.returns-clause-meaning
returns-clause-meaning c =
    subst (λ (conjs : List Conj). IsImage c.args.r.now c.args.s.now (record { arity = c.args.r.now.outs; conjs = conjs })) (sym (c.in_ok-joined_all.ensures))
    (apply_means c.args.r.now c.args.s.now c.requires.arities c.requires.r c.requires.s)
