use Rattle.std.proofs.Common.{◌+◌, List, ap, sym, subst, ◌∙◌}
use Rattle.std.specs.List.{All}
use Rattle.std.proofs.lemmas.List.Elements.{All-same}
use Rattle.spf_rel.specs.Join.{HasRoom, joined_all}
use Rattle.spf_rel.specs.declared.join.Join.{Join}
use Rattle.spf_rel.specs.declared.relation.Conj.{Conj}
use Rattle.spf_rel.specs.Meaning.{IsFormed, IsRestriction}
use Rattle.spf_rel.specs.Operations.{meeting}
use Rattle.spf_rel.proofs.Combined.{each_has_room, restrict_formed, restrict_means}
use Rattle.spf_rel.proofs.products.restrict_domain.Goals as goal

pub joined_all-requires-clause-room : goal.joined_all-requires-clause-room
joined_all-requires-clause-room c = subst (λ (join : Join). All (λ (left : Conj). All (HasRoom join left) c.args.s.now.conjs) c.args.r.now.conjs) (sym c.meeting-meeting.ensures) (each_has_room (meeting c.args.r.now.ins c.args.r.now.outs c.args.s.now.arity 0) c.args.r.now.conjs c.args.s.now.conjs c.requires.room)

pub returns-clause-formed : goal.returns-clause-formed
returns-clause-formed c = All-same (IsFormed (c.args.r.now.ins + c.args.r.now.outs)) _ _ (c.in_ok-joined_all.ensures ∙ ap (λ (join : Join). joined_all join c.args.r.now.conjs c.args.s.now.conjs) c.meeting-meeting.ensures) (restrict_formed c.args.r.now c.args.s.now c.requires.arities c.requires.r c.requires.s c.requires.room)

pub returns-clause-meaning : goal.returns-clause-meaning
returns-clause-meaning c =
    subst (λ (conjs : List Conj). IsRestriction c.args.r.now c.args.s.now (record { ins = c.args.r.now.ins; outs = c.args.r.now.outs; conjs = conjs })) (sym (c.in_ok-joined_all.ensures ∙ ap (λ (join : Join). joined_all join c.args.r.now.conjs c.args.s.now.conjs) c.meeting-meeting.ensures))
    (restrict_means c.args.r.now c.args.s.now c.requires.arities c.requires.r c.requires.s)
