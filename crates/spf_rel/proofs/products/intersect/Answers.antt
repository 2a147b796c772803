use Rattle.std.proofs.Common.{◌+◌, List, ap, sym, subst, ◌∙◌}
use Rattle.std.specs.List.{All}
use Rattle.std.proofs.lemmas.List.Elements.{All-same}
use Rattle.spf_rel.specs.Join.{HasRoom, joined_all}
use Rattle.spf_rel.specs.declared.join.Join.{Join}
use Rattle.spf_rel.specs.declared.relation.Conj.{Conj}
use Rattle.spf_rel.specs.Meaning.{IsFormed, IsIntersection}
use Rattle.spf_rel.specs.Operations.{meeting}
use Rattle.spf_rel.proofs.Combined.{each_has_room, intersect_formed, intersect_means}
use Rattle.spf_rel.proofs.products.intersect.Goals as goal

pub joined_all-requires-clause-room : goal.joined_all-requires-clause-room
joined_all-requires-clause-room c = subst (λ (join : Join). All (λ (left : Conj). All (HasRoom join left) c.args.b.now.conjs) c.args.a.now.conjs) (sym c.meeting-meeting.ensures) (each_has_room (meeting c.args.a.now.ins c.args.a.now.outs c.args.b.now.ins c.args.b.now.outs) c.args.a.now.conjs c.args.b.now.conjs c.requires.room)

pub returns-clause-formed : goal.returns-clause-formed
returns-clause-formed c = All-same (IsFormed (c.args.a.now.ins + c.args.a.now.outs)) _ _ (c.in_ok-joined_all.ensures ∙ ap (λ (join : Join). joined_all join c.args.a.now.conjs c.args.b.now.conjs) c.meeting-meeting.ensures) (intersect_formed c.args.a.now c.args.b.now c.requires.ins c.requires.outs c.requires.a c.requires.b c.requires.room)

pub returns-clause-meaning : goal.returns-clause-meaning
returns-clause-meaning c =
    subst (λ (conjs : List Conj). IsIntersection c.args.a.now c.args.b.now (record { ins = c.args.a.now.ins; outs = c.args.a.now.outs; conjs = conjs })) (sym (c.in_ok-joined_all.ensures ∙ ap (λ (join : Join). joined_all join c.args.a.now.conjs c.args.b.now.conjs) c.meeting-meeting.ensures))
    (intersect_means c.args.a.now c.args.b.now c.requires.ins c.requires.outs c.requires.a c.requires.b)
