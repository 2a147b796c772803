use Rattle.std.proofs.Common.{List, ap, sym, subst, ◌∙◌}
use Rattle.std.specs.List.{All}
use Rattle.std.proofs.lemmas.List.Elements.{All-same}
use Rattle.spf_rel.specs.Join.{HasRoom, joined_all}
use Rattle.spf_rel.specs.declared.join.Join.{Join}
use Rattle.spf_rel.specs.declared.relation.Conj.{Conj}
use Rattle.spf_rel.specs.Meaning.{IsFormed, IsIntersectionOfSets}
use Rattle.spf_rel.proofs.Combined.{intersect_sets_formed, intersect_sets_means, intersect_sets_room}
use Rattle.spf_rel.proofs.products.intersect_sets.Goals as goal

pub joined_all-requires-clause-room : goal.joined_all-requires-clause-room
joined_all-requires-clause-room c = subst (λ (join : Join). All (λ (left : Conj). All (HasRoom join left) c.args.b.now.conjs) c.args.a.now.conjs) (sym c.meeting-meeting.ensures) (intersect_sets_room c.args.a.now c.args.b.now c.requires.arities c.requires.a c.requires.b c.requires.room)

pub returns-clause-formed : goal.returns-clause-formed
returns-clause-formed c = All-same (IsFormed c.args.a.now.arity) _ _ (c.in_ok-joined_all.ensures ∙ ap (λ (join : Join). joined_all join c.args.a.now.conjs c.args.b.now.conjs) c.meeting-meeting.ensures) (intersect_sets_formed c.args.a.now c.args.b.now c.requires.arities c.requires.a c.requires.b c.requires.room)

pub returns-clause-meaning : goal.returns-clause-meaning
returns-clause-meaning c =
    subst (λ (conjs : List Conj). IsIntersectionOfSets c.args.a.now c.args.b.now (record { arity = c.args.a.now.arity; conjs = conjs })) (sym (c.in_ok-joined_all.ensures ∙ ap (λ (join : Join). joined_all join c.args.a.now.conjs c.args.b.now.conjs) c.meeting-meeting.ensures))
    (intersect_sets_means c.args.a.now c.args.b.now c.requires.arities c.requires.a c.requires.b)
