use Rattle.std.proofs.Common.{sym, ◌∙◌}
use Rattle.spf_pack.proofs.Lengths.{member_more}
use Rattle.spf_pack.proofs.members.member_place.Goals as goal

pub returns-in-Some : goal.returns-in-Some
returns-in-Some c =
    let more = c.loop-member.invariant ∙ member_more c.args.arrays.now c.args.members.now c.loop-member.member-index c.args.element c.index-arrays-member.result c.place_in.result c.loop-member-test.true
    (c.requires c.loop-member.member-index 0 c.loop-member-test.true) c.index-arrays-member.is c.place_in.ensures in
    sym (rw c.in-Some.is at more)

pub loop-member-preserved : goal.loop-member-preserved
loop-member-preserved c =
    let more = c.loop-member.invariant ∙ member_more c.args.arrays.now c.args.members.now c.loop-member.member-index c.args.element c.index-arrays-member.result c.place_in.result c.loop-member-test.true
    (c.requires c.loop-member.member-index 0 c.loop-member-test.true) c.index-arrays-member.is c.place_in.ensures in
    rw c.in_default.is at more
