use Rattle.std.proofs.Common.{◌≡◌, drop}
use Rattle.spf_pack.specs.FirstTouch.{member_place}
use Rattle.spf_pack.proofs.members.member_place.Given as goal

abbrev pub invariant-loop-member : goal.invariant-loop-member
invariant-loop-member l = member_place l.arrays l.members l.element ≡ member_place l.arrays (drop l.member-index l.members) l.element
