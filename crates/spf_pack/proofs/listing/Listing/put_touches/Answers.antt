use Rattle.std.proofs.Common.{◌∙◌, sym, arith}
use Rattle.spf_pack.proofs.Lengths.{members_there, place_below}
use Rattle.spf_pack.proofs.listing.Listing.put_touches.Goals as goal

pub member_place-requires : goal.member_place-requires
member_place-requires c = members_there c.args.arrays.now _ c.args.members.now c.requires.members

pub put-requires-clause-there : goal.put-requires-clause-there
put-requires-clause-there c =
    let there = place_below c.args.arrays.now _ c.args.members.now _ c.in-Some.place c.requires.members (sym c.member_place.ensures ∙ c.in-Some.is) in omega (arith, there, c.loop-touch.invariant.still)
