use Rattle.spf_rel.proofs.Joined.{left_fits, right_fits}
use Rattle.spf_rel.proofs.join.joined.Goals as goal

pub both-requires-clause-lefts : goal.both-requires-clause-lefts
both-requires-clause-lefts c = left_fits c.args.join.now c.args.left.now c.args.right.now c.requires.join c.requires.room c.args.left.now.equal _ c.as_slice.ensures c.requires.left.equal

pub both-requires-clause-rights : goal.both-requires-clause-rights
both-requires-clause-rights c = right_fits c.args.join.now c.args.left.now c.args.right.now c.requires.join c.requires.room c.args.right.now.equal _ c.as_slice-2.ensures c.requires.right.equal

pub both-requires-2-clause-lefts : goal.both-requires-2-clause-lefts
both-requires-2-clause-lefts c = left_fits c.args.join.now c.args.left.now c.args.right.now c.requires.join c.requires.room c.args.left.now.least _ c.as_slice-3.ensures c.requires.left.least

pub both-requires-2-clause-rights : goal.both-requires-2-clause-rights
both-requires-2-clause-rights c = right_fits c.args.join.now c.args.left.now c.args.right.now c.requires.join c.requires.room c.args.right.now.least _ c.as_slice-4.ensures c.requires.right.least
