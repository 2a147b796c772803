use Rattle.std.proofs.Common.{w64}
use Rattle.std.proofs.lemmas.Int.{wrapping_add_is}
use Rattle.spf_base.specs.Wrap.{wrap}
use Rattle.spf_base.proofs.Wraps.{IsWrap-wrap}
use Rattle.spf_base.proofs.arithmetic.wadd.Goals as goal

pub returns-clause-wraps : goal.returns-clause-wraps
unfolding wrap
returns-clause-wraps c =
    rw (wrapping_add_is w64 c.args.a c.args.b c.ranges.a c.ranges.b) (IsWrap-wrap _)

pub returns-clause-value : goal.returns-clause-value
unfolding wrap
returns-clause-value c = wrapping_add_is w64 c.args.a c.args.b c.ranges.a c.ranges.b
