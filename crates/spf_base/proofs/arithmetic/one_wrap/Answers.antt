use Rattle.spf_base.proofs.Wraps.{IsWrap-wrap, wrap_only}
use Rattle.spf_base.proofs.arithmetic.one_wrap.Goals as goal

pub returns-clause-is : goal.returns-clause-is
returns-clause-is c = IsWrap-wrap

pub returns-clause-only : goal.returns-clause-only
returns-clause-only c = wrap_only
