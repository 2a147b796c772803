use Rattle.spf_legal.specs.Falling.{number_in}
use Rattle.spf_legal.proofs.Scans.{IsLastTo}
use Rattle.spf_legal.proofs.falls.last_above.Given as goal

-- the last so far
abbrev pub invariant-loop-unit : goal.invariant-loop-unit
invariant-loop-unit l = IsLastTo (number_in l.shape l.places) l.units l.bound l.unit-index l.last
