use Rattle.std.proofs.Common.{◌+◌, ◌*◌}
use Rattle.spf_calc.proofs.exp.+exp.Given as goal

abbrev pub decreases-exp : goal.decreases-exp
decreases-exp l = 10 * l.depth

abbrev pub decreases-two : goal.decreases-two
decreases-two l = 10 * l.depth + 1

abbrev pub decreases-inverse : goal.decreases-inverse
decreases-inverse l = 10 * l.depth + 1

abbrev pub decreases-nested : goal.decreases-nested
decreases-nested l = 10 * l.depth + 2
