use Rattle.std.proofs.Common.{◌≡◌, ◌++◌, take}
use Rattle.spf_emit.proofs.names.add_params.Given as goal

abbrev pub invariant-loop-param : goal.invariant-loop-param
invariant-loop-param l = l.names ≡ l.fn.names ++ take l.param-index l.params
