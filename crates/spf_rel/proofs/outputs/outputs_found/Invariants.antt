use Rattle.std.proofs.Common.{◌+◌, ◌-◌}
use Rattle.spf_rel.proofs.Found.{Finding}
use Rattle.spf_rel.proofs.outputs.outputs_found.Given as goal

abbrev pub invariant-loop-taken : goal.invariant-loop-taken
invariant-loop-taken l = Finding l.ins l.outs (l.outs - l.taken) (l.ins + l.taken) l.fn.conj l.partly
