use Rattle.spf_kernel.proofs.Common.{◌≡◌, ◌+◌, length, take, flat_map, arrays_of}
use Rattle.spf_kernel.proofs.accessors.data_name_at.Given as goal

abbrev pub invariant-loop-decl : goal.invariant-loop-decl
invariant-loop-decl l = length (flat_map arrays_of (take l.decl-index l.decls)) + l.left ≡ l.n
