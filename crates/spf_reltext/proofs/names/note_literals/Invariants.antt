use Rattle.std.proofs.Common.{◌≡◌, take}
use Rattle.spf_reltext.specs.Names.{names_of}
use Rattle.spf_reltext.proofs.names.note_literals.Given as goal

abbrev pub invariant-loop-literal : goal.invariant-loop-literal
invariant-loop-literal l = l.names ≡ names_of l.fn.names (take l.literal-index l.literals)
