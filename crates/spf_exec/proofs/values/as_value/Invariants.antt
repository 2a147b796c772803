use Rattle.std.proofs.Common.{◌≡◌, ◌++◌, drop}
use Rattle.spf_term.specs.declared.term.Term.{out-Term}
use Rattle.spf_exec.specs.Rewritten.{products_of}
use Rattle.spf_exec.proofs.values.as_value.Given as goal

abbrev pub invariant-loop-mono : goal.invariant-loop-mono
invariant-loop-mono l = l.prods ++ products_of (drop l.mono-index l.mono-items) (out-Term l.term).constant ≡ products_of l.mono-items (out-Term l.term).constant
