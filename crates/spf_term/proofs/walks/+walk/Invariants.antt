use Rattle.std.proofs.Common.{drop}
use Rattle.spf_term.proofs.Progress.{Progress}
use Rattle.spf_term.proofs.walks.+walk.Given as goal

abbrev pub invariant-walk_term-loop-mono : goal.invariant-walk_term-loop-mono
invariant-walk_term-loop-mono g l =
    Progress g.R.Reader.accepts l.env l.variables l.fn.site l.term l.fn.reader (drop l.mono-index l.mono-items) l.reader l.sum l.next
