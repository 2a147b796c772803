use Rattle.std.proofs.Common.{◌≡◌, ◌+◌, ◌++◌, drop}
use Rattle.std.specs.List.{sum_by}
use Rattle.spf_emit.specs.Text.{by_number, lines_text}
use Rattle.spf_emit.proofs.statement.push_all.Given as goal

-- what is written, and what is still to be, are the whole
abbrev pub invariant-loop-statement : goal.invariant-loop-statement
invariant-loop-statement g l =
    let lines = g.T.Statement.lines l.writing.names.now (by_number l.writing.terms.now) l.depth in
    record {
      places : l.at + sum_by g.T.Statement.places (drop l.statement-index l.statements) ≡ l.first + sum_by g.T.Statement.places l.statements;
      text : l.text.items ++ lines_text g.T.Statement.places lines l.at (drop l.statement-index l.statements) ≡ l.fn.text.items ++ lines_text g.T.Statement.places lines l.first l.statements;
    }
