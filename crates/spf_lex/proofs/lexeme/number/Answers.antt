use Rattle.std.proofs.Common.{arith, false-eqb}
use Rattle.std.proofs.lemmas.Bool.Decides.{nat_tests}
use Rattle.spf_lex.proofs.Lexemes.{all_in_run, no_number_past_run, number_found}
use Rattle.spf_lex.proofs.lexeme.number.Goals as goal
use Rattle.spf_lex.proofs.lexeme.number.Goals.{then-is_empty-via-then-is_empty, then-is_empty-via-else-is_empty+then-digit_run-text}

pub returns-then-is_empty : goal.returns-then-is_empty
returns-then-is_empty c =
    elim c.then-is_empty.branch [ then-is_empty-via-then-is_empty w ↦ λ p. let some = p.0.some in absurd (grind (arith, nat_tests)) | then-is_empty-via-else-is_empty+then-digit_run-text w ↦ λ p. no_number_past_run _ _ w.digit_run.ensures (omega arith) p.0 ]

pub capped_value-value-requires : goal.capped_value-value-requires
capped_value-value-requires c = all_in_run _ _ _ c.digit_run.ensures (omega arith)

pub returns : goal.returns
returns c =
    rw c.then_some.ensures (number_found _ _ (record { some = omega (arith, false-eqb _ 0 c.if-is_empty.ensures); digits = all_in_run _ _ _ c.digit_run.ensures (omega arith) }) c.capped_value-value.ensures)
