use Rattle.std.proofs.Common.{List, Some, ap, sym, ◌∙◌, rules, w64}
use Rattle.std.specs.List.{find}
use Rattle.std.proofs.lemmas.Int.{to_z-of_z}
use Rattle.spf_term.specs.NumberRule.{is_outside}
use Rattle.spf_term.specs.declared.term.Mono.{Mono}
use Rattle.spf_term.specs.declared.term.Term.{out-Term}
use Rattle.spf_term.proofs.Numbers.{found_here, list_numbers, not_here, numbers_are}
use Rattle.spf_term.proofs.number_rule.+first_outside.Goals as goal

pub first_outside-loop-mono-init : goal.first_outside-loop-mono-init
first_outside-loop-mono-init t c =
    ap (λ (of : List Mono). find is_outside (list_numbers of (out-Term c.args.term.now).constant)) c.as_slice-mono-items.ensures ∙ ap (find is_outside) (sym (numbers_are c.args.term.now))

pub first_outside-returns-in-Some : goal.first_outside-returns-in-Some
first_outside-returns-in-Some t c =
    ap Some (to_z-of_z w64 c.in-Some.number (search rules))
    ∙ sym (found_here c.as_slice-mono-items.result.now c.loop-mono.mono-index c.mono-item.result c.loop-mono-test.true c.mono-item.is (out-Term c.args.term.now).constant c.in-Some.number (sym c.in-Some.ensures))
    ∙ c.loop-mono.invariant

pub first_outside-loop-mono-preserved : goal.first_outside-loop-mono-preserved
first_outside-loop-mono-preserved t c =
    sym (not_here c.as_slice-mono-items.result.now c.loop-mono.mono-index c.mono-item.result c.loop-mono-test.true c.mono-item.is (out-Term c.args.term.now).constant (sym c.first_outside_mono.ensures ∙ c.in_default.is))
    ∙ c.loop-mono.invariant
