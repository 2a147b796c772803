use Rattle.std.proofs.Common.{◌≡◌, ◌+◌, [], ◌∷◌, ap, sym, ◌∙◌, arith, map, take, rules, w64}
use Rattle.std.specs.Int.{w128}
use Rattle.std.proofs.lemmas.Grind.{common_steps}
use Rattle.std.proofs.lemmas.Int.{to_z-of_z}
use Rattle.std.specs.List.{find}
use Rattle.spf_term.specs.NumberRule.{is_outside, mono_numbers, numbers}
use Rattle.spf_term.specs.Wide.{plain, plain_mono}
use Rattle.spf_term.specs.declared.wide.WideTerm.{out-WideTerm}
use Rattle.spf_term.proofs.NarrowParts.{all_made, found_here, last_number, not_here, whole_refused, wide_numbers_are}
use Rattle.spf_term.proofs.Numbers.{list_numbers}
use Rattle.spf_term.proofs.narrow.+narrowed.Goals as goal

pub narrowed-loop-mono-init : goal.narrowed-loop-mono-init
narrowed-loop-mono-init t c = record {
  made = c.new-monos.ensures;
  rest = ap (λ of. find is_outside (list_numbers (map plain_mono of) (out-WideTerm c.args.term.now).constant)) c.as_slice-mono-items.ensures ∙ ap (find is_outside) (sym (wide_numbers_are c.args.term.now));
}

pub narrowed-returns-in-Err : goal.narrowed-returns-in-Err
narrowed-returns-in-Err t c =
    whole_refused (mono_numbers (plain_mono c.mono-item.result)) (numbers (plain c.args.term.now)) (plain_mono c.mono-item.result) (plain c.args.term.now) c.in-Err.fault
    (λ number is. sym c.loop-mono.invariant.rest ∙ found_here c.as_slice-mono-items.result.now c.loop-mono.mono-index c.mono-item.result c.loop-mono-test.true c.mono-item.is (out-WideTerm c.args.term.now).constant number is)
    c.in-Err.ensures

pub narrowed-loop-mono-preserved : goal.narrowed-loop-mono-preserved
narrowed-loop-mono-preserved t c =
    let made : c.push.new.self ≡ map plain_mono (take (c.loop-mono.mono-index + 1) c.as_slice-mono-items.result.now) = grind (arith, common_steps) in
    record {
      made = made;
      rest = sym (not_here c.as_slice-mono-items.result.now c.loop-mono.mono-index c.mono-item.result c.loop-mono-test.true c.mono-item.is (out-WideTerm c.args.term.now).constant c.in-Ok.ensures.1) ∙ c.loop-mono.invariant.rest;
    }

pub narrowed-returns-in-Ok-narrowed_number : goal.narrowed-returns-in-Ok-narrowed_number
narrowed-returns-in-Ok-narrowed_number t c =
    let wide = to_z-of_z w128 (out-WideTerm c.args.term.now).constant (search rules) in (
      all_made c.args.term.now c.as_slice-mono-items.result.now c.as_slice-mono-items.ensures c.loop-mono.mono-index c.loop-mono-test.false c.loop-mono.monos _ c.loop-mono.invariant.made (to_z-of_z w64 c.in-Ok-narrowed_number.constant (search rules) ∙ c.in-Ok-narrowed_number.ensures.0 ∙ wide),
      sym (last_number c.args.term.now c.as_slice-mono-items.result.now c.as_slice-mono-items.ensures c.loop-mono.mono-index c.loop-mono-test.false c.loop-mono.invariant.rest)
          ∙ ap (λ of. find is_outside (of ∷ [])) (sym wide) ∙ c.in-Ok-narrowed_number.ensures.1,
    )
