use Rattle.std.proofs.Common.{◌≡◌, drop, take, map}
use Rattle.std.specs.List.{find}
use Rattle.spf_term.specs.NumberRule.{is_outside, numbers}
use Rattle.spf_term.specs.Wide.{plain, plain_mono}
use Rattle.spf_term.specs.declared.wide.WideTerm.{out-WideTerm}
use Rattle.spf_term.proofs.Numbers.{list_numbers}
use Rattle.spf_term.proofs.narrow.+narrowed.Given as goal

abbrev pub invariant-narrowed-loop-mono : goal.invariant-narrowed-loop-mono
invariant-narrowed-loop-mono l = record {
  made : l.monos ≡ map plain_mono (take l.mono-index l.mono-items);
  rest : find is_outside (list_numbers (map plain_mono (drop l.mono-index l.mono-items)) (out-WideTerm l.term).constant) ≡ find is_outside (numbers (plain l.term));
}
