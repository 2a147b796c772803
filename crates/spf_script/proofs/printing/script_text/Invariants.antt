use Rattle.std.proofs.Common.{◌≡◌, ◌∷◌, codes, flat_map, take}
use Rattle.spf_script.specs.Printed.{step_words}
use Rattle.spf_script.proofs.printing.script_text.Given as goal

abbrev pub invariant-loop-step : goal.invariant-loop-step
invariant-loop-step l = l.words ≡ codes "script" ∷ codes "{" ∷ flat_map step_words (take l.step-index l.steps)
