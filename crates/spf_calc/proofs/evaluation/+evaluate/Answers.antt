use Rattle.std.proofs.Common.{sym, subst, ap, ◌∙◌, rules}
use Rattle.spf_calc.proofs.Outcomes.{first_fits, inside_fits, inverse_outcomes, operands_fit, pairs_have, result_outcomes, second_fits}
use Rattle.spf_calc.specs.Evaluated.{IsFit}
use Rattle.spf_calc.specs.declared.raw.RawExp.{RawExp, the_lemmas}
use Rattle.spf_calc.specs.declared.raw.RawExp.TheVariants.{Inverse, Two}
use Rattle.spf_calc.proofs.evaluation.+evaluate.Goals as goal

pub evaluate-requires : goal.evaluate-requires
evaluate-requires t c =
    let is = c.in-Inverse.is ∙ ap Inverse (sym c.get.ensures) in
    (search (rules, the_lemmas), (inside_fits c.args.bindings.now c.get.result.now (subst (IsFit c.args.bindings.now) is c.requires.fit), c.requires.bindings))

pub inverse_of-requires-clause-pairs : goal.inverse_of-requires-clause-pairs
inverse_of-requires-clause-pairs t c =
    let is = c.in-Inverse.is ∙ ap Inverse (sym c.get.ensures) in
    pairs_have c.args.bindings.now c.get.result.now (subst (IsFit c.args.bindings.now) is c.requires.fit) c.in_ok-operand-in-Inverse.operand c.in_ok-operand-in-Inverse.ensures.shape

pub returns-in_ok-operand-in-Inverse : goal.returns-in_ok-operand-in-Inverse
returns-in_ok-operand-in-Inverse t c =
    let is = c.in-Inverse.is ∙ ap Inverse (sym c.get.ensures) in
    let made = c.inverse_of.ensures in
    inverse_outcomes c.args.bindings.now c.get.result.now c.args.names.now c.args.exp.now c.in_ok-operand-in-Inverse.operand c.inverse_of.result is c.in_ok-operand-in-Inverse.ensures made.becomes made.shape made.formed

pub evaluate-requires-in-Two : goal.evaluate-requires-in-Two
evaluate-requires-in-Two t c =
    let two = c.in-Two in
    let is = two.is ∙ ap (λ (first : RawExp). Two two.operation first two.second) (sym c.get-in-Two.ensures) in
    (search (rules, the_lemmas), (first_fits c.args.bindings.now two.operation c.get-in-Two.result.now two.second (subst (IsFit c.args.bindings.now) is c.requires.fit), c.requires.bindings))

pub evaluate-requires-in-Two-2 : goal.evaluate-requires-in-Two-2
evaluate-requires-in-Two-2 t c =
    let two = c.in-Two in
    let is = two.is ∙ ap (Two two.operation two.first) (sym c.get-in-Two-2.ensures) in
    (search (rules, the_lemmas), (second_fits c.args.bindings.now two.operation two.first c.get-in-Two-2.result.now (subst (IsFit c.args.bindings.now) is c.requires.fit), c.requires.bindings))

pub result_of-requires-clause-fit : goal.result_of-requires-clause-fit
result_of-requires-clause-fit t c =
    let two = c.in-Two in
    let is = two.is ∙ ap (λ (first : RawExp). Two two.operation first two.second) (sym c.get-in-Two.ensures) ∙ ap (Two two.operation c.get-in-Two.result.now) (sym c.get-in-Two-2.ensures) in
    operands_fit c.args.bindings.now two.operation c.get-in-Two.result.now c.get-in-Two-2.result.now (subst (IsFit c.args.bindings.now) is c.requires.fit)
    c.in_ok-first-in-Two.first c.in_ok-second-in-Two.second c.in_ok-first-in-Two.ensures.shape c.in_ok-second-in-Two.ensures.shape

pub returns-in_ok-second-in-Two : goal.returns-in_ok-second-in-Two
returns-in_ok-second-in-Two t c =
    let two = c.in-Two in
    let is = two.is ∙ ap (λ (first : RawExp). Two two.operation first two.second) (sym c.get-in-Two.ensures) ∙ ap (Two two.operation c.get-in-Two.result.now) (sym c.get-in-Two-2.ensures) in
    let made = c.result_of.ensures in
    result_outcomes c.args.bindings.now two.operation c.get-in-Two.result.now c.get-in-Two-2.result.now c.args.names.now c.args.exp.now c.in_ok-first-in-Two.first c.in_ok-second-in-Two.second c.result_of.result is
    c.in_ok-first-in-Two.ensures c.in_ok-second-in-Two.ensures made.becomes made.shape made.formed
