use Rattle.std.proofs.Common.{◌≡◌, subst}
use Rattle.std.specs.Prelude.{OnOk}
use Rattle.spf_reltext.specs.declared.names.RelNames.{RelNames}
use Rattle.spf_calc.proofs.Equations.{names_by}
use Rattle.spf_calc.proofs.evaluation.+note_exp.Goals as goal

pub returns-in_ok-note_exp-in-Two : goal.returns-in_ok-note_exp-in-Two
returns-in_ok-note_exp-in-Two t c =
    let two = c.in-Two in
    let same = names_by two.operation c.args.exp.now two.first two.second two.is c.args.names.now _ _ _ c.get-in-Two.ensures c.get-in-Two-2.ensures c.in_ok-note_exp-in-Two.ensures in
    subst (λ (names : RelNames). OnOk c.note_exp-in-Two-2.result (c.note_exp-in-Two-2.new.names ≡ names)) same c.note_exp-in-Two-2.ensures
