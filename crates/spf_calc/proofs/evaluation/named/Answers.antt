use Rattle.std.proofs.Common.{Option, subst, sym}
use Rattle.std.specs.Prelude.{IfSome}
use Rattle.spf_calc.specs.Values.{IsFormedValue}
use Rattle.spf_calc.specs.declared.value.Value.{Value}
use Rattle.spf_calc.proofs.Operands.{formed_named}
use Rattle.spf_calc.proofs.evaluation.named.Goals as goal

pub simplified-requires : goal.simplified-requires
simplified-requires c =
    let IsFormedIn : Option Value → Type 0 = λ found. IfSome found IsFormedValue in
    subst IsFormedIn (sym c.in-Some.ensures) (formed_named c.args.bindings.now c.args.name.now c.requires.bindings)
