use Rattle.std.proofs.Common.{ap, sym, ◌∙◌, rules}
use Rattle.std.proofs.lemmas.Int.{to_z-of_z}
use Rattle.std.specs.Int.{w128}
use Rattle.spf_term.specs.Solution.{is_negative}
use Rattle.spf_term.specs.declared.wide.WideTerm.{out-WideTerm}
use Rattle.spf_term.proofs.Turning.{leads_are, leads_first, leads_none}
use Rattle.spf_term.proofs.opposites.leads_negative.Goals as goal

pub returns-in-Some : goal.returns-in-Some
returns-in-Some c =
    c.is_negative.ensures ∙ ap is_negative (to_z-of_z w128 c.in-Some.first.now.coef (search rules))
    ∙ sym (leads_are c.args.term.now ∙ leads_first c.in-Some.first.now (out-WideTerm c.args.term.now).monos (sym c.in-Some.ensures.value))

pub returns-in-None : goal.returns-in-None
returns-in-None c = sym (leads_are c.args.term.now ∙ leads_none (out-WideTerm c.args.term.now).monos (sym c.in-None.ensures.value))
