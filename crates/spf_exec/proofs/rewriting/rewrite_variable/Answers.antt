use Rattle.std.proofs.Common.{sym, subst}
use Rattle.spf_exec.specs.Placeable.{IsPlaceable}
use Rattle.spf_exec.proofs.Composing.{variable_placeable}
use Rattle.spf_exec.proofs.rewriting.rewrite_variable.Goals as goal

pub rewrite_index-requires-clause-placeable : goal.rewrite_index-requires-clause-placeable
rewrite_index-requires-clause-placeable c =
    subst IsPlaceable (sym c.in_ok-variable.ensures) (variable_placeable c.numbers_are_within_the_size.ensures.count c.args.number c.requires.number)
