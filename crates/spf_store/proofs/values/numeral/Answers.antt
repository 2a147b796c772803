use Rattle.std.proofs.Common.{rules, w64, ◌∙◌}
use Rattle.std.proofs.lemmas.Int.{to_z-of_z}
use Rattle.spf_store.proofs.Wrapped.{number_wraps}
use Rattle.spf_store.proofs.values.numeral.Goals as goal

pub returns : goal.returns
returns c = to_z-of_z w64 c.cast_signed.result (search rules) ∙ c.cast_signed.ensures ∙ number_wraps c.args.number (search rules)
