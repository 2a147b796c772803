use Rattle.std.proofs.Common.{◌≡◌, map, drop}
use Rattle.spf_lex.specs.Language.{lookup}
use Rattle.spf_lex.proofs.language.find.Given as goal

abbrev pub invariant-loop-entry : goal.invariant-loop-entry
invariant-loop-entry g l = lookup (map (λ e. (e.text.now, e.kind)) l.table) l.text ≡ lookup (map (λ e. (e.text.now, e.kind)) (drop l.entry-index l.table)) l.text
