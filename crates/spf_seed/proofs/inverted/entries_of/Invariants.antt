use Rattle.spf_seed.specs.Entries.{AreEntriesTo}
use Rattle.spf_seed.specs.View.{touched}
use Rattle.spf_seed.proofs.inverted.entries_of.Given as goal

abbrev pub invariant-loop-position : goal.invariant-loop-position
invariant-loop-position l = AreEntriesTo (touched l.view) l.position l.entries.items
