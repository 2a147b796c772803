use Rattle.spf_seed.specs.View.{touched}
use Rattle.spf_seed.proofs.Rows.{entries_more}
use Rattle.spf_seed.proofs.inverted.entries_of.Goals as goal

pub loop-position-preserved : goal.loop-position-preserved
loop-position-preserved c =
    rw (c.in_ok-push_entries.ensures, c.touched.ensures) (entries_more (touched c.args.view.now) c.loop-position.position c.loop-position.entries.items c.loop-position.invariant)
