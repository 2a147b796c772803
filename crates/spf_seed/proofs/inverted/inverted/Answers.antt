use Rattle.spf_seed.specs.View.{positions, touched}
use Rattle.spf_seed.proofs.Rows.{inverted_from}
use Rattle.spf_seed.proofs.inverted.inverted.Goals as goal

pub returns : goal.returns
returns c = inverted_from (touched c.args.view.now) (positions c.args.view.now) c.in_ok-entries.entries.items c.sort.new.entries.items c.in_ok-entries.ensures c.in_ok-sort.ensures.moved c.in_ok-sort.ensures.sorted
