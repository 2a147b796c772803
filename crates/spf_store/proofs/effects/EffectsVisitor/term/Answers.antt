use Rattle.spf_store.proofs.Carried.{term_still}
use Rattle.spf_store.proofs.effects.EffectsVisitor.term.Goals as goal

pub returns-clause-walks : goal.returns-clause-walks
returns-clause-walks g c =
    term_still g.C.Cells.own g.C.Cells.value g.C.Cells.kept g.met.C.Cells.kept_at_first g.met.C.Cells.kept_on c.args.self.now.env.now c.args.self.now.starts.now
    c.args.variables.now c.args.site c.args.term.now c.args._cells.now
