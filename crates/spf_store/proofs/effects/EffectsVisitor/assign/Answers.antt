use Rattle.spf_store.proofs.Carried.{assign_own, assign_readable, assign_through}
use Rattle.spf_store.proofs.effects.EffectsVisitor.assign.Goals as goal

pub carry_out-requires-clause-readable : goal.carry_out-requires-clause-readable
carry_out-requires-clause-readable g c =
    assign_readable c.args.self.now.env.now c.args.self.now.starts.now (g.C.Cells.own c.args.cells.now) c.args.variables.now c.args.site c.args.assign.now c.requires.small c.requires.may

pub carry_out-requires-clause-target : goal.carry_out-requires-clause-target
carry_out-requires-clause-target g c =
    assign_own c.args.self.now.env.now c.args.self.now.starts.now (g.C.Cells.own c.args.cells.now) c.args.variables.now c.args.site c.args.assign.now c.requires.small c.requires.may

pub returns-clause-walks : goal.returns-clause-walks
returns-clause-walks g c =
    assign_through g.C.Cells.own g.C.Cells.value g.C.Cells.kept g.met.C.Cells.kept_at_first g.met.C.Cells.kept_on c.args.self.now.env.now c.args.self.now.starts.now
    c.args.variables.now c.args.site c.args.assign.now c.args.cells.now c.carry_out.new.cells c.carry_out.ensures
