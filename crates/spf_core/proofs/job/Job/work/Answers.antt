use Rattle.std.proofs.Common.{◌∙◌, ap, sym}
use Rattle.spf_core.proofs.Tiles.{read_after, read_below, read_in_tile, worked_copy}
use Rattle.spf_core.proofs.job.Job.work.Goals as goal

pub run_list-requires-clause-units : goal.run_list-requires-clause-units
run_list-requires-clause-units g c =
    let one = ap (λ p. g.U.Units.behavior p.units) c.self.view_is in
    read_below _ _ _ c.list.ensures.sound c.args.tile c.requires.tile _ c.list.ensures.list one

pub run_list-requires-clause-own : goal.run_list-requires-clause-own
run_list-requires-clause-own g c u e h k =
    let one = ap (λ p. g.U.Units.behavior p.units) c.self.view_is in
    c.requires.keys e ∙ read_in_tile _ _ _ c.list.ensures.sound c.args.tile c.requires.tile _ c.list.ensures.list one u e h k

pub returns-clause-room : goal.returns-clause-room
returns-clause-room g c = sym c.run_list.ensures.kept ∙ c.requires.room

pub returns-clause-values : goal.returns-clause-values
returns-clause-values g c =
    let one = ap (λ p. g.U.Units.behavior p.units) c.self.view_is in
    worked_copy (g.U.Units.behavior c.args.self.now.units) c.args.self.now.tiling c.args.tile _ _ c.run_list.ensures.own (λ e. c.run_list.ensures.value e ∙ ap (λ f. f e) (read_after _ _ _ c.list.ensures.sound c.args.tile c.requires.tile _ c.list.ensures.list one _))
