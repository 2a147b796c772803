use Rattle.std.proofs.Common.{◌∙◌, ap}
use Rattle.spf_core.proofs.Tiles.{read_after, read_below, read_place}
use Rattle.spf_core.proofs.job.Job.run_tile.Goals as goal

pub run_list-requires-clause-units : goal.run_list-requires-clause-units
run_list-requires-clause-units g c =
    let one = ap (λ p. g.U.Units.behavior p.units) c.self.view_is in
    read_below _ _ _ c.list.ensures.sound c.args.tile c.requires.tile _ c.list.ensures.list one

pub run_list-requires-clause-own : goal.run_list-requires-clause-own
run_list-requires-clause-own g c u e h k =
    let one = ap (λ p. g.U.Units.behavior p.units) c.self.view_is in
    c.requires.own e (read_place _ _ _ c.list.ensures.sound c.args.tile c.requires.tile _ c.list.ensures.list one u e h k)

pub returns-clause-value : goal.returns-clause-value
returns-clause-value g c e =
    let one = ap (λ p. g.U.Units.behavior p.units) c.self.view_is in
    c.run_list.ensures.value e ∙ ap (λ f. f e) (read_after _ _ _ c.list.ensures.sound c.args.tile c.requires.tile _ c.list.ensures.list one _)
