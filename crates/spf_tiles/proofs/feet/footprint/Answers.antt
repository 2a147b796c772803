use Rattle.std.proofs.Common.{ap, sym, ◌∙◌}
use Rattle.spf_tiles.proofs.Joins.{class_in_moved, gathered_all}
use Rattle.spf_tiles.specs.Joining.{class_in}
use Rattle.spf_tiles.proofs.feet.footprint.Goals as goal

pub returns : goal.returns
returns g c =
    let units = g.U.Units.behavior c.args.units.now in
    let law = g.met.U.Units.framed c.args.units.now in
    record {
      rising = c.in_ok-joined.ensures.rising;
      classes = λ e. c.in_ok-joined.ensures.classes e ∙ ap (λ l. class_in l e) c.as_slice.ensures.value ∙ sym (class_in_moved c.in_ok-touches.touches.items c.sort.new.touches.items e c.in_ok-sort.ensures.moved)
          ∙ ap (λ l. class_in l e) c.in_ok-touches.ensures ∙ gathered_all units.touches c.args.list.now e (λ u h. law.once u (c.requires u h));
    }
