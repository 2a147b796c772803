use Rattle.std.proofs.Common.{◌<◌, ◌^◌, length}
use Rattle.std.proofs.lemmas.List.{length-map}
use Rattle.spf_touch.proofs.Rows.{all_row, noted_row}
use Rattle.spf_touch.proofs.op_units.OpUnits.touches_at.Goals as goal

pub returns-clause-touches : goal.returns-clause-touches
returns-clause-touches c =
    rw (c.as_slice.ensures.value, ← c.self.view_is) (noted_row _ c.self.inside.touches.items c.args.unit c.index.result.now c.self.invariant.same (rw c.self.view_is c.requires) c.index.ensures)

pub returns-clause-short : goal.returns-clause-short
returns-clause-short c = rw c.as_slice.ensures.value (all_row (λ l. length l < 2 ^ 32) c.self.inside.touches.items c.args.unit c.index.result.now c.self.invariant.short (rw (c.self.invariant.same, length-map) (rw c.self.view_is c.requires)) c.index.ensures)
