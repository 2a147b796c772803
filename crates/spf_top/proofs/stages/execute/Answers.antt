use Rattle.std.proofs.Common.{ℕ, ap, sym, ◌∙◌}
use Rattle.spf_store.specs.Source.{source_result}
use Rattle.spf_top.specs.Texts.{cell_of}
use Rattle.spf_top.proofs.Bundles.{result_text}
use Rattle.spf_top.proofs.stages.execute.Goals as goal

pub run_tiles-requires-clause-sourced : goal.run_tiles-requires-clause-sourced
run_tiles-requires-clause-sourced c = record {
  accepted = c.requires.kept.accepted;
  shape_is = c.requires.shape;
  range = c.no_fault_is_in_range.ensures c.args.bundle.env c.args.bundle.kernel c.args.shape.now.steps c.requires.walked.0;
  touches_are = c.requires.walked.1;
}

pub returns-in-Ok-arrays_text-clause-text : goal.returns-in-Ok-arrays_text-clause-text
returns-in-Ok-arrays_text-clause-text c =
    let bundle = c.args.bundle in
    let ran = c.in-Ok.ensures in
    let steps = c.requires.shape.steps ∙ sym c.requires.kept.steps in
    c.in-Ok-arrays_text.ensures
    ∙ result_text bundle c.run_tiles.new.store ran.arrays ran.count (λ e. ran.cells e ∙ ap (λ (n : ℕ). source_result bundle.env bundle.kernel n (cell_of bundle.store) e) steps)
