use Rattle.spf_plain.proofs.ran.Goals as goal

pub run_source-requires-clause-range : goal.run_source-requires-clause-range
run_source-requires-clause-range c =
    c.no_fault_is_in_range.ensures c.in_ok-bundle.bundle.env c.in_ok-bundle.bundle.kernel c.in_ok-shape.shape.steps c.in_ok-_touches.ensures.0 c.if-shape-gt0.true
