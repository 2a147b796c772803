use Rattle.std.proofs.Common.{[]}
use Rattle.spf_store.proofs.shapes.outer_value.Goals as goal

pub term_value-requires : goal.term_value-requires
term_value-requires c = c.bounded_terms_are_small.ensures c.args.env.now [] c.args.term.now c.requires.within c.requires.bounded
