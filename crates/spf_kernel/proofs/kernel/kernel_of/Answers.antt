use Rattle.spf_kernel.proofs.kernel.kernel_of.Goals as goal
use Rattle.spf_kernel.proofs.Bounded.{meaning_bounded}
use Rattle.spf_kernel.proofs.Parsing.{are_names, is_parsed, kept}

pub resolve-requires : goal.resolve-requires
resolve-requires c = let s = c.requires.stands in are_names c.args.tokens.now s.0 s.1 c.args.raw.now s.2 c.requires.lexed

pub invariant_of-result : goal.invariant_of-result
invariant_of-result c =
    let s = c.requires.stands in (
      is_parsed c.args.tokens.now s.0 s.1 c.args.raw.now s.2 c.args.names.now c.in_ok-tree.tree c.requires.lexed c.requires.checked c.in_ok-tree.ensures,
      meaning_bounded c.args.tokens.now c.args.raw.now c.in_ok-tree.tree c.requires.few (kept c.args.tokens.now c.args.raw.now c.args.names.now c.in_ok-tree.tree c.requires.checked c.in_ok-tree.ensures),
    )
