use Rattle.spf_input.proofs.Storing.{stored}
use Rattle.spf_input.proofs.reading.bundle_of.Goals as goal

pub invariant_of-result : goal.invariant_of-result
invariant_of-result c =
    let is = c.requires.1 in
    let parsed = rw c.tree-tree.ensures.tree at c.tree-tree.ensures.parsed in
    let bounded = rw c.tree-tree.ensures.tree at c.tree-tree.ensures.bounded in
    rw (is.cells, is.arrays) (stored c.args.kernel c.requires.0 parsed bounded is.unbroken)
