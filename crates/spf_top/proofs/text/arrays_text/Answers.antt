use Rattle.spf_top.proofs.Bundles.{arrays_fit}
use Rattle.spf_top.proofs.text.arrays_text.Goals as goal

pub lines-requires : goal.lines-requires
lines-requires c = rw (c.as_slice-2.ensures, c.as_slice.ensures.value) (arrays_fit _ c.store.invariant)
