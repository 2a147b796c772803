use Rattle.spf_kernel.proofs.Common.{true, on_ok_weaker, number_notes, atom_notes}
use Rattle.spf_kernel.proofs.Taking.{then}
use Rattle.spf_kernel.proofs.check.notes.+ix.Goals as goal

pub note_product-returns : goal.note_product-returns
note_product-returns t c =
    on_ok_weaker c.note_atom.result (then _ _ _ (number_notes true c.args.number) (atom_notes c.args.spot c.args.scope c.args.atom.now) c.in_ok-note_number.ensures) c.note_atom.ensures
