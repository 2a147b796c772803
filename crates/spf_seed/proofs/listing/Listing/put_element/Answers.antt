use Rattle.std.proofs.Common.{◌∙◌, ap, sym, true, false, length, slice_set, List, Bool, arith}
use Rattle.std.proofs.lemmas.List.{get_or_default}
use Rattle.spf_seed.specs.Entries.{positions_in}
use Rattle.spf_touch.specs.Listed.{all_listed}
use Rattle.spf_seed.specs.declared.inverted.Entry.{Entry}
use Rattle.spf_seed.proofs.Keeping.{element_done, nothing_new}
use Rattle.spf_seed.proofs.Rows.{row_begins}
use Rattle.spf_seed.proofs.listing.Listing.put_element.Goals as goal

pub returns-in_ok-put_row-clause-kept : goal.returns-in_ok-put_row-clause-kept
returns-in_ok-put_row-clause-kept c =
    let row = c.find_row-row.result in
    let begins = row_begins c.args.entries.now c.args.element row.start row.end c.find_row-row.ensures.row c.requires.there c.find_row-row.ensures.there in
    element_done (length c.args.self.now.flags.items) c.args.entries.now c.args.self.now _ c.requires.kept c.in_ok-put_row.ensures.flags c.in_ok-put_row.ensures.still c.args.element row.start begins.1
    (ap (λ (l : List Bool). slice_set l row.start true) c.in_ok-put_row.ensures.done) (c.in_ok-put_row.ensures.order ∙ ap (λ (l : List Entry). all_listed c.args.self.now.order.items (positions_in l)) c.find_row-row.ensures.row)

pub returns-else-not-index-clause-order : goal.returns-else-not-index-clause-order
returns-else-not-index-clause-order c =
    let row = c.find_row-row.result in
    let begins = row_begins c.args.entries.now c.args.element row.start row.end c.find_row-row.ensures.row c.requires.there c.find_row-row.ensures.there in
    nothing_new (length c.args.self.now.flags.items) c.args.entries.now c.args.self.now c.args.element row.start c.requires.kept begins.0 begins.1
    (get_or_default c.args.self.now.done.items row.start false c.index.result.now (omega (arith, begins.0, c.requires.kept.long_done)) ∙ sym c.index.ensures ∙ c.if-not-index.false)
