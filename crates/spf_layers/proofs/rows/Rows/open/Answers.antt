use Rattle.std.proofs.Common.{◌≡◌, ◌+◌, length, arith}
use Rattle.std.proofs.lemmas.List.{length_push}
use Rattle.spf_layers.proofs.Flat.{opened, opened_ends}
use Rattle.spf_layers.proofs.rows.Rows.open.Goals as goal

pub returns-clause-flat : goal.returns-clause-flat
returns-clause-flat c =
    let flat = c.requires.flat in
    let at : c.len.result ≡ length c.args.self.now.units.items + 1 = omega (arith, c.in_ok-push.ensures.len) in
    let units = length_push c.args.self.now.units.items c.args.unit in
    let ends = length_push c.args.self.now.ends.items c.len.result in
    let classes = length_push c.args.self.now.classes.items c.args.class in
    record {
      ends = rw (c.in_ok-push.ensures.items, c.in_ok-push-2.ensures.items) (opened_ends _ _ _ flat.ends flat.classes c.args.unit c.len.result at);
      classes = rw (c.in_ok-push-2.ensures.items, c.in_ok-push-3.ensures.items) (omega (arith, flat.classes, ends, classes));
      few = rw c.in_ok-push.ensures.items (omega (arith, c.requires.room, units));
      few_groups = rw (c.in_ok-push.ensures.items, c.in_ok-push-2.ensures.items) (omega (arith, flat.few_groups, units, ends));
    }

pub returns-clause-opened : goal.returns-clause-opened
returns-clause-opened c =
    let at : c.len.result ≡ length c.args.self.now.units.items + 1 = omega (arith, c.in_ok-push.ensures.len) in
    rw (c.in_ok-push.ensures.items, c.in_ok-push-2.ensures.items, c.in_ok-push-3.ensures.items)
    (opened _ _ _ c.requires.flat.ends c.requires.flat.classes c.args.unit c.len.result at c.args.class)
