use Rattle.std.proofs.Common.{◌≡◌, ◌+◌, ◌-◌, suc, length, arith}
use Rattle.std.proofs.lemmas.List.{length-set, length_push}
use Rattle.spf_layers.proofs.Flat.{joined, joined_ends}
use Rattle.spf_layers.proofs.rows.Rows.join.Goals as goal

last : (c : goal.After-self-1) → suc (c.len-last.result - 1) ≡ length c.args.self.now.ends.items
last c = omega (arith, c.requires.some, c.requires.flat.classes)

more : (c : goal.After-self-1) → c.len.result ≡ length c.args.self.now.units.items + 1
more c = omega (arith, c.in_ok-push.ensures.len)

pub returns-clause-flat : goal.returns-clause-flat
returns-clause-flat c =
    let flat = c.requires.flat in
    let units = length_push c.args.self.now.units.items c.args.unit in
    let ends = length-set c.args.self.now.ends.items (c.len-last.result - 1) c.len.result in
    record {
      ends = rw c.in_ok-push.ensures.items (joined_ends _ _ _ flat.ends flat.classes c.args.unit c.len.result (more c) (c.len-last.result - 1) (last c));
      classes = omega (arith, flat.classes, ends);
      few = rw c.in_ok-push.ensures.items (omega (arith, c.requires.room, units));
      few_groups = rw c.in_ok-push.ensures.items (omega (arith, flat.few_groups, units, ends));
    }

pub returns-clause-joined : goal.returns-clause-joined
returns-clause-joined c =
    rw c.in_ok-push.ensures.items (joined _ _ _ c.requires.flat.ends c.requires.flat.classes c.args.unit c.len.result (more c) (c.len-last.result - 1) (last c))
