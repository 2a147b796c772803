use Rattle.std.proofs.Common.{◌≡◌, ◌+◌, ◌<◌, length, ap, ◌∙◌, arith}
use Rattle.spf_touch.specs.Lists.{start_of}
use Rattle.spf_layers.proofs.Located.{elements_are, number_there, units_there}
use Rattle.spf_layers.proofs.layers.Layers.group.Goals as goal

pub begin-requires : goal.begin-requires
begin-requires c =
    let len = c.as_slice.ensures.len in
    omega (arith, c.requires.element, elements_are c.self.inside.rows c.self.inside.ends.items c.self.invariant, ap length c.self.view_is)

begins : (c : goal.After-begin) → c.begin.result ≡ start_of 0 c.self.inside.ends.items c.args.element
begins c = rw (← c.as_slice.ensures.value) c.begin.ensures

there : (c : goal.After-begin) → c.begin.result + c.args.n < length c.self.inside.rows.ends.items
there c = number_there c.self.inside.rows c.self.inside.ends.items c.self.invariant c.args.self.now c.self.view_is c.args.element c.args.n c.begin.result (begins c) c.requires.element c.requires.group

pub overflow_add-number : goal.overflow_add-number
overflow_add-number c =
    let few = c.self.invariant.groups.few in
    let few_groups = c.self.invariant.groups.few_groups in
    omega (arith, there c)

pub units_in-requires-clause-there : goal.units_in-requires-clause-there
units_in-requires-clause-there c =
    let first : c.begin.result ≡ start_of 0 c.self.inside.ends.items c.args.element = rw (← c.as_slice.ensures.value) c.begin.ensures in
    rw c.as_slice-3.ensures.value
    (number_there c.self.inside.rows c.self.inside.ends.items c.self.invariant c.args.self.now c.self.view_is c.args.element c.args.n c.begin.result first c.requires.element c.requires.group)

pub returns : goal.returns
returns c =
    let first : c.begin.result ≡ start_of 0 c.self.inside.ends.items c.args.element = rw (← c.as_slice.ensures.value) c.begin.ensures in
    rw (c.as_slice-2.ensures.value, c.as_slice-3.ensures.value) at c.units_in.ensures ∙
    units_there c.self.inside.rows c.self.inside.ends.items c.self.invariant c.args.self.now c.self.view_is c.args.element c.args.n c.begin.result first c.requires.element c.requires.group
