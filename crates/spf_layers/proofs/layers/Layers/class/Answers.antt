use Rattle.std.proofs.Common.{◌≡◌, ◌+◌, ◌<◌, length, ap, ◌∙◌, arith}
use Rattle.spf_touch.specs.Lists.{start_of}
use Rattle.spf_layers.proofs.Located.{class_there, elements_are, number_there}
use Rattle.spf_layers.proofs.layers.Layers.class.Goals as goal

pub begin-requires : goal.begin-requires
begin-requires c =
    let len = c.as_slice.ensures.len in
    omega (arith, c.requires.element, elements_are c.self.inside.rows c.self.inside.ends.items c.self.invariant, ap length c.self.view_is)

begins : (c : goal.After-begin) → c.begin.result ≡ start_of 0 c.self.inside.ends.items c.args.element
begins c = rw (← c.as_slice.ensures.value) c.begin.ensures

there : (c : goal.After-begin) → c.begin.result + c.args.n < length c.self.inside.rows.ends.items
there c = number_there c.self.inside.rows c.self.inside.ends.items c.self.invariant c.args.self.now c.self.view_is c.args.element c.args.n c.begin.result (begins c) c.requires.element c.requires.group

pub overflow_add-number : goal.overflow_add-number
overflow_add-number c =
    let few = c.self.invariant.groups.few in
    let few_groups = c.self.invariant.groups.few_groups in
    omega (arith, there c)

pub index-requires : goal.index-requires
index-requires c = let same = c.self.invariant.groups.classes in omega (arith, there c)

pub returns : goal.returns
returns c =
    let first : c.begin.result ≡ start_of 0 c.self.inside.ends.items c.args.element = rw (← c.as_slice.ensures.value) c.begin.ensures in
    c.index.ensures ∙
    class_there c.self.inside.rows c.self.inside.ends.items c.self.invariant c.args.self.now c.self.view_is c.args.element c.args.n c.begin.result first c.requires.element c.requires.group c.index.result.now
