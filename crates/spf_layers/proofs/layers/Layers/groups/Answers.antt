use Rattle.std.proofs.Common.{◌≡◌, ◌<◌, ◌≤◌, length, ap, arith}
use Rattle.spf_touch.specs.Lists.{start_of}
use Rattle.spf_layers.specs.Flat.{groups_in, parts}
use Rattle.spf_layers.specs.Groups.{element_groups}
use Rattle.spf_layers.proofs.Located.{element_length, element_within, elements_are}
use Rattle.spf_layers.proofs.layers.Layers.groups.Goals as goal

pub index-end-requires : goal.index-end-requires
index-end-requires c = omega (arith, elements_are c.self.inside.rows c.self.inside.ends.items c.self.invariant, ap length c.self.view_is)

pub begin-requires : goal.begin-requires
begin-requires c = omega (arith, elements_are c.self.inside.rows c.self.inside.ends.items c.self.invariant, ap length c.self.view_is)

bounds : (c : goal.After-begin) → (c.begin.result ≡ start_of 0 c.self.inside.ends.items c.args.element) × (c.begin.result ≤ c.index-end.result.now) × (c.index-end.result.now ≤ length c.self.inside.rows.ends.items)
bounds c =
    let there : c.args.element < length (parts (groups_in c.self.inside.rows) 0 c.self.inside.ends.items) = omega (arith, ap length c.self.view_is) in
    let at = element_within c.self.inside.rows c.self.inside.ends.items c.self.invariant c.args.element c.index-end.result.now there in
    let begins : c.begin.result ≡ start_of 0 c.self.inside.ends.items c.args.element = rw (← c.as_slice.ensures.value) c.begin.ensures in
    (begins, omega (arith, at.0, begins, c.index-end.ensures), omega (arith, at.1, c.index-end.ensures))

pub overflow_cast-result : goal.overflow_cast-result
overflow_cast-result c =
    let few = c.self.invariant.groups.few in
    let few_groups = c.self.invariant.groups.few_groups in
    omega (arith, (bounds c).1, (bounds c).2)

pub overflow_sub-result : goal.overflow_sub-result
overflow_sub-result c = (bounds c).1

pub returns : goal.returns
returns c =
    let there : c.args.element < length (parts (groups_in c.self.inside.rows) 0 c.self.inside.ends.items) = omega (arith, ap length c.self.view_is) in
    let size = element_length c.self.inside.rows c.self.inside.ends.items c.self.invariant c.args.element c.index-end.result.now there in
    omega (arith, (bounds c).0, size, c.index-end.ensures, ap (λ layers. length (element_groups layers c.args.element)) c.self.view_is)
