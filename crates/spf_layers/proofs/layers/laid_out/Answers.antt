use Rattle.std.proofs.Common.{◌≡◌, length, refl, ap, subst, ◌∙◌, arith}
use Rattle.spf_layers.specs.Flat.{AreEnds, groups_in}
use Rattle.spf_layers.proofs.Flat.{length_groups}
use Rattle.spf_layers.proofs.Laying.{element_more}
use Rattle.spf_layers.proofs.Parts.{ends-push}
use Rattle.spf_layers.proofs.layers.laid_out.Goals as goal

pub loop-head-init : goal.loop-head-init
loop-head-init c =
    let rows = c.in_ok-rows.rows in
    let flat = c.in_ok-rows.ensures.0 in
    let none : 0 ≡ length rows.ends.items = omega (arith, length_groups rows.units.items rows.ends.items rows.classes.items flat.classes, ap length c.in_ok-rows.ensures.1, flat.classes) in
    record {
      flat = flat;
      ends = rw c.in_ok-ends.ensures.items none;
      elements = rw c.in_ok-ends.ensures.items refl;
      laid = λ of chains. rw c.in_ok-ends.ensures.items refl;
    }

pub loop-head-preserved : goal.loop-head-preserved
loop-head-preserved c =
    let was = c.loop-head.rows in
    let rows = c.lay_chain.new.rows in
    let old = c.loop-head.invariant.flat in
    let flat = c.in_ok-lay_chain.ensures.flat in
    let few = flat.few in
    let few_groups = flat.few_groups in
    let end : c.len.result ≡ length rows.ends.items = omega arith in
    let same : length rows.ends.items ≡ length (groups_in rows) = omega (arith, length_groups rows.units.items rows.ends.items rows.classes.items flat.classes, flat.classes) in
    let same_old : length was.ends.items ≡ length (groups_in was) = omega (arith, length_groups was.units.items was.ends.items was.classes.items old.classes, old.classes) in
    record {
      flat = flat;
      ends = rw (c.in_ok-push.ensures.items, end) (ends-push (length was.ends.items) 0 c.loop-head.ends.items (length rows.ends.items) c.loop-head.invariant.ends c.in_ok-lay_chain.ensures.grown);
      elements = omega (arith, c.in_ok-push.ensures.len, c.loop-head.invariant.elements);
      laid = λ of chains. rw c.in_ok-push.ensures.items
          (element_more (groups_in was) (groups_in rows) c.loop-head.ends.items c.len.result c.loop-head.head-index of
          (subst (λ n. AreEnds n 0 c.loop-head.ends.items) same_old c.loop-head.invariant.ends) (end ∙ same)
          (c.in_ok-lay_chain.ensures.laid (of c.loop-head.head-index) (chains.each c.loop-head.head-index c.loop-head-test.true)) (c.loop-head.invariant.laid of chains));
    }
