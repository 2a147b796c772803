use Rattle.std.proofs.Common.{◌<◌, ◌∷◌, ℕ, ℤ, FitsSigned, w64, Option, List, None, [], length, get_or, map, vec_items, sym, ap, ◌∙◌, subst, arith}
use Rattle.std.proofs.lemmas.List.{get_or_default, length-append, length-map, map_push}
use Rattle.std.proofs.lemmas.Int.{to_z-of_z}
use Rattle.spf_space.specs.declared.shape.LoopShape.{LoopShape}
use Rattle.spf_exec.specs.Executor.{IsOrderTable}
use Rattle.spf_exec.specs.Moves.{IsLower}
use Rattle.spf_exec.proofs.Orders.{extent_of, lower_fits, one_more}
use Rattle.spf_exec.proofs.tables.order_tables.Goals as goal

pub loop-number-preserved : goal.loop-number-preserved
loop-number-preserved c =
    let loops = c.args.loops.now in
    let moves = c.args.moves.now in
    let n = c.loop-number.number in
    let each : LoopShape = c.index-loops-number.result in
    let fits : FitsSigned w64 each.lower = lower_fits each.lower (subst (λ (of : LoopShape). IsLower of.lower) (sym c.index-loops-number.is) (c.requires.lowers n each c.loop-number-test.true)) in
    let table = c.in_ok-order_table.field-0.items in
    let many : n < length moves = omega (arith, c.requires.moves.as_many, length-map loops extent_of, c.loop-number-test.true) in
    let move = c.index-moves-number.is ∙ get_or_default moves n c.index-moves-number.result None many in
    record {
      as_many = rw c.in_ok-push.ensures.items (omega (arith, length-append c.loop-number.tables.items (c.in_ok-order_table.field-0 ∷ []), c.loop-number.invariant.as_many));
      each = rw (c.in_ok-push.ensures.items, map_push vec_items c.loop-number.tables.items c.in_ok-order_table.field-0)
          (one_more c.args.loops.now c.args.moves.now (map vec_items c.loop-number.tables.items) c.loop-number.number c.in_ok-order_table.field-0.items (length-map c.loop-number.tables.items vec_items ∙ c.loop-number.invariant.as_many) c.loop-number.invariant.each
          (λ d. subst (λ (lower : ℤ). IsOrderTable lower (get_or moves n None) table) (ap (λ (of : LoopShape). of.lower) (c.index-loops-number.is ∙ get_or_default loops n each d c.loop-number-test.true))
          (subst (λ (of : Option (List ℕ)). IsOrderTable each.lower of table) move (subst (λ (lower : ℤ). IsOrderTable lower c.index-moves-number.result table) (to_z-of_z w64 each.lower fits) c.in_ok-order_table.ensures))));
    }
