use Rattle.std.proofs.Common.{◌≡◌, ℕ, ◌+◌, Option, List, ◌++◌, All, get_or, map, sym, ◌∙◌, subst, arith}
use Rattle.std.specs.List.{flat_map}
use Rattle.spf_term.specs.declared.term.Term.{Term}
use Rattle.spf_kernel.specs.Kept.{KeepsItem}
use Rattle.spf_kernel.specs.Named.{counts_in}
use Rattle.spf_kernel.specs.declared.tree.Loop.{Loop}
use Rattle.spf_kernel.specs.declared.tree.Tree.{Tree}
use Rattle.spf_exec.specs.BodyTerms.{item_terms}
use Rattle.spf_exec.specs.Composed.{first_packing, is_moved, iteration_by, iteration_in}
use Rattle.spf_exec.specs.Placeable.{IsIteration, placeable}
use Rattle.spf_exec.specs.Rewritten.{composing, composing_by, rewritten_item}
use Rattle.spf_exec.specs.declared.program.Moved.{Moved}
use Rattle.spf_exec.proofs.Composing.{is_iteration, named_below}
use Rattle.spf_exec.proofs.KeptPlaces.{item_placeable}
use Rattle.spf_exec.proofs.generation.body.Goals as goal

module _ (tree : Tree) (moved : Moved) (loop_no : ℕ) (loop : Loop) where
  rewriting_is : {iteration : Term} {arrays : List (Option (List ℕ))} {packings : ℕ} → iteration ≡ iteration_in tree moved loop_no loop → arrays ≡ moved.arrays → packings ≡ first_packing tree →
      composing_by iteration arrays packings ≡ composing tree moved loop_no loop
  rewriting_is iteration arrays packings = λ i. composing_by (iteration i) (arrays i) (packings i)

pub rewrite_items-requires-clause-placing : goal.rewrite_items-requires-clause-placing
rewrite_items-requires-clause-placing c =
    let loop = c.args.each.now in
    record {
      iteration = subst IsIteration (sym c.in_ok-iteration.ensures)
          (is_iteration c.numbers_are_within_the_size.ensures.count (is_moved c.as_slice-moves.result.now c.args.loop_no) (c.args.orders + c.args.loop_no) loop.low
          (c.compositions_stay_light.ensures.bounded loop.low c.requires.bounded.low) (named_below (counts_in c.args.tree.now.decls) 0 loop.low c.requires.named.low));
      packings = omega (arith, c.len.ensures, c.requires.few, c.requires.orders, c.requires.tables);
    }

pub rewrite_items-requires-clause-placeable : goal.rewrite_items-requires-clause-placeable
rewrite_items-requires-clause-placeable c =
    subst (All (KeepsItem (λ variables. placeable))) (sym c.as_slice-2.ensures)
    (λ n d inside. item_placeable c.compositions_stay_light.ensures.bounded (counts_in c.args.tree.now.decls) c.requires.arrays (get_or c.args.each.now.items n d) (c.requires.named.items n d inside) (c.requires.bounded.items n d inside))

pub returns : goal.returns
returns c =
    let tree = c.args.tree.now in
    let moved = c.args.moved.now in
    let same = rewriting_is tree moved c.args.loop_no c.args.each.now (c.in_ok-iteration.ensures ∙ λ i. iteration_by (is_moved (c.as_slice-moves.ensures i) c.args.loop_no) (c.requires.orders i + c.args.loop_no) c.args.each.now.low)
    c.as_slice.ensures (λ i. c.requires.orders i + c.len.ensures i) in
    let listed = c.in_ok-items.ensures.terms ∙ (λ i. c.new-terms.ensures i ++ flat_map (item_terms (same i)) (c.as_slice-2.ensures i)) in
    let made = c.in_ok-items.ensures.made ∙ (λ i. map (rewritten_item (same i)) (c.as_slice-2.ensures i)) in
    λ i. record { terms = listed i; items = made i }
