use Rattle.std.proofs.Common.{◌≡◌, ℕ, List, length, map, ap, sym, subst, ◌∙◌, arith}
use Rattle.std.proofs.lemmas.Result.{IfOk-weaker}
use Rattle.std.specs.List.{range_with_len}
use Rattle.std.specs.Prelude.{IfOk}
use Rattle.spf_space.specs.Layout.{cells_in}
use Rattle.spf_space.specs.Units.{units_of}
use Rattle.spf_touch.specs.Repeated.{touches_at}
use Rattle.spf_layers.specs.Chains.{AreChains, Entry, entries, grouped_entries}
use Rattle.spf_layers.specs.Fits.{Fits}
use Rattle.spf_layers.specs.Groups.{Group, groups_at}
use Rattle.spf_layers.proofs.Layered.{exact_fit}
use Rattle.spf_layers.proofs.Laying.{built, heads_within}
use Rattle.spf_layers.proofs.layers.Layers.build.Goals as goal

pub laid_out-requires-clause-heads : goal.laid_out-requires-clause-heads
laid_out-requires-clause-heads c =
    rw (c.as_slice-2.ensures.value, c.as_slice-3.ensures.value)
    (heads_within c.in_ok-chains.chains.nodes.items c.in_ok-chains.chains.heads.items (λ e. entries (touches_at c.args.touches.now) e (range_with_len 0 c.units-count.result)) c.in_ok-chains.ensures.chained)

abbrev count : (c : goal.After-drop-chains-2) → ℕ
count c = length (units_of c.args.shape.now.steps c.args.shape.now.loops)

exact : (c : goal.After-drop-chains-2) →
    IfOk c.laid_out.result (λ (layers : List (List Group)). layers ≡ map (groups_at (touches_at c.args.touches.now) (count c)) (range_with_len 0 (cells_in c.args.shape.now.arrays)))
exact c =
    let of : ℕ → List Entry = λ e. entries (touches_at c.args.touches.now) e (range_with_len 0 c.units-count.result) in
    let chains : AreChains c.as_slice-2.result.now c.as_slice-3.result.now of = rw (c.as_slice-2.ensures.value, c.as_slice-3.ensures.value) c.in_ok-chains.ensures.chained in
    let len : length c.as_slice-3.result.now ≡ cells_in c.args.shape.now.arrays =
    ap length c.as_slice-3.ensures.value ∙ c.in_ok-chains.ensures.heads ∙ c.cells_of-cells.ensures ∙ ap cells_in c.as_slice.ensures in
    IfOk-weaker c.laid_out.result (λ layers. layers ≡ map (λ e. grouped_entries (of e)) (range_with_len 0 (length c.as_slice-3.result.now)))
    (λ layers. layers ≡ map (groups_at (touches_at c.args.touches.now) (count c)) (range_with_len 0 (cells_in c.args.shape.now.arrays)))
    (λ layers is. is ∙ built (touches_at c.args.touches.now) c.units-count.result (count c) (length c.as_slice-3.result.now) (cells_in c.args.shape.now.arrays) c.units-count.ensures.count len)
    (c.laid_out.ensures of chains)

pub returns-clause-groups : goal.returns-clause-groups
returns-clause-groups c = exact c

pub returns-clause-fits : goal.returns-clause-fits
returns-clause-fits c =
    let touches = touches_at c.args.touches.now in
    let cells = cells_in c.args.shape.now.arrays in
    IfOk-weaker c.laid_out.result (λ layers. layers ≡ map (groups_at touches (count c)) (range_with_len 0 cells)) (Fits touches (count c))
    (λ layers is. subst (Fits touches (count c)) (sym is)
    (exact_fit touches (count c) cells (λ u lt. c.in_ok-chains.ensures.once u (omega (arith, c.units-count.ensures.count))) (λ u e lt touch. c.requires.inside u e touch))) (exact c)
