use Rattle.std.proofs.Common.{◌≡◌, ◌<◌, ℕ, List, [], ap, arith, replicate, subst, sym, ◌∙◌}
use Rattle.spf_kernel.specs.declared.tree.Tree.{Tree}
use Rattle.spf_touch.specs.declared.touch.Touch.{Touch}
use Rattle.spf_space.specs.Layout.{iterations}
use Rattle.spf_space.specs.Units.{loops_units}
use Rattle.spf_store.specs.Shaped.{loops_of}
use Rattle.spf_access.specs.Progress.{Progress}
use Rattle.spf_access.specs.Units.{AmongUnits}
use Rattle.spf_access.proofs.Coming.{at_first, no_steps}
use Rattle.spf_access.proofs.enumeration.accesses.Goals as goal

pub returns-then-shape-eq0 : goal.returns-then-shape-eq0
returns-then-shape-eq0 c =
    let none = no_steps c.args.env.now c.args.kernel.now c.args.shape.now.steps c.if-shape-eq0.true in
    let count : c.per_step.result ≡ iterations (loops_of c.args.env.now c.args.kernel.now) = c.per_step.ensures ∙ ap iterations c.requires.shape.loops in
    (none.0, c.in_ok-empty_lists.ensures ∙ ap (λ (n : ℕ). replicate {A = List Touch} n []) count ∙ sym none.1)

pub walk_loops-requires-clause-among : goal.walk_loops-requires-clause-among
walk_loops-requires-clause-among c =
    let is = c.in_ok-progress.ensures in
    subst (λ (tree : Tree). AmongUnits c.args.env.now tree c.in_ok-progress.progress (loops_units 0 0 (loops_of c.args.env.now tree))) (sym c.tree.ensures.tree)
    (at_first c.args.env.now c.args.kernel.now c.in_ok-progress.progress (subst (λ (n : ℕ). 0 < n) (sym (ap (λ (p : Progress). p.steps) is)) (omega arith)) (ap (λ (p : Progress). p.closed) is)
    (ap (λ (p : Progress). p.current) is) (ap (λ (p : Progress). p.visits) is) (ap (λ (p : Progress). p.arrays) is ∙ c.requires.shape.arrays))
