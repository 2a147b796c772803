use Rattle.std.proofs.Common.{◌+◌, ℤ, pos, w64, rules, subst}
use Rattle.std.proofs.lemmas.Int.{to_z-of_z}
use Rattle.std.specs.Prelude.{neg_ℤ}
use Rattle.spf_store.specs.FirstFault.{bound_limit, unless_between}
use Rattle.spf_access.specs.Progress.{IsCompared}
use Rattle.spf_access.proofs.Events.{bound_walks}
use Rattle.spf_access.proofs.walks.WalkVisitorProgress.bound.Goals as goal

pub returns-clause-walks : goal.returns-clause-walks
returns-clause-walks c =
    let same = to_z-of_z w64 c.args.value (search rules) in
    bound_walks c.args.self.now.env.now c.args._progress.now c.args.site c.args.value c.bound.result
    (subst (λ (z : ℤ). IsCompared (unless_between (neg_ℤ (pos bound_limit)) (pos (bound_limit + 1)) c.args.site z) c.bound.result) same c.bound.ensures.compared)
