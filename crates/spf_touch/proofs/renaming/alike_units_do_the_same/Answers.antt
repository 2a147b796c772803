use Rattle.std.proofs.Common.{ap, ℕ, ℤ, sym, subst, ◌<◌}
use Rattle.spf_touch.specs.RenamingLaw.{alike_law}
use Rattle.spf_touch.proofs.Renamed.{alike_conflict, alike_on, alike_renamed, alike_turned, alike_values, legal_there}
use Rattle.spf_touch.proofs.renaming.alike_units_do_the_same.Goals as goal

pub returns-clause-frame : goal.returns-clause-frame
returns-clause-frame c = alike_law

pub returns-clause-conflicts : goal.returns-clause-conflicts
returns-clause-conflicts c mine theirs u v alike first second = (
  alike_conflict mine theirs alike u v first second,
  alike_conflict theirs mine (alike_turned mine theirs alike) u v (subst (λ n. u < n) alike.count first) (subst (λ n. v < n) alike.count second),
)

pub returns-clause-orders : goal.returns-clause-orders
returns-clause-orders c mine theirs us alike = (
  legal_there theirs mine (sym alike.count) (λ u v first second. alike_conflict theirs mine (alike_turned mine theirs alike) u v (subst (λ n. u < n) alike.count first) (subst (λ n. v < n) alike.count second)) us,
  legal_there mine theirs alike.count (λ u v first second. alike_conflict mine theirs alike u v (subst (λ n. u < n) (sym alike.count) first) (subst (λ n. v < n) (sym alike.count) second)) us,
)

pub returns-clause-values : goal.returns-clause-values
returns-clause-values c mine theirs us values alike below e = ap (λ (after : ℕ → ℤ). after e) (alike_values mine theirs alike us values below)

pub returns-clause-turned : goal.returns-clause-turned
returns-clause-turned c = alike_turned

pub returns-clause-chained : goal.returns-clause-chained
returns-clause-chained c mine theirs others alike more = alike_on mine theirs alike others more

pub returns-clause-renamed : goal.returns-clause-renamed
returns-clause-renamed c renaming mine theirs alike = alike_renamed mine theirs alike renaming
