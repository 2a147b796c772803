use Rattle.std.proofs.Common.{ℕ, List, length, ap, subst, ◌∙◌}
use Rattle.spf_perm.specs.Perm.{AreInverse}
use Rattle.spf_pack.proofs.packs.packed.Goals as goal

pub returns-clause-packing : goal.returns-clause-packing
returns-clause-packing c =
    let inverse : AreInverse c.of_entries.result c.in_ok-made.field-0 = rw c.in_ok-made.ensures.0 at c.inverse-2.ensures in
    subst (λ (order : List ℕ). AreInverse order c.in_ok-made.field-0) (c.of_entries.ensures ∙ c.in_ok-order.ensures.order) inverse

pub returns-clause-long : goal.returns-clause-long
returns-clause-long c =
    let inverse : AreInverse c.of_entries.result c.in_ok-made.field-0 = rw c.in_ok-made.ensures.0 at c.inverse-2.ensures in
    inverse.lengths ∙ ap length c.of_entries.ensures ∙ c.in_ok-order.ensures.long
