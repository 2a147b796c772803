use Rattle.std.proofs.Common.{◌∙◌, ◌+ℤ◌, true, false, w64, rules}
use Rattle.std.proofs.lemmas.Int.{to_z-of_z}
use Rattle.spf_base.specs.Wrap.{wrap}
use Rattle.spf_reltext.specs.Resolved.{constant_of}
use Rattle.spf_reltext.proofs.Signs.{wrap_sum}
use Rattle.spf_reltext.proofs.terms.sides.Goals as goal

pub returns : goal.returns
returns c =
    let left = to_z-of_z w64 c.constant.result (search rules) ∙ c.constant.ensures in
    let right = to_z-of_z w64 c.constant-2.result (search rules) ∙ c.constant-2.ensures in
    to_z-of_z w64 c.wadd.result (search rules) ∙ c.wadd.ensures.value ∙ (λ i. wrap (left i +ℤ right i))
    ∙ wrap_sum (constant_of false c.args.left.now) (constant_of true c.args.right.now)
