use Rattle.std.proofs.Common.{◌∙◌, ◌+ℤ◌, true, false, w64, rules}
use Rattle.std.proofs.lemmas.Int.{to_z-of_z}
use Rattle.spf_base.specs.Wrap.{wrap}
use Rattle.spf_reltext.specs.Resolved.{constant_of}
use Rattle.spf_reltext.proofs.Signs.{wrap_left}
use Rattle.spf_reltext.proofs.terms.constant_between.Goals as goal

pub returns : goal.returns
returns c =
    let both = to_z-of_z w64 c.sides.result (search rules) ∙ c.sides.ensures in
    let number = to_z-of_z w64 c.args.number (search rules) in
    to_z-of_z w64 c.wadd.result (search rules) ∙ c.wadd.ensures.value ∙ (λ i. wrap (both i +ℤ number i))
    ∙ wrap_left (constant_of false c.args.left.now +ℤ constant_of true c.args.right.now) c.args.number
