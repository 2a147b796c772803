use Rattle.std.proofs.Common.{◌+◌, ◌-◌, ◌≡◌, sym, ap, ◌∙◌, arith}
use Rattle.spf_touch.specs.Lists.{start_of}
use Rattle.spf_touch.proofs.Lists.{start_more}
use Rattle.spf_layers.proofs.layers.begin.Goals as goal

pub returns-else-part-eq0 : goal.returns-else-part-eq0
returns-else-part-eq0 c =
    let back : c.args.part - 1 + 1 ≡ c.args.part = omega arith in
    sym (start_more 0 c.args.ends.now (c.args.part - 1) 0 (omega arith)) ∙ ap (start_of 0 c.args.ends.now) back
