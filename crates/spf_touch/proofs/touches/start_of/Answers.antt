use Rattle.std.proofs.Common.{◌+◌, ◌-◌, ◌≡◌, sym, ap, ◌∙◌, arith}
use Rattle.spf_touch.specs.Lists.{start_of}
use Rattle.spf_touch.proofs.Lists.{start_more}
use Rattle.spf_touch.proofs.touches.start_of.Goals as goal

pub returns-else-list-eq0 : goal.returns-else-list-eq0
returns-else-list-eq0 c =
    let back : c.args.list - 1 + 1 ≡ c.args.list = omega arith in
    sym (start_more 0 c.args.ends.now (c.args.list - 1) 0 (omega arith)) ∙ ap (start_of 0 c.args.ends.now) back
