use Rattle.std.proofs.Common.{◌≡◌, ◌-◌, suc, sym, ◌∙◌, arith}
use Rattle.spf_rel.proofs.Compacting.{formed_numbered, goes}
use Rattle.spf_rel.proofs.compaction.compact.Goals as goal

pub without-requires-clause-numbered : goal.without-requires-clause-numbered
without-requires-clause-numbered c = formed_numbered c.args.outer c.loop-left.current c.loop-left.invariant.formed

pub loop-left-preserved-then-not-conj_mentions : goal.loop-left-preserved-then-not-conj_mentions
loop-left-preserved-then-not-conj_mentions c =
    let more : c.loop-left.left ≡ suc (c.loop-left.left - 1) = omega arith in
    goes c.args.outer c.loop-left.left (c.loop-left.left - 1) c.args.conj c.loop-left.current more c.loop-left.invariant (sym c.conj_mentions.ensures ∙ c.if-not-conj_mentions.true) c.in_ok-current.current c.in_ok-current.ensures
