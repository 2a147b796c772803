use Rattle.std.proofs.Common.{sym, subst}
use Rattle.std.proofs.lemmas.List.Elements.{All-same}
use Rattle.spf_rel.specs.Meaning.{IsNumbered}
use Rattle.spf_rel.proofs.unions.push_copies.Goals as goal

pub copied-requires : goal.copied-requires
copied-requires c =
    subst IsNumbered (sym c.conj-item.is) (All-same IsNumbered _ _ c.as_slice-conj-items.ensures c.requires c.loop-conj.conj-index c.conj-item.result c.loop-conj-test.true)
