-- The facts of an index expression, told of its monomials as a list.
use Rattle.std.proofs.Common.{◌≡◌, List, ◌++◌, flat_map, refl, ap, ◌∙◌, sym}
use Rattle.spf_reltext.specs.Facts.{atom_facts, ix_facts, monos_facts}
use Rattle.spf_reltext.specs.declared.fact.Fact.{Fact}
use Rattle.spf_reltext.specs.declared.raw.RawIx.{RawIx, RawIx', Row_of-RawMono, end_of-RawMono, more_of-RawMono, items-the_row-RawMono, items_shown-the_row-RawMono-0}
unfoldable use Rattle.spf_reltext.specs.declared.raw.RawIx.{out-RawIx}
use Rattle.spf_reltext.specs.declared.raw.RawMono.{RawMono}

abbrev pub mono_facts : RawMono → List Fact
mono_facts mono = atom_facts mono.number mono.atom

facts_are : {n : _} (row : Row_of-RawMono n) → monos_facts row ≡ flat_map mono_facts (items-the_row-RawMono n row)
facts_are end_of-RawMono = refl
facts_are (more_of-RawMono minus number atom others) = ap (λ (facts : List Fact). atom_facts number atom ++ facts) (facts_are others)

pub ix_facts_are : (ix : RawIx) → ix_facts ix ≡ flat_map mono_facts (out-RawIx ix).monos
unfolding out-RawIx denote.Hole.Carrier.out
ix_facts_are (RawIx' shape monos) = facts_are monos ∙ ap (flat_map mono_facts) (sym (items_shown-the_row-RawMono-0 shape monos))
