-- Terms, told of the monomials of an index expression as a list.
use Rattle.std.proofs.Common.{◌≡◌, ℕ, Bool, false, List, ◌++◌, flat_map, refl, ap, ◌∙◌, sym}
use Rattle.spf_base.specs.Wrap.{wrap}
use Rattle.spf_reltext.specs.Resolved.{constant_of, ix_monos, mono_of, monos_of, opposite, term_of}
use Rattle.spf_reltext.specs.declared.names.RelNames.{RelNames}
use Rattle.spf_reltext.specs.declared.raw.RawIx.{RawIx, RawIx', Row_of-RawMono, end_of-RawMono, more_of-RawMono, items-the_row-RawMono, items_shown-the_row-RawMono-0}
unfoldable use Rattle.spf_reltext.specs.declared.raw.RawIx.{out-RawIx}
use Rattle.spf_reltext.specs.declared.raw.RawMono.{RawMono}
use Rattle.spf_term.specs.declared.term.Mono.{Mono}
use Rattle.spf_term.specs.declared.term.Term.{roll-Term}

module _ (variables : List (List ℕ)) (names : RelNames) where
  abbrev pub raw_monos : Bool → RawMono → List Mono
  raw_monos flips mono = mono_of variables names (opposite flips mono.minus) mono.number mono.atom

  monos_are : {n : _} (flips : Bool) (row : Row_of-RawMono n) → monos_of variables names flips row ≡ flat_map (raw_monos flips) (items-the_row-RawMono n row)
  monos_are flips end_of-RawMono = refl
  monos_are flips (more_of-RawMono minus number atom others) = ap (λ (monos : List Mono). mono_of variables names (opposite flips minus) number atom ++ monos) (monos_are flips others)

  pub ix_monos_are : (flips : Bool) (ix : RawIx) → ix_monos variables names flips ix ≡ flat_map (raw_monos flips) (out-RawIx ix).monos
  unfolding out-RawIx denote.Hole.Carrier.out
  ix_monos_are flips (RawIx' shape monos) = monos_are flips monos ∙ ap (flat_map (raw_monos flips)) (sym (items_shown-the_row-RawMono-0 shape monos))

  pub term_is : (ix : RawIx) → term_of variables names ix ≡ roll-Term (record { monos = ix_monos variables names false ix; constant = wrap (constant_of false ix) })
  term_is (RawIx' shape monos) = refl
