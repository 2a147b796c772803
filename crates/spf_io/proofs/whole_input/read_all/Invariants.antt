use Rattle.std.proofs.Common.{◌≤◌, ◌-◌, ◌+◌, vec_len}
use Rattle.spf_io.specs.Stream.{Takes}
use Rattle.spf_io.specs.declared.whole_input.TheConstants.{MAX_BYTES}
use Rattle.spf_io.proofs.whole_input.read_all.Given as goal

abbrev pub invariant-loop-piece : goal.invariant-loop-piece
invariant-loop-piece g l =
    record {
      within : vec_len l.bytes ≤ MAX_BYTES + 1;
      taken : Takes (g.S.Source.held l.fn.source) l.bytes.items (g.S.Source.held l.source);
      never_falls : g.S.Source.faults l.fn.source ≤ g.S.Source.faults l.source;
    }

abbrev pub decreases-loop-piece : goal.decreases-loop-piece
decreases-loop-piece g l = (MAX_BYTES + 1) - vec_len l.bytes
