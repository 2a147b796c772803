use Rattle.std.proofs.Common.{arith, refl}
use Rattle.spf_lex.specs.Tokens.{done}
use Rattle.spf_lex.proofs.Spans.{after_gap, scanned_token, lacks_token, all_read}
use Rattle.spf_lex.proofs.scan.tokens.Goals as goal

pub loop-at-init : goal.loop-at-init
loop-at-init c = rw (c.new-spans.ensures.items, c.new-lexemes.ensures.items) (record { reads = record { inside = omega arith; reads = done }; each = refl })

pub loop-at-preserved-in-Some : goal.loop-at-preserved-in-Some
loop-at-preserved-in-Some c = record { reads = after_gap _ _ _ c.loop-at.invariant.reads _ c.in-Some.ensures; each = c.loop-at.invariant.each }

pub loop-at-preserved : goal.loop-at-preserved
loop-at-preserved c =
    scanned_token _ _ _ c.loop-at.invariant.reads _ _ _ c.in-Some-token_at.found c.loop-at.invariant.each c.in-Some-token_at.ensures c.in_ok-keep.ensures.spans c.in_ok-keep.ensures.lexemes

pub new-requires : goal.new-requires
new-requires c = record {
  tokenized = record { short = c.requires; tokens = all_read _ _ _ c.loop-at.invariant.reads c.loop-at-test.false };
  each = c.loop-at.invariant.each;
}

pub returns-in_default-token_at-clause-fault : goal.returns-in_default-token_at-clause-fault
returns-in_default-token_at-clause-fault c =
    (c.loop-at.at, lacks_token _ _ _ c.loop-at.invariant.reads c.loop-at-test.true c.in_default.ensures c.in_default-token_at.ensures, c.place_at.ensures)
