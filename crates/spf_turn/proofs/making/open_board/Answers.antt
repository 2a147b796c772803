use Rattle.std.proofs.Common.{sym}
use Rattle.spf_turn.proofs.Opening.{opens}
use Rattle.spf_turn.proofs.making.open_board.Goals as goal

pub new-requires : goal.new-requires
new-requires g c =
    rw (c.push_reserved.ensures.items, c.in_ok-slots.ensures.items) (opens _ _ _ record { first = c.of.result; passes = c.args.passes } c.args.value (sym c.of.ensures) c.requires.tale c.requires.passes.0)
