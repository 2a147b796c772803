use Rattle.std.proofs.Common.{◌≡◌, arith}
use Rattle.std.proofs.lemmas.List.Elements.{recursion_from_All}
use Rattle.spf_perm.specs.Perm.{IsPerm}
use Rattle.spf_pack.specs.Packing.{returns}
use Rattle.spf_pack.proofs.PackedCells.{cells_same, in_array, stays_behind, stays_below}
use Rattle.spf_pack.proofs.packing.packing_is_renaming.Goals as goal

pub returns-clause-places : goal.returns-clause-places
returns-clause-places c arrays packings number place array packing adjacent have there packs inside =
    let found = in_array arrays packings 0 number place array packing adjacent have there packs inside in
    let start : array.start ≡ found.0 = omega (arith, found.1) in
    rw start found.2

pub returns-clause-behind : goal.returns-clause-behind
returns-clause-behind c = stays_behind

pub returns-clause-cells : goal.returns-clause-cells
returns-clause-cells c = cells_same

pub returns-clause-below : goal.returns-clause-below
returns-clause-below c packings e perms below = stays_below packings (recursion_from_All IsPerm packings perms) e below

pub returns-clause-renaming : goal.returns-clause-renaming
returns-clause-renaming c packings perms e = returns packings perms e
