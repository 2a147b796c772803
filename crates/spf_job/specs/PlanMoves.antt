-- What a plan has moved, as the executor takes it.
use Rattle.std.specs.Prelude.{ℕ, Bool, true, false, Option, None, Some, List, [], length, map, slice_index_or}
use Rattle.std.specs.List.{range_with_len}
use Rattle.spf_plan.specs.Planned.{Planned}
use Rattle.spf_exec.specs.declared.program.Moved.{Moved}

-- a permutation that has a mark is a move
abbrev pub move_by : Bool → List ℕ → Option (List ℕ)
move_by true perm = Some perm
move_by false perm = None

-- for each mark the permutation of its number, if it has it
abbrev pub moves_of : List Bool → List (List ℕ) → List (Option (List ℕ))
moves_of marks perms = map (λ n. move_by (slice_index_or marks n true) (slice_index_or perms n [])) (range_with_len 0 (length marks))

-- the orders of the loops and the packings of the arrays that the plan has moved
abbrev pub moved_of : Planned → Moved
moved_of plan = record { loops = moves_of plan.moved_loops plan.orders; arrays = moves_of plan.moved_arrays plan.packs }
