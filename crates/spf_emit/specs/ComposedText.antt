-- The text in which each place takes what becomes of the source there, whatever its number is.
use Rattle.std.specs.Prelude.{ℕ, ◌+◌, List, [], ◌∷◌, ◌++◌}
use Rattle.spf_kernel.specs.declared.tree.Loop.{Loop}
use Rattle.spf_kernel.specs.declared.tree.Tree.{Tree}
use Rattle.spf_exec.specs.Composed.{applied}
use Rattle.spf_exec.specs.Rewritten.{Rewriting, composing}
use Rattle.spf_exec.specs.declared.program.Moved.{Moved}
use Rattle.spf_emit.specs.Naming.{names_of}
use Rattle.spf_emit.specs.Text.{Placed, heading, loop_text}

-- the terms of places are what becomes of the source
abbrev pub by_source : Rewriting → Placed
by_source to = record { index = λ at term. to.index term; entry = λ at array sub. applied array (to.index sub); cell = λ at array sub. to.cell array sub }

module _ (tree : Tree) (moved : Moved) where
  -- of these loops, of which the first has this number, in composed and packed terms
  abbrev pub composed_loops : ℕ → List Loop → List ℕ
  composed_loops loop_no [] = []
  composed_loops loop_no (loop ∷ loops) = loop_text (names_of tree) (by_source (composing tree moved loop_no loop)) loop ++ composed_loops (loop_no + 1) loops

  abbrev pub composed_text : ℕ → ℕ → List ℕ
  composed_text tiles steps = heading tiles steps ++ composed_loops 0 tree.loops
