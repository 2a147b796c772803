-- The program of a kernel: the bodies of its loops with composed terms.
use Rattle.std.specs.Prelude.{ℕ, ◌+◌, List, [], ◌∷◌}
use Rattle.std.specs.List.{flat_map}
use Rattle.spf_kernel.specs.declared.tree.Loop.{Loop}
use Rattle.spf_kernel.specs.declared.tree.Tree.{Tree}
use Rattle.spf_exec.specs.BodyTerms.{item_terms}
use Rattle.spf_exec.specs.Rewritten.{composing, executor_items}
use Rattle.spf_exec.specs.declared.program.Body.{Body}
use Rattle.spf_exec.specs.declared.program.Moved.{Moved}
use Rattle.spf_exec.specs.declared.program.Program.{Program}

module _ (tree : Tree) (moved : Moved) where
  -- the terms of a body where their first tokens stand, and its items with these terms
  abbrev pub body_of : ℕ → Loop → Body
  body_of loop_no loop = record { terms = flat_map (item_terms (composing tree moved loop_no loop)) loop.items; items = executor_items tree moved loop_no loop }

  -- of these loops, of which the first has this number
  abbrev pub bodies_from : ℕ → List Loop → List Body
  bodies_from loop_no [] = []
  bodies_from loop_no (loop ∷ loops) = body_of loop_no loop ∷ bodies_from (loop_no + 1) loops

  abbrev pub program_of : Program
  program_of = record { loops = bodies_from 0 tree.loops }
