-- The bodies of a kernel's loops, one after another.
use Rattle.std.proofs.Common.{◌≡◌, ℕ, ◌+◌, ◌<◌, List, [], ◌∷◌, ◌++◌, length, get_or, take, ap, sym, ◌∙◌, subst, arith}
use Rattle.std.proofs.lemmas.List.{length-take-le, take_more}
use Rattle.spf_kernel.specs.Bounded.{IsBoundedLoop, IsBoundedTree}
use Rattle.spf_kernel.specs.Kept.{KeepsLoop}
use Rattle.spf_kernel.specs.Named.{IsNamed, counts_in, named}
use Rattle.spf_kernel.specs.declared.tree.Loop.{Loop}
use Rattle.spf_kernel.specs.declared.tree.Tree.{Tree}
use Rattle.spf_exec.specs.Generated.{bodies_from, body_of}
use Rattle.spf_exec.specs.declared.program.Moved.{Moved}

module _ (tree : Tree) (moved : Moved) where
  one_more : (from : ℕ) (loops : List Loop) (loop : Loop) (next : ℕ) → next ≡ from + length loops → bodies_from tree moved from (loops ++ loop ∷ []) ≡ bodies_from tree moved from loops ++ body_of tree moved next loop ∷ []
  one_more from [] loop next is = let at : from ≡ next = omega (arith, is) in ap (λ number. body_of tree moved number loop ∷ []) at
  one_more from (first ∷ loops) loop next is = ap (λ more. body_of tree moved from first ∷ more) (one_more (from + 1) loops loop next (omega (arith, is)))

  module _ (loops : List Loop) (same : loops ≡ tree.loops) (index : ℕ) (loop : Loop) (inside : index < length loops) (at : loop ≡ get_or loops index loop) where
    pub bodies_next : bodies_from tree moved 0 (take (index + 1) loops) ≡ bodies_from tree moved 0 (take index loops) ++ body_of tree moved index loop ∷ []
    bodies_next =
        let count = length-take-le index loops (omega (arith, inside)) in
        ap (bodies_from tree moved 0) (take_more loops index loop inside ∙ ap (λ (last : Loop). take index loops ++ last ∷ []) (sym at))
        ∙ one_more 0 (take index loops) loop index (omega (arith, count))

    pub is_there : index < length tree.loops
    is_there = let e = ap length same in omega (arith, inside, e)

    pub loop_named : IsNamed tree → KeepsLoop (named (counts_in tree.decls)) loop
    unfolding IsNamed
    loop_named is = subst (KeepsLoop (named (counts_in tree.decls))) (ap (λ of. get_or of index loop) (sym same) ∙ sym at) (is.loops index loop is_there)

    pub loop_bounded : IsBoundedTree tree → IsBoundedLoop loop
    loop_bounded is = subst IsBoundedLoop (ap (λ of. get_or of index loop) (sym same) ∙ sym at) (is.loops index loop is_there)
