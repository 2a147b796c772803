use Rattle.spf_kernel.proofs.Common.{◌≡◌, ◌+◌, [], ◌∷◌, ◌++◌, flat_map, take, arith, length-append, common_steps, on_ok_weaker, mono_monomials, atom_monomials}
use Rattle.spf_kernel.proofs.check.notes.+excess.Goals as goal
use Rattle.spf_kernel.proofs.NoteEquations.{step_monomials}
use Rattle.spf_kernel.proofs.Taking.{more_excess}

pub excess_in_ix-loop-step-preserved : goal.excess_in_ix-loop-step-preserved
excess_in_ix-loop-step-preserved t c =
    let front = flat_map step_monomials (take c.loop-step.step-index c.as_slice-step-items.result.now) in
    let here = mono_monomials c.step-item.result.mono in
    let all : flat_map step_monomials (take (c.loop-step.step-index + 1) c.as_slice-step-items.result.now) ≡ front ++ here = grind (arith, common_steps) in
    rw all (record {
      notes = more_excess c.args.check.now c.loop-step.check c.excess_in_mono.new.check c.args.room c.loop-step.left front here c.loop-step.invariant.notes c.loop-step.invariant.left c.in_ok-left.ensures.notes;
      left = omega (arith, c.in_ok-left.ensures.left, c.loop-step.invariant.left, length-append front here);
    })

pub excess_from-returns-clause-notes : goal.excess_from-returns-clause-notes
excess_from-returns-clause-notes t c =
    on_ok_weaker c.excess_in_atom.result
    (more_excess _ _ _ c.args.room c.in_ok-left.left (c.args.token ∷ []) (atom_monomials c.args.atom.now) c.in_ok-left.ensures.notes c.in_ok-left.ensures.left)
    c.excess_in_atom.ensures.notes
