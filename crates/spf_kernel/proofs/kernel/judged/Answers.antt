use Rattle.spf_kernel.proofs.Common.{List, ℕ, [], Result, Ok, Err, ◌≡◌, ◌∙◌, subst, texts, Checked, Note, Names, kernel_notes}
use Rattle.spf_kernel.specs.check.State.{IsBehind, State, Takes}
use Rattle.spf_kernel.specs.declared.check.rules.Breach.{Breach}
use Rattle.spf_kernel.proofs.kernel.judged.Goals as goal
use Rattle.spf_kernel.proofs.Parsing.{kept}

-- what a check that begins comes to behind these notes
checked : (begins state : State) (all : List (List ℕ)) (notes : List Note) (result comes : Result Names Breach) → IsBehind [] begins → begins.texts ≡ all → Takes begins notes state
    → ((seen : List Note) → IsBehind seen state → Checked state.texts seen result) → result ≡ comes → Checked all notes comes
unfolding Takes
checked begins state all notes result comes behind same goes finished is =
    subst (Checked all notes) is (subst (λ (texts : List (List ℕ)). Checked texts notes result) (goes.0 ∙ same) (finished notes (goes.1 [] behind)))

pub kernel_of-requires-clause-checked : goal.kernel_of-requires-clause-checked
kernel_of-requires-clause-checked c =
    checked c.args.check.now c.note_kernel.new.check (texts c.args.tokens.now) (kernel_notes c.args.raw.now) c.finish.result (Ok c.in-Ok.names) c.requires.begins c.requires.same c.in_ok-note_kernel.ensures c.finish.ensures c.in-Ok.is

pub kernel_of-requires-clause-few : goal.kernel_of-requires-clause-few
unfolding Takes
kernel_of-requires-clause-few c = (c.in_ok-note_kernel.ensures.1 [] c.requires.begins).few

pub returns-in_ok-kernel_of-in-Ok : goal.returns-in_ok-kernel_of-in-Ok
returns-in_ok-kernel_of-in-Ok c =
    let keeps =
    checked c.args.check.now c.note_kernel.new.check (texts c.args.tokens.now) (kernel_notes c.args.raw.now) c.finish.result (Ok c.in-Ok.names) c.requires.begins c.requires.same c.in_ok-note_kernel.ensures c.finish.ensures c.in-Ok.is
    in kept c.args.tokens.now c.args.raw.now c.in-Ok.names c.in_ok-kernel_of-in-Ok.field-0 keeps c.in_ok-kernel_of-in-Ok.ensures

pub returns-in-Err : goal.returns-in-Err
returns-in-Err c =
    let breaks =
    checked c.args.check.now c.note_kernel.new.check (texts c.args.tokens.now) (kernel_notes c.args.raw.now) c.finish.result (Err c.in-Err.breach) c.requires.begins c.requires.same c.in_ok-note_kernel.ensures c.finish.ensures c.in-Err.is
    in (_, breaks, c.place_from.ensures)
