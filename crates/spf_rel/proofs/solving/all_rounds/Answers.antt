use Rattle.std.proofs.Common.{◌≡◌, ◌+◌, ◌-◌, suc, List, length, subst, arith}
use Rattle.spf_term.specs.declared.term.Term.{Term}
use Rattle.spf_rel.specs.Elimination.{IsChoice, IsChosen, choice_of}
use Rattle.spf_rel.proofs.Rounds.{NormalLaws, gone_on, stopped}
use Rattle.spf_rel.proofs.solving.all_rounds.Goals as goal

pub returns-in-Err : goal.returns-in-Err
returns-in-Err c =
    let laws : NormalLaws = record { normal = c.normal_form_is_normal.ensures; oriented = c.oriented_terms_are_normal.ensures } in
    let current = c.loop-turn.current in
    let high = c.args.outer + c.loop-turn.current.inner in
    let more : c.len-turns.result - c.loop-turn._turn ≡ suc (c.len-turns.result - (c.loop-turn._turn + 1)) = omega arith in
    let chosen : IsChoice c.args.outer high current.equal c.in-Some.chosen =
    subst (λ (terms : List Term). IsChoice c.args.outer high terms c.in-Some.chosen) c.as_slice.ensures (subst (IsChosen c.args.outer high c.as_slice.result.now) c.in-Some.is c.in_ok-choose.ensures) in
    stopped c.args.outer laws (c.len-turns.result - c.loop-turn._turn) (c.len-turns.result - (c.loop-turn._turn + 1)) (length c.args.conj.equal) c.args.conj current more c.loop-turn.invariant
    (choice_of current.equal c.in-Some.chosen) chosen.is c.in-Err.fault c.in-Err.ensures

pub loop-turn-preserved : goal.loop-turn-preserved
loop-turn-preserved c =
    let laws : NormalLaws = record { normal = c.normal_form_is_normal.ensures; oriented = c.oriented_terms_are_normal.ensures } in
    let current = c.loop-turn.current in
    let high = c.args.outer + c.loop-turn.current.inner in
    let more : c.len-turns.result - c.loop-turn._turn ≡ suc (c.len-turns.result - (c.loop-turn._turn + 1)) = omega arith in
    let chosen : IsChoice c.args.outer high current.equal c.in-Some.chosen =
    subst (λ (terms : List Term). IsChoice c.args.outer high terms c.in-Some.chosen) c.as_slice.ensures (subst (IsChosen c.args.outer high c.as_slice.result.now) c.in-Some.is c.in_ok-choose.ensures) in
    gone_on c.args.outer laws (c.len-turns.result - c.loop-turn._turn) (c.len-turns.result - (c.loop-turn._turn + 1)) (length c.args.conj.equal) c.args.conj current more c.loop-turn.invariant
    (choice_of current.equal c.in-Some.chosen) chosen.is c.in-Ok.made c.in-Ok.ensures
