use Rattle.std.proofs.Common.{◌≡◌, ◌+◌, ◌-◌, ℕ, suc, List, subst, arith}
use Rattle.spf_term.specs.declared.term.Term.{Term}
use Rattle.spf_rel.specs.Elimination.{IsChoice, IsChosen, choice_of}
use Rattle.spf_rel.proofs.Found.{Finding, gone_on, stopped}
use Rattle.spf_rel.proofs.outputs.outputs_found.Goals as goal

pub returns-in-Err-clause-answer : goal.returns-in-Err-clause-answer
returns-in-Err-clause-answer c =
    let ins = c.args.ins in
    let outs = c.args.outs in
    let taken = c.loop-taken.taken in
    let current = c.loop-taken.partly in
    let more : outs - taken ≡ suc (outs - (taken + 1)) = omega arith in
    let chosen : IsChoice (ins + taken) (ins + taken + 1) current.equal c.in-Some.chosen =
    subst (λ (terms : List Term). IsChoice (ins + taken) (ins + taken + 1) terms c.in-Some.chosen) c.as_slice.ensures (subst (IsChosen (ins + taken) (ins + taken + 1) c.as_slice.result.now) c.in-Some.is c.in_ok-choose.ensures) in
    stopped ins outs (outs - taken) (ins + taken) c.args.conj current c.loop-taken.invariant (outs - (taken + 1)) more (choice_of current.equal c.in-Some.chosen) chosen.is c.in-Err.fault c.in-Err.ensures

pub loop-taken-preserved : goal.loop-taken-preserved
loop-taken-preserved c =
    let ins = c.args.ins in
    let outs = c.args.outs in
    let taken = c.loop-taken.taken in
    let current = c.loop-taken.partly in
    let more : outs - taken ≡ suc (outs - (taken + 1)) = omega arith in
    let chosen : IsChoice (ins + taken) (ins + taken + 1) current.equal c.in-Some.chosen =
    subst (λ (terms : List Term). IsChoice (ins + taken) (ins + taken + 1) terms c.in-Some.chosen) c.as_slice.ensures (subst (IsChosen (ins + taken) (ins + taken + 1) c.as_slice.result.now) c.in-Some.is c.in_ok-choose.ensures) in
    let next : ins + taken + 1 ≡ ins + (taken + 1) = omega arith in
    subst (λ output. Finding ins outs (outs - (taken + 1)) output c.args.conj c.in-Ok.made) next
    (gone_on ins outs (outs - taken) (ins + taken) c.args.conj current c.loop-taken.invariant (outs - (taken + 1)) more (choice_of current.equal c.in-Some.chosen) chosen.is c.normal_form_is_normal.ensures chosen.ready c.in-Ok.made c.in-Ok.ensures)
