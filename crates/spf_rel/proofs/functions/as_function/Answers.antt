use Rattle.std.proofs.Common.{◌≡◌, ◌+◌, Some, Option, None, sym, ◌∙◌, arith}
use Rattle.spf_rel.specs.Elimination.{IsReadyConj}
use Rattle.spf_rel.specs.Meaning.{IsFormed}
use Rattle.spf_rel.proofs.Answering.{function_gives, not_single, simplify_told, single_told}
use Rattle.spf_rel.proofs.Giving.{of_single}
use Rattle.spf_rel.proofs.Laws.{Laws}
use Rattle.spf_rel.proofs.functions.as_function.Goals as goal

pub function_of_one-requires-clause-room : goal.function_of_one-requires-clause-room
function_of_one-requires-clause-room c =
    let made = c.in-Ok.made in
    let ins = c.in-Ok.ensures.answer.0 in
    let outs = c.in-Ok.ensures.answer.1 in
    let few = (of_single (IsFormed (made.ins + made.outs)) made.conjs c.in-Some.conj (sym c.single.ensures ∙ c.in-Some.is) c.in-Ok.ensures.formed).few in
    omega (arith, ins, outs, few)

pub function_of_one-requires-clause-ready : goal.function_of_one-requires-clause-ready
function_of_one-requires-clause-ready c =
    let r = c.args.r.now in
    of_single IsReadyConj c.in-Ok.made.conjs c.in-Some.conj (sym c.single.ensures ∙ c.in-Some.is) (c.simplified_terms_are_ready.ensures (r.ins + r.outs) r.conjs c.in-Ok.made.conjs c.in-Ok.ensures.answer.2)

pub returns-in-Some-clause-answer : goal.returns-in-Some-clause-answer
returns-in-Some-clause-answer c =
    single_told c.args.r.now c.in-Ok.made.conjs c.in-Ok.ensures.answer.2 c.in-Some.conj (sym c.single.ensures ∙ c.in-Some.is) c.function_of_one.result c.function_of_one.ensures.answer

pub returns-in-Some-clause-meaning : goal.returns-in-Some-clause-meaning
returns-in-Some-clause-meaning c =
    let laws : Laws = record {
      normal = c.normal_form_keeps_the_value.ensures;
      oriented = c.oriented_terms_are_alike.ensures;
      substituted = c.substitution_keeps_the_value.ensures;
      solves = c.solutions_solve.ensures;
      exact = c.terms_are_ordered.ensures.exact;
    } in
    function_gives c.args.r.now laws c.requires c.function_of_one.result
    (single_told c.args.r.now c.in-Ok.made.conjs c.in-Ok.ensures.answer.2 c.in-Some.conj (sym c.single.ensures ∙ c.in-Some.is) c.function_of_one.result c.function_of_one.ensures.answer)

pub returns-in-None-clause-answer : goal.returns-in-None-clause-answer
returns-in-None-clause-answer c = not_single c.args.r.now c.in-Ok.made.conjs c.in-Ok.ensures.answer.2 (sym c.single.ensures ∙ c.in-None.is)

pub returns-in-Err-clause-answer : goal.returns-in-Err-clause-answer
returns-in-Err-clause-answer c = simplify_told c.args.r.now c.in-Err.fault c.in-Err.ensures.answer
