use Rattle.std.proofs.Common.{◌≡◌, ◌<◌, ℕ, List, length, map, get_or, ap, sym, ◌∙◌, arith}
use Rattle.std.proofs.lemmas.List.{get_or-map, length-map}
use Rattle.spf_kernel.specs.declared.tree.Loop.{Loop}
use Rattle.spf_exec.specs.declared.program.Body.{Body}
use Rattle.spf_emit.specs.Places.{loop_places}
use Rattle.spf_emit.proofs.text.push_loops.Goals as goal

-- a body has as many terms as its loop has places
as_many : (bodies : List Body) (loops : List Loop) (n : ℕ) (body : Body) (loop : Loop) → map (λ (body : Body). length body.terms) bodies ≡ map loop_places loops → n < length bodies → n < length loops →
    body ≡ get_or bodies n body → loop ≡ get_or loops n loop → loop_places loop ≡ length body.terms
as_many bodies loops n body loop same of within is at =
    ap loop_places at ∙ sym (get_or-map loop_places loops n loop 0 within) ∙ sym (ap (λ (counts : List ℕ). get_or counts n 0) same)
    ∙ get_or-map (λ (body : Body). length body.terms) bodies n body 0 of ∙ sym (ap (λ (body : Body). length body.terms) is)

pub push_loop-requires : goal.push_loop-requires
push_loop-requires c =
    let many : length c.args.bodies.now ≡ length c.args.loops.now = omega (arith, ap length c.requires, length-map c.args.bodies.now (λ (body : Body). length body.terms), length-map c.args.loops.now loop_places) in
    let same = as_many c.args.bodies.now c.args.loops.now c.loop-n.n c.index-bodies-n.result c.index-loops-n.result c.requires (omega (arith, many, c.loop-n-test.true)) c.loop-n-test.true c.index-bodies-n.is c.index-loops-n.is in
    let terms = ap length (c.as_slice.ensures ∙ ap (λ (body : Body). body.terms) (sym c.index-bodies-n.is)) in
    omega (arith, same, terms)
