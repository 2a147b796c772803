use Rattle.std.proofs.Common.{◌≡◌, ◌<◌, ◌≤◌, ◌^◌, ◌++◌, [], ◌∷◌, List, All, ℕ, ℤ, pos, negsuc, ◌*ℤ◌, map, unsigned_abs, ap, sym, ◌∙◌, subst, rules}
use Rattle.std.proofs.lemmas.Int.{to_z-of_z}
use Rattle.std.specs.Int.{w64}
use Rattle.spf_term.specs.declared.term.Atom.{Var}
use Rattle.spf_term.specs.declared.term.Mono.{Mono}
use Rattle.spf_term.specs.declared.term.Term.{out-Term}
use Rattle.spf_rel.specs.Graph.{opposite_mono}
use Rattle.spf_rel.specs.Renumbering.{AtomVariables, moved}
use Rattle.spf_rel.proofs.Defining.{difference_is, small_constant, small_monos}
use Rattle.spf_rel.proofs.Renumbered.{variables_are}
use Rattle.spf_rel.proofs.definitions.difference.Goals as goal

pub push_opposites-requires-clause-small : goal.push_opposites-requires-clause-small
push_opposites-requires-clause-small c = subst (All (λ (mono : Mono). unsigned_abs mono.coef ≤ 2 ^ 62)) (sym c.as_slice.ensures) (small_monos c.args.term.now (2 ^ 62) c.requires.small)

pub push_opposites-requires-clause-room : goal.push_opposites-requires-clause-room
push_opposites-requires-clause-room c =
    subst (All (λ (mono : Mono). AtomVariables (λ (number : ℕ). moved c.args.blocks.now number < 2 ^ 32) mono.atom)) (sym c.as_slice.ensures)
    (variables_are (λ (number : ℕ). moved c.args.blocks.now number < 2 ^ 32) c.args.term.now c.requires.room)

pub opposite-requires : goal.opposite-requires
opposite-requires c =
    let small = small_constant c.args.term.now (2 ^ 62) c.requires.small in
    let same = to_z-of_z w64 (out-Term c.args.term.now).constant (search rules) in
    subst (λ (number : ℤ). unsigned_abs number ≤ 2 ^ 62) (sym same) small

pub returns : goal.returns
returns c =
    let first = c.in_ok-push.ensures.ok ∙ ap (λ (before : List Mono). before ++ record { coef = pos 1; atom = Var c.args.var } ∷ []) c.new-monos.ensures in
    let same = to_z-of_z w64 (out-Term c.args.term.now).constant (search rules) in
    difference_is (moved c.args.blocks.now) c.args.var c.args.term.now c.push_opposites.new.made _
    (c.in_ok-push_opposites.ensures ∙ (λ i. first i ++ map (opposite_mono (moved c.args.blocks.now)) (c.as_slice.ensures i)))
    (to_z-of_z w64 c.opposite.result (search rules) ∙ c.opposite.ensures ∙ ap (λ (of : ℤ). negsuc 0 *ℤ of) same)
