use Rattle.std.proofs.Common.{◌^◌, ◌+◌, ◌*ℤ◌, negsuc, sym, ◌∙◌, subst, rules, w64, to_z, of_z}
use Rattle.std.proofs.lemmas.Int.{to_z-of_z}
use Rattle.std.proofs.lemmas.List.Elements.{All-drop, All-take}
use Rattle.spf_term.specs.Bounded.{IsWithin}
use Rattle.spf_term.specs.declared.term.Mono.{Mono}
use Rattle.spf_term.specs.declared.term.Term.{out-Term}
use Rattle.spf_term.proofs.Pivots.{all_small, solved_is}
use Rattle.spf_term.proofs.Rule.{small_constant}
use Rattle.spf_term.proofs.solutions.solved.Goals as goal

pub both_turned-requires-clause-before : goal.both_turned-requires-clause-before
both_turned-requires-clause-before c =
    All-take (λ (mono : Mono). IsWithin (2 ^ 62) mono.coef) c.args.pivot.place c.as_slice-monos.result.now (all_small c.args.term.now c.requires.keeps c.as_slice-monos.result.now c.as_slice-monos.ensures)

pub both_turned-requires-clause-after : goal.both_turned-requires-clause-after
both_turned-requires-clause-after c =
    All-take (λ (mono : Mono). IsWithin (2 ^ 62) mono.coef) _ _
    (All-drop (λ (mono : Mono). IsWithin (2 ^ 62) mono.coef) (c.args.pivot.place + 1) c.as_slice-monos.result.now (all_small c.args.term.now c.requires.keeps c.as_slice-monos.result.now c.as_slice-monos.ensures))

pub turned-constant-requires-clause-small : goal.turned-constant-requires-clause-small
turned-constant-requires-clause-small c = subst (IsWithin (2 ^ 62)) (sym (to_z-of_z w64 (out-Term c.args.term.now).constant (search rules))) (small_constant c.args.term.now c.requires.keeps)

pub returns : goal.returns
returns c =
    let turn = to_z-of_z w64 c.turned-factor.result (search rules) in
    let by = solved_is c.args.term.now c.args.pivot c.as_slice-monos.result.now c.as_slice-monos.ensures (to_z w64 (of_z w64 c.turned-factor.result))
    (turn ∙ c.turned-factor.ensures ∙ (λ i. negsuc 0 *ℤ to_z-of_z w64 c.args.pivot.coef (search rules) i)) _ c.in_ok-others.ensures (to_z w64 (of_z w64 c.turned-constant.result))
    (to_z-of_z w64 c.turned-constant.result (search rules) ∙ c.turned-constant.ensures
    ∙ (λ i. to_z w64 (of_z w64 c.turned-factor.result) *ℤ to_z-of_z w64 (out-Term c.args.term.now).constant (search rules) i)) in
    λ i. record { var = c.args.pivot.var; by = by i }
