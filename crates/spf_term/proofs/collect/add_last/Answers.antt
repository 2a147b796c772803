use Rattle.std.proofs.Common.{◌≡◌, ◌+ℤ◌, ◌++◌, [], OnOk, List, ℤ, map, ap, sym, ◌∙◌, subst, rules, FitsSigned, to_z, of_z}
use Rattle.std.proofs.lemmas.Int.{to_z-of_z}
use Rattle.std.specs.Int.{w128}
use Rattle.std.specs.declared.cmp.Ordering.TheVariants.{Equal}
use Rattle.spf_term.specs.Normal.{kept}
use Rattle.spf_term.specs.Wide.{plain_atom, plain_mono}
use Rattle.spf_term.specs.declared.term.Mono.{Mono}
use Rattle.spf_term.proofs.Collected.{last_added, last_apart, wide_sum_fits}
use Rattle.spf_term.proofs.collect.add_last.Goals as goal

pub overflow_add-sum : goal.overflow_add-sum
overflow_add-sum c =
    let left = to_z-of_z w128 c.args.mono.coef (search rules) in
    let right = to_z-of_z w128 c.in-Some.last.coef (search rules) in
    let fits : FitsSigned w128 (c.args.mono.coef +ℤ c.in-Some.last.coef) =
    wide_sum_fits c.args.made.now.items c.pop.new.self.items c.in-Some.last c.args.mono c.in-Some.ensures.items (sym c.in-Equal.ensures) (c.requires.fits (plain_atom c.args.mono.atom)) in
    search rules

pub returns-in-Equal : goal.returns-in-Equal
returns-in-Equal c =
    let left = to_z-of_z w128 c.args.mono.coef (search rules) in
    let right = to_z-of_z w128 c.in-Some.last.coef (search rules) in
    let fits = wide_sum_fits c.args.made.now.items c.pop.new.self.items c.in-Some.last c.args.mono c.in-Some.ensures.items (sym c.in-Equal.ensures) (c.requires.fits (plain_atom c.args.mono.atom)) in
    let sum = ap (λ (of : ℤ). to_z w128 (of_z w128 of)) (λ i. left i +ℤ right i) ∙ to_z-of_z w128 (c.args.mono.coef +ℤ c.in-Some.last.coef) fits in
    let whole = last_added c.args.made.now.items c.pop.new.self.items c.in-Some.last c.args.mono c.in-Some.ensures.items Equal (sym c.in-Equal.ensures) c.requires.normal c.requires.last in
    subst (λ (of : List Mono). OnOk c.push_kept-in-Equal.result (map plain_mono c.push_kept-in-Equal.new.made.items ≡ of))
    (ap (λ (of : ℤ). map plain_mono c.pop.new.self.items ++ kept of (plain_atom c.in-Some.last.atom) []) sum ∙ sym whole) c.push_kept-in-Equal.ensures

pub returns-in_ok-push-in_default-compare_wide_atoms : goal.returns-in_ok-push-in_default-compare_wide_atoms
returns-in_ok-push-in_default-compare_wide_atoms c =
    let whole = last_apart c.args.made.now.items c.pop.new.self.items c.in-Some.last c.args.mono c.in-Some.ensures.items c.compare_wide_atoms.result (sym c.compare_wide_atoms.ensures) c.in_default-compare_wide_atoms.not-Equal c.requires.normal c.requires.last in
    let pushed = c.in_ok-push-in_default-compare_wide_atoms.ensures.items ∙ sym c.in-Some.ensures.items in
    subst (λ (of : List Mono). OnOk c.push_kept-in_default-compare_wide_atoms.result (map plain_mono c.push_kept-in_default-compare_wide_atoms.new.made.items ≡ of))
    (ap (λ of. map plain_mono of ++ kept c.args.mono.coef (plain_atom c.args.mono.atom) []) pushed ∙ sym whole) c.push_kept-in_default-compare_wide_atoms.ensures
