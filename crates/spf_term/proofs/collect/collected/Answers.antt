use Rattle.std.proofs.Common.{◌≡◌, [], map, ap, sym, ◌∙◌, subst, rules, arith}
use Rattle.std.proofs.lemmas.Grind.{common_steps}
use Rattle.std.proofs.lemmas.Fn.{always_returns_same}
use Rattle.spf_term.specs.Wide.{load, plain_mono}
use Rattle.spf_term.proofs.Gathering.{Gathering, begun, falling, gathered, gone_on, key_less, last_fits, last_not_less}
use Rattle.spf_term.proofs.collect.collected.Goals as goal

pub loop-mono-init : goal.loop-mono-init
loop-mono-init c =
    let sorted = c.in_ok-sort_by.ensures.sorted key_less falling (always_returns_same _ _ _ (λ a r f h. search rules)) in
    subst (Gathering c.args.monos.items c.sort_by.new.self.items) (sym c.new-made.ensures.items) (begun c.args.monos.items c.sort_by.new.self.items c.sort_by.ensures.permutation sorted c.requires.normal)

pub add_last-requires-clause-last : goal.add_last-requires-clause-last
add_last-requires-clause-last c =
    last_not_less c.args.monos.items c.pop.new.self.items c.in-Some.mono c.loop-mono.made.items (subst (λ of. Gathering c.args.monos.items of c.loop-mono.made.items) c.in-Some.ensures.items c.loop-mono.invariant)

pub add_last-requires-clause-fits : goal.add_last-requires-clause-fits
add_last-requires-clause-fits c =
    last_fits c.args.monos.items c.pop.new.self.items c.in-Some.mono c.loop-mono.made.items (subst (λ of. Gathering c.args.monos.items of c.loop-mono.made.items) c.in-Some.ensures.items c.loop-mono.invariant) c.requires.fits

pub loop-mono-preserved : goal.loop-mono-preserved
loop-mono-preserved c =
    gone_on c.args.monos.items c.pop.new.self.items c.in-Some.mono c.loop-mono.made.items (subst (λ of. Gathering c.args.monos.items of c.loop-mono.made.items) c.in-Some.ensures.items c.loop-mono.invariant) c.add_last.new.made.items c.in_ok-add_last.ensures

pub returns-clause-form : goal.returns-clause-form
returns-clause-form c =
    let none : c.loop-mono.monos.items ≡ [] = grind (arith, common_steps) in
    ap (map plain_mono) c.from_vec.ensures
    ∙ gathered c.args.monos.items c.loop-mono.made.items (subst (λ of. Gathering c.args.monos.items of c.loop-mono.made.items) none c.loop-mono.invariant) c.requires.normal

pub returns-clause-fits : goal.returns-clause-fits
returns-clause-fits c atom =
    let none : c.loop-mono.monos.items ≡ [] = grind (arith, common_steps) in
    let done = subst (λ of. Gathering c.args.monos.items of c.loop-mono.made.items) none c.loop-mono.invariant in
    let all = done.loads atom in
    let fits = c.requires.fits atom in
    let same = ap (λ of. load atom (map plain_mono of)) c.from_vec.ensures in
    omega (arith, all, fits, same)
