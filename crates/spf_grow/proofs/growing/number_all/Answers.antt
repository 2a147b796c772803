use Rattle.std.proofs.Common.{length, refl, arith}
use Rattle.spf_touch.specs.Repeated.{touches_at}
use Rattle.spf_grow.proofs.Grown.{grown, seed_kept, seed_noted, within}
use Rattle.spf_grow.proofs.Passing.{number_at}
use Rattle.spf_grow.proofs.growing.number_all.Goals as goal

pub note_depths-requires-clause-below : goal.note_depths-requires-clause-below
note_depths-requires-clause-below c u low high =
    let touches = touches_at c.args.touches.now in
    let count = length c.args.numbers.now in
    let first = c.args.first in
    let seed = c.args.seed.now in
    let numbers = number_at c.give_least.new.numbers in
    let old = number_at c.args.numbers.now in
    let has = seed_kept touches count first seed old numbers c.give_least.ensures.kept c.requires.seeded in
    let have = c.give_least.ensures.least first (omega arith) (seed_noted touches count first seed old c.first_fall.new.bounds c.requires.seeded (c.in-None.ensures.noted refl)) in
    within touches count first seed numbers has have c.args.last (λ j inside. c.requires.below j 0 inside) u low (omega arith)

pub returns-in-None-clause-grown : goal.returns-in-None-clause-grown
returns-in-None-clause-grown c is =
    let touches = touches_at c.args.touches.now in
    let count = length c.args.numbers.now in
    let first = c.args.first in
    let seed = c.args.seed.now in
    let numbers = number_at c.give_least.new.numbers in
    let old = number_at c.args.numbers.now in
    let has = seed_kept touches count first seed old numbers c.give_least.ensures.kept c.requires.seeded in
    let have = c.give_least.ensures.least first (omega arith) (seed_noted touches count first seed old c.first_fall.new.bounds c.requires.seeded (c.in-None.ensures.noted refl)) in
    grown touches count first seed numbers has have c.args.last (λ j inside. c.requires.below j 0 inside) c.in-None.ensures.first (number_at c.give_greatest.new.numbers) c.requires.order
    (λ u low high. c.give_greatest.ensures.kept u low) c.give_greatest.ensures.below
    (rw c.give_least.auto.numbers at c.give_greatest.ensures.greatest)
