use Rattle.std.proofs.Common.{◌≡◌, ℕ, ◌*◌, ◌/◌, ◌<◌, ◌≤◌, length, get_or, inl, inr, ◌∙◌, arith}
use Rattle.std.specs.Int.{div_ceil}
use Rattle.std.proofs.Math.Nat.{div-lt_iff_lt-mul, mul_comm}
use Rattle.std.proofs.lemmas.Bool.{cases_eq, cases_lt}
use Rattle.std.proofs.lemmas.Grind.{div_ceil_times}
use Rattle.std.proofs.lemmas.List.{get_or-set_other, get_or-set_same, length-set}
use Rattle.spf_seed.proofs.walk.parts_along.Goals as goal

in_parts : (place count parts : ℕ) → 1 ≤ parts → place < count → place / div_ceil count parts < parts
in_parts place count parts some lt =
    let bound = (div_ceil_times count parts some).0 in
    let more : place < parts * div_ceil count parts = rw (mul_comm parts (div_ceil count parts)) (omega (arith, bound)) in
    elim (cases_lt 0 (div_ceil count parts)) [
      | inl positive ↦ (div-lt_iff_lt-mul {k = div_ceil count parts} {x = place} {y = parts} positive).1 more
      | inr least ↦ let nothing : div_ceil count parts ≡ 0 = omega arith in absurd (omega (arith, rw nothing at bound))
    ]

pub loop-place-preserved : goal.loop-place-preserved
loop-place-preserved c =
    let list = c.loop-place.list.items in
    let order = c.args.order.now in
    let place = c.loop-place.place in
    let position = get_or order place 0 in
    let part = place / c.per_part-size.result in
    let within : position < length list = omega (arith, c.requires.below place c.loop-place-test.true, c.loop-place.invariant.long) in
    record {
      long = length-set list position part ∙ c.loop-place.invariant.long;
      each = λ r lt. elim (cases_lt r place) [
        | inl less ↦ get_or-set_other list position (get_or order r 0) part 0 (c.requires.distinct r place less c.loop-place-test.true) ∙ c.loop-place.invariant.each r less
        | inr more ↦ let same : r ≡ place = omega arith in rw same (get_or-set_same list position part 0 within)
      ];
      below = λ k d lt. let inside : k < length list = rw (length-set list position part) at lt in elim (cases_eq k position) [
        | inl same ↦ rw (same, get_or-set_same list position part d within, c.per_part-size.ensures) (in_parts place (length order) c.args.parts c.requires.some c.loop-place-test.true)
        | inr other ↦ rw (get_or-set_other list position k part d other) (c.loop-place.invariant.below k d inside)
      ];
    }
