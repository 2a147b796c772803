use Rattle.std.proofs.Common.{◌≡◌, ℕ, ◌*◌, ◌<◌, ◌∷◌, [], List, length, slice_get, Some, refl, subst, sym, ◌∙◌, arith}
use Rattle.std.proofs.lemmas.Option.{slice_get_within}
use Rattle.spf_perm.specs.Perm.{IsPerm}
use Rattle.spf_space.proofs.Standing.{units_length}
use Rattle.spf_space.specs.Places.{order_of}
use Rattle.spf_order_tests.proofs.pack.places_in.Goals as goal

pub returns : goal.returns
returns c =
    let shape = c.args.shape.now in
    let orders : c.push-3.new.self ≡ c.in_ok-perm.field-0 ∷ [] = rw c.new-2.ensures at c.in_ok-push-3.ensures.ok in
    let tiles : length c.push-2.new.self ≡ 2 = rw (c.in_ok-push-2.ensures.ok, c.in_ok-push.ensures.ok, c.new.ensures) refl in
    rw orders (record {
      each_unit = tiles ∙ sym (units_length shape.steps shape.loops ∙ (λ i. c.requires.units.0 i * c.requires.units.1 i));
      each_loop = sym c.requires.loops.0;
      extents = λ n each there.
          let first : n ≡ 0 = omega (arith, slice_get_within shape.loops n each there, c.requires.loops.0) in
          let two = c.requires.loops.1 each (rw first at there) in
          rw first (c.in_ok-perm.ensures.0 ∙ sym two);
      perms = λ n lt. let first : n ≡ 0 = omega arith in rw first c.in_ok-perm.ensures.1;
    })
