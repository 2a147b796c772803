use Rattle.std.proofs.Common.{◌≡◌, ◌+◌, ◌-◌, ◌<◌, ◌≤◌, length, inl, inr, arith}
use Rattle.std.proofs.lemmas.Bool.{cases_lt}
use Rattle.spf_layers.specs.Groups.{element_groups, group_at}
use Rattle.spf_layers.specs.Legality.{IsFirst}
use Rattle.spf_legal.specs.Falling.{FallsBetween, NeighboursFall, number_in}
use Rattle.spf_space.specs.InOrder.{units_in}
use Rattle.spf_legal.proofs.Firsts.{first_like, first_more}
use Rattle.spf_legal.proofs.Neighbours.{first_of_neighbours}
use Rattle.spf_legal.proofs.first.falls_at.Goals as goal

pub loop-n-preserved : goal.loop-n-preserved
loop-n-preserved c =
    let number = number_in c.args.shape.now c.args.places.now in
    let groups = element_groups c.args.layers.now c.args.element in
    let low : 1 ≤ c.loop-n.n = c.loop-n.auto.n in
    let next : c.loop-n.n - 1 + 1 ≡ c.loop-n.n = omega arith in
    let pair : IsFirst (FallsBetween number (group_at groups (c.loop-n.n - 1)).units (group_at groups (c.loop-n.n - 1 + 1)).units) c.falls_between-pair.result =
    rw next (rw (c.group.ensures, c.group-in-loop-n.ensures) at c.falls_between-pair.ensures) in
    let end : c.groups-n-end.result ≡ length groups = c.groups-n-end.ensures in
    record {
      far = omega arith;
      pair = rw c.earlier-first.ensures
          (first_more (λ n. n + 1 < c.loop-n.n) (λ n. n + 1 < c.loop-n.n + 1) (λ n. FallsBetween number (group_at groups n).units (group_at groups (n + 1)).units) (c.loop-n.n - 1)
          (λ n lt. elim (cases_lt (n + 1) c.loop-n.n) [ inl less ↦ inl less | inr more ↦ inr (omega arith) ]) (λ n lt. omega arith) (omega arith)
          c.loop-n.first c.falls_between-pair.result c.loop-n.invariant.pair pair);
    }

pub returns : goal.returns
returns c =
    let number = number_in c.args.shape.now c.args.places.now in
    let groups = element_groups c.args.layers.now c.args.element in
    let past = c.loop-n-test.false in
    let end : c.groups-n-end.result ≡ length groups = c.groups-n-end.ensures in
    let far = c.loop-n.invariant.far in
    first_of_neighbours number (units_in c.args.shape.now) groups c.requires.ordered c.loop-n.first
    (first_like (NeighboursFall number groups c.loop-n.n) (NeighboursFall number groups (length groups))
    (λ p q x. (x.0, omega (arith, x.1, c.loop-n.auto.n-end), x.2)) (λ p q x. (x.0, omega (arith, x.1), x.2)) c.loop-n.first c.loop-n.invariant.pair)
