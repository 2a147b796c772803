use Rattle.std.proofs.Common.{◌+◌, ◌<◌, ◌≤◌, length, inl, inr, arith}
use Rattle.std.proofs.lemmas.Bool.{cases_lt}
use Rattle.spf_layers.specs.Groups.{element_groups}
use Rattle.spf_touch.specs.Repeated.{touches_at}
use Rattle.spf_legal.specs.Falling.{FallsApart, number_in}
use Rattle.spf_legal.proofs.Firsts.{first_more}
use Rattle.spf_legal.proofs.Reversed.{first_of_reversed}
use Rattle.spf_legal.proofs.first.first_reversed.Goals as goal

pub loop-element-preserved : goal.loop-element-preserved
loop-element-preserved c =
    rw c.earlier-first.ensures
    (first_more (λ e. e < c.loop-element.element) (λ e. e < c.loop-element.element + 1) (λ e. FallsApart (number_in c.args.shape.now c.args.places.now) (element_groups c.args.layers.now e)) c.loop-element.element
    (λ e lt. elim (cases_lt e c.loop-element.element) [ inl less ↦ inl less | inr more ↦ inr (omega arith) ]) (λ e lt. omega arith) (omega arith)
    c.loop-element.first c.falls_at.result c.loop-element.invariant c.falls_at.ensures)

pub returns : goal.returns
returns c =
    let all : length c.args.layers.now ≤ c.loop-element.element = omega arith in
    first_of_reversed c.args.shape.now.steps c.args.shape.now.loops c.args.places.now.tiles c.args.places.now.orders c.requires.places (touches_at c.args.touches.now) c.args.layers.now c.requires.fits
    c.loop-element.element c.loop-element.first all c.loop-element.invariant
