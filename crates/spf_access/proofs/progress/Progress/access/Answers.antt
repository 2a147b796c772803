use Rattle.std.proofs.Common.{◌≡◌, ℕ, ◌+◌, ◌*◌, ◌≤◌, ℤ, pos, List, None, Some, ap, ◌∙◌, sym, arith, w64, rules, subst, length}
use Rattle.std.proofs.lemmas.Int.{to_z-of_z}
use Rattle.std.proofs.lemmas.Result.{err_from_is_err_and}
use Rattle.std.specs.Prelude.{nat_lt, slice_index_or}
use Rattle.spf_term.proofs.WalkParts.{stopped_walk}
use Rattle.std.proofs.lemmas.Bool.{ltb-false}
use Rattle.std.specs.List.{sum_by}
use Rattle.spf_touch.proofs.Noted.{length_noted}
use Rattle.spf_touch.specs.Lists.{Listed}
use Rattle.spf_touch.specs.Ops.{noted}
use Rattle.spf_space.specs.declared.shape.ArrayShape.{ArrayShape}
use Rattle.spf_store.specs.Effect.{element_at}
use Rattle.spf_store.specs.FirstFault.{data_length, unless_between, visit_limit}
use Rattle.spf_access.specs.Progress.{Progress, range_stop, starts_in}
use Rattle.spf_access.specs.declared.stop.Stop.TheVariants.{Visits}
use Rattle.spf_access.proofs.Events.{access_walks, memory_refused, place_refused, visit_refused}
use Rattle.spf_access.proofs.progress.Progress.access.Goals as goal

pub returns-in_err-visits : goal.returns-in_err-visits
returns-in_err-visits c env =
    let many = sym (ap (λ (p : Progress). nat_lt visit_limit ((p.visits + 1) * p.steps)) c.self.view_is) ∙ c.in_err-visits.ensures.0 in
    let is = c.in_err-visits.ensures.1 ∙ ap (λ (p : Progress). Visits ((p.visits + 1) * p.steps)) c.self.view_is in
    stopped_walk c.args.self.now (err_from_is_err_and c.from_residual.result c.from_residual.ensures.1)
    (visit_refused env c.args.self.now c.args.site c.args.class c.args.array c.args.place c.in_err-visits.field-0.0 many is)

pub returns-in_err-element : goal.returns-in_err-element
returns-in_err-element c env =
    let few = sym (ap (λ (p : Progress). nat_lt visit_limit ((p.visits + 1) * p.steps)) c.self.view_is) ∙ c.in_ok-visits.ensures.0 in
    let arrays = c.as_slice.ensures ∙ ap (λ (p : Progress). p.arrays) c.self.view_is in
    let place = to_z-of_z w64 c.args.place (search rules) in
    let stop = c.in_err-element.field-0.0 in
    let at = subst (λ (arrays : List ArrayShape). range_stop (unless_between (pos 0) (pos (data_length env arrays c.args.array)) c.args.site c.args.place) ≡ Some stop) arrays
    (subst (λ (z : ℤ). range_stop (unless_between (pos 0) (pos (data_length env c.as_slice.result.now c.args.array)) c.args.site z) ≡ Some stop) place c.in_err-element.ensures.compared) in
    let exit = c.from_residual-in_err-element in
    stopped_walk c.args.self.now (err_from_is_err_and exit.result exit.ensures.1) (place_refused env c.args.self.now c.args.site c.args.class c.args.array c.args.place stop few at)

pub returns-in_err-note : goal.returns-in_err-note
returns-in_err-note c env =
    let exit = c.from_residual-in_err-note in
    stopped_walk _ (err_from_is_err_and exit.result exit.ensures.1) (memory_refused env c.args.self.now c.args.site c.args.class c.args.array c.args.place)

pub invariant_of-self-2 : goal.invariant_of-self-2
invariant_of-self-2 c =
    let now = c.in_ok-note.ensures.noted in
    let count = c.in_ok-visits.ensures.1 in
    let few : c.in_ok-visits.visits * c.self.inside.shape.now.steps ≤ visit_limit = subst (λ (n : ℕ). n * c.self.inside.shape.now.steps ≤ visit_limit) (sym count) (ltb-false visit_limit ((c.self.inside.visits + 1) * c.self.inside.shape.now.steps) c.in_ok-visits.ensures.0) in
    record {
      some = c.self.invariant.some;
      own = ap (λ (lists : Listed). lists.cells) now ∙ c.self.invariant.own;
      few = few;
      visited = omega (
        arith,
        ap (λ (lists : Listed). sum_by length lists.closed) now,
        ap (λ (lists : Listed). length lists.current) now,
        c.self.invariant.visited,
        count,
        length_noted c.self.inside.lists.current c.in_ok-element.element c.args.class,
      );
    }

pub returns : goal.returns
returns c env =
    let few = sym (ap (λ (p : Progress). nat_lt visit_limit ((p.visits + 1) * p.steps)) c.self.view_is) ∙ c.in_ok-visits.ensures.0 in
    let arrays = c.as_slice.ensures ∙ ap (λ (p : Progress). p.arrays) c.self.view_is in
    let place = to_z-of_z w64 c.args.place (search rules) in
    let at = subst (λ (arrays : List ArrayShape). unless_between (pos 0) (pos (data_length env arrays c.args.array)) c.args.site c.args.place ≡ None) arrays
    (subst (λ (z : ℤ). unless_between (pos 0) (pos (data_length env c.as_slice.result.now c.args.array)) c.args.site z ≡ None) place c.in_ok-element.ensures.compared) in
    let is = c.in_ok-element.ensures.is ∙ (λ i. element_at (slice_index_or (starts_in (arrays i)) c.args.array 0) (place i)) in
    let now = c.in_ok-note.ensures.noted in
    let count = c.in_ok-visits.ensures.1 in
    let goes = (λ i. record {
      steps = c.self.inside.shape.now.steps;
      arrays = c.self.inside.shape.now.arrays;
      closed = (now i).closed;
      current = (now i).current;
      visits = count i;
    }) ∙ ap (λ (p : Progress). record p { current = noted p.current c.in_ok-element.element c.args.class; visits = p.visits + 1 }) c.self.view_is in
    access_walks env c.args.self.now c.args.site c.args.class c.args.array c.args.place _ c.in_ok-element.element few at is goes
