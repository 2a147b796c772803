use Rattle.std.proofs.Common.{◌∙◌, ap, subst, sym}
use Rattle.spf_term.specs.Environment.{Environment}
use Rattle.spf_store.specs.Accepted.{IsAccepted}
use Rattle.spf_store.specs.Shaped.{data_of}
use Rattle.spf_input.specs.Tested.{IsInputAnswer}
use Rattle.spf_input.proofs.Bundles.{err_only}
use Rattle.spf_input.proofs.Parts.{all_unbroken, bounds_refused, given_env, same_steps, sizes_refused, tables_refused}
use Rattle.spf_input.proofs.input.read_numbers.Goals as goal

pub returns-in_err-test_arrays : goal.returns-in_err-test_arrays
returns-in_err-test_arrays c =
    let tree = c.args.tree.now in
    let given = c.args.entries.now in
    err_only (IsInputAnswer tree given) _ c.from_residual-in_err-test_arrays.result c.from_residual-in_err-test_arrays.ensures.0 c.from_residual-in_err-test_arrays.ensures.1
    (λ e is. rw is (sizes_refused tree given c.in_ok-outer.outer c.as_slice-decls.result.now c.in_ok-outer.ensures.env c.as_slice-decls.ensures c.requires.named c.in_ok-outer.ensures.tests c.in_err-test_arrays.field-0.0 c.in_err-test_arrays.ensures))

pub returns-in_err-tables : goal.returns-in_err-tables
returns-in_err-tables c =
    let tree = c.args.tree.now in
    let given = c.args.entries.now in
    err_only (IsInputAnswer tree given) _ c.from_residual-in_err-tables.result c.from_residual-in_err-tables.ensures.0 c.from_residual-in_err-tables.ensures.1
    (λ e is. rw is (tables_refused tree given c.in_ok-outer.outer c.as_slice-decls.result.now c.in_ok-outer.ensures.env c.as_slice-decls.ensures c.requires.named c.in_ok-outer.ensures.tests c.in_ok-test_arrays.ensures c.in_err-tables.field-0.0 c.in_err-tables.ensures.tests))

pub returns-in_err-steps : goal.returns-in_err-steps
returns-in_err-steps c =
    let tree = c.args.tree.now in
    let given = c.args.entries.now in
    err_only (IsInputAnswer tree given) _ c.from_residual-in_err-steps.result c.from_residual-in_err-steps.ensures.0 c.from_residual-in_err-steps.ensures.1
    (λ e is. rw is (bounds_refused tree given c.in_ok-outer.outer c.as_slice-decls.result.now c.in_ok-outer.ensures.env c.as_slice-decls.ensures c.requires.named c.in_ok-outer.ensures.tests c.in_ok-test_arrays.ensures c.in_ok-tables.ensures.tests c.in_err-steps.field-0.0 c.in_err-steps.ensures.tests))

pub lay_out-requires-clause-accepted : goal.lay_out-requires-clause-accepted
lay_out-requires-clause-accepted c =
    let tree = c.args.tree.now in
    let given = c.args.entries.now in
    let outer = c.in_ok-outer.outer in
    let decls = c.as_slice-decls.result.now in
    let is = given_env tree given outer decls c.in_ok-outer.ensures.env c.as_slice-decls.ensures _ _ (ap (λ (env : Environment). env.params) c.outer.view_is) c.in_ok-tables.ensures.tables in
    let kept = all_unbroken tree given outer decls c.in_ok-outer.ensures.env c.as_slice-decls.ensures c.requires.named c.in_ok-outer.ensures.tests c.in_ok-test_arrays.ensures c.in_ok-tables.ensures.tests c.in_ok-steps.ensures.tests in
    subst (λ (env : Environment). IsAccepted env tree) (sym is) (c.kept_input_is_accepted.ensures.accepted tree given c.requires.parsed kept)

pub returns : goal.returns
returns c =
    let tree = c.args.tree.now in
    let given = c.args.entries.now in
    let outer = c.in_ok-outer.outer in
    let decls = c.as_slice-decls.result.now in
    let is = given_env tree given outer decls c.in_ok-outer.ensures.env c.as_slice-decls.ensures _ _ (ap (λ (env : Environment). env.params) c.outer.view_is) c.in_ok-tables.ensures.tables in
    record {
      unbroken = all_unbroken tree given outer decls c.in_ok-outer.ensures.env c.as_slice-decls.ensures c.requires.named c.in_ok-outer.ensures.tests c.in_ok-test_arrays.ensures c.in_ok-tables.ensures.tests c.in_ok-steps.ensures.tests;
      env = c.in_ok-lay_out.ensures.env ∙ is;
      cells = c.in_ok-lay_out.ensures.cells;
      arrays = c.in_ok-lay_out.ensures.arrays ∙ ap (λ (env : Environment). data_of env tree) is;
      steps = c.in_ok-lay_out.ensures.steps ∙ (c.in_ok-steps.ensures.steps ∙ same_steps tree given outer decls c.in_ok-outer.ensures.env c.as_slice-decls.ensures c.requires.parsed);
    }
