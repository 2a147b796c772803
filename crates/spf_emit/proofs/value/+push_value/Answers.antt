use Rattle.std.proofs.Common.{ℕ, ◌≤◌, ◌+◌, List, ◌++◌, length, ap, sym, ◌∙◌, arith, rules}
use Rattle.std.proofs.lemmas.List.{append-nil, drop_all}
use Rattle.std.proofs.lemmas.List.Sums.{sum_by-drop_more}
use Rattle.std.specs.List.{sum_by}
use Rattle.spf_kernel.specs.declared.tree.Prod.{Prod}
use Rattle.spf_kernel.specs.declared.tree.Value.{the_lemmas}
use Rattle.spf_emit.specs.Places.{prod_places}
use Rattle.spf_emit.specs.Text.{by_number, parts_text, prod_part}
use Rattle.spf_emit.proofs.Values.{value_counted, value_written}
use Rattle.spf_emit.proofs.value.+push_value.Goals as goal

pub push_value-push_prod-requires : goal.push_value-push_prod-requires
push_value-push_prod-requires t c =
    let whole = value_counted c.args.value.now in
    let listed = ap (sum_by prod_places) c.as_slice-prod-items.ensures in
    let next = sum_by-drop_more prod_places c.as_slice-prod-items.result.now c.loop-n.n c.prod-item.result c.loop-n-test.true in
    let here = ap prod_places c.prod-item.is in
    let within : c.loop-n.at + prod_places c.prod-item.result ≤ length c.args.writing.now.terms.now = omega (arith, whole, listed, next, here, c.loop-n.invariant.places, c.requires) in
    search (rules, the_lemmas)

pub push_value-returns-clause-text : goal.push_value-returns-clause-text
push_value-returns-clause-text t c =
    let print = parts_text prod_places (prod_part c.args.writing.now.names.now (by_number c.args.writing.now.terms.now)) in
    let none = drop_all c.loop-n.n c.as_slice-prod-items.result.now c.loop-n-test.false in
    sym (append-nil c.loop-n.text.items) ∙ ap (λ (rest : List Prod). c.loop-n.text.items ++ print c.loop-n.n c.loop-n.at rest) (sym none) ∙ c.loop-n.invariant.text
    ∙ ap (λ (prods : List Prod). c.args.text.now.items ++ print 0 c.args.first prods) c.as_slice-prod-items.ensures
    ∙ ap (λ (text : List ℕ). c.args.text.now.items ++ text) (sym (value_written c.args.writing.now.names.now (by_number c.args.writing.now.terms.now) c.args.first c.args.value.now))

pub push_value-returns-clause-next : goal.push_value-returns-clause-next
push_value-returns-clause-next t c =
    let none = ap (sum_by prod_places) (drop_all c.loop-n.n c.as_slice-prod-items.result.now c.loop-n-test.false) in
    let listed = ap (sum_by prod_places) c.as_slice-prod-items.ensures in
    omega (arith, none, listed, value_counted c.args.value.now, c.loop-n.invariant.places)
