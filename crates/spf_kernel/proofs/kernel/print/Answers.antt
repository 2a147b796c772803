use Rattle.spf_kernel.proofs.Common.{List, ℕ, ◌≡◌, sym, ap, ◌∙◌, subst, joined, Tree, IsTextOf, words_of, IfOk-weaker}
use Rattle.spf_kernel.proofs.kernel.print.Goals as goal
use Rattle.spf_kernel.proofs.PrintedParses.{printed_parses}

pub returns-clause-parsed : goal.returns-clause-parsed
returns-clause-parsed c =
    let tree = c.args.kernel.now in
    let parsed = rw c.tree.ensures.tree at c.tree.ensures.parsed in
    IfOk-weaker c.tree_text.result (λ text. text.items ≡ joined (words_of c.tree.result.now)) (λ text. IsTextOf text.items tree)
    (λ text is. subst (λ (bytes : List ℕ). IsTextOf bytes tree) (sym (is ∙ ap (λ (tree : Tree). joined (words_of tree)) c.tree.ensures.tree)) (printed_parses tree parsed))
    c.tree_text.ensures
