use Rattle.spf_kernel.proofs.Common.{◌≡◌, ◌++◌, codes, take, Prod, fact_words, prod_words}
use Rattle.spf_kernel.proofs.printing.value.+print_value.Given as goal
use Rattle.spf_kernel.specs.printing.Printed.{separated, signed}

abbrev pub invariant-push_prod-loop-n : goal.invariant-push_prod-loop-n
invariant-push_prod-loop-n l = l.words ≡ l.fn.words ++ separated (codes "*") (fact_words l.shown.names.now l.shown.vars.now) (take l.n l.fact-items)

abbrev pub invariant-push_value-loop-n : goal.invariant-push_value-loop-n
invariant-push_value-loop-n l = l.words ≡ l.fn.words ++ signed (λ (prod : Prod). prod.minus) (prod_words l.shown.names.now l.shown.vars.now) (take l.n l.prod-items)
