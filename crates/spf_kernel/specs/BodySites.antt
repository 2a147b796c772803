-- The sites of a loop's body: each name with brackets, and each bound of a `for`. They are numbered from 1 in the order of
-- their first tokens, so that a part's sites have the numbers from its first one on.
use Rattle.std.specs.Prelude.{ℕ, ◌+◌}
use Rattle.spf_term.specs.Value.{applications}
use Rattle.spf_kernel.specs.Sites as sites
use Rattle.spf_kernel.specs.Types.{Value, Row_of-Prod, Row_of-Factor, Prod, Factor, Assign, Cond, Guard, Part, Item}

-- a bound is a site, and comes before the names in it
abbrev pub of_body : sites.Weights
of_body = record { nested = applications; table = λ sub. 1 + applications sub; cell = λ sub. 1 + applications sub; bound = λ term. 1 + applications term }

abbrev pub value_sites : Value → ℕ
value_sites = sites.value_sites of_body

abbrev pub prods_sites : {n : _} → Row_of-Prod n → ℕ
prods_sites row = sites.prods_sites of_body row

abbrev pub facts_sites : {n : _} → Row_of-Factor n → ℕ
facts_sites row = sites.facts_sites of_body row

abbrev pub fact_sites : Factor → ℕ
fact_sites = sites.fact_sites of_body

abbrev pub prod_sites : Prod → ℕ
prod_sites = sites.prod_sites of_body

abbrev pub assign_sites : Assign → ℕ
assign_sites = sites.assign_sites of_body

abbrev pub cond_sites : Cond → ℕ
cond_sites = sites.cond_sites of_body

abbrev pub guard_sites : Guard → ℕ
guard_sites = sites.guard_sites of_body

abbrev pub part_sites : Part → ℕ
part_sites = sites.part_sites of_body

abbrev pub item_sites : Item → ℕ
item_sites = sites.item_sites of_body
