-- What the rules ask of the facts before one: how many have which role, and which names they declare.
use Rattle.std.specs.Prelude.{ℕ, ◌<◌, List, [], fold}
use Rattle.std.specs.Str.{bytes_eq}
use Rattle.indexmap.specs.IndexSet.{insert_key}
use Rattle.spf_kernel.specs.declared.check.before.Before.{Before}
use Rattle.spf_kernel.specs.declared.check.counts.Counts.{Counts}
use Rattle.spf_kernel.specs.Facts.{Fact}
use Rattle.spf_kernel.specs.Rules.{is_param, is_table, is_data, is_loop, is_target, is_site, is_factor, is_guard, is_condition, names_that, count_that, since}

-- how many facts have the roles that the limits are about
unfoldable pub counts_of : List Fact → Counts
counts_of facts = record {
  params = count_that is_param facts;
  tables = count_that is_table facts;
  data_arrays = count_that is_data facts;
  loops = count_that is_loop facts;
  targets = count_that is_target (since is_loop facts);
  factors = count_that is_factor (since is_target facts);
  conditions = count_that is_condition (since is_guard facts);
  sites = count_that is_site facts;
}

-- each count is below the limit
pub record IsBelow (limit : ℕ) (counts : Counts) : Type 0 where
  pub params : counts.params < limit
  pub tables : counts.tables < limit
  pub data_arrays : counts.data_arrays < limit
  pub loops : counts.loops < limit
  pub targets : counts.targets < limit
  pub factors : counts.factors < limit
  pub conditions : counts.conditions < limit
  pub sites : counts.sites < limit

-- each name once, where it first comes
unfoldable pub once : List (List ℕ) → List (List ℕ)
once names = fold (insert_key bytes_eq) [] names

unfoldable pub before_of : List Fact → Before
before_of facts = record {
  counts = counts_of facts;
  params = once (names_that is_param facts);
  tables = once (names_that is_table facts);
  data_arrays = once (names_that is_data facts);
  loops = once (names_that is_loop facts);
}
