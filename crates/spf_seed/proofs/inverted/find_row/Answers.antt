use Rattle.std.proofs.Common.{leb, ltb, rules}
use Rattle.std.proofs.lemmas.List.Sorted.{IsPartitionPoint-from_clause, IsPartitionedBy-leb, IsPartitionedBy-ltb}
use Rattle.spf_seed.specs.declared.inverted.Entry.{Entry}
use Rattle.spf_seed.proofs.Rows.{row_ends, row_is}
use Rattle.spf_seed.proofs.inverted.find_row.Goals as goal

pub returns : goal.returns
returns c =
    let entries = c.args.entries.now in
    let e = c.args.element in
    let start = c.partition_point in
    let end = c.partition_point-2 in
    let element = λ (x : Entry). x.element in
    let from = IsPartitionPoint-from_clause (λ (x : Entry). ltb x.element e) _ _ start.ensures.partitioned (IsPartitionedBy-ltb element entries e c.requires) (λ a r q k. search rules) in
    let to = IsPartitionPoint-from_clause (λ (x : Entry). leb x.element e) _ _ end.ensures.partitioned (IsPartitionedBy-leb element entries e c.requires) (λ a r q k. search rules) in
    record {
      order = row_ends entries e start.result end.result from to start.ensures.bound end.ensures.bound;
      there = end.ensures.bound;
      row = row_is entries e start.result end.result from to start.ensures.bound end.ensures.bound;
    }
