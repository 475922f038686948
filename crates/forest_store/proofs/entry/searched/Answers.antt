-- The test of ids is partitioned, since the ids rise.
use Rattle.forest_store.proofs.Common.{nat_lt, Entry, rules, IsPartitionedBy-ltb, IsPartitionPoint-from_clause}
use Rattle.forest_store.proofs.rows.Entries.{rises, prefix_len-partition}
use Rattle.forest_store.proofs.entry.searched.Goals as goal

pub returns : goal.returns
returns c =
    let p = λ (e : Entry). nat_lt e.id c.args.id in
    prefix_len-partition p _ _ c.partition_point-at.ensures.bound
    (IsPartitionPoint-from_clause p _ _ c.partition_point-at.ensures.partitioned
    (IsPartitionedBy-ltb (λ (e : Entry). e.id) _ c.args.id (rises _ c.requires)) (λ a r q k. search rules))
