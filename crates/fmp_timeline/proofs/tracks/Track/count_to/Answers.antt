use Rattle.std.proofs.Common.{leb, arith, rules, sym}
use Rattle.std.proofs.lemmas.List.Sorted.{IsNonDecreasingBy-from_all_adjacent, IsPartitionPoint-from_clause}
use Rattle.std.proofs.lemmas.List.Sorted.{IsPartitionedBy-leb}
use Rattle.fmp_timeline.proofs.Points.{point_count}
use Rattle.fmp_timeline.proofs.tracks.Track.count_to.Goals as goal

pub returns : goal.returns
returns g c =
    λ ordered.
    let rising = IsNonDecreasingBy-from_all_adjacent (λ x. x.event) c.args.self.now.changes.items
    (λ k d h. omega (arith, ordered k d h)) in
    let parted = IsPartitionedBy-leb (λ x. x.event) c.args.self.now.changes.items c.args.event rising in
    let point =
    IsPartitionPoint-from_clause (λ x. leb x.event c.args.event) c.deref.result.now _
    c.partition_point.ensures.partitioned (rw c.deref.ensures.value parted) (λ a r q k. search rules) in
    rw (sym c.deref.ensures.value)
    (point_count (λ x. leb x.event c.args.event) c.deref.result.now c.partition_point.result
    c.partition_point.ensures.bound point.0 point.1)
