use Rattle.std.proofs.Common.{rules, of_calls, ℕ, List, arith}
use Rattle.std.specs.Bool.{nat_le}
use Rattle.std.proofs.lemmas.Fn.{always_returns_same}
use Rattle.reg_records.specs.declared.record.Record.{Record}
use Rattle.reg_shared.proofs.Rising.{parted_up_to, to_point}
use Rattle.reg_shared.proofs.sought.up_to.Goals as goal

pub returns : goal.returns
returns c =
    let xs : List Record = c.args.by_offset.now in
    let k : ℕ = c.partition_point-end.result in
    let offset : ℕ = c.args.offset in
    let point = c.partition_point-end.ensures.partitioned (λ r. nat_le r.offset offset)
    (always_returns_same _ _ _ (λ a r f k. search (rules, of_calls))) (parted_up_to offset xs c.requires) in
    to_point (λ r. nat_le r.offset offset) xs k c.partition_point-end.ensures.bound
    (λ i d lt. point.0 i d (omega arith) lt) (λ i d l m. point.1 i d l m)
