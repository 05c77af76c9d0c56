use Rattle.std.proofs.Common.{rules, of_calls, ℕ, List, arith}
use Rattle.std.specs.Bool.{nat_lt}
use Rattle.std.proofs.lemmas.Fn.{always_returns_same}
use Rattle.reg_records.specs.declared.record.Record.{Record}
use Rattle.reg_shared.proofs.Rising.{parted, to_point}
use Rattle.reg_shared.proofs.kept.until.Goals as goal

pub returns : goal.returns
returns c =
    let xs : List Record = c.args.by_offset.now in
    let k : ℕ = c.partition_point-end.result in
    let upto : ℕ = c.args.upto in
    let point = c.partition_point-end.ensures.partitioned (λ r. nat_lt r.offset upto)
    (always_returns_same _ _ _ (λ a r f k. search (rules, of_calls))) (parted upto xs c.requires) in
    to_point (λ r. nat_lt r.offset upto) xs k c.partition_point-end.ensures.bound
    (λ i d lt. point.0 i d (omega arith) lt) (λ i d l m. point.1 i d l m)
