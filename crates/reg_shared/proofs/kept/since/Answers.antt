use Rattle.std.proofs.Common.{rules, of_calls, ℕ, ◌-◌, List, length, drop, ◌∙◌, arith, length-drop}
use Rattle.std.specs.Bool.{nat_lt, nat_le}
use Rattle.std.proofs.lemmas.Fn.{always_returns_same}
use Rattle.std.proofs.lemmas.List.{take_all}
use Rattle.reg_records.specs.declared.record.Record.{Record}
use Rattle.reg_shared.proofs.Rising.{at_or_above, from_point, parted}
use Rattle.reg_shared.proofs.kept.since.Goals as goal

pub returns : goal.returns
returns c =
    let xs : List Record = c.args.by_offset.now in
    let k : ℕ = c.partition_point-start.result in
    let from : ℕ = c.args.from in
    let point = c.partition_point-start.ensures.partitioned (λ r. nat_lt r.offset from)
    (always_returns_same _ _ _ (λ a r f k. search (rules, of_calls))) (parted from xs c.requires) in
    take_all (length xs - k) (drop k xs) (omega (arith, length-drop k xs))
    ∙ from_point (λ r. nat_lt r.offset from) (λ r. nat_le from r.offset) (λ r. at_or_above from r.offset) xs k
    c.partition_point-start.ensures.bound (λ i d lt. point.0 i d (omega arith) lt) (λ i d l m. point.1 i d l m)
