use Rattle.std.proofs.Common.{◌≡◌, ℕ, List, sym, ap, subst, ◌∙◌}
use Rattle.std.specs.Bool.{nat_le}
use Rattle.std.specs.FinSet.{contains, from_list}
use Rattle.std.specs.List.{filter}
use Rattle.reg_records.specs.declared.record.Record.{Record}
use Rattle.reg_set.specs.RecordOrder.{record_cmp}
use Rattle.reg_shared.specs.Kept.{IsRising}
use Rattle.reg_shared.proofs.Members.{at_its_offset}
use Rattle.reg_shared.proofs.Rising.{rising_filter}
use Rattle.reg_shared.proofs.sought.is_at_its_offset.Goals as goal

pub up_to-there-requires : goal.up_to-there-requires
up_to-there-requires c =
    let xs : List Record = c.args.by_offset.now in
    let offset : ℕ = c.args.given.now.offset in
    subst IsRising (sym c.since-above.ensures) (rising_filter (λ r. nat_le offset r.offset) xs c.requires)

pub returns : goal.returns
returns c =
    let o = c.records_are_ordered.ensures in
    let xs : List Record = c.args.by_offset.now in
    let q : Record = c.args.given.now in
    let there : c.up_to-there.result.now ≡ filter (λ r. nat_le r.offset q.offset) (filter (λ r. nat_le q.offset r.offset) xs) =
    c.up_to-there.ensures ∙ ap (filter (λ r. nat_le r.offset q.offset)) c.since-above.ensures in
    c.is_listed.ensures ∙ ap (λ (l : List Record). contains (from_list {R = record_cmp} l) q) there ∙ at_its_offset o.all o.apart xs q
