use Rattle.std.proofs.Common.{◌≡◌, List, not, sym, ap, ◌∙◌}
use Rattle.std.specs.FinSet.{contains, from_list}
use Rattle.std.specs.List.{filter}
use Rattle.reg_records.specs.declared.record.Record.{Record}
use Rattle.reg_set.specs.LastRecords.{last_records}
use Rattle.reg_set.specs.RecordOrder.{record_cmp}
use Rattle.reg_set.specs.Records.{Records}
use Rattle.reg_shared.specs.Held.{Held}
use Rattle.reg_shared.specs.Kept.{kept_of}
use Rattle.reg_shared.proofs.Keeping.{adopted_is}
use Rattle.reg_shared.proofs.Members.{below_members}
use Rattle.reg_shared.proofs.shared.Shared.of_log.Goals as goal

pub invariant_of-result : goal.invariant_of-result
invariant_of-result c =
    let o = c.records_are_ordered.ensures in
    let b = c.args.base.now in
    let rs : List Record = c.in_ok-by_offset.by_offset.items in
    let lasts : Records = c.args.registry in
    let log : c.args.log.now ≡ from_list b.records.items = c.requires.log in
    let same : from_list {R = record_cmp} b.records.items ≡ from_list rs = sym log ∙ c.in_ok-by_offset.ensures.members in
    let are : lasts ≡ last_records (from_list rs) = c.requires.registry ∙ ap last_records c.in_ok-by_offset.ensures.members in
    let older = c.in_ok-older.ensures ∙ ap (filter (λ r. not (contains lasts r))) c.deref.ensures.value in
    let kept : kept_of lasts c.in_ok-older.older.items ≡ from_list rs = ap (kept_of lasts) older ∙ adopted_is o.all o.apart lasts rs are in
    record {
      of_kept = are ∙ ap last_records (sym kept);
      among = λ r h. ap (λ (s : Records). contains s r) (sym kept) ∙ h;
      all_kept = λ _ r h. ap (λ (s : Records). contains s r) kept ∙ h;
      in_order = c.in_ok-by_offset.ensures.in_order;
      below = below_members o.all o.apart b.next b.records.items rs b.ahead same;
    }

pub returns : goal.returns
returns c =
    let o = c.records_are_ordered.ensures in
    let b = c.args.base.now in
    let rs : List Record = c.in_ok-by_offset.by_offset.items in
    let lasts : Records = c.args.registry in
    let log : c.args.log.now ≡ from_list b.records.items = c.requires.log in
    let are : lasts ≡ last_records (from_list rs) = c.requires.registry ∙ ap last_records c.in_ok-by_offset.ensures.members in
    let older = c.in_ok-older.ensures ∙ ap (filter (λ r. not (contains lasts r))) c.deref.ensures.value in
    let kept : kept_of lasts c.in_ok-older.older.items ≡ from_list rs = ap (kept_of lasts) older ∙ adopted_is o.all o.apart lasts rs are in
    ap (λ (k : Records). let h : Held = record { kept = record { records = k; floor = b.floor }; next = b.next; compacted = b.floor } in h)
    (kept ∙ (sym c.in_ok-by_offset.ensures.members ∙ log))
