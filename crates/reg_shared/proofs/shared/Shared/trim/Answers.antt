use Rattle.std.proofs.Common.{rules, ◌≡◌, ◌<◌, ◌||◌, List, [], sym, ap, subst, ◌∙◌}
use Rattle.std.specs.FinSet.{contains, from_list}
use Rattle.std.specs.List.{AllByRecursion, filter}
use Rattle.reg_records.specs.declared.record.Record.{Record}
use Rattle.reg_set.specs.RecordOrder.{record_cmp}
use Rattle.reg_set.specs.Records.{Records, is_in_order}
use Rattle.reg_shared.proofs.Keeping.{among_lasts, is_kept, second_true}
use Rattle.reg_shared.proofs.Members.{filtered}
use Rattle.reg_shared.proofs.Rising.{all_filter, in_order_filter}
use Rattle.reg_shared.proofs.shared.Shared.trim.Goals as goal

pub invariant_of-self : goal.invariant_of-self
invariant_of-self c =
    let o = c.records_are_ordered.ensures in
    let lasts : Records = c.self.inside.registry in
    let older : List Record = c.self.inside.older.items in
    let xs : List Record = c.self.inside.by_offset.items in
    let none : older ≡ [] = search rules in
    let is : c.keep_lasts.new.by_offset.items ≡ filter (contains lasts) xs = c.keep_lasts.ensures in record {
      of_kept = c.self.invariant.of_kept;
      among = λ r h.
          ap (λ l. contains (from_list {R = record_cmp} l) r) is ∙ among_lasts o.all o.apart lasts older xs none c.self.invariant.among r h;
      all_kept = λ _ r h.
          is_kept o.all o.apart lasts older r ∙ ap (λ b. b || contains (from_list {R = record_cmp} older) r)
          (second_true (contains (from_list {R = record_cmp} xs) r) (contains lasts r)
          (sym (filtered o.all o.apart (contains lasts) xs r) ∙ ap (λ l. contains (from_list {R = record_cmp} l) r) (sym is) ∙ h));
      in_order = ap is_in_order is ∙ in_order_filter (contains lasts) xs c.self.invariant.in_order;
      below = subst (AllByRecursion (λ r. r.offset < c.self.inside.next)) (sym is)
          (all_filter (λ r. r.offset < c.self.inside.next) (contains lasts) xs c.self.invariant.below);
    }
