use Rattle.std.proofs.Common.{List, sym, subst, ◌∙◌}
use Rattle.std.specs.BTreeMap.{is_at}
use Rattle.std.specs.List.Sorted.{IsStrictlySortedBy}
use Rattle.reg_records.specs.declared.key.Key.{Key}
use Rattle.reg_set.specs.RecordOrder.{key_cmp}
use Rattle.reg_set.proofs.Indexed.{key_copy, record_copy, listed}
use Rattle.reg_set.proofs.Listed.{AreByKey-same, copied-keys, copied-lists, set_of-same}
use Rattle.reg_set.proofs.record_set.RecordSetClone.clone.Goals as goal

pub invariant_of-result : goal.invariant_of-result
invariant_of-result c =
    let m = c.self.inside.by_key in
    let n = c.in_ok-clone.field-0 in
    let P : List Key → Type 0 = IsStrictlySortedBy key_cmp in
    AreByKey-same m n c.self.invariant (subst P
    (sym (copied-keys _ _ key_copy (λ v w h. listed _ record_copy v.items w.items h.0) m.entries n.entries c.in_ok-clone.ensures.cases))
    c.self.invariant.is_ordered)
    (λ key.
    copied-lists _ _ key_copy (λ v w h. listed _ record_copy v.items w.items h.0)
    (is_at (key_cmp key)) m.entries n.entries c.in_ok-clone.ensures.cases)

pub returns : goal.returns
returns c =
    let m = c.self.inside.by_key in
    let n = c.in_ok-clone.field-0 in
    let P : List Key → Type 0 = IsStrictlySortedBy key_cmp in
    record {
      cases =
          set_of-same m n c.self.invariant (
          subst P (
          sym (
          copied-keys _ _ key_copy (λ v w h. listed _ record_copy v.items w.items h.0)
          m.entries n.entries c.in_ok-clone.ensures.cases)) c.self.invariant.is_ordered)
          (λ key.
          copied-lists _ _ key_copy (λ v w h. listed _ record_copy v.items w.items h.0)
          (is_at (key_cmp key)) m.entries n.entries c.in_ok-clone.ensures.cases)
          ∙ c.self.view_is;
    }
