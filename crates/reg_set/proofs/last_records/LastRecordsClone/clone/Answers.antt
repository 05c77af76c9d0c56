use Rattle.std.proofs.Common.{ap, ◌∙◌}
use Rattle.std.proofs.lemmas.Cmp.{tied_itself}
use Rattle.std.proofs.lemmas.Map.Lookups.{btree_map_from_get}
use Rattle.std.specs.FinSet.{from_list}
use Rattle.std.specs.Map.{values_of}
use Rattle.reg_set.specs.RecordOrder.{key_cmp}
use Rattle.reg_set.proofs.ByKey.{IsByKey-unchanged}
use Rattle.reg_set.proofs.Indexed.{key_copy, record_copy}
use Rattle.reg_set.proofs.Orders.{key_cmp-total, key_cmp-ties}
use Rattle.reg_set.proofs.last_records.LastRecordsClone.clone.Goals as goal

pub invariant_of-result : goal.invariant_of-result
invariant_of-result c =
    let entries = btree_map_from_get key_cmp-total c.in_ok-copy_map.field-0 c.self.inside.by_key c.in_ok-copy_map.ensures.in_order
    c.copy_map.ensures.was_in_order
    (c.in_ok-copy_map.ensures.same (λ a b same. ap (key_cmp a) (key_copy a b same) ∙ tied_itself key_cmp-total a) record_copy) key_cmp-ties in
    IsByKey-unchanged c.self.inside.by_key c.in_ok-copy_map.field-0 entries c.self.invariant

pub returns : goal.returns
returns c =
    let entries = btree_map_from_get key_cmp-total c.in_ok-copy_map.field-0 c.self.inside.by_key c.in_ok-copy_map.ensures.in_order
    c.copy_map.ensures.was_in_order
    (c.in_ok-copy_map.ensures.same (λ a b same. ap (key_cmp a) (key_copy a b same) ∙ tied_itself key_cmp-total a) record_copy) key_cmp-ties in
    record { cases = ap (λ es. from_list (values_of es)) entries ∙ c.self.view_is }
