use Rattle.std.proofs.Common.{◌≡◌, ap, ◌∙◌}
use Rattle.std.proofs.lemmas.Map.Lookups.{btree_map_from_get}
use Rattle.std.specs.FinMap as finmap
use Rattle.reg_entries.proofs.Copies.{AreDoubled-copied, AreListed-copied, AreMeant-copied, IsIndexed-copied}
use Rattle.reg_entries.proofs.Copies.{ids-copied, tops-copied, meaning-tied, name-tied, place-tied, places-equal, schema-tied, string-tied}
use Rattle.reg_entries.proofs.Places.{place_cmp-total, place_cmp-ties}
use Rattle.reg_entries.proofs.entries.EntriesClone.clone.Goals as goal

pub invariant_of-result : goal.invariant_of-result
invariant_of-result c =
    let kept = c.self.inside in
    let entries = btree_map_from_get place_cmp-total c.in_ok-copy_map.field-0 kept.entries c.in_ok-copy_map.ensures.in_order
    c.copy_map.ensures.was_in_order (c.in_ok-copy_map.ensures.same place-tied (λ a b same. same)) place_cmp-ties in
    let names = c.in_ok-copy_set.ensures.same name-tied in
    let tops = tops-copied kept.tops c.in_ok-copy_map-2.field-0 c.copy_map-2.ensures.was_in_order
    c.in_ok-copy_map-2.ensures.in_order (c.in_ok-copy_map-2.ensures.same string-tied places-equal) in
    let schemas = c.in_ok-copy_set-2.ensures.same schema-tied in
    let meanings = c.in_ok-copy_set-3.ensures.same meaning-tied in
    let doubled = ids-copied kept.doubled.keys c.in_ok-clone.field-0.keys c.in_ok-clone.ensures.cases in (
      IsIndexed-copied kept.entries c.in_ok-copy_map.field-0 kept.names c.in_ok-copy_set.field-0 kept.tops c.in_ok-copy_map-2.field-0
          entries names tops c.self.invariant.0,
      AreListed-copied kept.entries c.in_ok-copy_map.field-0 entries kept.schemas c.in_ok-copy_set-2.field-0 schemas c.self.invariant.1,
      AreMeant-copied kept.schemas c.in_ok-copy_set-2.field-0 kept.meanings c.in_ok-copy_set-3.field-0 schemas meanings c.self.invariant.2,
      AreDoubled-copied kept.meanings c.in_ok-copy_set-3.field-0 kept.doubled c.in_ok-clone.field-0 meanings doubled c.self.invariant.3,
    )

pub returns : goal.returns
returns c =
    let kept = c.self.inside in
    let entries = btree_map_from_get place_cmp-total c.in_ok-copy_map.field-0 kept.entries c.in_ok-copy_map.ensures.in_order
    c.copy_map.ensures.was_in_order (c.in_ok-copy_map.ensures.same place-tied (λ a b same. same)) place_cmp-ties in
    record { cases = ap finmap.from_entries entries ∙ c.self.view_is }
