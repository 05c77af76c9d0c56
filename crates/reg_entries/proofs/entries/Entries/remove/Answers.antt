use Rattle.std.proofs.Common.{◌≡◌, inl, Some, None, sym, ap, subst, ◌∙◌}
use Rattle.std.specs.BTreeMap.{get_by_text}
use Rattle.std.specs.FinMap as finmap
use Rattle.std.specs.Prelude.{IsSome, is_some}
use Rattle.reg_entries.specs.EntryOrder.{Place}
use Rattle.reg_entries.specs.Index.{entry_at, HasAt}
use Rattle.reg_entries.specs.Meanings.{meaning_of, RefreshesMeaning}
use Rattle.reg_entries.specs.Schemas.{Schema, schema_of}
use Rattle.reg_entries.proofs.Indexed.{named-gone, placed-gone}
use Rattle.reg_entries.proofs.Listed.{listed_gone, own_place}
use Rattle.reg_entries.proofs.Meant.{meant_gone}
use Rattle.reg_entries.proofs.Topmost.{has_top, tops_refreshed}
use Rattle.reg_entries.proofs.Views.{view-gone}
use Rattle.reg_entries.proofs.entries.Entries.remove.Goals as goal

pub returns-in_default : goal.returns-in_default
returns-in_default c =
    view-gone c.self.inside.entries c.remove.new.self c.args.place.now c.remove.ensures.updates.0
    ∙ ap (λ m. finmap.remove m c.args.place.now) c.self.view_is

pub returns : goal.returns
returns c =
    view-gone c.self.inside.entries c.remove.new.self c.args.place.now c.remove.ensures.updates.0
    ∙ ap (λ m. finmap.remove m c.args.place.now) c.self.view_is

pub refresh_top-requires : goal.refresh_top-requires
refresh_top-requires c =
    placed-gone c.self.inside.entries c.remove.new.self c.self.inside.names c.self.invariant.0.placed
    c.self.invariant.0.named c.args.place.now c.remove.ensures.updates.0

pub invariant_of-self-2 : goal.invariant_of-self-2
invariant_of-self-2 c =
    let a = c.self.inside in
    let m = a.entries in
    let n = c.remove.new.self in
    let p = c.args.place.now in
    let i = c.self.invariant in
    let e = c.in-Some.entry in
    let at : HasAt m n p None = c.remove.ensures.updates.0 in
    let was : entry_at m p ≡ Some e = sym c.remove.ensures.value ∙ c.in-Some.is in
    let same : c.unlist-normal.result.2 ≡ p = ap (λ (s : Schema). s.2) c.unlist-normal.ensures.schema ∙ own_place m i.0.placed p e was in
    let room : IsSome (get_by_text a.tops c.unlist-normal.result.2.0) =
    ap (λ (q : Place). is_some (get_by_text a.tops q.0)) same ∙ has_top m p (get_by_text a.tops p.0) (ap is_some was) (i.0.top p.0) in
    let here : HasAt m n c.unlist-normal.result.2 None = subst (λ q. HasAt m n q None) (sym same) at in
    let refreshed : RefreshesMeaning c.unlist-normal.new.schemas (meaning_of (schema_of e)) a.meanings c.refresh_meaning.new.meanings =
    subst (λ (s : Schema). RefreshesMeaning c.unlist-normal.new.schemas (s.1, s.0) a.meanings c.refresh_meaning.new.meanings)
    c.unlist-normal.ensures.schema c.refresh_meaning.ensures.refreshed in (
      record {
        ordered = c.remove.ensures.ordered;
        placed = placed-gone m n a.names i.0.placed i.0.named p at;
        named = named-gone m n a.names i.0.placed i.0.named p at c.unlist-normal.new.names e was c.unlist-normal.ensures.unnamed;
        top = tops_refreshed m n c.unlist-normal.result.2 None (inl here) (get_by_text a.tops)
            (get_by_text c.refresh_top.new.tops) i.0.top (c.refresh_top.ensures.top room) c.refresh_top.ensures.others;
      },
      listed_gone m n a.schemas c.unlist-normal.new.schemas p e i.0.placed i.1 at was c.unlist-normal.ensures.unlisted,
      meant_gone a.schemas c.unlist-normal.new.schemas a.meanings c.refresh_meaning.new.meanings
          (schema_of e) i.2 c.unlist-normal.ensures.unlisted refreshed,
      c.refresh_meaning.ensures.doubled,
    )
