use Rattle.std.proofs.Common.{◌≡◌, ◌⊎◌, List, Some, true, option_map, inr, refl, sym, ap, subst, ◌∙◌}
use Rattle.std.specs.BTreeMap.{get_by_text}
use Rattle.std.specs.BTreeSet.{contains}
use Rattle.std.specs.FinMap as finmap
use Rattle.std.specs.Prelude.{◌↔◌}
use Rattle.reg_entries.specs.EntryOrder.{Place, place_cmp, place_of}
use Rattle.reg_entries.specs.Index.{entry_at, HasAt, IsTop}
use Rattle.reg_entries.specs.Meanings.{Meaning, meaning_cmp, IsMeant, IsMeaningOf}
use Rattle.reg_entries.specs.Schemas.{Schema, schema_of}
use Rattle.reg_entries.specs.declared.entry.Entry.{Entry}
use Rattle.reg_entries.proofs.Listed.{either, else_same, here_either, on_err, on_ok}
use Rattle.reg_entries.proofs.Meant.{meant_same, meant_written}
use Rattle.reg_entries.proofs.Topmost.{tops_refreshed}
use Rattle.reg_entries.proofs.Views.{view-written}
use Rattle.reg_entries.proofs.entries.Entries.put_stored_entry.Goals as goal

pub write_all-written-requires-clause-old : goal.write_all-written-requires-clause-old
write_all-written-requires-clause-old c =
    c.in_ok-old.ensures ∙ ap (λ p. option_map schema_of (entry_at c.self.inside.entries p)) c.in_ok-place.ensures.place

pub invariant_of-self : goal.invariant_of-self
invariant_of-self c =
    let i = c.self.invariant in (
      record {
        ordered = i.0.ordered;
        placed = i.0.placed;
        named = i.0.named;
        top = λ s. subst (IsTop c.self.inside.entries s) (sym (c.in_err-leave_room.ensures.refused s)) (i.0.top s);
      },
      i.1,
      i.2,
      i.3,
    )

pub invariant_of-self-in-Err : goal.invariant_of-self-in-Err
invariant_of-self-in-Err c =
    let a = c.self.inside in
    let i = c.self.invariant in
    let place = c.in_ok-place.place in (
      record {
        ordered = i.0.ordered;
        placed = i.0.placed;
        named = i.0.named;
        top =
            tops_refreshed a.entries a.entries place (Some c.args.entry) (inr refl)
            (get_by_text a.tops) (get_by_text c.refresh_top.new.tops) i.0.top
            (c.refresh_top.ensures.top c.in_ok-leave_room.ensures.room) (λ s apart.
            c.refresh_top.ensures.others s apart ∙ c.leave_room.ensures.others s apart);
      },
      i.1,
      meant_same a.schemas a.meanings c.mean.new.meanings i.2 c.in-Err.ensures.refused,
      c.mean.ensures.doubled,
    )

pub invariant_of-self-2 : goal.invariant_of-self-2
invariant_of-self-2 c =
    let a = c.self.inside in
    let i = c.self.invariant in
    let m = a.entries in
    let n = c.write_all-written.new.entries in
    let e = c.args.entry in
    let place = c.in_ok-place.place in
    let ends : HasAt m n (place_of e) (Some e) ⊎ (n.entries ≡ m.entries) =
    either c.write_all-written.result c.write_all-written.ensures.written c.write_all-written.ensures.refused in
    let here : HasAt m n place (Some e) ⊎ (n.entries ≡ m.entries) =
    subst (λ p. HasAt m n p (Some e) ⊎ (n.entries ≡ m.entries)) (sym c.in_ok-place.ensures.place) ends in
    let old_is = c.in_ok-old.ensures ∙ ap (λ p. option_map schema_of (entry_at m p)) c.in_ok-place.ensures.place in
    let refreshed : (k : Meaning)
    → (contains meaning_cmp c.refresh_both.new.meanings k ≡ true) ↔ (
    (contains meaning_cmp c.mean.new.meanings k ≡ true)
    × (IsMeaningOf (schema_of e) c.in_ok-old.old k → IsMeant c.write_all-written.new.schemas k)) =
    subst
    (λ (s : Schema). (k : Meaning)
    → (contains meaning_cmp c.refresh_both.new.meanings k ≡ true) ↔ (
    (contains meaning_cmp c.mean.new.meanings k ≡ true)
    × (IsMeaningOf s c.in_ok-old.old k → IsMeant c.write_all-written.new.schemas k)))
    c.in_ok-new.ensures c.refresh_both.ensures.refreshed in (
      record {
        ordered = c.write_all-written.ensures.still_ordered;
        placed = c.write_all-written.ensures.still_placed;
        named = c.write_all-written.ensures.still_named;
        top = tops_refreshed m n place (Some e) here (get_by_text a.tops) (get_by_text c.refresh_top-2.new.tops) i.0.top
            (c.refresh_top-2.ensures.top c.in_ok-leave_room.ensures.room) (λ s apart.
            c.refresh_top-2.ensures.others s apart ∙ c.leave_room.ensures.others s apart);
      },
      c.write_all-written.ensures.still_listed,
      meant_written m n e c.in_ok-old.old i.0.placed (else_same m n (place_of e) (Some e) ends) (here_either m n (place_of e) (Some e) ends)
          old_is a.schemas c.write_all-written.new.schemas i.1 c.write_all-written.ensures.still_listed
          a.meanings c.mean.new.meanings c.refresh_both.new.meanings i.2 c.in_default.ensures.meant refreshed,
      c.refresh_both.ensures.doubled,
    )

pub returns-clause-put : goal.returns-clause-put
returns-clause-put c =
    let m = c.self.inside.entries in
    let n = c.write_all-written.new.entries in
    let p = place_of c.args.entry in
    on_ok c.write_all-written.result (λ at.
    view-written m n p c.args.entry at ∙ ap (λ f. finmap.insert f p c.args.entry) c.self.view_is) c.write_all-written.ensures.written

pub returns-clause-refused : goal.returns-clause-refused
returns-clause-refused c =
    on_err c.write_all-written.result (λ same.
    ap (λ (es : List (Place × Entry)). finmap.from_entries {R = place_cmp} es) same
    ∙ c.self.view_is) c.write_all-written.ensures.refused
