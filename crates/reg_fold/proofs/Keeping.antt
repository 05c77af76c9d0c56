-- What a registry keeps, as a whole.
use Rattle.std.proofs.Common.{◌≡◌, ℕ, Bool, true, false, ◌||◌, ◌&&◌, List, [], ◌∷◌, Option, Some, None}
use Rattle.std.proofs.Common.{option_and_then, option_map, unwrap_or, refl, sym, ap, subst, ◌∙◌}
use Rattle.std.proofs.lemmas.Bool.{false≢true}
use Rattle.std.proofs.lemmas.Cmp.{tied_itself}
use Rattle.std.specs.BTreeSet.{BTreeSet, IsEmpty, IsUnchanged}
use Rattle.std.specs.Cmp.{IsTotalOrder}
use Rattle.std.specs.FinMap as finmap
use Rattle.std.specs.FinSet as set
use Rattle.std.specs.List.{AllZip, filter, list_any, reduce}
use Rattle.std.specs.Option.{option_map_or}
use Rattle.std.specs.Ordering.{eq_by_cmp, is_eq, ord_max}
use Rattle.reg_values.specs.reg_records.Key.{is_delete}
use Rattle.reg_values.specs.reg_records.declared.key.Key.{Key}
use Rattle.reg_values.specs.reg_records.declared.key.Key.TheVariants as keys
use Rattle.reg_values.specs.reg_records.declared.record.Record.{Record}
use Rattle.reg_set.specs.LastRecords.{is_of, last, last_records}
use Rattle.reg_set.specs.RecordOrder.{age_cmp, record_cmp}
use Rattle.reg_set.specs.Records.{Records, in_order, records_of}
use Rattle.reg_fold.specs.Entries.{covered_in, entries, entry_map, entry_of}
use Rattle.reg_entries.specs.Covered.{shown, shown_all}
use Rattle.reg_entries.specs.EntryOrder.{Place, place_cmp}
use Rattle.reg_entries.specs.Flagged.{with_soft}
use Rattle.reg_fold.specs.IdMark.{id_mark, id_marked_of}
use Rattle.reg_fold.specs.InForce.{Scope, level_of, mode_name_of, own_level, own_mode_name}
use Rattle.reg_fold.specs.Kept.{IsKept}
use Rattle.reg_fold.specs.Opaque.{is_opaque, is_version}
use Rattle.reg_fold.specs.Own.{AreOwnEntries, own_entry_of}
use Rattle.reg_fold.specs.Scopes.{AreOwn, kept_own}
use Rattle.reg_fold.specs.SoftDeletes.{delete_of, own_delete}
use Rattle.reg_fold.specs.Spots.{Spot, HasSpots, is_spot, spot_cmp}
use Rattle.reg_fold.specs.Step.{EntriesAreOfLasts, IsStep}
use Rattle.reg_entries.specs.declared.entry.Entry.{Entry}
use Rattle.reg_entries.specs.declared.soft_delete.SoftDelete.{SoftDelete}
use Rattle.reg_values.specs.reg_level_names.declared.level.Level.{Level}
use Rattle.reg_fold.specs.declared.index.Index.{Index}
use Rattle.reg_fold.specs.declared.scoped.Scoped.{Scoped}
use Rattle.reg_fold.proofs.OfLasts.{last_of_itself}
use Rattle.reg_fold.proofs.Own.{own-other, own_covered}
use Rattle.reg_fold.proofs.Owned.{is_config, is_id_mark, is_mode, levels-stay, mark-stays, modes-stay}
use Rattle.reg_fold.proofs.Shown.{values_by}
use Rattle.reg_fold.proofs.SoftDeletes.{covered_by_own, deletes-stay}
use Rattle.reg_fold.proofs.Spotted.{spots-other, spots-same}

module _ (index : Index) (kept : IsKept index) where
  -- the entry at the place of a version's last record is what that record gives by itself
  pub own_at : IsTotalOrder record_cmp → set.IsAntisymmetric record_cmp → last_records index.last ≡ index.last
      → (p : Place) (r : Record) → r.key ≡ keys.Schema p.0 p.1 → set.contains index.last r ≡ true
      → finmap.get index.entries p ≡ own_entry_of r
  own_at total ties are_last p r of_key has =
      kept.all_entries p
      ∙ ap (option_and_then own_entry_of)
      (ap (last index.last) (sym of_key) ∙ last_of_itself total ties index.last are_last r has)

  -- an entry is shown as its subject's last soft delete marks it
  covered_shown : (e : Entry) → covered_in index.last e ≡ shown index.deletes.of_subjects e
  covered_shown e =
      ap (λ b. with_soft (e.soft || b) e) (sym (covered_by_own index.last index.deletes kept.all_deletes e.subject e.version e.offset))

  at-kept : (p : Place) → finmap.get (entry_map index.last) p ≡ option_map (shown index.deletes.of_subjects) (finmap.get index.entries p)
  at-kept p =
      kept.of_lasts p ∙ each (last index.last (keys.Schema p.0 p.1))
      ∙ ap (λ (f : Entry → Entry). option_map f (option_and_then own_entry_of (last index.last (keys.Schema p.0 p.1))))
      (λ i e. covered_shown e i)
      ∙ ap (option_map (shown index.deletes.of_subjects)) (sym (kept.all_entries p))
    where
      each : (o : Option Record)
          → option_and_then (entry_of index.last) o ≡ option_map (covered_in index.last) (option_and_then own_entry_of o)
      each None = refl
      each (Some r) = own_covered index.last r

  -- the entries that are kept, as they are shown, are those of the last records
  pub values-kept : shown_all index.deletes.of_subjects (finmap.values index.entries) ≡ entries index.last
  unfolding entries
  values-kept = values_by (shown index.deletes.of_subjects) index.entries (entry_map index.last) at-kept

module _ (total : IsTotalOrder record_cmp) where
  no_items : (rs : List Record) → ((q : Record) → list_any (eq_by_cmp record_cmp q) rs ≡ false) → rs ≡ []
  no_items [] none = refl
  no_items (r ∷ rs) none =
      absurd (false≢true (sym (none r) ∙ ap (λ o. is_eq o || list_any (eq_by_cmp record_cmp r) rs) (tied_itself total r)))

  records_of-empty : records_of set.empty ≡ []
  unfolding records_of
  records_of-empty =
      ap in_order (no_items (set.items set.empty) (λ q. sym (set.contains-items set.empty q) ∙ set.contains-empty record_cmp q))

  last-empty : (key : Key) → last set.empty key ≡ None
  unfolding last
  last-empty key = ap (λ found. reduce (ord_max age_cmp) (filter (is_of key) found)) records_of-empty

  HasSpots-empty : (kind : Record → Bool) (spots : BTreeSet Spot) (rs : Records) → rs ≡ set.empty → IsEmpty spots → HasSpots kind rs spots
  HasSpots-empty kind spots rs rs_are none s =
      ap (list_any (λ k. is_eq (spot_cmp s k))) none
      ∙ sym (ap (λ rs. is_spot kind rs s) rs_are
      ∙ ap (λ o. option_map_or (λ r. kind r && eq_by_cmp spot_cmp (r.offset, s.1) s) o false) (last-empty (keys.Schema s.1.0 s.1.1)))

  AreOwnEntries-empty : (m : finmap.FinMap place_cmp Entry) (rs : Records) → rs ≡ set.empty → m ≡ finmap.empty → AreOwnEntries rs m
  AreOwnEntries-empty m rs rs_are none p =
      ap (λ (n : finmap.FinMap place_cmp Entry). finmap.get n p) none ∙ finmap.get-empty place_cmp p
      ∙ sym (
      ap (λ rs. option_and_then own_entry_of (last rs (keys.Schema p.0 p.1))) rs_are
      ∙ ap (option_and_then own_entry_of) (last-empty (keys.Schema p.0 p.1)))

  own_level-empty : (rs : Records) → rs ≡ set.empty → (q : Scope) → own_level rs q ≡ None
  unfolding own_level
  own_level-empty rs rs_are q = ap (λ rs. own_level rs q) rs_are ∙ ap (option_and_then level_of) (last-empty (keys.Config q))

  own_mode_name-empty : (rs : Records) → rs ≡ set.empty → (q : Scope) → own_mode_name rs q ≡ None
  unfolding own_mode_name
  own_mode_name-empty rs rs_are q = ap (λ rs. own_mode_name rs q) rs_are ∙ ap (option_and_then mode_name_of) (last-empty (keys.Mode q))

  own_delete-empty : (rs : Records) → rs ≡ set.empty → (q : Scope) → own_delete rs q ≡ None
  unfolding own_delete
  own_delete-empty rs rs_are None = refl
  own_delete-empty rs rs_are (Some s) =
      ap (λ rs. option_and_then delete_of (last rs (keys.DeleteSubject s))) rs_are
      ∙ ap (option_and_then delete_of) (last-empty (keys.DeleteSubject s))

  id_mark-empty : (rs : Records) → rs ≡ set.empty → id_mark rs ≡ 0
  unfolding id_mark
  id_mark-empty rs rs_are = ap id_mark rs_are ∙ ap (λ o. unwrap_or (option_and_then id_marked_of o) 0) (last-empty keys.IdMark)

  -- without a record nothing is kept
  pub IsKept-empty : (index : Index) → index.last ≡ set.empty
      → EntriesAreOfLasts index.last → index.entries ≡ finmap.empty → IsEmpty index.unread
      → ((q : Scope) → kept_own index.deletes q ≡ None) → ((q : Scope) → kept_own index.levels q ≡ None)
      → ((q : Scope) → kept_own index.modes q ≡ None) → index.id_mark ≡ 0 → IsKept index
  IsKept-empty index last_is of_lasts entries_are none_unread no_delete no_level no_mode no_mark = record {
    of_lasts = of_lasts;
    all_entries = AreOwnEntries-empty index.entries index.last last_is entries_are;
    all_unread = HasSpots-empty is_opaque index.unread index.last last_is none_unread;
    all_deletes = λ q. no_delete q ∙ sym (own_delete-empty index.last last_is q);
    all_levels = λ q. no_level q ∙ sym (own_level-empty index.last last_is q);
    all_modes = λ q. no_mode q ∙ sym (own_mode_name-empty index.last last_is q);
    the_mark = no_mark ∙ sym (id_mark-empty index.last last_is);
  }

-- what one more record does to what is kept
module _ (old : Index) (kept : IsKept old) (after : Records) (r : Record) (step : IsStep old.last after r) where
  -- one of a version changes only the entries and the opaque versions
  pub IsKept-version : (place : Place) → r.key ≡ keys.Schema place.0 place.1
      → (entries : finmap.FinMap place_cmp Entry) → AreOwnEntries after entries → (unread : BTreeSet Spot) → HasSpots is_opaque after unread
      → IsKept (record old { last = after; entries = entries; unread = unread })
  IsKept-version place of_key entries all_entries unread all_unread = record {
    of_lasts = step.from_after;
    all_entries = all_entries;
    all_unread = all_unread;
    all_deletes = deletes-stay old.last after r step old.deletes kept.all_deletes (ap is_delete of_key);
    all_levels = levels-stay old.last after r step old.levels kept.all_levels (ap is_config of_key);
    all_modes = modes-stay old.last after r step old.modes kept.all_modes (ap is_mode of_key);
    the_mark = kept.the_mark ∙ sym (mark-stays old.last after r step (ap is_id_mark of_key));
  }

  -- one of another kind leaves these
  pub IsKept-other : is_version r.key ≡ false
      → (deletes : Scoped SoftDelete) → AreOwn (own_delete after) deletes → (levels : Scoped Level) → AreOwn (own_level after) levels
      → (modes : Scoped (List ℕ)) → AreOwn (own_mode_name after) modes → (mark : ℕ) → mark ≡ id_mark after
      → IsKept (record old { last = after; deletes = deletes; levels = levels; modes = modes; id_mark = mark })
  IsKept-other no_version deletes all_deletes levels all_levels modes all_modes mark the_mark = record {
    of_lasts = step.from_after;
    all_entries = own-other old.last after r step old.entries kept.all_entries no_version;
    all_unread = spots-other is_opaque old.last after r step no_version old.unread kept.all_unread;
    all_deletes = all_deletes;
    all_levels = all_levels;
    all_modes = all_modes;
    the_mark = the_mark;
  }

-- copies of spots that are equal to them
pub spots-copied : (xs ys : List Spot) → AllZip (λ p q. (q.0 ≡ p.0) × ((q.1.0 ≡ p.1.0) × (q.1.1 ≡ p.1.1))) xs ys → ys ≡ xs
spots-copied [] [] h = refl
spots-copied [] (y ∷ ys) h = absurd h
spots-copied (x ∷ xs) [] h = absurd h
spots-copied (x ∷ xs) (y ∷ ys) h = λ i. (h.0.0 i, (h.0.1.0 i, h.0.1.1 i)) ∷ spots-copied xs ys h.1 i

-- what is kept of the same records and spots is kept
pub IsKept-same : (old new : Index) → new.last ≡ old.last → new.entries ≡ old.entries → IsUnchanged old.unread new.unread
    → ((q : Scope) → kept_own new.deletes q ≡ kept_own old.deletes q) → ((q : Scope) → kept_own new.levels q ≡ kept_own old.levels q)
    → ((q : Scope) → kept_own new.modes q ≡ kept_own old.modes q) → new.id_mark ≡ old.id_mark → IsKept old → IsKept new
IsKept-same old new last_is entries_are unread deletes levels modes mark kept = record {
  of_lasts = subst EntriesAreOfLasts (sym last_is) kept.of_lasts;
  all_entries = λ p.
      ap (λ (m : finmap.FinMap place_cmp Entry). finmap.get m p) entries_are
      ∙ kept.all_entries p
      ∙ sym (ap (λ rs. option_and_then own_entry_of (last rs (keys.Schema p.0 p.1))) last_is);
  all_unread = spots-same is_opaque old.last new.last old.unread new.unread last_is unread kept.all_unread;
  all_deletes = λ q. deletes q ∙ kept.all_deletes q ∙ sym (ap (λ rs. own_delete rs q) last_is);
  all_levels = λ q. levels q ∙ kept.all_levels q ∙ sym (ap (λ rs. own_level rs q) last_is);
  all_modes = λ q. modes q ∙ kept.all_modes q ∙ sym (ap (λ rs. own_mode_name rs q) last_is);
  the_mark = mark ∙ kept.the_mark ∙ sym (ap id_mark last_is);
}
