-- A harmless batch leaves an open registry open.
use Rattle.std.proofs.Common.{◌≡◌, ◌⊎◌, inl, inr, ℕ, ◌+◌, Bool, true, false, ◌&&◌, List, [], length, Some, None}
use Rattle.std.proofs.Common.{All, Contains, option_and_then, is_some, is_none, refl, sym, ap, subst, ◌∙◌}
use Rattle.std.proofs.lemmas.Bool.{false≢true}
use Rattle.std.proofs.lemmas.List.Elements.{All-push, All-weaker}
use Rattle.std.specs.Cmp.{IsTotalOrder}
use Rattle.std.specs.FinSet.{from_list, union, IsAntisymmetric}
use Rattle.std.specs.Option.{option_map_or}
use Rattle.reg_rules.specs.avro_schema.Schema.{Meaning}
use Rattle.reg_rules.specs.reg_entries.TwoSchemas.{NoneIsOneTextEach}
use Rattle.reg_rules.specs.reg_entries.declared.entry.Entry.{Entry}
use Rattle.reg_rules.specs.reg_fold.Closed.{is_closed}
use Rattle.reg_rules.specs.reg_fold.Entries.{EntriesAreOfPlaces, entries, entry_in, entry_of, normal_of}
use Rattle.reg_rules.specs.reg_fold.Opaque.{NoneIsNoOpaqueLast, is_opaque, is_version}
use Rattle.reg_rules.specs.reg_values.Value.{value_of, value_of_text}
use Rattle.reg_rules.specs.reg_records.WrittenValue.{written_value}
use Rattle.reg_rules.specs.reg_records.declared.key.Key.{Key}
use Rattle.reg_rules.specs.reg_records.declared.key.Key.TheVariants as keys
use Rattle.reg_rules.specs.reg_records.declared.record.Record.{Record}
use Rattle.reg_rules.specs.reg_records.declared.value.Value.{Value}
use Rattle.reg_rules.specs.reg_records.declared.value.Value.TheVariants as values
use Rattle.reg_rules.specs.reg_set.Join.{LastIsGreatest, LastOfUnion}
use Rattle.reg_rules.specs.reg_set.LastRecords.{last, last_records}
use Rattle.reg_rules.specs.reg_set.RecordOrder.{record_cmp}
use Rattle.reg_rules.specs.reg_set.Records.{Records}
use Rattle.reg_leader.specs.Harmless.{IsHarmless, IsOneVersion, IsQuiet}
use Rattle.reg_leader.specs.StayOpen.{IdsNameOneSchema, last_after}
use Rattle.reg_leader.proofs.Below.{ValuesReadBack}
use Rattle.reg_leader.proofs.Joined.{elsewhere, in_batch, last_cases, of_value}
use Rattle.reg_leader.proofs.Names.{no_opaque, not_closed, one_schema}

-- Quiet records.
and-false : (a b : Bool) → b ≡ false → (a && b) ≡ false
and-false true b e = e
and-false false b e = refl

false-and : (a b : Bool) → a ≡ false → (a && b) ≡ false
false-and a b e = ap (λ a. a && b) e

quiet-opaque : (r : Record) → IsQuiet r → is_opaque r ≡ false
unfolding is_opaque
quiet-opaque r (inl e) = false-and _ _ (and-false (is_version r.key) (is_some r.value) (ap is_some e))
quiet-opaque r (inr e) = false-and _ _ (false-and (is_version r.key) (is_some r.value) e)

-- a quiet record of a version gives no entry
quiet-none : (rs : Records) (r : Record) (subject : List ℕ) (version : ℕ) (e : Entry)
    → IsQuiet r → r.key ≡ keys.Schema subject version → entry_of rs r ≡ Some e → ⊥
unfolding entry_of
quiet-none rs r subject version e (inl none) key is =
    let gone : value_of r ≡ None = ap (option_and_then (value_of_text r.key)) none in
    let h = sym (ap (option_and_then (entry_in rs r.offset)) gone) ∙ is in cc
quiet-none rs r subject version e (inr other) key is = absurd (false≢true (sym other ∙ ap is_version key))

value-opaque : (r : Record) (v : Value) → value_of r ≡ Some v → is_opaque r ≡ false
unfolding is_opaque
value-opaque r v value = and-false (is_version r.key && is_some r.value) (is_none (value_of r)) (ap is_none value)

module _ (order : IsTotalOrder record_cmp) (apart : IsAntisymmetric record_cmp) (greatest : LastIsGreatest)
    (of_union : LastOfUnion) (of_places : EntriesAreOfPlaces) (again : ValuesReadBack) where
  module _ (log : Records) (n : ℕ) (batch : List Record) where
    abbrev pub before : Records
    before = last_records log

    -- the record of the one version, and what it reads as
    abbrev written : IsOneVersion before n batch → Record
    written v = record {
      offset = n + length v.first;
      key = keys.Schema v.subject v.version;
      value = written_value (values.Schema v.subject v.version v.id v.text v.deleted);
    }

    -- each record of the batch is quiet, or is that one
    abbrev QuietOr : IsOneVersion before n batch → Record → Type 0
    QuietOr v q = IsQuiet q ⊎ (q ≡ written v)

    quiet_or_written : (v : IsOneVersion before n batch) → All (QuietOr v) batch
    quiet_or_written v =
        subst (All (QuietOr v)) (sym v.one_record)
        (All-push (QuietOr v) v.first (written v) (All-weaker IsQuiet (QuietOr v) (λ q quiet. inl quiet) v.first v.are_quiet) (inr refl))

    reads : (v : IsOneVersion before n batch) → value_of (written v) ≡ Some (values.Schema v.subject v.version v.id v.text v.deleted)
    reads v =
        again (n + length v.first) (keys.Schema v.subject v.version)
        (values.Schema v.subject v.version v.id v.text v.deleted) (refl, v.version_fits, v.id_fits, ap is_some v.is_read)

    normal_known : (v : IsOneVersion before n batch) → normal_of v.text ≡ v.schema.normal_text
    normal_known v = ap (λ o. option_map_or (λ (m : Meaning). m.normal_text) o []) v.is_read

    -- an entry before the batch has the id and the schema of e; the batch's one version has
    abbrev pub IsOld : Entry → Type 0
    IsOld e = (g : Entry) × Contains (entries before) g × (g.id ≡ e.id) × (g.normal ≡ e.normal)

    abbrev pub IsNew : IsHarmless before n batch → Entry → Type 0
    IsNew (inl quiet) e = ⊥
    IsNew (inr v) e = (e.id ≡ v.id) × (e.normal ≡ v.schema.normal_text)

    old_origin : (e : Entry) (r : Record) → last log (keys.Schema e.subject e.version) ≡ Some r
        → entry_of (last_after log batch) r ≡ Some e → IsOld e
    old_origin e r here is =
        let found = elsewhere (last_after log batch) before r e is in
        let alike = found.2 in
        let place : keys.Schema found.0.subject found.0.version ≡ keys.Schema e.subject e.version =
        λ i. keys.Schema (alike.subject i) (alike.version i) in
        (found.0, (of_places log found.0).1 (r, ap (last log) place ∙ here, found.1), alike.id, alike.normal)

    new_origin : (harmless : IsHarmless before n batch) (e : Entry) (r : Record)
        → last (from_list batch) (keys.Schema e.subject e.version) ≡ Some r → entry_of (last_after log batch) r ≡ Some e → IsNew harmless e
    new_origin (inl quiet) e r here is =
        let key = ((greatest (from_list batch) (keys.Schema e.subject e.version) r).0 here).is_of_key in
        quiet-none (last_after log batch) r e.subject e.version e
        (in_batch order apart greatest batch IsQuiet (keys.Schema e.subject e.version) r quiet here) key is
    new_origin (inr v) e r here is =
        elim (in_batch order apart greatest batch (QuietOr v) (keys.Schema e.subject e.version) r (quiet_or_written v) here) [
          | inl quiet ↦
              let key = ((greatest (from_list batch) (keys.Schema e.subject e.version) r).0 here).is_of_key in
              absurd (quiet-none (last_after log batch) r e.subject e.version e quiet key is)
          | inr same ↦
              let has = of_value (last_after log batch) r v.subject v.version v.id v.text v.deleted e (ap value_of same ∙ reads v) is in
              (has.0, has.1 ∙ normal_known v)
        ]

    pub origin : (harmless : IsHarmless before n batch) (e : Entry)
        → Contains (entries (last_after log batch)) e → IsOld e ⊎ IsNew harmless e
    origin harmless e stands =
        let found = (of_places (union log (from_list batch)) e).0 stands in
        elim (last_cases of_union log batch (keys.Schema e.subject e.version) found.0 found.1) [
          | inl old ↦ inl (old_origin e found.0 old found.2)
          | inr new ↦ inr (new_origin harmless e found.0 new found.2)
        ]

    -- an entry before the batch and its one version have one schema where they have one id
    old_new : (harmless : IsHarmless before n batch) (e f : Entry) → e.id ≡ f.id → IsOld e → IsNew harmless f → e.normal ≡ f.normal
    old_new (inl quiet) e f same old new = absurd new
    old_new (inr v) e f same old new = sym old.3 ∙ v.names_no_other old.0 old.1 (old.2 ∙ same ∙ new.0) ∙ sym new.1

    both_new : (harmless : IsHarmless before n batch) (e f : Entry) → IsNew harmless e → IsNew harmless f → e.normal ≡ f.normal
    both_new (inl quiet) e f new newer = absurd new
    both_new (inr v) e f new newer = new.1 ∙ sym newer.1

    same_schema : IdsNameOneSchema before → (harmless : IsHarmless before n batch) (e f : Entry)
        → e.id ≡ f.id → IsOld e ⊎ IsNew harmless e → IsOld f ⊎ IsNew harmless f → e.normal ≡ f.normal
    same_schema each harmless e f same (inl old) (inl older) =
        sym old.3 ∙ each old.0 older.0 old.1 older.1 (old.2 ∙ same ∙ sym older.2) ∙ older.3
    same_schema each harmless e f same (inl old) (inr new) = old_new harmless e f same old new
    same_schema each harmless e f same (inr new) (inl old) = sym (old_new harmless f e (sym same) old new)
    same_schema each harmless e f same (inr new) (inr newer) = both_new harmless e f new newer

    batch-opaque : IsHarmless before n batch → (key : Key) (r : Record) → last (from_list batch) key ≡ Some r → is_opaque r ≡ false
    batch-opaque (inl quiet) key r e = quiet-opaque r (in_batch order apart greatest batch IsQuiet key r quiet e)
    batch-opaque (inr v) key r e =
        elim (in_batch order apart greatest batch (QuietOr v) key r (quiet_or_written v) e) [
          | inl quiet ↦ quiet-opaque r quiet
          | inr same ↦ value-opaque r _ (ap value_of same ∙ reads v)
        ]

    pub keeps_ids : NoneIsOneTextEach → is_closed before ≡ false → IsHarmless before n batch → IdsNameOneSchema (last_after log batch)
    keeps_ids one closed harmless e f in_e in_f same =
        same_schema (one_schema one before closed) harmless e f same (origin harmless e in_e) (origin harmless f in_f)

    pub stays_open : NoneIsNoOpaqueLast → NoneIsOneTextEach → is_closed before ≡ false
        → IsHarmless before n batch → is_closed (last_after log batch) ≡ false
    stays_open opaque_lasts one closed harmless =
        let was = (opaque_lasts log).0 (no_opaque before closed) in
        let none = (opaque_lasts (union log (from_list batch))).1 (λ key r e. elim (last_cases of_union log batch key r e) [
          | inl old ↦ was key r old
          | inr new ↦ batch-opaque harmless key r new
        ]) in
        not_closed one (last_after log batch) none (keeps_ids one closed harmless)
