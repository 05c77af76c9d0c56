-- Last records without a value give nothing.
use Rattle.std.proofs.Common.{◌≡◌, ℕ, Bool, true, false, cond, ◌&&◌, ◌||◌, List, [], ◌∷◌, map, Option, Some}
use Rattle.std.proofs.Common.{None, is_none, is_some, option_and_then, unwrap_or, refl, sym, ap, ◌∙◌}
use Rattle.std.specs.Prelude.{fold, min}
use Rattle.std.specs.FinMap as finmap
use Rattle.std.specs.List.{cons_option, filter, filter_map, reduce}
use Rattle.std.specs.Option.{option_map_or}
use Rattle.reg_leader.specs.reg_records.declared.key.Key.{Key}
use Rattle.reg_leader.specs.reg_records.declared.key.Key.TheVariants as keys
use Rattle.reg_leader.specs.reg_records.declared.record.Record.{Record}
use Rattle.reg_leader.specs.reg_records.declared.value.Value.{Value}
use Rattle.reg_leader.specs.reg_records.declared.value.Value.TheVariants as values
use Rattle.reg_leader.specs.reg_values.Value.{value_of, value_of_text}
use Rattle.reg_leader.specs.reg_set.LastRecords.{last, last_records}
use Rattle.reg_leader.specs.reg_set.Records.{Records, records_of}
use Rattle.reg_floored.specs.Compaction.{standing}
use Rattle.reg_leader.specs.reg_entries.EntryOrder.{place_cmp, place_of}
use Rattle.reg_leader.specs.reg_fold.Entries.{entries, entry_in, entry_map, entry_of, normal_of}
use Rattle.reg_leader.specs.reg_fold.IdMark.{id_mark, id_marked_in, id_marked_of}
use Rattle.reg_leader.specs.reg_fold.InForce.{Scope, level_in, level_of, mode_name_in, mode_name_of, own_level, own_mode_name}
use Rattle.reg_leader.specs.reg_fold.Covers.{covers, is_soft_deleted}
use Rattle.reg_leader.specs.reg_fold.Opaque.{is_opaque, is_version, opaque}
use Rattle.reg_alike.specs.GiveAlike.{NullsGiveNothing}
use Rattle.reg_alike.proofs.Retained.{records_of-retain}
use Rattle.reg_alike.proofs.Standing.{AreOrdered, given_by_standing}

abbrev has_value : Record → Bool
has_value r = is_some r.value

reads_none : (r : Record) → r.value ≡ None → value_of r ≡ None
reads_none r e = ap (option_and_then (value_of_text r.key)) e

-- what gives nothing without a value may be looked for among those that have one
valued : (gives : Record → Bool) → ((r : Record) → r.value ≡ None → gives r ≡ false) → (rs : List Record)
    → filter gives (filter has_value rs) ≡ filter gives rs
valued gives nothing [] = refl
valued gives nothing (r ∷ rs) =
    let rest = valued gives nothing rs in
    let some = filter has_value rs in
    elim r.value as (λ o. r.value ≡ o → filter gives (cond (is_some o) (r ∷ some) some) ≡ filter gives (r ∷ rs)) [
      | None ↦ λ e. rest ∙ ap (λ b. cond b (r ∷ filter gives rs) (filter gives rs)) (sym (nothing r e))
      | Some text ↦ λ _. ap (λ l. cond (gives r) (r ∷ l) l) rest
    ] refl

valued_map : {X : Type 0} (gives : Record → Option X) → ((r : Record) → r.value ≡ None → gives r ≡ None) → (rs : List Record)
    → filter_map gives (filter has_value rs) ≡ filter_map gives rs
valued_map gives nothing [] = refl
valued_map gives nothing (r ∷ rs) =
    let rest = valued_map gives nothing rs in
    let some = filter has_value rs in
    elim r.value as (λ o. r.value ≡ o → filter_map gives (cond (is_some o) (r ∷ some) some) ≡ filter_map gives (r ∷ rs)) [
      | None ↦ λ e. rest ∙ ap (λ o. cons_option o (filter_map gives rs)) (sym (nothing r e))
      | Some text ↦ λ _. ap (cons_option (gives r)) rest
    ] refl

no_opaque : (r : Record) → r.value ≡ None → is_opaque r ≡ false
unfolding is_opaque
no_opaque r e = ap (λ b. (is_version r.key && b) && is_none (value_of r)) (ap is_some e) ∙ neither (is_version r.key) (is_none (value_of r))
  where
    neither : (a b : Bool) → ((a && false) && b) ≡ false
    neither true b = refl
    neither false b = refl

no_entry : (rs : Records) (r : Record) → r.value ≡ None → entry_of rs r ≡ None
unfolding entry_of
no_entry rs r e = ap (option_and_then (entry_in rs r.offset)) (reads_none r e)

no_level : (r : Record) → r.value ≡ None → level_of r ≡ None
unfolding level_of
no_level r e = ap (option_and_then level_in) (reads_none r e)

no_mode_name : (r : Record) → r.value ≡ None → mode_name_of r ≡ None
unfolding mode_name_of
no_mode_name r e = ap (option_and_then mode_name_in) (reads_none r e)

no_id_mark : (r : Record) → r.value ≡ None → id_marked_of r ≡ None
unfolding id_marked_of
no_id_mark r e = ap (option_and_then id_marked_in) (reads_none r e)

-- two sets of last records mark the same as soft-deleted
abbrev CoverAlike : Records → Records → Type 0
CoverAlike rs ss =
    (subject : List ℕ) (version offset : ℕ) → is_soft_deleted rs subject version offset ≡ is_soft_deleted ss subject version offset

module _ (rs ss : Records) (marked : CoverAlike rs ss) where
  entry_in-alike : (offset : ℕ) (value : Value) → entry_in rs offset value ≡ entry_in ss offset value
  entry_in-alike offset (values.Schema subject version id schema deleted) = λ i. Some (record {
    subject = subject;
    version = version;
    id = id;
    text = schema;
    normal = normal_of schema;
    offset = offset;
    soft = deleted || marked subject version offset i;
  })
  entry_in-alike offset (values.Config level) = refl
  entry_in-alike offset (values.Mode mode) = refl
  entry_in-alike offset (values.DeleteSubject subject version) = refl
  entry_in-alike offset values.Noop = refl
  entry_in-alike offset (values.IdMark id) = refl

  entry_of-alike : (r : Record) → entry_of rs r ≡ entry_of ss r
  unfolding entry_of
  entry_of-alike r = λ i. option_and_then (λ value. entry_in-alike r.offset value i) (value_of r)

module _ (order : AreOrdered) (whole : Records) where
  abbrev all : Records
  all = last_records whole

  abbrev some : Records
  some = standing whole

  are_some : records_of some ≡ filter has_value (records_of all)
  are_some = records_of-retain order.total order.ties all has_value

  given : {X : Type 0} (gives : Option Record → X) → ((r : Record) → r.value ≡ None → gives (Some r) ≡ gives None) → (key : Key)
      → gives (last all key) ≡ gives (last some key)
  given gives nothing key = given_by_standing order whole gives nothing key

  marked_alike : CoverAlike all some
  unfolding is_soft_deleted
  marked_alike subject version offset =
      given (λ o. option_map_or (λ r. option_map_or (λ value. covers r.offset value version offset) (value_of r) false) o false)
      (λ r e. ap (λ o. option_map_or (λ value. covers r.offset value version offset) o false) (reads_none r e))
      (keys.DeleteSubject subject)

  entries_alike : entries all ≡ entries some
  unfolding entries entry_map
  entries_alike =
      let same : filter_map (entry_of all) (records_of all) ≡ filter_map (entry_of some) (records_of some) =
      (λ i. filter_map (λ r. entry_of-alike all some marked_alike r i) (records_of all))
      ∙ sym (valued_map (entry_of some) (no_entry some) (records_of all)) ∙ ap (filter_map (entry_of some)) (sym are_some) in
      ap (λ es. finmap.values (fold (λ m e. finmap.insert m (place_of e) e) (finmap.empty {R = place_cmp}) es)) same

  opaque_alike : opaque all ≡ opaque some
  unfolding opaque
  opaque_alike =
      ap (λ rs. reduce min (map (λ r. r.offset) rs))
      (sym (valued is_opaque no_opaque (records_of all)) ∙ ap (filter is_opaque) (sym are_some))

  levels_alike : (scope : Scope) → own_level all scope ≡ own_level some scope
  unfolding own_level
  levels_alike scope = given (option_and_then level_of) no_level (keys.Config scope)

  modes_alike : (scope : Scope) → own_mode_name all scope ≡ own_mode_name some scope
  unfolding own_mode_name
  modes_alike scope = given (option_and_then mode_name_of) no_mode_name (keys.Mode scope)

  marks_alike : id_mark all ≡ id_mark some
  unfolding id_mark
  marks_alike = ap (λ o. unwrap_or o 0) (given (option_and_then id_marked_of) no_id_mark keys.IdMark)

pub nulls_give_nothing : AreOrdered → NullsGiveNothing
nulls_give_nothing order whole = record {
  entries_alike = entries_alike order whole;
  opaque_alike = opaque_alike order whole;
  levels_alike = levels_alike order whole;
  modes_alike = modes_alike order whole;
  marks_alike = marks_alike order whole;
}
