-- Marks of ids leave a registry open: no entry changes by them, and no version becomes opaque.
use Rattle.std.proofs.Common.{◌≡◌, inl, inr, ℕ, Bool, true, false, ◌&&◌, ◌||◌, List, [], ◌∷◌, Option, Some, None}
use Rattle.std.proofs.Common.{Contains, option_and_then, unwrap_or, is_none, is_some, refl, sym, ap, ◌∙◌, if◌then◌else◌}
use Rattle.std.proofs.lemmas.Bool.{false≢true}
use Rattle.std.specs.Cmp.{IsTotalOrder}
use Rattle.std.specs.FinSet.{from_list, union, IsAntisymmetric, contains-from_list}
use Rattle.std.specs.List.{AllByRecursion, list_any}
use Rattle.std.specs.Option.{option_map_or}
use Rattle.std.specs.Ordering.{eq_by_cmp}
use Rattle.reg_leader.specs.reg_values.Value.{value_of}
use Rattle.reg_leader.specs.reg_records.declared.key.Key.{Key}
use Rattle.reg_leader.specs.reg_records.declared.key.Key.TheVariants as keys
use Rattle.reg_leader.specs.reg_records.declared.record.Record.{Record}
use Rattle.reg_leader.specs.reg_records.declared.value.Value.{Value}
use Rattle.reg_leader.specs.reg_records.declared.value.Value.TheVariants as values
use Rattle.reg_leader.specs.reg_set.Join.{LastIsGreatest, LastOfLastRecords, LastOfUnion, later}
use Rattle.reg_leader.specs.reg_set.LastRecords.{last, last_records}
use Rattle.reg_leader.specs.reg_set.RecordOrder.{record_cmp}
use Rattle.reg_leader.specs.reg_set.Records.{Records}
use Rattle.reg_leader.specs.reg_entries.TwoSchemas.{NoneIsOneTextEach}
use Rattle.reg_leader.specs.reg_entries.declared.entry.Entry.{Entry}
use Rattle.reg_leader.specs.reg_fold.Closed.{is_closed, two_schemas}
use Rattle.reg_leader.specs.reg_fold.Entries.{EntriesAreOfPlaces, entries, entry_in, entry_of, normal_of}
use Rattle.reg_leader.specs.reg_fold.IdMark.{needs_mark}
use Rattle.reg_leader.specs.reg_fold.Covers.{covers, is_soft_deleted}
use Rattle.reg_leader.specs.reg_fold.Opaque.{NoneIsNoOpaqueLast, is_opaque, is_version, opaque}
use Rattle.reg_leader.specs.reg_fold.Standing.{greatest_id}
use Rattle.reg_leader.specs.reg_rules.Writings.{id_marked, numbered}
use Rattle.reg_leader.specs.Adoption.{adopting}
use Rattle.reg_topic.proofs.Bools.{either}
use Rattle.reg_topic.proofs.Offsets.{equal}

-- the records are of the mark's key
abbrev pub AreMarks : List Record → Type 0
AreMarks = AllByRecursion (λ r. r.key ≡ keys.IdMark)

one_mark : (b : Bool) (next id : ℕ) → AreMarks (if b then numbered next (id_marked id ∷ []) else [])
one_mark true next id = (refl, tt)
one_mark false next id = tt

pub due_are_marks : (rs : Records) (next : ℕ) → AreMarks (adopting rs next)
due_are_marks rs next = one_mark (needs_mark rs) next (unwrap_or (greatest_id rs) 0)

than_none : (o : Option Record) → later o None ≡ o
than_none None = refl
than_none (Some r) = refl

no_first : {A : Type 0} (o : Option A) (b : Bool) → (is_some o || b) ≡ false → o ≡ None
no_first None b h = refl
no_first (Some x) b h = absurd (false≢true (sym h))

no_second : {A : Type 0} (a : Bool) (o : Option A) → (a || is_some o) ≡ false → o ≡ None
no_second true o h = absurd (false≢true (sym h))
no_second false None h = refl
no_second false (Some x) h = absurd (false≢true (sym h))

-- A record gives the same entry where the last records are the same, but for that of the mark's key.
module _ (R S : Records) (same : (key : Key) → (key ≡ keys.IdMark → ⊥) → last R key ≡ last S key) where
  soft_same : (subject : List ℕ) (version offset : ℕ) → is_soft_deleted R subject version offset ≡ is_soft_deleted S subject version offset
  unfolding is_soft_deleted
  soft_same subject version offset =
      ap
      (λ (o : Option Record).
      option_map_or (λ r. option_map_or (λ value. covers r.offset value version offset) (value_of r) false) o false)
      (same (keys.DeleteSubject subject) (λ e. cc))

  in_same : (offset : ℕ) (v : Value) → entry_in R offset v ≡ entry_in S offset v
  in_same offset (values.Schema subject version id schema deleted) =
      ap
      (λ b.
      let e : Entry = record {
        subject = subject;
        version = version;
        id = id;
        text = schema;
        normal = normal_of schema;
        offset = offset;
        soft = deleted || b;
      } in
      Some e)
      (soft_same subject version offset)
  in_same offset (values.Config level) = refl
  in_same offset (values.Mode mode) = refl
  in_same offset (values.DeleteSubject subject version) = refl
  in_same offset values.Noop = refl
  in_same offset (values.IdMark id) = refl

  entry_same : (r : Record) → entry_of R r ≡ entry_of S r
  unfolding entry_of
  entry_same r =
      elim (value_of r) as (λ o.
      option_and_then (entry_in R r.offset) o ≡ option_and_then (entry_in S r.offset) o) [ None ↦ refl | Some v ↦ in_same r.offset v ]

module _ (order : IsTotalOrder record_cmp) (apart : IsAntisymmetric record_cmp)
    (greatest : LastIsGreatest) (of_union : LastOfUnion) (of_lasts : LastOfLastRecords)
    (stand : EntriesAreOfPlaces) (opaque_lasts : NoneIsNoOpaqueLast) (one : NoneIsOneTextEach) where
  is_mark : (rs : List Record) → AreMarks rs → (q : Record) → list_any (eq_by_cmp record_cmp q) rs ≡ true → q.key ≡ keys.IdMark
  is_mark [] all q any = absurd (false≢true any)
  is_mark (r ∷ rs) all q any =
      elim (either (eq_by_cmp record_cmp q r) (list_any (eq_by_cmp record_cmp q) rs) any) as (λ _. q.key ≡ keys.IdMark) [
        | inl e ↦ ap (λ (x : Record). x.key) (equal order apart q r e) ∙ all.0
        | inr rest ↦ is_mark rs all.1 q rest
      ]

  module _ (log : Records) (due : List Record) (marks : AreMarks due) where
    abbrev marks_set : Records
    marks_set = from_list due

    abbrev after : Records
    after = union log marks_set

    no_other : (key : Key) → (key ≡ keys.IdMark → ⊥) → last marks_set key ≡ None
    no_other key away = elim (last marks_set key) as (λ o. last marks_set key ≡ o → o ≡ None) [
      | None ↦ λ _. refl
      | Some r ↦ λ e.
          let g = (greatest marks_set key r).0 e in
          absurd (away (sym g.is_of_key ∙ is_mark due marks r (sym (contains-from_list order due r) ∙ g.is_in_set)))
    ] refl

    other_last : (key : Key) → (key ≡ keys.IdMark → ⊥) → last after key ≡ last log key
    other_last key away = of_union log marks_set key ∙ ap (later (last log key)) (no_other key away) ∙ than_none (last log key)

    other_of_lasts : (key : Key) → (key ≡ keys.IdMark → ⊥) → last (last_records after) key ≡ last (last_records log) key
    other_of_lasts key away = of_lasts after key ∙ other_last key away ∙ sym (of_lasts log key)

    -- an entry stood before
    stood : (e : Entry) → Contains (entries (last_records after)) e → Contains (entries (last_records log)) e
    stood e c =
        let found = (stand after e).0 c in
        let place : last log (keys.Schema e.subject e.version) ≡ Some found.0 =
        sym (other_last (keys.Schema e.subject e.version) (λ e. cc)) ∙ found.1 in
        let gives : entry_of (last_records log) found.0 ≡ Some e =
        sym (entry_same (last_records after) (last_records log) other_of_lasts found.0) ∙ found.2 in
        (stand log e).1 (found.0, place, gives)

    one_schema : two_schemas (last_records log) ≡ None → two_schemas (last_records after) ≡ None
    one_schema none =
        (one (entries (last_records after))).1 (λ e f in_e in_f same.
        (one (entries (last_records log))).0 none e f (stood e in_e) (stood f in_f) same)

    mark_read : (r : Record) → r.key ≡ keys.IdMark → is_opaque r ≡ false
    unfolding is_opaque
    mark_read r e = ap (λ k. is_version k && is_some r.value && is_none (value_of r)) e

    none_opaque : opaque (last_records log) ≡ None → (key : Key) (r : Record) → last after key ≡ Some r → is_opaque r ≡ false
    none_opaque none keys.IdMark r is = mark_read r ((greatest after keys.IdMark r).0 is).is_of_key
    none_opaque none (keys.Schema subject version) r is =
        (opaque_lasts log).0 none (keys.Schema subject version) r (sym (other_last (keys.Schema subject version) (λ e. cc)) ∙ is)
    none_opaque none (keys.Config scope) r is =
        (opaque_lasts log).0 none (keys.Config scope) r (sym (other_last (keys.Config scope) (λ e. cc)) ∙ is)
    none_opaque none (keys.Mode scope) r is =
        (opaque_lasts log).0 none (keys.Mode scope) r (sym (other_last (keys.Mode scope) (λ e. cc)) ∙ is)
    none_opaque none (keys.DeleteSubject subject) r is =
        (opaque_lasts log).0 none (keys.DeleteSubject subject) r (sym (other_last (keys.DeleteSubject subject) (λ e. cc)) ∙ is)
    none_opaque none keys.Noop r is = (opaque_lasts log).0 none keys.Noop r (sym (other_last keys.Noop (λ e. cc)) ∙ is)

    pub marks_leave_open : is_closed (last_records log) ≡ false → is_closed (last_records after) ≡ false
    marks_leave_open open_before =
        let unread : opaque (last_records after) ≡ None =
        (opaque_lasts after).1 (none_opaque (no_first (opaque (last_records log)) _ open_before)) in
        let two : two_schemas (last_records after) ≡ None = one_schema (no_second _ (two_schemas (last_records log)) open_before) in
        λ i. is_some (unread i) || is_some (two i)
