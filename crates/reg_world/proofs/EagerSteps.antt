-- One record more, by the last records and one after the other.
use Rattle.std.proofs.Common.{◌≡◌, ℕ, ◌<◌, ◌≤◌, Bool, true, false, cond, ◌&&◌, ◌||◌, nat_le, nat_lt, List, Option}
use Rattle.std.proofs.Common.{Some, None, option_map, option_and_then, bytes_eq, refl, sym, ap, ◌∙◌, arith}
use Rattle.std.proofs.lemmas.Bool.{false≢true, le-leb}
use Rattle.std.proofs.lemmas.Slice.Eq.{bytes_eq-Decides}
use Rattle.std.specs.FinSet.{insert}
use Rattle.std.specs.Option.{option_map_or, unwrap_or}
use Rattle.std.specs.Ordering.{eq_by_cmp}
use Rattle.reg_alike.specs.reg_values.Value.{value_of}
use Rattle.reg_alike.specs.reg_records.declared.key.Key.{Key}
use Rattle.reg_alike.specs.reg_records.declared.key.Key.TheVariants as keys
use Rattle.reg_alike.specs.reg_records.declared.record.Record.{Record}
use Rattle.reg_alike.specs.reg_records.declared.value.Value.{Value}
use Rattle.reg_alike.specs.reg_records.declared.value.Value.TheVariants as values
use Rattle.reg_alike.specs.reg_set.LastRecords.{last, last_records}
use Rattle.reg_alike.specs.reg_set.Records.{Records}
use Rattle.reg_alike.specs.reg_entries.EntryOrder.{Place, place_cmp}
use Rattle.reg_alike.specs.reg_entries.Flagged.{with_soft}
use Rattle.reg_alike.specs.reg_entries.declared.entry.Entry.{Entry}
use Rattle.reg_alike.specs.reg_fold.Entries.{entry_of, own_entry_in}
use Rattle.reg_alike.specs.reg_fold.Entries as of_lasts
use Rattle.reg_alike.specs.reg_fold.Covers.{covers, is_soft_deleted}
use Rattle.reg_world.specs.Eager.{after_key, flagged_by, flagged_with, put_by}
use Rattle.reg_world.proofs.EagerPlaces.{at_itself, same_place, there}
use Rattle.reg_world.proofs.Tops.{IsAbove, LastLaws, other_last, top_last}

-- whether that delete, if there is one, flags what stands at a version and offset
abbrev pub flag : Option Record → ℕ → ℕ → Bool
flag o version offset = option_map_or (λ r. option_map_or (λ value. covers r.offset value version offset) (value_of r) false) o false

-- the last soft delete of a subject
abbrev pub delete_of : Records → List ℕ → Option Record
delete_of log subject = last log (keys.DeleteSubject subject)

-- an entry as the last soft delete of its subject leaves it
abbrev pub reflagged : Records → Entry → Entry
reflagged log e = with_soft (e.soft || flag (delete_of log e.subject) e.version e.offset) e

-- the entry at a place, by the last record there and the last soft delete of its subject
abbrev pub seen : Records → Place → Option Entry
seen log p = option_and_then (λ x. option_map (reflagged log) (put_by x)) (last log (keys.Schema p.0 p.1))

-- an entry has the offset of its record
at_offset : (x : Record) (e : Entry) → put_by x ≡ Some e → e.offset ≡ x.offset
at_offset x e is =
    elim (value_of x)
    as (λ o. option_and_then (own_entry_in x.offset) o ≡ Some e
    → e.offset ≡ x.offset) [ None ↦ λ h. absurd (cc) | Some v ↦ of_value v ] is
  where
    of_value : (v : Value) → own_entry_in x.offset v ≡ Some e → e.offset ≡ x.offset
    of_value (values.Schema subject version id schema deleted) h = ap (λ o. (unwrap_or o e).offset) (sym h)
    of_value (values.Config level) h = absurd (cc)
    of_value (values.Mode mode) h = absurd (cc)
    of_value (values.DeleteSubject subject version) h = absurd (cc)
    of_value values.Noop h = absurd (cc)
    of_value (values.IdMark id) h = absurd (cc)

-- a delete flags nothing that is not before it
covers-false : (at : ℕ) (value : Value) (version offset : ℕ) → at < offset → covers at value version offset ≡ false
covers-false at (values.DeleteSubject subject greatest) version offset h =
    let after : nat_lt offset at ≡ false = grind arith in ap (λ b. nat_le version greatest && b) after ∙ and-false (nat_le version greatest)
  where
    and-false : (b : Bool) → (b && false) ≡ false
    and-false true = refl
    and-false false = refl
covers-false at (values.Schema subject version' id schema deleted) version offset h = refl
covers-false at (values.Config level) version offset h = refl
covers-false at (values.Mode mode) version offset h = refl
covers-false at values.Noop version offset h = refl
covers-false at (values.IdMark id) version offset h = refl

or-false : (b : Bool) → (b || false) ≡ b
or-false true = refl
or-false false = refl

or-true : (b : Bool) → (b || true) ≡ true
or-true true = refl
or-true false = refl

-- a soft delete names a version that no entry of its subject is above
abbrev pub IsFit : Records → Key → Record → Type 0
IsFit log (keys.DeleteSubject subject) r =
    (greatest : ℕ) × (value_of r ≡ Some (values.DeleteSubject subject greatest))
    × ((p : Place) (e : Entry) → seen log p ≡ Some e → e.subject ≡ subject → e.version ≤ greatest)
IsFit log (keys.Schema subject version) r = Unit {0}
IsFit log (keys.Config scope) r = Unit {0}
IsFit log (keys.Mode scope) r = Unit {0}
IsFit log keys.Noop r = Unit {0}
IsFit log keys.IdMark r = Unit {0}

module _ (l : LastLaws) where
  gives : (log : Records) (offset : ℕ) (v : Value)
      → of_lasts.entry_in (last_records log) offset v ≡ option_map (reflagged log) (own_entry_in offset v)
  unfolding is_soft_deleted
  gives log offset (values.Schema subject version id schema deleted) =
      ap
      (λ o.
      Some (
      record {
        subject = subject;
        version = version;
        id = id;
        text = schema;
        normal = of_lasts.normal_of schema;
        offset = offset;
        soft = deleted || flag o version offset;
      }))
      (l.lasts log (keys.DeleteSubject subject))
  gives log offset (values.Config level) = refl
  gives log offset (values.Mode mode) = refl
  gives log offset (values.DeleteSubject subject version) = refl
  gives log offset values.Noop = refl
  gives log offset (values.IdMark id) = refl

  given : (log : Records) (x : Record) → entry_of (last_records log) x ≡ option_map (reflagged log) (put_by x)
  unfolding entry_of
  given log x =
      elim (value_of x) as (λ o.
      option_and_then (of_lasts.entry_in (last_records log) x.offset) o
      ≡ option_map (reflagged log) (option_and_then (own_entry_in x.offset) o)) [ None ↦ refl | Some v ↦ gives log x.offset v ]

  pub there_seen : (log : Records) (p : Place) → there log p ≡ seen log p
  there_seen log p =
      elim (last log (keys.Schema p.0 p.1)) as (λ o.
      option_and_then (entry_of (last_records log)) o
      ≡ option_and_then (λ x. option_map (reflagged log) (put_by x)) o) [ None ↦ refl | Some x ↦ given log x ]

  -- where neither the place nor a soft delete is written, nothing changes
  untouched : (log : Records) (r : Record) (p : Place) → (r.key ≡ keys.Schema p.0 p.1 → ⊥)
      → ((subject : List ℕ) → r.key ≡ keys.DeleteSubject subject → ⊥) → seen log p ≡ seen (insert log r) p
  untouched log r p away quiet =
      let at = other_last l log r (keys.Schema p.0 p.1) away in
      let deletes : (subject : List ℕ) → delete_of (insert log r) subject ≡ delete_of log subject =
      λ subject. other_last l log r (keys.DeleteSubject subject) (quiet subject) in
      sym (λ i.
      option_and_then (λ x. option_map (λ e. with_soft (e.soft || flag (deletes e.subject i) e.version e.offset) e) (put_by x)) (at i))

  -- no delete flags what comes after it
  flag-false : (log : Records) (r : Record) (subject : List ℕ) (version : ℕ)
      → IsAbove log r → flag (delete_of log subject) version r.offset ≡ false
  flag-false log r subject version above =
      elim (delete_of log subject) as (λ o. delete_of log subject ≡ o → flag o version r.offset ≡ false) [
        | None ↦ λ _. refl
        | Some d ↦ λ is.
            let before = above d ((l.greatest log (keys.DeleteSubject subject) d).0 is).is_in_set in
            elim (value_of d)
            as (λ o.
            option_map_or (λ value. covers d.offset value version r.offset) o false
            ≡ false) [ None ↦ refl | Some v ↦ covers-false d.offset v version r.offset before ]
      ] refl

  -- a version's record
  at_version : (log : Records) (r : Record) (p : Place) → IsAbove log r → r.key ≡ keys.Schema p.0 p.1 → put_by r ≡ seen (insert log r) p
  at_version log r p above key =
      let here : last (insert log r) (keys.Schema p.0 p.1) ≡ Some r = ap (last (insert log r)) (sym key) ∙ top_last l log r above in
      sym (ap (option_and_then (λ x. option_map (reflagged (insert log r)) (put_by x))) here ∙ unflagged (put_by r) refl)
    where
      quiet : (subject : List ℕ) → delete_of (insert log r) subject ≡ delete_of log subject
      quiet subject =
          other_last l log r (keys.DeleteSubject subject)
          (λ e. let f : keys.Schema p.0 p.1 ≡ keys.DeleteSubject subject = sym key ∙ e in cc)

      unflagged : (o : Option Entry) → put_by r ≡ o → option_map (reflagged (insert log r)) o ≡ o
      unflagged None is = refl
      unflagged (Some e) is =
          let unseen : flag (delete_of (insert log r) e.subject) e.version e.offset ≡ false =
          ap (λ d. flag d e.version e.offset) (quiet e.subject)
          ∙ ap (flag (delete_of log e.subject) e.version) (at_offset r e is)
          ∙ flag-false log r e.subject e.version above in
          ap (λ b. Some (with_soft (e.soft || b) e)) unseen ∙ ap (λ b. Some (with_soft b e)) (or-false e.soft)

  -- an entry before a soft delete
  module _ (log : Records) (r : Record) (subject : List ℕ) (greatest : ℕ) (above : IsAbove log r)
      (key : r.key ≡ keys.DeleteSubject subject) (value : value_of r ≡ Some (values.DeleteSubject subject greatest)) where
    -- the delete's own flag
    new_flag : (version offset : ℕ) → offset < r.offset → version ≤ greatest → flag (delete_of (insert log r) subject) version offset ≡ true
    new_flag version offset before reach =
        let here : delete_of (insert log r) subject ≡ Some r = ap (last (insert log r)) (sym key) ∙ top_last l log r above in
        let after : nat_lt offset r.offset ≡ true = grind arith in
        ap (λ o. flag o version offset) here ∙ ap (λ o. option_map_or (λ value. covers r.offset value version offset) o false) value
        ∙ ap (λ b. b && nat_lt offset r.offset) (le-leb version greatest reach) ∙ after

    own : (e : Entry) → e.subject ≡ subject → e.offset < r.offset → e.version ≤ greatest
        → flagged_by r (reflagged log e) ≡ reflagged (insert log r) e
    own e is before reach =
        let flagged : flag (delete_of (insert log r) e.subject) e.version e.offset ≡ true =
        ap (λ s. flag (delete_of (insert log r) s) e.version e.offset) is ∙ new_flag e.version e.offset before reach in
        let same : bytes_eq e.subject subject ≡ true = (bytes_eq-Decides e.subject subject).1 is in
        ap (λ o. option_map_or (λ value. flagged_with value (reflagged log e)) o (reflagged log e)) value
        ∙ ap (λ b. cond (b && nat_le e.version greatest) (with_soft true e) (reflagged log e)) same
        ∙ ap (λ b. cond b (with_soft true e) (reflagged log e)) (le-leb e.version greatest reach)
        ∙ sym (ap (λ b. with_soft (e.soft || b) e) flagged ∙ ap (λ b. with_soft b e) (or-true e.soft))

    other : (e : Entry) → (e.subject ≡ subject → ⊥) → bytes_eq e.subject subject ≡ false
        → flagged_by r (reflagged log e) ≡ reflagged (insert log r) e
    other e apart away =
        let same : delete_of (insert log r) e.subject ≡ delete_of log e.subject = other_last l log r (keys.DeleteSubject e.subject)
        (λ is. apart (let f : keys.DeleteSubject e.subject ≡ keys.DeleteSubject subject = sym is ∙ key in cc)) in
        ap (λ o. option_map_or (λ value. flagged_with value (reflagged log e)) o (reflagged log e)) value
        ∙ ap (λ b. cond (b && nat_le e.version greatest) (with_soft true e) (reflagged log e)) away
        ∙ ap (λ d. with_soft (e.soft || flag d e.version e.offset) e) (sym same)

    pub flags : (e : Entry) → e.offset < r.offset → (e.subject ≡ subject → e.version ≤ greatest)
        → flagged_by r (reflagged log e) ≡ reflagged (insert log r) e
    flags e before reach =
        elim (bytes_eq e.subject subject) as (λ b.
        bytes_eq e.subject subject ≡ b → flagged_by r (reflagged log e) ≡ reflagged (insert log r) e) [
          | true ↦ λ is. let same = (bytes_eq-Decides e.subject subject).0 is in own e same before (reach same)
          | false ↦ λ away. other e (λ is. false≢true (sym away ∙ (bytes_eq-Decides e.subject subject).1 is)) away
        ] refl

    pub deleted : (p : Place) → ((e : Entry) → seen log p ≡ Some e → e.subject ≡ subject → e.version ≤ greatest)
        → option_map (flagged_by r) (seen log p) ≡ seen (insert log r) p
    deleted p fit =
        elim (last log (keys.Schema p.0 p.1)) as (λ o. last log (keys.Schema p.0 p.1) ≡ o
        → ((e : Entry) → option_and_then (λ x. option_map (reflagged log) (put_by x)) o ≡ Some e
        → e.subject ≡ subject → e.version ≤ greatest)
        → option_map (flagged_by r) (option_and_then (λ x. option_map (reflagged log) (put_by x)) o)
        ≡ option_and_then (λ x. option_map (reflagged (insert log r)) (put_by x)) o) [
          | None ↦ λ _ _. refl
          | Some x ↦ λ here reach. of_record x (above x ((l.greatest log (keys.Schema p.0 p.1) x).0 here).is_in_set) (put_by x) refl reach
        ] refl fit
        ∙ ap (option_and_then (λ x. option_map (reflagged (insert log r)) (put_by x))) (sym place)
      where
        place : last (insert log r) (keys.Schema p.0 p.1) ≡ last log (keys.Schema p.0 p.1)
        place = other_last l log r (keys.Schema p.0 p.1) (λ e. let f : keys.DeleteSubject subject ≡ keys.Schema p.0 p.1 = sym key ∙ e in cc)

        of_record : (x : Record) → x.offset < r.offset → (o : Option Entry) → put_by x ≡ o
            → ((e : Entry) → option_map (reflagged log) o ≡ Some e → e.subject ≡ subject → e.version ≤ greatest)
            → option_map (flagged_by r) (option_map (reflagged log) o) ≡ option_map (reflagged (insert log r)) o
        of_record x before None is reach = refl
        of_record x before (Some e) is reach =
            let at = at_offset x e is in ap Some (flags e (omega (arith, at, before)) (reach (reflagged log e) refl))

  by_key : (log : Records) (r : Record) (p : Place) (k : Key) → r.key ≡ k → IsAbove log r
      → IsFit log k r → after_key k p (seen log p) r ≡ seen (insert log r) p
  by_key log r p (keys.Schema subject version) key above fit =
      elim (eq_by_cmp place_cmp p (subject, version)) as (λ b.
      eq_by_cmp place_cmp p (subject, version) ≡ b → cond b (put_by r) (seen log p) ≡ seen (insert log r) p) [
        | true ↦ λ is. at_version log r p above (key ∙ ap (λ (q : Place). keys.Schema q.0 q.1) (sym (same_place p (subject, version) is)))
        | false ↦ λ away. untouched log r p
            (λ e. let f : keys.Schema subject version ≡ keys.Schema p.0 p.1 = sym key ∙ e in
            let s : subject ≡ p.0 = cc in
            let v : version ≡ p.1 = cc in
            false≢true (sym away ∙ ap (eq_by_cmp place_cmp p) (λ i. (s i, v i)) ∙ at_itself p))
            (λ s e. let f : keys.Schema subject version ≡ keys.DeleteSubject s = sym key ∙ e in cc)
      ] refl
  by_key log r p (keys.DeleteSubject subject) key above fit = deleted log r subject fit.0 above key fit.1 p (fit.2 p)
  by_key log r p (keys.Config scope) key above fit =
      untouched log r p (λ e. let f : keys.Config scope ≡ keys.Schema p.0 p.1 = sym key ∙ e in cc)
      (λ s e. let f : keys.Config scope ≡ keys.DeleteSubject s = sym key ∙ e in cc)
  by_key log r p (keys.Mode scope) key above fit =
      untouched log r p (λ e. let f : keys.Mode scope ≡ keys.Schema p.0 p.1 = sym key ∙ e in cc)
      (λ s e. let f : keys.Mode scope ≡ keys.DeleteSubject s = sym key ∙ e in cc)
  by_key log r p keys.Noop key above fit =
      untouched log r p (λ e. let f : keys.Noop ≡ keys.Schema p.0 p.1 = sym key ∙ e in cc)
      (λ s e. let f : keys.Noop ≡ keys.DeleteSubject s = sym key ∙ e in cc)
  by_key log r p keys.IdMark key above fit =
      untouched log r p (λ e. let f : keys.IdMark ≡ keys.Schema p.0 p.1 = sym key ∙ e in cc)
      (λ s e. let f : keys.IdMark ≡ keys.DeleteSubject s = sym key ∙ e in cc)

  pub one_record : (log : Records) (r : Record) (p : Place) → IsAbove log r
      → IsFit log r.key r → after_key r.key p (seen log p) r ≡ seen (insert log r) p
  one_record log r p above fit = by_key log r p r.key refl above fit
