-- Which kinds of batches there are: one version, perhaps after a mark; removals after a mark; or records of other keys.
use Rattle.std.proofs.Common.{◌≡◌, ◌⊎◌, inl, inr, ℕ, suc, ◌<◌, nat_lt, ◌==◌, ◌||◌, Bool, true, false, cond, List, [], ◌∷◌, ◌++◌, map}
use Rattle.std.proofs.Common.{Option, Some, None, is_some, unwrap_or, Contains, eqb-true, arith, option_map, refl, sym, ◌∙◌}
use Rattle.std.proofs.lemmas.Bool.{false≢true, ltb-true, or_cases}
use Rattle.std.specs.List.{AllByRecursion, filter}
use Rattle.reg_rules.specs.avro_schema.Schema.{Meaning, schema_of}
use Rattle.reg_rules.specs.reg_entries.TwoSchemas.{NoneIsOneTextEach}
use Rattle.reg_rules.specs.reg_entries.declared.entry.Entry.{Entry}
use Rattle.reg_rules.specs.reg_fold.Closed.{id_of, is_closed}
use Rattle.reg_rules.specs.reg_fold.Entries.{EntriesAreInLimits, EntriesAreRead, entries}
use Rattle.reg_rules.specs.reg_fold.IdMark.{id_mark, last_id}
use Rattle.reg_rules.specs.reg_fold.InForce.{own_level}
use Rattle.reg_rules.specs.reg_fold.Opaque.{is_version}
use Rattle.reg_rules.specs.reg_fold.Standing.{greatest_version, live, named, version_in}
use Rattle.reg_rules.specs.reg_fold.declared.version_ref.VersionRef.{VersionRef}
use Rattle.reg_rules.specs.reg_fold.declared.version_ref.VersionRef.TheVariants.{Number}
use Rattle.reg_rules.specs.reg_modes.InForce.{mode, own_mode}
use Rattle.reg_rules.specs.reg_modes.Permitted.{granted, may_register, may_write}
use Rattle.reg_rules.specs.reg_records.Written.{IsVersionOrId}
use Rattle.reg_rules.specs.reg_records.declared.key.Key.TheVariants as keys
use Rattle.reg_rules.specs.reg_records.declared.value.Value.TheVariants as values
use Rattle.reg_rules.specs.reg_refusals.declared.reason.Reason.TheVariants as reasons
use Rattle.reg_rules.specs.reg_refusals.declared.refusal.Refusal.TheVariants as refusals
use Rattle.reg_rules.specs.Standing.{id_for, is_of, names_another, next_version, standing, version_meant}
use Rattle.reg_rules.specs.reg_entries.Sought.{has_schema, newest}
use Rattle.reg_rules.specs.Tests as test
use Rattle.reg_rules.specs.Tests.{refuse_if, refuse_unless}
use Rattle.reg_rules.specs.Writings.{removed}
use Rattle.reg_rules.specs.declared.writing.Writing.{Writing}
use Rattle.reg_rules.specs.reg_set.Records.{Records}
use Rattle.reg_leader.specs.Course.{Course}
use Rattle.reg_leader.specs.Step.{course_of, delete_all, delete_entry, delete_subject, delete_version}
use Rattle.reg_leader.specs.Step.{import_as, import_register, mark_over, marked, register, writes}
use Rattle.reg_leader.specs.declared.command.Command.{Command}
use Rattle.reg_leader.specs.declared.command.Command.TheVariants as commands
use Rattle.reg_leader.specs.declared.reply.Reply.{Reply}
use Rattle.reg_leader.proofs.Below.{NormalTextsReadBack}
use Rattle.reg_leader.proofs.Courses.{Of, of_found, of_passed, of_then}
use Rattle.reg_leader.proofs.Greatest.{greatest-stands}
use Rattle.reg_leader.proofs.Names.{NamesOnly, known-stands, meant-stands, named-only, named-stands, new_id-only, one_schema}
use Rattle.reg_leader.proofs.Passed.{if_passed, number_passed, open_passed, unless_passed}
use Rattle.reg_leader.proofs.Places.{next-free, none_there, one_there}

-- Below, rs are the last records before the batch.
-- some entry stands
abbrev pub OneStands : Records → Type 0
OneStands rs = (e : Entry) × Contains (entries rs) e

-- an entry has the id, or it is above the mark
abbrev pub MayBeGiven : Records → ℕ → Type 0
MayBeGiven rs id = ((e : Entry) × Contains (entries rs) e × (e.id ≡ id)) ⊎ (id_mark rs < id)

-- entries of one place have one id
abbrev pub PlacesHaveOneId : Records → Type 0
PlacesHaveOneId rs =
    (e f : Entry) → Contains (entries rs) e → Contains (entries rs) f → e.subject ≡ f.subject → e.version ≡ f.version → e.id ≡ f.id

-- an entry in the place has that id
abbrev pub KeepsId : Records → List ℕ → ℕ → ℕ → Type 0
KeepsId rs subject version id =
    PlacesHaveOneId rs → (f : Entry) → Contains (entries rs) f → f.subject ≡ subject → f.version ≡ version → f.id ≡ id

-- what is written before a version: a mark, or nothing where the place keeps its id
abbrev pub IsFirst : Records → List Writing → List ℕ → ℕ → ℕ → Type 0
IsFirst rs first subject version id = ((first ≡ []) × KeepsId rs subject version id) ⊎ ((first ≡ marked rs ∷ []) × OneStands rs)

pub record OneVersion (rs : Records) (ws : List Writing) : Type 0 where
  pub subject : List ℕ
  pub version : ℕ
  pub id : ℕ
  pub text : List ℕ
  pub deleted : Bool
  pub first : List Writing
  pub one_writing : ws
      ≡ first ++ record { key = keys.Schema subject version; value = Some (values.Schema subject version id text deleted) } ∷ []
  pub version_fits : IsVersionOrId version
  pub id_fits : IsVersionOrId id
  pub schema : Meaning
  pub is_read : schema_of text ≡ Some schema
  pub names_no_other : NamesOnly rs id schema.normal_text
  pub may_be_given : MayBeGiven rs id
  pub is_first : IsFirst rs first subject version id

-- a mark, and entries that are removed
pub record AreRemovals (rs : Records) (ws : List Writing) : Type 0 where
  pub removed_ones : List Entry
  pub are_removed : ws ≡ marked rs ∷ map removed removed_ones
  pub one_stands : OneStands rs

-- neither a version nor a mark
abbrev pub IsOther : Writing → Type 0
IsOther w = (is_version w.key ≡ false) × ¬ (w.key ≡ keys.IdMark)

abbrev pub AreSorted : Records → Reply → List Writing → Type 0
AreSorted rs reply ws = AllByRecursion IsOther ws ⊎ (OneVersion rs ws ⊎ AreRemovals rs ws)

-- the schema of a text whose normal text is known
meaning_of : (o : Option Meaning) (normal : List ℕ) → option_map (λ meaning. meaning.normal_text) o ≡ Some normal
    → (schema : Meaning) × (o ≡ Some schema) × (schema.normal_text ≡ normal)
meaning_of None normal is = absurd (cc)
meaning_of (Some schema) normal is = (schema, refl, inside schema.normal_text normal is)
  where
    inside : (a b : List ℕ) → Some a ≡ Some b → a ≡ b
    inside a b same = cc

-- an id that is imported may be given, and so may the id that a registration takes
imported-given : (rs : Records) (id : ℕ) → test.must_be_above_mark rs id ≡ granted → MayBeGiven rs id
imported-given rs id passed =
    elim (
    or_cases (is_some (named rs id)) (nat_lt (id_mark rs) id)
    (unless_passed (is_some (named rs id) || nat_lt (id_mark rs) id) (refusals.NotPermitted reasons.IdIsNotAboveMark) passed)) [
      | inl has ↦ elim (named rs id) as (λ o. named rs id ≡ o → is_some o ≡ true → MayBeGiven rs id) [
        | None ↦ λ _ some. absurd (false≢true some)
        | Some e ↦ λ is _. let found = named-stands rs id e is in inl (e, found.0, found.1)
      ] refl has
      | inr above ↦ inr (ltb-true (id_mark rs) id above)
    ]

new_id-given : (rs : Records) (normal : List ℕ) → MayBeGiven rs (id_for rs normal)
new_id-given rs normal =
    elim (id_of rs normal) as (λ o. id_of rs normal ≡ o → MayBeGiven rs (unwrap_or o (suc (last_id rs)))) [
      | None ↦ λ _. inr (omega arith)
      | Some id ↦ λ is. let found = known-stands rs normal id is in inl (found.0, found.1, found.2)
    ] refl

module _ (one : NoneIsOneTextEach) (read : EntriesAreRead) (fits : EntriesAreInLimits)
    (again : NormalTextsReadBack) (rs : Records) (n : ℕ) where
  abbrev Sorted : Course → Type 0
  Sorted c = Of (AreSorted rs) c

  writes-of : (first : List Writing) (subject text : List ℕ) (schema : Meaning) (id version : ℕ)
      → schema_of text ≡ Some schema → NamesOnly rs id schema.normal_text → MayBeGiven rs id
      → IsFirst rs first subject version id → Sorted (writes first subject schema.normal_text id version)
  writes-of first subject text schema id version known names given before =
      of_passed _ (test.must_be_number id) _ (λ i. of_passed _ (test.must_be_number version) _ (λ v. inr (inl (record {
        subject = subject;
        version = version;
        id = id;
        text = schema.normal_text;
        deleted = false;
        first = first;
        one_writing = refl;
        version_fits = number_passed version v;
        id_fits = number_passed id i;
        schema = schema;
        is_read = again text schema known;
        names_no_other = names;
        may_be_given = given;
        is_first = before;
      }))))

  -- the next version is free
  nothing_first : (subject : List ℕ) (id : ℕ) → IsFirst rs [] subject (next_version rs subject) id
  nothing_first subject id = inl (refl, λ _ f stands same at. absurd (next-free rs subject f stands same at))

  register-of : (subject text : List ℕ) → Sorted (register rs n subject text)
  register-of subject text =
      of_found _ (schema_of text) _ _ (λ schema known.
      of_then _ (test.must_have_valid_defaults schema) _ (
      of_passed _ (test.must_be_open rs) _ (λ is.
      of_then _ (test.must_have_offset n) _ (
      of_then _ (may_register (mode rs (Some subject)) _) _ (
      of_found _ (newest (filter (has_schema schema.normal_text) (live rs subject))) _ _ (λ same e. inl tt) (λ _ meets.
      let id = id_for rs schema.normal_text in
      let names = new_id-only rs (one_schema one rs (open_passed rs is)) schema.normal_text in
      writes-of [] subject text schema id (next_version rs subject) known names
      (new_id-given rs schema.normal_text) (nothing_first subject id)))))))
      (λ _. tt)

  over-first : (subject : List ℕ) (version id : ℕ) (o : Option Entry)
      → version_in (entries rs) subject (Number version) true ≡ o → IsFirst rs (mark_over rs id o) subject version id
  over-first subject version id None none = inl (refl, λ _ f stands same at. absurd (none_there rs subject version none f stands same at))
  over-first subject version id (Some e) is =
      let stands = meant-stands rs subject (Number version) e is in
      let place = one_there rs subject version e is in
      elim (e.id == id) as (λ b. (e.id == id) ≡ b → IsFirst rs (cond b [] (marked rs ∷ [])) subject version id) [
        | true ↦ λ same.
            inl (
              refl,
              λ single f f_stands subject_same at.
                  single f e f_stands stands (subject_same ∙ sym place.0) (at ∙ sym place.1) ∙ eqb-true e.id id same,
            )
        | false ↦ λ _. inr (refl, (e, stands))
      ] refl

  import_as-of : (subject text : List ℕ) (schema : Meaning) (id : ℕ) (version : Option ℕ) → schema_of text ≡ Some schema
      → NamesOnly rs id schema.normal_text → MayBeGiven rs id → Sorted (import_as rs subject schema.normal_text id version)
  import_as-of subject text schema id None known names given =
      of_found _ (newest (filter (is_of id schema.normal_text) (live rs subject))) _ _ (λ same e. inl tt) (λ _.
      writes-of [] subject text schema id (next_version rs subject) known names given (nothing_first subject id))
  import_as-of subject text schema id (Some version) known names given =
      of_found _ (version_in (entries rs) subject (Number version) false) _ _ (λ e _.
      of_then _ (refuse_unless (is_of id schema.normal_text e) (refusals.NotPermitted reasons.VersionIsOccupied)) _ (inl tt)) (λ _.
      let over = version_in (entries rs) subject (Number version) true in
      writes-of (mark_over rs id over) subject text schema id version known names given (over-first subject version id over refl))

  import-of : (subject text : List ℕ) (id : ℕ) (version : Option ℕ) → Sorted (import_register rs n subject text id version)
  import-of subject text id version =
      of_found _ (schema_of text) _ _ (λ schema known.
      of_passed _ (test.must_be_open rs) _ (λ is.
      of_then _ (test.must_have_offset n) _ (
      of_then _ (may_register (mode rs (Some subject)) _) _ (
      of_passed _ (test.must_name_no_other rs id schema.normal_text) _ (λ names.
      of_passed _ (test.must_be_above_mark rs id) _ (λ above.
      let no_other = if_passed (names_another rs id schema.normal_text) (refusals.NotPermitted reasons.IdNamesAnotherSchema) names in
      import_as-of subject text schema id version known
      (named-only rs (one_schema one rs (open_passed rs is)) id schema.normal_text no_other) (imported-given rs id above)))))))
      (λ _. tt)

  -- a soft delete writes the version's own id and text
  delete_entry-of : is_closed rs ≡ false → (permanent : Bool) (e : Entry) → Contains (entries rs) e → Sorted (delete_entry rs permanent e)
  delete_entry-of closed false e stands =
      let found = meaning_of (schema_of e.text) e.normal (read rs e stands) in
      of_then _ (refuse_if e.soft refusals.VersionSoftDeleted) _ (inr (inl (record {
        subject = e.subject;
        version = e.version;
        id = e.id;
        text = e.text;
        deleted = true;
        first = [];
        one_writing = refl;
        version_fits = (fits rs e stands).0;
        id_fits = (fits rs e stands).1;
        schema = found.0;
        is_read = found.1;
        names_no_other = λ f there same. one_schema one rs closed f e there stands same ∙ sym found.2;
        may_be_given = inl (e, stands, refl);
        is_first = inl (refl, λ single f f_stands same at. single f e f_stands stands same at);
      })))
  delete_entry-of closed true e stands =
      of_then _ (refuse_unless e.soft refusals.VersionNotSoftDeleted) _
      (inr (inr (record { removed_ones = e ∷ []; are_removed = refl; one_stands = (e, stands) })))

  delete_version-of : (subject : List ℕ) (version : VersionRef) (permanent : Bool) → Sorted (delete_version rs n subject version permanent)
  delete_version-of subject version permanent =
      of_passed _ (test.must_be_open rs) _ (λ is.
      of_then _ (test.must_have_offset n) _ (
      of_then _ (may_write (mode rs (Some subject))) _ (
      of_then _ (test.must_stand rs subject) _ (
      of_found _ (version_meant rs subject version) _ _
      (λ e meant. delete_entry-of (open_passed rs is) permanent e (meant-stands rs subject version e meant)) (λ _. tt)))))

  delete_all-of : (subject : List ℕ) (permanent : Bool) (greatest : ℕ)
      → greatest_version rs subject ≡ Some greatest → Sorted (delete_all rs subject permanent greatest)
  delete_all-of subject false greatest is = of_then _ (test.must_be_live rs subject) _ (inl ((refl, λ e. cc), tt))
  delete_all-of subject true greatest is =
      of_then _ (test.must_not_be_live rs subject) _ (
      inr (inr (record { removed_ones = standing rs subject; are_removed = refl; one_stands = greatest-stands rs subject greatest is })))

  delete_subject-of : (subject : List ℕ) (permanent : Bool) → Sorted (delete_subject rs n subject permanent)
  delete_subject-of subject permanent =
      of_then _ (test.must_be_open rs) _ (
      of_then _ (test.must_have_offset n) _ (
      of_then _ (may_write (mode rs (Some subject))) _ (
      of_found _ (greatest_version rs subject) _ _ (λ greatest is. delete_all-of subject permanent greatest is) (λ _. tt))))

  pub course-sorted : (c : Command) → Sorted (course_of rs n c)
  course-sorted (commands.Register subject text) = register-of subject text
  course-sorted (commands.ImportRegister subject text id version) = import-of subject text id version
  course-sorted (commands.DeleteVersion subject version permanent) = delete_version-of subject version permanent
  course-sorted (commands.DeleteSubject subject permanent) = delete_subject-of subject permanent
  course-sorted (commands.SetLevel scope level) =
      of_then _ (test.must_be_open rs) _
      (of_then _ (test.must_have_offset n) _ (of_then _ (may_write (mode rs scope)) _ (inl ((refl, λ e. cc), tt))))
  course-sorted (commands.ClearLevel subject) =
      of_then _ (test.must_be_open rs) _ (of_then _ (test.must_have_offset n) _ (of_then _ (may_write (mode rs (Some subject))) _ (
      of_found _ (own_level rs (Some subject)) _ _ (λ level _. inl ((refl, λ e. cc), tt)) (λ _. tt))))
  course-sorted (commands.SetMode scope mode force) =
      of_then _ (test.must_be_open rs) _
      (of_then _ (test.must_have_offset n) _ (of_then _ (test.must_allow_mode rs scope mode force) _ (inl ((refl, λ e. cc), tt))))
  course-sorted (commands.ClearMode subject) =
      of_then _ (test.must_be_open rs) _ (of_then _ (test.must_have_offset n) _ (
      of_found _ (own_mode rs (Some subject)) _ _ (λ mode _. inl ((refl, λ e. cc), tt)) (λ _. tt)))
  course-sorted commands.Noop = of_then _ (test.must_be_open rs) _ (of_then _ (test.must_have_offset n) _ (inl ((refl, λ e. cc), tt)))
