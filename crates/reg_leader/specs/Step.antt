-- What each command replies and writes: its tests in their order, and what it does once none fails.
-- Below, rs are the last records of the log and n is the next offset.
use Rattle.std.specs.Prelude.{ℕ, List, [], ◌∷◌, ◌++◌, Bool, true, false, ◌==◌, Option, Some, None, map, if◌then◌else◌}
use Rattle.std.specs.List.{filter}
use Rattle.reg_rules.specs.avro_schema.Schema.{Meaning, schema_of}
use Rattle.reg_rules.specs.reg_entries.declared.entry.Entry.{Entry}
use Rattle.reg_rules.specs.reg_fold.Entries.{entries}
use Rattle.reg_rules.specs.reg_fold.IdMark.{last_id}
use Rattle.reg_rules.specs.reg_fold.InForce.{Scope, level, own_level}
use Rattle.reg_rules.specs.reg_fold.Standing.{live, greatest_version, version_in}
use Rattle.reg_rules.specs.reg_fold.declared.version_ref.VersionRef.{VersionRef}
use Rattle.reg_rules.specs.reg_fold.declared.version_ref.VersionRef.TheVariants.{Latest, Number}
use Rattle.reg_rules.specs.reg_level_names.declared.level.Level.{Level}
use Rattle.reg_rules.specs.reg_modes.InForce.{mode, own_mode}
use Rattle.reg_rules.specs.reg_modes.Permitted.{may_register, may_write}
use Rattle.reg_rules.specs.reg_modes.declared.mode.Mode.{Mode}
use Rattle.reg_rules.specs.reg_records.declared.record.Record.{Record}
use Rattle.reg_rules.specs.reg_refusals.declared.reason.Reason.TheVariants as reasons
use Rattle.reg_rules.specs.reg_refusals.declared.refusal.Refusal.{Refusal}
use Rattle.reg_rules.specs.reg_refusals.declared.refusal.Refusal.TheVariants as refusals
use Rattle.reg_rules.specs.reg_set.Records.{Records}
use Rattle.reg_leader.specs.Course.{Course, Refused, Does, IfMet, IsOutcome, ◌▸◌, where_found}
use Rattle.reg_rules.specs.Standing.{id_for, is_of, next_version, standing, version_meant}
use Rattle.reg_rules.specs.reg_entries.Sought.{has_schema, newest, texts_of}
use Rattle.reg_rules.specs.Tests as test
use Rattle.reg_rules.specs.Tests.{refuse_if, refuse_unless}
use Rattle.reg_rules.specs.Writings.{deleted_again, deleted_up_to, id_marked, level_cleared}
use Rattle.reg_rules.specs.Writings.{level_set, mode_cleared, mode_set, no_operation}
use Rattle.reg_rules.specs.Writings.{removed, version_of}
use Rattle.reg_rules.specs.declared.writing.Writing.{Writing}
use Rattle.reg_leader.specs.declared.command.Command.{Command}
use Rattle.reg_leader.specs.declared.command.Command.TheVariants as commands
use Rattle.reg_leader.specs.declared.reply.Reply.{Reply}
use Rattle.reg_leader.specs.declared.reply.Reply.TheVariants as replies

-- what follows for the schema that the text means, where it means one
abbrev pub where_read : List ℕ → (Meaning → Course) → Course
where_read text found = where_found (schema_of text) found (Refused refusals.InvalidSchema)

-- the mark of ids that is written where an entry is removed or written over
abbrev pub marked : Records → Writing
marked rs = id_marked (last_id rs)

-- a schema is written as that version, with that id, after what is written first
abbrev pub writes : List Writing → List ℕ → List ℕ → ℕ → ℕ → Course
writes first subject normal id version =
    test.must_be_number id
    ▸ test.must_be_number version
    ▸ Does (replies.Id id) (first ++ version_of subject version id normal ∷ [])

-- the entry that is live there is this schema with this id, or the version is occupied
abbrev pub is_there : ℕ → List ℕ → Entry → Course
is_there id normal e = refuse_unless (is_of id normal e) (refusals.NotPermitted reasons.VersionIsOccupied) ▸ Does (replies.Id id) []

-- a mark, where an entry of another id stands in the place
abbrev pub mark_over : Records → ℕ → Option Entry → List Writing
mark_over rs id None = []
mark_over rs id (Some e) = if e.id == id then [] else (marked rs ∷ [])

-- an import without a version, and with one, which may write over a soft version
abbrev pub import_as : Records → List ℕ → List ℕ → ℕ → Option ℕ → Course
import_as rs subject normal id None =
    where_found (newest (filter (is_of id normal) (live rs subject))) (λ same. Does (replies.Id id) []) (
    writes [] subject normal id (next_version rs subject)
    )
import_as rs subject normal id (Some version) =
    where_found (version_in (entries rs) subject (Number version) false) (is_there id normal) (
    writes (mark_over rs id (version_in (entries rs) subject (Number version) true)) subject normal id version
    )

-- a soft delete of an entry, and a permanent one: its version is replied
abbrev pub delete_softly : Entry → Course
delete_softly e = refuse_if e.soft refusals.VersionSoftDeleted ▸ Does (replies.Version e.version) (deleted_again e ∷ [])

abbrev pub delete_permanently : Records → Entry → Course
delete_permanently rs e =
    refuse_unless e.soft refusals.VersionNotSoftDeleted ▸ Does (replies.Version e.version) (marked rs ∷ removed e ∷ [])

-- the refusal where the version that is named isn't there
abbrev pub no_version : VersionRef → Refusal
no_version Latest = refusals.SubjectNotFound
no_version (Number version) = refusals.VersionNotFound

-- a soft delete of a subject, where that is its greatest version, and a permanent one: their versions are replied
abbrev pub delete_all_softly : Records → List ℕ → ℕ → Course
delete_all_softly rs subject greatest =
    test.must_be_live rs subject
    ▸ Does (replies.Versions (map (λ e. e.version) (live rs subject))) (deleted_up_to subject greatest ∷ [])

abbrev pub delete_all_permanently : Records → List ℕ → Course
delete_all_permanently rs subject =
    test.must_not_be_live rs subject
    ▸ Does (replies.Versions (map (λ e. e.version) (standing rs subject))) (marked rs ∷ map removed (standing rs subject))

-- which of the two a delete is
abbrev pub delete_entry : Records → Bool → Entry → Course
delete_entry rs false e = delete_softly e
delete_entry rs true e = delete_permanently rs e

abbrev pub delete_all : Records → List ℕ → Bool → ℕ → Course
delete_all rs subject false greatest = delete_all_softly rs subject greatest
delete_all rs subject true greatest = delete_all_permanently rs subject

module _ (rs : Records) (n : ℕ) where
  -- the level is the one in force, and the old versions are the live ones
  abbrev pub register : List ℕ → List ℕ → Course
  register subject text =
      where_read text (λ schema.
      test.must_have_valid_defaults schema
      ▸ test.must_be_open rs
      ▸ test.must_have_offset n
      ▸ may_register (mode rs (Some subject)) false
      ▸ where_found (newest (filter (has_schema schema.normal_text) (live rs subject))) (λ same. Does (replies.Id same.id) []) (
      IfMet (level rs (Some subject)) schema.normal_text (texts_of (live rs subject)) (
      writes [] subject schema.normal_text (id_for rs schema.normal_text) (next_version rs subject)
      )))

  -- defaults aren't looked at
  abbrev pub import_register : List ℕ → List ℕ → ℕ → Option ℕ → Course
  import_register subject text id version =
      where_read text (λ schema.
      test.must_be_open rs
      ▸ test.must_have_offset n
      ▸ may_register (mode rs (Some subject)) true
      ▸ test.must_name_no_other rs id schema.normal_text
      ▸ test.must_be_above_mark rs id
      ▸ import_as rs subject schema.normal_text id version
      )

  abbrev pub delete_version : List ℕ → VersionRef → Bool → Course
  delete_version subject version permanent =
      test.must_be_open rs
      ▸ test.must_have_offset n
      ▸ may_write (mode rs (Some subject))
      ▸ test.must_stand rs subject
      ▸ where_found (version_meant rs subject version) (delete_entry rs permanent) (Refused (no_version version))

  abbrev pub delete_subject : List ℕ → Bool → Course
  delete_subject subject permanent =
      test.must_be_open rs
      ▸ test.must_have_offset n
      ▸ may_write (mode rs (Some subject))
      ▸ where_found (greatest_version rs subject) (delete_all rs subject permanent) (Refused refusals.SubjectNotFound)

  abbrev pub set_level : Scope → Level → Course
  set_level scope level =
      test.must_be_open rs
      ▸ test.must_have_offset n
      ▸ may_write (mode rs scope)
      ▸ Does (replies.Level level) (level_set scope level ∷ [])

  abbrev pub clear_level : List ℕ → Course
  clear_level subject =
      test.must_be_open rs
      ▸ test.must_have_offset n
      ▸ may_write (mode rs (Some subject))
      ▸ where_found (own_level rs (Some subject))
      (λ level. Does (replies.LevelRemoved level) (level_cleared subject ∷ [])) (Refused refusals.SubjectHasNoLevel)

  abbrev pub set_mode : Scope → Mode → Bool → Course
  set_mode scope mode force =
      test.must_be_open rs
      ▸ test.must_have_offset n
      ▸ test.must_allow_mode rs scope mode force
      ▸ Does (replies.Mode mode) (mode_set scope mode ∷ [])

  abbrev pub clear_mode : List ℕ → Course
  clear_mode subject =
      test.must_be_open rs
      ▸ test.must_have_offset n
      ▸ where_found (own_mode rs (Some subject)) (λ mode. Does (replies.ModeRemoved mode) (mode_cleared subject ∷ []))
      (Refused refusals.SubjectHasNoMode)

  abbrev pub no_op : Course
  no_op = test.must_be_open rs ▸ test.must_have_offset n ▸ Does replies.Nothing (no_operation ∷ [])

  -- what each command comes to
  abbrev pub course_of : Command → Course
  course_of (commands.Register subject text) = register subject text
  course_of (commands.ImportRegister subject text id version) = import_register subject text id version
  course_of (commands.DeleteVersion subject version permanent) = delete_version subject version permanent
  course_of (commands.DeleteSubject subject permanent) = delete_subject subject permanent
  course_of (commands.SetLevel scope level) = set_level scope level
  course_of (commands.ClearLevel subject) = clear_level subject
  course_of (commands.SetMode scope mode force) = set_mode scope mode force
  course_of (commands.ClearMode subject) = clear_mode subject
  course_of commands.Noop = no_op

-- the command's reply and batch, at the offsets n, n + 1 and so on; a refusal has an empty batch
unfoldable pub IsStep : Records → ℕ → Command → Reply → List Record → Type 0
IsStep rs n command reply batch = IsOutcome n (course_of rs n command) reply batch
