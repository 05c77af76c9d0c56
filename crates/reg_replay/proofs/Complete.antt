-- No batch that a command writes is missed: command by command.
use Rattle.std.proofs.Common.{◌≡◌, ℕ, suc, Bool, true, false, cond, List, [], ◌∷◌, map, Option, Some, None, is_some, option_map, ◌++◌, ◌==◌}
use Rattle.std.proofs.Common.{refl, sym, ap, subst, ◌∙◌}
use Rattle.reg_leader.specs.avro_schema.Schema.{Meaning, schema_of, is_schema}
use Rattle.reg_leader.specs.reg_entries.Sought.{has_live, has_schema, newest, texts_of}
use Rattle.reg_leader.specs.reg_entries.declared.entry.Entry.{Entry}
use Rattle.std.specs.List.{filter}
use Rattle.reg_leader.specs.reg_fold.Entries.{EntriesAreInLimits, EntriesAreOfPlaces, EntriesAreRead, entries}
use Rattle.reg_leader.specs.reg_fold.InForce.{Scope, level, own_level}
use Rattle.reg_leader.specs.reg_fold.Standing.{greatest_version, live, version_in}
use Rattle.reg_leader.specs.reg_fold.declared.version_ref.VersionRef.{VersionRef}
use Rattle.reg_leader.specs.reg_fold.declared.version_ref.VersionRef.TheVariants.{Number}
use Rattle.reg_leader.specs.reg_level_names.Level.{level_text}
use Rattle.reg_leader.specs.reg_level_names.declared.level.Level.{Level}
use Rattle.reg_leader.specs.reg_modes.InForce.{mode, own_mode}
use Rattle.reg_leader.specs.reg_modes.Mode.{mode_text}
use Rattle.reg_leader.specs.reg_modes.Permitted.{granted, may_register, may_write}
use Rattle.reg_leader.specs.reg_modes.declared.mode.Mode.{Mode}
use Rattle.reg_leader.specs.reg_modes.declared.mode.Mode.TheVariants as modes
use Rattle.reg_leader.specs.reg_records.Written.{IsVersionOrId}
use Rattle.reg_leader.specs.reg_records.declared.key.Key.TheVariants as keys
use Rattle.reg_leader.specs.reg_records.declared.record.Record.{Record}
use Rattle.reg_leader.specs.reg_records.declared.value.Value.TheVariants as values
use Rattle.reg_leader.specs.reg_refusals.declared.reason.Reason.TheVariants as reasons
use Rattle.reg_leader.specs.reg_refusals.declared.refusal.Refusal.TheVariants as refusals
use Rattle.reg_leader.specs.reg_rules.Standing.{id_for, is_of, next_version, standing, version_meant}
use Rattle.reg_leader.specs.reg_rules.Tests as test
use Rattle.reg_leader.specs.reg_rules.Tests.{refuse_if, refuse_unless}
use Rattle.reg_leader.specs.reg_rules.Writings.{deleted_again, deleted_up_to, level_cleared, level_set, mode_cleared, mode_set, no_operation, numbered, removed, version_of, written_at}
use Rattle.reg_leader.specs.reg_rules.declared.writing.Writing.{Writing}
use Rattle.reg_leader.specs.reg_set.LastRecords.{last_records}
use Rattle.reg_leader.specs.reg_set.Records.{Records}
use Rattle.reg_leader.specs.Course.{Course, Does, ◌▸◌}
use Rattle.reg_leader.specs.Step.{IsStep, course_of, delete_all, delete_entry, import_as, is_there, mark_over, marked, writes}
use Rattle.reg_leader.specs.declared.command.Command.{Command}
use Rattle.reg_leader.specs.declared.command.Command.TheVariants as commands
use Rattle.reg_leader.specs.declared.reply.Reply.TheVariants as replies
use Rattle.reg_replay.specs.Candidate.{candidate, registering}
use Rattle.reg_replay.specs.Complete.{BatchesAreOfCandidates}
use Rattle.reg_replay.proofs.Courses as course
use Rattle.reg_replay.proofs.Sought as sought
use Rattle.reg_replay.proofs.Written.{ValuesReadBack, level_again, levels_are_named, mode_again, number_passed, puts}

abbrev NormalTextsReadBack : Type 0
NormalTextsReadBack = (text : List ℕ) (m : Meaning) → schema_of text ≡ Some m → schema_of m.normal_text ≡ Some m

module _ (places : EntriesAreOfPlaces) (limits : EntriesAreInLimits) (read : EntriesAreRead)
    (again : NormalTextsReadBack) (reads : ValuesReadBack) (whole : Records) (n : ℕ) (r : Record) (more : List Record) where
  abbrev rs : Records
  rs = last_records whole

  abbrev batch : List Record
  batch = r ∷ more

  abbrev Wrote : Course → Type 0
  Wrote c = course.Wrote n r more c

  -- the candidate of the batch writes it
  abbrev Found : Type 0
  Found = (d : Command) × (candidate (mode rs) batch ≡ Some d) × Wrote (course_of rs n d)

  -- that is the one where it is the one of what was written
  told : (d : Command) (ws : List Writing) → numbered n ws ≡ batch → candidate (mode rs) (numbered n ws) ≡ Some d → Wrote (course_of rs n d) → Found
  told d ws same is h = (d, subst (λ b. candidate (mode rs) b ≡ Some d) same is, h)

  -- the tests that each command begins with
  opened : (c : Course) → Wrote (test.must_be_open rs ▸ test.must_have_offset n ▸ c)
      → (test.must_be_open rs ≡ granted) × (test.must_have_offset n ≡ granted) × Wrote c
  opened c h =
      let one = course.passed n r more (test.must_be_open rs) (test.must_have_offset n ▸ c) h in
      let two = course.passed n r more (test.must_have_offset n) c one.1 in
      (one.0, two.0, two.1)

  opens : (c : Course) → test.must_be_open rs ≡ granted → test.must_have_offset n ≡ granted → Wrote c
      → Wrote (test.must_be_open rs ▸ test.must_have_offset n ▸ c)
  opens c is_open offset h =
      course.passes n r more (test.must_be_open rs) (test.must_have_offset n ▸ c) is_open
      (course.passes n r more (test.must_have_offset n) c offset h)

  set_level : (scope : Scope) (level : Level) → Wrote (course_of rs n (commands.SetLevel scope level)) → Found
  set_level scope level h =
      let inner = opened _ h in
      let allowed = course.passed n r more (may_write (mode rs scope)) _ inner.2 in
      let ws : List Writing = level_set scope level ∷ [] in
      told (commands.SetLevel scope level) ws (course.did n r more (replies.Level level) ws allowed.1)
      (puts reads (mode rs) n (keys.Config scope) (values.Config (level_text level)) true (scope, refl, levels_are_named level)
      ∙ ap (option_map (commands.SetLevel scope)) (level_again level)) h

  clear_level : (subject : List ℕ) → Wrote (course_of rs n (commands.ClearLevel subject)) → Found
  clear_level subject h =
      let inner = opened _ h in
      let allowed = course.passed n r more (may_write (mode rs (Some subject))) _ inner.2 in
      let ws : List Writing = level_cleared subject ∷ [] in
      let own = course.found n r more (own_level rs (Some subject)) (λ level. Does (replies.LevelRemoved level) ws) refusals.SubjectHasNoLevel allowed.1 in
      told (commands.ClearLevel subject) ws (course.did n r more (replies.LevelRemoved own.0) ws own.2) refl h

  set_mode : (scope : Scope) (m : Mode) (force : Bool) → Wrote (course_of rs n (commands.SetMode scope m force)) → Found
  set_mode scope m force h =
      let inner = opened _ h in
      let allowed = course.passed n r more (test.must_allow_mode rs scope m force) _ inner.2 in
      let ws : List Writing = mode_set scope m ∷ [] in
      told (commands.SetMode scope m true) ws (course.did n r more (replies.Mode m) ws allowed.1)
      (puts reads (mode rs) n (keys.Mode scope) (values.Mode (mode_text m)) true (scope, refl)
      ∙ ap (option_map (λ x. commands.SetMode scope x true)) (mode_again m))
      (opens _ inner.0 inner.1 (course.passes n r more (test.must_allow_mode rs scope m true) _ (forced m) allowed.1))
    where
      forced : (x : Mode) → test.must_allow_mode rs scope x true ≡ granted
      forced modes.Readwrite = refl
      forced modes.Readonly = refl
      forced modes.Import = refl

  clear_mode : (subject : List ℕ) → Wrote (course_of rs n (commands.ClearMode subject)) → Found
  clear_mode subject h =
      let inner = opened _ h in
      let ws : List Writing = mode_cleared subject ∷ [] in
      let own = course.found n r more (own_mode rs (Some subject)) (λ m. Does (replies.ModeRemoved m) ws) refusals.SubjectHasNoMode inner.2 in
      told (commands.ClearMode subject) ws (course.did n r more (replies.ModeRemoved own.0) ws own.2) refl h

  no_op : Wrote (course_of rs n commands.Noop) → Found
  no_op h =
      let inner = opened _ h in
      let ws : List Writing = no_operation ∷ [] in
      told commands.Noop ws (course.did n r more replies.Nothing ws inner.2) refl h

  -- a version that is written
  wrote_version : (first : List Writing) (subject normal : List ℕ) (id version : ℕ) → Wrote (writes first subject normal id version)
      → IsVersionOrId id × IsVersionOrId version × (numbered n (first ++ version_of subject version id normal ∷ []) ≡ batch)
  wrote_version first subject normal id version h =
      let one = course.passed n r more (test.must_be_number id) _ h in
      let two = course.passed n r more (test.must_be_number version) _ one.1 in
      (number_passed id one.0, number_passed version two.0, course.did n r more (replies.Id id) _ two.1)

  -- the value of a version's record tells a registration or an import
  version_tells : (k : ℕ) (subject normal : List ℕ) (id version : ℕ) → is_schema normal ≡ true → IsVersionOrId id → IsVersionOrId version
      → candidate (mode rs) (written_at k (version_of subject version id normal) ∷ []) ≡ Some (registering (mode rs (Some subject)) subject version id normal)
  version_tells k subject normal id version known i v =
      puts reads (mode rs) k (keys.Schema subject version) (values.Schema subject version id normal false) true (refl, v, i, known)

  register_one : (subject text : List ℕ) → Wrote (course_of rs n (commands.Register subject text)) → Found
  register_one subject text h =
      let meant = course.found n r more (schema_of text) _ refusals.InvalidSchema h in
      let m : Meaning = meant.0 in
      let normal = m.normal_text in
      let valid = course.passed n r more (test.must_have_valid_defaults m) _ meant.2 in
      let inner = opened _ valid.1 in
      let allowed = course.passed n r more (may_register (mode rs (Some subject)) false) _ inner.2 in
      let fresh = course.none_found n r more (newest (filter (has_schema normal) (live rs subject))) (λ same. Does (replies.Id same.id) []) _
      (λ same. course.does_nothing n r more (replies.Id same.id)) allowed.1 in
      let meets = course.met n r more (level rs (Some subject)) normal (texts_of (live rs subject)) _ fresh.1 in
      let wrote = wrote_version [] subject normal (id_for rs normal) (next_version rs subject) meets.1 in
      let known : is_schema normal ≡ true = ap is_some (again text m meant.1) in
      told (commands.Register subject normal) (version_of subject (next_version rs subject) (id_for rs normal) normal ∷ []) wrote.2
      (version_tells n subject normal (id_for rs normal) (next_version rs subject) known wrote.0 wrote.1
      ∙ ap Some (no_import (mode rs (Some subject)) normal allowed.0))
      (course.finds n r more (schema_of normal) m _ _ (again text m meant.1) meant.2)
    where
      no_import : (x : Mode) (normal : List ℕ) → may_register x false ≡ granted
          → registering x subject (next_version rs subject) (id_for rs normal) normal ≡ commands.Register subject normal
      no_import modes.Readwrite normal is = refl
      no_import modes.Readonly normal is = refl
      no_import modes.Import normal is = absurd (cc)

  -- an import: its text is the normal one, and its version is given
  import_one : (subject text : List ℕ) (id : ℕ) (version : Option ℕ) → Wrote (course_of rs n (commands.ImportRegister subject text id version)) → Found
  import_one subject text id version h =
      let meant = course.found n r more (schema_of text) _ refusals.InvalidSchema h in
      let m : Meaning = meant.0 in
      let normal = m.normal_text in
      let known : is_schema normal ≡ true = ap is_some (again text m meant.1) in
      let inner = opened _ meant.2 in
      let allowed = course.passed n r more (may_register (mode rs (Some subject)) true) _ inner.2 in
      let other = course.passed n r more (test.must_name_no_other rs id normal) _ allowed.1 in
      let above = course.passed n r more (test.must_be_above_mark rs id) _ other.1 in
      let came = import_came subject normal id version above.1 known (an_import (mode rs (Some subject)) allowed.0) in
      told (commands.ImportRegister subject normal id (Some came.0)) came.1 came.2 came.3
      (course.finds n r more (schema_of normal) m _ _ (again text m meant.1)
      (opens _ inner.0 inner.1
      (course.passes n r more (may_register (mode rs (Some subject)) true) _ allowed.0
      (course.passes n r more (test.must_name_no_other rs id normal) _ other.0
      (course.passes n r more (test.must_be_above_mark rs id) _ above.0 came.4)))))
    where
      an_import : (x : Mode) → may_register x true ≡ granted → x ≡ modes.Import
      an_import modes.Readwrite is = absurd (cc)
      an_import modes.Readonly is = absurd (cc)
      an_import modes.Import is = refl

      -- the mark in front of a version tells nothing
      behind_mark : (subject normal : List ℕ) (id v : ℕ) (over : Option Entry) → is_schema normal ≡ true → IsVersionOrId id → IsVersionOrId v
          → candidate (mode rs) (numbered n (mark_over rs id over ++ version_of subject v id normal ∷ []))
          ≡ Some (registering (mode rs (Some subject)) subject v id normal)
      behind_mark subject normal id v None known i w = version_tells n subject normal id v known i w
      behind_mark subject normal id v (Some e) known i w =
          elim (e.id == id) as (λ b. candidate (mode rs) (numbered n (cond b [] (marked rs ∷ []) ++ version_of subject v id normal ∷ []))
          ≡ Some (registering (mode rs (Some subject)) subject v id normal)) [
            | true ↦ version_tells n subject normal id v known i w
            | false ↦ version_tells (suc n) subject normal id v known i w
          ]

      -- the version that is written, with what is written, its candidate, and that the candidate writes it
      import_came : (subject normal : List ℕ) (id : ℕ) (version : Option ℕ) → Wrote (import_as rs subject normal id version)
          → is_schema normal ≡ true → mode rs (Some subject) ≡ modes.Import
          → (v : ℕ) × (ws : List Writing) × (numbered n ws ≡ batch)
          × (candidate (mode rs) (numbered n ws) ≡ Some (commands.ImportRegister subject normal id (Some v)))
          × Wrote (import_as rs subject normal id (Some v))
      import_came subject normal id None h known importing =
          let v = next_version rs subject in
          let fresh = course.none_found n r more (newest (filter (is_of id normal) (live rs subject))) (λ same. Does (replies.Id id) []) _
          (λ same. course.does_nothing n r more (replies.Id id)) h in
          let wrote = wrote_version [] subject normal id v fresh.1 in
          let none_over : mark_over rs id (version_in (entries rs) subject (Number v) true) ≡ [] =
          ap (mark_over rs id) (sought.next_is_new places whole subject true) in (
            v,
            version_of subject v id normal ∷ [],
            wrote.2,
            version_tells n subject normal id v known wrote.0 wrote.1 ∙ ap (λ x. Some (registering x subject v id normal)) importing,
            course.finds_none n r more (version_in (entries rs) subject (Number v) false) (is_there id normal) _
                (sought.next_is_new places whole subject false)
                (subst (λ first. Wrote (writes first subject normal id v)) (sym none_over) fresh.1),
          )
      import_came subject normal id (Some v) h known importing =
          let over = version_in (entries rs) subject (Number v) true in
          let free = course.none_found n r more (version_in (entries rs) subject (Number v) false) (is_there id normal) _
          (λ e it. course.does_nothing n r more (replies.Id id)
          (course.passed n r more (refuse_unless (is_of id normal e) (refusals.NotPermitted reasons.VersionIsOccupied)) _ it).1) h in
          let wrote = wrote_version (mark_over rs id over) subject normal id v free.1 in (
            v,
            mark_over rs id over ++ version_of subject v id normal ∷ [],
            wrote.2,
            behind_mark subject normal id v over known wrote.0 wrote.1
                ∙ ap (λ x. Some (registering x subject v id normal)) importing,
            h,
          )

  -- a delete of one version
  delete_one : (subject : List ℕ) (ref : VersionRef) (permanent : Bool) → Wrote (course_of rs n (commands.DeleteVersion subject ref permanent)) → Found
  delete_one subject ref permanent h =
      let inner = opened _ h in
      let allowed = course.passed n r more (may_write (mode rs (Some subject))) _ inner.2 in
      let stands = course.passed n r more (test.must_stand rs subject) _ allowed.1 in
      let meant = course.found n r more (version_meant rs subject ref) (delete_entry rs permanent) _ stands.1 in
      let e : Entry = meant.0 in
      let is = sought.meant_is places whole subject ref e meant.1 in
      let d : Command = commands.DeleteVersion subject (Number e.version) permanent in
      let wrote : Wrote (course_of rs n d) =
      opens _ inner.0 inner.1 (course.passes n r more (may_write (mode rs (Some subject))) _ allowed.0
      (course.passes n r more (test.must_stand rs subject) _ stands.0
      (course.finds n r more (version_meant rs subject (Number e.version)) e (delete_entry rs permanent) _
      (sought.named_by_version places whole subject e is) meant.2))) in
      entry_deleted subject permanent e is wrote meant.2
    where
      entry_deleted : (subject : List ℕ) (permanent : Bool) (e : Entry) → sought.Is places whole subject e
          → Wrote (course_of rs n (commands.DeleteVersion subject (Number e.version) permanent)) → Wrote (delete_entry rs permanent e) → Found
      entry_deleted subject false e is wrote h =
          let live_one = course.passed n r more (refuse_if e.soft refusals.VersionSoftDeleted) _ h in
          let ws : List Writing = deleted_again e ∷ [] in
          let fits = limits rs e is.stands in
          let known : is_schema e.text ≡ true = sought.mapped (λ (m : Meaning). m.normal_text) (schema_of e.text) e.normal (read rs e is.stands) in
          told (commands.DeleteVersion subject (Number e.version) false) ws (course.did n r more (replies.Version e.version) ws live_one.1)
          (puts reads (mode rs) n (keys.Schema e.subject e.version) (values.Schema e.subject e.version e.id e.text true) true
          (refl, fits.0, fits.1, known)
          ∙ ap (λ s. Some (commands.DeleteVersion s (Number e.version) false)) is.of_subject)
          wrote
      entry_deleted subject true e is wrote h =
          let soft_one = course.passed n r more (refuse_unless e.soft refusals.VersionNotSoftDeleted) _ h in
          let ws : List Writing = marked rs ∷ removed e ∷ [] in
          told (commands.DeleteVersion subject (Number e.version) true) ws (course.did n r more (replies.Version e.version) ws soft_one.1)
          (ap (λ s. Some (commands.DeleteVersion s (Number e.version) true)) is.of_subject) wrote

  -- a delete of a subject
  delete_subject : (subject : List ℕ) (permanent : Bool) → Wrote (course_of rs n (commands.DeleteSubject subject permanent)) → Found
  delete_subject subject permanent h =
      let inner = opened _ h in
      let allowed = course.passed n r more (may_write (mode rs (Some subject))) _ inner.2 in
      let greatest = course.found n r more (greatest_version rs subject) (delete_all rs subject permanent) refusals.SubjectNotFound allowed.1 in
      all_deleted subject permanent greatest.0 greatest.1 inner.0 inner.1 allowed.0 h greatest.2
    where
      all_removed : (subject : List ℕ) (most : ℕ) → greatest_version rs subject ≡ Some most
          → test.must_be_open rs ≡ granted → test.must_have_offset n ≡ granted → may_write (mode rs (Some subject)) ≡ granted
          → Wrote (course_of rs n (commands.DeleteSubject subject true))
          → has_live (entries rs) (Some subject) ≡ false
          → numbered n (marked rs ∷ map removed (standing rs subject)) ≡ batch
          → Wrote (Does (replies.Versions (map {A = Entry} (λ e. e.version) (standing rs subject))) (marked rs ∷ map removed (standing rs subject)))
          → (es : List Entry) → standing rs subject ≡ es → Found
      all_removed subject most is is_open offset may h none_live same did [] all = absurd (sought.some_stand places whole subject most is all)
      all_removed subject most is is_open offset may h none_live same did (e ∷ []) all =
          let one = sought.first_is places whole subject e [] all in
          let ws : List Writing = marked rs ∷ removed e ∷ [] in
          let written : marked rs ∷ map removed (standing rs subject) ≡ ws = ap (λ es. marked rs ∷ map removed es) all in
          let d : Command = commands.DeleteVersion subject (Number e.version) true in
          told d ws (ap (numbered n) (sym written) ∙ same)
          (ap (λ s. Some (commands.DeleteVersion s (Number e.version) true)) one.of_subject)
          (opens _ is_open offset (course.passes n r more (may_write (mode rs (Some subject))) _ may
          (course.passes n r more (test.must_stand rs subject) _ (ap (λ g. refuse_unless (is_some g) refusals.SubjectNotFound) is)
          (course.finds n r more (version_meant rs subject (Number e.version)) e (delete_entry rs true) _
          (sought.named_by_version places whole subject e one)
          (course.passes n r more (refuse_unless e.soft refusals.VersionNotSoftDeleted) _
          (ap (λ b. refuse_unless b refusals.VersionNotSoftDeleted) (sought.is_soft places whole subject e one none_live))
          (course.does_too n r more _ (replies.Version e.version) ws
          (subst (λ (w : List Writing). Wrote (Does (replies.Versions (map {A = Entry} (λ x. x.version) (standing rs subject))) w)) written did)))))))
      all_removed subject most is is_open offset may h none_live same did (e ∷ f ∷ es) all =
          let one = sought.first_is places whole subject e (f ∷ es) all in
          let ws : List Writing = marked rs ∷ removed e ∷ removed f ∷ map removed es in
          let written : marked rs ∷ map removed (standing rs subject) ≡ ws = ap (λ es. marked rs ∷ map removed es) all in
          told (commands.DeleteSubject subject true) ws (ap (numbered n) (sym written) ∙ same)
          (ap (λ s. Some (commands.DeleteSubject s true)) one.of_subject) h

      all_deleted : (subject : List ℕ) (permanent : Bool) (most : ℕ) → greatest_version rs subject ≡ Some most
          → test.must_be_open rs ≡ granted → test.must_have_offset n ≡ granted → may_write (mode rs (Some subject)) ≡ granted
          → Wrote (course_of rs n (commands.DeleteSubject subject permanent)) → Wrote (delete_all rs subject permanent most) → Found
      all_deleted subject false most is is_open offset may h it =
          let some_live = course.passed n r more (test.must_be_live rs subject) _ it in
          let ws : List Writing = deleted_up_to subject most ∷ [] in
          told (commands.DeleteSubject subject false) ws
          (course.did n r more (replies.Versions (map {A = Entry} (λ e. e.version) (live rs subject))) ws some_live.1)
          (puts reads (mode rs) n (keys.DeleteSubject subject) (values.DeleteSubject subject most) true
          (refl, sought.greatest_fits places whole subject limits most is)) h
      all_deleted subject true most is is_open offset may h it =
          let none_live = course.passed n r more (test.must_not_be_live rs subject) _ it in
          all_removed subject most is is_open offset may h (sought.no_live _ refusals.SubjectNotSoftDeleted none_live.0)
          (course.did n r more (replies.Versions (map {A = Entry} (λ e. e.version) (standing rs subject))) (marked rs ∷ map removed (standing rs subject)) none_live.1)
          none_live.1 (standing rs subject) refl

  pub complete : (c : Command) → Wrote (course_of rs n c) → Found
  complete (commands.Register subject text) h = register_one subject text h
  complete (commands.ImportRegister subject text id version) h = import_one subject text id version h
  complete (commands.DeleteVersion subject version permanent) h = delete_one subject version permanent h
  complete (commands.DeleteSubject subject permanent) h = delete_subject subject permanent h
  complete (commands.SetLevel scope level) h = set_level scope level h
  complete (commands.ClearLevel subject) h = clear_level subject h
  complete (commands.SetMode scope m force) h = set_mode scope m force h
  complete (commands.ClearMode subject) h = clear_mode subject h
  complete commands.Noop h = no_op h

pub batches_are_of_candidates : EntriesAreOfPlaces → EntriesAreInLimits → EntriesAreRead → NormalTextsReadBack → ValuesReadBack → BatchesAreOfCandidates
unfolding IsStep
batches_are_of_candidates places limits read again reads whole n c r more (reply, is) =
    complete places limits read again reads whole n r more c (reply, is)
