-- Where two sets of last records give the same, each command takes the same course.
use Rattle.std.proofs.Common.{◌≡◌, ℕ, suc, max, List, [], ◌∷◌, map, Bool, true, false, ◌&&◌, ◌||◌, ◌==◌}
use Rattle.std.proofs.Common.{not, nat_lt, Option, Some, None, is_some, unwrap_or, refl, sym, subst}
use Rattle.std.specs.Prelude.{if◌then◌else◌}
use Rattle.std.specs.List.{filter}
use Rattle.std.specs.Option.{option_map_or}
use Rattle.reg_leader.specs.reg_entries.Sought as sought
use Rattle.reg_leader.specs.reg_entries.declared.entry.Entry.{Entry}
use Rattle.reg_leader.specs.reg_fold.IdMark.{last_id}
use Rattle.reg_leader.specs.reg_fold.InForce.{Scope}
use Rattle.reg_leader.specs.reg_fold.Standing.{version_in}
use Rattle.reg_leader.specs.reg_fold.declared.version_ref.VersionRef.{VersionRef}
use Rattle.reg_leader.specs.reg_fold.declared.version_ref.VersionRef.TheVariants.{Latest, Number}
use Rattle.reg_leader.specs.reg_modes.Permitted.{denied, granted, may_register, may_write}
use Rattle.reg_leader.specs.reg_modes.declared.mode.Mode.{Mode}
use Rattle.reg_leader.specs.reg_modes.declared.mode.Mode.TheVariants as modes
use Rattle.reg_leader.specs.reg_refusals.declared.reason.Reason.TheVariants as reasons
use Rattle.reg_leader.specs.reg_refusals.declared.reason.StoreFault.TheVariants as faults
use Rattle.reg_leader.specs.reg_refusals.declared.refusal.Refusal.TheVariants as refusals
use Rattle.reg_leader.specs.reg_set.Records.{Records}
use Rattle.reg_leader.specs.reg_rules.Standing.{id_for, is_of, next_version, version_meant}
use Rattle.reg_leader.specs.reg_entries.Sought.{has_schema, newest, texts_of}
use Rattle.reg_leader.specs.reg_rules.Tests as test
use Rattle.reg_leader.specs.reg_rules.Tests.{refuse_if, refuse_unless}
use Rattle.reg_leader.specs.reg_rules.Writings.{deleted_up_to, id_marked, level_cleared, level_set, mode_cleared, mode_set, no_operation, removed}
use Rattle.reg_leader.specs.Course.{Refused, Does, IfMet, IsOutcome, ◌▸◌, where_found}
use Rattle.reg_leader.specs.Step.{IsStep, course_of, delete_all, delete_entry, import_as}
use Rattle.reg_leader.specs.Step.{is_there, mark_over, marked, no_version, where_read, writes}
use Rattle.reg_leader.specs.declared.command.Command.{Command}
use Rattle.reg_leader.specs.declared.command.Command.TheVariants as commands
use Rattle.reg_leader.specs.declared.reply.Reply.TheVariants as replies
use Rattle.reg_leader.specs.reg_fold.GiveAlike.{GiveAlike}
use Rattle.reg_alike.specs.StepAlike.{StepsAlike}
use Rattle.reg_alike.proofs.InForce.{same_level, same_mode, same_own_mode}

module _ (rs ss : Records) (alike : GiveAlike rs ss) where
  open alike use {entries_alike, opaque_alike, levels_alike, marks_alike}

  same_open : test.must_be_open rs ≡ test.must_be_open ss
  same_open = λ i.
      let two = sought.two_schemas (entries_alike i) in
      test.if_not_opaque (is_some (opaque_alike i)) (refuse_if (is_some two) (refusals.Store faults.TwoSchemas))

  same_last_id : last_id rs ≡ last_id ss
  same_last_id = λ i. max (marks_alike i) (unwrap_or (sought.greatest_id (entries_alike i)) 0)

  same_marked : marked rs ≡ marked ss
  same_marked = λ i. id_marked (same_last_id i)

  same_id_for : (normal : List ℕ) → id_for rs normal ≡ id_for ss normal
  same_id_for normal = λ i. unwrap_or (sought.id_of (entries_alike i) normal) (suc (same_last_id i))

  same_next_version : (subject : List ℕ) → next_version rs subject ≡ next_version ss subject
  same_next_version subject = λ i. option_map_or suc (sought.greatest_version (entries_alike i) subject) 1

  same_names_no_other : (id : ℕ) (normal : List ℕ) → test.must_name_no_other rs id normal ≡ test.must_name_no_other ss id normal
  same_names_no_other id normal = λ i.
      let names_another = option_map_or (λ e. not (has_schema normal e)) (sought.named (entries_alike i) id) false in
      refuse_if names_another (refusals.NotPermitted reasons.IdNamesAnotherSchema)

  same_above_mark : (id : ℕ) → test.must_be_above_mark rs id ≡ test.must_be_above_mark ss id
  same_above_mark id = λ i.
      let may = is_some (sought.named (entries_alike i) id) || nat_lt (marks_alike i) id in
      refuse_unless may (refusals.NotPermitted reasons.IdIsNotAboveMark)

  same_may_set_mode : (scope : Scope) (mode : Mode) (force : Bool)
      → test.must_allow_mode rs scope mode force ≡ test.must_allow_mode ss scope mode force
  same_may_set_mode scope modes.Import force = λ i.
      if not force && sought.has_live (entries_alike i) scope then denied reasons.ScopeIsNotEmpty else granted
  same_may_set_mode scope modes.Readonly force = refl
  same_may_set_mode scope modes.Readwrite force = refl

  same_version_meant : (subject : List ℕ) (which : VersionRef) → version_meant rs subject which ≡ version_meant ss subject which
  same_version_meant subject Latest = λ i. version_in (entries_alike i) subject Latest false
  same_version_meant subject (Number version) = λ i. version_in (entries_alike i) subject (Number version) true

  same_mark_over : (id : ℕ) (over : Option Entry) → mark_over rs id over ≡ mark_over ss id over
  same_mark_over id None = refl
  same_mark_over id (Some e) = λ i. if e.id == id then [] else (same_marked i ∷ [])

  same_import_as : (subject normal : List ℕ) (id : ℕ) (version : Option ℕ)
      → import_as rs subject normal id version ≡ import_as ss subject normal id version
  same_import_as subject normal id None = λ i.
      where_found (newest (filter (is_of id normal) (sought.live_of (entries_alike i) subject))) (λ same. Does (replies.Id id) []) (
      writes [] subject normal id (same_next_version subject i)
      )
  same_import_as subject normal id (Some version) = λ i.
      where_found (version_in (entries_alike i) subject (Number version) false) (is_there id normal) (
      writes (same_mark_over id (version_in (entries_alike i) subject (Number version) true) i) subject normal id version
      )

  same_delete_entry : (permanent : Bool) (e : Entry) → delete_entry rs permanent e ≡ delete_entry ss permanent e
  same_delete_entry false e = refl
  same_delete_entry true e = λ i.
      refuse_unless e.soft refusals.VersionNotSoftDeleted ▸ Does (replies.Version e.version) (same_marked i ∷ removed e ∷ [])

  same_delete_all : (subject : List ℕ) (permanent : Bool) (greatest : ℕ)
      → delete_all rs subject permanent greatest ≡ delete_all ss subject permanent greatest
  same_delete_all subject false greatest = λ i.
      let live = sought.live_of (entries_alike i) subject in
      refuse_unless (sought.has_live (entries_alike i) (Some subject)) refusals.SubjectSoftDeleted
      ▸ Does (replies.Versions (map (λ e. e.version) live)) (deleted_up_to subject greatest ∷ [])
  same_delete_all subject true greatest = λ i.
      let standing = sought.counting (entries_alike i) subject true in
      refuse_if (sought.has_live (entries_alike i) (Some subject)) refusals.SubjectNotSoftDeleted
      ▸ Does (replies.Versions (map (λ e. e.version) standing)) (same_marked i ∷ map removed standing)

  same_course : (n : ℕ) (c : Command) → course_of rs n c ≡ course_of ss n c
  same_course n (commands.Register subject text) = λ i.
      let live = sought.live_of (entries_alike i) subject in
      where_read text (λ schema.
      test.must_have_valid_defaults schema
      ▸ same_open i
      ▸ test.must_have_offset n
      ▸ may_register (same_mode rs ss alike (Some subject) i) false
      ▸ where_found (newest (filter (has_schema schema.normal_text) live)) (λ same. Does (replies.Id same.id) []) (
      IfMet (same_level rs ss alike (Some subject) i) schema.normal_text (texts_of live) (
      writes [] subject schema.normal_text (same_id_for schema.normal_text i) (same_next_version subject i)
      )))
  same_course n (commands.ImportRegister subject text id version) = λ i.
      where_read text (λ schema.
      same_open i
      ▸ test.must_have_offset n
      ▸ may_register (same_mode rs ss alike (Some subject) i) true
      ▸ same_names_no_other id schema.normal_text i
      ▸ same_above_mark id i
      ▸ same_import_as subject schema.normal_text id version i
      )
  same_course n (commands.DeleteVersion subject version permanent) = λ i.
      same_open i
      ▸ test.must_have_offset n
      ▸ may_write (same_mode rs ss alike (Some subject) i)
      ▸ refuse_unless (is_some (sought.greatest_version (entries_alike i) subject)) refusals.SubjectNotFound
      ▸ where_found (same_version_meant subject version i) (λ e. same_delete_entry permanent e i) (Refused (no_version version))
  same_course n (commands.DeleteSubject subject permanent) = λ i.
      same_open i
      ▸ test.must_have_offset n
      ▸ may_write (same_mode rs ss alike (Some subject) i)
      ▸ where_found (sought.greatest_version (entries_alike i) subject) (λ greatest. same_delete_all subject permanent greatest i) (
      Refused refusals.SubjectNotFound
      )
  same_course n (commands.SetLevel scope level) = λ i.
      same_open i
      ▸ test.must_have_offset n
      ▸ may_write (same_mode rs ss alike scope i)
      ▸ Does (replies.Level level) (level_set scope level ∷ [])
  same_course n (commands.ClearLevel subject) = λ i.
      same_open i
      ▸ test.must_have_offset n
      ▸ may_write (same_mode rs ss alike (Some subject) i)
      ▸ where_found (levels_alike (Some subject) i) (λ level. Does (replies.LevelRemoved level) (level_cleared subject ∷ [])) (
      Refused refusals.SubjectHasNoLevel
      )
  same_course n (commands.SetMode scope mode force) = λ i.
      same_open i
      ▸ test.must_have_offset n
      ▸ same_may_set_mode scope mode force i
      ▸ Does (replies.Mode mode) (mode_set scope mode ∷ [])
  same_course n (commands.ClearMode subject) = λ i.
      same_open i
      ▸ test.must_have_offset n
      ▸ where_found (same_own_mode rs ss alike (Some subject) i) (λ mode. Does (replies.ModeRemoved mode) (mode_cleared subject ∷ [])) (
      Refused refusals.SubjectHasNoMode
      )
  same_course n commands.Noop = λ i. same_open i ▸ test.must_have_offset n ▸ Does replies.Nothing (no_operation ∷ [])

pub steps_alike : StepsAlike
unfolding IsStep
steps_alike rs ss alike n c reply batch =
    let same = same_course rs ss alike n c in
    (subst (λ course. IsOutcome n course reply batch) same, subst (λ course. IsOutcome n course reply batch) (sym same))
