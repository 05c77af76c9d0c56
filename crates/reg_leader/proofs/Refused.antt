-- A refusal writes nothing: no course does something and replies a refusal.
use Rattle.std.proofs.Common.{◌≡◌, ℕ, List, [], Bool, true, false, Option, Some, None, refl, inl, inr}
use Rattle.std.specs.List.{filter}
use Rattle.reg_rules.specs.avro_schema.Schema.{schema_of}
use Rattle.reg_rules.specs.reg_entries.declared.entry.Entry.{Entry}
use Rattle.reg_rules.specs.reg_fold.Entries.{entries}
use Rattle.reg_rules.specs.reg_fold.InForce.{own_level}
use Rattle.reg_rules.specs.reg_fold.Standing.{greatest_version, live, version_in}
use Rattle.reg_rules.specs.reg_fold.declared.version_ref.VersionRef.TheVariants.{Number}
use Rattle.reg_rules.specs.reg_modes.InForce.{mode, own_mode}
use Rattle.reg_rules.specs.reg_modes.Permitted.{may_register, may_write}
use Rattle.reg_rules.specs.reg_refusals.declared.reason.Reason.TheVariants as reasons
use Rattle.reg_rules.specs.reg_refusals.declared.refusal.Refusal.{Refusal}
use Rattle.reg_rules.specs.reg_refusals.declared.refusal.Refusal.TheVariants as refusals
use Rattle.reg_rules.specs.Standing.{id_for, is_of, next_version, version_meant}
use Rattle.reg_rules.specs.reg_entries.Sought.{has_schema, newest}
use Rattle.reg_rules.specs.Tests as test
use Rattle.reg_rules.specs.Tests.{refuse_if, refuse_unless}
use Rattle.reg_rules.specs.declared.writing.Writing.{Writing}
use Rattle.reg_rules.specs.reg_set.Records.{Records}
use Rattle.reg_leader.specs.Course.{Course, ◌▸◌}
use Rattle.reg_leader.specs.OneStep.{RefusalsWriteNothing}
use Rattle.reg_leader.specs.Step.{IsStep, course_of, delete_all, delete_entry, import_as, mark_over, writes}
use Rattle.reg_leader.specs.declared.command.Command.{Command}
use Rattle.reg_leader.specs.declared.command.Command.TheVariants as commands
use Rattle.reg_leader.specs.declared.reply.Reply.{Reply}
use Rattle.reg_leader.specs.declared.reply.Reply.TheVariants as replies
use Rattle.reg_leader.proofs.Courses.{Of, of_then, of_found, outcome-of}

abbrev IsNoRefusal : Reply → List Writing → Type 0
IsNoRefusal reply ws = (why : Refusal) → reply ≡ replies.Refused why → ⊥

abbrev RepliesNone : Course → Type 0
RepliesNone c = Of IsNoRefusal c

module _ (rs : Records) (n : ℕ) where
  writes-none : (first : List Writing) (subject normal : List ℕ) (id version : ℕ) → RepliesNone (writes first subject normal id version)
  writes-none first subject normal id version =
      of_then _ (test.must_be_number id) _ (of_then _ (test.must_be_number version) _ (λ why e. cc))

  import_as-none : (subject normal : List ℕ) (id : ℕ) (version : Option ℕ) → RepliesNone (import_as rs subject normal id version)
  import_as-none subject normal id None =
      of_found _ (newest (filter (is_of id normal) (live rs subject))) _ _ (λ same _ why e. cc)
      (λ _. writes-none [] subject normal id (next_version rs subject))
  import_as-none subject normal id (Some version) =
      of_found _ (version_in (entries rs) subject (Number version) false) _ _
      (λ e _. of_then _ (refuse_unless (is_of id normal e) (refusals.NotPermitted reasons.VersionIsOccupied)) _ (λ why e. cc))
      (λ _. writes-none (mark_over rs id (version_in (entries rs) subject (Number version) true)) subject normal id version)

  delete_entry-none : (permanent : Bool) (e : Entry) → RepliesNone (delete_entry rs permanent e)
  delete_entry-none false e = of_then _ (refuse_if e.soft refusals.VersionSoftDeleted) _ (λ why e. cc)
  delete_entry-none true e = of_then _ (refuse_unless e.soft refusals.VersionNotSoftDeleted) _ (λ why e. cc)

  delete_all-none : (subject : List ℕ) (permanent : Bool) (greatest : ℕ) → RepliesNone (delete_all rs subject permanent greatest)
  delete_all-none subject false greatest = of_then _ (test.must_be_live rs subject) _ (λ why e. cc)
  delete_all-none subject true greatest = of_then _ (test.must_not_be_live rs subject) _ (λ why e. cc)

  open-none : (c : Course) → RepliesNone c → RepliesNone (test.must_be_open rs ▸ test.must_have_offset n ▸ c)
  open-none c h = of_then _ (test.must_be_open rs) _ (of_then _ (test.must_have_offset n) _ h)

  course-none : (c : Command) → RepliesNone (course_of rs n c)
  course-none (commands.Register subject text) =
      of_found _ (schema_of text) _ _ (λ schema _.
      of_then _ (test.must_have_valid_defaults schema) _ (open-none _ (
      of_then _ (may_register (mode rs (Some subject)) false) _ (
      of_found _ (newest (filter (has_schema schema.normal_text) (live rs subject))) _ _ (λ same _ why e. cc) (λ _ _.
      writes-none [] subject schema.normal_text (id_for rs schema.normal_text) (next_version rs subject)))))) (λ _. tt)
  course-none (commands.ImportRegister subject text id version) =
      of_found _ (schema_of text) _ _ (λ schema _. open-none _ (
      of_then _ (may_register (mode rs (Some subject)) true) _ (
      of_then _ (test.must_name_no_other rs id schema.normal_text) _ (
      of_then _ (test.must_be_above_mark rs id) _ (import_as-none subject schema.normal_text id version))))) (λ _. tt)
  course-none (commands.DeleteVersion subject version permanent) =
      open-none _ (of_then _ (may_write (mode rs (Some subject))) _ (of_then _ (test.must_stand rs subject) _ (
      of_found _ (version_meant rs subject version) _ _ (λ e _. delete_entry-none permanent e) (λ _. tt))))
  course-none (commands.DeleteSubject subject permanent) =
      open-none _ (of_then _ (may_write (mode rs (Some subject))) _ (
      of_found _ (greatest_version rs subject) _ _ (λ greatest _. delete_all-none subject permanent greatest) (λ _. tt)))
  course-none (commands.SetLevel scope level) = open-none _ (of_then _ (may_write (mode rs scope)) _ (λ why e. cc))
  course-none (commands.ClearLevel subject) =
      open-none _ (
      of_then _ (may_write (mode rs (Some subject))) _
      (of_found _ (own_level rs (Some subject)) _ _ (λ level _ why e. cc) (λ _. tt)))
  course-none (commands.SetMode scope mode force) = open-none _ (of_then _ (test.must_allow_mode rs scope mode force) _ (λ why e. cc))
  course-none (commands.ClearMode subject) = open-none _ (of_found _ (own_mode rs (Some subject)) _ _ (λ mode _ why e. cc) (λ _. tt))
  course-none commands.Noop = open-none _ (λ why e. cc)

pub refusals_write_nothing : RefusalsWriteNothing
unfolding IsStep
refusals_write_nothing rs n c why batch step =
    elim (outcome-of IsNoRefusal n (course_of rs n c) (replies.Refused why) batch (course-none rs n c) step) [
      | inl none ↦ none
      | inr some ↦ absurd (some.2 why refl)
    ]
