-- What soft deletes of subjects name.
use Rattle.std.proofs.Common.{◌≡◌, ◌⊎◌, inl, inr, ℕ, Bool, true, false, List, [], ◌∷◌, map}
use Rattle.std.proofs.Common.{Option, Some, None, All, refl, sym, ap, subst, ◌∙◌}
use Rattle.std.proofs.lemmas.List.Elements.{All-nil}
use Rattle.std.specs.List.{AllByRecursion, filter}
use Rattle.reg_rules.specs.avro_schema.Schema.{schema_of}
use Rattle.reg_rules.specs.reg_entries.declared.entry.Entry.{Entry}
use Rattle.reg_rules.specs.reg_fold.Entries.{EntriesAreInLimits, entries}
use Rattle.reg_rules.specs.reg_fold.InForce.{own_level}
use Rattle.reg_rules.specs.reg_fold.Standing.{greatest_version, live, version_in}
use Rattle.reg_rules.specs.reg_fold.declared.version_ref.VersionRef.TheVariants.{Number}
use Rattle.reg_rules.specs.reg_modes.InForce.{mode, own_mode}
use Rattle.reg_rules.specs.reg_modes.Permitted.{may_register, may_write}
use Rattle.reg_rules.specs.reg_records.declared.record.Record.{Record}
use Rattle.reg_rules.specs.reg_refusals.declared.reason.Reason.TheVariants as reasons
use Rattle.reg_rules.specs.reg_refusals.declared.refusal.Refusal.TheVariants as refusals
use Rattle.reg_rules.specs.Standing.{id_for, is_of, next_version, standing, version_meant}
use Rattle.reg_rules.specs.reg_entries.Sought.{has_schema, newest}
use Rattle.reg_rules.specs.Tests as test
use Rattle.reg_rules.specs.Tests.{refuse_if, refuse_unless}
use Rattle.reg_rules.specs.Writings.{deleted_up_to, numbered, removed}
use Rattle.reg_rules.specs.declared.writing.Writing.{Writing}
use Rattle.reg_rules.specs.reg_set.Records.{Records}
use Rattle.reg_leader.specs.Course.{Course}
use Rattle.reg_leader.specs.Deletes.{DeletesNameGreatest}
use Rattle.reg_rules.specs.reg_records.Key.{is_delete}
use Rattle.reg_leader.specs.Step.{IsStep, course_of, delete_all, delete_entry, import_as, mark_over, writes}
use Rattle.reg_leader.specs.declared.command.Command.{Command}
use Rattle.reg_leader.specs.declared.command.Command.TheVariants as commands
use Rattle.reg_leader.specs.declared.reply.Reply.{Reply}
use Rattle.reg_leader.proofs.Courses.{Of, numbered-all, of_found, of_then, outcome-of}
use Rattle.reg_leader.proofs.First.{and_last, over-all}
use Rattle.reg_leader.proofs.Greatest.{greatest-fits}

abbrev NoDelete : Writing → Type 0
NoDelete w = is_delete w.key ≡ false

abbrev OneDelete : Records → List Writing → Type 0
OneDelete rs ws =
    (subject : List ℕ) × (greatest : ℕ) × (ws ≡ deleted_up_to subject greatest ∷ []) × (greatest_version rs subject ≡ Some greatest)

abbrev Deletes : Records → Reply → List Writing → Type 0
Deletes rs reply ws = AllByRecursion NoDelete ws ⊎ OneDelete rs ws

none_removed : (es : List Entry) → AllByRecursion NoDelete (map removed es)
none_removed [] = tt
none_removed (e ∷ es) = (refl, none_removed es)

module _ (rs : Records) (n : ℕ) where
  abbrev Names : Course → Type 0
  Names c = Of (Deletes rs) c

  writes-of : (first : List Writing) (subject normal : List ℕ) (id version : ℕ)
      → AllByRecursion NoDelete first → Names (writes first subject normal id version)
  writes-of first subject normal id version none =
      of_then _ (test.must_be_number id) _ (of_then _ (test.must_be_number version) _ (inl (and_last NoDelete first _ none refl)))

  import_as-of : (subject normal : List ℕ) (id : ℕ) (version : Option ℕ) → Names (import_as rs subject normal id version)
  import_as-of subject normal id None =
      of_found _ (newest (filter (is_of id normal) (live rs subject))) _ _ (λ same e. inl tt)
      (λ _. writes-of [] subject normal id (next_version rs subject) tt)
  import_as-of subject normal id (Some version) =
      of_found _ (version_in (entries rs) subject (Number version) false) _ _ (λ e _.
      of_then _ (refuse_unless (is_of id normal e) (refusals.NotPermitted reasons.VersionIsOccupied)) _ (inl tt)) (λ _.
      let over = version_in (entries rs) subject (Number version) true in
      writes-of (mark_over rs id over) subject normal id version (over-all NoDelete rs id over (λ e _. refl)))

  delete_entry-of : (permanent : Bool) (e : Entry) → Names (delete_entry rs permanent e)
  delete_entry-of false e = of_then _ (refuse_if e.soft refusals.VersionSoftDeleted) _ (inl (refl, tt))
  delete_entry-of true e = of_then _ (refuse_unless e.soft refusals.VersionNotSoftDeleted) _ (inl (refl, (refl, tt)))

  delete_all-of : (subject : List ℕ) (permanent : Bool) (greatest : ℕ)
      → greatest_version rs subject ≡ Some greatest → Names (delete_all rs subject permanent greatest)
  delete_all-of subject false greatest is = of_then _ (test.must_be_live rs subject) _ (inr (subject, greatest, refl, is))
  delete_all-of subject true greatest is = of_then _ (test.must_not_be_live rs subject) _ (inl (refl, none_removed (standing rs subject)))

  course-names : (c : Command) → Names (course_of rs n c)
  course-names (commands.Register subject text) =
      of_found _ (schema_of text) _ _ (λ schema known.
      of_then _ (test.must_have_valid_defaults schema) _ (
      of_then _ (test.must_be_open rs) _ (
      of_then _ (test.must_have_offset n) _ (
      of_then _ (may_register (mode rs (Some subject)) _) _ (
      of_found _ (newest (filter (has_schema schema.normal_text) (live rs subject))) _ _ (λ same e. inl tt) (λ _ meets.
      writes-of [] subject schema.normal_text (id_for rs schema.normal_text) (next_version rs subject) tt)))))) (λ _. tt)
  course-names (commands.ImportRegister subject text id version) =
      of_found _ (schema_of text) _ _ (λ schema known.
      of_then _ (test.must_be_open rs) _ (
      of_then _ (test.must_have_offset n) _ (
      of_then _ (may_register (mode rs (Some subject)) _) _ (
      of_then _ (test.must_name_no_other rs id schema.normal_text) _ (
      of_then _ (test.must_be_above_mark rs id) _ (
      import_as-of subject schema.normal_text id version)))))) (λ _. tt)
  course-names (commands.DeleteVersion subject version permanent) =
      of_then _ (test.must_be_open rs) _ (
      of_then _ (test.must_have_offset n) _ (
      of_then _ (may_write (mode rs (Some subject))) _ (
      of_then _ (test.must_stand rs subject) _ (
      of_found _ (version_meant rs subject version) _ _ (λ e _. delete_entry-of permanent e) (λ _. tt)))))
  course-names (commands.DeleteSubject subject permanent) =
      of_then _ (test.must_be_open rs) _ (
      of_then _ (test.must_have_offset n) _ (
      of_then _ (may_write (mode rs (Some subject))) _ (
      of_found _ (greatest_version rs subject) _ _ (λ greatest is. delete_all-of subject permanent greatest is) (λ _. tt))))
  course-names (commands.SetLevel scope level) =
      of_then _ (test.must_be_open rs) _
      (of_then _ (test.must_have_offset n) _ (of_then _ (may_write (mode rs scope)) _ (inl (refl, tt))))
  course-names (commands.ClearLevel subject) =
      of_then _ (test.must_be_open rs) _ (of_then _ (test.must_have_offset n) _ (of_then _ (may_write (mode rs (Some subject))) _ (
      of_found _ (own_level rs (Some subject)) _ _ (λ level _. inl (refl, tt)) (λ _. tt))))
  course-names (commands.SetMode scope mode force) =
      of_then _ (test.must_be_open rs) _
      (of_then _ (test.must_have_offset n) _ (of_then _ (test.must_allow_mode rs scope mode force) _ (inl (refl, tt))))
  course-names (commands.ClearMode subject) =
      of_then _ (test.must_be_open rs) _ (of_then _ (test.must_have_offset n) _ (
      of_found _ (own_mode rs (Some subject)) _ _ (λ mode _. inl (refl, tt)) (λ _. tt)))
  course-names commands.Noop = of_then _ (test.must_be_open rs) _ (of_then _ (test.must_have_offset n) _ (inl (refl, tt)))

pub deletes_name_greatest : EntriesAreInLimits → DeletesNameGreatest
unfolding IsStep
deletes_name_greatest fits rs n c reply batch step =
    elim (outcome-of (Deletes rs) n (course_of rs n c) reply batch (course-names rs n c) step) [
      | inl none ↦ inl (
          subst (All (λ (r : Record). is_delete r.key ≡ false)) (sym none) (All-nil (λ (r : Record). is_delete r.key ≡ false)))
      | inr some ↦ elim (some.2) [
        | inl nothing ↦ inl (
            subst (All (λ (r : Record). is_delete r.key ≡ false)) (sym some.1)
            (numbered-all (λ r. is_delete r.key ≡ false) (λ n w none. none) n some.0 nothing))
        | inr one ↦ inr (record {
          subject = one.0;
          greatest = one.1;
          one_record = some.1 ∙ ap (numbered n) one.2;
          is_greatest = one.3;
          greatest_fits = greatest-fits fits rs one.0 one.1 one.3;
        })
      ]
    ]
