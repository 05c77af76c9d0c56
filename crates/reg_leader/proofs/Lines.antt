-- What commands write has lines, and is read.
use Rattle.std.proofs.Common.{◌≡◌, ◌⊎◌, inl, inr, ℕ, suc, ◌+◌, ◌≤◌, Bool, true, false, nat_le, ◌==◌, List, [], ◌∷◌, length, map, bytes_eq}
use Rattle.std.proofs.Common.{Option, Some, None, is_some, option_map, option_and_then, All, Contains, refl, sym, ap, subst, ◌∙◌, arith}
use Rattle.std.proofs.lemmas.List.Elements.{All-nil, All-cons, All-push, All-from_recursion}
use Rattle.std.proofs.lemmas.List.Elements.{All-head, All-tail, All-filter}
use Rattle.std.proofs.lemmas.List.Elements.{All-weaker, All-contains_itself}
use Rattle.std.specs.List.{filter}
use Rattle.std.specs.Ordering.{nat_cmp, on, ord_max}
use Rattle.reg_rules.specs.avro_schema.Schema.{Meaning, schema_of, is_schema}
use Rattle.reg_rules.specs.reg_entries.Sought.{counting, counts, of_subject, has_schema, newest}
use Rattle.reg_rules.specs.reg_entries.declared.entry.Entry.{Entry}
use Rattle.reg_rules.specs.reg_fold.Entries.{EntriesAreInLimits, EntriesAreRead, entries}
use Rattle.reg_rules.specs.reg_fold.IdMark.{IdMarkIsInLimits}
use Rattle.reg_rules.specs.reg_fold.InForce.{own_level}
use Rattle.reg_rules.specs.reg_fold.Standing.{greatest_version, live, version_in}
use Rattle.reg_rules.specs.reg_fold.declared.version_ref.VersionRef.{VersionRef}
use Rattle.reg_rules.specs.reg_fold.declared.version_ref.VersionRef.TheVariants.{Latest, Number}
use Rattle.reg_rules.specs.reg_level_names.Level.{is_level, level_text}
use Rattle.reg_rules.specs.reg_level_names.declared.level.Level.{Level}
use Rattle.reg_rules.specs.reg_level_names.declared.level.Level.TheVariants as levels
use Rattle.reg_rules.specs.reg_modes.InForce.{mode, own_mode}
use Rattle.reg_rules.specs.reg_modes.Permitted.{may_register, may_write}
use Rattle.reg_rules.specs.reg_values.Value.{value_of}
use Rattle.reg_rules.specs.reg_records.Written.{HasLine, IsInLimits, IsVersionOrId}
use Rattle.reg_rules.specs.reg_records.WrittenValue.{written_value}
use Rattle.reg_rules.specs.reg_values.OfKey.{IsValueOf}
use Rattle.reg_rules.specs.reg_records.declared.limits.TheConstants.{OFFSET_LIMIT}
use Rattle.reg_rules.specs.reg_records.declared.value.Value.{Value}
use Rattle.reg_rules.specs.reg_refusals.declared.reason.Reason.TheVariants as reasons
use Rattle.reg_rules.specs.reg_refusals.declared.refusal.Refusal.TheVariants as refusals
use Rattle.reg_rules.specs.Standing.{id_for, is_of, next_version, standing, version_meant}
use Rattle.reg_rules.specs.Tests as test
use Rattle.reg_rules.specs.Tests.{refuse_if, refuse_unless}
use Rattle.reg_rules.specs.Writings.{numbered, removed, written_at}
use Rattle.reg_rules.specs.declared.writing.Writing.{Writing}
use Rattle.reg_rules.specs.reg_set.Records.{Records}
use Rattle.reg_leader.specs.Course.{Course, ◌▸◌}
use Rattle.reg_leader.specs.OneStep.{BatchesAreRead, BatchesHaveLines, IsReadable}
use Rattle.reg_leader.specs.Step.{IsStep, course_of, delete_all, delete_entry, import_as, mark_over, marked, writes}
use Rattle.reg_leader.specs.declared.command.Command.{Command}
use Rattle.reg_leader.specs.declared.command.Command.TheVariants as commands
use Rattle.reg_leader.specs.declared.reply.Reply.{Reply}
use Rattle.reg_leader.proofs.Below.{NormalTextsReadBack, ValuesHaveLines, ValuesReadBack}
use Rattle.reg_leader.proofs.Chosen.{find_has, ord_max-picks, reduce_has}
use Rattle.reg_leader.proofs.Courses.{Of, of_then, of_passed, of_found, outcome-within}
use Rattle.reg_leader.proofs.First.{over-all}
use Rattle.reg_leader.proofs.Greatest.{greatest-fits, greatest-stands, last_id-fits}
use Rattle.reg_leader.proofs.Names.{meant-stands}
use Rattle.reg_leader.proofs.Passed.{number_passed}

-- a key within its limits, and no value or one that may stand under it
pub record IsSound (w : Writing) : Type 0 where
  pub key_fits : IsInLimits w.key
  pub value_fits : (w.value ≡ None) ⊎ ((v : Value) × (w.value ≡ Some v) × IsValueOf w.key v)

abbrev pub AreSound : Reply → List Writing → Type 0
AreSound reply ws = All IsSound ws

one_sound : (w : Writing) → IsSound w → All IsSound (w ∷ [])
one_sound w h = All-cons IsSound w [] h (All-nil IsSound)

-- their records
written-has_line : ValuesHaveLines → (n : ℕ) (w : Writing) → n ≤ OFFSET_LIMIT → IsSound w → HasLine (written_at n w)
written-has_line lines n w within h =
    elim (h.value_fits) [
      | inl none ↦ subst (λ o. HasLine (record { offset = n; key = w.key; value = option_and_then written_value o })) (sym none)
          (record { offset_fits = within; key_fits = h.key_fits; value_fits = λ x e. cc })
      | inr some ↦ subst (λ o. HasLine (record { offset = n; key = w.key; value = option_and_then written_value o }))
          (sym some.1) (lines n w.key some.0 within h.key_fits some.2)
    ]

pub numbered-have_lines : ValuesHaveLines → (n : ℕ) (ws : List Writing)
    → nat_le (n + length ws) (suc OFFSET_LIMIT) ≡ true → All IsSound ws → All HasLine (numbered n ws)
numbered-have_lines lines n [] within all = All-nil HasLine
numbered-have_lines lines n (w ∷ ws) within all =
    let first : n ≤ OFFSET_LIMIT = grind arith in
    let rest : nat_le (suc n + length ws) (suc OFFSET_LIMIT) ≡ true = grind arith in
    All-cons HasLine (written_at n w) (numbered (suc n) ws) (written-has_line lines n w first (All-head IsSound w ws all))
    (numbered-have_lines lines (suc n) ws rest (All-tail IsSound w ws all))

written-is_readable : ValuesReadBack → (n : ℕ) (w : Writing) → IsSound w → IsReadable (written_at n w)
written-is_readable reads n w h =
    elim (h.value_fits) [
      | inl none ↦ inl (ap (option_and_then written_value) none)
      | inr some ↦ inr (
          ap (λ o. is_some (value_of (record { offset = n; key = w.key; value = option_and_then written_value o }))) some.1
          ∙ ap is_some (reads n w.key some.0 some.2))
    ]

pub numbered-are_readable : ValuesReadBack → (n : ℕ) (ws : List Writing) → All IsSound ws → All IsReadable (numbered n ws)
numbered-are_readable reads n [] all = All-nil IsReadable
numbered-are_readable reads n (w ∷ ws) all =
    All-cons IsReadable (written_at n w) (numbered (suc n) ws) (written-is_readable reads n w (All-head IsSound w ws all))
    (numbered-are_readable reads (suc n) ws (All-tail IsSound w ws all))

levels-are_named : (level : Level) → is_level (level_text level) ≡ true
levels-are_named levels.None = refl
levels-are_named levels.Backward = refl
levels-are_named levels.BackwardTransitive = refl
levels-are_named levels.Forward = refl
levels-are_named levels.ForwardTransitive = refl
levels-are_named levels.Full = refl
levels-are_named levels.FullTransitive = refl

-- an entry's numbers are within their limits, and its text is a schema's
abbrev pub IsWhole : Entry → Type 0
IsWhole e = IsVersionOrId e.version × IsVersionOrId e.id × (is_schema e.text ≡ true)

some_mapped : {A B : Type 0} (f : A → B) (o : Option A) (b : B) → option_map f o ≡ Some b → is_some o ≡ true
some_mapped f None b e = cc
some_mapped f (Some a) b e = refl

entries_are_whole : EntriesAreInLimits → EntriesAreRead → (rs : Records) → All IsWhole (entries rs)
entries_are_whole limits read rs =
    let each : (e : Entry) → Contains (entries rs) e → IsWhole e = λ e there. (
      (limits rs e there).0,
      (limits rs e there).1,
      some_mapped (λ (m : Meaning). m.normal_text) (schema_of e.text) e.normal (read rs e there),
    )
    in
    All-weaker (Contains (entries rs)) IsWhole each (entries rs) (All-contains_itself (entries rs))

module _ (limits : EntriesAreInLimits) (marks : IdMarkIsInLimits) (rs : Records)
    (n : ℕ) (whole : All IsWhole (entries rs)) (again : NormalTextsReadBack) where
  of_subject-whole : (subject : List ℕ) → All IsWhole (of_subject (entries rs) subject)
  of_subject-whole subject = All-filter (λ e. bytes_eq e.subject subject) IsWhole (entries rs) whole

  counting-whole : (subject : List ℕ) (deleted : Bool) → All IsWhole (counting (entries rs) subject deleted)
  counting-whole subject deleted = All-filter (counts deleted) IsWhole (of_subject (entries rs) subject) (of_subject-whole subject)

  meant-whole : (subject : List ℕ) (ref : VersionRef) (e : Entry) → version_meant rs subject ref ≡ Some e → IsWhole e
  meant-whole subject Latest e is =
      reduce_has IsWhole (ord_max (on (λ e. e.version) nat_cmp))
      (ord_max-picks (on (λ e. e.version) nat_cmp)) (live rs subject) e (counting-whole subject false) is
  meant-whole subject (Number version) e is =
      find_has IsWhole (λ e. e.version == version) (standing rs subject) e (counting-whole subject true) is

  all_removed : (es : List Entry) → All IsWhole es → All IsSound (map removed es)
  all_removed [] all = All-nil IsSound
  all_removed (e ∷ es) all =
      All-cons IsSound (removed e) (map removed es) (record { key_fits = (All-head IsWhole e es all).0; value_fits = inl refl })
      (all_removed es (All-tail IsWhole e es all))

  marked-sound : (e : Entry) → Contains (entries rs) e → IsSound (marked rs)
  marked-sound e stands = record { key_fits = tt; value_fits = inr (_, refl, (refl, last_id-fits limits marks rs e stands)) }

  writes-sound : (first : List Writing) (subject normal : List ℕ) (id version : ℕ)
      → is_schema normal ≡ true → All IsSound first → Of AreSound (writes first subject normal id version)
  writes-sound first subject normal id version known all =
      of_passed _ (test.must_be_number id) _ (λ i. of_passed _ (test.must_be_number version) _ (λ v.
      All-push IsSound first _ all (
      record {
        key_fits = number_passed version v;
        value_fits = inr (_, refl, (refl, number_passed version v, number_passed id i, known));
      })))

  import_as-sound : (subject normal : List ℕ) (id : ℕ) (version : Option ℕ)
      → is_schema normal ≡ true → Of AreSound (import_as rs subject normal id version)
  import_as-sound subject normal id None known =
      of_found _ (newest (filter (is_of id normal) (live rs subject))) _ _ (λ same _. All-nil IsSound)
      (λ _. writes-sound [] subject normal id (next_version rs subject) known (All-nil IsSound))
  import_as-sound subject normal id (Some version) known =
      of_found _ (version_in (entries rs) subject (Number version) false) _ _
      (λ e _. of_then _ (refuse_unless (is_of id normal e) (refusals.NotPermitted reasons.VersionIsOccupied)) _ (All-nil IsSound))
      (λ _.
      let over = version_in (entries rs) subject (Number version) true in
      let first = over-all IsSound rs id over (λ e is. marked-sound e (meant-stands rs subject (Number version) e is)) in
      writes-sound (mark_over rs id over) subject normal id version known (All-from_recursion IsSound (mark_over rs id over) first))

  delete_entry-sound : (permanent : Bool) (e : Entry) → Contains (entries rs) e → IsWhole e → Of AreSound (delete_entry rs permanent e)
  delete_entry-sound false e stands h =
      of_then _ (refuse_if e.soft refusals.VersionSoftDeleted) _
      (one_sound _ (record { key_fits = h.0; value_fits = inr (_, refl, (refl, h.0, h.1, h.2)) }))
  delete_entry-sound true e stands h =
      of_then _ (refuse_unless e.soft refusals.VersionNotSoftDeleted) _
      (All-cons IsSound (marked rs) (removed e ∷ []) (marked-sound e stands)
      (one_sound _ (record { key_fits = h.0; value_fits = inl refl })))

  delete_all-sound : (subject : List ℕ) (permanent : Bool) (greatest : ℕ)
      → greatest_version rs subject ≡ Some greatest → Of AreSound (delete_all rs subject permanent greatest)
  delete_all-sound subject false greatest is =
      of_then _ (test.must_be_live rs subject) _
      (one_sound _ (record { key_fits = tt; value_fits = inr (_, refl, (refl, greatest-fits limits rs subject greatest is)) }))
  delete_all-sound subject true greatest is =
      let one = greatest-stands rs subject greatest is in
      of_then _ (test.must_not_be_live rs subject) _
      (All-cons IsSound (marked rs) (map removed (standing rs subject)) (marked-sound one.0 one.1)
      (all_removed (standing rs subject) (counting-whole subject true)))

  open-sound : (c : Course) → Of AreSound c → Of AreSound (test.must_be_open rs ▸ test.must_have_offset n ▸ c)
  open-sound c h = of_then _ (test.must_be_open rs) _ (of_then _ (test.must_have_offset n) _ h)

  -- a normal text is a schema's
  known : (text : List ℕ) (schema : Meaning) → schema_of text ≡ Some schema → is_schema schema.normal_text ≡ true
  known text schema is = ap is_some (again text schema is)

  pub course-sound : (c : Command) → Of AreSound (course_of rs n c)
  course-sound (commands.Register subject text) =
      of_found _ (schema_of text) _ _ (λ schema is.
      of_then _ (test.must_have_valid_defaults schema) _ (open-sound _ (
      of_then _ (may_register (mode rs (Some subject)) false) _ (
      of_found _ (newest (filter (has_schema schema.normal_text) (live rs subject))) _ _ (λ same _. All-nil IsSound) (λ _ _.
      writes-sound [] subject schema.normal_text (id_for rs schema.normal_text)
      (next_version rs subject) (known text schema is) (All-nil IsSound))))))
      (λ _. tt)
  course-sound (commands.ImportRegister subject text id version) =
      of_found _ (schema_of text) _ _ (λ schema is. open-sound _ (
      of_then _ (may_register (mode rs (Some subject)) true) _ (
      of_then _ (test.must_name_no_other rs id schema.normal_text) _ (
      of_then _ (test.must_be_above_mark rs id) _ (import_as-sound subject schema.normal_text id version (known text schema is))))))
      (λ _. tt)
  course-sound (commands.DeleteVersion subject version permanent) =
      open-sound _ (of_then _ (may_write (mode rs (Some subject))) _ (of_then _ (test.must_stand rs subject) _ (
      of_found _ (version_meant rs subject version) _ _
      (λ e is. delete_entry-sound permanent e (meant-stands rs subject version e is) (meant-whole subject version e is)) (λ _. tt))))
  course-sound (commands.DeleteSubject subject permanent) =
      open-sound _ (of_then _ (may_write (mode rs (Some subject))) _ (
      of_found _ (greatest_version rs subject) _ _ (λ greatest is. delete_all-sound subject permanent greatest is) (λ _. tt)))
  course-sound (commands.SetLevel scope level) =
      open-sound _ (
      of_then _ (may_write (mode rs scope)) _
      (one_sound _ (record { key_fits = tt; value_fits = inr (_, refl, (scope, refl, levels-are_named level)) })))
  course-sound (commands.ClearLevel subject) =
      open-sound _ (of_then _ (may_write (mode rs (Some subject))) _ (
      of_found _ (own_level rs (Some subject)) _ _ (λ level _. one_sound _ (record { key_fits = tt; value_fits = inl refl })) (λ _. tt)))
  course-sound (commands.SetMode scope mode force) =
      open-sound _ (
      of_then _ (test.must_allow_mode rs scope mode force) _
      (one_sound _ (record { key_fits = tt; value_fits = inr (_, refl, (scope, refl)) })))
  course-sound (commands.ClearMode subject) =
      open-sound _ (
      of_found _ (own_mode rs (Some subject)) _ _ (λ mode _. one_sound _ (record { key_fits = tt; value_fits = inl refl })) (λ _. tt))
  course-sound commands.Noop = open-sound _ (one_sound _ (record { key_fits = tt; value_fits = inl refl }))

pub batches_have_lines : EntriesAreInLimits → IdMarkIsInLimits → EntriesAreRead → NormalTextsReadBack → ValuesHaveLines → BatchesHaveLines
unfolding IsStep
batches_have_lines limits marks read again lines rs n c reply batch step =
    elim (
    outcome-within AreSound n (course_of rs n c) reply batch
    (course-sound limits marks rs n (entries_are_whole limits read rs) again c) step) [
      | inl none ↦ subst (All HasLine) (sym none) (All-nil HasLine)
      | inr some ↦ subst (All HasLine) (sym some.1) (numbered-have_lines lines n some.0 some.3 some.2)
    ]

pub batches_are_read : EntriesAreInLimits → IdMarkIsInLimits → EntriesAreRead → NormalTextsReadBack → ValuesReadBack → BatchesAreRead
unfolding IsStep
batches_are_read limits marks read again reads rs n c reply batch step =
    elim (
    outcome-within AreSound n (course_of rs n c) reply batch
    (course-sound limits marks rs n (entries_are_whole limits read rs) again c) step) [
      | inl none ↦ subst (All IsReadable) (sym none) (All-nil IsReadable)
      | inr some ↦ subst (All IsReadable) (sym some.1) (numbered-are_readable reads n some.0 some.2)
    ]
