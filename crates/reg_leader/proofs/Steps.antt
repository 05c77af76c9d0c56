-- What is true of every single step.
use Rattle.std.proofs.Common.{◌≡◌, ◌⊎◌, ℕ, List, [], ◌∷◌, Some, None, All, refl, sym, ap, ◌∙◌, inl, inr}
use Rattle.std.specs.List.{filter}
use Rattle.std.proofs.lemmas.List.Elements.{All-head, All-tail}
use Rattle.reg_rules.specs.avro_schema.Schema.{Meaning, schema_of}
use Rattle.reg_rules.specs.reg_fold.InForce.{level}
use Rattle.reg_rules.specs.reg_fold.Standing.{live}
use Rattle.reg_rules.specs.reg_level_names.declared.level.Level.{Level}
use Rattle.reg_rules.specs.reg_levels.LevelVerdict.{HaveOneLevelVerdict, IsCompatible, IsVerdictOn, passed}
use Rattle.reg_rules.specs.reg_levels.Message.{message_of}
use Rattle.reg_rules.specs.reg_levels.RequiredPairs.{Required, required_pairs}
use Rattle.reg_rules.specs.reg_levels.Texts.{TextsMeet, VersionText, nodes_in, versions_in}
use Rattle.reg_rules.specs.reg_modes.InForce.{mode}
use Rattle.reg_rules.specs.reg_modes.Permitted.{may_register}
use Rattle.reg_rules.specs.reg_records.declared.record.Record.{Record}
use Rattle.reg_rules.specs.reg_set.Records.{Records}
use Rattle.reg_rules.specs.Report.{IsClash}
use Rattle.reg_leader.specs.Course.{Course, Refused, Does, IfMet, IsOutcome, incompatible}
use Rattle.reg_leader.specs.OneStep.{BatchesEndByTheLimit, BatchesGoOn, RegistersWhatMeets, StepsAreSingle, StepsMeetLevels}
use Rattle.reg_rules.specs.Standing.{id_for, next_version}
use Rattle.reg_rules.specs.reg_entries.Sought.{has_schema, newest, texts_of}
use Rattle.reg_leader.specs.Step.{IsStep, course_of, register, writes}
use Rattle.reg_rules.specs.Tests as test
use Rattle.reg_rules.specs.Writings.{numbered, version_of}
use Rattle.reg_rules.specs.declared.writing.Writing.{Writing}
use Rattle.reg_leader.specs.declared.reply.Reply.{Reply}
use Rattle.reg_leader.specs.declared.reply.Reply.TheVariants as replies
use Rattle.reg_leader.proofs.Courses.{Of, of_then, of_found, outcome-ends, outcome-goes_on, outcome-of}

pub batches_go_on : BatchesGoOn
unfolding IsStep
batches_go_on rs n c reply batch step = outcome-goes_on n (course_of rs n c) reply batch step

pub batches_end_by_the_limit : BatchesEndByTheLimit
unfolding IsStep
batches_end_by_the_limit rs n c reply batch step = outcome-ends n (course_of rs n c) reply batch step

-- where each pair is compatible nothing is reported
met_passes : (ps : List Required) → All IsCompatible ps → IsVerdictOn ps passed
met_passes [] all = refl
met_passes (p ∷ ps) all = inl (All-head IsCompatible p ps all, met_passes ps (All-tail IsCompatible p ps all))

module _ (single : HaveOneLevelVerdict) where
  one_message : (level : Level) (new : List ℕ) (olds : List VersionText) (a b : List ℕ)
      → IsClash level new olds a → IsClash level new olds b → a ≡ b
  one_message level new olds a b (u, is, tells) (v, was, told) =
      let same : Some a ≡ Some b =
      sym tells ∙ ap message_of (single (required_pairs level (nodes_in new) (versions_in olds)) u v is was) ∙ told in
      cc

  not_met : (level : Level) (new : List ℕ) (olds : List VersionText) (a : List ℕ) → IsClash level new olds a → TextsMeet level new olds → ⊥
  not_met level new olds a (v, is, tells) met =
      let pairs = required_pairs level (nodes_in new) (versions_in olds) in
      let no : None ≡ Some a = ap message_of (single pairs passed v (met_passes pairs met) is) ∙ tells in cc

  -- a course has one outcome
  one_outcome : (n : ℕ) (c : Course) (r s : Reply) (a b : List Record) → IsOutcome n c r a → IsOutcome n c s b → (r ≡ s) × (a ≡ b)
  one_outcome n (Refused refusal) r s a b e f = (e.0 ∙ sym f.0, e.1 ∙ sym f.1)
  one_outcome n (Does does ws) r s a b e f = let same = sym e ∙ f in (ap (λ p. p.0) same, ap (λ p. p.1) same)
  one_outcome n (IfMet level new olds rest) r s a b (inl m) (inl k) = one_outcome n rest r s a b m.1 k.1
  one_outcome n (IfMet level new olds rest) r s a b (inl m) (inr k) = absurd (not_met level new olds k.0 k.1 m.0)
  one_outcome n (IfMet level new olds rest) r s a b (inr k) (inl m) = absurd (not_met level new olds k.0 k.1 m.0)
  one_outcome n (IfMet level new olds rest) r s a b (inr (c, is, told)) (inr (d, was, tells)) =
      (told.0 ∙ ap (λ x. replies.Refused (incompatible x)) (one_message level new olds c d is was) ∙ sym tells.0, told.1 ∙ sym tells.1)

  pub steps_are_single : StepsAreSingle
  unfolding IsStep
  steps_are_single rs n c reply other batch others step stepped = one_outcome n (course_of rs n c) reply other batch others step stepped

-- nothing is written, or one version with the schema of that text, which met the level
record Registered (rs : Records) (subject text : List ℕ) (ws : List Writing) : Type 0 where
  schema : Meaning
  is_read : schema_of text ≡ Some schema
  version : ℕ
  id : ℕ
  one_version : ws ≡ version_of subject version id schema.normal_text ∷ []
  meets : TextsMeet (level rs (Some subject)) schema.normal_text (texts_of (live rs subject))

abbrev OneVersion : Records → List ℕ → List ℕ → Reply → List Writing → Type 0
OneVersion rs subject text reply ws = (ws ≡ []) ⊎ Registered rs subject text ws

module _ (rs : Records) (n : ℕ) where
  writes-of : (subject text : List ℕ) (schema : Meaning) (id version : ℕ) → schema_of text ≡ Some schema
      → TextsMeet (level rs (Some subject)) schema.normal_text (texts_of (live rs subject))
      → Of (OneVersion rs subject text) (writes [] subject schema.normal_text id version)
  writes-of subject text schema id version known meets =
      of_then _ (test.must_be_number id) _ (of_then _ (test.must_be_number version) _ (
      inr (record { schema = schema; is_read = known; version = version; id = id; one_version = refl; meets = meets })))

  register-of : (subject text : List ℕ) → Of (OneVersion rs subject text) (register rs n subject text)
  register-of subject text =
      of_found _ (schema_of text) _ _ (λ schema known.
      of_then _ (test.must_have_valid_defaults schema) _ (
      of_then _ (test.must_be_open rs) _ (
      of_then _ (test.must_have_offset n) _ (
      of_then _ (may_register (mode rs (Some subject)) _) _ (
      of_found _ (newest (filter (has_schema schema.normal_text) (live rs subject))) _ _ (λ same e. inl refl) (λ _ meets.
      writes-of subject text schema (id_for rs schema.normal_text) (next_version rs subject) known meets)))))) (λ _. tt)

registered : (rs : Records) (n : ℕ) (subject text : List ℕ) (batch : List Record)
    → (batch ≡ []) ⊎ ((ws : List Writing) × (batch ≡ numbered n ws) × ((ws ≡ []) ⊎ Registered rs subject text ws))
    → (batch ≡ []) ⊎ RegistersWhatMeets rs n subject text batch
registered rs n subject text batch (inl none) = inl none
registered rs n subject text batch (inr some) =
    elim (some.2) [
      | inl nothing ↦ inl (some.1 ∙ ap (numbered n) nothing)
      | inr v ↦ inr (record {
        schema = v.schema;
        is_read = v.is_read;
        version = v.version;
        id = v.id;
        one_record = some.1 ∙ ap (numbered n) v.one_version;
        meets = v.meets;
      })
    ]

pub steps_meet_levels : StepsMeetLevels
unfolding IsStep
steps_meet_levels rs n subject text reply batch step =
    registered rs n subject text batch (outcome-of _ n _ reply batch (register-of rs n subject text) step)
