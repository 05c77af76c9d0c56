-- Private: what the functions behind a decision come to for a command whose level may be checked. Any of them may be refused memory.
use Rattle.std.specs.Prelude.{◌≡◌, ◌⊎◌, ℕ, List, [], false, Some, Result, Ok, Err}
use Rattle.std.specs.List.{filter}
use Rattle.reg_rules.specs.avro_schema.Reading.{Reading, kept_of}
use Rattle.reg_rules.specs.reg_fold.InForce.{level}
use Rattle.reg_rules.specs.reg_fold.Standing.{live}
use Rattle.reg_rules.specs.reg_levels.Texts.{TextsMeet}
use Rattle.reg_rules.specs.reg_modes.InForce.{mode}
use Rattle.reg_rules.specs.reg_modes.Permitted.{may_register}
use Rattle.reg_rules.specs.reg_refusals.Refusal.{no_memory}
use Rattle.reg_rules.specs.reg_refusals.declared.refusal.Refusal.{Refusal}
use Rattle.reg_rules.specs.reg_refusals.declared.refusal.Refusal.TheVariants as refusals
use Rattle.reg_rules.specs.reg_set.Records.{Records}
use Rattle.reg_rules.specs.Report.{IsClash}
use Rattle.reg_leader.specs.Course.{Course, Refused, Does, IfMet, incompatible, ◌▸◌, where_found}
use Rattle.reg_rules.specs.Standing.{id_for, next_version}
use Rattle.reg_rules.specs.reg_entries.Sought.{has_schema, newest, texts_of}
use Rattle.reg_leader.specs.Step.{where_read, writes}
use Rattle.reg_rules.specs.Tests as test
use Rattle.reg_rules.specs.Tests.{refuse_unless}
use Rattle.reg_leader.specs.declared.deed.Deed.{Deed}
use Rattle.reg_leader.specs.declared.deed.Candidate.{Candidate}
use Rattle.reg_leader.specs.declared.deed.Candidate.TheVariants as found
use Rattle.reg_leader.specs.declared.reply.Reply.TheVariants as replies

-- the course leads to that deed
abbrev pub IsDeed : Course → Deed → Type 0
IsDeed (Refused refusal) deed = ⊥
IsDeed (Does reply ws) deed = Does reply ws ≡ Does deed.reply deed.writings.items
IsDeed (IfMet level new olds rest) deed = TextsMeet level new olds × IsDeed rest deed

-- the course leads to that refusal
abbrev pub IsRefusal : Course → Refusal → Type 0
IsRefusal (Refused refusal) told = refusal ≡ told
IsRefusal (Does reply ws) told = ⊥
IsRefusal (IfMet level new olds rest) told =
    (TextsMeet level new olds × IsRefusal rest told)
    ⊎ ((message : List ℕ) × IsClash level new olds message × (incompatible message ≡ told))

abbrev pub LeadsTo : Course → Result Deed Refusal → Type 0
LeadsTo course (Ok deed) = IsDeed course deed
LeadsTo course (Err refusal) = (refusal ≡ no_memory) ⊎ IsRefusal course refusal

-- what follows for a schema that is to be registered and isn't live
abbrev pub if_met : Records → List ℕ → List ℕ → Course
if_met rs subject normal = IfMet (level rs (Some subject)) normal (texts_of (live rs subject))
    (writes [] subject normal (id_for rs normal) (next_version rs subject))

-- what comes before that, for a schema that was read, and for a text
abbrev pub before_of : Records → ℕ → List ℕ → Reading → (List ℕ → Course) → Course
before_of rs n subject schema checked =
    refuse_unless schema.has_valid_defaults refusals.InvalidSchema
    ▸ test.must_be_open rs
    ▸ test.must_have_offset n
    ▸ may_register (mode rs (Some subject)) false
    ▸ where_found (newest (filter (has_schema schema.normal) (live rs subject)))
    (λ same. Does (replies.Id same.id) []) (checked schema.normal)

abbrev pub before : Records → ℕ → List ℕ → List ℕ → (List ℕ → Course) → Course
before rs n subject text checked = where_read text (λ schema. before_of rs n subject (kept_of schema) checked)

-- what is left of a course whose check comes last
abbrev pub Leaves : ((List ℕ → Course) → Course) → Result Candidate Refusal → Type 0
Leaves course (Ok (found.Live id)) = (checked : List ℕ → Course) → course checked ≡ Does (replies.Id id) []
Leaves course (Ok (found.New schema)) = (checked : List ℕ → Course) → course checked ≡ checked schema.normal
Leaves course (Err refusal) = (refusal ≡ no_memory) ⊎ ((checked : List ℕ → Course) → course checked ≡ Refused refusal)

abbrev pub IsBefore : Records → ℕ → List ℕ → List ℕ → Result Candidate Refusal → Type 0
IsBefore rs n subject text = Leaves (before rs n subject text)
