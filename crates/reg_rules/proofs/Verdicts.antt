-- What a verdict tells by its message, and that entries' texts are schemas'.
use Rattle.std.proofs.Common.{◌≡◌, ℕ, List, [], ◌∷◌, true, false, not, cond, is_some, Option, Some, None}
use Rattle.std.proofs.Common.{All, Contains, option_map, bytes_eq, refl, sym, ap, subst, ◌∙◌, inl, inr}
use Rattle.std.proofs.lemmas.List.Elements.{All-nil, All-cons, All-head, All-tail, All-weaker, All-filter, All-contains_itself}
use Rattle.std.specs.List.{find}
use Rattle.reg_modes.specs.avro_schema.Schema.{Meaning, schema_of, is_schema}
use Rattle.reg_modes.specs.reg_entries.Sought.{counts, of_subject, texts_of}
use Rattle.reg_modes.specs.reg_entries.declared.entry.Entry.{Entry}
use Rattle.reg_modes.specs.reg_fold.Entries.{EntriesAreRead, entries}
use Rattle.reg_modes.specs.reg_fold.Standing.{live}
use Rattle.reg_modes.specs.reg_level_names.declared.level.Level.{Level}
use Rattle.reg_levels.specs.Judgement.{IsMadeOf, IsTrueVerdict, Judgement, first_unread}
use Rattle.reg_levels.specs.LevelVerdict.{IsCompatible, IsVerdictOn}
use Rattle.reg_levels.specs.Message.{clash_message, message_of}
use Rattle.reg_levels.specs.RequiredPairs.{Required, required_pairs}
use Rattle.reg_levels.specs.Texts.{IsVerdictOfTexts, VersionText, nodes_in, versions_in}
use Rattle.reg_levels.specs.declared.verdict.LevelVerdict.{LevelVerdict}
use Rattle.reg_rules.specs.Report.{IsReport, LiveVersionsAreRead}

-- where a verdict tells no pair, each is compatible
none_told : (ps : List Required) (v : LevelVerdict) → IsVerdictOn ps v → message_of v ≡ None → All IsCompatible ps
none_told [] v is none = All-nil IsCompatible
none_told (p ∷ ps) v (inl (compatible, is)) none = All-cons IsCompatible p ps compatible (none_told ps v is none)
none_told (p ∷ ps) v (inr (trail, shown, is)) none =
    let no : Some (clash_message p.version p.direction trail) ≡ None = sym (ap message_of is) ∙ none in cc

-- the message of a verdict is what a check of the level tells
pub reports : (level : Level) (new : List ℕ) (olds : List VersionText) (v : LevelVerdict) (told : Option (List ℕ))
    → IsVerdictOfTexts level new olds v → told ≡ message_of v → IsReport level new olds told
reports level new olds v None is same = none_told (required_pairs level (nodes_in new) (versions_in olds)) v is (sym same)
reports level new olds v (Some message) is same = (v, is, sym same)

-- so is that of a verdict of the same level and versions
pub verdict_reports : (level force : Level) (new : List ℕ) (olds kept : List VersionText) (v : LevelVerdict) (told : Option (List ℕ))
    → level ≡ force → olds ≡ kept → IsVerdictOfTexts level new olds v → told ≡ message_of v → IsReport force new kept told
verdict_reports level force new olds kept v told of_level of_olds is same =
    let a = subst (λ os. IsVerdictOfTexts level new os v) of_olds is in
    reports force new kept v told (subst (λ l. IsVerdictOfTexts l new kept v) of_level a) same

-- a judgement that was made of these reports on them
pub judgement_reports : (level : Level) (new : List ℕ) (olds : List VersionText) (j : Judgement) (told : Option (List ℕ))
    → IsMadeOf j level new olds → IsTrueVerdict j.level j.new_text j.olds j.verdict
    → told ≡ message_of j.verdict → IsReport level new olds told
judgement_reports level new olds j told (of_level, of_text, of_olds) true_one same =
    let a = subst (λ os. IsVerdictOfTexts j.level j.new_text os j.verdict) of_olds true_one.is_verdict in
    let b = subst (λ text. IsVerdictOfTexts j.level text olds j.verdict) of_text a in
    reports level new olds j.verdict told (subst (λ l. IsVerdictOfTexts l new olds j.verdict) of_level b) same

abbrev HasSchema : Entry → Type 0
HasSchema e = is_schema e.text ≡ true

some_mapped : {A B : Type 0} (f : A → B) (o : Option A) (b : B) → option_map f o ≡ Some b → is_some o ≡ true
some_mapped f None b e = cc
some_mapped f (Some a) b e = refl

none_unread : (es : List Entry) → All HasSchema es → first_unread (texts_of es) ≡ None
none_unread [] all = refl
none_unread (e ∷ es) all =
    ap (λ b. option_map (λ old. old.0) (cond (not b) (Some (e.version, e.text)) (find (λ old. not (is_schema old.1)) (texts_of es))))
    (All-head HasSchema e es all)
    ∙ none_unread es (All-tail HasSchema e es all)

-- the text of each live entry is a schema's
pub live_are_read : EntriesAreRead → LiveVersionsAreRead
live_are_read read rs subject =
    let each = λ (e : Entry) (there : Contains (entries rs) e).
    some_mapped (λ (m : Meaning). m.normal_text) (schema_of e.text) e.normal (read rs e there) in
    let all = All-weaker (Contains (entries rs)) HasSchema each (entries rs) (All-contains_itself (entries rs)) in
    none_unread (live rs subject)
    (All-filter (counts false) HasSchema (of_subject (entries rs) subject)
    (All-filter (λ e. bytes_eq e.subject subject) HasSchema (entries rs) all))
