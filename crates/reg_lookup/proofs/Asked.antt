-- What a schema is checked against.
use Rattle.std.proofs.Common.{◌≡◌, ◌<◌, ℕ, [], ◌∷◌, List, Bor, true, false, not, cond, is_some, All, None, Some, Ok}
use Rattle.std.proofs.Common.{Err, IfErr, Result, map, option_map, bytes_eq, refl, sym, ap, subst, ◌∙◌, arith}
use Rattle.std.proofs.lemmas.Bool.{false≢true}
use Rattle.std.proofs.lemmas.List.Elements.{All-cons, All-contains_itself, All-filter, All-head, All-nil, All-tail, All-weaker}
use Rattle.std.proofs.lemmas.Simd.{map-map}
use Rattle.std.specs.List.{find}
use Rattle.std.specs.List.Sorted.{IsStrictlyIncreasing}
use Rattle.std.specs.Option.{ok_or, option_map_or}
use Rattle.std.specs.Prelude.{Contains, Option, is_err}
use Rattle.reg_modes.specs.avro_schema.Defaults.{bad_defaults}
use Rattle.reg_modes.specs.avro_schema.Schema.{Meaning, is_schema, schema_of}
use Rattle.reg_modes.specs.reg_level_names.declared.level.Level.{Level}
use Rattle.reg_levels.specs.declared.verdict.LevelVerdict.{LevelVerdict}
use Rattle.reg_levels.specs.Judgement.{first_unread}
use Rattle.reg_levels.specs.LevelVerdict.{IsLevelVerdict}
use Rattle.reg_levels.specs.RequiredPairs as pairs
use Rattle.reg_levels.specs.Texts.{VersionText, versions_in, IsVerdictOfTexts}
use Rattle.reg_modes.specs.reg_entries.Sought as sought
use Rattle.reg_modes.specs.reg_entries.declared.entry.Entry.{Entry}
use Rattle.reg_modes.specs.reg_set.Records.{Records}
use Rattle.reg_modes.specs.reg_fold.Entries.{EntriesAreRead, entries}
use Rattle.reg_modes.specs.reg_fold.Standing.{FoundEntriesStand, version_in}
use Rattle.reg_modes.specs.reg_fold.declared.version_ref.VersionRef.{VersionRef}
use Rattle.reg_lookup.specs.Checked.{asked_on, read_sound_schema, unless_bad}
use Rattle.reg_lookup.specs.Found.{and_then, counted, version_found}
use Rattle.reg_modes.specs.reg_refusals.declared.refusal.Refusal.{Refusal}
use Rattle.reg_modes.specs.reg_refusals.declared.refusal.Refusal.TheVariants.{InvalidSchema, VersionNotFound}

-- texts of entries whose versions rise
pub texts_rise : (olds : List (ℕ × Bor (List ℕ))) (es : List Entry)
    → map {B = VersionText} (λ old. (old.0, old.1.now)) olds ≡ sought.texts_of es
    → sought.AreInVersionOrder es → pairs.HasRisingVersions olds
texts_rise olds es same rise =
    subst IsStrictlyIncreasing
    (sym (map-map (λ e. e.0) (λ (e : Entry). (e.version, e.text)) es)
    ∙ ap (map (λ old. old.0)) (sym same)
    ∙ map-map (λ old. old.0) (λ old. (old.0, old.1.now)) olds)
    rise

unless_some : (fields : List (List ℕ)) (field : List ℕ) (m : Meaning) → Contains fields field → unless_bad fields m ≡ Err InvalidSchema
unless_some [] field m has = let within : has.0 < 0 = has.1 in absurd (omega arith)
unless_some (f ∷ fs) field m has = refl

-- a text that means a schema is refused where a test of its defaults fails with the field of a bad one
pub bad_refused : {A E : Type 0} (field : E → List ℕ) (tested : Result A E) (text : List ℕ) (m : Meaning)
    → is_err tested ≡ true → IfErr tested (λ e. Contains (bad_defaults m.nodes) (field e)) → schema_of text ≡ Some m
    → read_sound_schema text ≡ Err InvalidSchema
bad_refused field (Ok x) text m failed bad means = absurd (false≢true failed)
bad_refused field (Err e) text m failed bad means =
    ap (λ o. and_then (λ schema. unless_bad (bad_defaults schema.nodes) schema) (ok_or o InvalidSchema)) means
    ∙ unless_some (bad_defaults m.nodes) (field e) m bad

-- once the schema is read, the versions are what is asked
pub asked_read : (olds : Result (List VersionText) Refusal) (text : List ℕ) (m : Meaning)
    → read_sound_schema text ≡ Ok m → asked_on olds text ≡ olds
asked_read olds text m read = ap (and_then (λ schema. olds)) read

-- the verdict on what a text means is the text's
pub verdict_of_text : (l : Level) (text : List ℕ) (m : Meaning) (olds : List VersionText) (v : LevelVerdict)
    → schema_of text ≡ Some m → IsLevelVerdict l m.nodes (versions_in olds) v → IsVerdictOfTexts l text olds v
verdict_of_text l text m olds v means is =
    subst (λ nodes. IsLevelVerdict l nodes (versions_in olds) v) (ap (λ o. option_map_or (λ s. s.nodes) o []) (sym means)) is

abbrev HasSchema : Entry → Type 0
HasSchema e = is_schema e.text ≡ true

some_mapped : {A B : Type 0} (f : A → B) (o : Option A) (b : B) → option_map f o ≡ Some b → is_some o ≡ true
some_mapped f None b e = cc
some_mapped f (Some a) b e = refl

none_unread : (es : List Entry) → All HasSchema es → first_unread (sought.texts_of es) ≡ None
none_unread [] all = refl
none_unread (e ∷ es) all =
    ap
    (λ b.
    option_map (λ old. old.0) (cond (not b) (Some (e.version, e.text)) (find (λ old. not (is_schema old.1)) (sought.texts_of es))))
    (All-head HasSchema e es all)
    ∙ none_unread es (All-tail HasSchema e es all)

module _ (read : EntriesAreRead) (rs : Records) where
  has_schema : (e : Entry) → Contains (entries rs) e → HasSchema e
  has_schema e there = some_mapped (λ (m : Meaning). m.normal_text) (schema_of e.text) e.normal (read rs e there)

  -- the text of each live entry is a schema's
  pub live_are_read : (subject : List ℕ) → first_unread (sought.texts_of (sought.live_of (entries rs) subject)) ≡ None
  live_are_read subject =
      let all = All-weaker (Contains (entries rs)) HasSchema has_schema (entries rs) (All-contains_itself (entries rs)) in
      none_unread (sought.live_of (entries rs) subject)
      (All-filter (sought.counts false) HasSchema (sought.of_subject (entries rs) subject)
      (All-filter (λ e. bytes_eq e.subject subject) HasSchema (entries rs) all))

  -- so is that of one that is found
  pub found_is_read : FoundEntriesStand → (subject : List ℕ) (which : VersionRef) (e : Entry)
      → version_found (entries rs) subject which false ≡ Ok e → first_unread (sought.texts_of (e ∷ [])) ≡ None
  found_is_read stand subject which e found =
      none_unread (e ∷ [])
      (All-cons HasSchema e []
      (has_schema e (
      stand (entries rs) subject which false e
      (entry_found (counted (entries rs) subject false) (version_in (entries rs) subject which false) found)))
      (All-nil HasSchema))
    where
      entry_found : (c : Result (List Entry) Refusal) (o : Option Entry) → and_then (λ _. ok_or o VersionNotFound) c ≡ Ok e → o ≡ Some e
      entry_found (Err refusal) o is = cc
      entry_found (Ok es) None is = cc
      entry_found (Ok es) (Some f) is = let same : f ≡ e = cc in ap Some same
