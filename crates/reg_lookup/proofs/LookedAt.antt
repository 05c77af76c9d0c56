-- The versions that a level looks at decide a check.
use Rattle.std.proofs.Common.{◌≡◌, ℕ, Bor, zero, suc, ◌+◌, ◌-◌, ◌<◌, Bool, true, false, not, cond, List, [], ◌∷◌, length, map}
use Rattle.std.proofs.Common.{reverse, drop, Some, None, Ok, Err, Result, option_map, refl, sym, ap, subst, ◌∙◌, flat_map, arith}
use Rattle.std.proofs.lemmas.Simd.{map-map}
use Rattle.std.proofs.lemmas.List.{drop-map, length-drop, length-map}
use Rattle.std.specs.List.{find, slice_index}
use Rattle.std.specs.List.Sorted.{IsStrictlyIncreasing}
use Rattle.reg_modes.specs.avro_schema.Schema.{Meaning, is_schema}
use Rattle.reg_modes.specs.avro_schema.declared.node.Node.{Node}
use Rattle.reg_modes.specs.reg_level_names.declared.level.Level.{Level}
use Rattle.reg_modes.specs.reg_level_names.declared.level.Level.TheVariants as levels
use Rattle.reg_levels.specs.Judgement.{first_unread}
use Rattle.reg_levels.specs.LevelVerdict.{IsVerdictOn}
use Rattle.reg_levels.specs.RequiredPairs.{HasRisingVersions, looked_at, passed_over, required_of, required_pairs}
use Rattle.reg_levels.specs.Texts.{VersionText, nodes_in, versions_in}
use Rattle.reg_modes.specs.reg_refusals.declared.refusal.Refusal.{Refusal}
use Rattle.reg_lookup.specs.Checked.{AreRead, CheckedOn, TellsVerdict, asked_on, read_sound_schema}
use Rattle.reg_lookup.specs.Found.{and_then, found_map}
use Rattle.reg_lookup.specs.declared.answered.Answer.{Answer}

-- what stands for the versions looked at is looked at among what stands for all
looked_at-map : {X V : Type 0} (f : X → V) (level : Level) (xs : List X) → map f (looked_at level xs) ≡ looked_at level (map f xs)
looked_at-map f level xs =
    sym (drop-map f (passed_over level (length xs)) xs) ∙ ap (λ n. drop (passed_over level n) (map f xs)) (sym (length-map xs f))

-- of the versions looked at a level passes over none
none_passed_over : (level : Level) (n : ℕ) → passed_over level (n - passed_over level n) ≡ 0
none_passed_over levels.None n = omega arith
none_passed_over levels.Backward n = omega arith
none_passed_over levels.BackwardTransitive n = refl
none_passed_over levels.Forward n = omega arith
none_passed_over levels.ForwardTransitive n = refl
none_passed_over levels.Full n = omega arith
none_passed_over levels.FullTransitive n = refl

looked_at-again : {X : Type 0} (level : Level) (xs : List X) → looked_at level (looked_at level xs) ≡ looked_at level xs
looked_at-again level xs =
    ap (λ n. drop n (looked_at level xs))
    (ap (passed_over level) (length-drop (passed_over level (length xs)) xs) ∙ none_passed_over level (length xs))

-- of the versions looked at a level requires the pairs that it requires of all
looked_at-pairs : (level : Level) (new : List Node) (olds : List VersionText)
    → required_pairs level new (versions_in (looked_at level olds)) ≡ required_pairs level new (versions_in olds)
looked_at-pairs level new olds =
    ap (λ vs. flat_map (required_of level new) (reverse vs))
    (ap (looked_at level) (looked_at-map (λ old. (old.0, nodes_in old.1)) level olds) ∙ looked_at-again level (versions_in olds))

-- what is told of these is told of all
pub told_of_all : (level : Level) (text : List ℕ) (verbose : Bool) (olds : Result (List VersionText) Refusal) (a : Answer)
    → TellsVerdict level text verbose (asked_on (found_map (looked_at level) olds) text) a
    → TellsVerdict level text verbose (asked_on olds text) a
told_of_all level text verbose olds a told = by_schema (read_sound_schema text) olds told
  where
    by_schema : (read : Result Meaning Refusal) (olds : Result (List VersionText) Refusal)
        → TellsVerdict level text verbose (and_then (λ schema. found_map (looked_at level) olds) read) a
        → TellsVerdict level text verbose (and_then (λ schema. olds) read) a
    by_schema (Err refusal) olds told = told
    by_schema (Ok schema) (Err refusal) told = told
    by_schema (Ok schema) (Ok all) told =
        (told.0, subst (λ pairs. IsVerdictOn pairs told.0) (looked_at-pairs level (nodes_in text) all) told.1, told.2)

-- what holds of the old versions holds of the last ones
rising-tail : (x : ℕ) (xs : List ℕ) → IsStrictlyIncreasing (x ∷ xs) → IsStrictlyIncreasing xs
rising-tail x xs rise k within =
    let next : suc k + 1 ≡ suc (k + 1) = omega arith in
    subst (λ m. slice_index xs k < slice_index (x ∷ xs) m) next (rise (suc k) (omega arith))

rising-drop : (n : ℕ) (olds : List VersionText) → HasRisingVersions olds → HasRisingVersions (drop n olds)
rising-drop zero olds rise = rise
rising-drop (suc n) [] rise = rise
rising-drop (suc n) (old ∷ olds) rise = rising-drop n olds (rising-tail old.0 (map (λ o. o.0) olds) rise)

read-drop : (n : ℕ) (olds : List VersionText) → first_unread olds ≡ None → first_unread (drop n olds) ≡ None
read-drop zero olds read = read
read-drop (suc n) [] read = read
read-drop (suc n) (old ∷ olds) read = read-drop n olds (rest (is_schema old.1) read)
  where
    rest : (b : Bool) → option_map (λ o. o.0) (cond (not b) (Some old) (find (λ o. not (is_schema o.1)) olds)) ≡ None
        → first_unread olds ≡ None
    rest true read = read
    rest false read = cc

pub looked_at-are_read : (level : Level) (olds : List VersionText) → AreRead olds → AreRead (looked_at level olds)
looked_at-are_read level olds read =
    (rising-drop (passed_over level (length olds)) olds read.0, read-drop (passed_over level (length olds)) olds read.1)

-- what is copied of lent texts that are looked at
abbrev pub told : ℕ × Bor (List ℕ) → VersionText
told old = (old.0, old.1.now)

module _ (l : Level) (lent looked : List (ℕ × Bor (List ℕ))) (copy : List VersionText)
    (at : looked ≡ looked_at l lent) (same : copy ≡ map told looked) where
  copied : copy ≡ looked_at l (map told lent)
  copied = same ∙ ap (map told) at ∙ looked_at-map told l lent

  pub copies_are_read : HasRisingVersions lent → first_unread (map told lent) ≡ None → AreRead copy
  copies_are_read rise read =
      let risen : HasRisingVersions (map told lent) = subst IsStrictlyIncreasing (sym (map-map (λ old. old.0) told lent)) rise in
      subst AreRead (sym copied) (looked_at-are_read l (map told lent) (risen, read))

  pub copies_are_grounds : (k : Level) (found : Result (List VersionText) Refusal) → l ≡ k → found ≡ Ok (map told lent)
      → ◌≡◌ {A = CheckedOn} (record { level = l; olds = Ok copy }) (record { level = k; olds = found_map (looked_at k) found })
  copies_are_grounds k found at_level is =
      let grounds : Level → Result (List VersionText) Refusal → CheckedOn = λ m olds. record { level = m; olds = olds } in
      ap (λ (c : List VersionText). grounds l (Ok c)) copied
      ∙ ap (λ (f : Result (List VersionText) Refusal). grounds l (found_map (looked_at l) f)) (sym is)
      ∙ ap (λ (m : Level). grounds m (found_map (looked_at m) found)) at_level
