-- What a level looks at among what it looks at.
use Rattle.std.proofs.Common.{◌≡◌, ℕ, zero, suc, ◌-◌, ◌+◌, ◌<◌, Bool, true, false, not, cond, List, [], ◌∷◌, length, map, drop}
use Rattle.std.proofs.Common.{Some, None, option_map, refl, sym, ap, subst, ◌∙◌, arith}
use Rattle.std.proofs.lemmas.List.{drop-map, get_or-drop, length-drop, length-map}
use Rattle.std.specs.List.{find, slice_index}
use Rattle.std.specs.List.Sorted.{IsStrictlyIncreasing}
use Rattle.avro_resolve.specs.avro_schema.Schema.{is_schema}
use Rattle.reg_level_names.specs.declared.level.Level.{Level}
use Rattle.reg_level_names.specs.declared.level.Level.TheVariants as levels
use Rattle.reg_levels.specs.Judgement.{first_unread}
use Rattle.reg_levels.specs.JudgedError.{IsJudgedRefusal}
use Rattle.reg_levels.specs.RequiredPairs.{HasRisingVersions, looked_at, passed_over}
use Rattle.reg_levels.specs.Texts.{VersionText, nodes_in, versions_in}
use Rattle.reg_levels.specs.declared.judged_error.JudgedError.{JudgedError}
use Rattle.reg_levels.specs.declared.judged_error.JudgedError.TheVariants.{NewText, OldText, OutOfMemory}

-- of those that a level looks at it passes over none
passed_none : (level : Level) (n : ℕ) → passed_over level (n - passed_over level n) ≡ 0
passed_none levels.None n = omega arith
passed_none levels.Backward n = omega arith
passed_none levels.BackwardTransitive n = refl
passed_none levels.Forward n = omega arith
passed_none levels.ForwardTransitive n = refl
passed_none levels.Full n = omega arith
passed_none levels.FullTransitive n = refl

pub looked_at-twice : {X : Type 0} (level : Level) (xs : List X) → looked_at level (looked_at level xs) ≡ looked_at level xs
looked_at-twice level xs =
    let p = passed_over level (length xs) in
    ap (λ n. drop (passed_over level n) (drop p xs)) (length-drop p xs)
    ∙ ap (λ n. drop n (drop p xs)) (passed_none level (length xs))

-- what stands for the versions looked at is looked at among what stands for all
pub looked_at-map : {X V : Type 0} (f : X → V) (level : Level) (xs : List X) → map f (looked_at level xs) ≡ looked_at level (map f xs)
looked_at-map f level xs =
    sym (drop-map f (passed_over level (length xs)) xs) ∙ ap (λ n. drop (passed_over level n) (map f xs)) (sym (length-map xs f))

-- the last ones rise too
rising-drop : (n : ℕ) (xs : List ℕ) → IsStrictlyIncreasing xs → IsStrictlyIncreasing (drop n xs)
rising-drop n xs rise k within =
    let long : length (drop n xs) ≡ length xs - n = length-drop n xs in
    let here : slice_index (drop n xs) k ≡ slice_index xs (n + k) = get_or-drop n xs k 0 in
    let next : slice_index (drop n xs) (k + 1) ≡ slice_index xs (n + (k + 1)) = get_or-drop n xs (k + 1) 0 in
    let up : slice_index xs (n + k) < slice_index xs ((n + k) + 1) = rise (n + k) (omega arith) in
    let same : (n + k) + 1 ≡ n + (k + 1) = omega arith in
    subst (λ a. a < slice_index (drop n xs) (k + 1)) (sym here)
    (subst (λ b. slice_index xs (n + k) < b) (ap (slice_index xs) same ∙ sym next) up)

pub looked_at-rise : {X : Type 0} (level : Level) (olds : List (ℕ × X)) → HasRisingVersions olds → HasRisingVersions (looked_at level olds)
looked_at-rise level olds rise =
    subst IsStrictlyIncreasing (drop-map (λ old. old.0) (passed_over level (length olds)) olds)
    (rising-drop (passed_over level (length olds)) (map (λ old. old.0) olds) rise)

-- where all old texts are read, the last ones are
read-drop : (n : ℕ) (olds : List VersionText) → first_unread olds ≡ None → first_unread (drop n olds) ≡ None
read-drop zero olds read = read
read-drop (suc n) [] read = read
read-drop (suc n) (old ∷ olds) read = read-drop n olds (rest (is_schema old.1) read)
  where
    rest : (b : Bool) → option_map (λ o. o.0) (cond (not b) (Some old) (find (λ o. not (is_schema o.1)) olds)) ≡ None
        → first_unread olds ≡ None
    rest true read = read
    rest false read = cc

pub looked_at-read : (level : Level) (olds : List VersionText) → first_unread olds ≡ None → first_unread (looked_at level olds) ≡ None
looked_at-read level olds read = read-drop (passed_over level (length olds)) olds read

-- the versions that a level looks at decide
pub decides : (level : Level) (olds : List VersionText)
    → looked_at level (versions_in (looked_at level olds)) ≡ looked_at level (versions_in olds)
decides level olds =
    ap (looked_at level) (looked_at-map (λ old. (old.0, nodes_in old.1)) level olds) ∙ looked_at-twice level (versions_in olds)

-- a refusal that has another cause than an old text
pub refused_too : (new : List ℕ) (olds some : List VersionText) (e : JudgedError)
    → first_unread some ≡ None → IsJudgedRefusal new some e → IsJudgedRefusal new olds e
refused_too new olds some NewText read is = is
refused_too new olds some (OldText version) read is = let no : None ≡ Some version = sym read ∙ is.1 in absurd (cc)
refused_too new olds some OutOfMemory read is = tt
