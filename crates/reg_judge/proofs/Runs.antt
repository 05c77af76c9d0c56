-- Judgements that go on pair by pair.
use Rattle.std.proofs.Common.{◌≡◌, ℕ, ◌-◌, ◌+◌, ◌<◌, ◌≤◌, true, false, List, [], ◌∷◌, ◌++◌, length, map, reverse, take}
use Rattle.std.proofs.Common.{drop, get_or, flat_map, refl, sym, ap, subst, ◌∙◌, inl, inr, append_assoc, arith}
use Rattle.std.proofs.lemmas.List.{map-append, reverse-append, take_more, drop_more, drop-map, length-map}
use Rattle.std.proofs.lemmas.Simd.{map-map}
use Rattle.std.specs.List.Sorted.{IsStrictlyIncreasing}
use Rattle.avro_resolve.specs.avro_schema.declared.node.Node.{Node}
use Rattle.avro_resolve.specs.Verdict.{HaveOneVerdict}
use Rattle.avro_resolve.specs.declared.resolving.Verdict.{Verdict}
use Rattle.avro_resolve.specs.declared.resolving.Verdict.TheVariants.{Compatible, Clash}
use Rattle.reg_level_names.specs.declared.level.Level.{Level}
use Rattle.reg_level_names.specs.declared.level.Level.TheVariants as levels
use Rattle.reg_levels.specs.LevelVerdict.{IsLevelVerdict, IsVerdictOn}
use Rattle.reg_levels.specs.RequiredPairs.{HasRisingVersions, Version, directions, looked_at, passed_over, required_of}
use Rattle.reg_levels.specs.Texts.{VersionText, nodes_in, versions_in}
use Rattle.reg_levels.specs.declared.direction.Direction.{Direction}
use Rattle.reg_levels.specs.declared.direction.Direction.TheVariants.{Backward}
use Rattle.reg_levels.specs.declared.verdict.LevelVerdict.{LevelVerdict}
use Rattle.reg_judge.specs.Judge.{TextPair, AreJudged, IsCompatiblePair, text_pair, text_pairs}
use Rattle.reg_judge.specs.Kept.{Asked, IsPairVerdict, IsRun, LeadsTo, asked, asked_from, asked_of, required_by, outcome_of}

-- versions rise where something is told of each
pub rising_map : {X Y : Type 0} (f : X → Y) (olds : List (ℕ × X)) → HasRisingVersions olds
    → HasRisingVersions (map {B = ℕ × Y} (λ old. (old.0, f old.1)) olds)
rising_map {X} {Y} f olds rise = subst IsStrictlyIncreasing (sym (map-map (λ (o : ℕ × Y). o.0) (λ (o : ℕ × X). (o.0, f o.1)) olds)) rise

-- what comes of a run is the verdict on the pairs
run_is_verdict : (all : List Asked) (judged : List TextPair) (v : LevelVerdict) → IsRun all judged v → IsVerdictOn (map required_by all) v
run_is_verdict [] judged v (none, is) = is
run_is_verdict (a ∷ more) judged v (rest, same, inl (compatible, run)) = inl (compatible, run_is_verdict more rest v run)
run_is_verdict (a ∷ more) judged v (rest, same, inr (trail, shown, last, is)) = inr (trail, shown, is)

-- its pairs are those that are judged
run_is_judged : ((r w : List Node) → HaveOneVerdict r w) → (all : List Asked) (judged : List TextPair) (v : LevelVerdict)
    → IsRun all judged v → AreJudged (map (λ a. a.texts) all) judged
run_is_judged single [] judged v (none, is) = none
run_is_judged single (a ∷ more) judged v (rest, same, inl (compatible, run)) =
    (rest, same, inl (compatible, run_is_judged single more rest v run))
run_is_judged single (a ∷ more) judged v (rest, same, inr (trail, shown, last, is)) = (
  rest,
  same,
  inr (
    λ compatible.
        let no : Compatible ≡ Clash trail =
        single (nodes_in a.texts.0) (nodes_in a.texts.1) Compatible (Clash trail) compatible shown in
        cc,
    last,
  ),
)

-- where none is judged yet, all are left
pub started : (all left : List Asked) → left ≡ all → (done : List TextPair) → done ≡ [] → LeadsTo all done left
started all left same done empty rest v run =
    subst (λ judged. IsRun all (judged ++ rest) v) (sym empty) (subst (λ some. IsRun some rest v) same run)

-- one pair more
module _ (all : List Asked) (done : List TextPair) (a : Asked) (left : List Asked)
    (leads : LeadsTo all done (a ∷ left)) (verdict : Verdict) (is : IsPairVerdict a.texts verdict) where
  abbrev told : LevelVerdict
  told = outcome_of a.version a.direction verdict

  pub passed_on : told.ok ≡ true → LeadsTo all (done ++ a.texts ∷ []) left
  passed_on ok rest v run =
      subst (λ judged. IsRun all judged v) (sym (append_assoc done (a.texts ∷ []) rest))
      (leads (a.texts ∷ rest) v (rest, refl, inl (compatible verdict is ok, run)))
    where
      compatible : (w : Verdict) → IsPairVerdict a.texts w → (outcome_of a.version a.direction w).ok ≡ true → IsCompatiblePair a.texts
      compatible Compatible is ok = is
      compatible (Clash trail) is ok = cc

  pub stopped : told.ok ≡ false → IsRun all (done ++ a.texts ∷ []) told
  stopped ok = leads (a.texts ∷ []) told (clashes verdict is ok)
    where
      clashes : (w : Verdict) → IsPairVerdict a.texts w → (outcome_of a.version a.direction w).ok ≡ false
          → IsRun (a ∷ left) (a.texts ∷ []) (outcome_of a.version a.direction w)
      clashes Compatible is ok = cc
      clashes (Clash trail) is ok = ([], refl, inr (trail, is, refl, refl))

-- the same where it is that of the next direction
module _ (all : List Asked) (done : List TextPair) (new : List ℕ) (old : VersionText) (ds : List Direction) (i : ℕ)
    (after : List Asked) (within : i < length ds) (leads : LeadsTo all done (map (asked new old) (drop i ds) ++ after)) where
  abbrev this : Asked
  this = asked new old (get_or ds i Backward)

  abbrev left : List Asked
  left = map (asked new old) (drop (i + 1) ds) ++ after

  leads_here : LeadsTo all done (this ∷ left)
  leads_here = subst (λ some. LeadsTo all done (map (asked new old) some ++ after)) (drop_more ds i Backward within) leads

  module _ (texts : TextPair) (verdict : Verdict) (v : LevelVerdict) (pair : texts ≡ text_pair new old (get_or ds i Backward))
      (is : IsPairVerdict texts verdict) (tells : v ≡ outcome_of old.0 (get_or ds i Backward) verdict) where
    is_here : IsPairVerdict this.texts verdict
    is_here = subst (λ p. IsPairVerdict p verdict) pair is

    pub goes_on : v.ok ≡ true → LeadsTo all (done ++ texts ∷ []) left
    goes_on ok =
        subst (λ p. LeadsTo all (done ++ p ∷ []) left) (sym pair)
        (passed_on all done this left leads_here verdict is_here (ap (λ w. w.ok) (sym tells) ∙ ok))

    pub stops : v.ok ≡ false → IsRun all (done ++ texts ∷ []) v
    stops ok =
        subst (λ p. IsRun all (done ++ p ∷ []) v) (sym pair)
        (subst (IsRun all (done ++ this.texts ∷ [])) (sym tells)
        (stopped all done this left leads_here verdict is_here (ap (λ w. w.ok) (sym tells) ∙ ok)))

-- those of the first n versions begin with those of the last of them
pub asked_from-take : (level : Level) (new : List ℕ) (olds : List VersionText) (n : ℕ) (old : VersionText)
    → 0 < n → n ≤ length olds → old ≡ get_or olds (n - 1) old
    → asked_from level new (take n olds) ≡ asked_of level new old ++ asked_from level new (take (n - 1) olds)
asked_from-take level new olds n old some within at =
    let before : n ≡ n - 1 + 1 = omega arith in
    ap (λ m. asked_from level new (take m olds)) before
    ∙ ap (asked_from level new) (take_more olds (n - 1) old (omega arith) ∙ ap (λ o. take (n - 1) olds ++ o ∷ []) (sym at))
    ∙ ap (flat_map (asked_of level new)) (reverse-append (take (n - 1) olds) (old ∷ []))

module _ {A B : Type 0} (f : A → B) where
  map-reverse : (xs : List A) → map f (reverse xs) ≡ reverse (map f xs)
  map-reverse [] = refl
  map-reverse (x ∷ xs) =
      ap (map f) (reverse-append (x ∷ []) xs) ∙ map-append f (reverse xs) (x ∷ [])
      ∙ ap (λ ys. ys ++ f x ∷ []) (map-reverse xs) ∙ sym (reverse-append (f x ∷ []) (map f xs))

module _ (level : Level) (new : List ℕ) where
  abbrev version_in : VersionText → Version
  version_in old = (old.0, nodes_in old.1)

  requires_same : (l : Level) (old : VersionText) → map required_by (asked_of l new old) ≡ required_of l (nodes_in new) (version_in old)
  requires_same levels.None old = refl
  requires_same levels.Backward old = refl
  requires_same levels.BackwardTransitive old = refl
  requires_same levels.Forward old = refl
  requires_same levels.ForwardTransitive old = refl
  requires_same levels.Full old = refl
  requires_same levels.FullTransitive old = refl

  required_in : (olds : List VersionText)
      → map required_by (flat_map (asked_of level new) olds) ≡ flat_map (required_of level (nodes_in new)) (versions_in olds)
  required_in [] = refl
  required_in (old ∷ olds) =
      map-append required_by (asked_of level new old) (flat_map (asked_of level new) olds)
      ∙ ap (λ ps. ps ++ map required_by (flat_map (asked_of level new) olds)) (requires_same level old)
      ∙ ap (λ ps. required_of level (nodes_in new) (version_in old) ++ ps) (required_in olds)

  texts_in : (olds : List VersionText)
      → map (λ a. a.texts) (flat_map (asked_of level new) olds) ≡ flat_map (λ old. map (text_pair new old) (directions level)) olds
  texts_in [] = refl
  texts_in (old ∷ olds) =
      map-append (λ (a : Asked). a.texts) (asked_of level new old) (flat_map (asked_of level new) olds)
      ∙ ap (λ ps. ps ++ map (λ a. a.texts) (flat_map (asked_of level new) olds))
      (map-map (λ (a : Asked). a.texts) (asked new old) (directions level))
      ∙ ap (λ ps. map (text_pair new old) (directions level) ++ ps) (texts_in olds)

  module _ (olds : List VersionText) (judged : List TextPair) (v : LevelVerdict)
      (run : IsRun (asked_from level new (looked_at level olds)) judged v) where
    -- what comes of a run over the versions that a level looks at is the verdict on all
    pub is_level_verdict : IsLevelVerdict level (nodes_in new) (versions_in olds) v
    is_level_verdict =
        let looked : map version_in (looked_at level olds) ≡ looked_at level (versions_in olds) =
        sym (drop-map version_in (passed_over level (length olds)) olds)
        ∙ ap (λ n. drop (passed_over level n) (versions_in olds)) (sym (length-map olds version_in)) in
        subst (λ ps. IsVerdictOn ps v)
        (required_in (reverse (looked_at level olds))
        ∙ ap (flat_map (required_of level (nodes_in new))) (map-reverse version_in (looked_at level olds) ∙ ap reverse looked))
        (run_is_verdict (asked_from level new (looked_at level olds)) judged v run)

    pub are_judged : ((r w : List Node) → HaveOneVerdict r w) → AreJudged (text_pairs level new olds) judged
    are_judged single =
        subst (λ ps. AreJudged ps judged) (texts_in (reverse (looked_at level olds)))
        (run_is_judged single (asked_from level new (looked_at level olds)) judged v run)
