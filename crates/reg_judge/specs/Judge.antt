-- What a judge keeps, and what a judgement changes of it.
use Rattle.std.specs.Prelude.{◌≡◌, ◌≤◌, ◌-◌, ◌⊎◌, ◌&&◌, ◌++◌, ⊤, ℕ, List, [], ◌∷◌, Bool, true, false}
use Rattle.std.specs.Prelude.{cond, bytes_eq, codes, fold, take, map, reverse, flat_map}
use Rattle.std.specs.List.{list_any}
use mathlib.Core.List.{IsPrefix}
use Rattle.avro_resolve.specs.Trails.{AreCompatible}
use Rattle.reg_level_names.specs.declared.level.Level.{Level}
use Rattle.reg_levels.specs.RequiredPairs.{directions, looked_at}
use Rattle.reg_levels.specs.Texts.{VersionText, nodes_in}
use Rattle.reg_levels.specs.declared.direction.Direction.{Direction}
use Rattle.reg_levels.specs.declared.direction.Direction.TheVariants.{Backward, Forward}
use Rattle.reg_judge.specs.declared.limits.TheConstants.{KEPT_LIMIT}
use Rattle.reg_judge.specs.declared.judge_error.JudgeError.{JudgeError}
use Rattle.reg_judge.specs.declared.judge_error.JudgeError.TheVariants.{BadCapacity, OutOfMemory}

-- a reader's text and a writer's
abbrev pub TextPair : Type 0
TextPair = List ℕ × List ℕ

-- how many schemas there may be, and how many verdicts
pub record Capacities : Type 0 where
  pub schemas : ℕ
  pub verdicts : ℕ

-- what is seen of a judge: the texts whose schemas it has, and the pairs whose verdict it has, those used last first; how
-- many there may be; and whether each verdict of its last judgement was kept, for which memory may be refused
pub record Keeping : Type 0 where
  pub texts : List (List ℕ)
  pub pairs : List TextPair
  pub capacities : Capacities
  pub kept_all : Bool

-- a judge that has judged nothing
abbrev pub keeps_none : ℕ → ℕ → Keeping
keeps_none schemas verdicts =
    record { texts = []; pairs = []; capacities = record { schemas = schemas; verdicts = verdicts }; kept_all = true }

abbrev pub has_text : List (List ℕ) → List ℕ → Bool
has_text texts t = list_any (bytes_eq t) texts

abbrev pub without_text : List ℕ → List (List ℕ) → List (List ℕ)
without_text t [] = []
without_text t (s ∷ ss) = cond (bytes_eq t s) ss (s ∷ without_text t ss)

-- the texts without each of those
abbrev pub without_texts : List (List ℕ) → List (List ℕ) → List (List ℕ)
without_texts taken texts = fold (λ left t. without_text t left) texts taken

-- a text's schema is kept: it goes first, and where it is new, the one whose use is longest ago leaves a full judge
abbrev pub with_text : ℕ → List ℕ → List (List ℕ) → List (List ℕ)
with_text capacity t texts = t ∷ cond (has_text texts t) (without_text t texts) (take (capacity - 1) texts)

-- schemas are kept in turn; for any of them memory may be refused, and then it isn't kept
abbrev pub KeepsInTurn : ℕ → List (List ℕ) → List (List ℕ) → List (List ℕ) → Type 0
KeepsInTurn capacity [] before after = after ≡ before
KeepsInTurn capacity (t ∷ ts) before after =
    KeepsInTurn capacity ts before after ⊎ KeepsInTurn capacity ts (with_text capacity t before) after

-- a judgement takes out the schemas of its texts, and keeps them again, that of the new one last
abbrev pub KeepsSchemas : ℕ → List ℕ → List (List ℕ) → List (List ℕ) → List (List ℕ) → Type 0
KeepsSchemas capacity new olds before after = KeepsInTurn capacity (olds ++ new ∷ []) (without_texts (new ∷ olds) before) after

-- some of the texts, from the first on, were taken out
abbrev pub LosesTexts : List (List ℕ) → List (List ℕ) → List (List ℕ) → Type 0
LosesTexts texts before after = (taken : List (List ℕ)) × IsPrefix taken texts × (after ≡ without_texts taken before)

abbrev pub is_pair : TextPair → TextPair → Bool
is_pair p q = bytes_eq p.0 q.0 && bytes_eq p.1 q.1

abbrev pub has_pair : List TextPair → TextPair → Bool
has_pair pairs p = list_any (is_pair p) pairs

abbrev pub without : TextPair → List TextPair → List TextPair
without p [] = []
without p (q ∷ qs) = cond (is_pair p q) qs (q ∷ without p qs)

-- a pair is used: it goes first, and where it is new, the one whose use is longest ago leaves a full judge
abbrev pub used : ℕ → TextPair → List TextPair → List TextPair
used capacity p pairs = p ∷ cond (has_pair pairs p) (without p pairs) (take (capacity - 1) pairs)

-- pairs are used in turn
abbrev pub used_all : ℕ → List TextPair → List TextPair → List TextPair
used_all capacity [] pairs = pairs
used_all capacity (p ∷ ps) pairs = used_all capacity ps (used capacity p pairs)

-- Backward the new text reads what the old one wrote, and Forward the old one reads what the new one writes
abbrev pub text_pair : List ℕ → VersionText → Direction → TextPair
text_pair new old Backward = (new, old.1)
text_pair new old Forward = (old.1, new)

-- the pairs that a level requires, in the order in which they are judged
abbrev pub text_pairs : Level → List ℕ → List VersionText → List TextPair
text_pairs level new olds = flat_map (λ old. map (text_pair new old) (directions level)) (reverse (looked_at level olds))

-- the schemas of the texts are compatible
abbrev pub IsCompatiblePair : TextPair → Type 0
IsCompatiblePair p = AreCompatible (nodes_in p.0) (nodes_in p.1)

-- those of the pairs that are judged: the first ones, up to one that clashes
abbrev pub AreJudged : List TextPair → List TextPair → Type 0
AreJudged [] judged = judged ≡ []
AreJudged (p ∷ ps) judged =
    (rest : List TextPair) × (judged ≡ p ∷ rest)
    × ((IsCompatiblePair p × AreJudged ps rest) ⊎ (¬ IsCompatiblePair p × (rest ≡ [])))

-- pairs are used in turn; memory may be refused for one that isn't there, and then it isn't kept, and not all are
abbrev pub UsesInTurn : ℕ → List TextPair → List TextPair → List TextPair → Bool → Type 0
UsesInTurn capacity [] before after all = (after ≡ before) × (all ≡ true)
UsesInTurn capacity (p ∷ ps) before after all =
    UsesInTurn capacity ps (used capacity p before) after all
    ⊎ ((has_pair before p ≡ false) × (all ≡ false) × ((rest : Bool) × UsesInTurn capacity ps before after rest))

-- what a judge has after a judgement, and whether it kept each verdict: the pairs judged were used in turn
abbrev pub HasUsed : ℕ → List TextPair → List TextPair → List TextPair → Bool → Type 0
HasUsed capacity required before after all = (judged : List TextPair) × AreJudged required judged × UsesInTurn capacity judged before after all

-- so many may be kept
abbrev pub IsCapacity : ℕ → Type 0
IsCapacity n = (1 ≤ n) × (n ≤ KEPT_LIMIT)

-- the cause of a refusal; memory may be refused at any time
abbrev pub IsJudgeRefusal : ℕ → ℕ → JudgeError → Type 0
IsJudgeRefusal schemas verdicts BadCapacity = ¬ (IsCapacity schemas × IsCapacity verdicts)
IsJudgeRefusal schemas verdicts OutOfMemory = ⊤

-- the text of a refusal
abbrev pub judge_error_text : JudgeError → List ℕ
judge_error_text BadCapacity = codes "BadCapacity"
judge_error_text OutOfMemory = codes "out of memory"
