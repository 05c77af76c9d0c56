-- The pair that is judged last.
use Rattle.std.specs.Prelude.{◌≡◌, ◌++◌, ℕ, List, [], ◌∷◌, true}
use Rattle.reg_judge.specs.Judge.{TextPair, AreJudged, HasUsed, has_pair}

abbrev pub IsJudgedLast : List TextPair → TextPair → Type 0
IsJudgedLast required last = (before : List TextPair) × AreJudged required (before ++ last ∷ [])

-- where the pairs judged were used in turn, and each was kept, a judge has the verdict of the last one
abbrev pub HasLastJudged : Type 0
HasLastJudged =
    (capacity : ℕ) (required before after : List TextPair) (last : TextPair)
    → HasUsed capacity required before after true → IsJudgedLast required last → has_pair after last ≡ true
