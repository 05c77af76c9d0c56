-- What is left of a file that was replaced.
use Rattle.std.proofs.Common.{◌≡◌, ℕ, List, subst}
use Rattle.std.specs.Prelude.{⊤, Option, Result}
use Rattle.std.specs.declared.io.Error.{Error}
use Rattle.reg_tail.specs.Steps.{Continues, IsLeftBehind}
use Rattle.reg_tail.specs.Writing.{IsWritten}
use Rattle.reg_tail.specs.declared.tail.Tail.{Tail}

pub continues_along : (may_leave : List ℕ → Type 0) (seen seen' file file' : List ℕ) (old new : Tail) (text : List ℕ)
    → seen ≡ seen' → file ≡ file' → Continues may_leave seen file old new text → Continues may_leave seen' file' old new text
continues_along may_leave seen seen' file file' old new text first last on =
    subst (λ (f : List ℕ). Continues may_leave seen' f old new text) last
    (subst (λ (f : List ℕ). Continues may_leave f file old new text) first on)

module _ {S W : Type 0} (known : S → Type 0) (seen : S → List ℕ) (may_leave : S → List ℕ → Type 0) (left : S → List ℕ)
    (contents : W → Option (List ℕ)) (writes : W → List ℕ → Result ℕ Error → W → Type 0) (flushes : W → Result ⊤ Error → W → Type 0) where
  -- more was written of a file that was found to be replaced
  abbrev pub left_behind : (source found read : S) (tail behind : Tail) (writer written : W) (text : List ℕ)
      → IsWritten contents writes flushes text writer written
      → (known found → Continues (may_leave read) (seen found) (seen read) tail behind text)
      → (known source → known found × (seen found ≡ seen source))
      → (known source → seen read ≡ left source)
      → IsLeftBehind known seen may_leave left contents writes flushes source tail writer
  left_behind source found read tail behind writer written text whole on same last = record {
    text = text;
    synced = read;
    behind = behind;
    written = written;
    whole = whole;
    given = λ is. continues_along (may_leave read) (seen found) (seen source) (seen read)
        (left source) tail behind text (same is).1 (last is) (on (same is).0);
  }
