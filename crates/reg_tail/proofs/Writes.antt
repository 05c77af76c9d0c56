-- How a text is written piece by piece, and how a writer fails.
use Rattle.std.proofs.Common.{◌≡◌, ◌<◌, ◌≤◌, ◌+◌, ◌-◌, inl, inr, ℕ, List, [], ◌++◌, length, take, drop, Option, Result, Ok, Err}
use Rattle.std.proofs.Common.{sym, ap, ◌∙◌, arith, take_all, take-append-drop, append-nil}
use Rattle.std.proofs.KnownBytes.{Appends-kept}
use Rattle.std.proofs.lemmas.List.{length-take, length-drop, take-take, drop-take}
use Rattle.std.specs.Prelude.{⊤}
use Rattle.std.specs.Io.KnownBytes.{Appends, Keeps}
use Rattle.std.specs.declared.io.Error.{Error}
use Rattle.reg_tail.specs.Writing.{HasFailed, IsCutShort}

pub take-rest : (xs : List ℕ) (at n : ℕ) → at ≤ length xs → n ≤ length (take (length xs - at) (drop at xs))
    → take (at + n) xs ≡ take at xs ++ take n (take (length xs - at) (drop at xs))
take-rest xs at n within fits =
    let whole : take (length xs - at) (drop at xs) ≡ drop at xs =
    take_all (length xs - at) (drop at xs) (omega (arith, length-drop at xs)) in
    sym (take-append-drop at (take (at + n) xs))
    ∙ ap (λ front. front ++ drop at (take (at + n) xs)) (take-take at (at + n) xs (omega arith))
    ∙ ap (λ rest. take at xs ++ rest) (drop-take at n xs ∙ ap (take n) (sym whole))

pub fits-rest : (xs : List ℕ) (at n : ℕ) → at ≤ length xs → n ≤ length (take (length xs - at) (drop at xs)) → at + n ≤ length xs
fits-rest xs at n within fits = omega (arith, length-take (length xs - at) (drop at xs), length-drop at xs)

module _ {W : Type 0} (contents : W → Option (List ℕ))
    (writes : W → List ℕ → Result ℕ Error → W → Type 0) (flushes : W → Result ⊤ Error → W → Type 0) where
  pub failed_by_write : (before new : W) (bytes : List ℕ) (e : Error) → writes before bytes (Err e) new → HasFailed contents writes flushes new
  failed_by_write before new bytes e failed = (before, inl (e, inr (bytes, failed)))

  pub failed_by_none : (before new : W) (bytes : List ℕ) → 0 < length bytes → writes before bytes (Ok 0) new → HasFailed contents writes flushes new
  failed_by_none before new bytes some taken = (before, inr (bytes, some, taken))

  pub failed_by_flush : (before new : W) (e : Error) → flushes before (Err e) new → HasFailed contents writes flushes new
  failed_by_flush before new e failed = (before, inl (e, inl failed))

  -- all was written, and the flush failed
  pub cut_at_end : (text : List ℕ) (old mid new : W) (e : Error) → Appends (contents old) (contents mid) text
      → Keeps (contents mid) (contents new) → flushes mid (Err e) new → IsCutShort contents writes flushes text old new
  cut_at_end text old mid new e whole kept failed = record {
    front = text;
    rest = [];
    parts = sym (append-nil text);
    written = Appends-kept (contents old) (contents mid) (contents new) text whole kept;
    failed = failed_by_flush mid new e failed;
  }

  -- a front was written, and then the writer failed
  pub cut_behind : (text : List ℕ) (at : ℕ) (old mid new : W) → Appends (contents old) (contents mid) (take at text)
      → Keeps (contents mid) (contents new) → HasFailed contents writes flushes new → IsCutShort contents writes flushes text old new
  cut_behind text at old mid new front kept failed = record {
    front = take at text;
    rest = drop at text;
    parts = sym (take-append-drop at text);
    written = Appends-kept (contents old) (contents mid) (contents new) (take at text) front kept;
    failed = failed;
  }
