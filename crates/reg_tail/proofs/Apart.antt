-- Which errors aren't a writer's.
use Rattle.std.proofs.Common.{◌≡◌, ◌⊎◌, inl, inr, ℕ, List, refl, sym, subst, ◌∙◌}
use Rattle.std.specs.Prelude.{◌≢◌}
use Rattle.reg_tail.specs.Line.{IsPieceRefusal}
use Rattle.reg_tail.specs.Tail.{IsBeginRefusal, IsNoReading}
use Rattle.reg_tail.specs.declared.error.TailError.{TailError}
use Rattle.reg_tail.specs.declared.error.TailError.TheVariants.{Line, NoEmptyLine, Floor, ReadFault, SyncFault, WriteFault, OutOfMemory}

pub no_reading : (e : TailError) → IsNoReading e → e ≢ WriteFault
no_reading e is same = subst IsNoReading same is

pub no_beginning : (from : ℕ) (file : List ℕ) (e : TailError) → IsBeginRefusal from file e → e ≢ WriteFault
no_beginning from file e is same = subst (IsBeginRefusal from file) same is

pub no_piece : (number : ℕ) (piece : List ℕ) (e : TailError) → IsPieceRefusal number piece e → e ≢ WriteFault
no_piece number piece e is same = subst (IsPieceRefusal number piece) same is

pub no_sync : (e : TailError) → e ≡ SyncFault → e ≢ WriteFault
no_sync e is same = let two : SyncFault ≡ WriteFault = sym is ∙ same in absurd (cc two)

pub writers_or_not : (e : TailError) → (e ≡ WriteFault) ⊎ (e ≢ WriteFault)
writers_or_not (Line line fault) = inr (λ same. absurd (cc same))
writers_or_not NoEmptyLine = inr (λ same. absurd (cc same))
writers_or_not (Floor floor) = inr (λ same. absurd (cc same))
writers_or_not ReadFault = inr (λ same. absurd (cc same))
writers_or_not SyncFault = inr (λ same. absurd (cc same))
writers_or_not WriteFault = inl refl
writers_or_not OutOfMemory = inr (λ same. absurd (cc same))

pub reading_begins : (from : ℕ) (file : List ℕ) (e : TailError) → IsNoReading e → IsBeginRefusal from file e
reading_begins from file (Line line fault) is = absurd is
reading_begins from file NoEmptyLine is = absurd is
reading_begins from file (Floor floor) is = absurd is
reading_begins from file ReadFault is = tt
reading_begins from file SyncFault is = absurd is
reading_begins from file WriteFault is = absurd is
reading_begins from file OutOfMemory is = tt
