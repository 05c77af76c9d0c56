-- What is kept, with a foreign line, is no longer than what it is kept of.
use Rattle.std.proofs.Common.{◌≡◌, ◌≤◌, ◌+◌, ◌-◌, ℕ, true, false, cond, List, [], ◌∷◌, ◌++◌, length, Option}
use Rattle.std.proofs.Common.{Some, None, refl, ap, arith, length-append, count_by, if◌then◌else◌}
use Rattle.std.proofs.lemmas.List.Sums.{sum_by-cons}
use Rattle.std.specs.Option.{SomeIff}
use Rattle.std.specs.Prelude.{nat_eq}
use Rattle.std.proofs.lemmas.Bool.Decides.{nat_tests}
use Rattle.reg_compaction.specs.Begun.{before}
use Rattle.reg_journal.specs.Lines.{Say, text_of}
use Rattle.reg_records.specs.Log.{is_foreign, records_in}
use Rattle.reg_records.specs.declared.record.Read.{Read}
use Rattle.reg_records.specs.declared.record.Read.TheVariants as reads
use Rattle.reg_set.specs.Records.{Records}
use Rattle.reg_compaction.specs.Walk.{carried_by, is_kept, kept_lines, kept_reads, waiting_after}

-- each line is a record's or foreign
pub counted : (read : List Read) → length read ≡ length (records_in read) + count_by is_foreign read
counted [] = refl
counted (reads.Record r ∷ read) = omega (arith, counted read)
counted (reads.Foreign offset ∷ read) =
    omega (arith, counted read, sum_by-cons (λ x. if is_foreign x then 1 else 0) (reads.Foreign offset) read)

abbrev pub size_of : Option (List ℕ) → ℕ
size_of None = 0
size_of (Some line) = length line

abbrev pub count_of : Option (List ℕ) → ℕ
count_of None = 0
count_of (Some line) = 1

longer : (line : List ℕ) (lines : List (List ℕ)) → length (text_of (line ∷ lines)) ≡ length line + 1 + length (text_of lines)
longer line lines = omega (arith, length-append line (10 ∷ text_of lines))

pub no_longer : (t : ℕ) (w : Records) (lines : List (List ℕ)) (read : List Read) (c : Option (List ℕ)) → Say lines read
    → length (text_of (kept_lines w lines read)) + size_of (carried_by (Some t) lines read c) ≤ length (text_of lines) + size_of c
no_longer t w [] [] c say = omega arith
no_longer t w [] (r ∷ read) c say = absurd say
no_longer t w (line ∷ lines) [] c say = absurd say
no_longer t w (line ∷ lines) (reads.Record r ∷ read) c say =
    elim (is_kept w (reads.Record r)) as (λ b. length (text_of (
    cond b (line ∷ kept_lines (waiting_after w (reads.Record r)) lines read) (kept_lines (waiting_after w (reads.Record r)) lines read)))
    + size_of (carried_by (Some t) lines read c)
    ≤ length (text_of (line ∷ lines)) + size_of c) [
      | true ↦ omega (
        arith,
        no_longer t (waiting_after w (reads.Record r)) lines read c say.3,
        longer line lines,
        longer line (kept_lines (waiting_after w (reads.Record r)) lines read),
      )
      | false ↦ omega (arith, no_longer t (waiting_after w (reads.Record r)) lines read c say.3, longer line lines)
    ]
no_longer t w (line ∷ lines) (reads.Foreign offset ∷ read) c say =
    elim (nat_eq offset t) as (λ b.
    length (text_of (kept_lines w lines read)) + size_of (carried_by (Some t) lines read (cond b (Some (line ++ 10 ∷ [])) c))
    ≤ length (text_of (line ∷ lines)) + size_of c) [
      | true ↦ omega (arith, no_longer t w lines read (Some (line ++ 10 ∷ [])) say.3, longer line lines, length-append line (10 ∷ []))
      | false ↦ omega (arith, no_longer t w lines read c say.3, longer line lines)
    ]

pub no_more : (t : ℕ) (w : Records) (lines : List (List ℕ)) (read : List Read) (c : Option (List ℕ)) → Say lines read
    → length (kept_reads w read) + count_of (carried_by (Some t) lines read c) ≤ length read + count_of c
no_more t w [] [] c say = omega arith
no_more t w [] (r ∷ read) c say = absurd say
no_more t w (line ∷ lines) [] c say = absurd say
no_more t w (line ∷ lines) (reads.Record r ∷ read) c say =
    elim (is_kept w (reads.Record r)) as (λ b.
    length (
    cond b (reads.Record r ∷ kept_reads (waiting_after w (reads.Record r)) read) (kept_reads (waiting_after w (reads.Record r)) read))
    + count_of (carried_by (Some t) lines read c)
    ≤ length (reads.Record r ∷ read) + count_of c) [
      | true ↦ omega (arith, no_more t (waiting_after w (reads.Record r)) lines read c say.3)
      | false ↦ omega (arith, no_more t (waiting_after w (reads.Record r)) lines read c say.3)
    ]
no_more t w (line ∷ lines) (reads.Foreign offset ∷ read) c say =
    elim (nat_eq offset t) as (λ b.
    length (kept_reads w read) + count_of (carried_by (Some t) lines read (cond b (Some (line ++ 10 ∷ [])) c))
    ≤ length (reads.Foreign offset ∷ read) + count_of c) [
      | true ↦ omega (arith, no_more t w lines read (Some (line ++ 10 ∷ [])) say.3)
      | false ↦ omega (arith, no_more t w lines read c say.3)
    ]

-- what `checked_sub(1)` gives
pub one_before : (o : Option ℕ) (n : ℕ) → SomeIff o (1 ≤ n) (n - 1) → o ≡ before n
one_before None n none =
    elim (nat_eq n 0) as (λ b. nat_eq n 0 ≡ b → None ≡ (if b then None else Some (n - 1))) [
      | true ↦ λ t. refl
      | false ↦ λ t. let some : 1 ≤ n = grind (arith, nat_tests) in absurd (none some)
    ] refl
one_before (Some m) n some =
    elim (nat_eq n 0) as (λ b. nat_eq n 0 ≡ b → Some m ≡ (if b then None else Some (n - 1))) [
      | true ↦ λ t. absurd (let zero : n ≡ 0 = grind (arith, nat_tests) in omega (arith, some.0))
      | false ↦ λ t. ap Some some.1
    ] refl
