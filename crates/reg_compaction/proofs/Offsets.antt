-- Offsets of lines, and the one after the greatest.
use Rattle.std.proofs.Common.{◌≡◌, ◌≤◌, ◌<◌, ◌⊎◌, inl, inr, ⊎_elim, ℕ, suc, Bool, true, false, cond, ◌&&◌, ◌||◌, List}
use Rattle.std.proofs.Common.{[], ◌∷◌, ◌++◌, length, max, Option, Some, Ok, refl, sym, ap, subst, ◌∙◌, arith}
use Rattle.std.proofs.lemmas.Bool.{or_cases, or_parts, false≢true}
use Rattle.std.proofs.lemmas.Bool.Decides.{nat_tests}
use Rattle.std.specs.Prelude.{fold, nat_eq, nat_lt}
use Rattle.reg_journal.specs.Lines.{Say}
use Rattle.reg_records.specs.Line.{reading}
use Rattle.reg_records.specs.Log.{next_after, offset_in}
use Rattle.reg_records.specs.Pieces.{HasNoLineFeed}
use Rattle.reg_records.specs.declared.record.Read.{Read}
use Rattle.reg_records.specs.declared.record.Read.TheVariants as reads
use Rattle.reg_records.specs.declared.record.Record.{Record}
use Rattle.reg_set.specs.Records.{Records}
use Rattle.reg_compaction.specs.Walk.{carried_by, is_at, is_kept, kept_reads, top_after, waiting_after}
use Rattle.reg_compaction.proofs.Kept.{Has}

-- one of the lines has that offset
abbrev pub HasAt : ℕ → List Read → Type 0
HasAt t [] = ⊥
HasAt t (r ∷ more) = (offset_in r ≡ t) ⊎ HasAt t more

-- a foreign one has it
abbrev pub HasForeignAt : ℕ → List Read → Type 0
HasForeignAt t [] = ⊥
HasForeignAt t (reads.Record r ∷ more) = HasForeignAt t more
HasForeignAt t (reads.Foreign offset ∷ more) = (offset ≡ t) ⊎ HasForeignAt t more

abbrev next_from : ℕ → List Read → ℕ
next_from a read = fold (λ next r. max next (suc (offset_in r))) a read

grows : (a : ℕ) (read : List Read) → a ≤ next_from a read
grows a [] = omega arith
grows a (r ∷ read) = omega (arith, grows (max a (suc (offset_in r))) read)

above : (a : ℕ) (read : List Read) (o : ℕ) → HasAt o read → suc o ≤ next_from a read
above a [] o has = absurd has
above a (r ∷ read) o has =
    ⊎_elim
    (λ is. omega (arith, is, grows (max a (suc (offset_in r))) read))
    (λ later. above (max a (suc (offset_in r))) read o later)
    has

one_of : (a o n : ℕ) (read : List Read) → n ≡ max a (suc o) → (n ≡ a) ⊎ ((t : ℕ) × (n ≡ suc t) × ((o ≡ t) ⊎ HasAt t read))
one_of a o n read is =
    elim (nat_lt o a) as (λ b. nat_lt o a ≡ b → (n ≡ a) ⊎ ((t : ℕ) × (n ≡ suc t) × ((o ≡ t) ⊎ HasAt t read))) [
      | true ↦ λ t. let lt : o < a = grind (arith, nat_tests) in inl (omega arith)
      | false ↦ λ t. let le : a ≤ o = grind (arith, nat_tests) in inr (o, omega arith, inl refl)
    ] refl

attained : (a : ℕ) (read : List Read) → (next_from a read ≡ a) ⊎ ((t : ℕ) × (next_from a read ≡ suc t) × HasAt t read)
attained a [] = inl refl
attained a (r ∷ read) =
    ⊎_elim
    (λ none. one_of a (offset_in r) (next_from (max a (suc (offset_in r))) read) read none)
    (λ found. inr (found.0, found.1, inr found.2))
    (attained (max a (suc (offset_in r))) read)

-- what has the same greatest offset comes before the same next one
pub same_next : (read out : List Read) (t : ℕ) → next_after read ≡ suc t → HasAt t out
    → ((o : ℕ) → HasAt o out → HasAt o read) → next_after out ≡ next_after read
same_next read out t is top part =
    ⊎_elim
    (λ none. absurd (omega (arith, none, above 0 out t top)))
    (λ found. omega (arith, found.1, is, above 0 out t top, above 0 read found.0 (part found.0 found.2)))
    (attained 0 out)

-- what has no other offsets comes before no later one
pub no_later : (read out : List Read) → ((o : ℕ) → HasAt o out → HasAt o read) → next_after out ≤ next_after read
no_later read out part =
    ⊎_elim
    (λ none. omega (arith, none))
    (λ found. omega (arith, found.1, above 0 read found.0 (part found.0 found.2)))
    (attained 0 out)

pub has_top : (read : List Read) (t : ℕ) → next_after read ≡ suc t → HasAt t read
has_top read t is =
    ⊎_elim
    (λ none. absurd (omega (arith, none, is)))
    (λ found. let same : found.0 ≡ t = omega (arith, found.1, is) in subst (λ (o : ℕ). HasAt o read) same found.2)
    (attained 0 read)

pub above_it : (read : List Read) (o : ℕ) → HasAt o read → suc o ≤ next_after read
above_it read o has = above 0 read o has

pub below_top : (read : List Read) (t o : ℕ) → next_after read ≡ suc t → HasAt o read → o ≤ t
below_top read t o is has = omega (arith, is, above 0 read o has)

pub no_lines : (read : List Read) → next_after read ≡ 0 → read ≡ []
no_lines [] is = refl
no_lines (r ∷ read) is = absurd (omega (arith, is, above 0 (r ∷ read) (offset_in r) (inl refl)))

-- a line that is kept was there
pub kept_at : (w : Records) (read : List Read) (o : ℕ) → HasAt o (kept_reads w read) → HasAt o read
kept_at w [] o has = absurd has
kept_at w (r ∷ read) o has =
    elim (is_kept w r) as (λ b. HasAt o (cond b (r ∷ kept_reads (waiting_after w r) read) (kept_reads (waiting_after w r) read))
    → (offset_in r ≡ o) ⊎ HasAt o read) [
      | true ↦ λ has. ⊎_elim (λ is. inl is) (λ later. inr (kept_at (waiting_after w r) read o later)) has
      | false ↦ λ has. inr (kept_at (waiting_after w r) read o has)
    ] has

pub record_at : (read : List Read) (r : Record) → Has read r → HasAt r.offset read
record_at [] r has = absurd has
record_at (reads.Foreign offset ∷ read) r has = inr (record_at read r has)
record_at (reads.Record q ∷ read) r has =
    ⊎_elim (λ is. inl (ap (λ (p : Record). p.offset) (sym is))) (λ later. inr (record_at read r later)) has

-- what stands at an offset is foreign or a record
pub foreign_or_record : (t : ℕ) (read : List Read) → HasAt t read → HasForeignAt t read ⊎ ((r : Record) × Has read r × (r.offset ≡ t))
foreign_or_record t [] has = absurd has
foreign_or_record t (reads.Foreign offset ∷ read) has =
    ⊎_elim (λ is. inl (inl is)) (λ later. ⊎_elim (λ foreign. inl (inr foreign)) (λ found. inr found) (foreign_or_record t read later)) has
foreign_or_record t (reads.Record r ∷ read) has =
    ⊎_elim
    (λ is. inr (r, inl refl, is))
    (λ later. ⊎_elim (λ foreign. inl foreign) (λ found. inr (found.0, inr found.1, found.2)) (foreign_or_record t read later))
    has

-- whether a kept line has it
pub at_top : (t : ℕ) (w : Records) (read : List Read) (b : Bool)
    → top_after (Some t) w read b ≡ true → (b ≡ true) ⊎ HasAt t (kept_reads w read)
at_top t w [] b is = inl is
at_top t w (r ∷ read) b is =
    elim (is_kept w r) as (λ k. top_after (Some t) (waiting_after w r) read (b || (k && is_at (Some t) r)) ≡ true
    → (b ≡ true) ⊎ HasAt t (cond k (r ∷ kept_reads (waiting_after w r) read) (kept_reads (waiting_after w r) read))) [
      | true ↦ λ is. ⊎_elim
          (λ early. ⊎_elim (λ before. inl before) (λ here. inr (inl (grind (arith, nat_tests)))) (or_cases b (is_at (Some t) r) early))
          (λ later. inr (inr later))
          (at_top t (waiting_after w r) read (b || is_at (Some t) r) is)
      | false ↦ λ is. ⊎_elim
          (λ early. ⊎_elim (λ before. inl before) (λ none. absurd (false≢true none)) (or_cases b false early))
          (λ later. inr later)
          (at_top t (waiting_after w r) read (b || false) is)
    ] is

pub not_at_top : (t : ℕ) (w : Records) (read : List Read) (b : Bool)
    → top_after (Some t) w read b ≡ false → (b ≡ false) × (HasAt t (kept_reads w read) → ⊥)
not_at_top t w [] b is = (is, λ has. has)
not_at_top t w (r ∷ read) b is =
    elim (is_kept w r) as (λ k. top_after (Some t) (waiting_after w r) read (b || (k && is_at (Some t) r)) ≡ false
    → (b ≡ false) × (HasAt t (cond k (r ∷ kept_reads (waiting_after w r) read) (kept_reads (waiting_after w r) read)) → ⊥)) [
      | true ↦ λ is.
          let rest = not_at_top t (waiting_after w r) read (b || is_at (Some t) r) is in
          let parts = or_parts b (is_at (Some t) r) rest.0 in
          (parts.0, λ has. ⊎_elim (λ here. differs (offset_in r) t here parts.1) rest.1 has)
      | false ↦ λ is.
          let rest = not_at_top t (waiting_after w r) read (b || false) is in
          ((or_parts b false rest.0).0, rest.1)
    ] is
  where
    differs : (o t : ℕ) → o ≡ t → nat_eq o t ≡ false → ⊥
    differs o t is not = grind (arith, nat_tests)

-- a foreign line that has it, with its LF
abbrev pub IsCarried : ℕ → Option (List ℕ) → Type 0
IsCarried t c =
    (line : List ℕ) × (c ≡ Some (line ++ 10 ∷ [])) × (0 < length line) × HasNoLineFeed line × (reading line ≡ Ok (reads.Foreign t))

pub carried : (t : ℕ) (lines : List (List ℕ)) (read : List Read) (c : Option (List ℕ)) → Say lines read
    → HasForeignAt t read ⊎ IsCarried t c → IsCarried t (carried_by (Some t) lines read c)
carried t [] [] c say has = ⊎_elim (λ none. absurd none) (λ is. is) has
carried t [] (r ∷ read) c say has = absurd say
carried t (line ∷ lines) [] c say has = absurd say
carried t (line ∷ lines) (reads.Record r ∷ read) c say has = carried t lines read c say.3 has
carried t (line ∷ lines) (reads.Foreign offset ∷ read) c say has =
    elim (nat_eq offset t) as (λ b.
    nat_eq offset t ≡ b → IsCarried t (carried_by (Some t) lines read (cond b (Some (line ++ 10 ∷ [])) c))) [
      | true ↦ λ is.
          carried t lines read (Some (line ++ 10 ∷ [])) say.3
          (inr (line, refl, say.0, say.1, say.2 ∙ ap (λ (o : ℕ). Ok (reads.Foreign o)) (equals offset t is)))
      | false ↦ λ is.
          carried t lines read c say.3 (
          ⊎_elim (λ foreign. ⊎_elim (λ here. absurd (differs offset t here is)) (λ later. inl later) foreign) (λ before. inr before) has)
    ] refl
  where
    equals : (o t : ℕ) → nat_eq o t ≡ true → o ≡ t
    equals o t is = grind (arith, nat_tests)

    differs : (o t : ℕ) → o ≡ t → nat_eq o t ≡ false → ⊥
    differs o t is not = grind (arith, nat_tests)

-- a foreign line is a line
pub foreign_at : (read : List Read) (t : ℕ) → HasForeignAt t read → HasAt t read
foreign_at [] t has = absurd has
foreign_at (reads.Record r ∷ read) t has = inr (foreign_at read t has)
foreign_at (reads.Foreign offset ∷ read) t has = ⊎_elim (λ is. inl is) (λ later. inr (foreign_at read t later)) has

pub foreign_there : (t : ℕ) (read : List Read) → HasForeignAt t read ⊎ (HasForeignAt t read → ⊥)
foreign_there t [] = inr (λ has. has)
foreign_there t (reads.Record r ∷ read) = foreign_there t read
foreign_there t (reads.Foreign offset ∷ read) =
    elim (nat_eq offset t) as (λ b. nat_eq offset t ≡ b → ((offset ≡ t) ⊎ HasForeignAt t read) ⊎ ((offset ≡ t) ⊎ HasForeignAt t read → ⊥)) [
      | true ↦ λ is. inl (inl (equals offset t is))
      | false ↦ λ is.
          ⊎_elim (λ later. inl (inr later)) (λ none. inr (λ has. ⊎_elim (λ here. differs offset t here is) none has)) (foreign_there t read)
    ] refl
  where
    equals : (o t : ℕ) → nat_eq o t ≡ true → o ≡ t
    equals o t is = grind (arith, nat_tests)

    differs : (o t : ℕ) → o ≡ t → nat_eq o t ≡ false → ⊥
    differs o t is not = grind (arith, nat_tests)

-- where no foreign line has it, none is carried
pub none_carried_at : (t : ℕ) (lines : List (List ℕ)) (read : List Read) (c : Option (List ℕ))
    → (HasForeignAt t read → ⊥) → carried_by (Some t) lines read c ≡ c
none_carried_at t [] read c not = refl
none_carried_at t (line ∷ lines) [] c not = refl
none_carried_at t (line ∷ lines) (reads.Record r ∷ read) c not = none_carried_at t lines read c not
none_carried_at t (line ∷ lines) (reads.Foreign offset ∷ read) c not =
    elim (nat_eq offset t) as (λ b. nat_eq offset t ≡ b → carried_by (Some t) lines read (cond b (Some (line ++ 10 ∷ [])) c) ≡ c) [
      | true ↦ λ is. absurd (not (inl (equals offset t is)))
      | false ↦ λ is. none_carried_at t lines read c (λ later. not (inr later))
    ] refl
  where
    equals : (o t : ℕ) → nat_eq o t ≡ true → o ≡ t
    equals o t is = grind (arith, nat_tests)
