-- What a journal's file is once it is compacted.
use Rattle.std.proofs.Common.{◌≡◌, ◌⊎◌, inl, inr, ⊎_elim, Option, Some, None, ◌+◌, ◌++◌, ℕ, List, [], ◌∷◌, Ok}
use Rattle.std.proofs.Common.{Err, length, take, sym, ap, subst, ◌∙◌, arith, length-append, count_by}
use Rattle.std.proofs.lemmas.List.{take_at}
use Rattle.reg_journal.proofs.Moments.{joined, weaker}
use Rattle.reg_journal.specs.Disk.{LeavesOnly}
use Rattle.reg_journal.specs.Journal.{IsEndedLog, IsSteady}
use Rattle.reg_journal.specs.Lines.{EndedLinesAreRead, LinesAreRead, said, text_of}
use Rattle.reg_journal.specs.declared.disk.DiskError.TheVariants as disks
use Rattle.reg_journal.specs.declared.renewal.RenewError.{RenewError}
use Rattle.reg_journal.specs.declared.renewal.RenewError.TheVariants as renewals
use Rattle.reg_records.specs.Line.{is_line_feed}
use Rattle.reg_records.specs.Log.{LogText, log_of}
use Rattle.reg_records.specs.declared.log.LogFault.{LogFault}
use Rattle.reg_compaction.proofs.Counts.{all_counted}
use Rattle.reg_compaction.specs.Compacted.{IsCompacted, IsLines}
use Rattle.reg_compaction.specs.CompactedTo.{HasKept, IsCompactedBy, IsCompactedTo, LacksFloor}
use Rattle.reg_compaction.specs.InPlace.{IsBeforeOrCompacted, renew_refusal}
use Rattle.reg_compaction.specs.Shrunk.{IsNoShrinking, ShrinksTo}
use Rattle.reg_compaction.specs.declared.in_place.JournalCompactError.{JournalCompactError}
use Rattle.reg_compaction.specs.declared.in_place.JournalCompactError.TheVariants.{Broken, Changed, Lost}
use Rattle.reg_compaction.specs.declared.shrinking.Shrunk.{Shrunk}

same_log : (text : List ℕ) (a b : LogText) → log_of text ≡ Ok a → log_of text ≡ Ok b → a ≡ b
same_log text a b p q = cc

not_both : (text : List ℕ) (a : LogText) (e : ℕ × LogFault) → log_of text ≡ Ok a → log_of text ≡ Err e → ⊥
not_both text a e p q = cc

pub never_changed : (e : RenewError) → renew_refusal e ≡ Changed → ⊥
never_changed (renewals.Kept disks.OutOfMemory) is = cc
never_changed (renewals.Kept disks.Failed) is = cc
never_changed renewals.Lost is = cc

-- a reading that failed lost no renewal
pub never_lost : (file : List ℕ) (end : ℕ) (e : JournalCompactError) → IsNoShrinking file end e → e ≡ Lost → ⊥
never_lost file end e why is = subst (λ (k : JournalCompactError). IsNoShrinking file end k) is why

pub never_broken : (file : List ℕ) (end : ℕ) (e : JournalCompactError) → IsNoShrinking file end e → e ≡ Broken → ⊥
never_broken file end e why is = subst (λ (k : JournalCompactError). IsNoShrinking file end k) is why

pub no_renewal_broken : (e : RenewError) → renew_refusal e ≡ Broken → ⊥
no_renewal_broken (renewals.Kept disks.OutOfMemory) is = cc
no_renewal_broken (renewals.Kept disks.Failed) is = cc
no_renewal_broken renewals.Lost is = cc

module _ (are_read : LinesAreRead) (ended_are_read : EndedLinesAreRead) {D : Type 0} (seen : D → List ℕ)
    (may_leave : D → List ℕ → Type 0) (disk : D) (end count : ℕ) (s : IsSteady seen may_leave disk end count) where
  before : take end (seen disk) ≡ text_of s.lines
  before = ap (λ (f : List ℕ). take end f) s.file ∙ take_at (text_of s.lines) (10 ∷ []) end (sym s.ends)

  size : length (seen disk) ≡ end + 1
  size = omega (arith, ap length s.file, length-append (text_of s.lines) (10 ∷ []), s.ends)

  reads : log_of (take end (seen disk)) ≡ Ok (record { floor = s.floor; reads = s.read; rest = [] })
  reads = ap log_of before ∙ are_read s.lines s.floor s.read s.say s.few

  -- such a file has no fault
  sound : (number : ℕ) (fault : LogFault) → log_of (take end (seen disk)) ≡ Err (number, fault) → ⊥
  sound number fault is = not_both (take end (seen disk)) (record { floor = s.floor; reads = s.read; rest = [] }) (number, fault) reads is

  pub not_changed : (e : JournalCompactError) → IsNoShrinking (seen disk) end e → e ≡ Changed → ⊥
  not_changed e is same =
      let fault = subst (λ (x : JournalCompactError). IsNoShrinking (seen disk) end x) same is size in
      sound fault.0 fault.1 fault.2

  -- a call that changes nothing
  pub same_steady : (new : D) → seen new ≡ seen disk
      → ((c : List ℕ) → may_leave new c → may_leave disk c) → IsSteady seen may_leave new end count
  same_steady new is crash = record {
    lines = s.lines;
    floor = s.floor;
    read = s.read;
    file = is ∙ s.file;
    say = s.say;
    ends = s.ends;
    counts = s.counts;
    few = s.few;
    durable = λ c left. s.durable c (crash c left) ∙ sym is;
  }

  -- behind an empty line the same is read, of what was written
  module _ (text : List ℕ) (lines : IsLines text) where
    out_of : (out : LogText) → log_of text ≡ Ok out → out ≡ record { floor = lines.floor; reads = lines.read; rest = [] }
    out_of out is =
        same_log text out (record { floor = lines.floor; reads = lines.read; rest = [] }) is
        (ap log_of lines.parts ∙ are_read lines.lines lines.floor lines.read lines.say lines.few)

    log_is : (log : LogText) → log_of (take end (seen disk)) ≡ Ok log → log ≡ record { floor = s.floor; reads = s.read; rest = [] }
    log_is log is = same_log (take end (seen disk)) log (record { floor = s.floor; reads = s.read; rest = [] }) is reads

    ended : text ++ 10 ∷ [] ≡ text_of lines.lines ++ 10 ∷ []
    ended = ap (λ (t : List ℕ). t ++ 10 ∷ []) lines.parts

    read_whole : (log : LogText) → log_of (take end (seen disk)) ≡ Ok log → log_of (seen disk) ≡ Ok log
    read_whole log is = ap log_of s.file ∙ ended_are_read s.lines s.floor s.read [] s.say s.few ∙ ap Ok (sym (log_is log is))

    read_back : (out : LogText) → log_of text ≡ Ok out → log_of (text ++ 10 ∷ []) ≡ Ok out
    read_back out is =
        ap log_of ended ∙ ended_are_read lines.lines lines.floor lines.read [] lines.say lines.few ∙ ap Ok (sym (out_of out is))

    at_own : IsCompacted (take end (seen disk)) text → IsCompacted (seen disk) (text ++ 10 ∷ [])
    at_own c = record {
      log = c.log;
      read = read_whole c.log c.read;
      out = c.out;
      read_back = read_back c.out c.read_back;
      whole = c.whole;
      floor = c.floor;
      lasts = c.lasts;
      next = c.next;
      small = omega (arith, c.small, length-append text (10 ∷ []), size, ap length before, s.ends);
    }

    to_floor : (floor : ℕ) → IsCompactedTo floor (take end (seen disk)) text → IsCompactedTo floor (seen disk) (text ++ 10 ∷ [])
    to_floor floor c = record {
      log = c.log;
      read = read_whole c.log c.read;
      rises = c.rises;
      within = c.within;
      out = c.out;
      read_back = read_back c.out c.read_back;
      whole = c.whole;
      floor = c.floor;
      lasts = c.lasts;
      next = c.next;
      small = omega (arith, c.small, length-append text (10 ∷ []), size, ap length before, s.ends);
    }

    lacks : (floor : ℕ) → LacksFloor (take end (seen disk)) floor → LacksFloor (seen disk) floor
    lacks floor why =
        ⊎_elim
        (λ off. inl (off.0, read_whole off.0 off.1, off.2))
        (λ full.
        inr (
        record {
          log = full.log;
          read = read_whole full.log full.read;
          rises = full.rises;
          within = full.within;
          has_line = full.has_line;
          full = full.full;
          stay = full.stay;
        }))
        why

    by : (floor : Option ℕ) → IsCompactedBy floor (take end (seen disk)) text → IsCompactedBy floor (seen disk) (text ++ 10 ∷ [])
    by None c = at_own c
    by (Some floor) c = ⊎_elim (λ it. inl (to_floor floor it)) (λ own. inr (lacks floor own.0, at_own own.1)) c

  module _ (floor : Option ℕ) (shrunk : Shrunk) (it : ShrinksTo floor (seen disk) end shrunk) where
    abbrev lines : IsLines it.text
    lines = it.is_lines

    bytes : shrunk.bytes.items ≡ text_of lines.lines ++ 10 ∷ []
    bytes = it.bytes ∙ ap (λ (t : List ℕ). t ++ 10 ∷ []) lines.parts

    pub whole : IsCompactedBy floor (seen disk) shrunk.bytes.items
    whole = subst (λ (t : List ℕ). IsCompactedBy floor (seen disk) t) (sym it.bytes) (by it.text lines floor it.compacted)

    kept_count : length lines.lines ≡ shrunk.kept
    kept_count =
        omega (
          arith,
          it.kept,
          ap (λ (t : List ℕ). count_by is_line_feed t) lines.parts,
          all_counted lines.lines lines.floor lines.read lines.say,
        )

    pub has_kept : HasKept floor (seen disk) shrunk.kept
    has_kept = (it.text, by it.text lines floor it.compacted, sym it.kept)

    pub ended_log : IsEndedLog shrunk.bytes.items shrunk.kept
    ended_log = record {
      lines = lines.lines;
      floor = lines.floor;
      read = lines.read;
      file = bytes;
      say = lines.say;
      counts = sym kept_count;
      few = lines.few;
    }

    -- a renewal leaves the file as it was, or compacted
    pub renewed : (moment : D → ℕ) (left_since : D → ℕ → List ℕ → Type 0) (mid new : D) (given : List ℕ)
        → given ≡ shrunk.bytes.items → seen mid ≡ seen disk
        → LeavesOnly moment left_since may_leave disk mid (λ c. c ≡ seen disk)
        → LeavesOnly moment left_since may_leave mid new (λ c. (c ≡ seen mid) ⊎ (c ≡ given))
        → LeavesOnly moment left_since may_leave disk new (IsBeforeOrCompacted floor (seen disk))
    renewed moment left_since mid new given is same first next =
        weaker moment left_since may_leave disk new _ (IsBeforeOrCompacted floor (seen disk))
        (joined moment left_since may_leave disk mid new (λ c. c ≡ seen disk) (λ c. (c ≡ seen mid) ⊎ (c ≡ given)) first next)
        (λ c left. ⊎_elim (λ was. inl (ap said was))
        (λ more. ⊎_elim (λ was. inl (ap said (was ∙ same)))
        (λ now. inr (subst (λ (t : List ℕ). IsCompactedBy floor (seen disk) t) (sym (now ∙ is)) whole)) more) left)
