-- Where the empty line of a file stands, and one LF more.
use Rattle.std.proofs.Common.{◌≡◌, ⊎_elim, ◌<◌, ◌≤◌, ◌+◌, ◌-◌, ℕ, zero, suc, List, [], ◌∷◌, ◌++◌, length, take, drop, Result, Ok, Err, refl}
use Rattle.std.proofs.Common.{sym, ap, subst, ◌∙◌, arith, append_assoc, append-nil, length-append, count_by, cond, if◌then◌else◌}
use Rattle.std.proofs.Common.{false, true, ◌==◌}
use Rattle.std.proofs.lemmas.Bool.Decides.{nat_tests}
use Rattle.std.proofs.lemmas.List.Sums.{sum_by-cons}
use Rattle.std.proofs.lemmas.List.{take_at, take_all, drop_all}
use Rattle.std.specs.Prelude.{IfOk}
use Rattle.reg_records.specs.Floor.{is_floor_line}
use Rattle.reg_records.specs.Log.{IsLogOf, LogText, log_of, records_in, is_foreign}
use Rattle.reg_records.specs.declared.limits.TheConstants.{LOG_LINES}
use Rattle.reg_records.specs.declared.record.Read.{Read}
use Rattle.reg_records.specs.declared.record.Read.TheVariants as reads
use Rattle.reg_journal.specs.Disk.{Keeps, Only, Holds}
use Rattle.reg_journal.specs.Journal.{IsSteady}
use Rattle.reg_journal.specs.Found.{HasNoEmptyLine, IsFound}
use Rattle.reg_journal.specs.Lines.{Said, said, text_of, SayLog}
use Rattle.reg_journal.specs.declared.opening.Found.{Found}
use Rattle.reg_journal.specs.declared.opening.JournalOpenError.{JournalOpenError}
use Rattle.reg_journal.proofs.Gates.{kept_front}
use Rattle.reg_journal.proofs.Logs.{lines_told, said_by_lines, said_in, whole}

-- each line is a record's or foreign
pub counted : (read : List Read) → length read ≡ length (records_in read) + count_by is_foreign read
counted [] = refl
counted (reads.Record r ∷ read) = omega (arith, counted read)
counted (reads.Foreign offset ∷ read) =
    omega (arith, counted read, sum_by-cons (λ x. if is_foreign x then 1 else 0) (reads.Foreign offset) read)

take_past : (xs ys : List ℕ) (m n : ℕ) → m ≡ length xs + n → take m (xs ++ ys) ≡ xs ++ take n ys
take_past [] ys m n is = let same : m ≡ n = omega arith in ap (λ (k : ℕ). take k ys) same
take_past (x ∷ xs) ys zero n is = absurd (omega arith)
take_past (x ∷ xs) ys (suc m) n is = ap (λ (l : List ℕ). x ∷ l) (take_past xs ys m n (omega arith))

front_of : (file xs : List ℕ) (b : ℕ) (rest : List ℕ)
    → file ++ 10 ∷ [] ≡ xs ++ 10 ∷ b ∷ rest → file ≡ xs ++ 10 ∷ take (length rest) (b ∷ rest)
front_of file xs b rest is =
    sym (take_at file (10 ∷ []) (length file) refl)
    ∙ ap (λ (l : List ℕ). take (length file) l) is
    ∙ take_past xs (10 ∷ b ∷ rest) (length file) (suc (length rest))
    (omega (arith, ap length is, length-append file (10 ∷ []), length-append xs (10 ∷ b ∷ rest)))

pub filled : (xs : List ℕ) → (length xs == 0) ≡ false → 0 < length xs
filled xs is = grind (arith, nat_tests)

-- the file is lines, an empty one, and the rest
pub record Ended (file : List ℕ) (log : LogText) : Type 0 where
  pub lines : List (List ℕ)
  pub parts : file ≡ text_of lines ++ 10 ∷ take (length log.rest - 1) log.rest
  pub say : SayLog lines log.floor log.reads
  pub few : length lines ≤ LOG_LINES
  pub size : length file ≡ length (text_of lines) + length log.rest
  -- how many they are
  pub told : length lines ≡ length log.reads + cond (is_floor_line (file ++ 10 ∷ [])) 1 0

ended_by : (file : List ℕ) (log : LogText) (lines : List (List ℕ)) (rest : List ℕ)
    → SayLog lines log.floor log.reads → length lines ≤ LOG_LINES → rest ≡ log.rest → 0 < length rest
    → file ++ 10 ∷ [] ≡ text_of lines ++ 10 ∷ rest → Ended file log
ended_by file log lines [] say few same some is = absurd (omega arith)
ended_by file log lines (b ∷ rest) say few same some is = record {
  lines = lines;
  parts = front_of file (text_of lines) b rest is
      ∙ ap (λ (l : List ℕ). text_of lines ++ 10 ∷ l)
      (ap (λ (k : ℕ). take k (b ∷ rest)) (omega arith) ∙ ap (λ (l : List ℕ). take (length l - 1) l) same);
  say = say;
  few = few;
  size = omega (arith, ap length is, ap length same, length-append file (10 ∷ []), length-append (text_of lines) (10 ∷ b ∷ rest));
  told = lines_told lines log.floor log.reads (b ∷ rest) say ∙ ap (λ (t : List ℕ). length log.reads + cond (is_floor_line t) 1 0) (sym is);
}

-- with an LF more, something is left behind an empty line
pub ended : (file : List ℕ) (log : LogText) → log_of (file ++ 10 ∷ []) ≡ Ok log → 0 < length log.rest → Ended file log
ended file log is some =
    let s = whole (file ++ 10 ∷ []) log is in
    ⊎_elim
    (λ parts. ended_by file log s.lines log.rest s.say s.few refl some parts)
    (λ none. absurd (omega (arith, ap length none.1, some)))
    s.whole

-- one LF more says nothing more
pub said_more : (file : List ℕ) (log : LogText) → log_of file ≡ Ok log → said (file ++ 10 ∷ []) ≡ said file
said_more file log is =
    let s = whole file log is in
    let before : said file ≡ Ok (record { floor = log.floor; reads = log.reads }) = ap said_in is in
    ⊎_elim
    (λ parts. ap said (ap (λ (l : List ℕ). l ++ 10 ∷ []) parts ∙ append_assoc (text_of s.lines) (10 ∷ log.rest) (10 ∷ []))
    ∙ said_by_lines s.lines log.floor log.reads (log.rest ++ 10 ∷ []) s.say s.few ∙ sym before)
    (λ none. ap said (ap (λ (l : List ℕ). l ++ 10 ∷ []) none.0) ∙ said_by_lines s.lines log.floor log.reads [] s.say s.few ∙ sym before)
    s.whole

-- a file that has an empty line
module _ (file : List ℕ) (found : Found) (is : IsFound file found) where
  pub said_found : said file ≡ Ok (record { floor = is.floor; reads = is.read })
  said_found = ap said is.parts ∙ said_by_lines is.lines is.floor is.read found.behind.items is.say is.few

  pub end_within : found.end + 1 ≤ length file
  end_within = omega (arith, ap length is.parts, length-append (text_of is.lines) (10 ∷ found.behind.items), is.ends)

  -- what keeps its front says the same
  pub kept_says : (c : List ℕ) → Keeps (found.end + 1) file c → said c ≡ said file
  kept_says c keeps =
      let before = text_of is.lines in
      let front : c ≡ before ++ 10 ∷ drop (found.end + 1) c = kept_front before (found.end + 1) found.behind.items c
      (omega (arith, is.ends)) (subst (λ f. Keeps (found.end + 1) f c) is.parts keeps) in
      ap said front ∙ said_by_lines is.lines is.floor is.read (drop (found.end + 1) c) is.say is.few ∙ sym said_found

  front : take (found.end + 1) file ≡ text_of is.lines ++ 10 ∷ []
  front =
      let before = text_of is.lines in
      ap (λ (f : List ℕ). take (found.end + 1) f) (is.parts ∙ sym (append_assoc before (10 ∷ []) found.behind.items))
      ∙ take_at (before ++ 10 ∷ []) found.behind.items (found.end + 1) (omega (arith, length-append before (10 ∷ []), is.ends))

  pub cut_says : (new : List ℕ) → new ≡ take (found.end + 1) file → said new ≡ said file
  cut_says new cut = ap said (cut ∙ front) ∙ said_by_lines is.lines is.floor is.read [] is.say is.few ∙ sym said_found

  pub cut_settles : {D : Type 0} (seen : D → List ℕ) (may_leave : D → List ℕ → Type 0) (disk : D)
      → seen disk ≡ take (found.end + 1) file → Only (seen disk) (may_leave disk) → IsSteady seen may_leave disk found.end found.lines
  cut_settles seen may_leave disk cut only = record {
    lines = is.lines;
    floor = is.floor;
    read = is.read;
    file = cut ∙ front;
    say = is.say;
    ends = is.ends;
    counts = is.counts;
    few = is.few;
    durable = only;
  }

-- a write at the end of a file
pub written_past : (file bytes c : List ℕ) (n : ℕ) → n ≡ length file → Holds file n bytes c → c ≡ file ++ bytes
written_past file bytes c n is holds =
    holds
    ∙ ap (λ (l : List ℕ). l ++ bytes ++ drop (n + length bytes) file) (take_all n file (omega (arith, is)))
    ∙ ap (λ (l : List ℕ). file ++ bytes ++ l) (drop_all (n + length bytes) file (omega (arith, is)))
    ∙ append-nil (file ++ bytes)

-- nothing is left: with one LF more the file is a log
none_in : (xs : List ℕ) → (length xs == 0) ≡ true → length xs ≡ 0
none_in xs is = grind (arith, nat_tests)

pub nothing_left : (file : List ℕ) (log : LogText) (left : List ℕ) → log_of (file ++ 10 ∷ []) ≡ Ok log → left ≡ log.rest
    → (length left == 0) ≡ true → HasNoEmptyLine file
nothing_left file log [] is same none = (log, is, sym same)
nothing_left file log (b ∷ left) is same none = absurd (omega (arith, none_in (b ∷ left) none))

-- a file in which something was found says it
pub says_found : (file : List ℕ) (r : Result Found JournalOpenError) → IfOk r (IsFound file)
    → IfOk r (λ found. (says : Said) × (said file ≡ Ok says) × IsLogOf says.floor says.reads found.log)
says_found file (Ok found) is = (record { floor = is.floor; reads = is.read }, said_found file found is, is.is_log)
says_found file (Err e) is = tt
