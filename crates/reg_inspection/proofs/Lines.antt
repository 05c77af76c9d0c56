-- The lines of a log, and the keytypes of those that are foreign.
use Rattle.std.proofs.Common.{◌≡◌, ◌⊎◌, ⊎_elim, ◌+◌, ◌-◌, ◌<◌, ◌==◌, ℕ, Bool, true, false, cond, List, [], ◌∷◌, ◌++◌, length, map, drop}
use Rattle.std.proofs.Common.{take, Option, Some, Ok, Err, decimal, true≢false, subst, refl, sym, ap, ◌∙◌, arith, append_assoc, append-nil}
use Rattle.std.proofs.Common.{length-append, if◌then◌else◌}
use Rattle.std.proofs.lemmas.Bool.Decides.{nat_tests}
use Rattle.std.proofs.lemmas.List.{drop_at, take_all, take_at}
use Rattle.std.proofs.lemmas.List.Splits.{slice_split_at}
use Rattle.std.proofs.lemmas.List.Sums.{sum_by-cons}
use Rattle.std.specs.List.{count_by, filter}
use Rattle.std.specs.Option.{option_map_or}
use Rattle.std.specs.Result.{result_ok}
use Rattle.std.specs.declared.result.Result.{Result}
use Rattle.reg_journal.specs.Lines.{Say, SaysFloor, text_of}
use Rattle.reg_compaction.specs.Fronts.{Front, HasLines}
use Rattle.reg_fold.proofs.reg_records_proofs.Floors.{is_floor_line-mark, not_floor_line, one_line as one_line_of}
use Rattle.reg_fold.specs.reg_records.Floor.{floor_mark, is_floor_line}
use Rattle.reg_fold.specs.reg_records.Line.{is_line_feed, reading}
use Rattle.reg_fold.specs.reg_records.Pieces.{HasNoLineFeed}
use Rattle.reg_fold.specs.reg_records.Log.{is_foreign, records_in}
use Rattle.reg_fold.specs.reg_records.declared.line.LineError.{LineError}
use Rattle.reg_fold.specs.reg_records.declared.record.Read.{Read}
use Rattle.reg_fold.specs.reg_records.declared.record.Read.TheVariants as reads
use Rattle.reg_inspection.specs.Foreign.{before_empty, foreign_keytypes, is_foreign_line, keytype_in, log_lines}

-- each line is a record's or foreign
pub counted : (read : List Read) → length read ≡ length (records_in read) + count_by is_foreign read
counted [] = refl
counted (reads.Record r ∷ read) = omega (arith, counted read)
counted (reads.Foreign offset ∷ read) =
    omega (arith, counted read, sum_by-cons (λ x. if is_foreign x then 1 else 0) (reads.Foreign offset) read)

-- ---- the lines of a log are those that say what it says

has_some : (line : List ℕ) → 0 < length line → (length line == 0) ≡ false
has_some line h = grind (arith, nat_tests)

pub lines_are : (tail : List ℕ) → log_lines tail ≡ [] → (lines : List (List ℕ)) (read : List Read)
    → Say lines read → log_lines (text_of lines ++ tail) ≡ lines
lines_are tail ends [] [] say = ends
lines_are tail ends [] (r ∷ read) say = absurd say
lines_are tail ends (line ∷ lines) [] say = absurd say
lines_are tail ends (line ∷ lines) (r ∷ read) say =
    ap log_lines (append_assoc line (10 ∷ text_of lines) tail)
    ∙ ap before_empty (slice_split_at is_line_feed line 10 (text_of lines ++ tail) say.1 refl)
    ∙ ap (λ (b : Bool). cond b [] (line ∷ log_lines (text_of lines ++ tail))) (has_some line say.0)
    ∙ ap (λ (l : List (List ℕ)). line ∷ l) (lines_are tail ends lines read say.3)

-- what stands behind the lines of a log has no line of it
pub behind_lines : (text rest : List ℕ) (lines : List (List ℕ))
    → (text ≡ text_of lines ++ 10 ∷ rest) ⊎ ((text ≡ text_of lines) × (rest ≡ []))
    → (tail : List ℕ) × (text ≡ text_of lines ++ tail) × (log_lines tail ≡ []) × (is_floor_line tail ≡ false)
behind_lines text rest lines ends =
    ⊎_elim (λ whole. (10 ∷ rest, whole, refl, refl)) (λ whole. ([], whole.0 ∙ sym (append-nil (text_of lines)), refl, refl)) ends

-- ---- the keytypes of foreign lines

at_front : (b : Bool) (line : List ℕ) (lines : List (List ℕ))
    → map keytype_in (cond b (line ∷ lines) lines) ≡ map keytype_in (cond b (line ∷ []) []) ++ map keytype_in lines
at_front true line lines = refl
at_front false line lines = refl

one_more : (line : List ℕ) (lines : List (List ℕ))
    → foreign_keytypes (line ∷ lines) ≡ foreign_keytypes (line ∷ []) ++ foreign_keytypes lines
one_more line lines = at_front (is_foreign_line line) line (filter is_foreign_line lines)

one_line : (b : Bool) (line : List ℕ) → map keytype_in (cond b (line ∷ []) []) ≡ cond b (keytype_in line ∷ []) []
one_line true line = refl
one_line false line = refl

-- the line of a floor is none of these
not_foreign : (line : List ℕ) → is_floor_line line ≡ true → is_foreign_line line ≡ false
not_foreign line begins = of_reading (reading line) refl
  where
    of_reading : (r : Result Read LineError) → reading line ≡ r → option_map_or is_foreign (result_ok r) false ≡ false
    of_reading (Ok read) is = absurd (true≢false (sym begins ∙ not_floor_line line read is))
    of_reading (Err e) is = refl

pub behind_front : (front others : List (List ℕ)) (floor : ℕ) (read : List Read) (tail : List ℕ)
    → log_lines tail ≡ [] → SaysFloor front floor → Say others read
    → foreign_keytypes (log_lines (text_of (front ++ others) ++ tail)) ≡ foreign_keytypes others
behind_front [] others floor read tail ends is say = ap foreign_keytypes (lines_are tail ends others read say)
behind_front (line ∷ []) others floor read tail ends is say =
    let text = text_of others ++ tail in
    let free : HasNoLineFeed line = subst HasNoLineFeed (sym is.0) (one_line_of floor is.1) in
    let begins : is_floor_line line ≡ true = ap is_floor_line is.0 ∙ is_floor_line-mark (decimal floor) in
    let lines : log_lines (text_of (line ∷ others) ++ tail) ≡ line ∷ others =
    ap log_lines (append_assoc line (10 ∷ text_of others) tail)
    ∙ ap before_empty (slice_split_at is_line_feed line 10 text free refl)
    ∙ ap (λ (b : Bool). cond b [] (line ∷ log_lines text))
    (has_some line (omega (arith, ap length is.0, length-append floor_mark (decimal floor))))
    ∙ ap (λ (l : List (List ℕ)). line ∷ l) (lines_are tail ends others read say) in
    ap foreign_keytypes lines ∙ one_more line others
    ∙ ap (λ (b : Bool). map keytype_in (cond b (line ∷ []) []) ++ foreign_keytypes others) (not_foreign line begins)
behind_front (line ∷ next ∷ front) others floor read tail ends is say = absurd is

-- of a line that says this
pub keytype_of_line : (line : List ℕ) (read : Read) → reading line ≡ Ok read
    → foreign_keytypes (line ∷ []) ≡ cond (is_foreign read) (keytype_in line ∷ []) []
keytype_of_line line read says =
    ap (λ (r : Result Read LineError). map keytype_in (cond (option_map_or is_foreign (result_ok r) false) (line ∷ []) [])) says
    ∙ one_line (is_foreign read) line

-- ---- a walk over the lines

-- these lines are left, and their keytypes are what is left of all
pub record GoesOn (lines : List (List ℕ)) (found : List (Option (List ℕ))) (rest : List ℕ) (done count : ℕ) : Type 0 where
  pub left : List (List ℕ)
  pub more : List Read
  pub tail : List ℕ
  pub parts : rest ≡ text_of left ++ tail
  pub say : Say left more
  pub counts : done + length more ≡ count
  pub keytypes : found ++ foreign_keytypes left ≡ foreign_keytypes lines

pub begun : (lines : List (List ℕ)) (read : List Read) (found : List (Option (List ℕ))) (text : List ℕ) (count : ℕ)
    → found ≡ [] → HasLines text lines read count → GoesOn lines found text 0 count
begun lines read found text count none has = record {
  left = lines;
  more = read;
  tail = has.tail;
  parts = has.parts;
  say = has.say;
  counts = omega (arith, has.counts);
  keytypes = ap (λ (l : List (Option (List ℕ))). l ++ foreign_keytypes lines) none;
}

none_left : (left : List (List ℕ)) (more : List Read) → Say left more → length more ≡ 0 → foreign_keytypes left ≡ []
none_left [] more say none = refl
none_left (line ∷ left) [] say none = absurd say
none_left (line ∷ left) (r ∷ more) say none = absurd (omega (arith, none))

pub at_end : (lines : List (List ℕ)) (found : List (Option (List ℕ))) (rest : List ℕ) (done count : ℕ)
    → GoesOn lines found rest done count → done ≡ count → found ≡ foreign_keytypes lines
at_end lines found rest done count go is =
    let none : length go.more ≡ 0 = omega (arith, go.counts, is) in
    sym (append-nil found) ∙ ap (λ (l : List (Option (List ℕ))). found ++ l) (sym (none_left go.left go.more go.say none)) ∙ go.keytypes

abbrev front_of : (left : List (List ℕ)) (more : List Read) (tail rest : List ℕ)
    → rest ≡ text_of left ++ tail → Say left more → 0 < length more → Front rest
front_of [] [] tail rest is say some = absurd (omega (arith, some))
front_of [] (r ∷ more) tail rest is say some = absurd say
front_of (line ∷ left) [] tail rest is say some = absurd say
front_of (line ∷ left) (r ∷ more) tail rest is say some =
    record {
      line = line;
      behind = text_of left ++ tail;
      read = r;
      parts = is ∙ append_assoc line (10 ∷ text_of left) tail;
      free = say.1;
      says = say.2;
    }

module _ (lines : List (List ℕ)) (found new : List (Option (List ℕ))) (rest : List ℕ) (done count : ℕ) where
  abbrev pub front : GoesOn lines found rest done count → done < count → Front rest
  front go is = front_of go.left go.more go.tail rest go.parts go.say (omega (arith, go.counts, is))

  stepped : (left : List (List ℕ)) (more : List Read) (tail : List ℕ)
      (is : rest ≡ text_of left ++ tail) (say : Say left more) (some : 0 < length more)
      → done + length more ≡ count → found ++ foreign_keytypes left ≡ foreign_keytypes lines
      → new ≡ found ++ foreign_keytypes ((front_of left more tail rest is say some).line ∷ [])
      → GoesOn lines new (front_of left more tail rest is say some).behind (done + 1) count
  stepped [] [] tail is say some counts keytypes now = absurd (omega (arith, some))
  stepped [] (r ∷ more) tail is say some counts keytypes now = absurd say
  stepped (line ∷ left) [] tail is say some counts keytypes now = absurd say
  stepped (line ∷ left) (r ∷ more) tail is say some counts keytypes now = record {
    left = left;
    more = more;
    tail = tail;
    parts = refl;
    say = say.3;
    counts = omega (arith, counts);
    keytypes =
        ap (λ (l : List (Option (List ℕ))). l ++ foreign_keytypes left) now
        ∙ append_assoc found (foreign_keytypes (line ∷ [])) (foreign_keytypes left)
        ∙ ap (λ (l : List (Option (List ℕ))). found ++ l) (sym (one_more line left))
        ∙ keytypes;
  }

  pub step : (go : GoesOn lines found rest done count) (is : done < count)
      → new ≡ found ++ foreign_keytypes ((front go is).line ∷ []) → GoesOn lines new (front go is).behind (done + 1) count
  step go is now = stepped go.left go.more go.tail go.parts go.say (omega (arith, go.counts, is)) go.counts go.keytypes now

-- the line without its LF, and what stands behind that
pub line_of : (line behind rest : List ℕ) (len : ℕ) → rest ≡ line ++ 10 ∷ behind → len ≡ length line + 1 → take (len - 1) rest ≡ line
line_of line behind rest len is size = ap (λ (l : List ℕ). take (len - 1) l) is ∙ take_at line (10 ∷ behind) (len - 1) (omega (arith, size))

pub rest_of : (line behind rest : List ℕ) (len : ℕ) → rest ≡ line ++ 10 ∷ behind
    → len ≡ length line + 1 → behind ≡ take (length rest - len) (drop len rest)
rest_of line behind rest len is size =
    let back : drop len rest ≡ behind =
    ap (λ (l : List ℕ). drop len l) (is ∙ sym (append_assoc line (10 ∷ []) behind))
    ∙ drop_at (line ++ 10 ∷ []) behind len (omega (arith, size, length-append line (10 ∷ []))) in
    sym (ap (λ (l : List ℕ). take (length rest - len) l) back
    ∙ take_all (length rest - len) behind (omega (arith, ap length is, length-append line (10 ∷ behind), size)))

pub of_pairs : (m n : ℕ) (r s : Read) → ◌≡◌ {A = Option (ℕ × Read)} (Some (m, r)) (Some (n, s)) → (m ≡ n) × (r ≡ s)
of_pairs m n r s is =
    let inner : ℕ × Read → Option (ℕ × Read) → ℕ × Read = λ d o. option_map_or (λ p. p) o d in
    let same = ap (inner (m, r)) is in
    (ap (λ (p : ℕ × Read). p.0) same, ap (λ (p : ℕ × Read). p.1) same)
