-- A walk over the lines of a log that keeps those below an offset.
use Rattle.std.proofs.Common.{◌≡◌, ◌+◌, ◌-◌, ◌<◌, ◌≤◌, ℕ, Bool, true, false, cond, List, [], ◌∷◌, ◌++◌, length, drop, take, Option, Some, Ok}
use Rattle.std.proofs.Common.{refl, sym, ap, ◌∙◌, arith, append_assoc, append-nil, length-append}
use Rattle.std.proofs.lemmas.List.{drop_at, take_all, take_at}
use Rattle.std.proofs.lemmas.List.Sums.{sum_by-cons}
use Rattle.std.specs.List.{count_by}
use Rattle.std.specs.Option.{option_map_or}
use Rattle.reg_journal.specs.Lines.{Say, text_of}
use Rattle.reg_compaction.specs.Fronts.{Front, HasLines}
use Rattle.reg_fold.specs.reg_records.Line.{reading}
use Rattle.reg_fold.specs.reg_records.Log.{is_foreign, records_in}
use Rattle.reg_fold.specs.reg_records.declared.record.Read.{Read}
use Rattle.reg_fold.specs.reg_records.declared.record.Read.TheVariants as reads
use Rattle.reg_base.specs.Base.{is_below, lines_below, reads_below}

-- each line is a record's or foreign
pub counted : (read : List Read) → length read ≡ length (records_in read) + count_by is_foreign read
counted [] = refl
counted (reads.Record r ∷ read) = omega (arith, counted read)
counted (reads.Foreign offset ∷ read) =
    omega (arith, counted read, sum_by-cons (λ x. cond (is_foreign x) 1 0) (reads.Foreign offset) read)

-- ---- the lines below say what stands below

say_at : (b : Bool) (below : ℕ) (line : List ℕ) (lines : List (List ℕ)) (r : Read) (read : List Read)
    → (0 < length line) → ((reading line ≡ Ok r) × Say (line ∷ []) (r ∷ []))
    → Say (lines_below below lines read) (reads_below below read)
    → Say (cond b (line ∷ lines_below below lines read) (lines_below below lines read)) (cond b (r ∷ reads_below below read) (reads_below below read))
say_at true below line lines r read some one more = (one.1.0, one.1.1, one.1.2, more)
say_at false below line lines r read some one more = more

pub say_below : (below : ℕ) (lines : List (List ℕ)) (read : List Read) → Say lines read
    → Say (lines_below below lines read) (reads_below below read)
say_below below [] [] say = tt
say_below below [] (r ∷ read) say = absurd say
say_below below (line ∷ lines) [] say = absurd say
say_below below (line ∷ lines) (r ∷ read) say =
    say_at (is_below below r) below line lines r read say.0 (say.2, (say.0, say.1, say.2, tt)) (say_below below lines read say.3)

fewer_at : (b : Bool) (line : List ℕ) (lines : List (List ℕ)) → length (cond b (line ∷ lines) lines) ≤ length lines + 1
fewer_at true line lines = omega (arith)
fewer_at false line lines = omega (arith)

pub fewer : (below : ℕ) (lines : List (List ℕ)) (read : List Read) → length (lines_below below lines read) ≤ length lines
fewer below [] read = omega (arith)
fewer below (line ∷ lines) [] = omega (arith)
fewer below (line ∷ lines) (r ∷ read) =
    omega (arith, fewer_at (is_below below r) line (lines_below below lines read), fewer below lines read)

-- ---- the walk

one_at : (b : Bool) (line : List ℕ) (lines : List (List ℕ))
    → text_of (cond b (line ∷ lines) lines) ≡ text_of (cond b (line ∷ []) []) ++ text_of lines
one_at true line lines = sym (append_assoc line (10 ∷ []) (text_of lines))
one_at false line lines = refl

one_more : (below : ℕ) (line : List ℕ) (lines : List (List ℕ)) (r : Read) (read : List Read)
    → text_of (lines_below below (line ∷ lines) (r ∷ read))
    ≡ text_of (lines_below below (line ∷ []) (r ∷ [])) ++ text_of (lines_below below lines read)
one_more below line lines r read = one_at (is_below below r) line (lines_below below lines read)

-- these lines are left, and those of them below the offset are what is left of all
pub record GoesOn (below : ℕ) (wanted : List ℕ) (text rest : List ℕ) (done count : ℕ) : Type 0 where
  pub left : List (List ℕ)
  pub more : List Read
  pub tail : List ℕ
  pub parts : rest ≡ text_of left ++ tail
  pub say : Say left more
  pub counts : done + length more ≡ count
  pub goes : text ++ text_of (lines_below below left more) ≡ wanted

pub begun : (below : ℕ) (old rest : List ℕ) (lines : List (List ℕ)) (read : List Read) (count : ℕ) → HasLines rest lines read count
    → GoesOn below (old ++ text_of (lines_below below lines read)) old rest 0 count
begun below old rest lines read count has = record {
  left = lines;
  more = read;
  tail = has.tail;
  parts = has.parts;
  say = has.say;
  counts = omega (arith, has.counts);
  goes = refl;
}

none_left : (below : ℕ) (left : List (List ℕ)) (more : List Read) → Say left more → length more ≡ 0 → text_of (lines_below below left more) ≡ []
none_left below [] more say none = refl
none_left below (line ∷ left) [] say none = absurd say
none_left below (line ∷ left) (r ∷ more) say none = absurd (omega (arith, none))

pub at_end : (below : ℕ) (wanted text rest : List ℕ) (done count : ℕ) → GoesOn below wanted text rest done count → done ≡ count → text ≡ wanted
at_end below wanted text rest done count go is =
    let none : length go.more ≡ 0 = omega (arith, go.counts, is) in
    sym (append-nil text) ∙ ap (λ (l : List ℕ). text ++ l) (sym (none_left below go.left go.more go.say none)) ∙ go.goes

abbrev front_of : (left : List (List ℕ)) (more : List Read) (tail rest : List ℕ)
    → rest ≡ text_of left ++ tail → Say left more → 0 < length more → Front rest
front_of [] [] tail rest is say some = absurd (omega (arith, some))
front_of [] (r ∷ more) tail rest is say some = absurd say
front_of (line ∷ left) [] tail rest is say some = absurd say
front_of (line ∷ left) (r ∷ more) tail rest is say some =
    record {
      line = line;
      behind = text_of left ++ tail;
      read = r;
      parts = is ∙ append_assoc line (10 ∷ text_of left) tail;
      free = say.1;
      says = say.2;
    }

module _ (below : ℕ) (wanted text new rest : List ℕ) (done count : ℕ) where
  abbrev pub front : GoesOn below wanted text rest done count → done < count → Front rest
  front go is = front_of go.left go.more go.tail rest go.parts go.say (omega (arith, go.counts, is))

  stepped : (left : List (List ℕ)) (more : List Read) (tail : List ℕ)
      (is : rest ≡ text_of left ++ tail) (say : Say left more) (some : 0 < length more)
      → done + length more ≡ count → text ++ text_of (lines_below below left more) ≡ wanted
      → new ≡ text ++ text_of (lines_below below ((front_of left more tail rest is say some).line ∷ []) ((front_of left more tail rest is say some).read ∷ []))
      → GoesOn below wanted new (front_of left more tail rest is say some).behind (done + 1) count
  stepped [] [] tail is say some counts goes now = absurd (omega (arith, some))
  stepped [] (r ∷ more) tail is say some counts goes now = absurd say
  stepped (line ∷ left) [] tail is say some counts goes now = absurd say
  stepped (line ∷ left) (r ∷ more) tail is say some counts goes now = record {
    left = left;
    more = more;
    tail = tail;
    parts = refl;
    say = say.3;
    counts = omega (arith, counts);
    goes =
        ap (λ (l : List ℕ). l ++ text_of (lines_below below left more)) now
        ∙ append_assoc text (text_of (lines_below below (line ∷ []) (r ∷ []))) (text_of (lines_below below left more))
        ∙ ap (λ (l : List ℕ). text ++ l) (sym (one_more below line left r more))
        ∙ goes;
  }

  pub step : (go : GoesOn below wanted text rest done count) (is : done < count)
      → new ≡ text ++ text_of (lines_below below ((front go is).line ∷ []) ((front go is).read ∷ []))
      → GoesOn below wanted new (front go is).behind (done + 1) count
  step go is now = stepped go.left go.more go.tail go.parts go.say (omega (arith, go.counts, is)) go.counts go.goes now

-- the line with its LF, and what stands behind that
pub line_of : (line behind rest : List ℕ) (len : ℕ) → rest ≡ line ++ 10 ∷ behind → len ≡ length line + 1 → take len rest ≡ line ++ 10 ∷ []
line_of line behind rest len is size =
    ap (λ (l : List ℕ). take len l) (is ∙ sym (append_assoc line (10 ∷ []) behind))
    ∙ take_at (line ++ 10 ∷ []) behind len (omega (arith, size, length-append line (10 ∷ [])))

pub rest_of : (line behind rest : List ℕ) (len : ℕ) → rest ≡ line ++ 10 ∷ behind
    → len ≡ length line + 1 → behind ≡ take (length rest - len) (drop len rest)
rest_of line behind rest len is size =
    let back : drop len rest ≡ behind =
    ap (λ (l : List ℕ). drop len l) (is ∙ sym (append_assoc line (10 ∷ []) behind))
    ∙ drop_at (line ++ 10 ∷ []) behind len (omega (arith, size, length-append line (10 ∷ []))) in
    sym (ap (λ (l : List ℕ). take (length rest - len) l) back
    ∙ take_all (length rest - len) behind (omega (arith, ap length is, length-append line (10 ∷ behind), size)))

pub of_pairs : (m n : ℕ) (r s : Read) → ◌≡◌ {A = Option (ℕ × Read)} (Some (m, r)) (Some (n, s)) → (m ≡ n) × (r ≡ s)
of_pairs m n r s is =
    let inner : ℕ × Read → Option (ℕ × Read) → ℕ × Read = λ d o. option_map_or (λ p. p) o d in
    let same = ap (inner (m, r)) is in
    (ap (λ (p : ℕ × Read). p.0) same, ap (λ (p : ℕ × Read). p.1) same)
