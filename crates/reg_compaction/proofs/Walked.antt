-- How a walk goes on.
use Rattle.std.proofs.Common.{◌≡◌, ◌<◌, ◌+◌, ℕ, Bool, true, false, cond, List, [], ◌∷◌, ◌++◌, length, Option, Some}
use Rattle.std.proofs.Common.{refl, sym, ap, ◌∙◌, arith, append_assoc, append-nil, take, drop, ◌-◌, length-append}
use Rattle.std.proofs.lemmas.List.{drop_at, take_all, take_at}
use Rattle.std.specs.Option.{option_map_or}
use Rattle.reg_journal.specs.Lines.{Say, text_of}
use Rattle.reg_records.specs.declared.record.Read.{Read}
use Rattle.reg_set.specs.Records.{Records}
use Rattle.reg_compaction.specs.Fronts.{Front, HasLines}
use Rattle.reg_compaction.specs.Walk.{Steps, Walks, carried_by, carried_in, is_kept, kept_lines, top_after, waiting_after}
use Rattle.reg_compaction.specs.declared.walk.Walk.{Walk}

-- these lines are left, and come to what all of them come to
pub record GoesOn (top : Option ℕ) (lines : List (List ℕ)) (read : List Read)
    (old now : Walk) (rest : List ℕ) (done count : ℕ) : Type 0 where
  pub left : List (List ℕ)
  pub more : List Read
  pub tail : List ℕ
  pub parts : rest ≡ text_of left ++ tail
  pub say : Say left more
  pub counts : done + length more ≡ count
  pub text : now.text.items ++ text_of (kept_lines now.waiting left more) ≡ old.text.items ++ text_of (kept_lines old.waiting lines read)
  pub has_top : top_after top now.waiting more now.has_top ≡ top_after top old.waiting read old.has_top
  pub carried : carried_by top left more (carried_in now) ≡ carried_by top lines read (carried_in old)

pub begun : (top : Option ℕ) (lines : List (List ℕ)) (read : List Read) (old : Walk) (text : List ℕ) (count : ℕ)
    → HasLines text lines read count → GoesOn top lines read old old text 0 count
begun top lines read old text count has = record {
  left = lines;
  more = read;
  tail = has.tail;
  parts = has.parts;
  say = has.say;
  counts = omega (arith, has.counts);
  text = refl;
  has_top = refl;
  carried = refl;
}

-- the line with its LF, and what stands behind it
pub line_of : (line behind rest : List ℕ) (len : ℕ) → rest ≡ line ++ 10 ∷ behind → len ≡ length line + 1 → take len rest ≡ line ++ 10 ∷ []
line_of line behind rest len is size =
    ap (λ (l : List ℕ). take len l) (is ∙ sym (append_assoc line (10 ∷ []) behind))
    ∙ take_at (line ++ 10 ∷ []) behind len (omega (arith, size, length-append line (10 ∷ [])))

pub rest_of : (line behind rest : List ℕ) (len : ℕ) → rest ≡ line ++ 10 ∷ behind
    → len ≡ length line + 1 → behind ≡ take (length rest - len) (drop len rest)
rest_of line behind rest len is size =
    let back : drop len rest ≡ behind =
    ap (λ (l : List ℕ). drop len l) (is ∙ sym (append_assoc line (10 ∷ []) behind))
    ∙ drop_at (line ++ 10 ∷ []) behind len (omega (arith, size, length-append line (10 ∷ []))) in
    sym (ap (λ (l : List ℕ). take (length rest - len) l) back
    ∙ take_all (length rest - len) behind (omega (arith, ap length is, length-append line (10 ∷ behind), size)))

-- nothing is left
pub none_kept : (w : Records) (left : List (List ℕ)) (more : List Read) → Say left more → length more ≡ 0 → kept_lines w left more ≡ []
none_kept w [] more say none = refl
none_kept w (line ∷ left) [] say none = refl
none_kept w (line ∷ left) (r ∷ more) say none = absurd (omega (arith, none))

pub none_on_top : (top : Option ℕ) (w : Records) (more : List Read) (b : Bool) → length more ≡ 0 → top_after top w more b ≡ b
none_on_top top w [] b none = refl
none_on_top top w (r ∷ more) b none = absurd (omega (arith, none))

pub none_carried : (top : Option ℕ) (left : List (List ℕ)) (more : List Read) (c : Option (List ℕ))
    → length more ≡ 0 → carried_by top left more c ≡ c
none_carried top [] more c none = refl
none_carried top (line ∷ left) [] c none = refl
none_carried top (line ∷ left) (r ∷ more) c none = absurd (omega (arith, none))

abbrev front_of : (left : List (List ℕ)) (more : List Read) (tail rest : List ℕ)
    → rest ≡ text_of left ++ tail → Say left more → 0 < length more → Front rest
front_of [] [] tail rest is say some = absurd (omega (arith, some))
front_of [] (r ∷ more) tail rest is say some = absurd say
front_of (line ∷ left) [] tail rest is say some = absurd say
front_of (line ∷ left) (r ∷ more) tail rest is say some =
    record {
      line = line;
      behind = text_of left ++ tail;
      read = r;
      parts = is ∙ append_assoc line (10 ∷ text_of left) tail;
      free = say.1;
      says = say.2;
    }

pieces : (b : Bool) (t line : List ℕ) (kept : List (List ℕ))
    → (t ++ cond b (line ++ 10 ∷ []) []) ++ text_of kept ≡ t ++ text_of (cond b (line ∷ kept) kept)
pieces true t line kept =
    append_assoc t (line ++ 10 ∷ []) (text_of kept) ∙ ap (λ (l : List ℕ). t ++ l) (append_assoc line (10 ∷ []) (text_of kept))
pieces false t line kept = ap (λ (l : List ℕ). l ++ text_of kept) (append-nil t)

module _ (top : Option ℕ) (lines : List (List ℕ)) (read : List Read) (old now : Walk) (rest : List ℕ) (done count : ℕ) where
  pub at_end : GoesOn top lines read old now rest done count → done ≡ count → Walks top lines read old now
  at_end go is =
      let none : length go.more ≡ 0 = omega (arith, go.counts, is) in
      record {
        text = sym (append-nil now.text.items)
            ∙ ap (λ (l : List (List ℕ)). now.text.items ++ text_of l) (sym (none_kept now.waiting go.left go.more go.say none))
            ∙ go.text;
        has_top = sym (none_on_top top now.waiting go.more now.has_top none) ∙ go.has_top;
        carried = sym (none_carried top go.left go.more (carried_in now) none) ∙ go.carried;
      }

  abbrev pub front : GoesOn top lines read old now rest done count → done < count → Front rest
  front go is = front_of go.left go.more go.tail rest go.parts go.say (omega (arith, go.counts, is))

  stepped : (left : List (List ℕ)) (more : List Read) (tail : List ℕ)
      (is : rest ≡ text_of left ++ tail) (say : Say left more) (some : 0 < length more)
      → done + length more ≡ count
      → now.text.items ++ text_of (kept_lines now.waiting left more) ≡ old.text.items ++ text_of (kept_lines old.waiting lines read)
      → top_after top now.waiting more now.has_top ≡ top_after top old.waiting read old.has_top
      → carried_by top left more (carried_in now) ≡ carried_by top lines read (carried_in old)
      → (new : Walk) → Steps top (front_of left more tail rest is say some).line (front_of left more tail rest is say some).read now new
      → GoesOn top lines read old new (front_of left more tail rest is say some).behind (done + 1) count
  stepped [] [] tail is say some counts text has_top carried new s = absurd (omega (arith, some))
  stepped [] (r ∷ more) tail is say some counts text has_top carried new s = absurd say
  stepped (line ∷ left) [] tail is say some counts text has_top carried new s = absurd say
  stepped (line ∷ left) (r ∷ more) tail is say some counts text has_top carried new s = record {
    left = left;
    more = more;
    tail = tail;
    parts = refl;
    say = say.3;
    counts = omega (arith, counts);
    text =
        ap (λ (l : List ℕ). l ++ text_of (kept_lines new.waiting left more)) s.text
        ∙ ap (λ (w : Records).
        (now.text.items ++ cond (is_kept now.waiting r) (line ++ 10 ∷ []) []) ++ text_of (kept_lines w left more)) s.waiting
        ∙ pieces (is_kept now.waiting r) now.text.items line (kept_lines (waiting_after now.waiting r) left more)
        ∙ text;
    has_top =
        ap (λ (w : Records). top_after top w more new.has_top) s.waiting
        ∙ ap (λ (b : Bool). top_after top (waiting_after now.waiting r) more b) s.has_top
        ∙ has_top;
    carried = ap (λ (c : Option (List ℕ)). carried_by top left more c) s.carried ∙ carried;
  }

  pub step : (go : GoesOn top lines read old now rest done count) (is : done < count) (new : Walk)
      → Steps top (front go is).line (front go is).read now new
      → GoesOn top lines read old new (front go is).behind (done + 1) count
  step go is new s =
      stepped go.left go.more go.tail go.parts go.say (omega (arith, go.counts, is)) go.counts go.text go.has_top go.carried new s

pub of_pairs : (m n : ℕ) (r s : Read) → ◌≡◌ {A = Option (ℕ × Read)} (Some (m, r)) (Some (n, s)) → (m ≡ n) × (r ≡ s)
of_pairs m n r s is =
    let inner : ℕ × Read → Option (ℕ × Read) → ℕ × Read = λ d o. option_map_or (λ p. p) o d in
    let same = ap (inner (m, r)) is in
    (ap (λ (p : ℕ × Read). p.0) same, ap (λ (p : ℕ × Read). p.1) same)
