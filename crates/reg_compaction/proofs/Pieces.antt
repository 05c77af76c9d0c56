-- The pieces of a text, and their order.
use Rattle.std.proofs.Common.{◌≡◌, ◌<◌, ◌≤◌, ◌+◌, ◌-◌, ◌==◌, ℕ, suc, Bool, true, false, cond, List, [], ◌∷◌, ◌++◌, length, get_or, map}
use Rattle.std.proofs.Common.{take, drop, Option, Some, refl, sym, ap, subst, ◌∙◌, arith, append_assoc, append-nil, length-append}
use Rattle.std.proofs.lemmas.Bool.{false≢true}
use Rattle.std.proofs.lemmas.Bool.Decides.{nat_tests}
use Rattle.std.proofs.lemmas.List.{drop_at, get_or-map, map-append, take_all, take_at, take_more}
use Rattle.std.proofs.lemmas.List.Elements.{All-head, All-nil, All-push, All-tail}
use Rattle.std.proofs.lemmas.List.Sorted.{All-permutation, IsPermutation-map, IsPermutation-refl}
use Rattle.std.specs.List.{All}
use Rattle.std.specs.List.Sorted.{IsNonDecreasing, IsNonDecreasingBy, IsPermutation}
use Rattle.std.specs.Option.{option_map_or}
use Rattle.std.specs.Ordering.{is_le, nat_cmp}
use Rattle.std.specs.declared.cmp.Ordering.TheVariants.{Less, Equal, Greater}
use Rattle.std.specs.Prelude.{nat_lt}
use Rattle.reg_journal.specs.Lines.{Say, text_of}
use Rattle.reg_compaction.specs.Fronts.{Front}
use Rattle.reg_records.specs.Log.{offset_in}
use Rattle.reg_records.specs.declared.record.Read.{Read}
use Rattle.reg_compaction.specs.Sorted.{HasOffset, Reorders, read_of}
use Rattle.reg_compaction.specs.declared.sorting.Piece.{Piece}
use Rattle.reg_compaction.proofs.Orders.{said_by}

pub at_most : (m n : ℕ) → true ≡ is_le (nat_cmp m n) → m ≤ n
at_most m n is =
    elim (nat_lt m n) as (λ b. nat_lt m n ≡ b → true ≡ is_le (cond b Less (cond (m == n) Equal Greater)) → m ≤ n) [
      | true ↦ λ t is. let lt : m < n = grind (arith, nat_tests) in omega arith
      | false ↦ λ t is.
          elim (m == n) as (λ b. (m == n) ≡ b → true ≡ is_le (cond b Equal Greater) → m ≤ n) [
            | true ↦ λ e is. let same : m ≡ n = grind (arith, nat_tests) in omega arith
            | false ↦ λ e is. absurd (false≢true (sym is))
          ] refl is
    ] refl is

is_at_most : (m n : ℕ) → m ≤ n → is_le (nat_cmp m n) ≡ true
is_at_most m n h =
    elim (nat_lt m n) as (λ b. nat_lt m n ≡ b → is_le (cond b Less (cond (m == n) Equal Greater)) ≡ true) [
      | true ↦ λ t. refl
      | false ↦ λ t.
          let same : (m == n) ≡ true = grind (arith, nat_tests) in
          ap (λ (b : Bool). is_le (cond b Equal Greater)) same
    ] refl

-- where one falls below the one before it, they don't rise
pub falls : (ps : List Piece) (k : ℕ) → k + 1 < length ps
    → ((d : Piece) → false ≡ is_le (nat_cmp (get_or ps k d).offset (get_or ps (k + 1) d).offset))
    → IsNonDecreasingBy (λ (p : Piece). p.offset) ps → ⊥
falls [] k within fall up = absurd (omega (arith, within))
falls (p ∷ ps) k within fall up = false≢true (fall p ∙ is_at_most _ _ (up k (k + 1) p (omega arith) within))

-- the lines of some pieces
abbrev pub lines_of : List Piece → List (List ℕ)
lines_of ps = map (λ p. p.line.now) ps

abbrev offset_at : List ℕ → ℕ
offset_at line = offset_in (read_of line)

offsets_are : (ps : List Piece) → All HasOffset ps → map offset_at (lines_of ps) ≡ map (λ p. p.offset) ps
offsets_are [] all = refl
offsets_are (p ∷ ps) all =
    ap (λ (n : ℕ). n ∷ map offset_at (lines_of ps)) (sym (All-head HasOffset p ps all))
    ∙ ap (λ (l : List ℕ). p.offset ∷ l) (offsets_are ps (All-tail HasOffset p ps all))

as_many : (ps : List Piece) → length (map (λ (p : Piece). p.offset) ps) ≡ length ps
as_many [] = refl
as_many (p ∷ ps) = ap suc (as_many ps)

rising : (ps : List Piece) → IsNonDecreasingBy (λ (p : Piece). p.offset) ps → IsNonDecreasing (map (λ p. p.offset) ps)
rising [] up i j d le below = absurd (omega (arith, below))
rising (p ∷ ps) up i j d le below =
    let within : j < length (p ∷ ps) = omega (arith, below, as_many (p ∷ ps)) in
    let first = get_or-map (λ (p : Piece). p.offset) (p ∷ ps) i p d (omega (arith, within, le)) in
    let last = get_or-map (λ (p : Piece). p.offset) (p ∷ ps) j p d within in
    omega (arith, first, last, up i j p le within)

in_order : (ps : List Piece) → All HasOffset ps → IsNonDecreasingBy (λ (p : Piece). p.offset) ps
    → IsNonDecreasing (map offset_at (lines_of ps))
in_order ps all up = subst IsNonDecreasing (sym (offsets_are ps all)) (rising ps up)

-- pieces that stand in their order, and those that were put into it
pub stays : (front lines : List (List ℕ)) (text : List ℕ) (ps : List Piece) → text ≡ text_of (front ++ lines)
    → lines_of ps ≡ lines → All HasOffset ps → IsNonDecreasingBy (λ (p : Piece). p.offset) ps → Reorders front lines text
stays front lines text ps parts are all up = record {
  ordered = lines;
  same = IsPermutation-refl lines;
  parts = parts;
  sorted = subst (λ (l : List (List ℕ)). IsNonDecreasing (map offset_at l)) are (in_order ps all up);
}

pub moved : (front lines : List (List ℕ)) (text : List ℕ) (ps qs : List Piece) → text ≡ text_of (front ++ lines_of qs)
    → lines_of ps ≡ lines → All HasOffset ps → IsPermutation ps qs → IsNonDecreasingBy (λ (p : Piece). p.offset) qs
    → Reorders front lines text
moved front lines text ps qs parts are all same up = record {
  ordered = lines_of qs;
  same = subst (λ (l : List (List ℕ)). IsPermutation l (lines_of qs)) are (IsPermutation-map (λ (p : Piece). p.line.now) ps qs same);
  parts = parts;
  sorted = in_order qs (All-permutation HasOffset ps qs same all) up;
}

-- ---- a walk over the lines of a text

pub record GoesOn (lines : List (List ℕ)) (pieces : List Piece) (rest : List ℕ) (done count : ℕ) : Type 0 where
  pub left : List (List ℕ)
  pub more : List Read
  pub parts : rest ≡ text_of left
  pub say : Say left more
  pub few : done + length rest ≤ count
  pub joined : lines_of pieces ++ left ≡ lines
  pub offsets : All HasOffset pieces

empty_text : (left : List (List ℕ)) (rest : List ℕ) → rest ≡ text_of left → length rest ≡ 0 → left ≡ []
empty_text [] rest is none = refl
empty_text (line ∷ left) rest is none = absurd (omega (arith, ap length is, length-append line (10 ∷ text_of left), none))

all_of : (lines left : List (List ℕ)) (pieces : List Piece) → left ≡ [] → lines_of pieces ++ left ≡ lines → lines_of pieces ≡ lines
all_of lines left pieces none joined =
    sym (append-nil (lines_of pieces)) ∙ ap (λ (l : List (List ℕ)). lines_of pieces ++ l) (sym none) ∙ joined

pub begun : (lines : List (List ℕ)) (read : List Read) (pieces : List Piece) (text : List ℕ) (count : ℕ)
    → pieces ≡ [] → length text ≤ count → text ≡ text_of lines → Say lines read → GoesOn lines pieces text 0 count
begun lines read pieces text count none few parts say = record {
  left = lines;
  more = read;
  parts = parts;
  say = say;
  few = omega (arith, few);
  joined = ap (λ (ps : List Piece). lines_of ps ++ lines) none;
  offsets = subst (All HasOffset) (sym none) (All-nil HasOffset);
}

-- at the end of the text, or where no line is at its front
pub at_end : (lines : List (List ℕ)) (pieces : List Piece) (rest : List ℕ) (done count : ℕ)
    → GoesOn lines pieces rest done count → count ≤ done → (lines_of pieces ≡ lines) × All HasOffset pieces
at_end lines pieces rest done count go is =
    (all_of lines go.left pieces (empty_text go.left rest go.parts (omega (arith, go.few, is))) go.joined, go.offsets)

no_front : (left : List (List ℕ)) (more : List Read) (rest : List ℕ) → rest ≡ text_of left → Say left more → (Front rest → ⊥) → left ≡ []
no_front [] more rest is say none = refl
no_front (line ∷ left) [] rest is say none = absurd say
no_front (line ∷ left) (r ∷ more) rest is say none =
    absurd (none (record { line = line; behind = text_of left; read = r; parts = is; free = say.1; says = say.2 }))

pub at_none : (lines : List (List ℕ)) (pieces : List Piece) (rest : List ℕ) (done count : ℕ)
    → GoesOn lines pieces rest done count → (Front rest → ⊥) → (lines_of pieces ≡ lines) × All HasOffset pieces
at_none lines pieces rest done count go none =
    (all_of lines go.left pieces (no_front go.left go.more rest go.parts go.say none) go.joined, go.offsets)

-- one piece more: what `line_at` gave is the line at the front, and there is one
pub step : (lines : List (List ℕ)) (pieces new : List Piece) (rest : List ℕ) (done count len : ℕ) (read : Read) (p : Piece)
    → GoesOn lines pieces rest done count → 0 < length rest
    → ((f : Front rest) → (len ≡ length f.line + 1) × (read ≡ f.read))
    → new ≡ pieces ++ p ∷ [] → p.offset ≡ offset_in read → p.line.now ≡ take (len - 1) rest
    → GoesOn lines new (take (length rest - len) (drop len rest)) (done + 1) count
step lines pieces new rest done count len read p go some found now offset line = stepped go.left go.more go.parts go.say go.joined
  where
    stepped : (left : List (List ℕ)) (more : List Read) → rest ≡ text_of left → Say left more
        → lines_of pieces ++ left ≡ lines → GoesOn lines new (take (length rest - len) (drop len rest)) (done + 1) count
    stepped [] more parts say joined = absurd (omega (arith, ap length parts, some))
    stepped (l ∷ left) [] parts say joined = absurd say
    stepped (l ∷ left) (r ∷ more) parts say joined =
        let f : Front rest = record { line = l; behind = text_of left; read = r; parts = parts; free = say.1; says = say.2 } in
        let is = found f in
        let size = ap length parts ∙ length-append l (10 ∷ text_of left) in
        let behind : drop len rest ≡ text_of left =
        ap (λ (t : List ℕ). drop len t) (parts ∙ sym (append_assoc l (10 ∷ []) (text_of left)))
        ∙ drop_at (l ++ 10 ∷ []) (text_of left) len (omega (arith, is.0, length-append l (10 ∷ []))) in
        let all : take (length rest - len) (drop len rest) ≡ text_of left =
        ap (λ (t : List ℕ). take (length rest - len) t) behind ∙ take_all (length rest - len) (text_of left) (omega (arith, size, is.0)) in
        let at : p.line.now ≡ l =
        line ∙ ap (λ (t : List ℕ). take (len - 1) t) parts ∙ take_at l (10 ∷ text_of left) (len - 1) (omega (arith, is.0)) in
        record {
          left = left;
          more = more;
          parts = all;
          say = say.3;
          few = omega (arith, go.few, ap length all, size);
          joined =
              ap (λ (ps : List Piece). lines_of ps ++ left) now
              ∙ ap (λ (ls : List (List ℕ)). ls ++ left) (map-append (λ (p : Piece). p.line.now) pieces (p ∷ []))
              ∙ append_assoc (lines_of pieces) (p.line.now ∷ []) left
              ∙ ap (λ (t : List ℕ). lines_of pieces ++ t ∷ left) at
              ∙ joined;
          offsets = subst (All HasOffset) (sym now)
              (All-push HasOffset pieces p go.offsets (offset ∙ ap offset_in (is.1 ∙ sym (said_by l r say.2) ∙ ap read_of (sym at))));
        }

-- one line more
pub text_push : (lines : List (List ℕ)) (line : List ℕ) → text_of (lines ++ line ∷ []) ≡ text_of lines ++ (line ++ 10 ∷ [])
text_push [] line = refl
text_push (l ∷ lines) line =
    ap (λ (t : List ℕ). l ++ 10 ∷ t) (text_push lines line) ∙ sym (append_assoc l (10 ∷ text_of lines) (line ++ 10 ∷ []))

pub joined_more : (front : List ℕ) (ps : List Piece) (i : ℕ) (d : Piece) (old longer new : List ℕ) → i < length ps
    → old ≡ front ++ text_of (lines_of (take i ps)) → longer ≡ old ++ (get_or ps i d).line.now → new ≡ longer ++ 10 ∷ []
    → new ≡ front ++ text_of (lines_of (take (i + 1) ps))
joined_more front ps i d old longer new within was line ends =
    let p : Piece = get_or ps i d in
    ends
    ∙ ap (λ (t : List ℕ). t ++ 10 ∷ []) line
    ∙ append_assoc old p.line.now (10 ∷ [])
    ∙ ap (λ (t : List ℕ). t ++ (p.line.now ++ 10 ∷ [])) was
    ∙ append_assoc front (text_of (lines_of (take i ps))) (p.line.now ++ 10 ∷ [])
    ∙ ap (λ (t : List ℕ). front ++ t)
    (sym (text_push (lines_of (take i ps)) p.line.now)
    ∙ ap text_of (sym (map-append (λ (p : Piece). p.line.now) (take i ps) (p ∷ [])))
    ∙ ap (λ (l : List Piece). text_of (lines_of l)) (sym (take_more ps i d within)))

pub of_pairs : (m n : ℕ) (r s : Read) → ◌≡◌ {A = Option (ℕ × Read)} (Some (m, r)) (Some (n, s)) → (m ≡ n) × (r ≡ s)
of_pairs m n r s is =
    let inner : ℕ × Read → Option (ℕ × Read) → ℕ × Read = λ d o. option_map_or (λ p. p) o d in
    let same = ap (inner (m, r)) is in
    (ap (λ (p : ℕ × Read). p.0) same, ap (λ (p : ℕ × Read). p.1) same)
