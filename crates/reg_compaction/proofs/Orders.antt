-- What stays the same when lines are put into another order.
use Rattle.std.proofs.Common.{◌≡◌, ◌<◌, ◌+◌, ℕ, suc, max, Bool, true, false, ◌||◌, List, [], ◌∷◌, ◌++◌, length}
use Rattle.std.proofs.Common.{map, Option, Some, None, Ok, refl, sym, ap, subst, ◌∙◌, arith, length-append}
use Rattle.std.proofs.lemmas.Bool.Decides.{nat_tests}
use Rattle.std.proofs.lemmas.List.Elements.{All-cons, All-head, All-nil, All-tail}
use Rattle.std.proofs.lemmas.List.Sorted.{All-permutation, length_permutation, list_any-IsPermutation, sum_by-IsPermutation}
use Rattle.std.proofs.lemmas.List.Sums.{sum_by-cons}
use Rattle.std.specs.Cmp.{IsTotalOrder}
use Rattle.std.specs.FinSet.{IsAntisymmetric, contains-from_list, from_list, same_set}
use Rattle.std.specs.List.{All, cons_option, fold, list_any, sum_by}
use Rattle.std.specs.List.Sorted.{IsNonDecreasing, IsPermutation}
use Rattle.std.specs.Option.{option_map_or}
use Rattle.std.specs.Ordering.{eq_by_cmp}
use Rattle.std.specs.Prelude.{nat_lt}
use Rattle.std.specs.Result.{result_unwrap_or}
use Rattle.std.specs.declared.result.Result.{Result}
use Rattle.reg_journal.specs.Lines.{LinesAreRead, Say, SayLog, text_of}
use Rattle.reg_records.specs.Line.{reading}
use Rattle.reg_records.specs.Log.{LogText, log_of, next_after, next_of, offset_in, record_in, records_in}
use Rattle.reg_records.specs.Pieces.{HasNoLineFeed}
use Rattle.reg_records.specs.declared.line.LineError.{LineError}
use Rattle.reg_records.specs.declared.log.LogFault.{LogFault}
use Rattle.reg_records.specs.declared.record.Read.{Read}
use Rattle.reg_records.specs.declared.record.Read.TheVariants as reads
use Rattle.reg_records.specs.declared.record.Record.{Record}
use Rattle.reg_set.specs.RecordOrder.{record_cmp}
use Rattle.reg_compaction.specs.Compacted.{IsCompacted, IsLines}
use Rattle.reg_compaction.specs.CompactedTo.{IsCompactedTo}
use Rattle.reg_compaction.specs.Sorted.{IsSortedCompaction, IsSortedCompactionTo, Reorders, read_of}
use Rattle.reg_compaction.proofs.Fronts.{text_of-append}

-- a line that says something
abbrev pub IsLine : List ℕ → Type 0
IsLine line = (0 < length line) × HasNoLineFeed line × (reading line ≡ Ok (read_of line))

pub said_by : (line : List ℕ) (r : Read) → reading line ≡ Ok r → read_of line ≡ r
said_by line r says = ap (λ (x : Result Read LineError). result_unwrap_or x (reads.Foreign 0)) says

pub all_say : (lines : List (List ℕ)) (read : List Read) → Say lines read → All IsLine lines × (read ≡ map read_of lines)
all_say [] [] say = (All-nil IsLine, refl)
all_say [] (r ∷ read) say = absurd say
all_say (line ∷ lines) [] say = absurd say
all_say (line ∷ lines) (r ∷ read) say =
    let rest = all_say lines read say.3 in
    let is = said_by line r say.2 in (
      All-cons IsLine line lines (say.0, say.1, say.2 ∙ ap Ok (sym is)) rest.0,
      ap (λ (x : Read). x ∷ read) (sym is) ∙ ap (λ (l : List Read). read_of line ∷ l) rest.1,
    )

pub say_all : (lines : List (List ℕ)) → All IsLine lines → Say lines (map read_of lines)
say_all [] all = tt
say_all (line ∷ lines) all =
    let is = All-head IsLine line lines all in
    (is.0, is.1, is.2, say_all lines (All-tail IsLine line lines all))

size_of : (lines : List (List ℕ)) → length (text_of lines) ≡ sum_by (λ l. length l + 1) lines
size_of [] = refl
size_of (line ∷ lines) =
    omega (arith, length-append line (10 ∷ text_of lines), size_of lines, sum_by-cons (λ (l : List ℕ). length l + 1) line lines)

same_size : (xs ys : List (List ℕ)) → IsPermutation xs ys → length (text_of ys) ≡ length (text_of xs)
same_size xs ys p = size_of ys ∙ sum_by-IsPermutation (λ (l : List ℕ). length l + 1) xs ys p ∙ sym (size_of xs)

-- ---- the records

module _ (test : Record → Bool) where
  one_passes : (o : Option Record) (rs : List Record) → list_any test (cons_option o rs) ≡ (option_map_or test o false || list_any test rs)
  one_passes None rs = refl
  one_passes (Some r) rs = refl

  passes : (lines : List (List ℕ))
      → list_any test (records_in (map read_of lines)) ≡ list_any (λ line. option_map_or test (record_in (read_of line)) false) lines
  passes [] = refl
  passes (line ∷ lines) =
      one_passes (record_in (read_of line)) (records_in (map read_of lines))
      ∙ ap (λ (b : Bool). option_map_or test (record_in (read_of line)) false || b) (passes lines)

same_records : IsTotalOrder record_cmp → IsAntisymmetric record_cmp → (xs ys : List (List ℕ)) → IsPermutation xs ys
    → from_list {R = record_cmp} (records_in (map read_of ys)) ≡ from_list (records_in (map read_of xs))
same_records total apart xs ys p =
    same_set total apart _ _
    (λ q. contains-from_list total (records_in (map read_of ys)) q
    ∙ passes (eq_by_cmp record_cmp q) ys
    ∙ sym (list_any-IsPermutation (λ line. option_map_or (eq_by_cmp record_cmp q) (record_in (read_of line)) false) xs ys p)
    ∙ sym (passes (eq_by_cmp record_cmp q) xs)
    ∙ sym (contains-from_list total (records_in (map read_of xs)) q))

-- ---- the next offset

either : (k a b : ℕ) → nat_lt k (max a b) ≡ (nat_lt k a || nat_lt k b)
either k a b = grind (arith, nat_tests)

or_assoc : (a b c : Bool) → ((a || b) || c) ≡ (a || (b || c))
or_assoc true b c = refl
or_assoc false b c = refl

next_above : (k next : ℕ) (lines : List (List ℕ))
    → nat_lt k (fold (λ n r. max n (suc (offset_in r))) next (map read_of lines))
    ≡ (nat_lt k next || list_any (λ line. nat_lt k (suc (offset_in (read_of line)))) lines)
next_above k next [] = or_false (nat_lt k next)
  where
    or_false : (b : Bool) → b ≡ (b || false)
    or_false true = refl
    or_false false = refl
next_above k next (line ∷ lines) =
    let s : ℕ = suc (offset_in (read_of line)) in
    next_above k (max next s) lines
    ∙ ap (λ (b : Bool). b || list_any (λ line. nat_lt k (suc (offset_in (read_of line)))) lines) (either k next s)
    ∙ or_assoc (nat_lt k next) (nat_lt k s) (list_any (λ line. nat_lt k (suc (offset_in (read_of line)))) lines)

same_numbers : (a b : ℕ) → ((k : ℕ) → nat_lt k a ≡ nat_lt k b) → a ≡ b
same_numbers a b same = let h = same a in let g = same b in grind (arith, nat_tests)

same_next : (xs ys : List (List ℕ)) → IsPermutation xs ys → next_after (map read_of ys) ≡ next_after (map read_of xs)
same_next xs ys p =
    same_numbers _ _
    (λ k. next_above k 0 ys
    ∙ ap (λ (b : Bool). nat_lt k 0 || b) (sym (list_any-IsPermutation (λ line. nat_lt k (suc (offset_in (read_of line)))) xs ys p))
    ∙ sym (next_above k 0 xs))

map_map : (f : Read → ℕ) (lines : List (List ℕ)) → map f (map read_of lines) ≡ map (λ line. f (read_of line)) lines
map_map f [] = refl
map_map f (line ∷ lines) = ap (λ (l : List ℕ). f (read_of line) ∷ l) (map_map f lines)

same_log : (a b : LogText) → ◌≡◌ {A = Result LogText (ℕ × LogFault)} (Ok a) (Ok b) → a ≡ b
same_log a b same = ap (λ (r : Result LogText (ℕ × LogFault)). result_unwrap_or r a) same

-- what a log's text says whose lines stand in another order behind a floor's
record SaysTheSame (out : LogText) (text output : List ℕ) : Type 0 where
  now : LogText
  read_back : log_of output ≡ Ok now
  whole : now.rest ≡ []
  floor : now.floor ≡ out.floor
  records : from_list {R = record_cmp} (records_in now.reads) ≡ from_list (records_in out.reads)
  next : next_of now.floor now.reads ≡ next_of out.floor out.reads
  size : length output ≡ length text
  sorted : IsNonDecreasing (map offset_in now.reads)

says_the_same : IsTotalOrder record_cmp → IsAntisymmetric record_cmp → LinesAreRead
    → (out : LogText) (text output : List ℕ) → log_of text ≡ Ok out → (l : IsLines text)
    → Reorders l.say.front l.say.others output → SaysTheSame out text output
says_the_same total apart law out text output is l r =
    let s = l.say in
    let said = all_say s.others l.read s.say in
    let ordered = All-permutation IsLine s.others r.ordered r.same said.0 in
    let read : List Read = map read_of r.ordered in
    let lines : List (List ℕ) = s.front ++ r.ordered in
    let says : SayLog lines l.floor read =
    record { front = s.front; others = r.ordered; parts = refl; floor = s.floor; say = say_all r.ordered ordered } in
    let count : length lines ≡ length l.lines =
    omega (
      arith,
      length-append s.front r.ordered,
      length-append s.front s.others,
      ap length s.parts,
      length_permutation s.others r.ordered r.same,
    ) in
    let was : out ≡ record { floor = l.floor; reads = l.read; rest = [] } =
    same_log out (record { floor = l.floor; reads = l.read; rest = [] })
    (sym is ∙ ap log_of l.parts ∙ law l.lines l.floor l.read l.say l.few) in
    let back : out.reads ≡ map read_of s.others = ap (λ (o : LogText). o.reads) was ∙ said.1 in
    let floor : out.floor ≡ l.floor = ap (λ (o : LogText). o.floor) was in
    record {
      now = record { floor = l.floor; reads = read; rest = [] };
      read_back = ap log_of r.parts ∙ law lines l.floor read says (omega (arith, count, l.few));
      whole = refl;
      floor = sym floor;
      records = same_records total apart s.others r.ordered r.same ∙ ap (λ (x : List Read). from_list (records_in x)) (sym back);
      next = ap (λ (n : ℕ). max l.floor n) (same_next s.others r.ordered r.same ∙ ap next_after (sym back))
          ∙ ap (λ (f : ℕ). next_of f out.reads) (sym floor);
      size = omega (
        arith,
        ap length r.parts,
        ap length (text_of-append s.front r.ordered),
        length-append (text_of s.front) (text_of r.ordered),
        same_size s.others r.ordered r.same,
        ap length l.parts,
        ap (λ (ls : List (List ℕ)). length (text_of ls)) s.parts,
        ap length (text_of-append s.front s.others),
        length-append (text_of s.front) (text_of s.others),
      );
      sorted = subst IsNonDecreasing (sym (map_map offset_in r.ordered)) r.sorted;
    }

-- a compaction whose lines stand in another order is one
pub sorted_compaction : IsTotalOrder record_cmp → IsAntisymmetric record_cmp → LinesAreRead
    → (input text output : List ℕ) (is : IsCompacted input text) (l : IsLines text)
    → Reorders l.say.front l.say.others output → IsSortedCompaction input output
sorted_compaction total apart law input text output is l r =
    let it = says_the_same total apart law is.out text output is.read_back l r in
    record {
      compacted = record {
        log = is.log;
        read = is.read;
        out = it.now;
        read_back = it.read_back;
        whole = it.whole;
        floor = it.floor ∙ is.floor;
        lasts = it.records ∙ is.lasts;
        next = it.next ∙ is.next;
        small = omega (arith, it.size, is.small);
      };
      sorted = it.sorted;
    }

pub sorted_compaction_to : IsTotalOrder record_cmp → IsAntisymmetric record_cmp → LinesAreRead
    → (given : ℕ) (input text output : List ℕ) (is : IsCompactedTo given input text) (l : IsLines text)
    → Reorders l.say.front l.say.others output → IsSortedCompactionTo given input output
sorted_compaction_to total apart law given input text output is l r =
    let it = says_the_same total apart law is.out text output is.read_back l r in
    record {
      compacted = record {
        log = is.log;
        read = is.read;
        rises = is.rises;
        within = is.within;
        out = it.now;
        read_back = it.read_back;
        whole = it.whole;
        floor = it.floor ∙ is.floor;
        lasts = it.records ∙ is.lasts;
        next = it.next ∙ is.next;
        small = omega (arith, it.size, is.small);
      };
      sorted = it.sorted;
    }
