-- The compact text of a value that was read, and has no float, reads as that value.
use Rattle.std.proofs.Common.{◌≡◌, inl, inr, ◌⊎◌, ℕ, zero, suc, max, ◌<◌, ◌≤◌, ◌^◌, ◌==◌, pos, negsuc, List, []}
use Rattle.std.proofs.Common.{Bool, true, false, Float, ◌&&◌, cond, nat_lt, nat_le, Option, Some, None, option_map}
use Rattle.std.proofs.Common.{option_and_then, refl, sym, ap, ap₂, ◌∙◌, subst, arith, append-nil}
use Rattle.std.proofs.Common.{slice_index, drop}
use Rattle.std.proofs.Math.IntN.{neg_ℤ}
use Rattle.std.specs.Float.Numeral.{minus, Parts, scan_numeral, numeral_digits, nearest_float}
use Rattle.std.specs.Float.{binary64, float_is_finite}
use Rattle.std.specs.Ordering.{nat_cmp, ordering_reverse, match_ordering}
use Rattle.std.specs.declared.cmp.Ordering.{Ordering}
use Rattle.std.specs.declared.cmp.Ordering.TheVariants.{Less, Equal, Greater}
use Rattle.std.specs.Cmp.Lexicographic.{slice_cmp}
use Rattle.std.proofs.lemmas.Cmp.{nat_list_cmp_total}
use Rattle.std.proofs.lemmas.Bool.{ltb-true, leb-true, or_parts}
use Rattle.json.specs.Json as json
use Rattle.json.specs.Token.{Token}
use Rattle.json.specs.Lex.{tokens}
use Rattle.json.specs.Print.{IsNumber}
use Rattle.json.specs.Tree.{json_tokens, HasNumbers, ItemsHaveNumbers, MembersHaveNumbers}
use Rattle.json.specs.Tree as tree
use Rattle.json.proofs.Printed.Decimals.{IsNumber-decimal, IsNumber-signed_decimal}
use Rattle.json.proofs.Printed.Tokens.{tokens-print}
use Rattle.json.proofs.Printed.Trees.{value-json_tokens, ArePrintable-json_tokens}
use Rattle.serde_json.specs.Data.{Num, unsigned, negative, float, Data, null, boolean, number, string, array, object, Items}
use Rattle.serde_json.specs.Data.{no_items, item, Members, no_members, member, put, depth, items_depth, members_depth}
use Rattle.serde_json.specs.Find.{is_float}
use Rattle.serde_json.specs.Read.{is_integer, number_from, number_of, of_json, of_items, of_members, max_depth, read}
use Rattle.serde_json.specs.Written.{number_text, outline, items_outline, members_outline}
use Rattle.serde_json.specs.Written.{has_float, items_have_float}
use Rattle.serde_json.specs.Written.{members_have_float, compact_text}
use Rattle.serde_json.proofs.Nesting.{depth-read}
use Rattle.serde_json.proofs.Numbers.{number_of-decimal, number_of-negative}
use Rattle.serde_json.proofs.Texts.{print-outline}
use Rattle.json_tree.specs.Members.{IsBelow, IsInOrder}
use Rattle.avro_schema.specs.Plain.{Fits, IsOrderly, ItemsAreOrderly, MembersAreOrderly, IsPlain}
use Rattle.avro_schema.proofs.Types.{and_parts}

-- ---- what an option was made of

map_some : {A B : Type 0} (f : A → B) (o : Option A) (y : B) → option_map f o ≡ Some y → (x : A) × (o ≡ Some x) × (f x ≡ y)
map_some f None y e = cc
map_some f (Some x) y e = (x, refl, cc)

then_some : {A B : Type 0} (f : A → Option B) (o : Option A) (y : B)
    → option_and_then f o ≡ Some y → (x : A) × (o ≡ Some x) × (f x ≡ Some y)
then_some f None y e = cc
then_some f (Some x) y e = (x, refl, e)

by_test : (b : Bool) (x : Num) (o : Option Num) (n : Num) → cond b (Some x) o ≡ Some n → ((b ≡ true) × (x ≡ n)) ⊎ (o ≡ Some n)
by_test true x o n e = inl (refl, cc)
by_test false x o n e = inr e

-- ---- members in order

by_ordering : (P : Members → Type 0) (o : Ordering) (x y z : Members) → P x → P y → P z → P (match_ordering o x y z)
by_ordering P Less x y z a b c = a
by_ordering P Equal x y z a b c = b
by_ordering P Greater x y z a b c = c

IsBelow-trans : (k l : List ℕ) (ms : Members) → slice_cmp nat_cmp k l ≡ Less → IsBelow l ms → IsBelow k ms
IsBelow-trans k l no_members e a = tt
IsBelow-trans k l (member m d ms) e a = (nat_list_cmp_total.trans k l m e a.0, IsBelow-trans k l ms e a.1)

IsBelow-put : (l k : List ℕ) (d : Data) (ms : Members) → slice_cmp nat_cmp l k ≡ Less → IsBelow l ms → IsBelow l (put k d ms)
IsBelow-put l k d no_members e a = (e, tt)
IsBelow-put l k d (member m c ms) e a =
    by_ordering (IsBelow l) (slice_cmp nat_cmp k m) (member k d (member m c ms))
    (member m d ms) (member m c (put k d ms)) (e, a) a (a.0, IsBelow-put l k d ms e a.1)

turned : (k l : List ℕ) → slice_cmp nat_cmp k l ≡ Greater → slice_cmp nat_cmp l k ≡ Less
turned k l e = nat_list_cmp_total.antisymm l k ∙ ap ordering_reverse e

IsInOrder-put : (k : List ℕ) (d : Data) (ms : Members) → IsInOrder ms → IsInOrder (put k d ms)
IsInOrder-put k d no_members a = (tt, tt)
IsInOrder-put k d (member m c ms) a = go (slice_cmp nat_cmp k m) refl (IsInOrder-put k d ms a.1)
  where
    go : (o : Ordering) → slice_cmp nat_cmp k m ≡ o → IsInOrder (put k d ms)
        → IsInOrder (match_ordering o (member k d (member m c ms)) (member m d ms) (member m c (put k d ms)))
    go Less e rest = ((e, IsBelow-trans k m ms e a.0), a)
    go Equal e rest = a
    go Greater e rest = (IsBelow-put m k d ms (turned k m e) a.0, rest)

-- ---- what values that were read are

MembersAreOrderly-put : (k : List ℕ) (d : Data) (ms : Members) → IsOrderly d → MembersAreOrderly ms → MembersAreOrderly (put k d ms)
MembersAreOrderly-put k d no_members here a = (here, tt)
MembersAreOrderly-put k d (member m c ms) here a =
    by_ordering MembersAreOrderly (slice_cmp nat_cmp k m) (member k d (member m c ms)) (member m d ms)
    (member m c (put k d ms)) (here, a) (here, a.1) (a.0, MembersAreOrderly-put k d ms here a.1)

fits_negative : (n : ℕ) → 0 < n → n ≤ 2 ^ 63 → Fits (negative (neg_ℤ (pos n)))
fits_negative zero some h = absurd (omega arith)
fits_negative (suc n) some h = omega arith

fits_float : (f : Bool) (x : Float) (n : Num) → cond f (Some (float x)) None ≡ Some n → Fits n
fits_float f x n e =
    elim (by_test f (float x) None n e) [
      | inl whole ↦ subst Fits whole.1 tt
      | inr never ↦ cc
    ]

fits_unsigned : (i : Bool) (k : ℕ) (f : Bool) (x : Float) (n : Num)
    → cond (i && nat_lt k (2 ^ 64)) (Some (unsigned k)) (cond f (Some (float x)) None) ≡ Some n → Fits n
fits_unsigned i k f x n e =
    elim (by_test (i && nat_lt k (2 ^ 64)) (unsigned k) (cond f (Some (float x)) None) n e) [
      | inl whole ↦ subst Fits whole.1 (ltb-true k (2 ^ 64) (and_parts i _ whole.0).1)
      | inr rest ↦ fits_float f x n rest
    ]

fits_signed : (i : Bool) (k : ℕ) (f : Bool) (x : Float) (n : Num)
    → cond (i && nat_lt 0 k && nat_le k (2 ^ 63)) (Some (negative (neg_ℤ (pos k)))) (cond f (Some (float x)) None) ≡ Some n → Fits n
fits_signed i k f x n e =
    elim (by_test (i && nat_lt 0 k && nat_le k (2 ^ 63)) (negative (neg_ℤ (pos k))) (cond f (Some (float x)) None) n e) [
      | inl whole ↦
          let both : (i && nat_lt 0 k ≡ true) × (nat_le k (2 ^ 63) ≡ true) = and_parts (i && nat_lt 0 k) _ whole.0 in
          subst Fits whole.1 (fits_negative k (ltb-true 0 k (and_parts i _ both.0).1) (leb-true k (2 ^ 63) both.1))
      | inr rest ↦ fits_float f x n rest
    ]

fits_by : (b : Bool) (p q : Parts) (n : Num) → cond b (number_from true p) (number_from false q) ≡ Some n → Fits n
fits_by true p q n e =
    let x : Float = nearest_float binary64 true p in fits_signed (is_integer p) (numeral_digits p) (float_is_finite x) x n e
fits_by false p q n e =
    let x : Float = nearest_float binary64 false q in fits_unsigned (is_integer q) (numeral_digits q) (float_is_finite x) x n e

fits : (s : List ℕ) (n : Num) → number_of s ≡ Some n → Fits n
unfolding number_of
fits s n e = fits_by (slice_index s 0 == minus) (scan_numeral (drop 1 s)) (scan_numeral s) n e

mutual
  read_value : (j : json.Json) (d : Data) → of_json j ≡ Some d → IsOrderly d
  read_value json.null d e = let same : null ≡ d = cc in subst IsOrderly same tt
  read_value (json.boolean b) d e = let same : boolean b ≡ d = cc in subst IsOrderly same tt
  read_value (json.number s) d e = let n = map_some number (number_of s) d e in subst IsOrderly n.2 (fits s n.0 n.1)
  read_value (json.string s) d e = let same : string s ≡ d = cc in subst IsOrderly same tt
  read_value (json.array js) d e = let ds = map_some array (of_items js) d e in subst IsOrderly ds.2 (read_items js ds.0 ds.1)
  read_value (json.object ms) d e =
      let ds = map_some object (of_members ms no_members) d e in subst IsOrderly ds.2 (read_members ms no_members ds.0 tt tt ds.1)

  read_items : (js : json.Items) (ds : Items) → of_items js ≡ Some ds → ItemsAreOrderly ds
  read_items json.no_items ds e = let same : no_items ≡ ds = cc in subst ItemsAreOrderly same tt
  read_items (json.item j js) ds e =
      let first = then_some (λ d. option_map (item d) (of_items js)) (of_json j) ds e in
      let rest = map_some (item first.0) (of_items js) ds first.2 in
      subst ItemsAreOrderly rest.2 (read_value j first.0 first.1, read_items js rest.0 rest.1)

  read_members : (ms : json.Members) (found ds : Members) → IsInOrder found
      → MembersAreOrderly found → of_members ms found ≡ Some ds → IsInOrder ds × MembersAreOrderly ds
  read_members json.no_members found ds rising a e =
      let same : found ≡ ds = cc in (subst IsInOrder same rising, subst MembersAreOrderly same a)
  read_members (json.member k j ms) found ds rising a e =
      let first = then_some (λ d. of_members ms (put k d found)) (of_json j) ds e in
      read_members ms (put k first.0 found) ds (IsInOrder-put k first.0 found rising)
      (MembersAreOrderly-put k first.0 found (read_value j first.0 first.1) a) first.2

-- ---- what is written reads back

abbrev after : Members → Members → Members
after no_members ms = ms
after (member k d done) ms = member k d (after done ms)

after_none : (done : Members) → after done no_members ≡ done
after_none no_members = refl
after_none (member k d done) = ap (member k d) (after_none done)

after_one : (done : Members) (k : List ℕ) (d : Data) (ms : Members)
    → after (after done (member k d no_members)) ms ≡ after done (member k d ms)
after_one no_members k d ms = refl
after_one (member l c done) k d ms = ap (member l c) (after_one done k d ms)

above_middle : (l : List ℕ) (done : Members) (k : List ℕ) (d : Data) (ms : Members)
    → IsBelow l (after done (member k d ms)) → slice_cmp nat_cmp l k ≡ Less
above_middle l no_members k d ms a = a.0
above_middle l (member m c done) k d ms a = above_middle l done k d ms a.1

put_last : (done : Members) (k : List ℕ) (d : Data) (ms : Members)
    → IsInOrder (after done (member k d ms)) → put k d done ≡ after done (member k d no_members)
put_last no_members k d ms a = refl
put_last (member l c done) k d ms a =
    let greater : slice_cmp nat_cmp k l ≡ Greater =
    nat_list_cmp_total.antisymm k l ∙ ap ordering_reverse (above_middle l done k d ms a.0) in
    rw greater (ap (member l c) (put_last done k d ms a.1))

number_back : (n : Num) → Fits n → is_float n ≡ false → number_of (number_text n) ≡ Some n
number_back (unsigned n) h e = number_of-decimal n h
number_back (negative (pos n)) h e = absurd h
number_back (negative (negsuc n)) h e = number_of-negative n h
number_back (float x) h e = cc

number_printed : (n : Num) → Fits n → is_float n ≡ false → IsNumber (number_text n)
number_printed (unsigned n) h e = IsNumber-decimal n h
number_printed (negative (pos n)) h e = absurd h
number_printed (negative (negsuc n)) h e = IsNumber-signed_decimal (negsuc n) (omega arith)
number_printed (float x) h e = cc

mutual
  value_back : (d : Data) → IsOrderly d → has_float d ≡ false → of_json (outline d) ≡ Some d
  value_back null a e = refl
  value_back (boolean b) a e = refl
  value_back (number n) a e = ap (option_map number) (number_back n a e)
  value_back (string s) a e = refl
  value_back (array ds) a e = ap (option_map array) (items_back ds a e)
  value_back (object ms) a e = ap (option_map object) (members_back no_members ms a.0 a.1 e)

  items_back : (ds : Items) → ItemsAreOrderly ds → items_have_float ds ≡ false → of_items (items_outline ds) ≡ Some ds
  items_back no_items a e = refl
  items_back (item d ds) a e =
      let both = or_parts (has_float d) _ e in
      ap (option_and_then (λ c. option_map (item c) (of_items (items_outline ds)))) (value_back d a.0 both.0)
      ∙ ap (option_map (item d)) (items_back ds a.1 both.1)

  members_back : (done ms : Members) → IsInOrder (after done ms) → MembersAreOrderly ms
      → members_have_float ms ≡ false → of_members (members_outline ms) done ≡ Some (after done ms)
  members_back done no_members rising a e = ap Some (sym (after_none done))
  members_back done (member k d ms) rising a e =
      let both = or_parts (has_float d) _ e in
      let next = after done (member k d no_members) in
      ap (option_and_then (λ c. of_members (members_outline ms) (put k c done))) (value_back d a.0 both.0)
      ∙ ap (of_members (members_outline ms)) (put_last done k d ms rising)
      ∙ members_back next ms (subst IsInOrder (sym (after_one done k d ms)) rising) a.1 both.1
      ∙ ap Some (after_one done k d ms)

mutual
  numbers_printed : (d : Data) → IsOrderly d → has_float d ≡ false → HasNumbers (outline d)
  numbers_printed null a e = tt
  numbers_printed (boolean b) a e = tt
  numbers_printed (number n) a e = number_printed n a e
  numbers_printed (string s) a e = tt
  numbers_printed (array ds) a e = items_printed ds a e
  numbers_printed (object ms) a e = members_printed ms a.1 e

  items_printed : (ds : Items) → ItemsAreOrderly ds → items_have_float ds ≡ false → ItemsHaveNumbers (items_outline ds)
  items_printed no_items a e = tt
  items_printed (item d ds) a e = let both = or_parts (has_float d) _ e in (numbers_printed d a.0 both.0, items_printed ds a.1 both.1)

  members_printed : (ms : Members) → MembersAreOrderly ms → members_have_float ms ≡ false → MembersHaveNumbers (members_outline ms)
  members_printed no_members a e = tt
  members_printed (member k d ms) a e =
      let both = or_parts (has_float d) _ e in (numbers_printed d a.0 both.0, members_printed ms a.1 both.1)

mutual
  depth-outline : (d : Data) → tree.depth (outline d) ≡ depth d
  depth-outline null = refl
  depth-outline (boolean b) = refl
  depth-outline (number n) = refl
  depth-outline (string s) = refl
  depth-outline (array ds) = ap suc (depth-items_outline ds)
  depth-outline (object ms) = ap suc (depth-members_outline ms)

  depth-items_outline : (ds : Items) → tree.items_depth (items_outline ds) ≡ items_depth ds
  depth-items_outline no_items = refl
  depth-items_outline (item d ds) = ap₂ max (depth-outline d) (depth-items_outline ds)

  depth-members_outline : (ms : Members) → tree.members_depth (members_outline ms) ≡ members_depth ms
  depth-members_outline no_members = refl
  depth-members_outline (member k d ms) = ap₂ max (depth-outline d) (depth-members_outline ms)

abbrev whole : Option (json.Json × List Token) → Option Data
whole o = option_and_then of_json (option_and_then (λ p. json.if_last p.0 p.1) o)

read_data : (text : List ℕ) (d : Data) → read text ≡ Some d → IsOrderly d
read_data text d e =
    let j = then_some of_json (option_and_then (λ p. json.if_last p.0 p.1) (json.value max_depth (tokens text))) d e in read_value j.0 d j.2

-- what was read, with no float, is plain
pub read_plain : (text : List ℕ) (d : Data) → read text ≡ Some d → has_float d ≡ false → IsPlain d
read_plain text d e none = (none, read_data text d e, depth-read text d e)

pub plain_reads_back : (d : Data) → IsPlain d → read (compact_text d) ≡ Some d
plain_reads_back d plain =
    let j = outline d in
    let same : tokens (compact_text d) ≡ json_tokens j =
    ap tokens (sym (print-outline d)) ∙ tokens-print (json_tokens j) (ArePrintable-json_tokens j (numbers_printed d plain.1 plain.0)) in
    ap whole (
    ap (json.value max_depth) (same ∙ sym (append-nil _)) ∙ value-json_tokens j max_depth [] (omega (arith, plain.2, depth-outline d)))
    ∙ value_back d plain.1 plain.0

pub compact_text_reads_back : (text : List ℕ) (d : Data) → read text ≡ Some d → has_float d ≡ false → read (compact_text d) ≡ Some d
compact_text_reads_back text d e none = plain_reads_back d (read_plain text d e none)
