-- The compact text of a value is no longer than the text that it was read from.
use Rattle.std.proofs.Common.{◌≡◌, ℕ, zero, suc, ◌+◌, ◌≤◌, max, Bool, true, false, List, [], ◌∷◌, ◌++◌, length, Option, Some, None}
use Rattle.std.proofs.Common.{option_map, option_and_then, Ordering, Less, Equal, Greater, refl, sym, ◌∙◌, subst, arith, length-append}
use Rattle.std.specs.Prelude.{⊤}
use Rattle.std.specs.Ordering.{match_ordering}
use Rattle.json.specs.Token.{Token}
use Rattle.json.specs.Lex.{tokens}
use Rattle.json.specs.Print.{token_text, quoted}
use Rattle.json.specs.Json as json
use Rattle.json.specs.Json.{Parse, parse_map, after_end_array, read_key, items_step, members_step, value_with, if_last}
use Rattle.json.proofs.Grammar.{closed_array, read_key_is}
use Rattle.serde_json.specs.Data.{Data, number, array, object, Items, item, Members, no_members, member, put}
use Rattle.serde_json.specs.Read.{number_of, of_json, of_items, of_members, max_depth, read}
use Rattle.serde_json.specs.Written.{compact_text, items_text, members_text}
use Rattle.compact_length.proofs.Tokens.{comma_length, written_length, tokens_written}
use Rattle.compact_length.proofs.Numbers.{AtMost, text_length, number_shorter}

-- ---- how long a JSON value is when it is written

abbrev mutual
  pub json_length : json.Json → ℕ
  json_length json.null = 4
  json_length (json.boolean b) = length (token_text (Token.boolean b))
  json_length (json.number s) = length s
  json_length (json.string s) = length (quoted s)
  json_length (json.array js) = 1 + items_length false js
  json_length (json.object ms) = 1 + members_length false ms

  pub items_length : Bool → json.Items → ℕ
  items_length later json.no_items = 1
  items_length later (json.item j js) = comma_length later + (json_length j + items_length true js)

  pub members_length : Bool → json.Members → ℕ
  members_length later json.no_members = 1
  members_length later (json.member k j ms) = comma_length later + ((length (quoted k) + 1) + (json_length j + members_length true ms))

-- ---- what the grammar reads is no longer than its tokens

-- what was read is, with what is left, no longer than n
abbrev Within : {A : Type 0} → (A → ℕ) → ℕ → Option (A × List Token) → Type 0
Within f n None = ⊤
Within f n (Some p) = f p.0 + written_length true p.1 ≤ n

mapped : {A B : Type 0} (f : A → ℕ) (g : B → ℕ) (m n : ℕ) (h : A → B) → ((a : A) (r : ℕ) → f a + r ≤ m → g (h a) + r ≤ n)
    → (o : Option (A × List Token)) → Within f m o → Within g n (parse_map h o)
mapped f g m n h k None x = tt
mapped f g m n h k (Some p) x = k p.0 (written_length true p.1) x

-- in each place what is read is no longer than the tokens
abbrev Reads : {A : Type 0} → (Bool → A → ℕ) → Parse A → Type 0
Reads f p = (later : Bool) (ts : List Token) → Within (f later) (written_length later ts) (p ts)

abbrev value_length : Bool → json.Json → ℕ
value_length later j = comma_length later + json_length j

-- a first value behind c bytes, and then more
first_and_more : (c a j b r m n l : ℕ) → a + j + m ≤ l → b + r ≤ m → c + l ≤ n + a → c + (j + b) + r ≤ n
first_and_more c a j b r m n l p q s = omega arith

module _ {B : Type 0} (g : Bool → B → ℕ) (later : Bool) (c n l : ℕ) (at : Bool) (fits : c + l ≤ n + comma_length at) (h : json.Json → B → B)
    (is : (j : json.Json) (b : B) → g later (h j b) ≡ c + (json_length j + g true b)) (more : Parse B) (rest : Reads g more) where
  and_more : (o : Option (json.Json × List Token)) → Within (value_length at) l o
      → Within (g later) n (option_and_then (λ q. parse_map (h q.0) (more q.1)) o)
  and_more None x = tt
  and_more (Some q) x =
      mapped (g true) (g later) (written_length true q.1) n (h q.0)
      (λ b r y.
      subst (λ k. k + r ≤ n) (sym (is q.0 b))
      (first_and_more c (comma_length at) (json_length q.0) (g true b) r (written_length true q.1) n l x y fits))
      (more q.1) (rest true q.1)

module _ (p : Parse json.Json) (reads : Reads value_length p) where
  item_turn : (more : Parse json.Items) → Reads items_length more → (later : Bool) (ts : List Token) (o : Option (List Token))
      → after_end_array ts ≡ o → Within (items_length later) (written_length later ts) (items_step p more ts o)
  item_turn more rest later ts (Some r) e = rw (closed_array ts r e) (omega arith)
  item_turn more rest later ts None e =
      and_more items_length later (comma_length later) (written_length later ts) (written_length later ts) later
      (omega arith) json.item (λ j b. refl) more rest (p ts) (reads later ts)

  Reads-items : (n : ℕ) → Reads items_length (json.items p n)
  unfolding json.items
  Reads-items zero later ts = tt
  Reads-items (suc n) later ts = item_turn (json.items p n) (Reads-items n) later ts (after_end_array ts) refl

  key_fits : (later : Bool) (k : List ℕ) (s : List Token)
      → (comma_length later + (length (quoted k) + 1)) + written_length false s
      ≤ written_length later (Token.key k ∷ s) + comma_length false
  key_fits true k s = omega (arith, length-append (quoted k) (58 ∷ []))
  key_fits false k s = omega (arith, length-append (quoted k) (58 ∷ []))

  member_is : (later : Bool) (k : List ℕ) (j : json.Json) (b : json.Members)
      → members_length later (json.member k j b) ≡ (comma_length later + (length (quoted k) + 1)) + (json_length j + members_length true b)
  member_is later k j b = omega arith

  member_turn : (more : Parse json.Members) → Reads members_length more
      → (later : Bool) (ts : List Token) (o : Option (Option (List ℕ) × List Token)) → read_key ts ≡ o
      → Within (members_length later) (written_length later ts) (option_and_then (λ q. members_step p more q.0 q.1) o)
  member_turn more rest later ts None e = tt
  member_turn more rest later ts (Some (None, s)) e = rw (read_key_is ts None s e) (omega arith)
  member_turn more rest later ts (Some (Some k, s)) e =
      rw (read_key_is ts (Some k) s e)
      (and_more members_length later (comma_length later + (length (quoted k) + 1)) (written_length later (Token.key k ∷ s))
      (written_length false s) false (key_fits later k s) (json.member k) (member_is later k) more rest (p s) (reads false s))

  Reads-members : (n : ℕ) → Reads members_length (json.members p n)
  unfolding json.members
  Reads-members zero later ts = tt
  Reads-members (suc n) later ts = member_turn (json.members p n) (Reads-members n) later ts (read_key ts) refl

array_fits : (later : Bool) (ts : List Token) (js : json.Items) (r : ℕ) → items_length false js + r ≤ written_length false ts
    → value_length later (json.array js) + r ≤ written_length later (Token.begin_array ∷ ts)
array_fits later ts js r h = omega arith

object_fits : (later : Bool) (ts : List Token) (ms : json.Members) (r : ℕ) → members_length false ms + r ≤ written_length false ts
    → value_length later (json.object ms) + r ≤ written_length later (Token.begin_object ∷ ts)
object_fits later ts ms r h = omega arith

Reads-value_with : (a : Parse json.Items) (o : Parse json.Members)
    → Reads items_length a → Reads members_length o → Reads value_length (value_with a o)
Reads-value_with a o p q later [] = tt
Reads-value_with a o p q later (Token.begin_object ∷ ts) =
    mapped (members_length false) (value_length later) (written_length false ts) _ json.object
    (λ ms r h. object_fits later ts ms r h) (o ts) (q false ts)
Reads-value_with a o p q later (Token.end_object ∷ ts) = tt
Reads-value_with a o p q later (Token.begin_array ∷ ts) =
    mapped (items_length false) (value_length later) (written_length false ts) _ json.array
    (λ js r h. array_fits later ts js r h) (a ts) (p false ts)
Reads-value_with a o p q later (Token.end_array ∷ ts) = tt
Reads-value_with a o p q later (Token.key s ∷ ts) = tt
Reads-value_with a o p q later (Token.string s ∷ ts) = omega arith
Reads-value_with a o p q later (Token.number s ∷ ts) = omega arith
Reads-value_with a o p q later (Token.boolean b ∷ ts) = omega arith
Reads-value_with a o p q later (Token.null ∷ ts) = omega arith
Reads-value_with a o p q later (Token.bad ∷ ts) = tt

Reads-value : (d : ℕ) → Reads value_length (json.value d)
unfolding json.value
Reads-value zero = Reads-value_with (λ ts. None) (λ ts. None) (λ later ts. tt) (λ later ts. tt)
Reads-value (suc d) =
    Reads-value_with (λ ts. json.items (json.value d) (length ts) ts) (λ ts. json.members (json.value d) (length ts) ts)
    (λ later ts. Reads-items (json.value d) (Reads-value d) (length ts) later ts) (λ later ts.
    Reads-members (json.value d) (Reads-value d) (length ts) later ts)

-- ---- the data of a JSON value is written no longer

AtMost-map : {A B : Type 0} (f : A → ℕ) (g : B → ℕ) (m n : ℕ) (h : A → B)
    → ((a : A) → f a ≤ m → g (h a) ≤ n) → (o : Option A) → AtMost f m o → AtMost g n (option_map h o)
AtMost-map f g m n h k None x = tt
AtMost-map f g m n h k (Some a) x = k a x

AtMost-and_then : {A B : Type 0} (f : A → ℕ) (g : B → ℕ) (m n : ℕ) (h : A → Option B)
    → ((a : A) → f a ≤ m → AtMost g n (h a)) → (o : Option A) → AtMost f m o → AtMost g n (option_and_then h o)
AtMost-and_then f g m n h k None x = tt
AtMost-and_then f g m n h k (Some a) x = k a x

abbrev data_length : Data → ℕ
data_length d = length (compact_text d)

-- members, each with a comma
abbrev sum_of_members : Members → ℕ
sum_of_members no_members = 0
sum_of_members (member k d ms) = (length (quoted k) + data_length d + 2) + sum_of_members ms

abbrev sum_of_json_members : json.Members → ℕ
sum_of_json_members json.no_members = 0
sum_of_json_members (json.member k j ms) = (length (quoted k) + json_length j + 2) + sum_of_json_members ms

length-item : (later : Bool) (d : Data) (ds : Items)
    → length (items_text later (item d ds)) ≡ comma_length later + (data_length d + length (items_text true ds))
length-item true d ds = omega (arith, length-append (compact_text d) (items_text true ds))
length-item false d ds = length-append (compact_text d) (items_text true ds) ∙ omega arith

length-member : (later : Bool) (k : List ℕ) (d : Data) (ms : Members)
    → length (members_text later (member k d ms))
    ≡ comma_length later + (length (quoted k) + 1 + data_length d + length (members_text true ms))
length-member true k d ms =
    omega (
      arith,
      length-append (quoted k) (58 ∷ (compact_text d ++ members_text true ms)),
      length-append (compact_text d) (members_text true ms),
    )
length-member false k d ms =
    omega (
      arith,
      length-append (quoted k) (58 ∷ (compact_text d ++ members_text true ms)),
      length-append (compact_text d) (members_text true ms),
    )

later_members : (ms : Members) → length (members_text true ms) ≡ sum_of_members ms + 1
later_members no_members = omega arith
later_members (member k d ms) = omega (arith, length-member true k d ms, later_members ms)

all_members : (ms : Members) → length (members_text false ms) ≤ max 1 (sum_of_members ms)
all_members no_members = omega arith
all_members (member k d ms) = omega (arith, length-member false k d ms, later_members ms)

later_json_members : (ms : json.Members) → members_length true ms ≡ sum_of_json_members ms + 1
later_json_members json.no_members = omega arith
later_json_members (json.member k j ms) = omega (arith, later_json_members ms)

all_json_members : (ms : json.Members) → max 1 (sum_of_json_members ms) ≤ members_length false ms
all_json_members json.no_members = omega arith
all_json_members (json.member k j ms) = omega (arith, later_json_members ms)

sum_of_members-match_ordering : (o : Ordering) (a b c : Members) (n : ℕ) → sum_of_members a ≤ n
    → sum_of_members b ≤ n → sum_of_members c ≤ n → sum_of_members (match_ordering o a b c) ≤ n
sum_of_members-match_ordering Less a b c n p q r = p
sum_of_members-match_ordering Equal a b c n p q r = q
sum_of_members-match_ordering Greater a b c n p q r = r

sum_of_members-put : (k : List ℕ) (d : Data) (ms : Members)
    → sum_of_members (put k d ms) ≤ (length (quoted k) + data_length d + 2) + sum_of_members ms
sum_of_members-put k d no_members = omega arith
sum_of_members-put k d (member l e ms) =
    sum_of_members-match_ordering _ (member k d (member l e ms)) (member l d ms)
    (member l e (put k d ms)) _ (omega arith) (omega arith) (omega (arith, sum_of_members-put k d ms))

mutual
  shorter-of_json : (j : json.Json) → AtMost data_length (json_length j) (of_json j)
  shorter-of_json json.null = omega arith
  shorter-of_json (json.boolean b) = omega arith
  shorter-of_json (json.number s) =
      AtMost-map text_length data_length (length s) (length s) number (λ n h. h) (number_of s) (number_shorter s)
  shorter-of_json (json.string s) = omega arith
  shorter-of_json (json.array js) =
      AtMost-map (λ ds. length (items_text false ds)) data_length (items_length false js)
      (1 + items_length false js) array (λ ds h. omega arith) (of_items js) (shorter-of_items false js)
  shorter-of_json (json.object ms) =
      AtMost-map sum_of_members data_length (sum_of_json_members ms) (1 + members_length false ms) object
      (λ found h. omega (arith, all_members found, all_json_members ms)) (of_members ms no_members)
      (shorter-of_members ms no_members (sum_of_json_members ms) (omega arith))

  shorter-of_items : (later : Bool) (js : json.Items) → AtMost (λ ds. length (items_text later ds)) (items_length later js) (of_items js)
  shorter-of_items later json.no_items = omega arith
  shorter-of_items later (json.item j js) =
      AtMost-and_then data_length (λ ds. length (items_text later ds)) (json_length j) (items_length later (json.item j js)) _
      (λ d x.
      AtMost-map (λ ds. length (items_text true ds)) (λ ds. length (items_text later ds))
      (items_length true js) (items_length later (json.item j js)) (item d)
      (λ ds y. omega (arith, length-item later d ds)) (of_items js) (shorter-of_items true js))
      (of_json j) (shorter-of_json j)

  shorter-of_members : (ms : json.Members) (found : Members) (n : ℕ)
      → sum_of_members found + sum_of_json_members ms ≤ n → AtMost sum_of_members n (of_members ms found)
  shorter-of_members json.no_members found n h = omega arith
  shorter-of_members (json.member k j ms) found n h =
      AtMost-and_then data_length sum_of_members (json_length j) n _
      (λ d x. shorter-of_members ms (put k d found) n (omega (arith, sum_of_members-put k d found))) (of_json j) (shorter-of_json j)

-- ---- the whole text

last_within : (n : ℕ) (o : Option (json.Json × List Token)) → Within (value_length false) n o
    → AtMost json_length n (option_and_then (λ p. if_last p.0 p.1) o)
last_within n None h = tt
last_within n (Some (j, [])) h = omega arith
last_within n (Some (j, t ∷ r)) h = tt

of_at_most : (m : ℕ) (j : json.Json) → json_length j ≤ m → (o : Option Data) → AtMost data_length (json_length j) o → AtMost data_length m o
of_at_most m j h None x = tt
of_at_most m j h (Some d) x = omega arith

pub compact_shorter : (text : List ℕ) (d : Data) → read text ≡ Some d → length (compact_text d) ≤ length text
compact_shorter text d e =
    let n = written_length false (tokens text) in
    let within = AtMost-and_then json_length data_length n n of_json (λ j x. of_at_most n j x (of_json j) (shorter-of_json j)) _
    (last_within n (json.value max_depth (tokens text)) (Reads-value max_depth false (tokens text))) in
    let le : length (compact_text d) ≤ n = subst (AtMost data_length n) e within in
    omega (arith, tokens_written text)
