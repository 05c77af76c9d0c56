-- What `get` finds of an object, beside what a form reads of it.
use Rattle.std.proofs.Common.{◌≡◌, ℕ, zero, suc, ◌<◌, ◌≤◌, List, [], ◌∷◌, length, get_or, drop, Bool, true, false, ◌||◌, Option, Some, None}
use Rattle.std.proofs.Common.{option_and_then, Ordering, Less, Equal, Greater, is_eq, codes, nat_cmp, refl, sym, ◌∙◌, ap, subst, arith}
use Rattle.std.specs.Cmp.Lexicographic.{slice_cmp}
use Rattle.std.specs.Ordering.{match_ordering}
use Rattle.std.proofs.lemmas.Map.Text.{is_eq-slice_cmp}
use Rattle.serde_json.specs.Data.{Data, null, boolean, number, string, array, object, Items, item}
use Rattle.serde_json.specs.Data.{Members, no_members, member, depth, items_depth, members_depth}
use Rattle.serde_json.specs.Find.{get, get_member, as_str, as_array}
use Rattle.json_tree.specs.View.{view, items_view}
use Rattle.serde_json.specs.Written.{has_float, items_have_float, members_have_float}
use Rattle.json_tree.specs.declared.tree.Json.{Json}
use Rattle.avro_schema.specs.declared.word.TypeWord.{TypeWord}
use Rattle.avro_schema.specs.declared.word.TypeWord.TheVariants as word
use Rattle.avro_schema.specs.Form.{Form, Fields, ill_formed, form, form_at, fields_at, fields_in, type_in, type_word}
use Rattle.avro_schema.specs.Form.{string_at, object_of, object_of_word, record_of, array_of, map_of, heading_of}
use Rattle.avro_schema.specs.Plain.{IsOrderly, ItemsAreOrderly, MembersAreOrderly, IsPlain}
use Rattle.avro_schema.specs.Building.{form_or_ill, form_in, fields_or_ill, items_at, is_object}

-- ---- `form_at` goes by a test, `get_member` by an order

chosen : (o : Ordering) (d : Data) (rest : Option Data)
    → elim (is_eq o) [ true ↦ form d | false ↦ form_or_ill rest ] ≡ form_or_ill (match_ordering o rest (Some d) rest)
chosen Less d rest = refl
chosen Equal d rest = refl
chosen Greater d rest = refl

pub form_at-get : (k : List ℕ) (ms : Members) → form_at k ms ≡ form_or_ill (get_member k ms)
form_at-get k no_members = refl
form_at-get k (member l d ms) =
    ap (λ b. elim b [ true ↦ form d | false ↦ form_at k ms ]) (sym (is_eq-slice_cmp k l))
    ∙ ap (λ f. elim (is_eq (slice_cmp nat_cmp k l)) [ true ↦ form d | false ↦ f ]) (form_at-get k ms)
    ∙ chosen (slice_cmp nat_cmp k l) d (get_member k ms)

abbrev fields_of : Option Data → Fields
fields_of o = fields_or_ill (option_and_then as_array o)

fields_in-array : (d : Data) → fields_in d ≡ fields_of (Some d)
fields_in-array (array ds) = refl
fields_in-array null = refl
fields_in-array (boolean b) = refl
fields_in-array (number n) = refl
fields_in-array (string s) = refl
fields_in-array (object ms) = refl

chosen_fields : (o : Ordering) (d : Data) (rest : Option Data)
    → elim (is_eq o) [ true ↦ fields_in d | false ↦ fields_of rest ] ≡ fields_of (match_ordering o rest (Some d) rest)
chosen_fields Less d rest = refl
chosen_fields Equal d rest = fields_in-array d
chosen_fields Greater d rest = refl

fields_at-get : (k : List ℕ) (ms : Members) → fields_at k ms ≡ fields_of (get_member k ms)
fields_at-get k no_members = refl
fields_at-get k (member l d ms) =
    ap (λ b. elim b [ true ↦ fields_in d | false ↦ fields_at k ms ]) (sym (is_eq-slice_cmp k l))
    ∙ ap (λ f. elim (is_eq (slice_cmp nat_cmp k l)) [ true ↦ fields_in d | false ↦ f ]) (fields_at-get k ms)
    ∙ chosen_fields (slice_cmp nat_cmp k l) d (get_member k ms)

pub type_in-get : (d : Data) → type_in d ≡ form_in (codes "type") d
type_in-get (object ms) = form_at-get (codes "type") ms
type_in-get null = refl
type_in-get (boolean b) = refl
type_in-get (number n) = refl
type_in-get (string s) = refl
type_in-get (array ds) = refl

-- ---- objects

-- an object whose `type` is no string writes what that member does
pub inner_type : (d : Data) → is_object d ≡ true → string_at (codes "type") d ≡ None → form d ≡ form_in (codes "type") d
inner_type (object ms) o none = by_member (get_member (codes "type") ms) refl none
  where
    by_member : (m : Option Data) → get_member (codes "type") ms ≡ m → option_and_then as_str m ≡ None
        → form (object ms) ≡ form_or_ill (get_member (codes "type") ms)
    by_member None e n = ap (λ t. object_of t (object ms) (λ k. form_at k ms) (λ k. fields_at k ms)) e ∙ form_at-get (codes "type") ms
    by_member (Some (string s)) e n = cc
    by_member (Some null) e n =
        ap (λ t. object_of t (object ms) (λ k. form_at k ms) (λ k. fields_at k ms)) e ∙ form_at-get (codes "type") ms
    by_member (Some (boolean b)) e n =
        ap (λ t. object_of t (object ms) (λ k. form_at k ms) (λ k. fields_at k ms)) e ∙ form_at-get (codes "type") ms
    by_member (Some (number x)) e n =
        ap (λ t. object_of t (object ms) (λ k. form_at k ms) (λ k. fields_at k ms)) e ∙ form_at-get (codes "type") ms
    by_member (Some (array ds)) e n =
        ap (λ t. object_of t (object ms) (λ k. form_at k ms) (λ k. fields_at k ms)) e ∙ form_at-get (codes "type") ms
    by_member (Some (object os)) e n =
        ap (λ t. object_of t (object ms) (λ k. form_at k ms) (λ k. fields_at k ms)) e ∙ form_at-get (codes "type") ms
inner_type null o none = cc
inner_type (boolean b) o none = cc
inner_type (number n) o none = cc
inner_type (string s) o none = cc
inner_type (array ds) o none = cc

by_word : (w : TypeWord) (s : List ℕ) (ms : Members)
    → object_of_word w s (object ms) (λ k. form_at k ms) (λ k. fields_at k ms)
    ≡ object_of_word w s (object ms) (λ k. form_in k (object ms)) (λ k. fields_of (get k (object ms)))
by_word word.Record s ms = ap (record_of (heading_of (object ms))) (fields_at-get (codes "fields") ms)
by_word word.Enum s ms = refl
by_word word.Fixed s ms = refl
by_word word.Array s ms = ap array_of (form_at-get (codes "items") ms)
by_word word.Map s ms = ap map_of (form_at-get (codes "values") ms)
by_word word.Error s ms = refl
by_word word.Other s ms = refl

abbrev pub worded : TypeWord → List ℕ → Data → Form
worded w s d = object_of_word w s d (λ k. form_in k d) (λ k. fields_of (get k d))

-- an object whose `type` is a string
pub worded_type : (d : Data) (s : List ℕ) (w : TypeWord) → is_object d ≡ true
    → string_at (codes "type") d ≡ Some s → type_word s ≡ w → form d ≡ worded w s d
worded_type (object ms) s w o is e = by_member (get_member (codes "type") ms) refl is
  where
    by_member : (m : Option Data) → get_member (codes "type") ms ≡ m
        → option_and_then as_str m ≡ Some s → form (object ms) ≡ worded w s (object ms)
    by_member None x n = cc
    by_member (Some (string t)) x n =
        let same : t ≡ s = cc in
        ap (λ t. object_of t (object ms) (λ k. form_at k ms) (λ k. fields_at k ms)) x
        ∙ ap (λ t. object_of_word (type_word t) t (object ms) (λ k. form_at k ms) (λ k. fields_at k ms)) same
        ∙ ap (λ w. object_of_word w s (object ms) (λ k. form_at k ms) (λ k. fields_at k ms)) e ∙ by_word w s ms
    by_member (Some null) x n = cc
    by_member (Some (boolean b)) x n = cc
    by_member (Some (number y)) x n = cc
    by_member (Some (array ds)) x n = cc
    by_member (Some (object os)) x n = cc
worded_type null s w o is e = cc
worded_type (boolean b) s w o is e = cc
worded_type (number n) s w o is e = cc
worded_type (string t) s w o is e = cc
worded_type (array ds) s w o is e = cc

-- ---- a member nests less deep than its object, and is plain where that is

abbrev AtMost : ℕ → Option Data → Type 0
AtMost n None = Unit {0}
AtMost n (Some d) = depth d ≤ n

AtMost-match_ordering : (n : ℕ) (o : Ordering) (a b : Option Data) → AtMost n a → AtMost n b → AtMost n (match_ordering o a b a)
AtMost-match_ordering n Less a b p q = p
AtMost-match_ordering n Equal a b p q = q
AtMost-match_ordering n Greater a b p q = p

AtMost-weaker : (m n : ℕ) (o : Option Data) → m ≤ n → AtMost m o → AtMost n o
AtMost-weaker m n None h p = tt
AtMost-weaker m n (Some d) h p = omega arith

member_depth : (k : List ℕ) (ms : Members) → AtMost (members_depth ms) (get_member k ms)
member_depth k no_members = tt
member_depth k (member l d ms) =
    AtMost-match_ordering (members_depth (member l d ms)) (slice_cmp nat_cmp k l) (get_member k ms) (Some d)
    (AtMost-weaker (members_depth ms) _ (get_member k ms) (omega arith) (member_depth k ms)) (omega arith)

pub get-depth : (k : List ℕ) (d e : Data) → get k d ≡ Some e → depth e < depth d
get-depth k null e h = cc
get-depth k (boolean b) e h = cc
get-depth k (number n) e h = cc
get-depth k (string s) e h = cc
get-depth k (array ds) e h = cc
get-depth k (object ms) e h =
    let p : AtMost (members_depth ms) (Some e) = subst (AtMost (members_depth ms)) h (member_depth k ms) in omega arith

or_left : (a b : Bool) → a || b ≡ false → a ≡ false
or_left true b e = cc
or_left false b e = refl

or_right : (a b : Bool) → a || b ≡ false → b ≡ false
or_right true b e = cc
or_right false b e = e

abbrev IsWhole : Option Data → Type 0
IsWhole None = Unit {0}
IsWhole (Some d) = has_float d ≡ false

IsWhole-match_ordering : (o : Ordering) (a b : Option Data) → IsWhole a → IsWhole b → IsWhole (match_ordering o a b a)
IsWhole-match_ordering Less a b p q = p
IsWhole-match_ordering Equal a b p q = q
IsWhole-match_ordering Greater a b p q = p

member_whole : (k : List ℕ) (ms : Members) → members_have_float ms ≡ false → IsWhole (get_member k ms)
member_whole k no_members e = tt
member_whole k (member l d ms) e =
    IsWhole-match_ordering (slice_cmp nat_cmp k l) (get_member k ms) (Some d) (member_whole k ms (or_right _ _ e)) (or_left _ _ e)

get-whole : (k : List ℕ) (d e : Data) → get k d ≡ Some e → has_float d ≡ false → has_float e ≡ false
get-whole k null e h w = cc
get-whole k (boolean b) e h w = cc
get-whole k (number n) e h w = cc
get-whole k (string s) e h w = cc
get-whole k (array ds) e h w = cc
get-whole k (object ms) e h w = subst IsWhole h (member_whole k ms w)

abbrev IsOrderlyIfAny : Option Data → Type 0
IsOrderlyIfAny None = Unit {0}
IsOrderlyIfAny (Some d) = IsOrderly d

IsOrderlyIfAny-match_ordering : (o : Ordering) (a b : Option Data)
    → IsOrderlyIfAny a → IsOrderlyIfAny b → IsOrderlyIfAny (match_ordering o a b a)
IsOrderlyIfAny-match_ordering Less a b p q = p
IsOrderlyIfAny-match_ordering Equal a b p q = q
IsOrderlyIfAny-match_ordering Greater a b p q = p

member_orderly : (k : List ℕ) (ms : Members) → MembersAreOrderly ms → IsOrderlyIfAny (get_member k ms)
member_orderly k no_members o = tt
member_orderly k (member l d ms) o =
    IsOrderlyIfAny-match_ordering (slice_cmp nat_cmp k l) (get_member k ms) (Some d) (member_orderly k ms o.1) o.0

get-orderly : (k : List ℕ) (d e : Data) → get k d ≡ Some e → IsOrderly d → IsOrderly e
get-orderly k null e h o = cc
get-orderly k (boolean b) e h o = cc
get-orderly k (number n) e h o = cc
get-orderly k (string s) e h o = cc
get-orderly k (array ds) e h o = cc
get-orderly k (object ms) e h o = subst IsOrderlyIfAny h (member_orderly k ms o.1)

pub get-plain : (k : List ℕ) (d e : Data) → get k d ≡ Some e → IsPlain d → IsPlain e
get-plain k d e h plain = (get-whole k d e h plain.0, get-orderly k d e h plain.1, omega (arith, plain.2, get-depth k d e h))

as_array-is : (d : Data) (ds : Items) → as_array d ≡ Some ds → d ≡ array ds
as_array-is (array es) ds h = ap array cc
as_array-is null ds h = cc
as_array-is (boolean b) ds h = cc
as_array-is (number n) ds h = cc
as_array-is (string s) ds h = cc
as_array-is (object ms) ds h = cc

-- the items of a member
items_found : (o : Option Data) (ds : Items) → option_and_then as_array o ≡ Some ds → o ≡ Some (array ds)
items_found None ds h = cc
items_found (Some d) ds h = ap Some (as_array-is d ds h)

pub items_at-depth : (k : List ℕ) (d : Data) (ds : Items) → items_at k d ≡ Some ds → suc (items_depth ds) < depth d
items_at-depth k d ds h = get-depth k d (array ds) (items_found (get k d) ds h)

pub items_at-plain : (k : List ℕ) (d : Data) (ds : Items) → items_at k d ≡ Some ds → IsPlain d → IsPlain (array ds)
items_at-plain k d ds h = get-plain k d (array ds) (items_found (get k d) ds h)

-- ---- items by their places

pub items_view-drop : (vs : List Json) (i : ℕ) (v : Json) → i < length vs
    → items_view (drop i vs) ≡ item (view (get_or vs i v)) (items_view (drop (suc i) vs))
items_view-drop [] i v h = absurd (omega arith)
items_view-drop (x ∷ vs) zero v h = refl
items_view-drop (x ∷ vs) (suc i) v h = items_view-drop vs i v (omega arith)

pub item-depth : (vs : List Json) (i : ℕ) (v : Json) → i < length vs → depth (view (get_or vs i v)) ≤ items_depth (items_view vs)
item-depth [] i v h = absurd (omega arith)
item-depth (x ∷ vs) zero v h = omega arith
item-depth (x ∷ vs) (suc i) v h = omega (arith, item-depth vs i v (omega arith))

item-whole : (vs : List Json) (i : ℕ) (v : Json) → i < length vs
    → items_have_float (items_view vs) ≡ false → has_float (view (get_or vs i v)) ≡ false
item-whole [] i v h w = absurd (omega arith)
item-whole (x ∷ vs) zero v h w = or_left _ _ w
item-whole (x ∷ vs) (suc i) v h w = item-whole vs i v (omega arith) (or_right _ _ w)

item-orderly : (vs : List Json) (i : ℕ) (v : Json) → i < length vs → ItemsAreOrderly (items_view vs) → IsOrderly (view (get_or vs i v))
item-orderly [] i v h o = absurd (omega arith)
item-orderly (x ∷ vs) zero v h o = o.0
item-orderly (x ∷ vs) (suc i) v h o = item-orderly vs i v (omega arith) o.1

pub item-plain : (vs : List Json) (i : ℕ) (v : Json) → i < length vs → IsPlain (array (items_view vs)) → IsPlain (view (get_or vs i v))
item-plain vs i v h plain = (item-whole vs i v h plain.0, item-orderly vs i v h plain.1, omega (arith, plain.2, item-depth vs i v h))

-- ---- an object by what is found at its `type`

pub no_type : (d : Data) → is_object d ≡ true → None ≡ get (codes "type") d → form d ≡ ill_formed
no_type d o e = inner_type d o (ap (option_and_then as_str) (sym e)) ∙ ap form_or_ill (sym e)

pub type_inside : (d e : Data) → is_object d ≡ true → Some e ≡ get (codes "type") d → None ≡ as_str e → form d ≡ form e
type_inside d e o h n = inner_type d o (ap (option_and_then as_str) (sym h) ∙ sym n) ∙ ap form_or_ill (sym h)

pub type_text : (d e : Data) (s : List ℕ) (w : TypeWord) → is_object d ≡ true
    → Some e ≡ get (codes "type") d → Some s ≡ as_str e → w ≡ type_word s → form d ≡ worded w s d
type_text d e s w o h n x = worded_type d s w o (ap (option_and_then as_str) (sym h) ∙ sym n) (sym x)
