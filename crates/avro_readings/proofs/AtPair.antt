-- What the table and the tests of a value say at one pair.
use Rattle.std.proofs.Common.{◌≡◌, ℕ, zero, suc, ◌+◌, List, [], ◌∷◌, map, Bool, true, false, not, ◌&&◌, ◌||◌, cond, Option, Some, None}
use Rattle.std.proofs.Common.{IsSome, is_some, Result, Ok, Err, option_map, option_and_then, find, filter_map, slice_get, bytes_eq, refl}
use Rattle.std.proofs.Common.{sym, ◌∙◌, ap}
use Rattle.std.specs.List.{enumerate_from, cons_option}
use Rattle.std.specs.Option.{option_map_or}
use Rattle.std.specs.Result.{result_err}
use Rattle.std.proofs.lemmas.Slice.Eq.{bytes_eq-Decides}
use Rattle.avro_resolve.specs.avro_schema.declared.node.NodeId.{NodeId}
use Rattle.avro_resolve.specs.avro_schema.declared.node.FullName.{FullName}
use Rattle.avro_resolve.specs.avro_schema.declared.node.Field.{Field}
use Rattle.avro_resolve.specs.avro_schema.declared.node.Primitive.{Primitive}
use Rattle.avro_resolve.specs.avro_schema.declared.node.Node.{Node}
use Rattle.avro_resolve.specs.avro_schema.declared.node.Node.TheVariants as kind
use Rattle.avro_resolve.specs.avro_schema.Names.{has_text}
use Rattle.avro_resolve.specs.declared.trail.Hop.TheVariants as hop
use Rattle.avro_resolve.specs.declared.trail.ClashKind.{ClashKind}
use Rattle.avro_resolve.specs.declared.trail.ClashKind.TheVariants as clash
use Rattle.avro_resolve.specs.declared.obligations.Obligation.{Obligation}
use Rattle.avro_resolve.specs.Inward.{is_union_node}
use Rattle.avro_resolve.specs.Match.{names_match}
use Rattle.avro_resolve.specs.Pairing.{partner, lacks_value}
use Rattle.avro_resolve.specs.Table.{obligation, to_fields, with_symbols, plain_row}
use Rattle.avro_data.specs.Value.{leaf, symbol}
use Rattle.avro_data.specs.Fits.{takes, a_leaf, a_symbol, a_list, a_map, a_branch, some_fields}
use Rattle.avro_readings.specs.Reads.{of_leaf, of_symbol, row_read}

-- ---- tests and options

pub and_left : (a b : Bool) → (a && b) ≡ true → a ≡ true
and_left true b e = refl
and_left false b e = e

pub and_right : (a b : Bool) → (a && b) ≡ true → b ≡ true
and_right true b e = e
and_right false b e = cc

pub mapped : {A B : Type 0} (f : A → B) (o : Option A) → IsSome o → IsSome (option_map f o)
mapped f None h = h
mapped f (Some x) h = refl

pub chained : {A B : Type 0} (f : A → Option B) (o : Option A) → IsSome o → ((x : A) → IsSome (f x)) → IsSome (option_and_then f o)
chained f None h each = h
chained f (Some x) h each = each x

-- ---- what is found in a list

here : {A : Type 0} (x : A) (xs : List A) (n : ℕ) (b : ℕ × A) (later : Option (ℕ × A)) (t : Bool) → cond t (Some (n, x)) later ≡ Some b
    → (later ≡ Some b → (k : ℕ) × (slice_get xs k ≡ Some b.1)) → (k : ℕ) × (slice_get (x ∷ xs) k ≡ Some b.1)
here x xs n b later true e rest = (0, ap (option_map (λ c. c.1)) e)
here x xs n b later false e rest = let (k, at) = rest e in (suc k, at)

-- what is found among numbered elements is at a place
pub found_at : {A : Type 0} (test : ℕ × A → Bool) (xs : List A) (n : ℕ) (b : ℕ × A)
    → find test (enumerate_from n xs) ≡ Some b → (k : ℕ) × (slice_get xs k ≡ Some b.1)
found_at test [] n b e = absurd (cc)
found_at test (x ∷ xs) n b e = here x xs n b (find test (enumerate_from (n + 1) xs)) (test (n, x)) e (found_at test xs (n + 1) b)

none_found : {A : Type 0} (test : A → Bool) (xs : List A) → find test xs ≡ None → (k : ℕ) (x : A) → slice_get xs k ≡ Some x → test x ≡ false
none_found test [] e k x at = absurd (cc)
none_found test (y ∷ ys) e k x at = go (test y) refl e k at (λ rest l found. none_found test ys rest l x found)
  where
    go : (t : Bool) → test y ≡ t → cond t (Some y) (find test ys) ≡ None → (k : ℕ) → slice_get (y ∷ ys) k ≡ Some x
        → (find test ys ≡ None → (l : ℕ) → slice_get ys l ≡ Some x → test x ≡ false) → test x ≡ false
    go true is e k at later = absurd (cc)
    go false is e zero at later = let same : y ≡ x = cc in ap test (sym same) ∙ is
    go false is e (suc k) at later = later e k at

-- a symbol of the list is at a place
text_at : (ts : List (List ℕ)) (s : List ℕ) → has_text ts s ≡ true → (k : ℕ) × (slice_get ts k ≡ Some s)
text_at [] s e = absurd (cc)
text_at (t ∷ ts) s e = go (bytes_eq s t) refl e (text_at ts s)
  where
    go : (b : Bool) → bytes_eq s t ≡ b → (b || has_text ts s) ≡ true
        → (has_text ts s ≡ true → (k : ℕ) × (slice_get ts k ≡ Some s)) → (k : ℕ) × (slice_get (t ∷ ts) k ≡ Some s)
    go true is e later = (0, ap Some (sym ((bytes_eq-Decides s t).0 is)))
    go false is e later = let (k, at) = later e in (suc k, at)

-- the obligation to read a branch of the writer's union
pub branch_owed : (i : NodeId) (bs : List NodeId) (n k : ℕ) (b : NodeId) → slice_get bs k ≡ Some b
    → (x : ℕ) × (slice_get (map (λ c. obligation (hop.Writer c.0) i c.1) (enumerate_from n bs)) k ≡ Some (obligation (hop.Writer x) i b))
branch_owed i [] n k b e = absurd (cc)
branch_owed i (c ∷ bs) n zero b e = let same : c ≡ b = cc in (n, ap (λ d. Some (obligation (hop.Writer n) i d)) same)
branch_owed i (c ∷ bs) n (suc k) b e = branch_owed i bs (n + 1) k b e

abbrev pub to_partner : List Field → Field → Option Obligation
to_partner gs f = option_map (λ g. obligation (hop.Field f.name) f.node g.node) (partner gs f)

-- the obligation to read a paired field
pub field_owed : (gs fs : List Field) (k : ℕ) (f g : Field) → slice_get fs k ≡ Some f → partner gs f ≡ Some g
    → (l : ℕ) × (slice_get (filter_map (to_partner gs) fs) l ≡ Some (obligation (hop.Field f.name) f.node g.node))
field_owed gs [] k f g at paired = absurd (cc)
field_owed gs (d ∷ fs) zero f g at paired =
    let same : d ≡ f = cc in
    let here : to_partner gs d ≡ Some (obligation (hop.Field f.name) f.node g.node) =
    ap (to_partner gs) same ∙ ap (option_map (λ (h : Field). obligation (hop.Field f.name) f.node h.node)) paired in
    (0, ap (λ o. slice_get (cons_option o (filter_map (to_partner gs) fs)) 0) here)
field_owed gs (d ∷ fs) (suc k) f g at paired = go (to_partner gs d) (field_owed gs fs k f g at paired)
  where
    go : (o : Option Obligation)
        → (l : ℕ) × (slice_get (filter_map (to_partner gs) fs) l ≡ Some (obligation (hop.Field f.name) f.node g.node))
        → (l : ℕ) × (slice_get (cons_option o (filter_map (to_partner gs) fs)) l ≡ Some (obligation (hop.Field f.name) f.node g.node))
    go None (l, owed) = (l, owed)
    go (Some x) (l, owed) = (suc l, owed)

-- ---- the table, where a pair doesn't clash

symbols_known : (ss ts : List (List ℕ)) (d : Option (List ℕ)) (s : List ℕ)
    → result_err (with_symbols ss (is_some d) ts) ≡ None → has_text ts s ≡ true → IsSome (cond (has_text ss s) (Some s) d)
symbols_known ss ts (Some x) s e known = go (has_text ss s)
  where
    go : (b : Bool) → IsSome (cond b (Some s) (Some x))
    go true = refl
    go false = refl
symbols_known ss ts None s e known = go (find (λ t. not (has_text ss t)) ts) refl e
  where
    here : (b : Bool) → not b ≡ false → IsSome (cond b (Some s) None)
    here true h = refl
    here false h = absurd (cc)

    outcome : Option (List ℕ) → Result (List Obligation) ClashKind
    outcome o = option_map_or (λ t. Err (clash.MissingEnumSymbols t)) o (Ok [])

    go : (o : Option (List ℕ)) → find (λ t. not (has_text ss t)) ts ≡ o
        → result_err (outcome o) ≡ None → IsSome (cond (has_text ss s) (Some s) None)
    go (Some t) is e = absurd (cc)
    go None is e = let (k, at) = text_at ts s known in here (has_text ss s) (none_found (λ t. not (has_text ss t)) ts is k s at)

peaceful_if : (b : Bool) (o : Result (List Obligation) ClashKind) (c : ClashKind)
    → result_err (cond b o (Err c)) ≡ None → result_err o ≡ None
peaceful_if true o c e = e
peaceful_if false o c e = absurd (cc)

same_if : (b : Bool) (o : Result (List Obligation) ClashKind) (c : ClashKind) → result_err (cond b o (Err c)) ≡ None → cond b o (Err c) ≡ o
same_if true o c e = refl
same_if false o c e = absurd (cc)

pub symbol_peaceful : (m : Node) (n : FullName) (bl : List FullName) (ts : List (List ℕ)) (x : Option (List ℕ)) (s : List ℕ)
    → result_err (plain_row m (kind.Enum n bl ts x)) ≡ None → has_text ts s ≡ true
    → IsSome (row_read (Some m) (Some (kind.Enum n bl ts x)) (of_symbol s))
symbol_peaceful (kind.Enum m al ss d) n bl ts x s e known =
    mapped symbol (cond (has_text ss s) (Some s) d)
    (symbols_known ss ts d s (peaceful_if (names_match m al n) (with_symbols ss (is_some d) ts) clash.NameMismatch e) known)
symbol_peaceful _ n bl ts x s e known = absurd (cc)

-- two arrays
pub array_peaceful : (m : Node) (j : NodeId) → result_err (plain_row m (kind.Array j)) ≡ None → (i : NodeId) × (m ≡ kind.Array i)
array_peaceful (kind.Array i) j e = (i, refl)
array_peaceful _ j e = absurd (cc)

pub map_peaceful : (m : Node) (j : NodeId) → result_err (plain_row m (kind.Map j)) ≡ None → (i : NodeId) × (m ≡ kind.Map i)
map_peaceful (kind.Map i) j e = (i, refl)
map_peaceful _ j e = absurd (cc)

-- two records: no field lacks a value, and the paired ones are owed
fields_peaceful : (gs fs : List Field) → result_err (to_fields fs gs) ≡ None → to_fields fs gs ≡ Ok (filter_map (to_partner gs) fs)
fields_peaceful gs fs e = go (find (lacks_value gs) fs) e
  where
    go : (o : Option Field)
        → result_err (option_map_or (λ f. Err (clash.ReaderFieldMissingDefaultValue f.name)) o (Ok (filter_map (to_partner gs) fs))) ≡ None
        → option_map_or (λ f. Err (clash.ReaderFieldMissingDefaultValue f.name)) o (Ok (filter_map (to_partner gs) fs))
        ≡ Ok (filter_map (to_partner gs) fs)
    go None e = refl
    go (Some f) e = absurd (cc)

pub record IsRecordOver (m : Node) (n : FullName) (bl : List FullName) (gs : List Field) : Type 0 where
  pub name : FullName
  pub aliases : List FullName
  pub fields : List Field
  pub is : m ≡ kind.Record name aliases fields
  pub owes : plain_row m (kind.Record n bl gs) ≡ Ok (filter_map (to_partner gs) fields)

pub record_peaceful : (m : Node) (n : FullName) (bl : List FullName) (gs : List Field)
    → result_err (plain_row m (kind.Record n bl gs)) ≡ None → IsRecordOver m n bl gs
record_peaceful (kind.Record m al fs) n bl gs e =
    let inner : result_err (to_fields fs gs) ≡ None = peaceful_if (names_match m al n) (to_fields fs gs) clash.NameMismatch e in
    record {
      name = m;
      aliases = al;
      fields = fs;
      is = refl;
      owes = same_if (names_match m al n) (to_fields fs gs) clash.NameMismatch e ∙ fields_peaceful gs fs inner;
    }
record_peaceful _ n bl gs e = absurd (cc)

leaf_primitive : (m : Node) (q : Primitive) → result_err (plain_row m (kind.Primitive q)) ≡ None
    → row_read (Some m) (Some (kind.Primitive q)) of_leaf ≡ Some leaf
leaf_primitive (kind.Primitive p) q e = refl
leaf_primitive _ q e = absurd (cc)

leaf_fixed : (m : Node) (n : FullName) (bl : List FullName) (size : ℕ) → result_err (plain_row m (kind.Fixed n bl size)) ≡ None
    → row_read (Some m) (Some (kind.Fixed n bl size)) of_leaf ≡ Some leaf
leaf_fixed (kind.Fixed m al other) n bl size e = refl
leaf_fixed _ n bl size e = absurd (cc)

pub leaf_peaceful : (m n : Node) → result_err (plain_row m n) ≡ None
    → takes (Some n) a_leaf ≡ true → row_read (Some m) (Some n) of_leaf ≡ Some leaf
leaf_peaceful m (kind.Primitive q) e t = leaf_primitive m q e
leaf_peaceful m (kind.Fixed n bl size) e t = leaf_fixed m n bl size e
leaf_peaceful m _ e t = absurd (cc)

-- ---- the writer's type, by the value

pub leaf_type : (o : Option Node) → takes o a_leaf ≡ true
    → (n : Node) × (o ≡ Some n) × (is_union_node n ≡ false) × (takes (Some n) a_leaf ≡ true)
leaf_type (Some (kind.Primitive p)) e = (kind.Primitive p, refl, refl, refl)
leaf_type (Some (kind.Fixed n al size)) e = (kind.Fixed n al size, refl, refl, refl)
leaf_type _ e = absurd (cc)

pub record IsEnumWith (o : Option Node) (s : List ℕ) : Type 0 where
  pub name : FullName
  pub aliases : List FullName
  pub symbols : List (List ℕ)
  pub preset : Option (List ℕ)
  pub is : o ≡ Some (kind.Enum name aliases symbols preset)
  pub known : has_text symbols s ≡ true

pub symbol_type : (o : Option Node) (s : List ℕ) → takes o (a_symbol s) ≡ true → IsEnumWith o s
symbol_type (Some (kind.Enum n al ss d)) s e = record { name = n; aliases = al; symbols = ss; preset = d; is = refl; known = e }
symbol_type _ s e = absurd (cc)

pub array_type : (o : Option Node) (fit : NodeId → Bool) → takes o (a_list fit) ≡ true
    → (j : NodeId) × (o ≡ Some (kind.Array j)) × (fit j ≡ true)
array_type (Some (kind.Array j)) fit e = (j, refl, e)
array_type _ fit e = absurd (cc)

pub map_type : (o : Option Node) (fit : NodeId → Bool) → takes o (a_map fit) ≡ true
    → (j : NodeId) × (o ≡ Some (kind.Map j)) × (fit j ≡ true)
map_type (Some (kind.Map j)) fit e = (j, refl, e)
map_type _ fit e = absurd (cc)

pub fit_at : (fit : NodeId → Bool) (o : Option NodeId) → option_map_or fit o false ≡ true → (b : NodeId) × (o ≡ Some b) × (fit b ≡ true)
fit_at fit None e = absurd (cc)
fit_at fit (Some b) e = (b, refl, e)

pub union_type : (o : Option Node) (k : ℕ) (fit : NodeId → Bool) → takes o (a_branch k fit) ≡ true
    → (bs : List NodeId) × (o ≡ Some (kind.Union bs)) × (option_map_or fit (slice_get bs k) false ≡ true)
union_type (Some (kind.Union bs)) k fit e = (bs, refl, e)
union_type _ k fit e = absurd (cc)

pub record IsRecordWith (o : Option Node) (fit : List Field → Bool) : Type 0 where
  pub name : FullName
  pub aliases : List FullName
  pub fields : List Field
  pub is : o ≡ Some (kind.Record name aliases fields)
  pub fitting : fit fields ≡ true

pub record_type : (o : Option Node) (fit : List Field → Bool) → takes o (some_fields fit) ≡ true → IsRecordWith o fit
record_type (Some (kind.Record n al fs)) fit e = record { name = n; aliases = al; fields = fs; is = refl; fitting = e }
record_type _ fit e = absurd (cc)
