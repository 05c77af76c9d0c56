-- Whether values have readings, for many types of the reader's at a time.
use Rattle.std.proofs.Common.{◌≡◌, ℕ, zero, suc, ◌+◌, ◌<◌, List, [], ◌∷◌, ◌++◌, drop, length, Bool, true, false, not, ◌&&◌}
use Rattle.std.proofs.Common.{◌||◌, cond, Option, Some, None, is_some, option_map, option_and_then, unwrap_or, find}
use Rattle.std.proofs.Common.{position, slice_get, bytes_eq, eqb, set, replicate, append_assoc, refl, sym, ◌∙◌, ap}
use Rattle.std.proofs.Common.{subst, arith}
use Rattle.std.specs.List.{enumerate_from, list_all, list_any, position_from, Contains, dedup}
use Rattle.std.specs.List.Sorted.{IsPermutation}
use Rattle.std.proofs.lemmas.Iterator.Adapters.{position_from-zero}
use Rattle.std.proofs.lemmas.List.Sums.{AllPass-from_list_all, list_all-from_AllPass}
use Rattle.std.proofs.lemmas.List.Quantifiers.{position-Some}
use Rattle.std.proofs.lemmas.List.Folds.{list_all-append}
use Rattle.std.proofs.lemmas.List.Elements.{All-weaker, All-contains, All-contains_itself}
use Rattle.std.proofs.lemmas.List.Filters.{All-dedup}
use Rattle.std.proofs.lemmas.List.Kept.{Contains-dedup_nat}
use Rattle.std.proofs.lemmas.List.Sorted.{All-permutation, Contains-permutation}
use Rattle.std.proofs.lemmas.Slice.Eq.{bytes_eq-Decides}
use Rattle.std.specs.Option.{option_map_or}
use Rattle.avro_resolve.specs.avro_schema.declared.node.NodeId.{NodeId}
use Rattle.avro_resolve.specs.avro_schema.declared.node.Field.{Field}
use Rattle.avro_resolve.specs.avro_schema.declared.node.Node.{Node}
use Rattle.avro_resolve.specs.avro_schema.declared.node.Node.TheVariants as kind
use Rattle.avro_resolve.specs.avro_schema.Defaults.{field_named}
use Rattle.avro_resolve.specs.declared.obligations.Pair.{Pair}
use Rattle.avro_resolve.specs.Match.{matches}
use Rattle.avro_resolve.specs.Pairing.{partner}
use Rattle.avro_resolve.specs.Table.{clash_of}
use Rattle.avro_data.specs.Value.{Value, leaf, symbol, list_of, map_of, branch, fields_of}
use Rattle.avro_data.specs.Value.{Values, no_values, value, Members, no_members, member}
use Rattle.avro_data.specs.View.{view, members_view}
use Rattle.avro_readings.proofs.Along.{Entry}
use Rattle.avro_data.specs.Fits.{fits, fields_fit}
use Rattle.avro_readings.specs.Reads.{pair, bars, branch_at, field_read, fields_read, Parts, of_leaf, of_symbol, of_items, of_values}
use Rattle.avro_readings.specs.Reads.{of_fields, row_read, unless_barred, through, at_pair, reads, items_read, values_read, named_read}
use Rattle.avro_readings.proofs.AtPair.{and_left, and_right}
use Rattle.avro_readings.proofs.Yes.{first_named}
use Rattle.avro_readings.specs.Steps.{both_leaves, symbol_at, fields_at}
use Rattle.avro_readings.specs.Readable.{pair_of, inner_at, place_read, field_passes, lists_pass, value_at, all_read}
use Rattle.avro_readings.specs.Readable.{behind, row_type, inner_type, inner_types, fields_type}
use Rattle.avro_readings.specs.Readable.{type_passes, place_reads}

-- ---- tests

pub some_unless : {A : Type 0} (b : Bool) (o : Option A) → is_some (cond b None o) ≡ (not b && is_some o)
some_unless true o = refl
some_unless false o = refl

pub some_mapped : {A B : Type 0} (f : A → B) (o : Option A) → is_some (option_map f o) ≡ is_some o
some_mapped f None = refl
some_mapped f (Some x) = refl

pub some_chained : {A B C : Type 0} (f : A → B → C) (o : Option A) (rest : Option B)
    → is_some (option_and_then (λ x. option_map (f x) rest) o) ≡ (is_some o && is_some rest)
some_chained f None rest = refl
some_chained f (Some x) rest = some_mapped (f x) rest

-- two tests of each element
pub all_both : {A : Type 0} (f g : A → Bool) (xs : List A) → list_all (λ x. f x && g x) xs ≡ (list_all f xs && list_all g xs)
all_both f g [] = refl
all_both f g (x ∷ xs) = ap (λ b. (f x && g x) && b) (all_both f g xs) ∙ swap (f x) (g x) (list_all f xs) (list_all g xs)
  where
    swap : (a b c d : Bool) → ((a && b) && (c && d)) ≡ ((a && c) && (b && d))
    swap false b c d = refl
    swap true false false d = refl
    swap true false true d = refl
    swap true true c d = refl

pub all_same : {A : Type 0} (f g : A → Bool) → ((x : A) → f x ≡ g x) → (xs : List A) → list_all f xs ≡ list_all g xs
all_same f g same [] = refl
all_same f g same (x ∷ xs) = ap (λ b. b && list_all f xs) (same x) ∙ ap (λ b. g x && b) (all_same f g same xs)

pub all_pass : {A : Type 0} (f : A → Bool) → ((x : A) → f x ≡ true) → (xs : List A) → list_all f xs ≡ true
all_pass f pass [] = refl
all_pass f pass (x ∷ xs) = ap (λ b. b && list_all f xs) (pass x) ∙ all_pass f pass xs

module _ (r w : List Node) where
  -- ---- at one pair

  through_type : (m : Option Node) (p : Pair) (row : Pair → Option Value)
      → is_some (through r w m p row) ≡ option_map_or (λ t. is_some (row (pair t p.writer))) (behind r w m p) false
  through_type (Some (kind.Union bs)) p row = go (find (λ b. matches r w b.1 p.writer) (enumerate_from 0 bs))
    where
      choose : (k : ℕ) (b : Bool) (t : NodeId)
          → is_some (option_map (branch k) (cond b None (row (pair t p.writer))))
          ≡ option_map_or (λ t. is_some (row (pair t p.writer))) (cond b None (Some t)) false
      choose k true t = refl
      choose k false t = some_mapped (branch k) (row (pair t p.writer))

      go : (o : Option (ℕ × NodeId))
          → is_some (option_and_then (λ b. option_map (branch b.0) (unless_barred r w (pair b.1 p.writer) (row (pair b.1 p.writer)))) o)
          ≡ option_map_or (λ t. is_some (row (pair t p.writer)))
          (option_and_then (λ b. cond (bars (clash_of r w (pair b.1 p.writer))) None (Some b.1)) o) false
      go None = refl
      go (Some b) = choose b.0 (bars (clash_of r w (pair b.1 p.writer))) b.1
  through_type None p row = refl
  through_type (Some (kind.Primitive q)) p row = refl
  through_type (Some (kind.Record n al fs)) p row = refl
  through_type (Some (kind.Enum n al ss d)) p row = refl
  through_type (Some (kind.Array i)) p row = refl
  through_type (Some (kind.Map i)) p row = refl
  through_type (Some (kind.Fixed n al size)) p row = refl

  -- a reading at a pair is that of the row of the reader's type behind its union
  pub at_type : (p : Pair) (parts : Parts)
      → is_some (at_pair r w p parts)
      ≡ option_map_or (λ t. is_some (row_read (slice_get r t.index) (slice_get w p.writer.index) parts)) (row_type r w p) false
  at_type p parts = go (bars (clash_of r w p))
    where
      go : (b : Bool)
          → is_some (
          cond b None (
          through r w (slice_get r p.reader.index) p (λ q. row_read (slice_get r q.reader.index) (slice_get w q.writer.index) parts)))
          ≡ option_map_or (λ t. is_some (row_read (slice_get r t.index) (slice_get w p.writer.index) parts))
          (cond b None (behind r w (slice_get r p.reader.index) p)) false
      go true = refl
      go false = through_type (slice_get r p.reader.index) p (λ q. row_read (slice_get r q.reader.index) (slice_get w q.writer.index) parts)

  leaf_row : (m n : Option Node) → is_some (row_read m n of_leaf) ≡ both_leaves m n
  leaf_row (Some (kind.Primitive p)) (Some (kind.Primitive q)) = refl
  leaf_row (Some (kind.Primitive p)) n = refl
  leaf_row (Some (kind.Fixed a al s)) (Some (kind.Fixed b bl t)) = refl
  leaf_row (Some (kind.Fixed a al s)) n = refl
  leaf_row (Some (kind.Enum a al ss d)) (Some (kind.Enum b bl ts e)) = refl
  leaf_row (Some (kind.Enum a al ss d)) n = refl
  leaf_row (Some (kind.Array i)) (Some (kind.Array j)) = refl
  leaf_row (Some (kind.Array i)) n = refl
  leaf_row (Some (kind.Map i)) (Some (kind.Map j)) = refl
  leaf_row (Some (kind.Map i)) n = refl
  leaf_row (Some (kind.Record a al fs)) (Some (kind.Record b bl gs)) = refl
  leaf_row (Some (kind.Record a al fs)) n = refl
  leaf_row m n = refl

  symbol_row : (m n : Option Node) (s : List ℕ) → is_some (row_read m n (of_symbol s)) ≡ is_some (symbol_at m n s)
  symbol_row (Some (kind.Primitive p)) (Some (kind.Primitive q)) s = refl
  symbol_row (Some (kind.Primitive p)) n s = refl
  symbol_row (Some (kind.Fixed a al k)) (Some (kind.Fixed b bl t)) s = refl
  symbol_row (Some (kind.Fixed a al k)) n s = refl
  symbol_row (Some (kind.Enum a al ss d)) (Some (kind.Enum b bl ts e)) s =
      some_mapped symbol (symbol_at (Some (kind.Enum a al ss d)) (Some (kind.Enum b bl ts e)) s)
  symbol_row (Some (kind.Enum a al ss d)) n s = refl
  symbol_row (Some (kind.Array i)) (Some (kind.Array j)) s = refl
  symbol_row (Some (kind.Array i)) n s = refl
  symbol_row (Some (kind.Map i)) (Some (kind.Map j)) s = refl
  symbol_row (Some (kind.Map i)) n s = refl
  symbol_row (Some (kind.Record a al fs)) (Some (kind.Record b bl gs)) s = refl
  symbol_row (Some (kind.Record a al fs)) n s = refl
  symbol_row m n s = refl

  array_row : (m : Option Node) (j : NodeId) (read : Pair → Option Values)
      → is_some (row_read m (Some (kind.Array j)) (of_items read))
      ≡ option_map_or (λ i. is_some (read (pair i j))) (inner_at m (Some (kind.Array j))) false
  array_row (Some (kind.Array i)) j read = some_mapped list_of (read (pair i j))
  array_row m j read = refl

  map_row : (m : Option Node) (j : NodeId) (read : Pair → Option Members)
      → is_some (row_read m (Some (kind.Map j)) (of_values read))
      ≡ option_map_or (λ i. is_some (read (pair i j))) (inner_at m (Some (kind.Map j))) false
  map_row (Some (kind.Map i)) j read = some_mapped map_of (read (pair i j))
  map_row m j read = refl

  record_row : (m : Option Node) (a : _) (al : _) (gs : List Field) (read : List ℕ → Pair → Option Value)
      → is_some (row_read m (Some (kind.Record a al gs)) (of_fields read))
      ≡ option_map_or (λ fs. is_some (fields_read read gs fs))
      (option_map (λ found. found.0) (fields_at m (Some (kind.Record a al gs)))) false
  record_row (Some (kind.Record b bl fs)) a al gs read = some_mapped fields_of (fields_read read gs fs)
  record_row m a al gs read = refl

  -- ---- leaves and symbols

  same_map_or : {A : Type 0} (f g : A → Bool) → ((x : A) → f x ≡ g x) → (o : Option A) → option_map_or f o false ≡ option_map_or g o false
  same_map_or f g same None = refl
  same_map_or f g same (Some x) = same x

  map_or_chain : {A B : Type 0} (f : B → Bool) (g : A → Option B) (o : Option A)
      → option_map_or (λ x. option_map_or f (g x) false) o false ≡ option_map_or f (option_and_then g o) false
  map_or_chain f g None = refl
  map_or_chain f g (Some x) = refl

  pub leaf_reads : (p : Pair)
      → is_some (reads r w p leaf)
      ≡ option_map_or (λ t. both_leaves (slice_get r t.index) (slice_get w p.writer.index)) (row_type r w p) false
  leaf_reads p =
      at_type p of_leaf
      ∙ same_map_or (λ t. is_some (row_read (slice_get r t.index) (slice_get w p.writer.index) of_leaf))
      (λ t. both_leaves (slice_get r t.index) (slice_get w p.writer.index))
      (λ t. leaf_row (slice_get r t.index) (slice_get w p.writer.index)) (row_type r w p)

  pub symbol_reads : (p : Pair) (s : List ℕ)
      → is_some (reads r w p (symbol s))
      ≡ option_map_or (λ t. is_some (symbol_at (slice_get r t.index) (slice_get w p.writer.index) s)) (row_type r w p) false
  symbol_reads p s =
      at_type p (of_symbol s)
      ∙ same_map_or (λ t. is_some (row_read (slice_get r t.index) (slice_get w p.writer.index) (of_symbol s)))
      (λ t. is_some (symbol_at (slice_get r t.index) (slice_get w p.writer.index) s))
      (λ t. symbol_row (slice_get r t.index) (slice_get w p.writer.index) s) (row_type r w p)

  -- ---- lists and maps

  -- what each of the types is of, where all have something
  each_inner : (test : NodeId → Bool) (j : NodeId) (is : List ℕ)
      → list_all (λ i. option_map_or test (inner_type r w (pair_of i j)) false) is
      ≡ option_map_or (list_all (λ t. test (record { index = t }))) (inner_types r w j is) false
  each_inner test j [] = refl
  each_inner test j (i ∷ is) =
      ap (λ b. option_map_or test (inner_type r w (pair_of i j)) false && b) (each_inner test j is)
      ∙ go (inner_type r w (pair_of i j)) (inner_types r w j is)
    where
      and_false : (b : Bool) → (b && false) ≡ false
      and_false true = refl
      and_false false = refl

      go : (o : Option NodeId) (rest : Option (List ℕ))
          → (option_map_or test o false && option_map_or (list_all (λ t. test (record { index = t }))) rest false)
          ≡ option_map_or (list_all (λ t. test (record { index = t })))
          (option_and_then (λ t. option_map (λ ts. t.index ∷ ts) rest) o) false
      go None rest = refl
      go (Some t) None = and_false (test t)
      go (Some t) (Some ts) = refl

  list_reads : (p : Pair) (j : NodeId) (vs : Values) → slice_get w p.writer.index ≡ Some (kind.Array j)
      → is_some (reads r w p (list_of vs)) ≡ option_map_or (λ t. is_some (items_read r w (pair t j) vs)) (inner_type r w p) false
  list_reads p j vs is =
      at_type p (of_items (λ q. items_read r w q vs))
      ∙ same_map_or (λ t. is_some (row_read (slice_get r t.index) (slice_get w p.writer.index) (of_items (λ q. items_read r w q vs))))
      (λ t.
      option_map_or (λ i. is_some (items_read r w (pair i j) vs))
      (inner_at (slice_get r t.index) (slice_get w p.writer.index)) false)
      (λ t.
      subst
      (λ n.
      is_some (row_read (slice_get r t.index) n (of_items (λ q. items_read r w q vs)))
      ≡ option_map_or (λ i. is_some (items_read r w (pair i j) vs)) (inner_at (slice_get r t.index) n) false)
      (sym is) (array_row (slice_get r t.index) j (λ q. items_read r w q vs)))
      (row_type r w p)
      ∙ map_or_chain (λ i. is_some (items_read r w (pair i j) vs))
      (λ t. inner_at (slice_get r t.index) (slice_get w p.writer.index)) (row_type r w p)

  map_reads : (p : Pair) (j : NodeId) (ms : Members) → slice_get w p.writer.index ≡ Some (kind.Map j)
      → is_some (reads r w p (map_of ms)) ≡ option_map_or (λ t. is_some (values_read r w (pair t j) ms)) (inner_type r w p) false
  map_reads p j ms is =
      at_type p (of_values (λ q. values_read r w q ms))
      ∙ same_map_or (λ t. is_some (row_read (slice_get r t.index) (slice_get w p.writer.index) (of_values (λ q. values_read r w q ms))))
      (λ t.
      option_map_or (λ i. is_some (values_read r w (pair i j) ms))
      (inner_at (slice_get r t.index) (slice_get w p.writer.index)) false)
      (λ t.
      subst
      (λ n.
      is_some (row_read (slice_get r t.index) n (of_values (λ q. values_read r w q ms)))
      ≡ option_map_or (λ i. is_some (values_read r w (pair i j) ms)) (inner_at (slice_get r t.index) n) false)
      (sym is) (map_row (slice_get r t.index) j (λ q. values_read r w q ms)))
      (row_type r w p)
      ∙ map_or_chain (λ i. is_some (values_read r w (pair i j) ms))
      (λ t. inner_at (slice_get r t.index) (slice_get w p.writer.index)) (row_type r w p)

  -- whether each type reads all items, or all values
  abbrev pub all_items : List ℕ → NodeId → Values → Bool
  all_items ts j vs = list_all (λ t. is_some (items_read r w (pair_of t j) vs)) ts

  abbrev pub all_values : List ℕ → NodeId → Members → Bool
  all_values ts j ms = list_all (λ t. is_some (values_read r w (pair_of t j) ms)) ts

  pub all_lists : (is : List ℕ) (j inner : NodeId) (vs : Values) → slice_get w j.index ≡ Some (kind.Array inner)
      → all_read r w is j (list_of vs) ≡ option_map_or (λ ts. all_items ts inner vs) (inner_types r w j is) false
  all_lists is j inner vs at =
      all_same (λ i. is_some (reads r w (pair_of i j) (list_of vs)))
      (λ i. option_map_or (λ t. is_some (items_read r w (pair t inner) vs)) (inner_type r w (pair_of i j)) false)
      (λ i. list_reads (pair_of i j) inner vs at) is
      ∙ each_inner (λ t. is_some (items_read r w (pair t inner) vs)) j is

  pub all_maps : (is : List ℕ) (j inner : NodeId) (ms : Members) → slice_get w j.index ≡ Some (kind.Map inner)
      → all_read r w is j (map_of ms) ≡ option_map_or (λ ts. all_values ts inner ms) (inner_types r w j is) false
  all_maps is j inner ms at =
      all_same (λ i. is_some (reads r w (pair_of i j) (map_of ms)))
      (λ i. option_map_or (λ t. is_some (values_read r w (pair t inner) ms)) (inner_type r w (pair_of i j)) false)
      (λ i. map_reads (pair_of i j) inner ms at) is
      ∙ each_inner (λ t. is_some (values_read r w (pair t inner) ms)) j is

  pub one_item : (ts : List ℕ) (j : NodeId) (v : Value) (vs : Values)
      → all_items ts j (value v vs) ≡ (all_read r w ts j v && all_items ts j vs)
  one_item ts j v vs =
      all_same (λ t. is_some (items_read r w (pair_of t j) (value v vs)))
      (λ t. is_some (reads r w (pair_of t j) v) && is_some (items_read r w (pair_of t j) vs))
      (λ t. some_chained value (reads r w (pair_of t j) v) (items_read r w (pair_of t j) vs)) ts
      ∙ all_both (λ t. is_some (reads r w (pair_of t j) v)) (λ t. is_some (items_read r w (pair_of t j) vs)) ts

  pub one_value : (ts : List ℕ) (j : NodeId) (k : List ℕ) (v : Value) (ms : Members)
      → all_values ts j (member k v ms) ≡ (all_read r w ts j v && all_values ts j ms)
  one_value ts j k v ms =
      all_same (λ t. is_some (values_read r w (pair_of t j) (member k v ms)))
      (λ t. is_some (reads r w (pair_of t j) v) && is_some (values_read r w (pair_of t j) ms))
      (λ t. some_chained (member k) (reads r w (pair_of t j) v) (values_read r w (pair_of t j) ms)) ts
      ∙ all_both (λ t. is_some (reads r w (pair_of t j) v)) (λ t. is_some (values_read r w (pair_of t j) ms)) ts

  pub no_items : (ts : List ℕ) (j : NodeId) → all_items ts j no_values ≡ true
  no_items ts j = all_pass (λ t. is_some (items_read r w (pair_of t j) no_values)) (λ t. refl) ts

  pub no_members_left : (ts : List ℕ) (j : NodeId) → all_values ts j no_members ≡ true
  no_members_left ts j = all_pass (λ t. is_some (values_read r w (pair_of t j) no_members)) (λ t. refl) ts

  -- ---- branches

  pub all_branches : (is : List ℕ) (j b : NodeId) (k : ℕ) (v : Value) → branch_at (slice_get w j.index) k ≡ Some b
      → all_read r w is j (branch k v) ≡ (not (list_any (λ i. bars (clash_of r w (pair_of i j))) is) && all_read r w is b v)
  all_branches is j b k v at =
      all_same (λ i. is_some (reads r w (pair_of i j) (branch k v)))
      (λ i. not (bars (clash_of r w (pair_of i j))) && is_some (reads r w (pair_of i b) v)) one is
      ∙ all_both (λ i. not (bars (clash_of r w (pair_of i j)))) (λ i. is_some (reads r w (pair_of i b) v)) is
      ∙ ap (λ c. c && all_read r w is b v) (none_any is)
    where
      one : (i : ℕ)
          → is_some (reads r w (pair_of i j) (branch k v))
          ≡ (not (bars (clash_of r w (pair_of i j))) && is_some (reads r w (pair_of i b) v))
      one i =
          some_unless (bars (clash_of r w (pair_of i j)))
          (option_and_then (λ c. reads r w (pair (record { index = i }) c) v) (branch_at (slice_get w j.index) k))
          ∙ ap (λ o.
          not (bars (clash_of r w (pair_of i j))) && is_some (option_and_then (λ c. reads r w (pair (record { index = i }) c) v) o)) at

      none_any : (is : List ℕ)
          → list_all (λ i. not (bars (clash_of r w (pair_of i j)))) is ≡ not (list_any (λ i. bars (clash_of r w (pair_of i j))) is)
      none_any [] = refl
      none_any (i ∷ is) =
          ap (λ b. not (bars (clash_of r w (pair_of i j))) && b) (none_any is)
          ∙ or_not (bars (clash_of r w (pair_of i j))) (list_any (λ i. bars (clash_of r w (pair_of i j))) is)
        where
          or_not : (a b : Bool) → (not a && not b) ≡ not (a || b)
          or_not true b = refl
          or_not false b = refl

  -- ---- records

  -- a field that was written, by its place
  pub record IsLocated (gs : List Field) (ms : Members) (s : List ℕ) (g : Field) (n : ℕ) : Type 0 where
    pub place : ℕ
    pub counted : position_from (λ h. bytes_eq h.name s) n gs ≡ Some (n + place)
    pub field : slice_get gs place ≡ Some g
    pub read : (q : Pair) → named_read r w s q ms ≡ option_and_then (reads r w q) (value_at ms place)

  pub located : (gs : List Field) (ms : Members) (s : List ℕ) (g : Field) (n : ℕ)
      → fields_fit w gs ms ≡ true → field_named gs s ≡ Some g → IsLocated gs ms s g n
  located [] ms s g n fit named = absurd (cc)
  located (f ∷ fs) no_members s g n fit named = absurd (cc)
  located (f ∷ fs) (member m v ms) s g n fit named =
      go (bytes_eq f.name s) refl named
      (λ e. located fs ms s g (n + 1) (and_right (bytes_eq f.name m && fits w f.node v) (fields_fit w fs ms) fit) e)
    where
      first : bytes_eq f.name m ≡ true
      first = and_left (bytes_eq f.name m) (fits w f.node v) (and_left (bytes_eq f.name m && fits w f.node v) (fields_fit w fs ms) fit)

      same : m ≡ f.name
      same = sym ((bytes_eq-Decides f.name m).0 first)

      go : (b : Bool) → bytes_eq f.name s ≡ b → cond b (Some f) (field_named fs s) ≡ Some g
          → (field_named fs s ≡ Some g → IsLocated fs ms s g (n + 1)) → IsLocated (f ∷ fs) (member m v ms) s g n
      go true is e later = record {
        place = 0;
        counted = ap (λ b. cond b (Some n) (position_from (λ h. bytes_eq h.name s) (n + 1) fs)) is ∙ ap Some (omega arith);
        field = e;
        read = λ q. ap (λ b. cond b (reads r w q v) (named_read r w s q ms)) (ap (λ t. bytes_eq t s) same ∙ is);
      }
      go false is e later =
          let there : IsLocated fs ms s g (n + 1) = later e in
          record {
            place = suc there.place;
            counted =
                ap (λ b. cond b (Some n) (position_from (λ h. bytes_eq h.name s) (n + 1) fs)) is ∙ there.counted ∙ ap Some (omega arith);
            field = there.field;
            read = λ q. ap (λ b. cond b (reads r w q v) (named_read r w s q ms)) (ap (λ t. bytes_eq t s) same ∙ is) ∙ there.read q;
          }

  field_reads : (gs : List Field) (ms : Members) (f : Field) → fields_fit w gs ms ≡ true
      → is_some (field_read (λ name q. named_read r w name q ms) f (partner gs f)) ≡ field_passes (place_reads r w gs ms) gs f
  field_reads gs ms f fit = go (partner gs f) refl
    where
      go : (o : Option Field) → partner gs f ≡ o
          → is_some (field_read (λ name q. named_read r w name q ms) f o)
          ≡ option_map_or (λ k. place_reads r w gs ms k f.node.index)
          (option_and_then (λ g. position (λ h. bytes_eq h.name g.name) gs) o) true
      go None is = refl
      go (Some g) is =
          let at = located gs ms g.name g 0 fit (first_named gs (f.name ∷ f.aliases) g is) in
          let place : position (λ h. bytes_eq h.name g.name) gs ≡ Some at.place =
          position_from-zero (λ (h : Field). bytes_eq h.name g.name) gs ∙ at.counted ∙ ap Some (omega arith) in
          ap is_some (at.read (pair f.node g.node))
          ∙ ap (λ o. is_some (option_and_then (λ h. option_and_then (λ v. reads r w (pair f.node h.node) v) (value_at ms at.place)) o))
          (sym at.field)
          ∙ ap (λ o. option_map_or (λ k. place_reads r w gs ms k f.node.index) o true) (sym place)

  fields_some : (read : List ℕ → Pair → Option Value) (gs fs : List Field)
      → is_some (fields_read read gs fs) ≡ list_all (λ f. is_some (field_read read f (partner gs f))) fs
  fields_some read gs [] = refl
  fields_some read gs (f ∷ fs) =
      some_chained (member f.name) (field_read read f (partner gs f)) (fields_read read gs fs)
      ∙ ap (λ b. is_some (field_read read f (partner gs f)) && b) (fields_some read gs fs)

  pub all_records : (is : List ℕ) (j : NodeId) (a : _) (al : _) (gs : List Field) (ms : Members)
      → slice_get w j.index ≡ Some (kind.Record a al gs) → fields_fit w gs ms ≡ true
      → all_read r w is j (fields_of ms) ≡ list_all (λ i. type_passes r w (place_reads r w gs ms) gs (pair_of i j)) is
  all_records is j a al gs ms at fit =
      all_same (λ i. is_some (reads r w (pair_of i j) (fields_of ms)))
      (λ i. type_passes r w (place_reads r w gs ms) gs (pair_of i j)) (λ i. one (pair_of i j) at) is
    where
      read : List ℕ → Pair → Option Value
      read = λ name q. named_read r w name q ms

      each : (fs : List Field)
          → is_some (fields_read (λ name q. named_read r w name q ms) gs fs) ≡ list_all (field_passes (place_reads r w gs ms) gs) fs
      each fs =
          fields_some (λ name q. named_read r w name q ms) gs fs
          ∙ all_same (λ f. is_some (field_read (λ name q. named_read r w name q ms) f (partner gs f)))
          (field_passes (place_reads r w gs ms) gs) (λ f. field_reads gs ms f fit) fs

      one : (p : Pair) → slice_get w p.writer.index ≡ Some (kind.Record a al gs)
          → is_some (reads r w p (fields_of ms)) ≡ type_passes r w (place_reads r w gs ms) gs p
      one p is =
          at_type p (of_fields (λ name q. named_read r w name q ms))
          ∙ same_map_or
          (λ t. is_some (row_read (slice_get r t.index) (slice_get w p.writer.index) (of_fields (λ name q. named_read r w name q ms))))
          (λ t.
          option_map_or (λ fs. is_some (fields_read (λ name q. named_read r w name q ms) gs fs))
          (option_map (λ found. found.0) (fields_at (slice_get r t.index) (slice_get w p.writer.index))) false)
          (λ t.
          subst
          (λ n.
          is_some (row_read (slice_get r t.index) n (of_fields (λ name q. named_read r w name q ms)))
          ≡ option_map_or (λ fs. is_some (fields_read (λ name q. named_read r w name q ms) gs fs))
          (option_map (λ found. found.0) (fields_at (slice_get r t.index) n)) false)
          (sym is) (record_row (slice_get r t.index) a al gs (λ name q. named_read r w name q ms)))
          (row_type r w p)
          ∙ map_or_chain (λ fs. is_some (fields_read (λ name q. named_read r w name q ms) gs fs))
          (λ t. option_map (λ found. found.0) (fields_at (slice_get r t.index) (slice_get w p.writer.index))) (row_type r w p)
          ∙ same_map_or (λ fs. is_some (fields_read (λ name q. named_read r w name q ms) gs fs))
          (λ fs. list_all (field_passes (place_reads r w gs ms) gs) fs) each (fields_type r w p)

  pub fit_place : (gs : List Field) (ms : Members) (k : ℕ) (g : Field) (v : Value)
      → fields_fit w gs ms ≡ true → slice_get gs k ≡ Some g → value_at ms k ≡ Some v → fits w g.node v ≡ true
  fit_place [] ms k g v fit field at = absurd (cc)
  fit_place (f ∷ fs) no_members k g v fit field at = absurd (cc)
  fit_place (f ∷ fs) (member n x ms) zero g v fit field at =
      let one : f ≡ g = cc in
      let two : x ≡ v = cc in
      subst (λ (h : Field). fits w h.node v ≡ true) one
      (subst (λ y. fits w f.node y ≡ true) two
      (and_right (bytes_eq f.name n) (fits w f.node x) (and_left (bytes_eq f.name n && fits w f.node x) (fields_fit w fs ms) fit)))
  fit_place (f ∷ fs) (member n x ms) (suc k) g v fit field at =
      fit_place fs ms k g v (and_right (bytes_eq f.name n && fits w f.node x) (fields_fit w fs ms) fit) field at

  -- as many fields as there are members
  pub fit_length : (gs : List Field) (es : List Entry) → fields_fit w gs (members_view es) ≡ true → length gs ≡ length es
  fit_length [] [] fit = refl
  fit_length [] (e ∷ es) fit = absurd (cc)
  fit_length (f ∷ fs) [] fit = absurd (cc)
  fit_length (f ∷ fs) (e ∷ es) fit =
      ap suc (fit_length fs es (and_right (bytes_eq f.name e.0 && fits w f.node (view e.1)) (fields_fit w fs (members_view es)) fit))

-- the member at a place
pub value_of : (es : List Entry) (k : ℕ) (e : Entry) → slice_get es k ≡ Some e → value_at (members_view es) k ≡ Some (view e.1)
value_of [] k e at = absurd (cc)
value_of (f ∷ es) zero e at = let same : f ≡ e = cc in ap (λ (x : Entry). Some (view x.1)) same
value_of (f ∷ es) (suc k) e at = value_of es k e at

-- ---- lists of types

bool_same : (a b : Bool) → (a ≡ true → b ≡ true) → (b ≡ true → a ≡ true) → a ≡ b
bool_same true b to back = sym (to refl)
bool_same false true to back = back refl
bool_same false false to back = refl

-- sorting, and leaving one of each, changes no test of all
pub each_once : (test : ℕ → Bool) (xs sorted : List ℕ) → IsPermutation xs sorted → list_all test (dedup eqb sorted) ≡ list_all test xs
each_once test xs sorted moved = bool_same (list_all test (dedup eqb sorted)) (list_all test xs) back to
  where
    to : list_all test xs ≡ true → list_all test (dedup eqb sorted) ≡ true
    to all =
        list_all-from_AllPass test (dedup eqb sorted)
        (All-dedup eqb (λ x. test x ≡ true) sorted
        (All-permutation (λ x. test x ≡ true) xs sorted moved (AllPass-from_list_all test xs all)))

    back : list_all test (dedup eqb sorted) ≡ true → list_all test xs ≡ true
    back all =
        list_all-from_AllPass test xs (
        All-weaker (Contains xs) (λ x. test x ≡ true)
        (λ x held.
        All-contains (λ y. test y ≡ true) (dedup eqb sorted) x (AllPass-from_list_all test (dedup eqb sorted) all)
        (Contains-dedup_nat sorted x (Contains-permutation xs sorted x moved held))) xs
        (All-contains_itself xs))

-- one more type at a place
pub one_asked : (test : ℕ → ℕ → Bool) (lists : List (List ℕ)) (n k i : ℕ) (is : List ℕ) → slice_get lists k ≡ Some is
    → lists_pass test n (set lists k (is ++ i ∷ [])) ≡ (lists_pass test n lists && test (n + k) i)
one_asked test [] n k i is at = absurd (cc)
one_asked test (x ∷ lists) n zero i is at =
    let same : x ≡ is = cc in
    ap (λ ys. list_all (test n) (ys ++ i ∷ []) && lists_pass test (n + 1) lists) (sym same)
    ∙ ap (λ b. b && lists_pass test (n + 1) lists) (list_all-append (test n) x (i ∷ []))
    ∙ swap (list_all (test n) x) (test n i) (lists_pass test (n + 1) lists)
    ∙ ap (λ m. (list_all (test n) x && lists_pass test (n + 1) lists) && test m i) (omega arith)
  where
    swap : (a b c : Bool) → ((a && (b && true)) && c) ≡ ((a && c) && b)
    swap false b c = refl
    swap true false false = refl
    swap true false true = refl
    swap true true false = refl
    swap true true true = refl
one_asked test (x ∷ lists) n (suc k) i is at =
    ap (λ b. list_all (test n) x && b)
    (one_asked test lists (n + 1) k i is at ∙ ap (λ m. lists_pass test (n + 1) lists && test m i) (omega arith))
    ∙ regroup (list_all (test n) x) (lists_pass test (n + 1) lists) (test (n + suc k) i)
  where
    regroup : (a b c : Bool) → (a && (b && c)) ≡ ((a && b) && c)
    regroup true b c = refl
    regroup false b c = refl

pub none_asked : (test : ℕ → ℕ → Bool) (count n : ℕ) → lists_pass test n (replicate count []) ≡ true
none_asked test zero n = refl
none_asked test (suc count) n = none_asked test count (n + 1)

-- the types that are listed for a place, and those after it
pub lists_from : (test : ℕ → ℕ → Bool) (lists : List (List ℕ)) (k n : ℕ)
    → lists_pass test n (drop k lists)
    ≡ (list_all (test n) (unwrap_or (slice_get lists k) []) && lists_pass test (n + 1) (drop (suc k) lists))
lists_from test [] zero n = refl
lists_from test [] (suc k) n = refl
lists_from test (x ∷ lists) zero n = refl
lists_from test (x ∷ lists) (suc k) n = lists_from test lists k n

pub and_assoc : (a b c : Bool) → ((a && b) && c) ≡ (a && (b && c))
and_assoc true b c = refl
and_assoc false b c = refl

pub and_true : (a : Bool) → (a && true) ≡ a
and_true true = refl
and_true false = refl

-- ---- what the types are of, one after the other

pub none_before : (o : Option (List ℕ)) → o ≡ option_map (λ ts. [] ++ ts) o
none_before None = refl
none_before (Some ts) = refl

pub types_last : (r w : List Node) (j : NodeId) (done : List ℕ) (i : ℕ) (t : NodeId) (is : List ℕ) → inner_type r w (pair_of i j) ≡ Some t
    → option_map (λ ts. done ++ ts) (inner_types r w j (i ∷ is)) ≡ option_map (λ ts. (done ++ t.index ∷ []) ++ ts) (inner_types r w j is)
types_last r w j done i t is at =
    ap (λ o. option_map (λ ts. done ++ ts) (option_and_then (λ s. option_map (λ ts. s.index ∷ ts) (inner_types r w j is)) o)) at
    ∙ go (inner_types r w j is)
  where
    go : (rest : Option (List ℕ))
        → option_map (λ ts. done ++ ts) (option_map (λ ts. t.index ∷ ts) rest) ≡ option_map (λ ts. (done ++ t.index ∷ []) ++ ts) rest
    go None = refl
    go (Some ts) = ap Some (sym (append_assoc done (t.index ∷ []) ts))

pub types_none : (r w : List Node) (j : NodeId) (done : List ℕ) (i : ℕ) (is : List ℕ)
    → inner_type r w (pair_of i j) ≡ None → option_map (λ ts. done ++ ts) (inner_types r w j (i ∷ is)) ≡ None
types_none r w j done i is at =
    ap (λ o. option_map (λ ts. done ++ ts) (option_and_then (λ s. option_map (λ ts. s.index ∷ ts) (inner_types r w j is)) o)) at

-- the place that a field reads is one of the writer's fields
pub place_within : (gs : List Field) (f : Field) (k : ℕ) → place_read gs f ≡ Some k → k < length gs
place_within gs f k is = go (partner gs f) is
  where
    go : (o : Option Field) → option_and_then (λ g. position (λ h. bytes_eq h.name g.name) gs) o ≡ Some k → k < length gs
    go None e = absurd (cc)
    go (Some g) e = (position-Some (λ (h : Field). bytes_eq h.name g.name) gs k g e).0

-- the types that are listed for a place read the member that is there
pub place_passes : (r w : List Node) (gs : List Field) (ms : Members)
    (k : ℕ) (g : Field) (v : Value) (types : List ℕ) (lists : List (List ℕ))
    → slice_get gs k ≡ Some g → value_at ms k ≡ Some v → ((t : ℕ → Bool) → list_all t types ≡ list_all t (unwrap_or (slice_get lists k) []))
    → lists_pass (place_reads r w gs ms) k (drop k lists)
    ≡ (all_read r w types g.node v && lists_pass (place_reads r w gs ms) (k + 1) (drop (k + 1) lists))
place_passes r w gs ms k g v types lists field at each =
    let one : suc k ≡ k + 1 = omega arith in
    lists_from (place_reads r w gs ms) lists k k
    ∙ ap (λ b. b && lists_pass (place_reads r w gs ms) (k + 1) (drop (suc k) lists)) (sym (each (place_reads r w gs ms k))
    ∙ ap (λ o.
    list_all (λ i.
    is_some (option_and_then (λ h. option_and_then (λ x. reads r w (pair_of i h.node) x) (value_at ms k)) o)) types) field
    ∙ ap (λ o. list_all (λ i. is_some (option_and_then (λ x. reads r w (pair_of i g.node) x) o)) types) at)
    ∙ ap (λ n. all_read r w types g.node v && lists_pass (place_reads r w gs ms) (k + 1) (drop n lists)) one

-- there is an element at each place below the length
pub none_past : {A : Type 0} (xs : List A) (k : ℕ) → k < length xs → slice_get xs k ≡ None → ⊥
none_past [] k below e = omega (arith, below)
none_past (x ∷ xs) zero below e = cc
none_past (x ∷ xs) (suc k) below e = none_past xs k (omega (arith, below)) e
