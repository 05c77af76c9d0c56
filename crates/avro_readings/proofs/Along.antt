-- Values that are read one after another.
use Rattle.std.proofs.Common.{◌≡◌, ℕ, List, [], ◌∷◌, ◌++◌, map, nat_cmp, Less, Greater, Option, Some, None, option_map}
use Rattle.std.proofs.Common.{option_and_then, slice_get, Vec, Global, rules, refl, sym, ◌∙◌, ap, subst, append_assoc}
use Rattle.std.proofs.lemmas.Cmp.{nat_list_cmp_total}
use Rattle.std.proofs.lemmas.List.{map-append}
use Rattle.std.specs.Cmp.Lexicographic.{slice_cmp}
use Rattle.std.specs.Ordering.{ordering_reverse}
use Rattle.std.specs.List.{AllByRecursion}
use Rattle.std.specs.List.Sorted.{IsStrictlySortedBy}
use Rattle.std.specs.Map.{keys_of}
use Rattle.std.specs.BTreeMap.{insert_entry}
use Rattle.avro_resolve.specs.avro_schema.declared.node.Field.{Field}
use Rattle.avro_resolve.specs.avro_schema.declared.node.Node.{Node}
use Rattle.avro_resolve.specs.avro_schema.declared.node.Node.TheVariants as kind
use Rattle.avro_resolve.specs.declared.obligations.Pair.{Pair}
use Rattle.avro_resolve.specs.Pairing.{partner}
use Rattle.avro_data.specs.Value.{Value, Values, value, Members, member, fields_of}
use Rattle.avro_data.specs.View.{view, values_view, members_view}
use Rattle.avro_data.specs.declared.data.Data.{Data, Fields, the_lemmas}
use Rattle.avro_readings.specs.Reads.{of_fields, row_read, field_read, fields_read, reads, items_read, values_read, named_read}
use Rattle.avro_readings.specs.Steps.{values_before, members_before, fields_at, row_reading}

abbrev pub Entry : Type 0
Entry = List ℕ × Data

abbrev pub seen : Entry → List ℕ × Value
seen e = (e.0, view e.1)

-- the keys so far are those of the entries that were passed
pub record IsCopied (all done left : List Entry) : Type 0 where
  pub passed : List Entry
  pub is : all ≡ passed ++ left
  pub keys : keys_of done ≡ keys_of passed

-- ---- lists

pub values_last : (xs : List Value) (x : Value) (rest : Option Values)
    → option_map (values_before xs) (option_map (value x) rest) ≡ option_map (values_before (xs ++ x ∷ [])) rest
values_last xs x None = refl
values_last xs x (Some vs) = ap Some (go xs)
  where
    go : (ys : List Value) → values_before ys (value x vs) ≡ values_before (ys ++ x ∷ []) vs
    go [] = refl
    go (y ∷ ys) = ap (value y) (go ys)

pub values_all : (ds : List Data) → values_before (map view ds) (values_view []) ≡ values_view ds
values_all [] = refl
values_all (d ∷ ds) = ap (value (view d)) (values_all ds)

pub members_last : (xs : List (List ℕ × Value)) (x : List ℕ × Value) (rest : Option Members)
    → option_map (members_before xs) (option_map (member x.0 x.1) rest) ≡ option_map (members_before (xs ++ x ∷ [])) rest
members_last xs x None = refl
members_last xs x (Some ms) = ap Some (go xs)
  where
    go : (ys : List (List ℕ × Value)) → members_before ys (member x.0 x.1 ms) ≡ members_before (ys ++ x ∷ []) ms
    go [] = refl
    go (y ∷ ys) = ap (member y.0 y.1) (go ys)

pub members_all : (es : List Entry) → members_before (map seen es) (members_view []) ≡ members_view es
members_all [] = refl
members_all (e ∷ es) = ap (member e.0 (view e.1)) (members_all es)

-- ---- maps

below_middle : (first : List ℕ) (ks : List (List ℕ)) (k : List ℕ) (more : List (List ℕ))
    → AllByRecursion (λ y. slice_cmp nat_cmp first y ≡ Less) (ks ++ k ∷ more) → slice_cmp nat_cmp first k ≡ Less
below_middle first [] k more h = h.0
below_middle first (l ∷ ks) k more h = below_middle first ks k more h.1

-- a key that is above those before it goes last
put_last : (es : List Entry) (k : List ℕ) (d : Data) (more : List (List ℕ))
    → IsStrictlySortedBy (slice_cmp nat_cmp) (keys_of es ++ k ∷ more) → insert_entry (slice_cmp nat_cmp) es k d ≡ es ++ (k, d) ∷ []
unfolding IsStrictlySortedBy
put_last [] k d more h = refl
put_last (first ∷ es) k d more h =
    let above : slice_cmp nat_cmp k first.0 ≡ Greater =
    nat_list_cmp_total.antisymm k first.0 ∙ ap ordering_reverse (below_middle first.0 (keys_of es) k more h.0) in
    rw above (ap (λ rest. first ∷ rest) (put_last es k d more h.1))

keys_of-append : (es fs : List Entry) → keys_of (es ++ fs) ≡ keys_of es ++ keys_of fs
keys_of-append [] fs = refl
keys_of-append (e ∷ es) fs = ap (λ ks. e.0 ∷ ks) (keys_of-append es fs)

module _ (all done left : List Entry) (copied : IsCopied all done left) (e : Entry) (next : List Entry)
    (is : left ≡ e ∷ next) (ordered : IsStrictlySortedBy (slice_cmp nat_cmp) (keys_of all)) where
  whole : all ≡ copied.passed ++ e ∷ next
  whole = copied.is ∙ ap (λ es. copied.passed ++ es) is

  -- the copy of the next entry goes last
  pub next_last : (d : Data) → insert_entry (slice_cmp nat_cmp) done e.0 d ≡ done ++ (e.0, d) ∷ []
  next_last d =
      let keys : keys_of all ≡ keys_of done ++ e.0 ∷ keys_of next =
      ap keys_of whole ∙ keys_of-append copied.passed (e ∷ next) ∙ ap (λ ks. ks ++ e.0 ∷ keys_of next) (sym copied.keys) in
      put_last done e.0 d (keys_of next) (subst (IsStrictlySortedBy (slice_cmp nat_cmp)) keys ordered)

  pub next_copied : (d : Data) → IsCopied all (done ++ (e.0, d) ∷ []) next
  next_copied d = record {
    passed = copied.passed ++ e ∷ [];
    is = whole ∙ sym (append_assoc copied.passed (e ∷ []) next);
    keys = keys_of-append done ((e.0, d) ∷ []) ∙ ap (λ ks. ks ++ e.0 ∷ []) copied.keys ∙ sym (keys_of-append copied.passed (e ∷ []));
  }

-- ---- one more

module _ (r w : List Node) (q : Pair) where
  pub items_step : (all left next done more : List Data) (x found : Data)
      → items_read r w q (values_view all) ≡ option_map (values_before (map view done)) (items_read r w q (values_view left))
      → left ≡ x ∷ next → option_map view (Some found) ≡ reads r w q (view x) → more ≡ done ++ found ∷ []
      → items_read r w q (values_view all) ≡ option_map (values_before (map view more)) (items_read r w q (values_view next))
  items_step all left next done more x found so_far is read pushed =
      so_far ∙ ap (λ ys. option_map (values_before (map view done)) (items_read r w q (values_view ys))) is
      ∙ ap
      (λ o.
      option_map (values_before (map view done))
      (option_and_then (λ v. option_map (value v) (items_read r w q (values_view next))) o))
      (sym read)
      ∙ values_last (map view done) (view found) (items_read r w q (values_view next))
      ∙ ap (λ vs. option_map (values_before vs) (items_read r w q (values_view next)))
      (sym (ap (map view) pushed ∙ map-append view done (found ∷ [])))

  pub values_step : (all left next done more : List Entry) (e : Entry) (found : Data)
      → values_read r w q (members_view all) ≡ option_map (members_before (map seen done)) (values_read r w q (members_view left))
      → left ≡ e ∷ next → option_map view (Some found) ≡ reads r w q (view e.1) → more ≡ done ++ (e.0, found) ∷ []
      → values_read r w q (members_view all) ≡ option_map (members_before (map seen more)) (values_read r w q (members_view next))
  values_step all left next done more e found so_far is read pushed =
      so_far ∙ ap (λ ys. option_map (members_before (map seen done)) (values_read r w q (members_view ys))) is
      ∙ ap
      (λ o.
      option_map (members_before (map seen done))
      (option_and_then (λ v. option_map (member e.0 v) (values_read r w q (members_view next))) o))
      (sym read)
      ∙ members_last (map seen done) (e.0, view found) (values_read r w q (members_view next))
      ∙ ap (λ vs. option_map (members_before vs) (values_read r w q (members_view next)))
      (sym (ap (map seen) pushed ∙ map-append seen done ((e.0, found) ∷ [])))

pub fields_step : (read : List ℕ → Pair → Option Value) (gs all left next : List Field) (done more : List Entry) (f : Field) (found : Data)
    → fields_read read gs all ≡ option_map (members_before (map seen done)) (fields_read read gs left) → left ≡ f ∷ next
    → option_map view (Some found) ≡ field_read read f (partner gs f) → more ≡ done ++ (f.name, found) ∷ []
    → fields_read read gs all ≡ option_map (members_before (map seen more)) (fields_read read gs next)
fields_step read gs all left next done more f found so_far is here pushed =
    so_far ∙ ap (λ ys. option_map (members_before (map seen done)) (fields_read read gs ys)) is
    ∙ ap
    (λ o.
    option_map (members_before (map seen done)) (option_and_then (λ v. option_map (member f.name v) (fields_read read gs next)) o))
    (sym here)
    ∙ members_last (map seen done) (f.name, view found) (fields_read read gs next)
    ∙ ap (λ vs. option_map (members_before vs) (fields_read read gs next))
    (sym (ap (map seen) pushed ∙ map-append seen done ((f.name, found) ∷ [])))

-- ---- two records

row_of_fields : (m n : Option Node) (read : List ℕ → Pair → Option Value) (fs gs : List Field)
    → fields_at m n ≡ Some (fs, gs) → row_read m n (of_fields read) ≡ option_map fields_of (fields_read read gs fs)
row_of_fields (Some (kind.Record m al fs)) (Some (kind.Record n bl gs)) read hs ks e =
    let same : (fs, gs) ≡ (hs, ks) = cc in ap (λ (p : List Field × List Field). option_map fields_of (fields_read read p.1 p.0)) same
row_of_fields (Some (kind.Record m al fs)) _ read hs ks e = absurd (cc)
row_of_fields _ n read hs ks e = absurd (cc)

pub view-Fields : (v : Vec Entry Global) → view (Fields v) ≡ fields_of (members_view v.items)
view-Fields v = search (rules, the_lemmas)

-- what was read of the fields, as a whole
pub row_fields : (r w : List Node) (p : Pair) (m n : Option Node)
    (fs gs : List Field) (ms : Members) (given : Value) (found : Vec Entry Global)
    → m ≡ slice_get r p.reader.index → n ≡ slice_get w p.writer.index → fields_at m n ≡ Some (fs, gs) → given ≡ fields_of ms
    → Some (members_view found.items) ≡ fields_read (λ name q. named_read r w name q ms) gs fs
    → Some (view (Fields found)) ≡ row_reading r w given p
row_fields r w p m n fs gs ms given found reader writer are is read =
    ap Some (view-Fields found)
    ∙ ap (option_map fields_of) read
    ∙ sym (row_of_fields m n (λ name q. named_read r w name q ms) fs gs are)
    ∙ ap (λ o. row_read o n (of_fields (λ name q. named_read r w name q ms))) reader
    ∙ ap (λ o. row_read (slice_get r p.reader.index) o (of_fields (λ name q. named_read r w name q ms))) writer
    ∙ ap (λ v. row_reading r w v p) (sym is)
