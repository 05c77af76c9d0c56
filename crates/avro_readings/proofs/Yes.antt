-- Where two schemas are compatible, each value of the writer's has a reading: by recursion on the value.
use Rattle.std.proofs.Common.{◌≡◌, ◌≢◌, ℕ, suc, List, [], ◌∷◌, Bool, true, false, ◌&&◌, cond, Option, Some, None, IsSome, is_some, Result}
use Rattle.std.proofs.Common.{Ok, option_map, option_and_then, find, filter_map, slice_get, bytes_eq, refl, sym, ◌∙◌, ap, subst}
use Rattle.std.specs.List.{enumerate_from, cons_option}
use Rattle.std.specs.Result.{result_err, result_unwrap_or}
use Rattle.std.proofs.lemmas.Slice.Eq.{bytes_eq-Decides}
use Rattle.std.proofs.lemmas.Option.{slice_get_within, get_or_from_slice_get}
use Rattle.avro_resolve.specs.avro_schema.declared.node.NodeId.{NodeId}
use Rattle.avro_resolve.specs.avro_schema.declared.node.FullName.{FullName}
use Rattle.avro_resolve.specs.avro_schema.declared.node.Field.{Field}
use Rattle.avro_resolve.specs.avro_schema.declared.node.Node.{Node}
use Rattle.avro_resolve.specs.avro_schema.declared.node.Node.TheVariants as kind
use Rattle.avro_resolve.specs.avro_schema.Defaults.{field_named}
use Rattle.avro_resolve.specs.avro_schema.Sound.{IsSound}
use Rattle.avro_resolve.specs.declared.trail.Hop.TheVariants as hop
use Rattle.avro_resolve.specs.declared.trail.ClashKind.{ClashKind}
use Rattle.avro_resolve.specs.declared.trail.ClashKind.TheVariants as clash
use Rattle.avro_resolve.specs.declared.obligations.Pair.{Pair}
use Rattle.avro_resolve.specs.declared.obligations.Obligation.{Obligation}
use Rattle.avro_resolve.specs.Inward.{is_union_node}
use Rattle.avro_resolve.specs.Match.{matches}
use Rattle.avro_resolve.specs.Pairing.{partner}
use Rattle.avro_resolve.specs.Table.{obligation, to_reader_branch, plain_row, row, outcome, clash_of, obligations}
use Rattle.avro_resolve.specs.Trails.{roots, AreCompatibleAt, AreCompatibleByObligations}
use Rattle.avro_data.specs.Value.{Value, leaf, symbol, list_of, map_of, branch, fields_of}
use Rattle.avro_data.specs.Value.{by_default, Values, no_values, value, Members}
use Rattle.avro_data.specs.Value.{no_members, member}
use Rattle.avro_data.specs.Fits.{fits, items_fit, values_fit, fields_fit}
use Rattle.avro_readings.specs.Reads.{pair, bars, branch_at, field_read, fields_read, Parts, of_leaf, of_symbol, of_items, of_values}
use Rattle.avro_readings.specs.Reads.{of_fields, row_read, unless_barred, through, at_pair, reads, items_read, values_read, named_read}
use Rattle.avro_readings.specs.Worth.{CompatibleIsReadable}
use Rattle.avro_readings.proofs.AtPair.{and_left, and_right, mapped, chained, found_at, branch_owed, to_partner}
use Rattle.avro_readings.proofs.AtPair.{field_owed, symbol_peaceful, array_peaceful, map_peaceful}
use Rattle.avro_readings.proofs.AtPair.{record_peaceful, leaf_peaceful, leaf_type, symbol_type, array_type}
use Rattle.avro_readings.proofs.AtPair.{map_type, fit_at, union_type, record_type}

-- ---- fields by name

named_so : (gs : List Field) (s : List ℕ) (g : Field) → field_named gs s ≡ Some g → g.name ≡ s
named_so [] s g e = absurd (cc)
named_so (f ∷ gs) s g e = go (bytes_eq f.name s) refl e (named_so gs s g)
  where
    go : (b : Bool) → bytes_eq f.name s ≡ b → cond b (Some f) (field_named gs s) ≡ Some g
        → (field_named gs s ≡ Some g → g.name ≡ s) → g.name ≡ s
    go true is e later = let same : f ≡ g = cc in ap (λ (h : Field). h.name) (sym same) ∙ (bytes_eq-Decides f.name s).0 is
    go false is e later = later e

pub first_named : (gs : List Field) (names : List (List ℕ)) (g : Field)
    → slice_get (filter_map (field_named gs) names) 0 ≡ Some g → field_named gs g.name ≡ Some g
first_named gs [] g e = absurd (cc)
first_named gs (s ∷ names) g e = go (field_named gs s) refl e (first_named gs names g)
  where
    go : (o : Option Field) → field_named gs s ≡ o → slice_get (cons_option o (filter_map (field_named gs) names)) 0 ≡ Some g
        → (slice_get (filter_map (field_named gs) names) 0 ≡ Some g → field_named gs g.name ≡ Some g) → field_named gs g.name ≡ Some g
    go None is e later = later e
    go (Some h) is e later =
        let found : field_named gs s ≡ Some g = is ∙ e in
        ap (field_named gs) (named_so gs s g found) ∙ found

-- each field has a reading, if the paired ones have
fields_some : (read : List ℕ → Pair → Option Value) (gs fs : List Field)
    → ((k : ℕ) (f g : Field) → slice_get fs k ≡ Some f → partner gs f ≡ Some g → IsSome (read g.name (pair f.node g.node)))
    → IsSome (fields_read read gs fs)
fields_some read gs [] each = refl
fields_some read gs (f ∷ fs) each =
    chained (λ v. option_map (member f.name v) (fields_read read gs fs)) (field_read read f (partner gs f)) (go (partner gs f) refl)
    (λ v. mapped (member f.name v) (fields_read read gs fs) (fields_some read gs fs (λ k g h at paired. each (suc k) g h at paired)))
  where
    go : (o : Option Field) → partner gs f ≡ o → IsSome (field_read read f o)
    go None is = refl
    go (Some g) is = each 0 f g refl is

module _ (r w : List Node) (sound : IsSound r) (law : AreCompatibleByObligations r w) where
  peace : (p : Pair) → AreCompatibleAt r w p → clash_of r w p ≡ None
  peace p all = ((law p).0 all).0

  owed : (p : Pair) → AreCompatibleAt r w p → (k : ℕ) (o : Obligation)
      → slice_get (obligations r w p) k ≡ Some o → AreCompatibleAt r w o.pair
  owed p all = ((law p).0 all).1

  not_barred : (p : Pair) → AreCompatibleAt r w p → (x : Option Value) → IsSome x → IsSome (unless_barred r w p x)
  not_barred p all x h = subst (λ (c : Option ClashKind). IsSome (cond (bars c) None x)) (sym (peace p all)) h

  outcome_is : (p : Pair) (m n : Option Node) → slice_get r p.reader.index ≡ m
      → slice_get w p.writer.index ≡ n → outcome r w p ≡ row r w p m n
  outcome_is p m n reader writer = ap (λ o. row r w p o (slice_get w p.writer.index)) reader ∙ ap (row r w p m) writer

  row_of_union : (p : Pair) (bs : List NodeId) (n : Node) → is_union_node n ≡ false
      → row r w p (Some (kind.Union bs)) (Some n) ≡ to_reader_branch p.writer (find (λ b. matches r w b.1 p.writer) (enumerate_from 0 bs))
  row_of_union p bs (kind.Union cs) h = absurd (cc)
  row_of_union p bs _ h = refl

  row_of_plain : (p : Pair) (m n : Node) → is_union_node m ≡ false → is_union_node n ≡ false → row r w p (Some m) (Some n) ≡ plain_row m n
  row_of_plain p (kind.Union bs) n h k = absurd (cc)
  row_of_plain p m (kind.Union cs) h k = absurd (cc)
  row_of_plain p _ _ h k = refl

  -- a compatible pair of two types that are no unions
  record IsSettled (q : Pair) (n : Node) : Type 0 where
    compatible : AreCompatibleAt r w q
    reader : Node
    reader_is : slice_get r q.reader.index ≡ Some reader
    writer_is : slice_get w q.writer.index ≡ Some n
    row_is : outcome r w q ≡ plain_row reader n

  peaceful : (q : Pair) (n : Node) (s : IsSettled q n) → result_err (plain_row s.reader n) ≡ None
  peaceful q n s = sym (ap result_err s.row_is) ∙ peace q s.compatible

  inner : (q : Pair) (n : Node) (s : IsSettled q n) (os : List Obligation) → plain_row s.reader n ≡ Ok os
      → (k : ℕ) (o : Obligation) → slice_get os k ≡ Some o → AreCompatibleAt r w o.pair
  inner q n s os e k o at =
      owed q s.compatible k o (ap (λ (x : Result (List Obligation) ClashKind). slice_get (result_unwrap_or x []) k) (s.row_is ∙ e) ∙ at)

  no_reader : (p : Pair) (n : Node) → AreCompatibleAt r w p → slice_get w p.writer.index ≡ Some n → slice_get r p.reader.index ≡ None → ⊥
  no_reader p n all writer reader =
      let met : clash_of r w p ≡ Some clash.TypeMismatch = ap result_err (outcome_is p None (Some n) reader writer) in
      let two : None ≡ Some clash.TypeMismatch = sym (peace p all) ∙ met in cc

  -- the branch that is taken of the reader's union is compatible, and no union
  by_branch : (p : Pair) (n : Node) → AreCompatibleAt r w p → slice_get w p.writer.index ≡ Some n → is_union_node n ≡ false
      → (bs : List NodeId) → slice_get r p.reader.index ≡ Some (kind.Union bs)
      → (b : ℕ × NodeId) → find (λ c. matches r w c.1 p.writer) (enumerate_from 0 bs) ≡ Some b
      → IsSettled (pair b.1 p.writer) n
  by_branch p n all writer plain bs reader b found = go (slice_get r b.1.index) refl
    where
      is : outcome r w p ≡ Ok (obligation (hop.Reader b.0) b.1 p.writer ∷ [])
      is = outcome_is p (Some (kind.Union bs)) (Some n) reader writer ∙ row_of_union p bs n plain ∙ ap (to_reader_branch p.writer) found

      compatible : AreCompatibleAt r w (pair b.1 p.writer)
      compatible =
          owed p all 0 (obligation (hop.Reader b.0) b.1 p.writer)
          (ap (λ (x : Result (List Obligation) ClashKind). slice_get (result_unwrap_or x []) 0) is)

      flat : (cs : List NodeId) → slice_get r b.1.index ≢ Some (kind.Union cs)
      flat = let (k, at) = found_at (λ c. matches r w c.1 p.writer) bs 0 b found in
          subst (λ (c : NodeId). (cs : List NodeId) → slice_get r c.index ≢ Some (kind.Union cs))
          (get_or_from_slice_get bs k b.1 b.1 at) (sound.flat_unions p.reader.index bs reader k b.1 (slice_get_within bs k b.1 at))

      settled : (m : Node) → slice_get r b.1.index ≡ Some m → is_union_node m ≡ false → IsSettled (pair b.1 p.writer) n
      settled m e h = record {
        compatible = compatible;
        reader = m;
        reader_is = e;
        writer_is = writer;
        row_is = outcome_is (pair b.1 p.writer) (Some m) (Some n) e writer ∙ row_of_plain (pair b.1 p.writer) m n h plain;
      }

      go : (m : Option Node) → slice_get r b.1.index ≡ m → IsSettled (pair b.1 p.writer) n
      go None e = absurd (no_reader (pair b.1 p.writer) n compatible writer e)
      go (Some (kind.Union cs)) e = absurd (flat cs e)
      go (Some (kind.Primitive x)) e = settled (kind.Primitive x) e refl
      go (Some (kind.Record x y z)) e = settled (kind.Record x y z) e refl
      go (Some (kind.Enum x y z t)) e = settled (kind.Enum x y z t) e refl
      go (Some (kind.Array x)) e = settled (kind.Array x) e refl
      go (Some (kind.Map x)) e = settled (kind.Map x) e refl
      go (Some (kind.Fixed x y z)) e = settled (kind.Fixed x y z) e refl

  through_some : (p : Pair) (n : Node) → AreCompatibleAt r w p → slice_get w p.writer.index ≡ Some n
      → is_union_node n ≡ false → (read : Pair → Option Value) → ((q : Pair) → IsSettled q n → IsSome (read q))
      → IsSome (unless_barred r w p (through r w (slice_get r p.reader.index) p read))
  through_some p n all writer plain read each =
      not_barred p all (through r w (slice_get r p.reader.index) p read) (go (slice_get r p.reader.index) refl)
    where
      settled : (m : Node) → slice_get r p.reader.index ≡ Some m → is_union_node m ≡ false → IsSettled p n
      settled m e h = record {
        compatible = all;
        reader = m;
        reader_is = e;
        writer_is = writer;
        row_is = outcome_is p (Some m) (Some n) e writer ∙ row_of_plain p m n h plain;
      }

      taken : (bs : List NodeId) → slice_get r p.reader.index ≡ Some (kind.Union bs)
          → (o : Option (ℕ × NodeId)) → find (λ c. matches r w c.1 p.writer) (enumerate_from 0 bs) ≡ o
          → IsSome (option_and_then (λ b. option_map (branch b.0) (unless_barred r w (pair b.1 p.writer) (read (pair b.1 p.writer)))) o)
      taken bs e None found =
          let met : clash_of r w p ≡ Some clash.MissingUnionBranch = ap result_err (
          outcome_is p (Some (kind.Union bs)) (Some n) e writer ∙ row_of_union p bs n plain ∙ ap (to_reader_branch p.writer) found) in
          let two : None ≡ Some clash.MissingUnionBranch = sym (peace p all) ∙ met in absurd (cc)
      taken bs e (Some b) found =
          let s = by_branch p n all writer plain bs e b found in
          mapped (branch b.0) (unless_barred r w (pair b.1 p.writer) (read (pair b.1 p.writer)))
          (not_barred (pair b.1 p.writer) s.compatible (read (pair b.1 p.writer)) (each (pair b.1 p.writer) s))

      go : (m : Option Node) → slice_get r p.reader.index ≡ m → IsSome (through r w m p read)
      go None e = absurd (no_reader p n all writer e)
      go (Some (kind.Union bs)) e = taken bs e (find (λ c. matches r w c.1 p.writer) (enumerate_from 0 bs)) refl
      go (Some (kind.Primitive x)) e = each p (settled (kind.Primitive x) e refl)
      go (Some (kind.Record x y z)) e = each p (settled (kind.Record x y z) e refl)
      go (Some (kind.Enum x y z t)) e = each p (settled (kind.Enum x y z t) e refl)
      go (Some (kind.Array x)) e = each p (settled (kind.Array x) e refl)
      go (Some (kind.Map x)) e = each p (settled (kind.Map x) e refl)
      go (Some (kind.Fixed x y z)) e = each p (settled (kind.Fixed x y z) e refl)

  -- what a pair gives whose types are no unions
  row_at : Parts → Pair → Option Value
  row_at parts q = row_read (slice_get r q.reader.index) (slice_get w q.writer.index) parts

  by_row : (q : Pair) (n : Node) (parts : Parts) (s : IsSettled q n)
      → IsSome (row_read (Some s.reader) (Some n) parts) → IsSome (row_at parts q)
  unfolding row_at
  by_row q n parts s h =
      subst (λ (o : Option Node). IsSome (row_read o (slice_get w q.writer.index) parts)) (sym s.reader_is)
      (subst (λ (o : Option Node). IsSome (row_read (Some s.reader) o parts)) (sym s.writer_is) h)

  at_some : (p : Pair) (n : Node) → AreCompatibleAt r w p → slice_get w p.writer.index ≡ Some n → is_union_node n ≡ false → (parts : Parts)
      → ((q : Pair) (s : IsSettled q n) → IsSome (row_read (Some s.reader) (Some n) parts)) → IsSome (at_pair r w p parts)
  unfolding row_at
  at_some p n all writer plain parts each = through_some p n all writer plain (row_at parts) (λ q s. by_row q n parts s (each q s))

  -- ---- one level of a value, where what is in it has readings

  list_some : (q : Pair) (j : NodeId) (vs : Values) (s : IsSettled q (kind.Array j))
      → ((p : Pair) → AreCompatibleAt r w p → p.writer ≡ j → IsSome (items_read r w p vs))
      → IsSome (row_read (Some s.reader) (Some (kind.Array j)) (of_items (λ p. items_read r w p vs)))
  list_some q j vs s each =
      let (i, is) = array_peaceful s.reader j (peaceful q (kind.Array j) s) in
      let all = inner q (kind.Array j) s (obligation hop.Items i j ∷ [])
      (ap (λ m. plain_row m (kind.Array j)) is) 0 (obligation hop.Items i j) refl in
      subst (λ (m : Node). IsSome (row_read (Some m) (Some (kind.Array j)) (of_items (λ p. items_read r w p vs))))
      (sym is) (mapped list_of (items_read r w (pair i j) vs) (each (pair i j) all refl))

  map_some : (q : Pair) (j : NodeId) (ms : Members) (s : IsSettled q (kind.Map j))
      → ((p : Pair) → AreCompatibleAt r w p → p.writer ≡ j → IsSome (values_read r w p ms))
      → IsSome (row_read (Some s.reader) (Some (kind.Map j)) (of_values (λ p. values_read r w p ms)))
  map_some q j ms s each =
      let (i, is) = map_peaceful s.reader j (peaceful q (kind.Map j) s) in
      let all = inner q (kind.Map j) s (obligation hop.Values i j ∷ [])
      (ap (λ m. plain_row m (kind.Map j)) is) 0 (obligation hop.Values i j) refl in
      subst (λ (m : Node). IsSome (row_read (Some m) (Some (kind.Map j)) (of_values (λ p. values_read r w p ms))))
      (sym is) (mapped map_of (values_read r w (pair i j) ms) (each (pair i j) all refl))

  record_some : (q : Pair) (n : FullName) (bl : List FullName) (gs : List Field)
      (s : IsSettled q (kind.Record n bl gs)) (read : List ℕ → Pair → Option Value)
      → ((p : Pair) (g : Field) → AreCompatibleAt r w p → p.writer ≡ g.node → field_named gs g.name ≡ Some g → IsSome (read g.name p))
      → IsSome (row_read (Some s.reader) (Some (kind.Record n bl gs)) (of_fields read))
  record_some q n bl gs s read each =
      let m = record_peaceful s.reader n bl gs (peaceful q (kind.Record n bl gs) s) in
      let all : IsSome (fields_read read gs m.fields) = fields_some read gs m.fields (λ k f g at paired.
      let (l, owing) = field_owed gs m.fields k f g at paired in
      each (pair f.node g.node) g
      (inner q (kind.Record n bl gs) s (filter_map (to_partner gs) m.fields) m.owes l
      (obligation (hop.Field f.name) f.node g.node) owing) refl
      (first_named gs (f.name ∷ f.aliases) g paired))
      in
      subst (λ (o : Node). IsSome (row_read (Some o) (Some (kind.Record n bl gs)) (of_fields read)))
      (sym m.is) (mapped fields_of (fields_read read gs m.fields) all)

  branch_some : (p : Pair) (bs : List NodeId) (k : ℕ) (b : NodeId) (v : Value) → AreCompatibleAt r w p
      → slice_get w p.writer.index ≡ Some (kind.Union bs) → slice_get bs k ≡ Some b
      → (AreCompatibleAt r w (pair p.reader b) → IsSome (reads r w (pair p.reader b) v))
      → IsSome (reads r w p (branch k v))
  branch_some p bs k b v all writer at each =
      not_barred p all (option_and_then (λ c. reads r w (pair p.reader c) v) (branch_at (slice_get w p.writer.index) k))
      (subst (λ (o : Option NodeId). IsSome (option_and_then (λ c. reads r w (pair p.reader c) v) o))
      (sym found) (each (compatible (slice_get r p.reader.index) refl)))
    where
      found : branch_at (slice_get w p.writer.index) k ≡ Some b
      found = ap (λ o. branch_at o k) writer ∙ at

      compatible : (m : Option Node) → slice_get r p.reader.index ≡ m → AreCompatibleAt r w (pair p.reader b)
      compatible None e = absurd (no_reader p (kind.Union bs) all writer e)
      compatible (Some m) e =
          let (x, owing) = branch_owed p.reader bs 0 k b at in
          owed p all k (obligation (hop.Writer x) p.reader b)
          (ap (λ (o : Result (List Obligation) ClashKind). slice_get (result_unwrap_or o []) k)
          (outcome_is p (Some m) (Some (kind.Union bs)) e writer)
          ∙ owing)

  named_step : (f : Field) (fs : List Field) (n : List ℕ) (v : Value) (ms : Members) (s : List ℕ) (g : Field) (p : Pair)
      → f.name ≡ n → field_named (f ∷ fs) s ≡ Some g
      → (f ≡ g → IsSome (reads r w p v)) → (field_named fs s ≡ Some g → IsSome (named_read r w s p ms))
      → IsSome (named_read r w s p (member n v ms))
  named_step f fs n v ms s g p is found here later = go (bytes_eq f.name s) refl found
    where
      go : (b : Bool) → bytes_eq f.name s ≡ b → cond b (Some f) (field_named fs s) ≡ Some g
          → IsSome (cond (bytes_eq n s) (reads r w p v) (named_read r w s p ms))
      go true e f_is =
          let same : f ≡ g = cc in
          subst (λ (c : Bool). IsSome (cond c (reads r w p v) (named_read r w s p ms)))
          (sym (ap (λ t. bytes_eq t s) (sym is) ∙ e)) (here same)
      go false e rest =
          subst (λ (c : Bool). IsSome (cond c (reads r w p v) (named_read r w s p ms)))
          (sym (ap (λ t. bytes_eq t s) (sym is) ∙ e)) (later rest)

  -- ---- whole values

  mutual
    pub readable : (p : Pair) → AreCompatibleAt r w p → (v : Value) → fits w p.writer v ≡ true → IsSome (reads r w p v)
    readable p all leaf e =
        let (n, writer, plain, is_leaf) = leaf_type (slice_get w p.writer.index) e in
        at_some p n all writer plain of_leaf (λ q s. ap is_some (leaf_peaceful s.reader n (peaceful q n s) is_leaf))
    readable p all (symbol t) e =
        let o = symbol_type (slice_get w p.writer.index) t e in
        let n = kind.Enum o.name o.aliases o.symbols o.preset in
        at_some p n all o.is refl (of_symbol t)
        (λ q s. symbol_peaceful s.reader o.name o.aliases o.symbols o.preset t (peaceful q n s) o.known)
    readable p all (list_of vs) e =
        let (j, writer, fit) = array_type (slice_get w p.writer.index) (λ j. items_fit w j vs) e in
        at_some p (kind.Array j) all writer refl (of_items (λ o. items_read r w o vs))
        (λ q s. list_some q j vs s (λ o each is. items_readable o each vs (ap (λ i. items_fit w i vs) is ∙ fit)))
    readable p all (map_of ms) e =
        let (j, writer, fit) = map_type (slice_get w p.writer.index) (λ j. values_fit w j ms) e in
        at_some p (kind.Map j) all writer refl (of_values (λ o. values_read r w o ms))
        (λ q s. map_some q j ms s (λ o each is. values_readable o each ms (ap (λ i. values_fit w i ms) is ∙ fit)))
    readable p all (branch k v) e =
        let (bs, writer, at_k) = union_type (slice_get w p.writer.index) k (λ j. fits w j v) e in
        let (b, at, fit) = fit_at (λ j. fits w j v) (slice_get bs k) at_k in
        branch_some p bs k b v all writer at (λ each. readable (pair p.reader b) each v fit)
    readable p all (fields_of ms) e =
        let o = record_type (slice_get w p.writer.index) (λ fs. fields_fit w fs ms) e in
        let n = kind.Record o.name o.aliases o.fields in
        at_some p n all o.is refl (of_fields (λ name o. named_read r w name o ms)) (λ q s.
        record_some q o.name o.aliases o.fields s (λ name o. named_read r w name o ms)
        (λ c g each is found. named_readable c each o.fields ms g.name g found is o.fitting))
    readable p all by_default e = absurd (cc)

    items_readable : (p : Pair) → AreCompatibleAt r w p → (vs : Values) → items_fit w p.writer vs ≡ true → IsSome (items_read r w p vs)
    items_readable p all no_values e = refl
    items_readable p all (value v vs) e =
        chained (λ x. option_map (value x) (items_read r w p vs)) (reads r w p v)
        (readable p all v (and_left (fits w p.writer v) (items_fit w p.writer vs) e))
        (λ x. mapped (value x) (items_read r w p vs) (items_readable p all vs (and_right (fits w p.writer v) (items_fit w p.writer vs) e)))

    values_readable : (p : Pair) → AreCompatibleAt r w p → (ms : Members) → values_fit w p.writer ms ≡ true → IsSome (values_read r w p ms)
    values_readable p all no_members e = refl
    values_readable p all (member k v ms) e =
        chained (λ x. option_map (member k x) (values_read r w p ms)) (reads r w p v)
        (readable p all v (and_left (fits w p.writer v) (values_fit w p.writer ms) e))
        (λ x.
        mapped (member k x) (values_read r w p ms)
        (values_readable p all ms (and_right (fits w p.writer v) (values_fit w p.writer ms) e)))

    named_readable : (p : Pair) → AreCompatibleAt r w p → (gs : List Field) (ms : Members) (s : List ℕ) (g : Field)
        → field_named gs s ≡ Some g → p.writer ≡ g.node → fields_fit w gs ms ≡ true → IsSome (named_read r w s p ms)
    named_readable p all [] no_members s g found is e = absurd (cc)
    named_readable p all [] (member n v ms) s g found is e = absurd (cc)
    named_readable p all (f ∷ fs) no_members s g found is e = absurd (cc)
    named_readable p all (f ∷ fs) (member n v ms) s g found is e =
        let both = and_left (bytes_eq f.name n && fits w f.node v) (fields_fit w fs ms) e in
        let rest = and_right (bytes_eq f.name n && fits w f.node v) (fields_fit w fs ms) e in
        named_step f fs n v ms s g p ((bytes_eq-Decides f.name n).0 (and_left (bytes_eq f.name n) (fits w f.node v) both)) found
        (λ same.
        readable p all v (
        ap (λ i. fits w i v) (is ∙ ap (λ (h : Field). h.node) (sym same)) ∙ and_right (bytes_eq f.name n) (fits w f.node v) both))
        (λ later. named_readable p all fs ms s g later is rest)

pub compatible_is_readable : (law : (r w : List Node) → AreCompatibleByObligations r w) → (r w : List Node) → CompatibleIsReadable r w
compatible_is_readable law r w sound all v e = readable r w sound (law r w) roots all v e
