-- What follows from the rows of the table: obligations stay within the two schemas, and no two of a pair have one hop.
use Rattle.std.proofs.Common.{◌≡◌, ◌≢◌, ℕ, zero, suc, ◌+◌, ◌<◌, List, [], ◌∷◌, length, Bool, true, false, not, cond, ◌==◌, Option, Some}
use Rattle.std.proofs.Common.{None, Result, Ok, Err, is_some, option_map, find, filter_map, map, slice_get, bytes_eq, refl, sym, ◌∙◌, ap}
use Rattle.std.proofs.Common.{subst, arith}
use Rattle.std.specs.List.{enumerate_from, cons_option, position_or_len}
use Rattle.std.specs.Option.{option_map_or}
use Rattle.std.proofs.lemmas.List.Folds.{find_at}
use Rattle.avro_schema.specs.declared.node.NodeId.{NodeId}
use Rattle.avro_schema.specs.declared.node.Field.{Field}
use Rattle.avro_schema.specs.declared.node.Node.{Node}
use Rattle.avro_schema.specs.declared.node.Node.TheVariants as kind
use Rattle.avro_schema.specs.Names.{has_text}
use Rattle.avro_schema.specs.Sound.{IsSound, HaveDistinctNames, fields_of_node, parts_of_node}
use Rattle.avro_schema.specs.Defaults.{field_named}
use Rattle.avro_resolve.specs.declared.trail.Hop.{Hop}
use Rattle.avro_resolve.specs.declared.trail.Hop.TheVariants as hop
use Rattle.avro_resolve.specs.declared.trail.ClashKind.{ClashKind}
use Rattle.avro_resolve.specs.declared.trail.ClashKind.TheVariants as clash
use Rattle.avro_resolve.specs.declared.obligations.Pair.{Pair}
use Rattle.avro_resolve.specs.declared.obligations.Obligation.{Obligation}
use Rattle.std.specs.Result.{result_unwrap_or}
use Rattle.avro_resolve.specs.Match.{names_match, primitives_match, matches}
use Rattle.avro_resolve.specs.Pairing.{partner, lacks_value}
use Rattle.avro_resolve.specs.Table.{obligation, to_reader_branch, to_fields, with_symbols, plain_row, row, obligations}
use Rattle.avro_resolve.specs.Trails.{HopsNameOne}
use Rattle.avro_resolve.proofs.MatchLaws.{IsOf, inner_part}
use Rattle.avro_resolve.proofs.Sound.{part_below}

-- ---- single obligations

-- the obligations of an outcome
abbrev pub owed_in : Result (List Obligation) ClashKind → List Obligation
owed_in o = result_unwrap_or o []

abbrev pub to_writer_branch : NodeId → ℕ × NodeId → Obligation
to_writer_branch i b = obligation (hop.Writer b.0) i b.1

abbrev pub to_writer_branches : NodeId → List NodeId → List Obligation
to_writer_branches i bs = map (to_writer_branch i) (enumerate_from 0 bs)

abbrev pub to_field : Field → Field → Obligation
to_field f g = obligation (hop.Field f.name) f.node g.node

abbrev pub to_partner : List Field → Field → Option Obligation
to_partner writer f = option_map (to_field f) (partner writer f)

-- ---- what holds of each form of outcome holds of each row

module _ (Q : Result (List Obligation) ClashKind → Type 0) (clash_holds : (c : ClashKind) → Q (Err c)) where
  given_holds : (b : Bool) (c : ClashKind) (o : Result (List Obligation) ClashKind) → Q o → Q (cond b o (Err c))
  given_holds true c o h = h
  given_holds false c o h = clash_holds c

  unless_found_holds : {A : Type 0} (c : A → ClashKind) (found : Option A) (o : Result (List Obligation) ClashKind)
      → Q o → Q (option_map_or (λ x. Err (c x)) found o)
  unless_found_holds c None o h = h
  unless_found_holds c (Some x) o h = clash_holds (c x)

  with_symbols_holds : (ss : List (List ℕ)) (d : Bool) (ts : List (List ℕ)) → Q (Ok []) → Q (with_symbols ss d ts)
  with_symbols_holds ss true ts h = h
  with_symbols_holds ss false ts h = unless_found_holds clash.MissingEnumSymbols (find (λ s. not (has_text ss s)) ts) (Ok []) h

  to_reader_branch_holds : (j : NodeId) (b : Option (ℕ × NodeId))
      → ((c : ℕ × NodeId) → b ≡ Some c → Q (to_reader_branch j (Some c))) → Q (to_reader_branch j b)
  to_reader_branch_holds j None h = clash_holds clash.MissingUnionBranch
  to_reader_branch_holds j (Some c) h = h c refl

  module _ (nothing : Q (Ok [])) where
    plain_row_holds : (m n : Node)
        → ((h : Hop) (a b : NodeId) → IsOf a (Some m) → IsOf b (Some n) → Q (Ok (obligation h a b ∷ [])))
        → Q (Ok (filter_map (to_partner (fields_of_node n)) (fields_of_node m)))
        → Q (plain_row m n)
    plain_row_holds (kind.Array a) (kind.Array b) of_part to_field = of_part hop.Items a b refl refl
    plain_row_holds (kind.Map a) (kind.Map b) of_part to_field = of_part hop.Values a b refl refl
    plain_row_holds (kind.Record m al fs) (kind.Record n bl gs) of_part to_field =
        given_holds (names_match m al n) clash.NameMismatch (to_fields fs gs)
        (unless_found_holds (λ (f : Field). clash.ReaderFieldMissingDefaultValue f.name)
        (find (lacks_value gs) fs) (Ok (filter_map (to_partner gs) fs)) to_field)
    plain_row_holds (kind.Enum m al ss d) (kind.Enum n bl ts e) of_part to_field =
        given_holds (names_match m al n) clash.NameMismatch (with_symbols ss (is_some d) ts) (with_symbols_holds ss (is_some d) ts nothing)
    plain_row_holds (kind.Fixed m al s) (kind.Fixed n bl t) of_part to_field =
        given_holds (names_match m al n) clash.NameMismatch (cond (s == t) (Ok []) (Err clash.FixedSizeMismatch))
        (given_holds (s == t) clash.FixedSizeMismatch (Ok []) nothing)
    plain_row_holds (kind.Primitive p) (kind.Primitive q) of_part to_field =
        given_holds (primitives_match p q) clash.TypeMismatch (Ok []) nothing
    plain_row_holds _ _ of_part to_field = clash_holds clash.TypeMismatch

    row_holds : (r w : List Node) (p : Pair) (m n : Node)
        → ((bs : List NodeId) → n ≡ kind.Union bs → Q (Ok (to_writer_branches p.reader bs)))
        → ((bs : List NodeId) (b : ℕ × NodeId) → m ≡ kind.Union bs
        → find (λ c. matches r w c.1 p.writer) (enumerate_from 0 bs) ≡ Some b → Q (to_reader_branch p.writer (Some b)))
        → ((h : Hop) (a b : NodeId) → IsOf a (Some m) → IsOf b (Some n) → Q (Ok (obligation h a b ∷ [])))
        → Q (Ok (filter_map (to_partner (fields_of_node n)) (fields_of_node m)))
        → Q (row r w p (Some m) (Some n))
    row_holds r w p m (kind.Union bs) to_writer to_reader of_part to_field = to_writer bs refl
    row_holds r w p (kind.Union bs) n to_writer to_reader of_part to_field =
        to_reader_branch_holds p.writer (find (λ c. matches r w c.1 p.writer) (enumerate_from 0 bs)) (λ b found. to_reader bs b refl found)
    row_holds r w p m n to_writer to_reader of_part to_field = plain_row_holds m n of_part to_field

-- the row of a reader's union, where the writer's type is none
pub row_of_union : (r w : List Node) (p : Pair) (m n : Option Node) (bs : List NodeId) (k : Node)
    → m ≡ Some (kind.Union bs) → n ≡ Some k → ((cs : List NodeId) → k ≡ kind.Union cs → ⊥)
    → row r w p m n ≡ to_reader_branch p.writer (find (λ b. matches r w b.1 p.writer) (enumerate_from 0 bs))
row_of_union r w p m n bs k m_is n_is other = ap (λ o. row r w p o n) m_is ∙ ap (row r w p (Some (kind.Union bs))) n_is ∙ by_writer k other
  where
    by_writer : (k : Node) → ((cs : List NodeId) → k ≡ kind.Union cs → ⊥)
        → row r w p (Some (kind.Union bs)) (Some k) ≡ to_reader_branch p.writer (find (λ b. matches r w b.1 p.writer) (enumerate_from 0 bs))
    by_writer (kind.Union cs) other = absurd (other cs refl)
    by_writer _ other = refl

-- ---- where an obligation stands

slice_get-one : {A : Type 0} (x y : A) (k : ℕ) → slice_get (x ∷ []) k ≡ Some y → (k ≡ 0) × (x ≡ y)
slice_get-one x y zero e = (refl, cc)
slice_get-one x y (suc k) e = cc

-- the branch of an obligation
branch_at : (i : NodeId) (n : ℕ) (bs : List NodeId) (k : ℕ) (o : Obligation)
    → slice_get (map (to_writer_branch i) (enumerate_from n bs)) k ≡ Some o
    → (b : NodeId) × (slice_get bs k ≡ Some b) × (to_writer_branch i (n + k, b) ≡ o)
branch_at i n [] k o e = cc
branch_at i n (b ∷ bs) zero o e =
    let one : to_writer_branch i (n, b) ≡ o = cc in
    let same : n + 0 ≡ n = omega arith in
    (b, refl, ap (λ m. to_writer_branch i (m, b)) same ∙ one)
branch_at i n (b ∷ bs) (suc k) o e =
    let (c, at, is) = branch_at i (n + 1) bs k o e in
    let same : n + suc k ≡ n + 1 + k = omega arith in
    (c, at, ap (λ m. to_writer_branch i (m, c)) same ∙ is)

enumerated_at : (n : ℕ) (bs : List NodeId) (k : ℕ) (b : ℕ × NodeId) → slice_get (enumerate_from n bs) k ≡ Some b → slice_get bs k ≡ Some b.1
enumerated_at n [] k b e = cc
enumerated_at n (c ∷ bs) zero b e = let one : (n, c) ≡ b = cc in ap (λ (p : ℕ × NodeId). Some p.1) one
enumerated_at n (c ∷ bs) (suc k) b e = enumerated_at (n + 1) bs k b e

-- the branch that was found
found_at : (p : ℕ × NodeId → Bool) (n : ℕ) (bs : List NodeId) (b : ℕ × NodeId)
    → find p (enumerate_from n bs) ≡ Some b → (k : ℕ) × (slice_get bs k ≡ Some b.1)
found_at p n bs b e =
    let k = position_or_len p (enumerate_from n bs) in (k, enumerated_at n bs k b (sym (find_at p (enumerate_from n bs)) ∙ e))

-- the fields of an obligation
field_at : (gs fs : List Field) (k : ℕ) (o : Obligation) → slice_get (filter_map (to_partner gs) fs) k ≡ Some o
    → (f : Field) × (g : Field) × (x : ℕ) × (slice_get fs x ≡ Some f) × (partner gs f ≡ Some g) × (to_field f g ≡ o)
field_at gs [] k o e = cc
field_at gs (f ∷ fs) k o e = through (partner gs f) refl k e (field_at gs fs)
  where
    through : (p : Option Field) → partner gs f ≡ p → (k : ℕ)
        → slice_get (cons_option (option_map (to_field f) p) (filter_map (to_partner gs) fs)) k ≡ Some o
        → ((k : ℕ) (o : Obligation) → slice_get (filter_map (to_partner gs) fs) k ≡ Some o
        → (f : Field) × (g : Field) × (x : ℕ) × (slice_get fs x ≡ Some f) × (partner gs f ≡ Some g) × (to_field f g ≡ o))
        → (f' : Field) × (g : Field) × (x : ℕ) × (slice_get (f ∷ fs) x ≡ Some f') × (partner gs f' ≡ Some g) × (to_field f' g ≡ o)
    through None is k e ih = let (f', g, x, at, has, one) = ih k o e in (f', g, suc x, at, has, one)
    through (Some g) is zero e ih = (f, g, 0, refl, is, cc)
    through (Some g) is (suc k) e ih = let (f', g', x, at, has, one) = ih k o e in (f', g', suc x, at, has, one)

-- a partner is one of the fields
partner_at : (gs : List Field) (ss : List (List ℕ)) (g : Field)
    → slice_get (filter_map (field_named gs) ss) 0 ≡ Some g → (y : ℕ) × (slice_get gs y ≡ Some g)
partner_at gs [] g e = cc
partner_at gs (s ∷ ss) g e = either (field_named gs s) refl e (partner_at gs ss g)
  where
    either : (p : Option Field) → field_named gs s ≡ p → slice_get (cons_option p (filter_map (field_named gs) ss)) 0 ≡ Some g
        → (slice_get (filter_map (field_named gs) ss) 0 ≡ Some g → (y : ℕ) × (slice_get gs y ≡ Some g))
        → (y : ℕ) × (slice_get gs y ≡ Some g)
    either None is e ih = ih e
    either (Some f) is e ih = (position_or_len (λ f. bytes_eq f.name s) gs, sym (find_at (λ f. bytes_eq f.name s) gs) ∙ is ∙ e)

-- ---- obligations stay within the two schemas

pub record IsWithin (r w : List Node) (p : Pair) : Type 0 where
  pub reader : p.reader.index < length r
  pub writer : p.writer.index < length w

abbrev pub AreWithin : List Node → List Node → List Obligation → Type 0
AreWithin r w os = (k : ℕ) (o : Obligation) → slice_get os k ≡ Some o → IsWithin r w o.pair

-- each of a type's parts is a node of its schema
abbrev PartsBelow : List Node → Node → Type 0
PartsBelow r m = (k : ℕ) (a : NodeId) → slice_get (parts_of_node m) k ≡ Some a → a.index < length r

field_below : (r : List Node) (m : Node) → PartsBelow r m → (x : ℕ) (f : Field)
    → slice_get (fields_of_node m) x ≡ Some f → f.node.index < length r
field_below r (kind.Record n al fs) below x f at = below x f.node (of_map fs x f at)
  where
    of_map : (fs : List Field) (x : ℕ) (f : Field) → slice_get fs x ≡ Some f → slice_get (map (λ (g : Field). g.node) fs) x ≡ Some f.node
    of_map [] x f at = cc
    of_map (g ∷ fs) zero f at = let one : g ≡ f = cc in ap (λ (h : Field). Some h.node) one
    of_map (g ∷ fs) (suc x) f at = of_map fs x f at
field_below r _ below x f at = cc

inner_below : (r : List Node) (m : Node) → PartsBelow r m → (a : NodeId) → IsOf a (Some m) → a.index < length r
inner_below r m below a of_a = below 0 a (inner_part m a of_a)

branch_below : (r : List Node) (m : Node) → PartsBelow r m → (bs : List NodeId)
    → m ≡ kind.Union bs → (k : ℕ) (b : NodeId) → slice_get bs k ≡ Some b → b.index < length r
branch_below r m below bs is k b at = let h = subst (λ n. PartsBelow r n) is below in h k b at

within_one : (r w : List Node) (h : Hop) (p : Pair) → IsWithin r w p → AreWithin r w (record { hop = h; pair = p } ∷ [])
within_one r w h p inside k o at =
    let one = (slice_get-one (record { hop = h; pair = p }) o k at).1 in subst (λ (x : Obligation). IsWithin r w x.pair) one inside

module _ (r w : List Node) (p : Pair) (inside : IsWithin r w p) where
  within_row : (m n : Node) → PartsBelow r m → PartsBelow w n → AreWithin r w (owed_in (row r w p (Some m) (Some n)))
  within_row m n of_m of_n =
      row_holds (λ o. AreWithin r w (owed_in o)) (λ c k o at. cc) (λ k o at. cc) r w p m n
      (λ bs is k o at.
      let (b, b_at, one) = branch_at p.reader 0 bs k o at in
      subst (λ (u : Obligation). IsWithin r w u.pair) one
      (record { reader = inside.reader; writer = branch_below w n of_n bs is k b b_at }))
      (λ bs b is found.
      let (k, b_at) = found_at (λ c. matches r w c.1 p.writer) 0 bs b found in
      within_one r w (hop.Reader b.0) (record { reader = b.1; writer = p.writer })
      (record { reader = branch_below r m of_m bs is k b.1 b_at; writer = inside.writer }))
      (λ h a b of_a of_b.
      within_one r w h (record { reader = a; writer = b })
      (record { reader = inner_below r m of_m a of_a; writer = inner_below w n of_n b of_b }))
      (λ k o at.
      let (f, g, x, f_at, has, one) = field_at (fields_of_node n) (fields_of_node m) k o at in
      let (y, g_at) = partner_at (fields_of_node n) (f.name ∷ f.aliases) g has in
      subst (λ (u : Obligation). IsWithin r w u.pair) one
      (record { reader = field_below r m of_m x f f_at; writer = field_below w n of_n y g g_at }))

  within_row_of : (m n : Option Node) → ((a : Node) → m ≡ Some a → PartsBelow r a)
      → ((b : Node) → n ≡ Some b → PartsBelow w b) → AreWithin r w (owed_in (row r w p m n))
  within_row_of (Some a) (Some b) of_m of_n = within_row a b (of_m a refl) (of_n b refl)
  within_row_of _ _ of_m of_n = λ k o at. cc

parts_below : (r : List Node) → IsSound r → (i : ℕ) (m : Node) → slice_get r i ≡ Some m → PartsBelow r m
parts_below r s i m at k a a_at = part_below r s i m at k a a_at

pub obligations_within : (r w : List Node) → IsSound r → IsSound w → (p : Pair) → IsWithin r w p → AreWithin r w (obligations r w p)
obligations_within r w s t p inside =
    within_row_of r w p inside (slice_get r p.reader.index) (slice_get w p.writer.index)
    (λ m at. parts_below r s p.reader.index m at) (λ n at. parts_below w t p.writer.index n at)

-- ---- no two obligations of a pair have one hop

abbrev pub NoTwo : List Obligation → Type 0
NoTwo os = (k l : ℕ) (a b : Obligation) → slice_get os k ≡ Some a → slice_get os l ≡ Some b → a.hop ≡ b.hop → k ≡ l

no_two_none : NoTwo []
no_two_none k l a b at_k at_l same = cc

no_two_one : (x : Obligation) → NoTwo (x ∷ [])
no_two_one x k l a b at_k at_l same = (slice_get-one x a k at_k).0 ∙ sym (slice_get-one x b l at_l).0

no_two_more : (x : Obligation) (os : List Obligation)
    → ((k : ℕ) (o : Obligation) → slice_get os k ≡ Some o → o.hop ≢ x.hop) → NoTwo os → NoTwo (x ∷ os)
no_two_more x os apart rest zero zero a b at_k at_l same = refl
no_two_more x os apart rest zero (suc l) a b at_k at_l same =
    let one : x ≡ a = cc in absurd (apart l b at_l (sym same ∙ ap (λ (o : Obligation). o.hop) (sym one)))
no_two_more x os apart rest (suc k) zero a b at_k at_l same =
    let one : x ≡ b = cc in absurd (apart k a at_k (same ∙ ap (λ (o : Obligation). o.hop) (sym one)))
no_two_more x os apart rest (suc k) (suc l) a b at_k at_l same = ap suc (rest k l a b at_k at_l same)

-- a writer's branches are told apart by their numbers
no_two_branches : (i : NodeId) (bs : List NodeId) → NoTwo (map (to_writer_branch i) (enumerate_from 0 bs))
no_two_branches i bs k l a b at_k at_l same =
    let (c, c_at, one) = branch_at i 0 bs k a at_k in
    let (d, d_at, two) = branch_at i 0 bs l b at_l in
    let numbers : hop.Writer (0 + k) ≡ hop.Writer (0 + l) =
    ap (λ (o : Obligation). o.hop) one ∙ same ∙ ap (λ (o : Obligation). o.hop) (sym two) in
    let number : 0 + k ≡ 0 + l = cc in
    omega arith

-- a reader's fields by their names
no_two_field : (gs fs : List Field) (f : Field) (p : Option Field) → ((x : ℕ) (h : Field) → slice_get fs x ≡ Some h → h.name ≢ f.name)
    → NoTwo (filter_map (to_partner gs) fs) → NoTwo (cons_option (option_map (to_field f) p) (filter_map (to_partner gs) fs))
no_two_field gs fs f None apart rest = rest
no_two_field gs fs f (Some g) apart rest = no_two_more (to_field f g) (filter_map (to_partner gs) fs) other_hop rest
  where
    other_hop : (k : ℕ) (o : Obligation) → slice_get (filter_map (to_partner gs) fs) k ≡ Some o → o.hop ≢ (to_field f g).hop
    other_hop k o at same =
        let (f', g', x, f_at, has, one) = field_at gs fs k o at in
        let hops : hop.Field f'.name ≡ hop.Field f.name = ap (λ (u : Obligation). u.hop) one ∙ same in
        let both : f'.name ≡ f.name = cc in
        apart x f' f_at both

no_two_fields : (gs fs : List Field) → HaveDistinctNames fs → NoTwo (filter_map (to_partner gs) fs)
no_two_fields gs [] h = no_two_none
no_two_fields gs (f ∷ fs) h = no_two_field gs fs f (partner gs f) apart (no_two_fields gs fs rest)
  where
    apart : (x : ℕ) (g : Field) → slice_get fs x ≡ Some g → g.name ≢ f.name
    apart x g at same = let no : suc x ≡ 0 = h (suc x) 0 g f at refl same in cc

    rest : HaveDistinctNames fs
    rest a b g k at_a at_b same = let more : suc a ≡ suc b = h (suc a) (suc b) g k at_a at_b same in cc

module _ (r w : List Node) (p : Pair) where
  no_two_row : (m n : Node) → HaveDistinctNames (fields_of_node m) → NoTwo (owed_in (row r w p (Some m) (Some n)))
  no_two_row m n distinct =
      row_holds (λ o. NoTwo (owed_in o)) (λ c. no_two_none) no_two_none r w p m n
      (λ bs is. no_two_branches p.reader bs)
      (λ bs b is found. no_two_one _)
      (λ h a b of_a of_b. no_two_one _)
      (no_two_fields (fields_of_node n) (fields_of_node m) distinct)

  no_two_row_of : (m n : Option Node) → ((a : Node) → m ≡ Some a → HaveDistinctNames (fields_of_node a)) → NoTwo (owed_in (row r w p m n))
  no_two_row_of (Some a) (Some b) distinct = no_two_row a b (distinct a refl)
  no_two_row_of _ _ distinct = no_two_none

pub hops_name_one : (r w : List Node) → IsSound r → HopsNameOne r w
hops_name_one r w s p =
    no_two_row_of r w p (slice_get r p.reader.index) (slice_get w p.writer.index) (λ m at. s.distinct_fields p.reader.index m at)
