-- Where the nodes of a schema lead to.
use Rattle.std.proofs.Common.{◌≡◌, ◌≢◌, inl, inr, ◌⊎◌, ℕ, zero, suc, ◌+◌, ◌<◌, ◌≤◌, List, [], ◌∷◌, ◌++◌, length, map, true, false, ◌&&◌}
use Rattle.std.proofs.Common.{All, filter_map, slice_get, Option, Some, None, is_some, bytes_eq, refl, sym, ◌∙◌, ap, subst, arith}
use Rattle.std.specs.List.{flat_map, list_all, list_any}
use Rattle.std.specs.Option.{option_map_or}
use Rattle.std.proofs.lemmas.List.Elements.{filter_map-append, All-nil, All-cons}
use Rattle.std.proofs.lemmas.List.Concat.{flat_map-append}
use Rattle.avro_schema.specs.declared.error.SchemaError.TheVariants as fault
use Rattle.avro_schema.specs.declared.node.Node.{Node}
use Rattle.avro_schema.specs.declared.node.Node.TheVariants as kind
use Rattle.avro_schema.specs.declared.node.NodeId.{NodeId}
use Rattle.avro_schema.specs.Names.{all_distinct}
use Rattle.avro_schema.specs.Form.{Heading, Form, plain, by_name, record_of, enum_of, array_of, map_of, union_of}
use Rattle.avro_schema.specs.Form.{fixed_of, ill_formed, Forms, no_forms, and_form, Fields, no_fields}
use Rattle.avro_schema.specs.Form.{ill_fields, and_field}
use Rattle.avro_schema.specs.Places.{count, forms_count, fields_count, Place, places}
use Rattle.avro_schema.specs.Places.{places_of_forms, places_of_fields, type_name}
use Rattle.avro_schema.specs.Places.{Definition, definition_used}
use Rattle.avro_schema.specs.Nodes.{node_id, branches, field_list, node_of, node_at}
use Rattle.avro_schema.specs.Faults.{unless, faults_of, faults_at, is_union_kind, same_kind, fits_union, kind_in_union, kinds}
use Rattle.avro_schema.specs.Faults.{fits_fields, field_list_faults, heading_faults, are_written, is_formed, field_headings}
use Rattle.avro_schema.specs.Sound.{inner, fields_of_node, parts_of_node, HaveDistinctNames}
use Rattle.avro_schema.proofs.Later.{count-type}
use Rattle.avro_schema.proofs.Numbered.{HasName, Stands, stands_front, stands_rest}
use Rattle.avro_schema.proofs.Reading.{nil-left, nil-right, nil-unless}
use Rattle.avro_schema.proofs.Types.{and_parts}
use Rattle.avro_schema.proofs.TextLemmas.{neither}
use Rattle.avro_schema.proofs.Answering.{listed_names}
use Rattle.avro_schema.proofs.DistinctNames.{distinct_by_place, no_fields_distinct, is_false}

-- node i is one of the nodes, and is node n or a later one, or no array and no map
abbrev pub IsPart : List Node → ℕ → NodeId → Type 0
IsPart all n i = (i.index < length all) × ((n ≤ i.index) ⊎ (inner (slice_get all i.index) ≡ None))

abbrev pub AreBelow : List Node → List NodeId → Type 0
AreBelow all is = All (λ (i : NodeId). i.index < length all) is

abbrev pub IsNoUnion : Option Node → Type 0
IsNoUnion o = (bs : List NodeId) → o ≢ Some (kind.Union bs)

abbrev pub AreNoUnions : List Node → List NodeId → Type 0
AreNoUnions all is = All (λ (i : NodeId). IsNoUnion (slice_get all i.index)) is

-- what a schema's soundness says of its node n, which is x
pub record IsWell (all : List Node) (n : ℕ) (x : Node) : Type 0 where
  pub closed : AreBelow all (parts_of_node x)
  pub leads_on : (j : NodeId) → inner (Some x) ≡ Some j → (n < j.index) ⊎ (inner (slice_get all j.index) ≡ None)
  pub distinct : HaveDistinctNames (fields_of_node x)
  pub flat : (bs : List NodeId) → x ≡ kind.Union bs → AreNoUnions all bs

-- the same of each of the nodes from node n on
abbrev pub AreWell : List Node → ℕ → List Node → Type 0
AreWell all n [] = Unit {0}
AreWell all n (x ∷ xs) = IsWell all n x × AreWell all (n + 1) xs

-- nodes, and then others
AreWell-append : (all : List Node) (n m : ℕ) (xs ys : List Node) → AreWell all n xs
    → m ≡ n + length xs → AreWell all m ys → AreWell all n (xs ++ ys)
AreWell-append all n m [] ys a e b = let same : m ≡ n = omega arith in subst (λ k. AreWell all k ys) same b
AreWell-append all n m (x ∷ xs) ys a e b = (a.0, AreWell-append all (n + 1) m xs ys a.1 (omega arith) b)

-- one of such nodes
pub well_at : (all : List Node) (n m i : ℕ) (xs : List Node) (x : Node)
    → AreWell all n xs → m ≡ n + i → slice_get xs i ≡ Some x → IsWell all m x
well_at all n m i [] x a e is = cc
well_at all n m zero (y ∷ xs) x a e is =
    let same : n ≡ m = omega arith in let one : y ≡ x = cc in subst (IsWell all m) one (subst (λ k. IsWell all k y) same a.0)
well_at all n m (suc i) (y ∷ xs) x a e is = well_at all (n + 1) m i xs x a.1 (omega arith) is

-- what node n is of, where that is node n + 1 or a later one
leads_to : (all : List Node) (n : ℕ) (i j : NodeId) → IsPart all (n + 1) i
    → Some i ≡ Some j → (n < j.index) ⊎ (inner (slice_get all j.index) ≡ None)
leads_to all n i j part e =
    let same : i ≡ j = cc in
    subst (λ (k : NodeId). (n < k.index) ⊎ (inner (slice_get all k.index) ≡ None)) same (elim (part.1) [
      | inl later ↦ inl (omega arith)
      | inr leaf ↦ inr leaf
    ])

-- no fault stands at these places
abbrev pub Good : List Definition → List Place → Type 0
Good ds ps = flat_map (faults_at ds) ps ≡ []

-- nor at the first of them
good_front : (ds : List Definition) (ps qs : List Place) → Good ds (ps ++ qs) → Good ds ps
good_front ds ps qs e = nil-left _ _ (sym (flat_map-append (faults_at ds) ps qs) ∙ e)

-- nor at the others
good_rest : (ds : List Definition) (ps qs : List Place) → Good ds (ps ++ qs) → Good ds qs
good_rest ds ps qs e = nil-right (flat_map (faults_at ds) ps) _ (sym (flat_map-append (faults_at ds) ps qs) ∙ e)

-- a node with a name is no array, no map and no union
named_leaf : (o : Option Node) → HasName o → inner o ≡ None
named_leaf (Some (kind.Array i)) h = let e = h.1 in cc
named_leaf (Some (kind.Map i)) h = let e = h.1 in cc
named_leaf _ h = refl

named_no_union : (o : Option Node) → HasName o → IsNoUnion o
named_no_union (Some (kind.Union cs)) h bs e = let f = h.1 in cc
named_no_union (Some (kind.Primitive p)) h bs e = cc
named_no_union (Some (kind.Record n al fs)) h bs e = cc
named_no_union (Some (kind.Enum n al ss d)) h bs e = cc
named_no_union (Some (kind.Array i)) h bs e = cc
named_no_union (Some (kind.Map i)) h bs e = cc
named_no_union (Some (kind.Fixed n al size)) h bs e = cc
named_no_union None h bs e = cc

-- node k is one of the nodes, and has a name
abbrev pub IsDefinedAt : List Node → ℕ → Type 0
IsDefinedAt all k = (k < length all) × HasName (slice_get all k)

module _ (ds : List Definition) (all : List Node)
    (known : (ns s : List ℕ) (n : ℕ) (d : Definition) → definition_used ds n ns s ≡ Some d → IsDefinedAt all d.node) where
  -- what a use names, where it names a definition
  used : (ns s : List ℕ) (n : ℕ) (o : Option Definition) → definition_used ds n ns s ≡ o
      → unless (is_some o) (fault.Unknown s) ≡ [] → IsPart all n (record { index = option_map_or (λ d. d.node) o 0 })
  used ns s n None is e = cc
  used ns s n (Some d) is e = let at = known ns s n d is in (at.0, inr (named_leaf (slice_get all d.node) at.1))

  used_no_union : (ns s : List ℕ) (n : ℕ) (o : Option Definition) → definition_used ds n ns s ≡ o
      → unless (is_some o) (fault.Unknown s) ≡ [] → IsNoUnion (slice_get all (option_map_or (λ d. d.node) o 0))
  used_no_union ns s n None is e = cc
  used_no_union ns s n (Some d) is e = named_no_union (slice_get all d.node) (known ns s n d is).1

  -- the node of a type that is not at fault
  part_of : (ns : List ℕ) (n : ℕ) (f : Form) → faults_of ds ns n f ≡ [] → n + count f ≤ length all → IsPart all n (node_id ds ns n f)
  part_of ns n (by_name s) e le = used ns s n (definition_used ds n ns s) refl e
  part_of ns n ill_formed e le = cc
  part_of ns n _ e le = (omega arith, inl (omega arith))

  -- a type that writes out a node, which is no union
  written_no_union : (n : ℕ) (x : Node) → ((y : Node) → Some x ≡ Some y → slice_get all n ≡ Some y)
      → IsNoUnion (Some x) → IsNoUnion (slice_get all n)
  written_no_union n x at flat bs e = flat bs (sym (at x refl) ∙ e)

  -- a branch that is no union
  branch_no_union : (ns : List ℕ) (n : ℕ) (f : Form)
      → faults_of ds ns n f ≡ [] → ((x : Node) → node_of ds ns n f ≡ Some x → slice_get all n ≡ Some x)
      → is_union_kind (kind_in_union ds ns n f) ≡ false → IsNoUnion (slice_get all (node_id ds ns n f).index)
  branch_no_union ns n (plain p) e at apart = written_no_union n _ at (λ bs f. cc)
  branch_no_union ns n (by_name s) e at apart = used_no_union ns s n (definition_used ds n ns s) refl e
  branch_no_union ns n (record_of h fs) e at apart = written_no_union n _ at (λ bs f. cc)
  branch_no_union ns n (enum_of h ss d) e at apart = written_no_union n _ at (λ bs f. cc)
  branch_no_union ns n (fixed_of h s) e at apart = written_no_union n _ at (λ bs f. cc)
  branch_no_union ns n (array_of f) e at apart = written_no_union n _ at (λ bs f. cc)
  branch_no_union ns n (map_of f) e at apart = written_no_union n _ at (λ bs f. cc)
  branch_no_union ns n (union_of fs) e at apart = cc
  branch_no_union ns n ill_formed e at apart = cc

  -- the branches of a union
  branches_below : (ns : List ℕ) (n : ℕ) (fs : Forms) → Good ds (places_of_forms ns n fs)
      → n + forms_count fs ≤ length all → AreBelow all (branches ds ns n fs)
  branches_below ns n no_forms e le = All-nil (λ (i : NodeId). i.index < length all)
  branches_below ns n (and_form f fs) e le =
      let here : IsPart all n (node_id ds ns n f) = part_of ns n f (nil-left _ _ e) (omega arith) in
      All-cons (λ (i : NodeId). i.index < length all) _ _ here.0
      (branches_below ns (n + count f) fs (good_rest ds (places ns n f) (places_of_forms ns (n + count f) fs) e) (omega arith))

  branches_flat : (ns : List ℕ) (n : ℕ) (fs : Forms) → Good ds (places_of_forms ns n fs) → Stands ds all (places_of_forms ns n fs)
      → list_any is_union_kind (kinds ds ns n fs) ≡ false → AreNoUnions all (branches ds ns n fs)
  branches_flat ns n no_forms e st apart = All-nil (λ (i : NodeId). IsNoUnion (slice_get all i.index))
  branches_flat ns n (and_form f fs) e st apart =
      let qs = places_of_forms ns (n + count f) fs in
      let both = neither (is_union_kind (kind_in_union ds ns n f)) (list_any is_union_kind (kinds ds ns (n + count f) fs)) apart in
      All-cons (λ (i : NodeId). IsNoUnion (slice_get all i.index)) (node_id ds ns n f) (branches ds ns (n + count f) fs)
      (branch_no_union ns n f (nil-left _ _ e) st.0 both.0)
      (branches_flat ns (n + count f) fs (good_rest ds (places ns n f) qs e) (stands_rest ds all (places ns n f) qs st) both.1)

  -- a union that is not at fault
  union_flat : (ns : List ℕ) (n : ℕ) (fs : Forms) → Good ds (places ns n (union_of fs))
      → Stands ds all (places_of_forms ns (n + 1) fs) → AreNoUnions all (branches ds ns (n + 1) fs)
  union_flat ns n fs e st =
      let fits : fits_union (kinds ds ns (n + 1) fs) ≡ true =
      nil-unless (fits_union (kinds ds ns (n + 1) fs)) fault.BadUnion (nil-left _ _ e) in
      branches_flat ns (n + 1) fs (nil-right (faults_of ds ns n (union_of fs)) _ e) st
      (is_false _ (and_parts _ (all_distinct same_kind (kinds ds ns (n + 1) fs)) fits).0)

  -- the fields of a record
  fields_below : (ns : List ℕ) (n : ℕ) (fs : Fields) → Good ds (places_of_fields ns n fs)
      → n + fields_count fs ≤ length all → AreBelow all (map (λ g. g.node) (field_list ds ns n fs))
  fields_below ns n no_fields e le = All-nil (λ (i : NodeId). i.index < length all)
  fields_below ns n ill_fields e le = All-nil (λ (i : NodeId). i.index < length all)
  fields_below ns n (and_field h f fs) e le =
      let here : IsPart all n (node_id ds ns n f) = part_of ns n f (nil-left _ _ e) (omega arith) in
      All-cons (λ (i : NodeId). i.index < length all) _ _ here.0
      (fields_below ns (n + count f) fs (good_rest ds (places ns n f) (places_of_fields ns (n + count f) fs) e) (omega arith))

  -- and their names
  fields_distinct : (ns : List ℕ) (n : ℕ) (h : Heading) (fs : Fields) → faults_of ds ns n (record_of h fs) ≡ []
      → HaveDistinctNames (field_list ds (type_name ns h).namespace (n + 1) fs)
  fields_distinct ns n h fs e =
      let list : field_list_faults fs ≡ [] = nil-right (heading_faults ds ns n h) _ e in
      let fits : fits_fields fs ≡ true = nil-unless (fits_fields fs) fault.BadForm (nil-left _ _ list) in
      distinct_by_place (field_list ds (type_name ns h).namespace (n + 1) fs)
      (ap (all_distinct bytes_eq) (listed_names ds (type_name ns h).namespace (n + 1) fs)
      ∙ (and_parts (are_written fs && list_all is_formed (field_headings fs)) _ fits).1)

  -- a node that leads nowhere
  leaf : (n : ℕ) (x : Node) → parts_of_node x ≡ [] → inner (Some x) ≡ None → fields_of_node x ≡ [] → IsNoUnion (Some x) → IsWell all n x
  leaf n x parts none fields flat = record {
    closed = subst (AreBelow all) (sym parts) (All-nil (λ (i : NodeId). i.index < length all));
    leads_on = λ j is. let never : None ≡ Some j = sym none ∙ is in cc;
    distinct = subst HaveDistinctNames (sym fields) no_fields_distinct;
    flat = λ bs is. absurd (flat bs (ap Some is));
  }

  -- an array or a map of a type
  of_one : (n : ℕ) (x : Node) (i : NodeId) → parts_of_node x ≡ i ∷ [] → inner (Some x) ≡ Some i
      → fields_of_node x ≡ [] → IsNoUnion (Some x) → IsPart all (n + 1) i → IsWell all n x
  of_one n x i parts one fields flat part = record {
    closed = subst (AreBelow all) (sym parts)
        (All-cons (λ (i : NodeId). i.index < length all) i [] part.0 (All-nil (λ (i : NodeId). i.index < length all)));
    leads_on = λ j is. leads_to all n i j part (sym one ∙ is);
    distinct = subst HaveDistinctNames (sym fields) no_fields_distinct;
    flat = λ bs is. absurd (flat bs (ap Some is));
  }

  -- the nodes of one type, and then others
  well_both : (ns : List ℕ) (n : ℕ) (f : Form) (qs : List Place) → AreWell all n (filter_map (node_at ds) (places ns n f))
      → AreWell all (n + count f) (filter_map (node_at ds) qs) → AreWell all n (filter_map (node_at ds) (places ns n f ++ qs))
  well_both ns n f qs a b =
      subst (AreWell all n) (sym (filter_map-append (node_at ds) (places ns n f) qs))
      (AreWell-append all n (n + count f) (filter_map (node_at ds) (places ns n f))
      (filter_map (node_at ds) qs) a (ap (λ k. n + k) (sym (count-type ds ns n f))) b)

  mutual
    -- the nodes of a type where no fault stands
    pub well_type : (ns : List ℕ) (n : ℕ) (f : Form) → Good ds (places ns n f) → Stands ds all (places ns n f)
        → n + count f ≤ length all → AreWell all n (filter_map (node_at ds) (places ns n f))
    well_type ns n (plain p) e st le = (leaf n (kind.Primitive p) refl refl refl (λ bs f. cc), tt)
    well_type ns n (by_name s) e st le = tt
    well_type ns n (record_of h fs) e st le =
        let rest : Good ds (places_of_fields (type_name ns h).namespace (n + 1) fs) = nil-right (faults_of ds ns n (record_of h fs)) _ e in (
          record {
            closed = fields_below (type_name ns h).namespace (n + 1) fs rest (omega arith);
            leads_on = λ j is. cc;
            distinct = fields_distinct ns n h fs (nil-left _ _ e);
            flat = λ bs is. cc;
          },
          well_fields (type_name ns h).namespace (n + 1) fs rest st.1 (omega arith),
        )
    well_type ns n (enum_of h ss d) e st le = (leaf n _ refl refl refl (λ bs f. cc), tt)
    well_type ns n (fixed_of h s) e st le = (leaf n _ refl refl refl (λ bs f. cc), tt)
    well_type ns n (array_of f) e st le =
        let part : IsPart all (n + 1) (node_id ds ns (n + 1) f) = part_of ns (n + 1) f (nil-left _ _ e) (omega arith) in (
          of_one n (kind.Array (node_id ds ns (n + 1) f)) (node_id ds ns (n + 1) f) refl refl refl (λ bs f. cc) part,
          well_type ns (n + 1) f e st.1 (omega arith),
        )
    well_type ns n (map_of f) e st le =
        let part : IsPart all (n + 1) (node_id ds ns (n + 1) f) = part_of ns (n + 1) f (nil-left _ _ e) (omega arith) in (
          of_one n (kind.Map (node_id ds ns (n + 1) f)) (node_id ds ns (n + 1) f) refl refl refl (λ bs f. cc) part,
          well_type ns (n + 1) f e st.1 (omega arith),
        )
    well_type ns n (union_of fs) e st le =
        let rest : Good ds (places_of_forms ns (n + 1) fs) = nil-right (faults_of ds ns n (union_of fs)) _ e in (
          record {
            closed = branches_below ns (n + 1) fs rest (omega arith);
            leads_on = λ j is. cc;
            distinct = no_fields_distinct;
            flat = λ bs is. let same : branches ds ns (n + 1) fs ≡ bs = cc in subst (AreNoUnions all) same (union_flat ns n fs e st.1);
          },
          well_forms ns (n + 1) fs rest st.1 (omega arith),
        )
    well_type ns n ill_formed e st le = tt

    -- and of the branches of a union
    well_forms : (ns : List ℕ) (n : ℕ) (fs : Forms) → Good ds (places_of_forms ns n fs) → Stands ds all (places_of_forms ns n fs)
        → n + forms_count fs ≤ length all → AreWell all n (filter_map (node_at ds) (places_of_forms ns n fs))
    well_forms ns n no_forms e st le = tt
    well_forms ns n (and_form f fs) e st le =
        let qs = places_of_forms ns (n + count f) fs in
        well_both ns n f qs
        (well_type ns n f (good_front ds (places ns n f) qs e) (stands_front ds all (places ns n f) qs st) (omega arith))
        (well_forms ns (n + count f) fs (good_rest ds (places ns n f) qs e) (stands_rest ds all (places ns n f) qs st) (omega arith))

    -- and of the fields of a record
    well_fields : (ns : List ℕ) (n : ℕ) (fs : Fields) → Good ds (places_of_fields ns n fs) → Stands ds all (places_of_fields ns n fs)
        → n + fields_count fs ≤ length all → AreWell all n (filter_map (node_at ds) (places_of_fields ns n fs))
    well_fields ns n no_fields e st le = tt
    well_fields ns n ill_fields e st le = tt
    well_fields ns n (and_field h f fs) e st le =
        let qs = places_of_fields ns (n + count f) fs in
        well_both ns n f qs
        (well_type ns n f (good_front ds (places ns n f) qs e) (stands_front ds all (places ns n f) qs st) (omega arith))
        (well_fields ns (n + count f) fs (good_rest ds (places ns n f) qs e) (stands_rest ds all (places ns n f) qs st) (omega arith))
