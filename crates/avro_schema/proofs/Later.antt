-- Definitions that open later change nothing of what stands before them, so one pass finds the same nodes and the same faults.
use Rattle.std.proofs.Common.{◌≡◌, ℕ, suc, length-append, ◌+◌, ◌≤◌, List, [], ◌∷◌, ◌++◌, length, ◌&&◌, cond, Option}
use Rattle.std.proofs.Common.{Some, None, is_none, option_and_then, refl, sym, ◌∙◌, ap, arith, filter_map, bytes_eq}
use Rattle.std.specs.Option.{option_or}
use Rattle.std.specs.List.{cons_option, flat_map}
use Rattle.std.proofs.lemmas.Bool.{le-ltb}
use Rattle.std.proofs.lemmas.List.Elements.{filter_map-append}
use Rattle.std.proofs.lemmas.List.Folds.{find-append}
use Rattle.std.proofs.lemmas.List.Concat.{flat_map-append}
use Rattle.avro_schema.specs.declared.node.Node.TheVariants as kind
use Rattle.avro_schema.specs.declared.error.SchemaError.TheVariants as fault
use Rattle.avro_schema.specs.Names.{joined, full_text}
use Rattle.avro_schema.specs.Form.{Heading, Form, plain, by_name, record_of, enum_of, array_of, map_of, union_of}
use Rattle.avro_schema.specs.Form.{fixed_of, ill_formed, Forms, no_forms, and_form, Fields, no_fields}
use Rattle.avro_schema.specs.Form.{ill_fields, and_field}
use Rattle.avro_schema.specs.Places.{count, forms_count, fields_count, own_namespace, Place, place, places, type_name, places_in}
use Rattle.avro_schema.specs.Places.{places_of_forms, places_of_fields, Definition, heading_in, definitions, defined}
use Rattle.avro_schema.specs.Places.{defined_by, definition_used}
use Rattle.avro_schema.specs.Nodes.{type_aliases, field_at, node_id, branches, field_list, node_of, node_at}
use Rattle.avro_schema.specs.Faults.{unless, fits_union, kind_in_union, kinds, if_written, heading_faults}
use Rattle.avro_schema.specs.Faults.{field_list_faults, symbols_faults, size_faults, faults_of, faults_at}

-- each of the definitions opens at node n or after it
abbrev pub From : ℕ → List Definition → Type 0
From n [] = Unit {0}
From n (e ∷ es) = (n ≤ e.node) × From n es

pub From-append : (n : ℕ) (ds es : List Definition) → From n ds → From n es → From n (ds ++ es)
From-append n [] es p q = q
From-append n (d ∷ ds) es p q = (p.0, From-append n ds es p.1 q)

pub From-weaker : (m n : ℕ) (es : List Definition) → m ≤ n → From n es → From m es
From-weaker m n [] h p = tt
From-weaker m n (e ∷ es) h p = (omega arith, From-weaker m n es h p.1)

pub defined-from : (n : ℕ) (s : List ℕ) (es : List Definition) → From n es → defined es n s ≡ None
defined-from n s [] p = refl
defined-from n s (e ∷ es) p =
    ap (λ b. cond (b && bytes_eq e.name s) (Some e) (defined es n s)) (le-ltb e.node n p.0) ∙ defined-from n s es p.1

or_none : {A : Type 0} (o : Option A) → option_or o None ≡ o
or_none None = refl
or_none (Some x) = refl

pub defined-later : (ds es : List Definition) (n : ℕ) (s : List ℕ) → From n es → defined (ds ++ es) n s ≡ defined ds n s
defined-later ds es n s p = find-append _ ds es ∙ ap (option_or (defined ds n s)) (defined-from n s es p) ∙ or_none (defined ds n s)

new-written : (ds es : List Definition) (ns : List ℕ) (n : ℕ) (h : Heading) (o : Option (List ℕ)) → From n es
    → if_written (λ s. is_none (defined (ds ++ es) n (full_text (own_namespace ns h) s))) o
    ≡ if_written (λ s. is_none (defined ds n (full_text (own_namespace ns h) s))) o
new-written ds es ns n h None p = refl
new-written ds es ns n h (Some s) p = simp (defined-later ds es n (full_text (own_namespace ns h) s) p)

module _ (ds es : List Definition) where
  pub named-later : (n : ℕ) (ns s : List ℕ) → From n es → definition_used (ds ++ es) n ns s ≡ definition_used ds n ns s
  named-later n ns s p = simp (defined-later ds es n (joined ns s) p, defined-later ds es n s p)

  pub node_id-later : (ns : List ℕ) (n : ℕ) (f : Form) → From n es → node_id (ds ++ es) ns n f ≡ node_id ds ns n f
  node_id-later ns n (by_name s) p = simp (named-later n ns s p)
  node_id-later ns n _ p = refl

  pub kind_of-later : (ns : List ℕ) (n : ℕ) (f : Form) → From n es → kind_in_union (ds ++ es) ns n f ≡ kind_in_union ds ns n f
  kind_of-later ns n (by_name s) p = simp (named-later n ns s p)
  kind_of-later ns n _ p = refl

  pub branches-later : (ns : List ℕ) (n : ℕ) (fs : Forms) → From (n + forms_count fs) es → branches (ds ++ es) ns n fs ≡ branches ds ns n fs
  branches-later ns n no_forms p = refl
  branches-later ns n (and_form f fs) p =
      let here : From n es = From-weaker _ _ es (omega arith) p in
      let rest : From (n + count f + forms_count fs) es = From-weaker _ _ es (omega arith) p in
      ap (λ i. i ∷ branches (ds ++ es) ns (n + count f) fs) (node_id-later ns n f here)
      ∙ ap (λ is. node_id ds ns n f ∷ is) (branches-later ns (n + count f) fs rest)

  pub kinds-later : (ns : List ℕ) (n : ℕ) (fs : Forms) → From (n + forms_count fs) es → kinds (ds ++ es) ns n fs ≡ kinds ds ns n fs
  kinds-later ns n no_forms p = refl
  kinds-later ns n (and_form f fs) p =
      let here : From n es = From-weaker _ _ es (omega arith) p in
      let rest : From (n + count f + forms_count fs) es = From-weaker _ _ es (omega arith) p in
      ap (λ i. i ∷ kinds (ds ++ es) ns (n + count f) fs) (kind_of-later ns n f here)
      ∙ ap (λ is. kind_in_union ds ns n f ∷ is) (kinds-later ns (n + count f) fs rest)

  pub field_list-later : (ns : List ℕ) (n : ℕ) (fs : Fields) → From (n + fields_count fs) es
      → field_list (ds ++ es) ns n fs ≡ field_list ds ns n fs
  field_list-later ns n no_fields p = refl
  field_list-later ns n ill_fields p = refl
  field_list-later ns n (and_field h f fs) p =
      let here : From n es = From-weaker _ _ es (omega arith) p in
      let rest : From (n + count f + fields_count fs) es = From-weaker _ _ es (omega arith) p in
      ap (λ i. field_at h i ∷ field_list (ds ++ es) ns (n + count f) fs) (node_id-later ns n f here)
      ∙ ap (λ is. field_at h (node_id ds ns n f) ∷ is) (field_list-later ns (n + count f) fs rest)

  pub node_of-later : (ns : List ℕ) (n : ℕ) (f : Form) → From (n + count f) es → node_of (ds ++ es) ns n f ≡ node_of ds ns n f
  node_of-later ns n (plain k) p = refl
  node_of-later ns n (by_name s) p = refl
  node_of-later ns n (record_of h fs) p =
      let q : From (n + 1 + fields_count fs) es = From-weaker _ _ es (omega arith) p in
      ap (λ gs. Some (kind.Record (type_name ns h) (type_aliases (type_name ns h) h) gs))
      (field_list-later (type_name ns h).namespace (n + 1) fs q)
  node_of-later ns n (enum_of h ss d) p = refl
  node_of-later ns n (array_of f) p =
      let q : From (n + 1) es = From-weaker _ _ es (omega arith) p in
      ap (λ i. Some (kind.Array i)) (node_id-later ns (n + 1) f q)
  node_of-later ns n (map_of f) p =
      let q : From (n + 1) es = From-weaker _ _ es (omega arith) p in
      ap (λ i. Some (kind.Map i)) (node_id-later ns (n + 1) f q)
  node_of-later ns n (union_of fs) p =
      let q : From (n + 1 + forms_count fs) es = From-weaker _ _ es (omega arith) p in
      ap (λ is. Some (kind.Union is)) (branches-later ns (n + 1) fs q)
  node_of-later ns n (fixed_of h d) p = refl
  node_of-later ns n ill_formed p = refl

  pub heading_faults-later : (ns : List ℕ) (n : ℕ) (h : Heading) → From n es → heading_faults (ds ++ es) ns n h ≡ heading_faults ds ns n h
  heading_faults-later ns n h p = simp (new-written ds es ns n h h.name p)

  pub faults_of-later : (ns : List ℕ) (n : ℕ) (f : Form) → From (n + count f) es → faults_of (ds ++ es) ns n f ≡ faults_of ds ns n f
  faults_of-later ns n (plain k) p = refl
  faults_of-later ns n (by_name s) p =
      let q : From n es = From-weaker _ _ es (omega arith) p in
      simp (named-later n ns s q)
  faults_of-later ns n (record_of h fs) p =
      let q : From n es = From-weaker _ _ es (omega arith) p in
      ap (λ l. l ++ field_list_faults fs) (heading_faults-later ns n h q)
  faults_of-later ns n (enum_of h ss d) p =
      let q : From n es = From-weaker _ _ es (omega arith) p in
      ap (λ l. l ++ symbols_faults ss d) (heading_faults-later ns n h q)
  faults_of-later ns n (array_of f) p = refl
  faults_of-later ns n (map_of f) p = refl
  faults_of-later ns n (union_of fs) p =
      let q : From (n + 1 + forms_count fs) es = From-weaker _ _ es (omega arith) p in
      ap (λ ks. unless (fits_union ks) fault.BadUnion) (kinds-later ns (n + 1) fs q)
  faults_of-later ns n (fixed_of h s) p =
      let q : From n es = From-weaker _ _ es (omega arith) p in
      ap (λ l. l ++ size_faults s) (heading_faults-later ns n h q)
  faults_of-later ns n ill_formed p = refl

-- what is read of each place by g, listed, is the same by h
pub record SameAlong (ds es : List Definition) (ps : List Place) : Type 0 where
  pub nodes : filter_map (node_at (ds ++ es)) ps ≡ filter_map (node_at ds) ps
  pub faults : flat_map (faults_at (ds ++ es)) ps ≡ flat_map (faults_at ds) ps

pub SameAlong-nil : (ds es : List Definition) → SameAlong ds es []
SameAlong-nil ds es = record { nodes = refl; faults = refl }

pub SameAlong-append : (ds es : List Definition) (ps qs : List Place) → SameAlong ds es ps → SameAlong ds es qs → SameAlong ds es (ps ++ qs)
SameAlong-append ds es ps qs p q = record {
  nodes = filter_map-append (node_at (ds ++ es)) ps qs
      ∙ ap (λ l. l ++ filter_map (node_at (ds ++ es)) qs) p.nodes
      ∙ ap (λ l. filter_map (node_at ds) ps ++ l) q.nodes
      ∙ sym (filter_map-append (node_at ds) ps qs);
  faults = flat_map-append (faults_at (ds ++ es)) ps qs
      ∙ ap (λ l. l ++ flat_map (faults_at (ds ++ es)) qs) p.faults
      ∙ ap (λ l. flat_map (faults_at ds) ps ++ l) q.faults
      ∙ sym (flat_map-append (faults_at ds) ps qs);
}

pub SameAlong-place : (ds es : List Definition) (ns : List ℕ) (n : ℕ) (f : Form) (ps : List Place)
    → From (n + count f) es → SameAlong ds es ps → SameAlong ds es (place ns n f ∷ ps)
SameAlong-place ds es ns n f ps p q = record {
  nodes = ap (λ o. cons_option o (filter_map (node_at (ds ++ es)) ps)) (node_of-later ds es ns n f p)
      ∙ ap (cons_option (node_of ds ns n f)) q.nodes;
  faults = ap (λ l. l ++ flat_map (faults_at (ds ++ es)) ps) (faults_of-later ds es ns n f p) ∙ ap (λ l. faults_of ds ns n f ++ l) q.faults;
}

module _ (ds es : List Definition) where
  mutual
    pub SameAlong-in : (ns : List ℕ) (n : ℕ) (f : Form) → From (n + count f) es → SameAlong ds es (places_in ns n f)
    SameAlong-in ns n (record_of h fs) p =
        let q : From (n + 1 + fields_count fs) es = From-weaker _ _ es (omega arith) p in
        SameAlong-fields (type_name ns h).namespace (n + 1) fs q
    SameAlong-in ns n (array_of f) p =
        let q : From (n + 1 + count f) es = From-weaker _ _ es (omega arith) p in
        SameAlong-place ds es ns (n + 1) f (places_in ns (n + 1) f) q (SameAlong-in ns (n + 1) f q)
    SameAlong-in ns n (map_of f) p =
        let q : From (n + 1 + count f) es = From-weaker _ _ es (omega arith) p in
        SameAlong-place ds es ns (n + 1) f (places_in ns (n + 1) f) q (SameAlong-in ns (n + 1) f q)
    SameAlong-in ns n (union_of fs) p =
        let q : From (n + 1 + forms_count fs) es = From-weaker _ _ es (omega arith) p in
        SameAlong-forms ns (n + 1) fs q
    SameAlong-in ns n _ p = SameAlong-nil ds es

    pub SameAlong-forms : (ns : List ℕ) (n : ℕ) (fs : Forms) → From (n + forms_count fs) es → SameAlong ds es (places_of_forms ns n fs)
    SameAlong-forms ns n no_forms p = SameAlong-nil ds es
    SameAlong-forms ns n (and_form f fs) p =
        let here : From (n + count f) es = From-weaker _ _ es (omega arith) p in
        let rest : From (n + count f + forms_count fs) es = From-weaker _ _ es (omega arith) p in
        SameAlong-place ds es ns n f (places_in ns n f ++ places_of_forms ns (n + count f) fs) here
        (SameAlong-append ds es (places_in ns n f) (places_of_forms ns (n + count f) fs)
        (SameAlong-in ns n f here) (SameAlong-forms ns (n + count f) fs rest))

    pub SameAlong-fields : (ns : List ℕ) (n : ℕ) (fs : Fields) → From (n + fields_count fs) es → SameAlong ds es (places_of_fields ns n fs)
    SameAlong-fields ns n no_fields p = SameAlong-nil ds es
    SameAlong-fields ns n ill_fields p = SameAlong-nil ds es
    SameAlong-fields ns n (and_field h f fs) p =
        let here : From (n + count f) es = From-weaker _ _ es (omega arith) p in
        let rest : From (n + count f + fields_count fs) es = From-weaker _ _ es (omega arith) p in
        SameAlong-place ds es ns n f (places_in ns n f ++ places_of_fields ns (n + count f) fs) here
        (SameAlong-append ds es (places_in ns n f) (places_of_fields ns (n + count f) fs)
        (SameAlong-in ns n f here) (SameAlong-fields ns (n + count f) fs rest))

  pub SameAlong-type : (ns : List ℕ) (n : ℕ) (f : Form) → From (n + count f) es → SameAlong ds es (places ns n f)
  SameAlong-type ns n f p = SameAlong-place ds es ns n f (places_in ns n f) p (SameAlong-in ns n f p)

-- ---- the definitions of a type open from its own node on

defined_by-from : (ns : List ℕ) (n m : ℕ) (h : Heading) (o : Option (List ℕ)) (es : List Definition)
    → m ≤ n → From m es → From m (cons_option (defined_by ns n (record h { name = o })) es)
defined_by-from ns n m h None es p q = q
defined_by-from ns n m h (Some s) es p q = (p, q)

definition-from : (ns : List ℕ) (n m : ℕ) (f : Form) (ps : List Place) → m ≤ n
    → From m (definitions ps) → From m (definitions (place ns n f ∷ ps))
definition-from ns n m (record_of h fs) ps p q = defined_by-from ns n m h h.name (definitions ps) p q
definition-from ns n m (enum_of h ss d) ps p q = defined_by-from ns n m h h.name (definitions ps) p q
definition-from ns n m (fixed_of h d) ps p q = defined_by-from ns n m h h.name (definitions ps) p q
definition-from ns n m _ ps p q = q

parts-from : (ns : List ℕ) (n m : ℕ) (f : Form) (ps : List Place) → m ≤ n → From m (definitions (places_in ns n f))
    → From m (definitions ps) → From m (definitions (place ns n f ∷ places_in ns n f ++ ps))
parts-from ns n m f ps p q r =
    definition-from ns n m f (places_in ns n f ++ ps) p
    (rw (filter_map-append (λ (p : Place). option_and_then (defined_by p.namespace p.before) (heading_in p.type)) (places_in ns n f) ps)
    (From-append m _ _ q r))

mutual
  pub definitions_in-from : (ns : List ℕ) (n m : ℕ) (f : Form) → m ≤ n + 1 → From m (definitions (places_in ns n f))
  definitions_in-from ns n m (record_of h fs) p = definitions_of_fields-from (type_name ns h).namespace (n + 1) m fs p
  definitions_in-from ns n m (array_of f) p =
      definition-from ns (n + 1) m f (places_in ns (n + 1) f) p (definitions_in-from ns (n + 1) m f (omega arith))
  definitions_in-from ns n m (map_of f) p =
      definition-from ns (n + 1) m f (places_in ns (n + 1) f) p (definitions_in-from ns (n + 1) m f (omega arith))
  definitions_in-from ns n m (union_of fs) p = definitions_of_forms-from ns (n + 1) m fs p
  definitions_in-from ns n m _ p = tt

  pub definitions_of_forms-from : (ns : List ℕ) (n m : ℕ) (fs : Forms) → m ≤ n → From m (definitions (places_of_forms ns n fs))
  definitions_of_forms-from ns n m no_forms p = tt
  definitions_of_forms-from ns n m (and_form f fs) p =
      parts-from ns n m f _ p (definitions_in-from ns n m f (omega arith)) (definitions_of_forms-from ns (n + count f) m fs (omega arith))

  pub definitions_of_fields-from : (ns : List ℕ) (n m : ℕ) (fs : Fields) → m ≤ n → From m (definitions (places_of_fields ns n fs))
  definitions_of_fields-from ns n m no_fields p = tt
  definitions_of_fields-from ns n m ill_fields p = tt
  definitions_of_fields-from ns n m (and_field h f fs) p =
      parts-from ns n m f _ p (definitions_in-from ns n m f (omega arith)) (definitions_of_fields-from ns (n + count f) m fs (omega arith))

pub type-from : (ns : List ℕ) (n : ℕ) (f : Form) → From n (definitions (places ns n f))
type-from ns n f = definition-from ns n n f (places_in ns n f) (omega arith) (definitions_in-from ns n n f (omega arith))

-- ---- how many nodes there are

length-and : (ds : List Definition) (ps qs : List Place)
    → length (filter_map (node_at ds) (ps ++ qs)) ≡ length (filter_map (node_at ds) ps) + length (filter_map (node_at ds) qs)
length-and ds ps qs = ap length (filter_map-append (node_at ds) ps qs) ∙ grind (arith, length-append)

one_more : (a b : ℕ) → a ≡ b → suc a ≡ 1 + b
one_more a b e = omega arith

ap2 : {a b c d : ℕ} → a ≡ b → c ≡ d → a + c ≡ b + d
ap2 e f = omega arith

module _ (ds : List Definition) where
  mutual
    -- a type's own node and those inside it
    pub count-type : (ns : List ℕ) (n : ℕ) (f : Form) → length (filter_map (node_at ds) (places ns n f)) ≡ count f
    count-type ns n (plain p) = refl
    count-type ns n (by_name s) = refl
    count-type ns n (record_of h fs) = one_more _ _ (count-fields (type_name ns h).namespace (n + 1) fs)
    count-type ns n (enum_of h ss d) = refl
    count-type ns n (fixed_of h s) = refl
    count-type ns n (array_of f) = one_more _ _ (count-type ns (n + 1) f)
    count-type ns n (map_of f) = one_more _ _ (count-type ns (n + 1) f)
    count-type ns n (union_of fs) = one_more _ _ (count-forms ns (n + 1) fs)
    count-type ns n ill_formed = refl

    pub count-forms : (ns : List ℕ) (n : ℕ) (fs : Forms) → length (filter_map (node_at ds) (places_of_forms ns n fs)) ≡ forms_count fs
    count-forms ns n no_forms = refl
    count-forms ns n (and_form f fs) =
        length-and ds (places ns n f) (places_of_forms ns (n + count f) fs) ∙ ap2 (count-type ns n f) (count-forms ns (n + count f) fs)

    pub count-fields : (ns : List ℕ) (n : ℕ) (fs : Fields) → length (filter_map (node_at ds) (places_of_fields ns n fs)) ≡ fields_count fs
    count-fields ns n no_fields = refl
    count-fields ns n ill_fields = refl
    count-fields ns n (and_field h f fs) =
        length-and ds (places ns n f) (places_of_fields ns (n + count f) fs) ∙ ap2 (count-type ns n f) (count-fields ns (n + count f) fs)
