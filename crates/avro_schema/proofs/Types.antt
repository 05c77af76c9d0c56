-- What is read and refused of each kind of type.
use Rattle.std.proofs.Common.{◌≡◌, ℕ, ◌+◌, List, [], ◌∷◌, ◌++◌, length, set, Bool, true, false, ◌&&◌, cond, find, Option, Some, None}
use Rattle.std.proofs.Common.{is_some, is_none, option_map, option_and_then, unwrap_or, refl, sym, ◌∙◌, ap, subst, arith, bytes_eq}
use Rattle.std.proofs.Common.{append_assoc, length-append}
use Rattle.std.specs.List.{cons_option, list_all}
use Rattle.std.proofs.lemmas.Bool.{lt-ltb}
use Rattle.std.proofs.lemmas.List.{append-nil}
use Rattle.serde_json.specs.Data.{Num, Data}
use Rattle.serde_json.specs.Find.{as_str, as_u64}
use Rattle.avro_schema.specs.declared.error.SchemaError.TheVariants as fault
use Rattle.avro_schema.specs.declared.heading.TypeNames.{TypeNames}
use Rattle.avro_schema.specs.declared.node.Node.{Node}
use Rattle.avro_schema.specs.declared.node.Node.TheVariants as kind
use Rattle.avro_schema.specs.declared.node.NodeId.{NodeId}
use Rattle.avro_schema.specs.declared.node.Field.{Field}
use Rattle.avro_schema.specs.declared.builder.Builder.{Builder}
use Rattle.avro_schema.specs.declared.symbols.Symbols.{Symbols}
use Rattle.avro_schema.specs.Names.{full_text, is_name}
use Rattle.avro_schema.specs.Form.{Heading, Form, Forms, Fields, record_of, enum_of, fixed_of, array_of, map_of, union_of}
use Rattle.avro_schema.specs.Places.{own_namespace, type_name, Place, place, places, places_of_forms}
use Rattle.avro_schema.specs.Places.{places_of_fields, Definition, heading_in, definitions}
use Rattle.avro_schema.specs.Places.{defined, defined_by}
use Rattle.avro_schema.specs.Nodes.{node_at, node_id, branches, field_list, type_aliases}
use Rattle.avro_schema.specs.Faults.{if_written, fits_union, kinds, faults_at, heading_faults}
use Rattle.avro_schema.specs.Faults.{field_list_faults, fits_enum, are_written}
use Rattle.avro_schema.specs.Faults.{is_formed, field_headings}
use Rattle.avro_schema.specs.DefinedNames.{node_named}
use Rattle.avro_schema.specs.Building.{full_of, Before, nodes_of, opened, HasMet, Reads, IsTypeRead, AreBranchesRead}
use Rattle.avro_schema.specs.Building.{AreFieldsRead, are_formed, has_distinct_names, HasNames, HasSymbols, HasSize}
use Rattle.avro_schema.proofs.Later.{From, defined-later, definitions_of_fields-from}
use Rattle.avro_schema.proofs.Reading.{unless-nil, nil-append, to, from_to, closes, opens_one}

pub and_parts : (a b : Bool) → a && b ≡ true → (a ≡ true) × (b ≡ true)
and_parts true b h = (refl, h)
and_parts false b h = cc

pub and_true : (a b : Bool) → a ≡ true → b ≡ true → a && b ≡ true
and_true a b p q = rw (p, q)

-- ---- names

-- all that was met opens before the next node
pub defined-all : (ds : List Definition) (n : ℕ) (s : List ℕ) → Before n ds → defined ds n s ≡ find (λ d. bytes_eq d.name s) ds
defined-all [] n s b = refl
defined-all (d ∷ ds) n s b =
    ap (λ t. cond (t && bytes_eq d.name s) (Some d) (defined ds n s)) (lt-ltb d.node n b.0)
    ∙ ap (λ o. cond (bytes_eq d.name s) (Some d) o) (defined-all ds n s b.1)

pub found-at : (r : Builder) (ds : List Definition) (s : List ℕ) → HasMet r ds
    → node_named ds s ≡ option_map (λ d. d.node) (defined ds (opened r) s)
found-at r ds s h = ap (option_map (λ d. d.node)) (sym (defined-all ds (opened r) s h.before))

-- ---- one type at node n

abbrev pub IsReadAt : ℕ → List Definition → List ℕ → Form → Builder → Builder → NodeId → Type 0
IsReadAt n ds ns f a b i = Reads ds (places ns n f) a b × (i ≡ node_id (ds ++ definitions (places ns n f)) ns n f)

abbrev pub at_node : ℕ → NodeId
at_node n = record { index = n }

-- the parts of a type, and then the node that is written
close_with : (ds : List Definition) (ns : List ℕ) (f : Form) (ps : List Place) (x y : Node) (a a1 b c : Builder)
    → option_and_then (defined_by ns (opened a)) (heading_in f) ≡ None
    → nodes_of a1 ≡ nodes_of a ++ y ∷ [] → Reads ds ps a1 b → nodes_of c ≡ set (nodes_of b) (opened a) x → c.names ≡ b.names
    → node_at (ds ++ definitions ps) (place ns (opened a) f) ≡ Some x
    → faults_at (ds ++ definitions ps) (place ns (opened a) f) ≡ [] → Reads ds (place ns (opened a) f ∷ ps) a c
close_with ds ns f ps x y a a1 b c none opens r writes keeps is good =
    from_to ds (ds ++ definitions ps) (place ns (opened a) f ∷ ps) a c (ap (λ o. ds ++ cons_option o (definitions ps)) (sym none))
    (closes (ds ++ definitions ps) (place ns (opened a) f) ps x y a a1 b c opens (to ds ps a1 b r) writes keeps is good)

pub opened-more : (y : Node) (a a1 : Builder) → nodes_of a1 ≡ nodes_of a ++ y ∷ [] → opened a1 ≡ opened a + 1
opened-more y a a1 e = ap length e ∙ grind (arith, length-append)

pub read_array : (ds : List Definition) (ns : List ℕ) (f : Form) (y : Node) (i : NodeId) (a a1 b c : Builder)
    → nodes_of a1 ≡ nodes_of a ++ y ∷ [] → IsTypeRead ds ns f a1 b i
    → nodes_of c ≡ set (nodes_of b) (opened a) (kind.Array i) → c.names ≡ b.names → IsTypeRead ds ns (array_of f) a c (at_node (opened a))
read_array ds ns f y i a a1 b c opens r writes keeps =
    let s : IsReadAt (opened a + 1) ds ns f a1 b i = subst (λ n. IsReadAt n ds ns f a1 b i) (opened-more y a a1 opens) r in (
      close_with ds ns (array_of f) (places ns (opened a + 1) f)
          (kind.Array i) y a a1 b c refl opens s.0 writes keeps (ap (λ j. Some (kind.Array j)) (sym s.1)) refl,
      refl,
    )

pub read_map : (ds : List Definition) (ns : List ℕ) (f : Form) (y : Node) (i : NodeId) (a a1 b c : Builder)
    → nodes_of a1 ≡ nodes_of a ++ y ∷ [] → IsTypeRead ds ns f a1 b i
    → nodes_of c ≡ set (nodes_of b) (opened a) (kind.Map i) → c.names ≡ b.names → IsTypeRead ds ns (map_of f) a c (at_node (opened a))
read_map ds ns f y i a a1 b c opens r writes keeps =
    let s : IsReadAt (opened a + 1) ds ns f a1 b i = subst (λ n. IsReadAt n ds ns f a1 b i) (opened-more y a a1 opens) r in (
      close_with ds ns (map_of f) (places ns (opened a + 1) f)
          (kind.Map i) y a a1 b c refl opens s.0 writes keeps (ap (λ j. Some (kind.Map j)) (sym s.1)) refl,
      refl,
    )

abbrev AreReadAt : ℕ → List Definition → List ℕ → Forms → Builder → Builder → List NodeId → Type 0
AreReadAt n ds ns fs a b is =
    let ps = places_of_forms ns n fs in
    Reads ds ps a b × (is ≡ branches (ds ++ definitions ps) ns n fs) × (fits_union (kinds (ds ++ definitions ps) ns n fs) ≡ true)

pub read_union : (ds : List Definition) (ns : List ℕ) (fs : Forms) (y : Node) (is : List NodeId) (a a1 b c : Builder)
    → nodes_of a1 ≡ nodes_of a ++ y ∷ [] → AreBranchesRead ds ns fs a1 b is
    → nodes_of c ≡ set (nodes_of b) (opened a) (kind.Union is) → c.names ≡ b.names → IsTypeRead ds ns (union_of fs) a c (at_node (opened a))
read_union ds ns fs y is a a1 b c opens r writes keeps =
    let s : AreReadAt (opened a + 1) ds ns fs a1 b is = subst (λ n. AreReadAt n ds ns fs a1 b is) (opened-more y a a1 opens) r in (
      close_with ds ns (union_of fs) (places_of_forms ns (opened a + 1) fs) (kind.Union is) y a a1 b c refl opens s.0 writes keeps
          (ap (λ j. Some (kind.Union j)) (sym s.1)) (unless-nil _ fault.BadUnion s.2),
      refl,
    )

-- ---- types with a name

named_as : {A B C : Type 0} (f : A → B) (g : B → C) (o : Option A) (t : B)
    → option_map f o ≡ Some t → option_map (λ s. g (f s)) o ≡ Some (g t)
named_as f g None t e = cc
named_as f g (Some s) t e = ap (option_map g) e

tested_as : {A B : Type 0} (f : A → B) (g : B → Bool) (o : Option A) (t : B) → option_map f o ≡ Some t → if_written (λ s. g (f s)) o ≡ g t
tested_as f g None t e = cc
tested_as f g (Some s) t e = ap (λ p. if_written g p) e

-- the definition that a heading gives
abbrev pub definition_of : TypeNames → ℕ → Definition
definition_of r n = record { name = full_of r.name; node = n }

pub defined_by-names : (ns : List ℕ) (h : Heading) (r : TypeNames) (n : ℕ) → HasNames ns h r → defined_by ns n h ≡ Some (definition_of r n)
defined_by-names ns h r n has =
    named_as (full_text (own_namespace ns h)) (λ s. record { name = s; node = n }) h.name (full_of r.name) has.text

pub new-names : (ds : List Definition) (ns : List ℕ) (h : Heading) (r : TypeNames) (n : ℕ) → HasNames ns h r
    → if_written (λ s. is_none (defined ds n (full_text (own_namespace ns h) s))) h.name ≡ is_none (defined ds n (full_of r.name))
new-names ds ns h r n has = tested_as (full_text (own_namespace ns h)) (λ s. is_none (defined ds n s)) h.name (full_of r.name) has.text

-- a heading whose name is new, whatever opens from here on
good_heading : (ds es : List Definition) (ns : List ℕ) (h : Heading) (r : TypeNames) (n : ℕ) → HasNames ns h r
    → defined ds n (full_of r.name) ≡ None → From n es → heading_faults (ds ++ es) ns n h ≡ []
good_heading ds es ns h r n has new later =
    nil-append _ _ has.none_stands (
    unless-nil _ fault.Redefined (new-names (ds ++ es) ns h r n has ∙ ap is_none (defined-later ds es n (full_of r.name) later ∙ new)))

-- its definition goes before those of its parts
pub defined_first : (ds : List Definition) (d : Definition) (es : List Definition) (o : Option Definition)
    → o ≡ Some d → (ds ++ d ∷ []) ++ es ≡ ds ++ cons_option o es
defined_first ds d es o e = append_assoc ds (d ∷ []) es ∙ ap (λ p. ds ++ cons_option p es) (sym e)

pub read_leaf : (ds : List Definition) (ns : List ℕ) (h : Heading) (r : TypeNames) (f : Form) (x : Node) (a b : Builder)
    → HasNames ns h r → option_and_then (defined_by ns (opened a)) (heading_in f) ≡ defined_by ns (opened a) h
    → nodes_of b ≡ nodes_of a ++ x ∷ [] → HasMet b (ds ++ definition_of r (opened a) ∷ [])
    → node_at (ds ++ definition_of r (opened a) ∷ []) (place ns (opened a) f) ≡ Some x
    → faults_at (ds ++ definition_of r (opened a) ∷ []) (place ns (opened a) f) ≡ [] → Reads ds (place ns (opened a) f ∷ []) a b
read_leaf ds ns h r f x a b has defines opens met is good =
    let d = definition_of r (opened a) in
    from_to ds (ds ++ d ∷ []) (place ns (opened a) f ∷ []) a b
    (sym (append-nil (ds ++ d ∷ [])) ∙ defined_first ds d [] _ (defines ∙ defined_by-names ns h r (opened a) has))
    (opens_one (ds ++ d ∷ []) (place ns (opened a) f) x a b opens met is good)

pub read_enum : (ds : List Definition) (ns : List ℕ) (h : Heading) (r : TypeNames)
    (ss : Option (List (List ℕ))) (d : Option Data) (v : Symbols) (a b : Builder)
    → HasNames ns h r → HasSymbols ss d v
    → nodes_of b ≡ nodes_of a ++ kind.Enum r.name r.aliases.items v.symbols v.default ∷ []
    → HasMet b (ds ++ definition_of r (opened a) ∷ []) → defined ds (opened a) (full_of r.name) ≡ None
    → IsTypeRead ds ns (enum_of h ss d) a b (at_node (opened a))
read_enum ds ns h r ss d v a b has symbols opens met new =
    let good : faults_at (ds ++ definition_of r (opened a) ∷ []) (place ns (opened a) (enum_of h ss d)) ≡ [] =
    nil-append _ _ (good_heading ds (definition_of r (opened a) ∷ []) ns h r (opened a) has new (omega arith, tt))
    (nil-append _ _ (unless-nil _ fault.BadForm (ap is_some symbols.symbols))
    (unless-nil _ fault.BadEnum (ap (if_written (fits_enum d)) symbols.symbols ∙ symbols.fits)))
    in
    let is : node_at (ds ++ definition_of r (opened a) ∷ []) (place ns (opened a) (enum_of h ss d))
    ≡ Some (kind.Enum r.name r.aliases.items v.symbols v.default) =
    ap (λ m. Some (kind.Enum m (type_aliases m h) (unwrap_or ss []) (option_and_then as_str d))) (sym has.name)
    ∙ ap (λ al. Some (kind.Enum r.name al (unwrap_or ss []) (option_and_then as_str d))) (sym has.aliases)
    ∙ ap (λ o. Some (kind.Enum r.name r.aliases.items (unwrap_or o []) (option_and_then as_str d))) symbols.symbols
    ∙ ap (λ o. Some (kind.Enum r.name r.aliases.items v.symbols o)) symbols.default in
    (read_leaf ds ns h r (enum_of h ss d) _ a b has refl opens met is good, refl)

pub read_fixed : (ds : List Definition) (ns : List ℕ) (h : Heading) (r : TypeNames) (s : Option Num) (size : ℕ) (a b : Builder)
    → HasNames ns h r → HasSize s size
    → nodes_of b ≡ nodes_of a ++ kind.Fixed r.name r.aliases.items size ∷ []
    → HasMet b (ds ++ definition_of r (opened a) ∷ []) → defined ds (opened a) (full_of r.name) ≡ None
    → IsTypeRead ds ns (fixed_of h s) a b (at_node (opened a))
read_fixed ds ns h r s size a b has sized opens met new =
    let good : faults_at (ds ++ definition_of r (opened a) ∷ []) (place ns (opened a) (fixed_of h s)) ≡ [] =
    nil-append _ _ (good_heading ds (definition_of r (opened a) ∷ []) ns h r (opened a) has new (omega arith, tt)) sized.none_stands in
    let is : node_at (ds ++ definition_of r (opened a) ∷ []) (place ns (opened a) (fixed_of h s))
    ≡ Some (kind.Fixed r.name r.aliases.items size) =
    ap (λ m. Some (kind.Fixed m (type_aliases m h) (unwrap_or (option_and_then as_u64 s) 0))) (sym has.name)
    ∙ ap (λ al. Some (kind.Fixed r.name al (unwrap_or (option_and_then as_u64 s) 0))) (sym has.aliases)
    ∙ ap (λ n. Some (kind.Fixed r.name r.aliases.items n)) sized.size in
    (read_leaf ds ns h r (fixed_of h s) _ a b has refl opens met is good, refl)

abbrev AreFieldsReadAt : ℕ → List Definition → List ℕ → Fields → Builder → Builder → List Field → Type 0
AreFieldsReadAt n ds ns fs a b gs =
    let ps = places_of_fields ns n fs in
    Reads ds ps a b × (gs ≡ field_list (ds ++ definitions ps) ns n fs) × (are_formed fs ≡ true)

good_fields : (fs : Fields) → are_formed fs ≡ true → has_distinct_names fs ≡ true → field_list_faults fs ≡ []
good_fields fs p q =
    let both = and_parts (are_written fs && list_all is_formed (field_headings fs))
    (list_all (λ h. if_written (list_all is_name) h.aliases) (field_headings fs)) p in
    nil-append _ _ (unless-nil _ fault.BadForm (and_true _ _ both.0 q)) (unless-nil _ fault.BadName both.1)

pub read_record : (ds : List Definition) (ns : List ℕ) (h : Heading)
    (r : TypeNames) (fs : Fields) (y : Node) (gs : List Field) (a a1 b c : Builder)
    → HasNames ns h r
    → nodes_of a1 ≡ nodes_of a ++ y ∷ [] → defined ds (opened a) (full_of r.name) ≡ None
    → AreFieldsRead (ds ++ definition_of r (opened a) ∷ []) r.name.namespace fs a1 b gs → has_distinct_names fs ≡ true
    → nodes_of c ≡ set (nodes_of b) (opened a) (kind.Record r.name r.aliases.items gs)
    → c.names ≡ b.names → IsTypeRead ds ns (record_of h fs) a c (at_node (opened a))
read_record ds ns h r fs y gs a a1 b c has opens new reads distinct writes keeps =
    let n = opened a in
    let d = definition_of r n in
    let ps = places_of_fields (type_name ns h).namespace (n + 1) fs in
    let s : AreFieldsReadAt (n + 1) (ds ++ d ∷ []) r.name.namespace fs a1 b gs =
    subst (λ m. AreFieldsReadAt m (ds ++ d ∷ []) r.name.namespace fs a1 b gs) (opened-more y a a1 opens) reads in
    let t : AreFieldsReadAt (n + 1) (ds ++ d ∷ []) (type_name ns h).namespace fs a1 b gs =
    subst (λ m. AreFieldsReadAt (n + 1) (ds ++ d ∷ []) m.namespace fs a1 b gs) has.name s in
    let es = (ds ++ d ∷ []) ++ definitions ps in
    let later : From n (d ∷ definitions ps) =
    (omega arith, definitions_of_fields-from (type_name ns h).namespace (n + 1) n fs (omega arith)) in
    let good : faults_at es (place ns n (record_of h fs)) ≡ [] =
    nil-append _ _
    (ap (λ l. heading_faults l ns n h) (append_assoc ds (d ∷ []) (definitions ps))
    ∙ good_heading ds (d ∷ definitions ps) ns h r n has new later)
    (good_fields fs t.2 distinct) in
    let is : node_at es (place ns n (record_of h fs)) ≡ Some (kind.Record r.name r.aliases.items gs) =
    ap (λ gs. Some (kind.Record (type_name ns h) (type_aliases (type_name ns h) h) gs)) (sym t.1)
    ∙ ap (λ m. Some (kind.Record m (type_aliases m h) gs)) (sym has.name)
    ∙ ap (λ al. Some (kind.Record r.name al gs)) (sym has.aliases) in (
      from_to ds es (place ns n (record_of h fs) ∷ ps) a c (defined_first ds d (definitions ps) _ (defined_by-names ns h r n has))
          (closes es (place ns n (record_of h fs)) ps (kind.Record r.name r.aliases.items gs) y a a1 b c opens
          (to (ds ++ d ∷ []) ps a1 b t.0) writes keeps is good),
      refl,
    )
