-- What the builder's functions return, from what they call.
use Rattle.std.proofs.Common.{◌≡◌, ℕ, zero, suc, drop, get_or, codes, ◌+◌, ◌≤◌, ◌<◌, List, [], ◌∷◌, ◌++◌, length, set, Bool, true, false}
use Rattle.std.proofs.Common.{◌&&◌, map, bytes_eq, None, Result, IfOk, refl, sym, ◌∙◌, ap, subst, arith, length-set, option_map}
use Rattle.std.proofs.Common.{option_and_then, Option, Some, is_some}
use Rattle.std.specs.List.{list_all}
use Rattle.std.specs.Option.{option_map_or}
use Rattle.std.specs.Result.{IfErr}
use Rattle.std.proofs.lemmas.List.{append-nil}
use Rattle.serde_json.specs.Find.{as_str}
use Rattle.avro_schema.specs.declared.error.SchemaError.{SchemaError}
use Rattle.avro_schema.specs.declared.error.SchemaError.TheVariants as fault
use Rattle.avro_schema.specs.declared.heading.TypeNames.{TypeNames}
use Rattle.avro_schema.specs.Kinds.{Kind}
use Rattle.avro_schema.specs.declared.kinds.BranchKind.{BranchKind}
use Rattle.avro_schema.specs.declared.node.FullName.{FullName}
use Rattle.avro_schema.specs.declared.node.Node.{Node}
use Rattle.avro_schema.specs.declared.node.Node.TheVariants as kind
use Rattle.avro_schema.specs.declared.node.NodeId.{NodeId}
use Rattle.avro_schema.specs.declared.node.Field.{Field}
use Rattle.avro_schema.specs.declared.builder.Builder.{Builder}
use Rattle.avro_schema.specs.declared.defined_names.Namespace.{Namespace}
use Rattle.avro_schema.specs.declared.named_types.OpenType.{OpenType}
use Rattle.avro_schema.specs.declared.symbols.Symbols.{Symbols}
use Rattle.avro_schema.specs.declared.limits.TheConstants.{SCHEMA_NODES_LIMIT}
use Rattle.serde_json.specs.Data.{Num, Data}
use Rattle.std.proofs.Math.Seq.{set-append_seam}
use Rattle.avro_schema.specs.Names.{joined, all_distinct, is_name}
use Rattle.json_tree.specs.View.{view, items_view}
use Rattle.json_tree.specs.declared.tree.Json.{Json}
use Rattle.avro_schema.specs.Form.{by_name, form, forms, fields_of_items, field_heading_of, type_in, Form, Forms, Fields, FieldHeading}
use Rattle.avro_schema.specs.Form.{Heading, no_forms, and_form, and_field, no_fields, ill_fields, array_of, map_of, union_of, record_of}
use Rattle.avro_schema.specs.Form.{enum_of, fixed_of, strings}
use Rattle.avro_schema.specs.Places.{count, place, places, definition_used, Definition, definitions, defined}
use Rattle.avro_schema.specs.Nodes.{field_list}
use Rattle.avro_schema.specs.Faults.{kind_in_union, fits_union, field_headings, field_name, is_formed, if_written}
use Rattle.avro_schema.specs.Schema.{IsRefusalBy}
use Rattle.avro_schema.specs.DefinedNames.{number_of, AreDefined, IsNumbered}
use Rattle.avro_schema.specs.Branches.{may_stand, branch_kind, StandsFor}
use Rattle.avro_schema.specs.Building.{full_of, names_of, Before, Keeps, OpensType, HasSymbols, HasSize, nodes_of, opened}
use Rattle.avro_schema.specs.Building.{HasMet, IsTypeRead, AreBranchesRead, AreFieldsRead, branches_faults, fields_faults}
use Rattle.avro_schema.specs.Building.{ReadsType, RefusesType, ReadsBranches, ReadsFields, ReadsField, RefusesField}
use Rattle.avro_schema.specs.Building.{has_distinct_names, HasNames, form_in}
use Rattle.avro_schema.proofs.Reading.{left, alone, from_to, opens_none, unless-nil}
use Rattle.avro_schema.proofs.KindLemmas.{fits_not, fits_more}
use Rattle.avro_schema.proofs.KindLemmas as lone
use Rattle.avro_schema.proofs.BranchLemmas.{AreFor, are_still, are_more, same_standing, kind_read}
use Rattle.avro_schema.proofs.ObjectForms.{items_view-drop, type_in-get}
use Rattle.avro_schema.proofs.Along.{BranchesAlong, FieldsAlong, TestsAlong, all_kinds, first_kind, branches_start}
use Rattle.avro_schema.proofs.Along.{branches_step, branches_refused, branches_end, fields_step, fields_refused}
use Rattle.avro_schema.proofs.Along.{fields_end, tests_step}
use Rattle.avro_schema.proofs.Types.{opened-more, definition_of, read_array, read_map, read_union, read_record, read_enum, read_fixed}

pub type_ok : {E : Type 0} (r : Result NodeId E) (a b : Builder) (ns : List ℕ) (f g : Form)
    → g ≡ f → IfOk r (ReadsType a b ns f) → IfOk r (ReadsType a b ns g)
type_ok r a b ns f g e h = subst (λ (j : Form). IfOk r (ReadsType a b ns j)) (sym e) h

pub type_err : {T : Type 0} (r : Result T SchemaError) (a : Builder) (ns : List ℕ) (f g : Form)
    → g ≡ f → IfErr r (RefusesType a ns f) → IfErr r (RefusesType a ns g)
type_err r a ns f g e h = subst (λ (j : Form). IfErr r (RefusesType a ns j)) (sym e) h

-- a node that was opened is still there
pub still_there : (a b c : Builder) (x : Node) (i : ℕ) → i ≡ opened a
    → nodes_of b ≡ nodes_of a ++ x ∷ [] → opened b ≤ opened c → i < opened c
still_there a b c x i is opens le = omega (arith, opened-more x a b opens)

-- numbers of namespaces are kept from step to step
pub keeps_same : (a b : Builder) → b.names ≡ a.names → Keeps a b
keeps_same a b e = λ ns i h. ap (λ m. number_of m ns) e ∙ h

pub keeps_from : (a b c : Builder) → Keeps a b → Keeps b c → Keeps a c
keeps_from a b c p q = λ ns i h. q ns i (p ns i h)

keeps_around : (a b c d : Builder) → b.names ≡ a.names → Keeps b c → d.names ≡ c.names → Keeps a d
keeps_around a b c d p q r = keeps_from a b d (keeps_same a b p) (keeps_from b c d q (keeps_same c d r))

pub grown : (a b c d : Builder) (x y : Node) (i : ℕ) → nodes_of b ≡ nodes_of a ++ x ∷ []
    → opened b ≤ opened c → nodes_of d ≡ set (nodes_of c) i y → opened a ≤ opened d
grown a b c d x y i opens le writes = omega (arith, opened-more x a b opens, ap length writes ∙ length-set (nodes_of c) i y)

-- ---- uses

used_some : (o : Option Definition) (i : ℕ) → Some i ≡ option_map (λ d. d.node) o
    → (is_some o ≡ true) × (i ≡ option_map_or (λ d. d.node) o 0)
used_some None i e = cc
used_some (Some d) i e = let same : i ≡ d.node = cc in (refl, same)

pub use_read : (a : Builder) (ns s : List ℕ) (i : ℕ)
    → ((ds : List Definition) → HasMet a ds → Some i ≡ option_map (λ d. d.node) (definition_used ds (opened a) ns s))
    → ReadsType a a ns (by_name s) (record { index = i })
use_read a ns s i used = (
  omega arith,
  λ ds met.
      let n = opened a in
      let found : Some i ≡ option_map (λ d. d.node) (definition_used (ds ++ []) n ns s) =
      used ds met ∙ ap (λ l. option_map (λ d. d.node) (definition_used l n ns s)) (sym (append-nil ds)) in
      let is = used_some (definition_used (ds ++ []) n ns s) i found in (
        from_to ds (ds ++ []) (places ns n (by_name s)) a a refl
            (opens_none (ds ++ []) (place ns n (by_name s)) a (subst (HasMet a) (sym (append-nil ds)) met) refl
            (unless-nil (is_some (definition_used (ds ++ []) n ns s)) (fault.Unknown s) is.0)),
        ap (λ k. record { index = k }) is.1,
      ),
  λ ms k h. h,
)

-- ---- arrays, maps and unions

pub array_read : (a b c d : Builder) (ns : List ℕ) (f : Form) (y : Node) (i : ℕ) (j : NodeId) → i ≡ opened a
    → nodes_of b ≡ nodes_of a ++ y ∷ [] → ((ds : List Definition) → HasMet a ds → HasMet b ds) → b.names ≡ a.names → ReadsType b c ns f j
    → nodes_of d ≡ set (nodes_of c) i (kind.Array j) → d.names ≡ c.names → ReadsType a d ns (array_of f) (record { index = i })
array_read a b c d ns f y i j is opens met named reads writes keeps = (
  grown a b c d y (kind.Array j) i opens reads.0 writes,
  λ ds m.
      subst (λ (k : ℕ). IsTypeRead ds ns (array_of f) a d (record { index = k })) (sym is)
      (read_array ds ns f y j a b c d opens (reads.1 ds (met ds m)) (writes ∙ ap (λ k. set (nodes_of c) k (kind.Array j)) is) keeps),
  keeps_around a b c d named reads.2 keeps,
)

pub map_read : (a b c d : Builder) (ns : List ℕ) (f : Form) (y : Node) (i : ℕ) (j : NodeId) → i ≡ opened a
    → nodes_of b ≡ nodes_of a ++ y ∷ [] → ((ds : List Definition) → HasMet a ds → HasMet b ds) → b.names ≡ a.names → ReadsType b c ns f j
    → nodes_of d ≡ set (nodes_of c) i (kind.Map j) → d.names ≡ c.names → ReadsType a d ns (map_of f) (record { index = i })
map_read a b c d ns f y i j is opens met named reads writes keeps = (
  grown a b c d y (kind.Map j) i opens reads.0 writes,
  λ ds m.
      subst (λ (k : ℕ). IsTypeRead ds ns (map_of f) a d (record { index = k })) (sym is)
      (read_map ds ns f y j a b c d opens (reads.1 ds (met ds m)) (writes ∙ ap (λ k. set (nodes_of c) k (kind.Map j)) is) keeps),
  keeps_around a b c d named reads.2 keeps,
)

pub union_read : (a b c d : Builder) (ns : List ℕ) (fs : Forms) (y : Node) (i : ℕ) (js ks : List NodeId)
    → i ≡ opened a → nodes_of b ≡ nodes_of a ++ y ∷ []
    → ((ds : List Definition) → HasMet a ds → HasMet b ds) → b.names ≡ a.names → ReadsBranches b c ns fs js
    → ks ≡ js → nodes_of d ≡ set (nodes_of c) i (kind.Union ks) → d.names ≡ c.names → ReadsType a d ns (union_of fs) (record { index = i })
union_read a b c d ns fs y i js ks is opens met named reads same writes keeps =
    let writes_js : nodes_of d ≡ set (nodes_of c) i (kind.Union js) = writes ∙ ap (λ l. set (nodes_of c) i (kind.Union l)) same in (
      grown a b c d y (kind.Union js) i opens reads.0 writes_js,
      λ ds m. subst (λ (k : ℕ). IsTypeRead ds ns (union_of fs) a d (record { index = k })) (sym is) (
          read_union ds ns fs y js a b c d opens (reads.1 ds (met ds m))
          (writes_js ∙ ap (λ k. set (nodes_of c) k (kind.Union js)) is) keeps),
      keeps_around a b c d named reads.2 keeps,
    )

-- ---- records

pub listed_names : (ds : List Definition) (ns : List ℕ) (n : ℕ) (fs : Fields)
    → map (λ g. g.name) (field_list ds ns n fs) ≡ map field_name (field_headings fs)
listed_names ds ns n no_fields = refl
listed_names ds ns n ill_fields = refl
listed_names ds ns n (and_field h f fs) = ap (λ l. field_name h ∷ l) (listed_names ds ns (n + count f) fs)

pub tested_names : (ds : List Definition) (ns : List ℕ) (fs : Fields) (a b : Builder) (gs : List Field) (t : Bool)
    → AreFieldsRead ds ns fs a b gs → t ≡ all_distinct bytes_eq (map (λ g. g.name) gs) → has_distinct_names fs ≡ t
tested_names ds ns fs a b gs t r e =
    sym (e ∙ ap (λ l. all_distinct bytes_eq (map (λ g. g.name) l)) r.1 ∙ ap (all_distinct bytes_eq) (listed_names _ ns (opened a) fs))

pub defined_at : (b : Builder) (ds : List Definition) (r : TypeNames) (i n : ℕ) → i ≡ n
    → HasMet b (ds ++ record { name = full_of r.name; node = i } ∷ []) → HasMet b (ds ++ definition_of r n ∷ [])
defined_at b ds r i n e h = subst (λ (k : ℕ). HasMet b (ds ++ record { name = full_of r.name; node = k } ∷ [])) e h

pub opens_type : (a b d : Builder) (ns : List ℕ) (h : Heading) (r : TypeNames) (m : Namespace) (last : List ℕ) (x : Node) (i : ℕ)
    → b.nodes ≡ a.nodes → Keeps a b → ((ds : List Definition) → HasMet a ds → HasMet b ds)
    → HasNames ns h r → m.text ≡ r.name.namespace → last ≡ r.name.name → IsNumbered b.names m
    → i ≡ opened b → nodes_of d ≡ nodes_of b ++ x ∷ [] → Keeps b d
    → ((ds : List Definition) → HasMet b ds
    → HasMet d (ds ++ record { name = joined m.text last; node = i } ∷ []) × (defined ds i (joined m.text last) ≡ None))
    → OpensType a d ns h (record { index = i; namespace = m; name = r.name; aliases = r.aliases })
opens_type a b d ns h r m last x i stays kept met has inside ends numbered place opens keeps more =
    let full : joined m.text last ≡ full_of r.name = ap (λ t. joined t last) inside ∙ ap (joined r.name.namespace) ends in
    record {
      first = x;
      has = record { none_stands = has.none_stands; text = has.text; name = has.name; last = has.last; aliases = has.aliases };
      place = place ∙ ap (λ v. length v.items) stays;
      opens = opens ∙ ap (λ v. v.items ++ x ∷ []) stays;
      inside = inside;
      numbered = keeps m.text m.number numbered;
      keeps = keeps_from a b d kept keeps;
      met = λ ds was.
          subst (λ (t : List ℕ). HasMet d (ds ++ record { name = t; node = i } ∷ []) × (defined ds i t ≡ None)) full (more ds (met ds was));
    }

-- an open type without parts is written
pub leaf_met : (b d : Builder) (ds : List Definition) (i : ℕ) (y : Node)
    → nodes_of d ≡ set (nodes_of b) i y → d.names ≡ b.names → HasMet b ds → HasMet d ds
leaf_met b d ds i y writes keeps met =
    let same : opened d ≡ opened b = ap length writes ∙ length-set (nodes_of b) i y in
    record {
      names = subst (λ m. AreDefined m ds) (sym keeps) met.names;
      apart = met.apart;
      before = subst (λ n. Before n ds) (sym same) met.before;
      small = subst (λ n. n ≤ SCHEMA_NODES_LIMIT) (sym same) met.small;
    }

set-end : (xs : List Node) (x y : Node) → set (xs ++ x ∷ []) (length xs) y ≡ xs ++ y ∷ []
set-end xs x y = set-append_seam xs x [] y

pub leaf_opens : (a b d : Builder) (i : ℕ) (x y : Node) → i ≡ opened a → nodes_of b ≡ nodes_of a ++ x ∷ []
    → nodes_of d ≡ set (nodes_of b) i y → nodes_of d ≡ nodes_of a ++ y ∷ []
leaf_opens a b d i x y place opens writes =
    writes ∙ ap (λ l. set l i y) opens ∙ ap (λ k. set (nodes_of a ++ x ∷ []) k y) place ∙ set-end (nodes_of a) x y

pub fixed_read : (a b d : Builder) (ns : List ℕ) (h : Heading) (r : OpenType) (s : Option Num) (size : ℕ) (al : List FullName)
    → OpensType a b ns h r → HasSize s size → al ≡ r.aliases.items
    → nodes_of d ≡ set (nodes_of b) r.index (kind.Fixed r.name al size) → d.names ≡ b.names
    → ReadsType a d ns (fixed_of h s) (record { index = r.index })
fixed_read a b d ns h r s size al o sized same writes keeps =
    let y = kind.Fixed r.name r.aliases.items size in
    let opens : nodes_of d ≡ nodes_of a ++ y ∷ [] =
    leaf_opens a b d r.index o.first y o.place o.opens (writes ∙ ap (λ l. set (nodes_of b) r.index (kind.Fixed r.name l size)) same) in (
      omega (arith, opened-more y a d opens),
      λ ds met.
          let now = o.met ds met in
          subst (λ (k : ℕ). IsTypeRead ds ns (fixed_of h s) a d (record { index = k })) (sym o.place)
          (read_fixed ds ns h (names_of r) s size a d o.has sized opens
          (leaf_met b d _ r.index _ writes keeps (defined_at b ds (names_of r) _ _ o.place now.0))
          (ap (λ k. defined ds k (full_of r.name)) (sym o.place) ∙ now.1)),
      keeps_from a b d o.keeps (keeps_same b d keeps),
    )

pub enum_read : (a b d : Builder) (ns : List ℕ) (h : Heading) (r : OpenType)
    (ss : Option (List (List ℕ))) (e : Option Data) (v : Symbols) (al : List FullName)
    → OpensType a b ns h r → HasSymbols ss e v → al ≡ r.aliases.items
    → nodes_of d ≡ set (nodes_of b) r.index (kind.Enum r.name al v.symbols v.default)
    → d.names ≡ b.names → ReadsType a d ns (enum_of h ss e) (record { index = r.index })
enum_read a b d ns h r ss e v al o symbols same writes keeps =
    let y = kind.Enum r.name r.aliases.items v.symbols v.default in
    let opens : nodes_of d ≡ nodes_of a ++ y ∷ [] = leaf_opens a b d r.index o.first y o.place o.opens (
    writes ∙ ap (λ l. set (nodes_of b) r.index (kind.Enum r.name l v.symbols v.default)) same) in (
      omega (arith, opened-more y a d opens),
      λ ds met.
          let now = o.met ds met in
          subst (λ (k : ℕ). IsTypeRead ds ns (enum_of h ss e) a d (record { index = k })) (sym o.place)
          (read_enum ds ns h (names_of r) ss e v a d o.has symbols opens
          (leaf_met b d _ r.index _ writes keeps (defined_at b ds (names_of r) _ _ o.place now.0))
          (ap (λ k. defined ds k (full_of r.name)) (sym o.place) ∙ now.1)),
      keeps_from a b d o.keeps (keeps_same b d keeps),
    )

pub record_read : (a b c d : Builder) (ns : List ℕ) (h : Heading) (r : TypeNames)
    (fs : Fields) (y : Node) (i : ℕ) (gs hs : List Field) (al : List FullName) (t : Bool)
    → HasNames ns h r → i ≡ opened a → nodes_of b ≡ nodes_of a ++ y ∷ []
    → ((ds : List Definition) → HasMet a ds
    → HasMet b (ds ++ record { name = full_of r.name; node = i } ∷ []) × (defined ds i (full_of r.name) ≡ None))
    → Keeps a b → ReadsFields b c r.name.namespace fs gs → t ≡ all_distinct bytes_eq (map (λ g. g.name) gs) → t ≡ true
    → hs ≡ gs → al ≡ r.aliases.items → nodes_of d ≡ set (nodes_of c) i (kind.Record r.name al hs)
    → d.names ≡ c.names → ReadsType a d ns (record_of h fs) (record { index = i })
record_read a b c d ns h r fs y i gs hs al t has is opens met kept reads tests distinct_names same same_al writes keeps =
    let x = kind.Record r.name r.aliases.items gs in
    let writes_x : nodes_of d ≡ set (nodes_of c) i x =
    writes
    ∙ ap (λ l. set (nodes_of c) i (kind.Record r.name al l)) same
    ∙ ap (λ l. set (nodes_of c) i (kind.Record r.name l gs)) same_al in (
      grown a b c d y x i opens reads.0 writes_x,
      λ ds m.
          let now = met ds m in
          let fields = reads.1 (ds ++ definition_of r (opened a) ∷ []) (defined_at b ds r i (opened a) is now.0) in
          let new : defined ds (opened a) (full_of r.name) ≡ None = ap (λ k. defined ds k (full_of r.name)) (sym is) ∙ now.1 in
          let distinct : has_distinct_names fs ≡ true = tested_names _ r.name.namespace fs b c gs t fields tests ∙ distinct_names in
          subst (λ (k : ℕ). IsTypeRead ds ns (record_of h fs) a d (record { index = k })) (sym is)
          (read_record ds ns h r fs y gs a b c d has opens new fields distinct (writes_x ∙ ap (λ k. set (nodes_of c) k x) is) keeps),
      keeps_from a b d kept (keeps_from b c d reads.2 (keeps_same c d keeps)),
    )

-- ---- one branch or field, and those after it

-- the branches so far, whose kinds are ms
pub record BranchesFit (old : Builder) (ns : List ℕ) (all : Forms) (now : Builder) (rest : Forms)
    (is : List NodeId) (ms : List BranchKind) (ds : List Definition) : Type 0 where
  pub ks : List Kind
  pub along : BranchesAlong old ns all now rest is ks ds
  pub for : AreFor along.met_now ms ks
  pub fits : fits_union ks ≡ true

pub fit_start : (old : Builder) (ns : List ℕ) (all : Forms) (ds : List Definition) → HasMet old ds → BranchesFit old ns all old all [] [] ds
fit_start old ns all ds met = record { ks = []; along = branches_start old ns all ds met; for = tt; fits = refl }

module _ (old now next : Builder) (ns : List ℕ) (all more : Forms) (f : Form) (is : List NodeId) (ms : List BranchKind) (i : NodeId)
    (ds : List Definition) (fit : BranchesFit old ns all now (and_form f more) is ms ds) (reads : ReadsType now next ns f i) where
  abbrev here : List Definition
  here = fit.along.met_now

  abbrev kind_here : Kind
  kind_here = kind_in_union here ns (opened now) f

  read_here : IsTypeRead here ns f now next i
  read_here = reads.1 here fit.along.met

  for_next : AreFor (here ++ definitions (places ns (opened now) f)) ms fit.ks
  for_next = are_still here _ ms fit.ks fit.for

  stands_next : StandsFor (here ++ definitions (places ns (opened now) f)) (branch_kind (opened now) (nodes_of next) i) kind_here
  stands_next = kind_read here ns now next i f fit.along.met read_here

  standing : may_stand (branch_kind (opened now) (nodes_of next) i) ms ≡ lone.may_stand kind_here fit.ks
  standing = same_standing (here ++ definitions (places ns (opened now) f)) read_here.0.met.apart _ kind_here ms fit.ks stands_next for_next

  step_fit : may_stand (branch_kind (opened now) (nodes_of next) i) ms ≡ true
      → BranchesFit old ns all next more (is ++ i ∷ []) (ms ++ branch_kind (opened now) (nodes_of next) i ∷ []) ds
  step_fit may = record {
    ks = fit.ks ++ kind_here ∷ [];
    along = branches_step old ns all now next f more is fit.ks i ds fit.along read_here;
    for = are_more _ ms fit.ks _ kind_here for_next stands_next;
    fits = fits_more fit.ks kind_here fit.fits (sym standing ∙ may);
  }

  -- a branch that may not stand beside those before it
  step_twice : may_stand (branch_kind (opened now) (nodes_of next) i) ms ≡ false
      → IsRefusalBy (branches_faults ds ns all (opened old)) fault.BadUnion
  step_twice may =
      let first = first_kind here ns f more now in
      let same : all_kinds ds ns all old ≡ fit.ks ++ kind_here ∷ first.0 = fit.along.kinds_are ∙ ap (λ l. fit.ks ++ l) first.1 in
      left _ _ fault.BadUnion (alone _ fault.BadUnion (ap fits_union same ∙ fits_not fit.ks kind_here first.0 (sym standing ∙ may)))

pub branches_next : (old now next : Builder) (ns : List ℕ) (all rest more : Forms)
    (f : Form) (is : List NodeId) (ms : List BranchKind) (i : NodeId) (ds : List Definition)
    → rest ≡ and_form f more → BranchesFit old ns all now rest is ms ds → ReadsType now next ns f i
    → may_stand (branch_kind (opened now) (nodes_of next) i) ms ≡ true
    → BranchesFit old ns all next more (is ++ i ∷ []) (ms ++ branch_kind (opened now) (nodes_of next) i ∷ []) ds
branches_next old now next ns all rest more f is ms i ds e fit reads may =
    step_fit old now next ns all more f is ms i ds (subst (λ (fs : Forms). BranchesFit old ns all now fs is ms ds) e fit) reads may

pub branches_twice : (old now next : Builder) (ns : List ℕ) (all rest more : Forms)
    (f : Form) (is : List NodeId) (ms : List BranchKind) (i : NodeId) (ds : List Definition)
    → rest ≡ and_form f more → BranchesFit old ns all now rest is ms ds → ReadsType now next ns f i
    → may_stand (branch_kind (opened now) (nodes_of next) i) ms ≡ false
    → IsRefusalBy (branches_faults ds ns all (opened old)) fault.BadUnion
branches_twice old now next ns all rest more f is ms i ds e fit reads may =
    step_twice old now next ns all more f is ms i ds (subst (λ (fs : Forms). BranchesFit old ns all now fs is ms ds) e fit) reads may

pub branches_no : (old now : Builder) (ns : List ℕ) (all rest more : Forms) (f : Form)
    (is : List NodeId) (ms : List BranchKind) (ds : List Definition) (e : SchemaError)
    → rest ≡ and_form f more → BranchesFit old ns all now rest is ms ds
    → RefusesType now ns f e → IsRefusalBy (branches_faults ds ns all (opened old)) e
branches_no old now ns all rest more f is ms ds e s fit refused =
    let here : BranchesFit old ns all now (and_form f more) is ms ds =
    subst (λ (fs : Forms). BranchesFit old ns all now fs is ms ds) s fit in
    branches_refused old ns all now f more is here.ks ds e here.along refused

pub branches_done : (old now : Builder) (ns : List ℕ) (all rest : Forms) (is : List NodeId) (ms : List BranchKind) (ds : List Definition)
    → rest ≡ no_forms → BranchesFit old ns all now rest is ms ds → AreBranchesRead ds ns all old now is
branches_done old now ns all rest is ms ds e fit =
    let here : BranchesFit old ns all now no_forms is ms ds = subst (λ (fs : Forms). BranchesFit old ns all now fs is ms ds) e fit in
    branches_end old ns all now is here.ks ds here.along here.fits

pub fields_next : (old now next : Builder) (ns : List ℕ) (all rest more : Fields)
    (h : FieldHeading) (f : Form) (gs : List Field) (g : Field) (ds : List Definition)
    → rest ≡ and_field h f more → FieldsAlong old ns all now rest gs ds
    → ReadsField now next ns h f g → FieldsAlong old ns all next more (gs ++ g ∷ []) ds
fields_next old now next ns all rest more h f gs g ds e along reads =
    fields_step old ns all now next h f more gs g ds (subst (λ (fs : Fields). FieldsAlong old ns all now fs gs ds) e along) reads.1

pub fields_no : (old now : Builder) (ns : List ℕ) (all rest more : Fields)
    (h : FieldHeading) (f : Form) (gs : List Field) (ds : List Definition) (e : SchemaError)
    → rest ≡ and_field h f more → FieldsAlong old ns all now rest gs ds → TestsAlong all rest → RefusesField now ns h f e
    → IsRefusalBy (fields_faults ds ns all (opened old)) e
fields_no old now ns all rest more h f gs ds e s along tests refused =
    fields_refused old ns all now h f more gs ds e
    (subst (λ (fs : Fields). FieldsAlong old ns all now fs gs ds) s along) (subst (TestsAlong all) s tests) refused

pub fields_done : (old now : Builder) (ns : List ℕ) (all rest : Fields) (gs : List Field) (ds : List Definition)
    → rest ≡ no_fields → FieldsAlong old ns all now rest gs ds → TestsAlong all rest → AreFieldsRead ds ns all old now gs
fields_done old now ns all rest gs ds e along tests =
    fields_end old ns all now gs ds (subst (λ (fs : Fields). FieldsAlong old ns all now fs gs ds) e along) (subst (TestsAlong all) e tests)

pub tests_next : (all rest more : Fields) (h : FieldHeading) (f : Form) → rest ≡ and_field h f more
    → TestsAlong all rest → is_formed h && if_written (list_all is_name) h.aliases ≡ true → TestsAlong all more
tests_next all rest more h f e tests good = tests_step all h f more (subst (TestsAlong all) e tests) good

-- ---- the items that are left

pub drop_past : {A : Type 0} (xs : List A) (i : ℕ) → length xs ≤ i → drop i xs ≡ []
drop_past [] zero h = refl
drop_past [] (suc i) h = refl
drop_past (x ∷ xs) zero h = absurd (omega arith)
drop_past (x ∷ xs) (suc i) h = drop_past xs i (omega arith)

pub next_forms : (vs : List Json) (i : ℕ) (v : Json) → i < length vs → v ≡ get_or vs i v
    → forms (items_view (drop i vs)) ≡ and_form (form (view v)) (forms (items_view (drop (i + 1) vs)))
next_forms vs i v lt is =
    let one : suc i ≡ i + 1 = omega arith in
    ap forms (items_view-drop vs i v lt)
    ∙ ap (λ w. and_form (form (view w)) (forms (items_view (drop (suc i) vs)))) (sym is)
    ∙ ap (λ k. and_form (form (view v)) (forms (items_view (drop k vs)))) one

pub next_fields : (vs : List Json) (i : ℕ) (v : Json) → i < length vs → v ≡ get_or vs i v
    → fields_of_items (items_view (drop i vs))
    ≡ and_field (field_heading_of (view v)) (form_in (codes "type") (view v)) (fields_of_items (items_view (drop (i + 1) vs)))
next_fields vs i v lt is =
    let one : suc i ≡ i + 1 = omega arith in
    ap fields_of_items (items_view-drop vs i v lt)
    ∙ ap (λ w. and_field (field_heading_of (view w)) (type_in (view w)) (fields_of_items (items_view (drop (suc i) vs)))) (sym is)
    ∙ ap (λ k. and_field (field_heading_of (view v)) (type_in (view v)) (fields_of_items (items_view (drop k vs)))) one
    ∙ ap (λ f. and_field (field_heading_of (view v)) f (fields_of_items (items_view (drop (i + 1) vs)))) (type_in-get (view v))

pub next_strings : (vs : List Json) (i : ℕ) (v : Json) → i < length vs → v ≡ get_or vs i v
    → strings (items_view (drop i vs))
    ≡ option_and_then (λ s. option_map (λ ss. s ∷ ss) (strings (items_view (drop (i + 1) vs)))) (as_str (view v))
next_strings vs i v lt is =
    let one : suc i ≡ i + 1 = omega arith in
    ap strings (items_view-drop vs i v lt)
    ∙ ap (λ w. option_and_then (λ s. option_map (λ ss. s ∷ ss) (strings (items_view (drop (suc i) vs)))) (as_str (view w))) (sym is)
    ∙ ap (λ k. option_and_then (λ s. option_map (λ ss. s ∷ ss) (strings (items_view (drop k vs)))) (as_str (view v))) one

pub no_strings_left : (vs : List Json) (i : ℕ) → length vs ≤ i → strings (items_view (drop i vs)) ≡ Some []
no_strings_left vs i h = ap (λ l. strings (items_view l)) (drop_past vs i h)

pub no_forms_left : (vs : List Json) (i : ℕ) → length vs ≤ i → forms (items_view (drop i vs)) ≡ no_forms
no_forms_left vs i h = ap (λ l. forms (items_view l)) (drop_past vs i h)

pub no_fields_left : (vs : List Json) (i : ℕ) → length vs ≤ i → fields_of_items (items_view (drop i vs)) ≡ no_fields
no_fields_left vs i h = ap (λ l. fields_of_items (items_view l)) (drop_past vs i h)

pub tests_read : (all rest more : Fields) (h : FieldHeading) (f : Form)
    (old now next : Builder) (ns : List ℕ) (gs : List Field) (g : Field) (ds : List Definition)
    → rest ≡ and_field h f more → FieldsAlong old ns all now rest gs ds
    → TestsAlong all rest → ReadsField now next ns h f g → TestsAlong all more
tests_read all rest more h f old now next ns gs g ds e along tests reads =
    tests_next all rest more h f e tests (reads.1 along.met_now along.met).2
