-- Branches and fields, one after another.
use Rattle.std.proofs.Common.{◌≡◌, inl, inr, ℕ, ◌+◌, List, [], ◌∷◌, ◌++◌, Bool, true, false, ◌&&◌, not}
use Rattle.std.proofs.Common.{Contains, refl, sym, ◌∙◌, ap, subst, arith, append_assoc, bytes_eq, map}
use Rattle.std.specs.List.{list_all, list_any}
use Rattle.std.proofs.lemmas.List.{append-nil}
use Rattle.std.proofs.lemmas.List.Elements.{Contains-append_cases}
use Rattle.avro_schema.specs.declared.error.SchemaError.{SchemaError}
use Rattle.avro_schema.specs.declared.error.SchemaError.TheVariants as fault
use Rattle.avro_schema.specs.Kinds.{Kind}
use Rattle.avro_schema.specs.declared.node.NodeId.{NodeId}
use Rattle.avro_schema.specs.declared.node.Field.{Field}
use Rattle.avro_schema.specs.declared.builder.Builder.{Builder}
use Rattle.avro_schema.specs.Names.{is_name}
use Rattle.avro_schema.specs.Form.{Form, Forms, no_forms, and_form, Fields, no_fields, and_field, FieldHeading}
use Rattle.avro_schema.specs.Places.{count, forms_count, fields_count, places, places_of_forms, places_of_fields, Definition, definitions}
use Rattle.avro_schema.specs.Nodes.{node_id, branches, field_list, field_at}
use Rattle.avro_schema.specs.Faults.{unless, kind_in_union, kinds, fits_union, fits_fields, field_headings}
use Rattle.avro_schema.specs.Faults.{is_formed, if_written, are_written, field_name, field_list_faults}
use Rattle.avro_schema.specs.Schema.{IsRefusalBy}
use Rattle.avro_schema.specs.Building.{opened, HasMet, Reads, faults_in, type_faults, branches_faults, fields_faults}
use Rattle.avro_schema.specs.Building.{field_faults, are_formed, has_distinct_names, IsTypeRead, IsFieldRead}
use Rattle.avro_schema.specs.Building.{AreBranchesRead, AreFieldsRead}
use Rattle.avro_schema.proofs.Later.{From, From-weaker, SameAlong-type, node_id-later}
use Rattle.avro_schema.proofs.Later.{kind_of-later}
use Rattle.avro_schema.proofs.Later.{definitions_of_forms-from, definitions_of_fields-from}
use Rattle.avro_schema.proofs.Reading.{weaken, left, right, unless_too, definitions-append, Reads-append, opened-type, in_head, in_tail}
use Rattle.avro_schema.proofs.Types.{and_parts}

-- ---- branches

abbrev pub AreReadAt : ℕ → List Definition → List ℕ → Forms → Builder → Builder → List NodeId → Type 0
AreReadAt n ds ns fs a b is = let ps = places_of_forms ns n fs in Reads ds ps a b × (is ≡ branches (ds ++ definitions ps) ns n fs)

abbrev pub AreRead : List Definition → List ℕ → Forms → Builder → Builder → List NodeId → Type 0
AreRead ds ns fs a b is = AreReadAt (opened a) ds ns fs a b is

abbrev pub forms_faults : List Definition → List ℕ → Forms → Builder → List SchemaError
forms_faults ds ns fs a = faults_in ds (places_of_forms ns (opened a) fs) (opened a + forms_count fs)

head_kind : (ds : List Definition) (ns : List ℕ) (f : Form) (fs : Forms) (n : ℕ)
    → kinds (ds ++ definitions (places_of_forms ns n (and_form f fs))) ns n (and_form f fs)
    ≡ kind_in_union ds ns n f
    ∷ kinds ((ds ++ definitions (places ns n f)) ++ definitions (places_of_forms ns (n + count f) fs)) ns (n + count f) fs
head_kind ds ns f fs n =
    let ps = places ns n f in
    let qs = places_of_forms ns (n + count f) fs in
    let es = definitions (ps ++ qs) in
    let here : From n es = definitions_of_forms-from ns n n (and_form f fs) (omega arith) in
    ap (λ k. k ∷ kinds (ds ++ es) ns (n + count f) fs) (kind_of-later ds es ns n f here)
    ∙ ap (λ l. kind_in_union ds ns n f ∷ kinds l ns (n + count f) fs) (sym (definitions-append ds ps qs))

-- a branch, and then the others
pub cons_read : (ds : List Definition) (ns : List ℕ) (f : Form) (fs : Forms) (a b c : Builder) (i : NodeId) (is : List NodeId)
    → IsTypeRead ds ns f a b i
    → AreRead (ds ++ definitions (places ns (opened a) f)) ns fs b c is → AreRead ds ns (and_form f fs) a c (i ∷ is)
cons_read ds ns f fs a b c i is r s =
    let n = opened a in
    let ps = places ns n f in
    let e : opened b ≡ n + count f = opened-type ds ns n f a b r.0 in
    let t : AreReadAt (n + count f) (ds ++ definitions ps) ns fs b c is =
    subst (λ m. AreReadAt m (ds ++ definitions ps) ns fs b c is) e s in
    let qs = places_of_forms ns (n + count f) fs in
    let later : From (n + count f) (definitions qs) = definitions_of_forms-from ns (n + count f) (n + count f) fs (omega arith) in
    let here : From n (definitions qs) = From-weaker n (n + count f) (definitions qs) (omega arith) later in (
      Reads-append ds ps qs a b c (SameAlong-type (ds ++ definitions ps) (definitions qs) ns n f later) r.0 t.0,
      ap (λ j. j ∷ is) r.1
          ∙ ap (λ j. j ∷ is) (sym (node_id-later (ds ++ definitions ps) (definitions qs) ns n f here))
          ∙ ap (λ l. node_id ((ds ++ definitions ps) ++ definitions qs) ns n f ∷ l) t.1
          ∙ ap (λ es. node_id es ns n f ∷ branches es ns (n + count f) fs) (definitions-append ds ps qs),
    )

pub cons_head : (ds : List Definition) (ns : List ℕ) (f : Form) (fs : Forms) (a : Builder) (e : SchemaError)
    → Contains (type_faults ds ns f (opened a)) e → Contains (forms_faults ds ns (and_form f fs) a) e
cons_head ds ns f fs a e c =
    let n = opened a in
    let qs = places_of_forms ns (n + count f) fs in
    in_head ds (places ns n f) qs (n + count f) _ e (omega arith)
    (SameAlong-type _ (definitions qs) ns n f (definitions_of_forms-from ns (n + count f) (n + count f) fs (omega arith))) c

pub cons_tail : (ds : List Definition) (ns : List ℕ) (f : Form) (fs : Forms) (a b : Builder) (i : NodeId) (e : SchemaError)
    → IsTypeRead ds ns f a b i
    → Contains (forms_faults (ds ++ definitions (places ns (opened a) f)) ns fs b) e → Contains (forms_faults ds ns (and_form f fs) a) e
cons_tail ds ns f fs a b i e r c =
    let n = opened a in
    let ps = places ns n f in
    let is : opened b ≡ n + count f = opened-type ds ns n f a b r.0 in
    let s : Contains (faults_in (ds ++ definitions ps) (places_of_forms ns (n + count f) fs) (n + count f + forms_count fs)) e =
    subst (λ m. Contains (faults_in (ds ++ definitions ps) (places_of_forms ns m fs) (m + forms_count fs)) e) is c in
    in_tail ds ps (places_of_forms ns (n + count f) fs) (n + count f + forms_count fs) _ e (omega arith) s

abbrev pub all_kinds : List Definition → List ℕ → Forms → Builder → List Kind
all_kinds ds ns fs a = kinds (ds ++ definitions (places_of_forms ns (opened a) fs)) ns (opened a) fs

pub cons_kinds : (ds : List Definition) (ns : List ℕ) (f : Form) (fs : Forms) (a b : Builder) (i : NodeId) → IsTypeRead ds ns f a b i
    → all_kinds ds ns (and_form f fs) a ≡ kind_in_union ds ns (opened a) f ∷ all_kinds (ds ++ definitions (places ns (opened a) f)) ns fs b
cons_kinds ds ns f fs a b i r =
    let n = opened a in
    let ps = places ns n f in
    let is : opened b ≡ n + count f = opened-type ds ns n f a b r.0 in
    head_kind ds ns f fs n
    ∙ ap (λ m. kind_in_union ds ns n f ∷ kinds ((ds ++ definitions ps) ++ definitions (places_of_forms ns m fs)) ns m fs) (sym is)

-- the first of the kinds, and the others
pub first_kind : (ds : List Definition) (ns : List ℕ) (f : Form) (fs : Forms) (a : Builder)
    → (ks : List Kind) × (all_kinds ds ns (and_form f fs) a ≡ kind_in_union ds ns (opened a) f ∷ ks)
first_kind ds ns f fs a = (_, head_kind ds ns f fs (opened a))

-- what is left to read, in place of the whole
pub record BranchesAlong (old : Builder) (ns : List ℕ) (all : Forms) (now : Builder)
    (rest : Forms) (is : List NodeId) (ks : List Kind) (ds : List Definition) : Type 0 where
  pub met_now : List Definition
  pub met : HasMet now met_now
  pub reads : (new : Builder) (js : List NodeId) → AreRead met_now ns rest now new js → AreRead ds ns all old new (is ++ js)
  pub refuses : (e : SchemaError) → Contains (forms_faults met_now ns rest now) e → Contains (forms_faults ds ns all old) e
  pub kinds_are : all_kinds ds ns all old ≡ ks ++ all_kinds met_now ns rest now

pub branches_start : (old : Builder) (ns : List ℕ) (all : Forms) (ds : List Definition)
    → HasMet old ds → BranchesAlong old ns all old all [] [] ds
branches_start old ns all ds met = record { met_now = ds; met = met; reads = λ new js r. r; refuses = λ e c. c; kinds_are = refl }

abbrev pub branches_step : (old : Builder) (ns : List ℕ) (all : Forms) (now next : Builder)
    (f : Form) (rest : Forms) (is : List NodeId) (ks : List Kind) (i : NodeId) (ds : List Definition)
    → (along : BranchesAlong old ns all now (and_form f rest) is ks ds) → IsTypeRead along.met_now ns f now next i
    → BranchesAlong old ns all next rest (is ++ i ∷ []) (ks ++ kind_in_union along.met_now ns (opened now) f ∷ []) ds
branches_step old ns all now next f rest is ks i ds along r =
    let es = along.met_now in
    let k = kind_in_union es ns (opened now) f in
    record {
      met_now = es ++ definitions (places ns (opened now) f);
      met = r.0.met;
      reads = λ new js s.
          let t : AreRead ds ns all old new (is ++ i ∷ js) = along.reads new (i ∷ js) (cons_read es ns f rest now next new i js r s) in
          subst (λ l. AreRead ds ns all old new l) (sym (append_assoc is (i ∷ []) js)) t;
      refuses = λ e c. along.refuses e (cons_tail es ns f rest now next i e r c);
      kinds_are = along.kinds_are ∙ ap (λ l. ks ++ l) (cons_kinds es ns f rest now next i r) ∙ sym (append_assoc ks (k ∷ []) _);
    }

pub branches_end : (old : Builder) (ns : List ℕ) (all : Forms) (now : Builder) (is : List NodeId) (ks : List Kind) (ds : List Definition)
    → BranchesAlong old ns all now no_forms is ks ds → fits_union ks ≡ true → AreBranchesRead ds ns all old now is
branches_end old ns all now is ks ds along fit =
    let es = along.met_now in
    let none : AreRead es ns no_forms now now [] =
    (record { nodes = sym (append-nil _); met = subst (HasMet now) (sym (append-nil es)) along.met; none_stands = refl }, refl) in
    let r : AreRead ds ns all old now (is ++ []) = along.reads now [] none in
    let s : AreRead ds ns all old now is = subst (λ l. AreRead ds ns all old now l) (append-nil is) r in
    (s.0, s.1, ap fits_union (along.kinds_are ∙ append-nil ks) ∙ fit)

pub branches_refused : (old : Builder) (ns : List ℕ) (all : Forms) (now : Builder) (f : Form)
    (rest : Forms) (is : List NodeId) (ks : List Kind) (ds : List Definition) (e : SchemaError)
    → BranchesAlong old ns all now (and_form f rest) is ks ds
    → ((es : List Definition) → HasMet now es → IsRefusalBy (type_faults es ns f (opened now)) e)
    → IsRefusalBy (branches_faults ds ns all (opened old)) e
branches_refused old ns all now f rest is ks ds e along refused =
    right _ _ e (weaken _ _ e (λ c. along.refuses e (cons_head along.met_now ns f rest now e c)) (refused along.met_now along.met))

-- ---- fields

abbrev pub AreListedAt : ℕ → List Definition → List ℕ → Fields → Builder → Builder → List Field → Type 0
AreListedAt n ds ns fs a b gs = let ps = places_of_fields ns n fs in Reads ds ps a b × (gs ≡ field_list (ds ++ definitions ps) ns n fs)

abbrev pub AreListed : List Definition → List ℕ → Fields → Builder → Builder → List Field → Type 0
AreListed ds ns fs a b gs = AreListedAt (opened a) ds ns fs a b gs

abbrev pub places_faults : List Definition → List ℕ → Fields → Builder → List SchemaError
places_faults ds ns fs a = faults_in ds (places_of_fields ns (opened a) fs) (opened a + fields_count fs)

pub cons_listed : (ds : List Definition) (ns : List ℕ) (h : FieldHeading)
    (f : Form) (fs : Fields) (a b c : Builder) (g : Field) (gs : List Field)
    → IsFieldRead ds ns h f a b g
    → AreListed (ds ++ definitions (places ns (opened a) f)) ns fs b c gs → AreListed ds ns (and_field h f fs) a c (g ∷ gs)
cons_listed ds ns h f fs a b c g gs r s =
    let n = opened a in
    let ps = places ns n f in
    let e : opened b ≡ n + count f = opened-type ds ns n f a b r.0 in
    let t : AreListedAt (n + count f) (ds ++ definitions ps) ns fs b c gs =
    subst (λ m. AreListedAt m (ds ++ definitions ps) ns fs b c gs) e s in
    let qs = places_of_fields ns (n + count f) fs in
    let later : From (n + count f) (definitions qs) = definitions_of_fields-from ns (n + count f) (n + count f) fs (omega arith) in
    let here : From n (definitions qs) = From-weaker n (n + count f) (definitions qs) (omega arith) later in (
      Reads-append ds ps qs a b c (SameAlong-type (ds ++ definitions ps) (definitions qs) ns n f later) r.0 t.0,
      ap (λ j. j ∷ gs) r.1
          ∙ ap (λ j. field_at h j ∷ gs) (sym (node_id-later (ds ++ definitions ps) (definitions qs) ns n f here))
          ∙ ap (λ l. field_at h (node_id ((ds ++ definitions ps) ++ definitions qs) ns n f) ∷ l) t.1
          ∙ ap (λ es. field_at h (node_id es ns n f) ∷ field_list es ns (n + count f) fs) (definitions-append ds ps qs),
    )

pub field_head : (ds : List Definition) (ns : List ℕ) (h : FieldHeading) (f : Form) (fs : Fields) (a : Builder) (e : SchemaError)
    → Contains (type_faults ds ns f (opened a)) e → Contains (places_faults ds ns (and_field h f fs) a) e
field_head ds ns h f fs a e c =
    let n = opened a in
    let qs = places_of_fields ns (n + count f) fs in
    in_head ds (places ns n f) qs (n + count f) _ e (omega arith)
    (SameAlong-type _ (definitions qs) ns n f (definitions_of_fields-from ns (n + count f) (n + count f) fs (omega arith))) c

pub field_tail : (ds : List Definition) (ns : List ℕ) (h : FieldHeading)
    (f : Form) (fs : Fields) (a b : Builder) (g : Field) (e : SchemaError)
    → IsFieldRead ds ns h f a b g
    → Contains (places_faults (ds ++ definitions (places ns (opened a) f)) ns fs b) e
    → Contains (places_faults ds ns (and_field h f fs) a) e
field_tail ds ns h f fs a b g e r c =
    let n = opened a in
    let ps = places ns n f in
    let is : opened b ≡ n + count f = opened-type ds ns n f a b r.0 in
    let s : Contains (faults_in (ds ++ definitions ps) (places_of_fields ns (n + count f) fs) (n + count f + fields_count fs)) e =
    subst (λ m. Contains (faults_in (ds ++ definitions ps) (places_of_fields ns m fs) (m + fields_count fs)) e) is c in
    in_tail ds ps (places_of_fields ns (n + count f) fs) (n + count f + fields_count fs) _ e (omega arith) s

pub record FieldsAlong (old : Builder) (ns : List ℕ) (all : Fields) (now : Builder)
    (rest : Fields) (gs : List Field) (ds : List Definition) : Type 0 where
  pub met_now : List Definition
  pub met : HasMet now met_now
  pub reads : (new : Builder) (hs : List Field) → AreListed met_now ns rest now new hs → AreListed ds ns all old new (gs ++ hs)
  pub refuses : (e : SchemaError) → Contains (places_faults met_now ns rest now) e → Contains (places_faults ds ns all old) e

-- what holds of the rest, in place of the whole
pub record TestsAlong (all rest : Fields) : Type 0 where
  pub formed : are_formed rest ≡ true → are_formed all ≡ true
  pub fits : fits_fields all ≡ true → fits_fields rest ≡ true
  pub aliases : list_all (λ h. if_written (list_all is_name) h.aliases) (field_headings all) ≡ true
      → list_all (λ h. if_written (list_all is_name) h.aliases) (field_headings rest) ≡ true

pub fields_start : (old : Builder) (ns : List ℕ) (all : Fields) (ds : List Definition)
    → HasMet old ds → FieldsAlong old ns all old all [] ds
fields_start old ns all ds met = record { met_now = ds; met = met; reads = λ new hs r. r; refuses = λ e c. c }

pub tests_start : (all : Fields) → TestsAlong all all
tests_start all = record { formed = λ h. h; fits = λ h. h; aliases = λ h. h }

three : (a b c p q : Bool) → a && b && c ≡ true → p && q ≡ true → a && (p && b) && (q && c) ≡ true
three true true true true true x y = refl
three false b c p q x y = cc
three true false c p q x y = cc
three true true false p q x y = cc
three true true true false q x y = cc
three true true true true false x y = cc

less : (a b c p q : Bool) → a && (p && b) && (q && c) ≡ true → a && b && c ≡ true
less true true true p q x = refl
less false b c p q x = cc
less true false c true q x = cc
less true false c false q x = cc
less true true false true true x = cc
less true true false true false x = cc
less true true false false q x = cc

second : (p b : Bool) → p && b ≡ true → b ≡ true
second true b x = x
second false b x = cc

pub tests_step : (all : Fields) (h : FieldHeading) (f : Form) (rest : Fields) → TestsAlong all (and_field h f rest)
    → is_formed h && if_written (list_all is_name) h.aliases ≡ true → TestsAlong all rest
tests_step all h f rest along good = record {
  formed = λ t.
      along.formed (
      three (are_written rest) (list_all is_formed (field_headings rest))
      (list_all (λ h. if_written (list_all is_name) h.aliases) (field_headings rest))
      (is_formed h) (if_written (list_all is_name) h.aliases) t good);
  fits = λ t. less (are_written rest) (list_all is_formed (field_headings rest)) (has_distinct_names rest) (is_formed h) _ (along.fits t);
  aliases = λ t. second _ _ (along.aliases t);
}

pub fields_step : (old : Builder) (ns : List ℕ) (all : Fields) (now next : Builder)
    (h : FieldHeading) (f : Form) (rest : Fields) (gs : List Field) (g : Field) (ds : List Definition)
    → FieldsAlong old ns all now (and_field h f rest) gs ds
    → ((es : List Definition) → HasMet now es → IsFieldRead es ns h f now next g) → FieldsAlong old ns all next rest (gs ++ g ∷ []) ds
fields_step old ns all now next h f rest gs g ds along reads =
    let es = along.met_now in
    let r = reads es along.met in
    record {
      met_now = es ++ definitions (places ns (opened now) f);
      met = r.0.met;
      reads = λ new hs s.
          let t : AreListed ds ns all old new (gs ++ g ∷ hs) =
          along.reads new (g ∷ hs) (cons_listed es ns h f rest now next new g hs r s) in
          subst (λ l. AreListed ds ns all old new l) (sym (append_assoc gs (g ∷ []) hs)) t;
      refuses = λ e c. along.refuses e (field_tail es ns h f rest now next g e r c);
    }

pub fields_end : (old : Builder) (ns : List ℕ) (all : Fields) (now : Builder) (gs : List Field) (ds : List Definition)
    → FieldsAlong old ns all now no_fields gs ds → TestsAlong all no_fields → AreFieldsRead ds ns all old now gs
fields_end old ns all now gs ds along tests =
    let es = along.met_now in
    let none : AreListed es ns no_fields now now [] =
    (record { nodes = sym (append-nil _); met = subst (HasMet now) (sym (append-nil es)) along.met; none_stands = refl }, refl) in
    let r : AreListed ds ns all old now (gs ++ []) = along.reads now [] none in
    let s : AreListed ds ns all old now gs = subst (λ l. AreListed ds ns all old now l) (append-nil gs) r in
    (s.0, s.1, tests.formed refl)

fits_first : (w r d p q : Bool) → w && (p && r) && (q && d) ≡ true → p ≡ true
fits_first w r d true q x = refl
fits_first true r d false q x = cc
fits_first false r d false q x = cc

-- a field's own faults are the list's
own_faults : (all : Fields) (h : FieldHeading) (f : Form) (rest : Fields) (e : SchemaError)
    → TestsAlong all (and_field h f rest) → IsRefusalBy (field_faults h) e → IsRefusalBy (field_list_faults all) e
own_faults all h f rest e tests r = λ n.
    elim (
    Contains-append_cases (unless (is_formed h) fault.BadForm) (unless (if_written (list_all is_name) h.aliases) fault.BadName) e (r n)) [
      | inl k ↦ left _ _ e (
          unless_too (is_formed h) (fits_fields all) fault.BadForm e
          (λ t.
          fits_first (are_written rest) (list_all is_formed (field_headings rest)) (has_distinct_names rest) (is_formed h)
          (not (list_any (bytes_eq (field_name h)) (map field_name (field_headings rest)))) (tests.fits t))
          (λ _. k)) n
      | inr k ↦ right _ _ e (
          unless_too (if_written (list_all is_name) h.aliases) _ fault.BadName e
          (λ t.
          (and_parts (if_written (list_all is_name) h.aliases)
          (list_all (λ h. if_written (list_all is_name) h.aliases) (field_headings rest)) (tests.aliases t)).0)
          (λ _. k)) n
    ]

pub fields_refused : (old : Builder) (ns : List ℕ) (all : Fields) (now : Builder) (h : FieldHeading)
    (f : Form) (rest : Fields) (gs : List Field) (ds : List Definition) (e : SchemaError)
    → FieldsAlong old ns all now (and_field h f rest) gs ds → TestsAlong all (and_field h f rest)
    → ((es : List Definition) → HasMet now es → IsRefusalBy (field_faults h ++ type_faults es ns f (opened now)) e)
    → IsRefusalBy (fields_faults ds ns all (opened old)) e
fields_refused old ns all now h f rest gs ds e along tests refused = λ n.
    elim (Contains-append_cases (field_faults h) _ e (refused along.met_now along.met n)) [
      | inl k ↦ left _ _ e (own_faults all h f rest e tests (λ _. k)) n
      | inr k ↦ right (field_list_faults all) _ e (λ _. along.refuses e (field_head along.met_now ns h f rest now e k)) n
    ]
