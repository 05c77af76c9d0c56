-- Which faults stand where a kind of type is refused.
use Rattle.std.proofs.Common.{◌≡◌, inl, inr, ℕ, ◌+◌, ◌≤◌, List, [], ◌∷◌, ◌++◌, Bool, true, false, ◌&&◌, Option, Some, None}
use Rattle.std.proofs.Common.{is_some, is_none, Contains, refl, sym, ◌∙◌, ap, subst, arith, unwrap_or, bytes_eq}
use Rattle.std.specs.List.{flat_map, list_all}
use Rattle.std.proofs.lemmas.List.{append-nil}
use Rattle.std.proofs.lemmas.List.Elements.{Contains-append_left, Contains-append_right, Contains-append_cases}
use Rattle.std.specs.Option.{option_map_or}
use Rattle.serde_json.specs.Data.{Num, Data}
use Rattle.serde_json.specs.Find.{as_str}
use Rattle.avro_schema.specs.declared.error.SchemaError.{SchemaError}
use Rattle.avro_schema.specs.declared.error.SchemaError.TheVariants as fault
use Rattle.avro_schema.specs.declared.heading.TypeNames.{TypeNames}
use Rattle.avro_schema.specs.declared.node.FullName.{FullName}
use Rattle.avro_schema.specs.Form.{Heading, Form, Forms, Fields, by_name, record_of, enum_of, fixed_of}
use Rattle.avro_schema.specs.Form.{array_of, map_of, union_of, ill_formed, ill_fields, FieldHeading}
use Rattle.avro_schema.specs.Names.{is_name, is_type_name, is_full_name, all_distinct, has_text}
use Rattle.avro_schema.specs.Places.{count, forms_count, fields_count, type_name}
use Rattle.avro_schema.specs.Places.{places_of_fields, Definition, definitions}
use Rattle.avro_schema.specs.Places.{defined, definition_used}
use Rattle.avro_schema.specs.Faults.{unless, are_written, is_formed, field_headings, fits_fields, faults_at, heading_faults}
use Rattle.avro_schema.specs.Faults.{written_faults, symbols_faults, size_faults, field_list_faults, fits_enum}
use Rattle.avro_schema.specs.Faults.{if_written, field_name}
use Rattle.avro_schema.specs.Schema.{IsRefusalBy}
use Rattle.avro_schema.specs.Building.{full_of, opening_faults, too_many, type_faults}
use Rattle.avro_schema.specs.Building.{branches_faults, fields_faults, has_distinct_names}
use Rattle.avro_schema.specs.Building.{HasNames, field_faults}
use Rattle.avro_schema.proofs.Later.{From, type-from, heading_faults-later}
use Rattle.avro_schema.proofs.Reading.{weaken, left, alone, in_parts, in_own, in_count, right, unless_too}
use Rattle.avro_schema.proofs.Types.{definition_of, defined_by-names, new-names, defined_first}

pub refused_open : (ds : List Definition) (ns : List ℕ) (f : Form) (n : ℕ) (e : SchemaError)
    → 1 ≤ count f → IsRefusalBy (too_many (n + 1)) e → IsRefusalBy (type_faults ds ns f n) e
refused_open ds ns f n e one = weaken _ _ e (in_count (n + 1) (n + count f) _ e (omega arith))

pub refused_use : (ds : List Definition) (ns s : List ℕ) (n : ℕ) → definition_used ds n ns s ≡ None
    → IsRefusalBy (type_faults ds ns (by_name s) n) (fault.Unknown s)
refused_use ds ns s n none =
    let same : definition_used (ds ++ []) n ns s ≡ None = ap (λ l. definition_used l n ns s) (append-nil ds) ∙ none in
    weaken _ _ _ (in_own (n + 0) (unless (is_some (definition_used (ds ++ []) n ns s)) (fault.Unknown s)) [] _)
    (alone _ (fault.Unknown s) (ap is_some same))

pub refused_ill_formed : (ds : List Definition) (ns : List ℕ) (n : ℕ) → IsRefusalBy (type_faults ds ns ill_formed n) fault.BadForm
refused_ill_formed ds ns n =
    weaken (fault.BadForm ∷ []) (type_faults ds ns ill_formed n) fault.BadForm
    (in_own (n + 0) (fault.BadForm ∷ []) [] _) (λ _. (0, omega arith, refl))

pub refused_array : (ds : List Definition) (ns : List ℕ) (f : Form) (n m : ℕ) (e : SchemaError)
    → m ≡ n + 1 → IsRefusalBy (type_faults ds ns f m) e → IsRefusalBy (type_faults ds ns (array_of f) n) e
refused_array ds ns f n m e is r =
    let s : IsRefusalBy (type_faults ds ns f (n + 1)) e = subst (λ k. IsRefusalBy (type_faults ds ns f k) e) is r in
    weaken _ _ e (in_parts (n + 1 + count f) (n + (1 + count f)) [] _ e (omega arith)) s

pub refused_map : (ds : List Definition) (ns : List ℕ) (f : Form) (n m : ℕ) (e : SchemaError)
    → m ≡ n + 1 → IsRefusalBy (type_faults ds ns f m) e → IsRefusalBy (type_faults ds ns (map_of f) n) e
refused_map ds ns f n m e is r =
    let s : IsRefusalBy (type_faults ds ns f (n + 1)) e = subst (λ k. IsRefusalBy (type_faults ds ns f k) e) is r in
    weaken _ _ e (in_parts (n + 1 + count f) (n + (1 + count f)) [] _ e (omega arith)) s

-- faults that are listed before the count of the nodes
before_count : (m n : ℕ) (own es : List SchemaError) (e : SchemaError) → m ≤ n
    → Contains (own ++ (too_many m ++ es)) e → Contains (too_many n ++ (own ++ es)) e
before_count m n own es e le c =
    elim (Contains-append_cases own (too_many m ++ es) e c) [
      | inl k ↦ in_own n own es e k
      | inr k ↦ in_parts m n own es e le k
    ]

pub refused_union : (ds : List Definition) (ns : List ℕ) (fs : Forms) (n m : ℕ) (e : SchemaError) → m ≡ n + 1
    → IsRefusalBy (branches_faults ds ns fs m) e → IsRefusalBy (type_faults ds ns (union_of fs) n) e
refused_union ds ns fs n m e is r =
    let s : IsRefusalBy (branches_faults ds ns fs (n + 1)) e = subst (λ k. IsRefusalBy (branches_faults ds ns fs k) e) is r in
    weaken _ _ e (before_count (n + 1 + forms_count fs) (n + (1 + forms_count fs)) _ _ e (omega arith)) s

-- ---- types with a name

-- what a named type is refused for before its parts are looked at
in_heading : (n m : ℕ) (ds later : List Definition) (ns : List ℕ) (h : Heading) (more fs : List SchemaError) (e : SchemaError)
    → n + 1 ≤ m → From n later → Contains (opening_faults ds ns h n) e
    → Contains (too_many m ++ ((heading_faults (ds ++ later) ns n h ++ more) ++ fs)) e
in_heading n m ds later ns h more fs e le from c =
    elim (Contains-append_cases (heading_faults ds ns n h) (too_many (n + 1)) e c) [
      | inl k ↦ in_own m (heading_faults (ds ++ later) ns n h ++ more) fs e
          (Contains-append_left (heading_faults (ds ++ later) ns n h) more e
          (subst (λ l. Contains l e) (sym (heading_faults-later ds later ns n h from)) k))
      | inr k ↦ in_count (n + 1) m _ e le k
    ]

-- a heading that is at fault by itself, or defines a name that was defined before, or one node too many
pub refused_written : (ds : List Definition) (ns : List ℕ) (h : Heading) (n : ℕ) (e : SchemaError)
    → IsRefusalBy (written_faults h) e → IsRefusalBy (opening_faults ds ns h n) e
refused_written ds ns h n e r = left (heading_faults ds ns n h) _ e (left (written_faults h) _ e r)

pub refused_defined : (ds : List Definition) (ns : List ℕ) (h : Heading) (r : TypeNames) (n : ℕ) (e : SchemaError)
    → HasNames ns h r → IsRefusalBy (unless (is_none (defined ds n (full_of r.name))) fault.Redefined ++ too_many (n + 1)) e
    → IsRefusalBy (opening_faults ds ns h n) e
refused_defined ds ns h r n e has = weaken _ _ e (λ c.
    elim (Contains-append_cases (unless (is_none (defined ds n (full_of r.name))) fault.Redefined) (too_many (n + 1)) e c) [
      | inl k ↦ Contains-append_left (heading_faults ds ns n h) _ e
          (Contains-append_right (written_faults h) _ e
          (subst (λ b. Contains (unless b fault.Redefined) e) (sym (new-names ds ns h r n has)) k))
      | inr k ↦ Contains-append_right (heading_faults ds ns n h) _ e k
    ])

pub refused_symbols : (ds : List Definition) (ns : List ℕ) (h : Heading)
    (ss : Option (List (List ℕ))) (d : Option Data) (n : ℕ) (e : SchemaError)
    → IsRefusalBy (symbols_faults ss d) e → IsRefusalBy (type_faults ds ns (enum_of h ss d) n) e
refused_symbols ds ns h ss d n e =
    weaken _ _ e (λ c.
    in_own (n + 1) (heading_faults _ ns n h ++ symbols_faults ss d) [] e
    (Contains-append_right (heading_faults _ ns n h) (symbols_faults ss d) e c))

pub refused_size : (ds : List Definition) (ns : List ℕ) (h : Heading) (s : Option Num) (n : ℕ) (e : SchemaError)
    → IsRefusalBy (size_faults s) e → IsRefusalBy (type_faults ds ns (fixed_of h s) n) e
refused_size ds ns h s n e =
    weaken _ _ e (λ c.
    in_own (n + 1) (heading_faults _ ns n h ++ size_faults s) [] e
    (Contains-append_right (heading_faults _ ns n h) (size_faults s) e c))

pub refused_opening_enum : (ds : List Definition) (ns : List ℕ) (h : Heading)
    (ss : Option (List (List ℕ))) (d : Option Data) (n : ℕ) (e : SchemaError)
    → IsRefusalBy (opening_faults ds ns h n) e → IsRefusalBy (type_faults ds ns (enum_of h ss d) n) e
refused_opening_enum ds ns h ss d n e =
    weaken _ _ e (in_heading n (n + 1) ds _ ns h (symbols_faults ss d) [] e (omega arith) (type-from ns n (enum_of h ss d)))

pub refused_opening_fixed : (ds : List Definition) (ns : List ℕ) (h : Heading) (s : Option Num) (n : ℕ) (e : SchemaError)
    → IsRefusalBy (opening_faults ds ns h n) e → IsRefusalBy (type_faults ds ns (fixed_of h s) n) e
refused_opening_fixed ds ns h s n e =
    weaken _ _ e (in_heading n (n + 1) ds _ ns h (size_faults s) [] e (omega arith) (type-from ns n (fixed_of h s)))

pub refused_opening_record : (ds : List Definition) (ns : List ℕ) (h : Heading) (fs : Fields) (n : ℕ) (e : SchemaError)
    → IsRefusalBy (opening_faults ds ns h n) e → IsRefusalBy (type_faults ds ns (record_of h fs) n) e
refused_opening_record ds ns h fs n e =
    weaken _ _ e (
    in_heading n (n + (1 + fields_count fs)) ds _ ns h (field_list_faults fs) _ e (omega arith) (type-from ns n (record_of h fs)))

-- the list of a record's fields
pub refused_list : (ds : List Definition) (ns : List ℕ) (h : Heading) (fs : Fields) (n : ℕ) (e : SchemaError)
    → IsRefusalBy (field_list_faults fs) e → IsRefusalBy (type_faults ds ns (record_of h fs) n) e
refused_list ds ns h fs n e =
    weaken _ _ e (λ c.
    in_own (n + (1 + fields_count fs)) (heading_faults _ ns n h ++ field_list_faults fs) _ e
    (Contains-append_right (heading_faults _ ns n h) (field_list_faults fs) e c))

pub refused_no_fields : IsRefusalBy (field_list_faults ill_fields) fault.BadForm
refused_no_fields = λ _. (0, omega arith, refl)

and_false : (a b : Bool) → b ≡ false → a && b ≡ false
and_false true b e = e
and_false false b e = refl

pub refused_same_names : (fs : Fields) (distinct : Bool) (e : SchemaError) → has_distinct_names fs ≡ distinct
    → IsRefusalBy (unless distinct fault.BadForm) e → IsRefusalBy (field_list_faults fs) e
refused_same_names fs true e tests refused = λ h. let one = refused h in absurd (omega (arith, one.1))
refused_same_names fs false e tests refused =
    let unfit : fits_fields fs ≡ false =
    and_false (are_written fs && list_all is_formed (field_headings fs)) (has_distinct_names fs) tests in
    left (unless (fits_fields fs) fault.BadForm)
    (unless (list_all (λ h. if_written (list_all is_name) h.aliases) (field_headings fs)) fault.BadName) e
    (subst (λ (b : Bool). IsRefusalBy (unless b fault.BadForm) e) (sym unfit) refused)

pub refused_fields : (ds : List Definition) (ns : List ℕ) (h : Heading) (r : TypeNames) (fs : Fields) (n m : ℕ) (e : SchemaError)
    → HasNames ns h r → m ≡ n + 1 → IsRefusalBy (fields_faults (ds ++ definition_of r n ∷ []) r.name.namespace fs m) e
    → IsRefusalBy (type_faults ds ns (record_of h fs) n) e
refused_fields ds ns h r fs n m e has is refused =
    let d = definition_of r n in
    let s : IsRefusalBy (fields_faults (ds ++ d ∷ []) r.name.namespace fs (n + 1)) e =
    subst (λ k. IsRefusalBy (fields_faults (ds ++ d ∷ []) r.name.namespace fs k) e) is refused in
    let t : IsRefusalBy (fields_faults (ds ++ d ∷ []) (type_name ns h).namespace fs (n + 1)) e =
    subst (λ (k : FullName). IsRefusalBy (fields_faults (ds ++ d ∷ []) k.namespace fs (n + 1)) e) has.name s in
    let ps = places_of_fields (type_name ns h).namespace (n + 1) fs in
    let all : List Definition → List SchemaError =
    λ es. too_many (n + (1 + fields_count fs)) ++ ((heading_faults es ns n h ++ field_list_faults fs) ++ flat_map (faults_at es) ps) in
    let lifted : Contains (fields_faults (ds ++ d ∷ []) (type_name ns h).namespace fs (n + 1)) e
    → Contains (all ((ds ++ d ∷ []) ++ definitions ps)) e =
    λ c.
    elim (Contains-append_cases (field_list_faults fs) _ e c) [
      | inl k ↦ in_own _ (heading_faults _ ns n h ++ field_list_faults fs) _ e
          (Contains-append_right (heading_faults _ ns n h) (field_list_faults fs) e k)
      | inr k ↦ in_parts (n + 1 + fields_count fs) _ (heading_faults _ ns n h ++ field_list_faults fs) _ e (omega arith) k
    ] in
    weaken _ _ e (λ c.
    subst (λ es. Contains (all es) e) (defined_first ds d (definitions ps) _ (defined_by-names ns h r n has)) (lifted c)) t

-- ---- what is written, by itself

and_left : (a b : Bool) → a && b ≡ true → a ≡ true
and_left true b e = refl
and_left false b e = cc

and_right : (a b : Bool) → a && b ≡ true → b ≡ true
and_right true b e = e
and_right false b e = cc

pub refused_nameless : (h : Heading) → None ≡ h.name → IsRefusalBy (written_faults h) fault.BadForm
refused_nameless h e =
    left _ _ _ (alone (is_some h.name && is_some h.aliases) fault.BadForm (ap (λ o. is_some o && is_some h.aliases) (sym e)))

pub refused_no_aliases : (h : Heading) → h.aliases ≡ None → IsRefusalBy (written_faults h) fault.BadForm
refused_no_aliases h e =
    left _ _ _ (alone (is_some h.name && is_some h.aliases) fault.BadForm (and_false (is_some h.name) (is_some h.aliases) (ap is_some e)))

pub refused_names : (h : Heading) (s : List ℕ) (more : List (List ℕ)) → Some s ≡ h.name → h.aliases ≡ Some more
    → is_type_name s && list_all is_full_name more ≡ false → IsRefusalBy (written_faults h) fault.BadName
refused_names h s more name aliases bad =
    let tests : if_written is_type_name h.name && if_written (list_all is_full_name) h.aliases ≡ false =
    ap (λ o. if_written is_type_name o && if_written (list_all is_full_name) h.aliases) (sym name)
    ∙ ap (λ o. is_type_name s && if_written (list_all is_full_name) o) aliases
    ∙ bad in
    right (unless (is_some h.name && is_some h.aliases) fault.BadForm) _ _
    (alone (if_written is_type_name h.name && if_written (list_all is_full_name) h.aliases) fault.BadName tests)

pub refused_no_symbols : (ss : Option (List (List ℕ))) (d : Option Data) → ss ≡ None → IsRefusalBy (symbols_faults ss d) fault.BadForm
refused_no_symbols ss d e = left _ _ _ (alone (is_some ss) fault.BadForm (ap is_some e))

pub refused_symbol_list : (ss : List (List ℕ)) (d : Option Data) (e : SchemaError)
    → IsRefusalBy (unless (list_all is_name ss && all_distinct bytes_eq ss) fault.BadEnum) e → IsRefusalBy (symbols_faults (Some ss) d) e
refused_symbol_list ss d e =
    unless_too (list_all is_name ss && all_distinct bytes_eq ss) (fits_enum d ss) fault.BadEnum e
    (and_left (list_all is_name ss && all_distinct bytes_eq ss) _)

pub refused_default : (ss : List (List ℕ)) (d : Option Data) (e : SchemaError)
    → IsRefusalBy (unless (if_written (λ e. option_map_or (has_text ss) (as_str e) false) d) fault.BadEnum) e
    → IsRefusalBy (symbols_faults (Some ss) d) e
refused_default ss d e =
    unless_too (if_written (λ e. option_map_or (has_text ss) (as_str e) false) d)
    (fits_enum d ss) fault.BadEnum e (and_right (list_all is_name ss && all_distinct bytes_eq ss) _)

pub refused_no_field_name : (h : FieldHeading) → None ≡ h.name → IsRefusalBy (field_faults h) fault.BadForm
refused_no_field_name h e = left _ _ _ (alone (is_formed h) fault.BadForm (ap (λ o. is_name (unwrap_or o []) && is_some h.aliases) (sym e)))

pub refused_field_name : (h : FieldHeading) (s : List ℕ) → Some s ≡ h.name → is_name s ≡ false → IsRefusalBy (field_faults h) fault.BadForm
refused_field_name h s name bad =
    let tests : is_formed h ≡ false =
    ap (λ o. is_name (unwrap_or o []) && is_some h.aliases) (sym name) ∙ ap (λ b. b && is_some h.aliases) bad in
    left _ _ _ (alone (is_formed h) fault.BadForm tests)

pub refused_no_field_aliases : (h : FieldHeading) → h.aliases ≡ None → IsRefusalBy (field_faults h) fault.BadForm
refused_no_field_aliases h e =
    left _ _ _ (alone (is_formed h) fault.BadForm (and_false (is_name (field_name h)) (is_some h.aliases) (ap is_some e)))

pub refused_field_aliases : (h : FieldHeading) (more : List (List ℕ)) → h.aliases ≡ Some more
    → list_all is_name more ≡ false → IsRefusalBy (field_faults h) fault.BadName
refused_field_aliases h more aliases bad =
    right (unless (is_formed h) fault.BadForm) _ _
    (alone (if_written (list_all is_name) h.aliases) fault.BadName (ap (if_written (list_all is_name)) aliases ∙ bad))
