-- A whole text.
use Rattle.std.proofs.Common.{◌≡◌, inl, inr, ℕ, ◌+◌, ◌≤◌, List, [], ◌∷◌, ◌++◌, length, true, false, not, nat_le}
use Rattle.std.proofs.Common.{Option, Some, None, option_map, Contains, refl, sym, ◌∙◌, ap, subst, arith, zero-add}
use Rattle.std.proofs.lemmas.List.Elements.{Contains-append_left, Contains-append_right, Contains-append_cases}
use Rattle.std.specs.Option.{option_map_or}
use Rattle.serde_json.specs.Data.{Data}
use Rattle.serde_json.specs.Read.{read}
use Rattle.serde_json.specs.Written.{has_float, compact_text}
use Rattle.avro_schema.specs.declared.error.SchemaError.{SchemaError}
use Rattle.avro_schema.specs.declared.error.SchemaError.TheVariants as fault
use Rattle.avro_schema.specs.declared.node.NodeId.{NodeId}
use Rattle.avro_schema.specs.declared.builder.Builder.{Builder}
use Rattle.avro_schema.specs.Form.{Form, form}
use Rattle.avro_schema.specs.Places.{count, places}
use Rattle.avro_schema.specs.Nodes.{nodes}
use Rattle.avro_schema.specs.Faults.{unless, form_faults}
use Rattle.avro_schema.specs.Schema.{IsRefusalBy, data_faults, faults, schema_of}
use Rattle.avro_schema.specs.Building.{nodes_of, opened, HasMet, Reads, ReadsType, RefusesType, type_faults}
use Rattle.avro_schema.proofs.Reading.{left, right, alone, unless-nil, nil-append, opened-type}
use Rattle.avro_schema.specs.declared.limits.TheConstants.{TEXT_LIMIT, SCHEMA_NODES_LIMIT}

pub not_json : (text : List ℕ) → read text ≡ None → IsRefusalBy (faults text) fault.NotJson
not_json text e =
    right _ _ fault.NotJson (
    subst (λ o. IsRefusalBy (option_map_or data_faults o (fault.NotJson ∷ [])) fault.NotJson) (sym e) (λ _. (0, omega arith, refl)))

in_data : (text : List ℕ) (d : Data) (e : SchemaError) → read text ≡ Some d → IsRefusalBy (data_faults d) e → IsRefusalBy (faults text) e
in_data text d e is h = right _ _ e (subst (λ o. IsRefusalBy (option_map_or data_faults o (fault.NotJson ∷ [])) e) (sym is) h)

pub is_float : (text : List ℕ) (d : Data) → read text ≡ Some d → has_float d ≡ true → IsRefusalBy (faults text) fault.FloatNumber
is_float text d is e = in_data text d fault.FloatNumber is (left _ _ _ (left _ _ _ (alone _ fault.FloatNumber (ap not e))))

-- a refusal of the whole type
pub refused_whole : (text : List ℕ) (d : Data) (a : Builder) (e : SchemaError) → read text ≡ Some d
    → nodes_of a ≡ [] → HasMet a [] → RefusesType a [] (form d) e → IsRefusalBy (faults text) e
refused_whole text d a e is none met refused =
    let zero_nodes : opened a ≡ 0 = ap length none in
    let r : IsRefusalBy (type_faults [] [] (form d) 0) e =
    subst (λ n. IsRefusalBy (type_faults [] [] (form d) n) e) zero_nodes (refused [] met) in
    in_data text d e is (λ n.
    elim (Contains-append_cases (unless (nat_le (0 + count (form d)) SCHEMA_NODES_LIMIT) fault.TooManyNodes) (form_faults (form d)) e (r n)) [
      | inl k ↦ Contains-append_left
          (unless (not (has_float d)) fault.FloatNumber ++ unless (nat_le (count (form d)) SCHEMA_NODES_LIMIT) fault.TooManyNodes)
          (form_faults (form d)) e
          (Contains-append_right (unless (not (has_float d)) fault.FloatNumber) _ e
          (subst (λ m. Contains (unless (nat_le m SCHEMA_NODES_LIMIT) fault.TooManyNodes) e) (zero-add (count (form d))) k))
      | inr k ↦ Contains-append_right _ (form_faults (form d)) e k
    ])

pub le-true : (m n : ℕ) → m ≤ n → nat_le m n ≡ true
le-true m n h = grind arith

at_zero : (f : Form) (a b : Builder) → nodes_of a ≡ [] → Reads [] (places [] (opened a) f) a b → Reads [] (places [] 0 f) a b
at_zero f a b none r = subst (λ n. Reads [] (places [] n f) a b) (ap length none) r

pub given : {A : Type 0} (es : List SchemaError) (o : Option A) → es ≡ [] → elim es [ [] ↦ o | x ∷ xs ↦ None ] ≡ o
given [] o e = refl
given (y ∷ es) o e = cc

-- the whole type was read
pub read_whole : (text : List ℕ) (d : Data) (a b : Builder) (i : NodeId) (normal : List ℕ) → nat_le (length text) TEXT_LIMIT ≡ true
    → read text ≡ Some d → has_float d ≡ false → nodes_of a ≡ [] → HasMet a [] → ReadsType a b [] (form d) i → normal ≡ compact_text d
    → schema_of text ≡ Some (record { nodes = nodes_of b; normal_text = normal })
read_whole text d a b i normal short is whole none met reads written =
    let r : Reads [] (places [] 0 (form d)) a b = at_zero (form d) a b none (reads.1 [] met).0 in
    let made : nodes_of b ≡ nodes (form d) = r.nodes ∙ ap (λ l. l ++ nodes (form d)) none in
    let number : opened b ≡ opened a + count (form d) = opened-type [] [] 0 (form d) a b r in
    let few : count (form d) ≤ SCHEMA_NODES_LIMIT = omega (arith, r.met.small) in
    let none_in_data : data_faults d ≡ [] = nil-append _ _ (
    nil-append _ _ (unless-nil _ fault.FloatNumber (ap not whole)) (unless-nil _ fault.TooManyNodes (le-true _ _ few))) r.none_stands in
    let none_stands : faults text ≡ [] =
    nil-append _ _ (unless-nil _ fault.TooLong short) (ap (λ o. option_map_or data_faults o (fault.NotJson ∷ [])) is ∙ none_in_data) in
    given (faults text) (option_map (λ e. record { nodes = nodes (form e); normal_text = compact_text e }) (read text)) none_stands
    ∙ ap (option_map (λ e. record { nodes = nodes (form e); normal_text = compact_text e })) is
    ∙ ap (λ l. Some (record { nodes = l; normal_text = compact_text d })) (sym made)
    ∙ ap (λ t. Some (record { nodes = nodes_of b; normal_text = t })) (sym written)
