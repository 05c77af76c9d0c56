-- What holds of the nodes of every schema that was read.
use Rattle.std.proofs.Common.{◌≡◌, ℕ, ◌<◌, ◌≤◌, ◌⊎◌, List, [], ◌∷◌, ◌++◌, length, Bool, true, false, cond, not, nat_le}
use Rattle.std.proofs.Common.{Option, Some, None, is_some, option_map, slice_get, refl, ap, subst, arith, zero-add}
use Rattle.std.specs.Option.{option_or, option_map_or}
use Rattle.serde_json.specs.Data.{Data}
use Rattle.serde_json.specs.Read.{read}
use Rattle.serde_json.specs.Written.{has_float, compact_text}
use Rattle.avro_schema.specs.declared.error.SchemaError.{SchemaError}
use Rattle.avro_schema.specs.declared.error.SchemaError.TheVariants as fault
use Rattle.avro_schema.specs.declared.node.Node.{Node}
use Rattle.avro_schema.specs.declared.node.Node.TheVariants as kind
use Rattle.avro_schema.specs.declared.node.NodeId.{NodeId}
use Rattle.avro_schema.specs.Names.{has_dot}
use Rattle.avro_schema.specs.Form.{Form, form, by_name, ill_formed}
use Rattle.avro_schema.specs.Places.{count, places, Definition, definitions, definition_used}
use Rattle.avro_schema.specs.Nodes.{nodes}
use Rattle.avro_schema.specs.Faults.{unless, form_faults}
use Rattle.avro_schema.specs.Schema.{Meaning, data_faults, schema_of}
use Rattle.avro_schema.specs.Sound.{inner, IsSound}
use Rattle.avro_schema.proofs.Later.{count-type}
use Rattle.avro_schema.proofs.Numbered.{Numbered-type, IsNamedAt, named_at, Stands, numbered_stand}
use Rattle.avro_schema.proofs.Leading.{IsDefinedAt, IsWell, AreWell, well_type, well_at}
use Rattle.avro_schema.proofs.Reading.{nil-left, nil-right}
use Rattle.avro_schema.specs.declared.limits.TheConstants.{TEXT_LIMIT, SCHEMA_NODES_LIMIT}

-- ---- one root

-- nothing opens before the first type, so it names nothing
none_before : (b : Bool) (o : Option Definition) → o ≡ None → cond b o (option_or o o) ≡ None
none_before true o e = e
none_before false None e = refl
none_before false (Some d) e = cc

-- and such a use is at fault
not_used : (s : List ℕ) (o : Option Definition) → o ≡ None → unless (is_some o) (fault.Unknown s) ≡ [] → ⊥
not_used s None is e = cc
not_used s (Some d) is e = cc

-- a whole schema that is not at fault writes a type out
has_one : (f : Form) → form_faults f ≡ [] → 1 ≤ count f
has_one (by_name s) e = absurd (not_used s (definition_used [] 0 [] s) (none_before (has_dot s) None refl) (nil-left _ _ e))
has_one ill_formed e = cc
has_one _ e = omega arith

-- ---- the whole

-- as many nodes as the type counts
count_nodes : (f : Form) → length (nodes f) ≡ count f
count_nodes f = count-type (definitions (places [] 0 f)) [] 0 f

-- a node with a name that is one of those from node 0 on
from_zero : (xs : List Node) (k : ℕ) → IsNamedAt xs 0 k → IsDefinedAt xs k
from_zero xs k a = let same : a.0 ≡ k = omega (arith, a.1) in subst (IsDefinedAt xs) same (a.2, a.3)

-- each node that a place writes is at its number
all_stand : (f : Form) → Stands (definitions (places [] 0 f)) (nodes f) (places [] 0 f)
all_stand f =
    let ds = definitions (places [] 0 f) in
    numbered_stand ds (nodes f) 0 (places [] 0 f) (Numbered-type ds [] 0 f) (λ k. ap (slice_get (nodes f)) (zero-add k))

-- what soundness says of each node by itself
all_well : (f : Form) → form_faults f ≡ [] → AreWell (nodes f) 0 (nodes f)
all_well f e =
    let ps = places [] 0 f in
    let ds = definitions ps in
    well_type ds (nodes f) (λ ns s n d is. from_zero (nodes f) d.node (named_at ns n ps d s (Numbered-type ds [] 0 f) is))
    [] 0 f e (all_stand f) (omega (arith, count_nodes f))

well_node : (f : Form) → form_faults f ≡ [] → (i : ℕ) (x : Node) → slice_get (nodes f) i ≡ Some x → IsWell (nodes f) i x
well_node f e i x at = well_at (nodes f) 0 i i (nodes f) x (all_well f e) (omega arith) at

-- an array or a map is a node
leads_from : (f : Form) → form_faults f ≡ [] → (i : ℕ) (o : Option Node) (j : NodeId)
    → slice_get (nodes f) i ≡ o → inner o ≡ Some j → (i < j.index) ⊎ (inner (slice_get (nodes f) j.index) ≡ None)
leads_from f e i None j at is = cc
leads_from f e i (Some x) j at is = (well_node f e i x at).leads_on j is

-- the nodes of a whole schema that is not at fault
sound_form : (f : Form) → form_faults f ≡ [] → IsSound (nodes f)
sound_form f e = record {
  has_root = omega (arith, count_nodes f, has_one f e);
  closed = λ i n at. (well_node f e i n at).closed;
  leads_on = λ i j is. leads_from f e i (slice_get (nodes f) i) j refl is;
  distinct_fields = λ i n at. (well_node f e i n at).distinct;
  flat_unions = λ i bs at. (well_node f e i (kind.Union bs) at).flat bs refl;
}

-- where something is given, no fault stands
pub none_stood : {A : Type 0} (es : List SchemaError) (o : Option A) (y : A)
    → elim es [ [] ↦ o | x ∷ xs ↦ None ] ≡ Some y → (es ≡ []) × (o ≡ Some y)
none_stood [] o y e = (refl, e)
none_stood (z ∷ es) o y e = cc

-- the nodes of what a JSON value means
sound_data : (es : List SchemaError) (o : Option Data) (m : Meaning)
    → elim (es ++ option_map_or data_faults o (fault.NotJson ∷ [])) [
      | [] ↦ option_map (λ d. record { nodes = nodes (form d); normal_text = compact_text d }) o
      | x ∷ xs ↦ None
    ]
    ≡ Some m
    → IsSound m.nodes
sound_data es None m e = let stood = none_stood (es ++ fault.NotJson ∷ []) None m e in cc
sound_data es (Some d) m e =
    let means : Meaning = record { nodes = nodes (form d); normal_text = compact_text d } in
    let stood : (es ++ data_faults d ≡ []) × (Some means ≡ Some m) = none_stood (es ++ data_faults d) (Some means) m e in
    let same : means ≡ m = let is = stood.1 in cc in
    let none : form_faults (form d) ≡ [] =
    nil-right (unless (not (has_float d)) fault.FloatNumber ++ unless (nat_le (count (form d)) SCHEMA_NODES_LIMIT) fault.TooManyNodes) _
    (nil-right es (data_faults d) stood.0) in
    subst (λ (k : Meaning). IsSound k.nodes) same (sound_form (form d) none)

-- the nodes of each schema that is read from a text
pub sound_text : (text : List ℕ) (m : Meaning) → schema_of text ≡ Some m → IsSound m.nodes
sound_text text m e = sound_data (unless (nat_le (length text) TEXT_LIMIT) fault.TooLong) (read text) m e
