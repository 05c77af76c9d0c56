-- Defaults of several records, and members by name.
use Rattle.std.proofs.Common.{◌≡◌, ◌≢◌, ℕ, zero, suc, ◌+◌, ◌<◌, ◌≤◌, Bool, true, false, ◌&&◌, ◌||◌, cond, is_none, List, [], ◌∷◌, ◌++◌}
use Rattle.std.proofs.Common.{length, get_or, drop, map, filter, flat_map, not, Option, Some, None, is_some, option_map, refl, sym, ap}
use Rattle.std.proofs.Common.{◌∙◌, arith}
use Rattle.std.proofs.lemmas.List.{map-append}
use Rattle.std.proofs.lemmas.List.Elements.{filter-append}
use Rattle.avro_schema.specs.declared.node.Field.{Field}
use Rattle.avro_schema.specs.declared.node.FullName.{FullName}
use Rattle.avro_schema.specs.declared.node.Node.{Node}
use Rattle.avro_schema.specs.declared.node.Node.TheVariants as kind
use Rattle.serde_json.specs.Data.{Data, object, Members}
use Rattle.serde_json.specs.Find.{get_member}
use Rattle.avro_schema.specs.declared.node.NodeId.{NodeId}
use Rattle.avro_schema.specs.Defaults.{takes, an_object, default_type, default_fits, values_fit}
use Rattle.avro_schema.specs.Defaults.{fields_fit, absent_have_defaults}
use Rattle.avro_schema.specs.Defaults.{has_good_default, bad_defaults}
use Rattle.avro_schema.specs.Required.{required_in, have_all}
use Rattle.avro_schema.specs.Sound.{fields_of_node}

pub is_some-option_map : {A B : Type 0} (f : A → B) (o : Option A) → is_some (option_map f o) ≡ is_some o
is_some-option_map f None = refl
is_some-option_map f (Some x) = refl

-- ---- the names of the fields whose default is invalid

abbrev pub bad_in : List Node → List Field → List (List ℕ)
bad_in nodes fs = map (λ f. f.name) (filter (λ f. not (has_good_default nodes f)) fs)

bad_in-append : (nodes : List Node) (fs gs : List Field) → bad_in nodes (fs ++ gs) ≡ bad_in nodes fs ++ bad_in nodes gs
bad_in-append nodes fs gs =
    ap (map (λ (f : Field). f.name)) (filter-append (λ f. not (has_good_default nodes f)) fs gs) ∙ map-append (λ (f : Field). f.name) _ _

-- the fields of the nodes that are left are those of the next one and then the others
fields_left : (xs : List Node) (i : ℕ) (n : Node) → i < length xs → n ≡ get_or xs i n
    → flat_map fields_of_node (drop i xs) ≡ fields_of_node n ++ flat_map fields_of_node (drop (i + 1) xs)
fields_left [] i n h e = absurd (omega arith)
fields_left (x ∷ xs) zero n h e = ap (λ y. fields_of_node y ++ flat_map fields_of_node xs) (sym e)
fields_left (x ∷ xs) (suc i) n h e =
    let one : suc (i + 1) ≡ suc i + 1 = omega arith in
    fields_left xs i n (omega arith) e ∙ ap (λ k. fields_of_node n ++ flat_map fields_of_node (drop k (x ∷ xs))) one

-- a node that is no record has none
pub no_fields_in : (n : Node) → ((m : FullName) (al : List FullName) (fs : List Field) → n ≢ kind.Record m al fs) → fields_of_node n ≡ []
no_fields_in (kind.Record m al fs) h = absurd (h m al fs refl)
no_fields_in _ h = refl

-- the names of the invalid ones are first those of the next node
pub bad_left : (nodes : List Node) (i : ℕ) (n : Node) (fs : List Field)
    → bad_defaults nodes ≡ bad_in nodes (flat_map fields_of_node (drop i nodes))
    → i < length nodes → n ≡ get_or nodes i n → fields_of_node n ≡ fs
    → bad_defaults nodes ≡ bad_in nodes fs ++ bad_in nodes (flat_map fields_of_node (drop (i + 1) nodes))
bad_left nodes i n fs so_far lt is are =
    let rest = flat_map fields_of_node (drop (i + 1) nodes) in
    so_far
    ∙ ap (bad_in nodes) (fields_left nodes i n lt is)
    ∙ bad_in-append nodes (fields_of_node n) rest
    ∙ ap (λ gs. bad_in nodes gs ++ bad_in nodes rest) are

-- ---- the fields that an object has to have

or_none : (a b : Bool) → (a || false) && b ≡ a && b
or_none true b = refl
or_none false b = refl

or_some : (a b : Bool) → (a || true) && b ≡ b
or_some true b = refl
or_some false b = refl

next_required : (ms : Members) (f : Field) (fs : List Field) (o : Option Data) (b : Bool) → f.default ≡ o
    → b ≡ have_all ms (required_in fs) → (is_some (get_member f.name ms) || is_some f.default) && b ≡ have_all ms (required_in (f ∷ fs))
next_required ms f fs None b e rest =
    ap (λ o. (is_some (get_member f.name ms) || is_some o) && b) e
    ∙ or_none (is_some (get_member f.name ms)) b
    ∙ ap (λ c. is_some (get_member f.name ms) && c) rest
    ∙ sym (ap (λ o.
    have_all ms (map (λ g. g.name) (cond (is_none o) (f ∷ filter (λ g. is_none g.default) fs) (filter (λ g. is_none g.default) fs)))) e)
next_required ms f fs (Some d) b e rest =
    ap (λ o. (is_some (get_member f.name ms) || is_some o) && b) e ∙ or_some (is_some (get_member f.name ms)) b ∙ rest
    ∙ sym (ap (λ o.
    have_all ms (map (λ g. g.name) (cond (is_none o) (f ∷ filter (λ g. is_none g.default) fs) (filter (λ g. is_none g.default) fs)))) e)

-- an absent field lacks its value only where it has no default
absent_required : (ms : Members) (fs : List Field) → absent_have_defaults ms fs ≡ have_all ms (required_in fs)
absent_required ms [] = refl
absent_required ms (f ∷ fs) = next_required ms f fs f.default _ refl (absent_required ms fs)

pub record_fits : (nodes : List Node) (i : NodeId) (ms : Members) (m : FullName) (al : List FullName) (fs : List Field)
    → default_type nodes i ≡ Some (kind.Record m al fs) → fields_fit nodes fs ms ≡ true
    → default_fits nodes i (object ms) ≡ have_all ms (required_in fs)
record_fits nodes i ms m al fs is fit =
    ap (λ o. takes o (an_object (λ j. values_fit nodes j ms) (λ gs. fields_fit nodes gs ms && absent_have_defaults ms gs))) is
    ∙ ap (λ b. b && absent_have_defaults ms fs) fit ∙ absent_required ms fs

-- the names that are left are that of the next field, where it has no default, and then the others
pub required_left : (fs : List Field) (i : ℕ) (f : Field) → i < length fs → f ≡ get_or fs i f
    → required_in (drop i fs) ≡ cond (is_none f.default) (f.name ∷ required_in (drop (i + 1) fs)) (required_in (drop (i + 1) fs))
required_left [] i f h e = absurd (omega arith)
required_left (x ∷ fs) zero f h e =
    ap (λ y. required_in (y ∷ fs)) (sym e) ∙ parted (is_none f.default) f (filter (λ g. is_none g.default) fs)
  where
    parted : (b : Bool) (g : Field) (gs : List Field)
        → map (λ h. h.name) (cond b (g ∷ gs) gs) ≡ cond b (g.name ∷ map (λ h. h.name) gs) (map (λ h. h.name) gs)
    parted true g gs = refl
    parted false g gs = refl
required_left (x ∷ fs) (suc i) f h e =
    let one : suc (i + 1) ≡ suc i + 1 = omega arith in
    required_left fs i f (omega arith) e
    ∙ ap (λ k. cond (is_none f.default) (f.name ∷ required_in (drop k (x ∷ fs))) (required_in (drop k (x ∷ fs)))) one

pub none_required : (fs : List Field) (i : ℕ) → length fs ≤ i → required_in (drop i fs) ≡ []
none_required [] zero h = refl
none_required [] (suc i) h = refl
none_required (x ∷ fs) zero h = absurd (omega arith)
none_required (x ∷ fs) (suc i) h = none_required fs i (omega arith)
