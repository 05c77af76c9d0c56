-- Each type that has a node stands at its own number.
use Rattle.std.proofs.Common.{◌≡◌, inl, inr, ◌⊎◌, ℕ, suc, ◌+◌, ◌<◌, List, [], ◌∷◌, ◌++◌, length, Bool, true, false, ◌&&◌, nat_lt}
use Rattle.std.proofs.Common.{bytes_eq, cond, find, filter_map, slice_get, Option, Some, None, refl, sym, ◌∙◌, ap, subst, arith}
use Rattle.std.specs.List.{cons_option}
use Rattle.std.specs.Option.{option_or}
use Rattle.avro_schema.specs.declared.node.FullName.{FullName}
use Rattle.avro_schema.specs.declared.node.Node.{Node}
use Rattle.avro_schema.specs.Names.{has_dot, joined}
use Rattle.avro_schema.specs.Form.{Heading, Form, plain, by_name, record_of, enum_of, array_of, map_of, union_of}
use Rattle.avro_schema.specs.Form.{fixed_of, ill_formed, Forms, no_forms, and_form, Fields, no_fields}
use Rattle.avro_schema.specs.Form.{ill_fields, and_field}
use Rattle.avro_schema.specs.Places.{count, Place, place, places, places_of_forms, places_of_fields}
use Rattle.avro_schema.specs.Places.{type_name, Definition, definitions, defined_by}
use Rattle.avro_schema.specs.Places.{defined, definition_used}
use Rattle.avro_schema.specs.Nodes.{node_of, node_at, name_in}
use Rattle.avro_schema.proofs.Later.{count-type}

-- ---- the numbers of places

-- the number of the next node
abbrev after : ℕ → Option Node → ℕ
after n None = n
after n (Some x) = n + 1

-- a node more in front is a number more
after_one : (n : ℕ) (o : Option Node) (xs : List Node) → n + length (cons_option o xs) ≡ after n o + length xs
after_one n None xs = refl
after_one n (Some x) xs = omega arith

module _ (ds : List Definition) where
  -- as many nodes open before each of the places as it says, where n open before all of them
  abbrev pub Numbered : ℕ → List Place → Type 0
  Numbered n [] = Unit {0}
  Numbered n (p ∷ ps) = (p.before ≡ n) × Numbered (after n (node_at ds p)) ps

  -- places, and then others
  Numbered-append : (n m : ℕ) (ps qs : List Place) → Numbered n ps
      → m ≡ n + length (filter_map (node_at ds) ps) → Numbered m qs → Numbered n (ps ++ qs)
  Numbered-append n m [] qs a e b = let same : m ≡ n = omega arith in subst (λ k. Numbered k qs) same b
  Numbered-append n m (p ∷ ps) qs a e b =
      (a.0, Numbered-append (after n (node_at ds p)) m ps qs a.1 (e ∙ after_one n (node_at ds p) (filter_map (node_at ds) ps)) b)

  mutual
    -- a type and those inside it
    pub Numbered-type : (ns : List ℕ) (n : ℕ) (f : Form) → Numbered n (places ns n f)
    Numbered-type ns n (plain p) = (refl, tt)
    Numbered-type ns n (by_name s) = (refl, tt)
    Numbered-type ns n (record_of h fs) = (refl, Numbered-fields (type_name ns h).namespace (n + 1) fs)
    Numbered-type ns n (enum_of h ss d) = (refl, tt)
    Numbered-type ns n (fixed_of h s) = (refl, tt)
    Numbered-type ns n (array_of f) = (refl, Numbered-type ns (n + 1) f)
    Numbered-type ns n (map_of f) = (refl, Numbered-type ns (n + 1) f)
    Numbered-type ns n (union_of fs) = (refl, Numbered-forms ns (n + 1) fs)
    Numbered-type ns n ill_formed = (refl, tt)

    -- the branches of a union
    Numbered-forms : (ns : List ℕ) (n : ℕ) (fs : Forms) → Numbered n (places_of_forms ns n fs)
    Numbered-forms ns n no_forms = tt
    Numbered-forms ns n (and_form f fs) =
        Numbered-append n (n + count f) (places ns n f) (places_of_forms ns (n + count f) fs) (Numbered-type ns n f)
        (ap (λ k. n + k) (sym (count-type ds ns n f))) (Numbered-forms ns (n + count f) fs)

    -- the fields of a record
    Numbered-fields : (ns : List ℕ) (n : ℕ) (fs : Fields) → Numbered n (places_of_fields ns n fs)
    Numbered-fields ns n no_fields = tt
    Numbered-fields ns n ill_fields = tt
    Numbered-fields ns n (and_field h f fs) =
        Numbered-append n (n + count f) (places ns n f) (places_of_fields ns (n + count f) fs) (Numbered-type ns n f)
        (ap (λ k. n + k) (sym (count-type ds ns n f))) (Numbered-fields ns (n + count f) fs)

-- ---- the node of a place

-- what is at a place of all nodes is at that of the nodes from node n on
abbrev AreFrom : List Node → ℕ → List Node → Type 0
AreFrom all n xs = (k : ℕ) → slice_get all (n + k) ≡ slice_get xs k

module _ (ds : List Definition) (all : List Node) where
  -- the node that a place writes is at its number
  abbrev pub Stands : List Place → Type 0
  Stands [] = Unit {0}
  Stands (p ∷ ps) = ((x : Node) → node_at ds p ≡ Some x → slice_get all p.before ≡ Some x) × Stands ps

  pub stands_front : (ps qs : List Place) → Stands (ps ++ qs) → Stands ps
  stands_front [] qs a = tt
  stands_front (p ∷ ps) qs a = (a.0, stands_front ps qs a.1)

  pub stands_rest : (ps qs : List Place) → Stands (ps ++ qs) → Stands qs
  stands_rest [] qs a = a
  stands_rest (p ∷ ps) qs a = stands_rest ps qs a.1

  -- the nodes that are left after a place
  from_next : (n : ℕ) (o : Option Node) (xs : List Node) → AreFrom all n (cons_option o xs) → AreFrom all (after n o) xs
  from_next n None xs a = a
  from_next n (Some x) xs a = λ k. let same : n + 1 + k ≡ n + suc k = omega arith in ap (slice_get all) same ∙ a (suc k)

  -- the node of the first place
  first_node : (n m : ℕ) (o : Option Node) (xs : List Node) → m ≡ n
      → AreFrom all n (cons_option o xs) → (x : Node) → o ≡ Some x → slice_get all m ≡ Some x
  first_node n m None xs is a x e = cc
  first_node n m (Some y) xs is a x e = let same : m ≡ n + 0 = omega arith in ap (slice_get all) same ∙ a 0 ∙ e

  pub numbered_stand : (n : ℕ) (ps : List Place) → Numbered ds n ps → AreFrom all n (filter_map (node_at ds) ps) → Stands ps
  numbered_stand n [] a from = tt
  numbered_stand n (p ∷ ps) a from =
      (first_node n p.before (node_at ds p) _ a.0 from, numbered_stand (after n (node_at ds p)) ps a.1 (from_next n (node_at ds p) _ from))

-- ---- the node of a definition

-- a node that has a name of its own
abbrev pub HasName : Option Node → Type 0
HasName o = (m : FullName) × (name_in o ≡ Some m)

-- node k is one of the nodes xs from node n on, and has a name
abbrev pub IsNamedAt : List Node → ℕ → ℕ → Type 0
IsNamedAt xs n k = (i : ℕ) × (k ≡ n + i) × (i < length xs) × HasName (slice_get xs i)

-- one more node in front
past_one : (x : Node) (xs : List Node) (n k : ℕ) → IsNamedAt xs (n + 1) k → IsNamedAt (x ∷ xs) n k
past_one x xs n k a = (suc a.0, omega (arith, a.1), omega (arith, a.2), a.3)

-- what is found in a list with one more in front
found_either : (b : Bool) (e d : Definition) (o : Option Definition) → cond b (Some e) o ≡ Some d → (e ≡ d) ⊎ (o ≡ Some d)
found_either true e d o h = inl cc
found_either false e d o h = inr h

-- the definition that a heading gives at node n
defined_by-node : (ns : List ℕ) (n : ℕ) (h : Heading) (o : Option (List ℕ)) (e : Definition)
    → defined_by ns n (record h { name = o }) ≡ Some e → e.node ≡ n
defined_by-node ns n h None e is = cc
defined_by-node ns n h (Some s) e is = cc

-- a named type at node n, or one after it
at_heading : (test : Definition → Bool) (x : Node) (xs : List Node)
    (n m : ℕ) (o : Option Definition) (es : List Definition) (d : Definition)
    → HasName (Some x) → m ≡ n → ((e : Definition) → o ≡ Some e → e.node ≡ m)
    → (find test es ≡ Some d → IsNamedAt xs (n + 1) d.node) → find test (cons_option o es) ≡ Some d → IsNamedAt (x ∷ xs) n d.node
at_heading test x xs n m None es d own is node rest e = past_one x xs n d.node (rest e)
at_heading test x xs n m (Some c) es d own is node rest e =
    elim (found_either (test c) c d (find test es) e) [
      | inl same ↦ (0, ap (λ t. t.node) (sym same) ∙ node c refl ∙ omega arith, omega arith, own)
      | inr later ↦ past_one x xs n d.node (rest later)
    ]

module _ (ds : List Definition) (test : Definition → Bool) (d : Definition) where
  -- one more place
  found_place : (ns : List ℕ) (n m : ℕ) (f : Form) (ps : List Place) → m ≡ n
      → (find test (definitions ps) ≡ Some d → IsNamedAt (filter_map (node_at ds) ps) (after n (node_of ds ns m f)) d.node)
      → find test (definitions (place ns m f ∷ ps)) ≡ Some d → IsNamedAt (filter_map (node_at ds) (place ns m f ∷ ps)) n d.node
  found_place ns n m (plain p) ps is rest e = past_one _ _ n d.node (rest e)
  found_place ns n m (by_name s) ps is rest e = rest e
  found_place ns n m (record_of h fs) ps is rest e =
      at_heading test _ _ n m (defined_by ns m h) (definitions ps) d (type_name ns h, refl) is (defined_by-node ns m h h.name) rest e
  found_place ns n m (enum_of h ss v) ps is rest e =
      at_heading test _ _ n m (defined_by ns m h) (definitions ps) d (type_name ns h, refl) is (defined_by-node ns m h h.name) rest e
  found_place ns n m (fixed_of h s) ps is rest e =
      at_heading test _ _ n m (defined_by ns m h) (definitions ps) d (type_name ns h, refl) is (defined_by-node ns m h h.name) rest e
  found_place ns n m (array_of f) ps is rest e = past_one _ _ n d.node (rest e)
  found_place ns n m (map_of f) ps is rest e = past_one _ _ n d.node (rest e)
  found_place ns n m (union_of fs) ps is rest e = past_one _ _ n d.node (rest e)
  found_place ns n m ill_formed ps is rest e = rest e

  -- a definition that is found among those of numbered places
  found_at : (n : ℕ) (ps : List Place) → Numbered ds n ps
      → find test (definitions ps) ≡ Some d → IsNamedAt (filter_map (node_at ds) ps) n d.node
  found_at n [] a e = cc
  found_at n (p ∷ ps) a e = found_place p.namespace n p.before p.type ps a.0 (found_at (after n (node_at ds p)) ps a.1) e

-- a use names what one of two look-ups finds
found_by : (b : Bool) (o q : Option Definition) (d : Definition) → cond b o (option_or q o) ≡ Some d → (o ≡ Some d) ⊎ (q ≡ Some d)
found_by true o q d e = inl e
found_by false o None d e = inl e
found_by false o (Some x) d e = inr e

-- the node of a definition that is used stands among the nodes
pub named_at : (ns : List ℕ) (n : ℕ) (ps : List Place) (d : Definition) (s : List ℕ) → Numbered (definitions ps) 0 ps
    → definition_used (definitions ps) n ns s ≡ Some d → IsNamedAt (filter_map (node_at (definitions ps)) ps) 0 d.node
named_at ns n ps d s a e =
    let ds = definitions ps in
    elim (found_by (has_dot s) (defined ds n s) (defined ds n (joined ns s)) d e) [
      | inl here ↦ found_at ds (λ c. nat_lt c.node n && bytes_eq c.name s) d 0 ps a here
      | inr near ↦ found_at ds (λ c. nat_lt c.node n && bytes_eq c.name (joined ns s)) d 0 ps a near
    ]
