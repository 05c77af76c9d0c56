-- What the labels of types tell of names that match.
use Rattle.std.proofs.Common.{◌≡◌, ◌≢◌, ℕ, List, [], ◌∷◌, Bool, true, false, ◌&&◌, ◌||◌, Option, Some, None, bytes_eq, refl, sym, ◌∙◌, ap}
use Rattle.std.specs.BTreeMap.{is_at}
use Rattle.std.specs.Borrow.{Bor}
use Rattle.std.specs.Cmp.Lexicographic.{slice_cmp, nat_list_eq_equiv}
use Rattle.std.specs.List.{list_any}
use Rattle.std.specs.Option.{option_cmp, option_copied, option_eq, option_map_or}
use Rattle.std.specs.Ordering.{is_eq, nat_cmp, ordering_then}
use Rattle.std.specs.declared.cmp.Ordering.{Ordering}
use Rattle.std.proofs.lemmas.Map.Text.{is_eq-slice_cmp}
use Rattle.avro_schema.specs.Names.{same_name}
use Rattle.avro_schema.specs.declared.node.FullName.{FullName}
use Rattle.avro_schema.specs.declared.node.NodeId.{NodeId}
use Rattle.avro_schema.specs.declared.node.Node.{Node}
use Rattle.avro_schema.specs.declared.node.Node.TheVariants as kind
use Rattle.avro_resolve.specs.contracts.labels.ShapeOrd.TheImpl as shapes
use Rattle.avro_resolve.specs.declared.labels.Label.{Label}
use Rattle.avro_resolve.specs.declared.labels.Shape.{Shape}
use Rattle.avro_resolve.specs.declared.labels.Shape.TheVariants as shape
use Rattle.avro_resolve.specs.Labels.{Head, has_label, heading_of, is_label, is_labelled, is_unnamed, label_cmp, same_shape}
use Rattle.avro_resolve.specs.Match.{both, names_match, nodes_match}
use Rattle.avro_resolve.proofs.SeenLaws.{is_eq-nat_cmp, is_eq-then}

-- ---- labels that are equal

equal_shapes : (s t : Shape) → is_eq ((shapes.ghosts).cmp s t) ≡ same_shape s t
equal_shapes shape.Record shape.Record = refl
equal_shapes shape.Record shape.Enum = refl
equal_shapes shape.Record (shape.Fixed t) = refl
equal_shapes shape.Enum shape.Record = refl
equal_shapes shape.Enum shape.Enum = refl
equal_shapes shape.Enum (shape.Fixed t) = refl
equal_shapes (shape.Fixed s) shape.Record = refl
equal_shapes (shape.Fixed s) shape.Enum = refl
equal_shapes (shape.Fixed s) (shape.Fixed t) = is_eq-nat_cmp s t

all_three : (o p q : Ordering) (a b c : Bool) → is_eq o ≡ a → is_eq p ≡ b
    → is_eq q ≡ c → is_eq (ordering_then o (ordering_then p q)) ≡ (a && (b && c))
all_three o p q a b c e f g =
    is_eq-then o (ordering_then p q) ∙ ap (λ x. x && is_eq (ordering_then p q)) e
    ∙ ap (λ x. a && x) (is_eq-then p q ∙ ap (λ x. x && is_eq q) f ∙ ap (λ x. b && x) g)

-- a label is at another where that is of its shape, name and namespace
pub is_at_label : (k l : Label) → is_at (label_cmp k) l ≡ is_label k.shape k.name.now (option_copied k.namespace) l
is_at_label k l =
    all_three _ _ _ _ _ _ (equal_shapes k.shape l.shape) (is_eq-slice_cmp k.name.now l.name.now) (by_spaces k.namespace l.namespace)
  where
    by_spaces : (a b : Option (Bor (List ℕ)))
        → is_eq (option_cmp (λ x y. slice_cmp nat_cmp x.now y.now) a b) ≡ option_eq bytes_eq (option_copied a) (option_copied b)
    by_spaces None None = refl
    by_spaces None (Some y) = refl
    by_spaces (Some x) None = refl
    by_spaces (Some x) (Some y) = is_eq-slice_cmp x.now y.now

-- ---- which labels a head has

and_false : (b : Bool) → (b && false) ≡ false
and_false true = refl
and_false false = refl

none_of : (al : List FullName) (test : FullName → Bool) → ((a : FullName) → test a ≡ false) → list_any test al ≡ false
none_of [] test all = refl
none_of (a ∷ al) test all = ap (λ b. b || list_any test al) (all a) ∙ none_of al test all

any_same : (al : List FullName) (p q : FullName → Bool) → ((a : FullName) → p a ≡ q a) → list_any p al ≡ list_any q al
any_same [] p q same = refl
any_same (a ∷ al) p q same = ap (λ b. b || list_any p al) (same a) ∙ ap (λ b. q a || b) (any_same al p q same)

and_swap : (a b c d : Bool) → a ≡ c → b ≡ d → (a && b) ≡ (d && c)
and_swap true true c d e f = ap (λ x. x && true) f ∙ ap (λ x. d && x) e
and_swap true false c d e f = ap (λ x. x && c) f
and_swap false b c d e f = sym (ap (λ x. d && x) (sym e) ∙ and_false d)

same_either_way : (m a : FullName) → (bytes_eq a.name m.name && bytes_eq a.namespace m.namespace) ≡ same_name m a
same_either_way m a =
    and_swap (bytes_eq a.name m.name) (bytes_eq a.namespace m.namespace) (bytes_eq m.name a.name) (bytes_eq m.namespace a.namespace)
    (nat_list_eq_equiv.symm a.name m.name) (nat_list_eq_equiv.symm a.namespace m.namespace)

-- what is_label says, by the parts of a label
abbrev is_of : Shape → List ℕ → Option (List ℕ) → Shape → List ℕ → Option (List ℕ) → Bool
is_of s name namespace t n space = same_shape s t && (bytes_eq name n && option_eq bytes_eq namespace space)

abbrev has_of : Head → Shape → List ℕ → Option (List ℕ) → Bool
has_of h t n space = is_of h.0 h.1.name None t n space || list_any (λ a. is_of h.0 a.name (Some a.namespace) t n space) h.2

either : (b c d : Bool) → ((b && c) || (b && d)) ≡ (b && (c || d))
either true c d = refl
either false c d = refl

module _ (h : Head) (t : Shape) (m : FullName) where
  last_part : has_of h t m.name None ≡ (same_shape h.0 t && bytes_eq h.1.name m.name)
  last_part =
      ap (λ b. is_of h.0 h.1.name None t m.name None || b)
      (none_of h.2 (λ a. is_of h.0 a.name (Some a.namespace) t m.name None)
      (λ a. ap (λ b. same_shape h.0 t && b) (and_false (bytes_eq a.name m.name)) ∙ and_false (same_shape h.0 t)))
      ∙ all_true (same_shape h.0 t) (bytes_eq h.1.name m.name)
    where
      all_true : (a b : Bool) → ((a && (b && true)) || false) ≡ (a && b)
      all_true true true = refl
      all_true true false = refl
      all_true false b = refl

  alias : has_of h t m.name (Some m.namespace) ≡ (same_shape h.0 t && list_any (same_name m) h.2)
  alias =
      ap (λ b. b || list_any (λ a. is_of h.0 a.name (Some a.namespace) t m.name (Some m.namespace)) h.2)
      (ap (λ b. same_shape h.0 t && b) (and_false (bytes_eq h.1.name m.name)) ∙ and_false (same_shape h.0 t))
      ∙ go (same_shape h.0 t)
    where
      go : (b : Bool)
          → list_any (λ a. b && (bytes_eq a.name m.name && bytes_eq a.namespace m.namespace)) h.2 ≡ (b && list_any (same_name m) h.2)
      go true = any_same h.2 (λ a. bytes_eq a.name m.name && bytes_eq a.namespace m.namespace) (same_name m) (same_either_way m)
      go false = none_of h.2 (λ a. false) (λ a. refl)

  either_label : (has_of h t m.name None || has_of h t m.name (Some m.namespace)) ≡ (same_shape h.0 t && names_match h.1 h.2 m)
  either_label =
      ap (λ b. b || has_of h t m.name (Some m.namespace)) last_part
      ∙ ap (λ b. (same_shape h.0 t && bytes_eq h.1.name m.name) || b) alias
      ∙ either (same_shape h.0 t) (bytes_eq h.1.name m.name) (list_any (same_name m) h.2)

-- ---- which types match

abbrev heads_match : Option Head → Head → Bool
heads_match None k = false
heads_match (Some h) k = same_shape h.0 k.0 && names_match h.1 h.2 k.1

module _ (parts : NodeId → NodeId → Bool) where
  to_record : (o : Option Node) (m : FullName) (bl : List FullName) (gs : _) → ((bs : List NodeId) → o ≢ Some (kind.Union bs))
      → both (nodes_match parts) o (Some (kind.Record m bl gs)) ≡ heads_match (heading_of o) (shape.Record, m, bl)
  to_record None m bl gs flat = refl
  to_record (Some (kind.Union bs)) m bl gs flat = absurd (flat bs refl)
  to_record (Some (kind.Primitive p)) m bl gs flat = refl
  to_record (Some (kind.Record n al fs)) m bl gs flat = refl
  to_record (Some (kind.Enum n al ss d)) m bl gs flat = refl
  to_record (Some (kind.Fixed n al s)) m bl gs flat = refl
  to_record (Some (kind.Array i)) m bl gs flat = refl
  to_record (Some (kind.Map i)) m bl gs flat = refl

  to_enum : (o : Option Node) (m : FullName) (bl : List FullName) (ts : _) (e : _) → ((bs : List NodeId) → o ≢ Some (kind.Union bs))
      → both (nodes_match parts) o (Some (kind.Enum m bl ts e)) ≡ heads_match (heading_of o) (shape.Enum, m, bl)
  to_enum None m bl ts e flat = refl
  to_enum (Some (kind.Union bs)) m bl ts e flat = absurd (flat bs refl)
  to_enum (Some (kind.Primitive p)) m bl ts e flat = refl
  to_enum (Some (kind.Record n al fs)) m bl ts e flat = refl
  to_enum (Some (kind.Enum n al ss d)) m bl ts e flat = refl
  to_enum (Some (kind.Fixed n al s)) m bl ts e flat = refl
  to_enum (Some (kind.Array i)) m bl ts e flat = refl
  to_enum (Some (kind.Map i)) m bl ts e flat = refl

  to_fixed : (o : Option Node) (m : FullName) (bl : List FullName) (t : ℕ) → ((bs : List NodeId) → o ≢ Some (kind.Union bs))
      → both (nodes_match parts) o (Some (kind.Fixed m bl t)) ≡ heads_match (heading_of o) (shape.Fixed t, m, bl)
  to_fixed None m bl t flat = refl
  to_fixed (Some (kind.Union bs)) m bl t flat = absurd (flat bs refl)
  to_fixed (Some (kind.Primitive p)) m bl t flat = refl
  to_fixed (Some (kind.Record n al fs)) m bl t flat = refl
  to_fixed (Some (kind.Enum n al ss d)) m bl t flat = refl
  to_fixed (Some (kind.Fixed n al s)) m bl t flat = refl
  to_fixed (Some (kind.Array i)) m bl t flat = refl
  to_fixed (Some (kind.Map i)) m bl t flat = refl

  by_heads : (o : Option Node) (n : Node) (k : Head) → heading_of (Some n) ≡ Some k
      → ((bs : List NodeId) → o ≢ Some (kind.Union bs)) → both (nodes_match parts) o (Some n) ≡ heads_match (heading_of o) k
  by_heads o (kind.Record m bl gs) k is flat =
      let e : (shape.Record, m, bl) ≡ k = cc in to_record o m bl gs flat ∙ ap (heads_match (heading_of o)) e
  by_heads o (kind.Enum m bl ts d) k is flat =
      let e : (shape.Enum, m, bl) ≡ k = cc in to_enum o m bl ts d flat ∙ ap (heads_match (heading_of o)) e
  by_heads o (kind.Fixed m bl t) k is flat =
      let e : (shape.Fixed t, m, bl) ≡ k = cc in to_fixed o m bl t flat ∙ ap (heads_match (heading_of o)) e
  by_heads o _ k is flat = cc

  -- a type with a name matches those alone that have one of its labels
  pub by_labels : (o : Option Node) (n : Node) (k : Head) (l f : Label)
      → heading_of (Some n) ≡ Some k → ((bs : List NodeId) → o ≢ Some (kind.Union bs))
      → l.shape ≡ k.0 → l.name.now ≡ k.1.name → option_copied l.namespace ≡ None
      → f.shape ≡ k.0 → f.name.now ≡ k.1.name → option_copied f.namespace ≡ Some k.1.namespace
      → (has_label o l || has_label o f) ≡ both (nodes_match parts) o (Some n)
  by_labels o n k l f is flat ls ln lm fs fn fm = go (heading_of o) ∙ sym (by_heads o n k is flat)
    where
      of_last : (h : Head) → is_labelled h l ≡ has_of h k.0 k.1.name None
      of_last h =
          ap (λ t. has_of h t l.name.now (option_copied l.namespace)) ls
          ∙ ap (λ n. has_of h k.0 n (option_copied l.namespace)) ln
          ∙ ap (has_of h k.0 k.1.name) lm

      of_full : (h : Head) → is_labelled h f ≡ has_of h k.0 k.1.name (Some k.1.namespace)
      of_full h =
          ap (λ t. has_of h t f.name.now (option_copied f.namespace)) fs
          ∙ ap (λ n. has_of h k.0 n (option_copied f.namespace)) fn
          ∙ ap (has_of h k.0 k.1.name) fm

      go : (p : Option Head)
          → (option_map_or (λ h. is_labelled h l) p false || option_map_or (λ h. is_labelled h f) p false) ≡ heads_match p k
      go None = refl
      go (Some h) =
          ap (λ b. b || is_labelled h f) (of_last h) ∙ ap (λ b. has_of h k.0 k.1.name None || b) (of_full h) ∙ either_label h k.0 k.1

  -- and one without a name, no union, types without a name alone
  pub by_no_label : (o : Option Node) (n : Node) → heading_of (Some n) ≡ None
      → ((bs : List NodeId) → n ≢ kind.Union bs) → both (nodes_match parts) o (Some n) ≡ true → is_unnamed o ≡ true
  by_no_label (Some (kind.Record m al fs)) (kind.Primitive q) is plain e = cc
  by_no_label (Some (kind.Record m al fs)) (kind.Array j) is plain e = cc
  by_no_label (Some (kind.Record m al fs)) (kind.Map j) is plain e = cc
  by_no_label (Some (kind.Enum m al ss d)) (kind.Primitive q) is plain e = cc
  by_no_label (Some (kind.Enum m al ss d)) (kind.Array j) is plain e = cc
  by_no_label (Some (kind.Enum m al ss d)) (kind.Map j) is plain e = cc
  by_no_label (Some (kind.Fixed m al s)) (kind.Primitive q) is plain e = cc
  by_no_label (Some (kind.Fixed m al s)) (kind.Array j) is plain e = cc
  by_no_label (Some (kind.Fixed m al s)) (kind.Map j) is plain e = cc
  by_no_label o (kind.Union bs) is plain e = absurd (plain bs refl)
  by_no_label o (kind.Record m al fs) is plain e = cc
  by_no_label o (kind.Enum m al ss d) is plain e = cc
  by_no_label o (kind.Fixed m al s) is plain e = cc
  by_no_label None n is plain e = cc
  by_no_label (Some (kind.Union bs)) n is plain e = refl
  by_no_label (Some (kind.Primitive p)) n is plain e = refl
  by_no_label (Some (kind.Array i)) n is plain e = refl
  by_no_label (Some (kind.Map i)) n is plain e = refl
