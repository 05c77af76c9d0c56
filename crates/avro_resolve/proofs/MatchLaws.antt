-- Why `matches` looks far enough, and that it does so array by array and map by map.
use Rattle.std.proofs.Common.{◌≡◌, ◌≢◌, ℕ, zero, suc, ◌+◌, ◌-◌, ◌<◌, ◌≤◌, List, [], ◌∷◌, length, Bool, true, false, ◌||◌, ◌&&◌}
use Rattle.std.proofs.Common.{is_some, bytes_eq, inl, inr, Option, Some, None, slice_get, refl, sym, ap, ◌∙◌, arith}
use Rattle.std.specs.List.{list_any}
use Rattle.std.proofs.lemmas.Slice.Eq.{bytes_eq-Decides}
use Rattle.std.proofs.lemmas.Bool.{eq-eqb}
use Rattle.avro_schema.specs.declared.node.FullName.{FullName}
use denote.Enum.Bare.{true_same}
use Rattle.avro_schema.specs.declared.node.Primitive.{Primitive}
use Rattle.avro_schema.specs.contracts.node.Primitive.{the_type}
use Rattle.avro_schema.specs.declared.node.NodeId.{NodeId}
use Rattle.avro_schema.specs.declared.node.Node.{Node}
use Rattle.avro_schema.specs.declared.node.Node.TheVariants as kind
use Rattle.avro_schema.specs.Sound.{IsSound, inner, parts_of_node}
use Rattle.avro_schema.specs.Names.{same_name}
use Rattle.avro_schema.specs.Faults.{same_primitive}
use Rattle.avro_resolve.proofs.Sound.{part_below}
use Rattle.avro_resolve.specs.Inward.{inner_types}
use Rattle.avro_resolve.specs.Match.{both, nodes_match, matches_within, matches, names_match}
use Rattle.avro_resolve.specs.Match.{promotions, primitives_match, IsByCases, EachMatchesItself}

-- a is what the array or the map is of
abbrev pub IsOf : NodeId → Option Node → Type 0
IsOf a m = inner m ≡ Some a

-- no array and no map
abbrev IsEnd : Option Node → Type 0
IsEnd m = inner m ≡ None

both-same : (p q : NodeId → NodeId → Bool) (m n : Option Node)
    → ((a b : NodeId) → IsOf a m → p a b ≡ q a b) → both (nodes_match p) m n ≡ both (nodes_match q) m n
both-same p q (Some (kind.Array a)) (Some (kind.Array b)) h = h a b refl
both-same p q (Some (kind.Map a)) (Some (kind.Map b)) h = h a b refl
both-same p q _ _ h = refl

both-end : (p q : NodeId → NodeId → Bool) (m n : Option Node) → IsEnd m → both (nodes_match p) m n ≡ both (nodes_match q) m n
both-end p q (Some (kind.Array a)) n h = cc
both-end p q (Some (kind.Map a)) n h = cc
both-end p q _ _ h = refl

IsOf-below : (r : List Node) (i : ℕ) (a : NodeId) → IsOf a (slice_get r i) → i < length r
IsOf-below [] i a h = cc
IsOf-below (m ∷ r) zero a h = omega arith
IsOf-below (m ∷ r) (suc i) a h = let below : i < length r = IsOf-below r i a h in omega arith

past_end : (r : List Node) (i : ℕ) → length r ≤ i → slice_get r i ≡ None
past_end [] i h = refl
past_end (m ∷ r) zero h = absurd (omega arith)
past_end (m ∷ r) (suc i) h = past_end r i (omega arith)

module _ (r w : List Node) (s : IsSound r) where
  enough : (n : ℕ) (i j : NodeId) → length r + 1 ≤ n + i.index → matches_within (suc n) r w i j ≡ matches_within n r w i j
  enough zero i j h = ap (λ m. both (nodes_match (λ k l. false)) m (slice_get w j.index)) (past_end r i.index (omega arith))
  enough (suc n) i j h =
      both-same (λ k l. matches_within (suc n) r w k l) (λ k l. matches_within n r w k l)
      (slice_get r i.index) (slice_get w j.index) (λ a b of_a. step n i j a b h of_a (enough n a b))
    where
      step : (n : ℕ) (i j a b : NodeId) → length r + 1 ≤ suc n + i.index → IsOf a (slice_get r i.index)
          → (length r + 1 ≤ n + a.index → matches_within (suc n) r w a b ≡ matches_within n r w a b)
          → matches_within (suc n) r w a b ≡ matches_within n r w a b
      step zero i j a b h of_a ih = let below : i.index < length r = IsOf-below r i.index a of_a in absurd (omega arith)
      step (suc n) i j a b h of_a ih = elim (s.leads_on i.index a of_a) [
        | inl after ↦ ih (omega arith)
        | inr ends ↦ both-end (λ k l. matches_within (suc n) r w k l)
            (λ k l. matches_within n r w k l) (slice_get r a.index) (slice_get w b.index) ends
      ]

  -- the cases, with the relation itself for the parts
  pub matches-cases : IsByCases r w
  matches-cases i j = sym (enough (suc (length r)) i j (omega arith))

-- ---- a type matches itself

bytes_itself : (a : List ℕ) → bytes_eq a a ≡ true
bytes_itself a = (bytes_eq-Decides a a).1 refl

names_itself : (n : FullName) (al : List FullName) → names_match n al n ≡ true
names_itself n al = ap (λ b. b || list_any (same_name n) al) (bytes_itself n.name)

primitive_itself : (p : Primitive) → primitives_match p p ≡ true
primitive_itself p = ap (λ b. b || list_any (same_primitive p) (promotions p)) (true_same the_type p p refl)

node_itself : (p : NodeId → NodeId → Bool) (m : Option Node) → is_some m ≡ true
    → ((a : NodeId) → IsOf a m → p a a ≡ true) → both (nodes_match p) m m ≡ true
node_itself p None some h = cc
node_itself p (Some (kind.Union bs)) some h = refl
node_itself p (Some (kind.Primitive q)) some h = primitive_itself q
node_itself p (Some (kind.Record n al fs)) some h = names_itself n al
node_itself p (Some (kind.Enum n al ss d)) some h = names_itself n al
node_itself p (Some (kind.Fixed n al s)) some h = ap (λ b. b && names_match n al n) (eq-eqb s s refl) ∙ names_itself n al
node_itself p (Some (kind.Array a)) some h = h a refl
node_itself p (Some (kind.Map a)) some h = h a refl

is_some-slice_get : (r : List Node) (i : ℕ) → i < length r → is_some (slice_get r i) ≡ true
is_some-slice_get [] i h = absurd (omega arith)
is_some-slice_get (m ∷ r) zero h = refl
is_some-slice_get (m ∷ r) (suc i) h = is_some-slice_get r i (omega arith)

of_end : (a : NodeId) (m : Option Node) → IsEnd m → IsOf a m → ⊥
of_end a m e h = let no : None ≡ Some a = sym e ∙ h in cc

-- what an array or a map is of is its one part
pub inner_part : (m : Node) (a : NodeId) → IsOf a (Some m) → slice_get (parts_of_node m) 0 ≡ Some a
inner_part (kind.Array b) a of_a = of_a
inner_part (kind.Map b) a of_a = of_a
inner_part _ a of_a = cc

inner_below : (r : List Node) → IsSound r → (i : ℕ) (a : NodeId) (m : Option Node) → slice_get r i ≡ m → IsOf a m → a.index < length r
inner_below r s i a None at of_a = cc
inner_below r s i a (Some m) at of_a = part_below r s i m at 0 a (inner_part m a of_a)

module _ (r : List Node) (s : IsSound r) where
  itself : (n : ℕ) (i : NodeId) → i.index < length r → length r + 1 ≤ n + i.index → matches_within n r r i i ≡ true
  itself zero i below h = absurd (omega arith)
  itself (suc n) i below h =
      node_itself (λ k l. matches_within n r r k l) (slice_get r i.index) (is_some-slice_get r i.index below)
      (λ a of_a. onward n i a below h of_a (inner_below r s i.index a _ refl of_a) (itself n a))
    where
      onward : (n : ℕ) (i a : NodeId) → i.index < length r → length r + 1 ≤ suc n + i.index → IsOf a (slice_get r i.index)
          → a.index < length r → (a.index < length r → length r + 1 ≤ n + a.index → matches_within n r r a a ≡ true)
          → matches_within n r r a a ≡ true
      onward zero i a below h of_a part ih = absurd (omega arith)
      onward (suc n) i a below h of_a part ih = elim (s.leads_on i.index a of_a) [
        | inl after ↦ ih part (omega arith)
        | inr ends ↦ node_itself (λ k l. matches_within n r r k l) (slice_get r a.index)
            (is_some-slice_get r a.index part) (λ b of_b. absurd (of_end b _ ends of_b))
      ]

  pub matches_itself : EachMatchesItself r
  matches_itself i below = itself (suc (length r)) i below (omega arith)

-- ---- one step inward

-- what the loop keeps: from the types i and j it has come to a and b, and may look through so many more
pub record IsInward (r w : List Node) (i j a b : NodeId) (left : ℕ) : Type 0 where
  pub reader : a.index < length r
  pub writer : b.index < length w
  pub decides : matches r w i j ≡ matches_within (suc left) r w a b

-- two arrays or two maps match where their parts do
by_parts : (p : NodeId → NodeId → Bool) (m n : Node) (c d : NodeId) → inner_types m n ≡ Some (c, d) → nodes_match p m n ≡ p c d
by_parts p (kind.Array a) (kind.Array b) c d e = let one : (a, b) ≡ (c, d) = cc in ap (λ (x : NodeId × NodeId). p x.0 x.1) one
by_parts p (kind.Map a) (kind.Map b) c d e = let one : (a, b) ≡ (c, d) = cc in ap (λ (x : NodeId × NodeId). p x.0 x.1) one
by_parts p _ _ c d e = cc

-- the parts are those of the two types
reader_part : (m n : Node) (c d : NodeId) → inner_types m n ≡ Some (c, d) → IsOf c (Some m)
reader_part (kind.Array a) (kind.Array b) c d e = let one : (a, b) ≡ (c, d) = cc in ap (λ (x : NodeId × NodeId). Some x.0) one
reader_part (kind.Map a) (kind.Map b) c d e = let one : (a, b) ≡ (c, d) = cc in ap (λ (x : NodeId × NodeId). Some x.0) one
reader_part _ _ c d e = cc

writer_part : (m n : Node) (c d : NodeId) → inner_types m n ≡ Some (c, d) → IsOf d (Some n)
writer_part (kind.Array a) (kind.Array b) c d e = let one : (a, b) ≡ (c, d) = cc in ap (λ (x : NodeId × NodeId). Some x.1) one
writer_part (kind.Map a) (kind.Map b) c d e = let one : (a, b) ≡ (c, d) = cc in ap (λ (x : NodeId × NodeId). Some x.1) one
writer_part _ _ c d e = cc

module _ {r w : List Node} {i j a b : NodeId} {left : ℕ} (now : IsInward r w i j a b left)
    {m n : Node} (m_at : slice_get r a.index ≡ Some m) (n_at : slice_get w b.index ≡ Some n) where
  -- the two nodes decide
  at_nodes : matches r w i j ≡ nodes_match (λ k l. matches_within left r w k l) m n
  at_nodes =
      now.decides
      ∙ ap (λ o. both (nodes_match (λ k l. matches_within left r w k l)) o (slice_get w b.index)) m_at
      ∙ ap (λ o. both (nodes_match (λ k l. matches_within left r w k l)) (Some m) o) n_at

  -- one step on
  pub further : IsSound r → IsSound w → (c d : NodeId) → inner_types m n ≡ Some (c, d) → left ≢ 0 → IsInward r w i j c d (left - 1)
  further s t c d e more =
      let one_less : left ≡ suc (left - 1) = omega arith in
      record {
        reader = part_below r s a.index m m_at 0 c (inner_part m c (reader_part m n c d e));
        writer = part_below w t b.index n n_at 0 d (inner_part n d (writer_part m n c d e));
        decides = at_nodes ∙ by_parts (λ k l. matches_within left r w k l) m n c d e ∙ ap (λ k. matches_within k r w c d) one_less;
      }
