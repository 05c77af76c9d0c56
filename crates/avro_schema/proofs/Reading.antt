-- What the builder holds after one type and then another, and which faults stand.
use Rattle.std.proofs.Common.{◌≡◌, inl, inr, ℕ, ◌+◌, ◌≤◌, List, [], ◌∷◌, ◌++◌, length, set, Bool, true, false, nat_le, Some, None}
use Rattle.std.proofs.Common.{option_and_then, Contains, refl, sym, ◌∙◌, ap, subst, arith, filter_map, append_assoc}
use Rattle.std.proofs.Common.{length-append, length-set}
use Rattle.std.specs.List.{cons_option, flat_map}
use Rattle.std.proofs.lemmas.List.{append-nil}
use Rattle.std.proofs.lemmas.List.Elements.{filter_map-append, Contains-append_left, Contains-append_right, Contains-append_cases}
use Rattle.std.proofs.lemmas.List.Concat.{flat_map-append}
use Rattle.std.proofs.Math.Seq.{set-append_seam}
use Rattle.avro_schema.specs.declared.error.SchemaError.{SchemaError}
use Rattle.avro_schema.specs.declared.error.SchemaError.TheVariants as fault
use Rattle.avro_schema.specs.declared.node.Node.{Node}
use Rattle.avro_schema.specs.declared.builder.Builder.{Builder}
use Rattle.avro_schema.specs.Form.{Form}
use Rattle.avro_schema.specs.Places.{count, Place, places, Definition, heading_in, defined_by, definitions}
use Rattle.avro_schema.specs.Nodes.{node_at}
use Rattle.avro_schema.specs.Faults.{unless, faults_at}
use Rattle.avro_schema.specs.Schema.{IsRefusalBy}
use Rattle.avro_schema.specs.DefinedNames.{AreDefined}
use Rattle.avro_schema.specs.Building.{Before, nodes_of, opened, HasMet, Reads, too_many, faults_in}
use Rattle.avro_schema.proofs.Later.{SameAlong, count-type}
use Rattle.avro_schema.specs.declared.limits.TheConstants.{SCHEMA_NODES_LIMIT}

-- ---- refusals

pub weaken : (es fs : List SchemaError) (e : SchemaError) → (Contains es e → Contains fs e) → IsRefusalBy es e → IsRefusalBy fs e
weaken es fs e f h = λ n. f (h n)

pub left : (es fs : List SchemaError) (e : SchemaError) → IsRefusalBy es e → IsRefusalBy (es ++ fs) e
left es fs e h = λ n. Contains-append_left es fs e (h n)

pub right : (es fs : List SchemaError) (e : SchemaError) → IsRefusalBy fs e → IsRefusalBy (es ++ fs) e
right es fs e h = λ n. Contains-append_right es fs e (h n)

pub no_memory : (es : List SchemaError) (e : SchemaError) → e ≡ fault.OutOfMemory → IsRefusalBy es e
no_memory es e h = λ n. absurd (n h)

pub alone : (b : Bool) (x : SchemaError) → b ≡ false → IsRefusalBy (unless b x) x
alone true x h = cc
alone false x h = λ _. (0, omega arith, refl)

none_contained : (x : SchemaError) → Contains [] x → ⊥
none_contained x c = absurd (omega (arith, c.1))

unless-mono : (a b : Bool) (x e : SchemaError) → (b ≡ true → a ≡ true) → Contains (unless a x) e → Contains (unless b x) e
unless-mono true b x e h c = absurd (none_contained e c)
unless-mono false true x e h c = let no : false ≡ true = h refl in cc
unless-mono false false x e h c = c

-- a test that fails where another does
pub unless_too : (a b : Bool) (x e : SchemaError) → (b ≡ true → a ≡ true) → IsRefusalBy (unless a x) e → IsRefusalBy (unless b x) e
unless_too a b x e h r = λ n. unless-mono a b x e h (r n)

nat_le-down : (m k n : ℕ) → m ≤ k → nat_le k n ≡ true → nat_le m n ≡ true
nat_le-down m k n h t = grind arith

pub more_nodes : (m k : ℕ) (e : SchemaError) → m ≤ k → Contains (too_many m) e → Contains (too_many k) e
more_nodes m k e h = unless-mono (nat_le m SCHEMA_NODES_LIMIT) (nat_le k SCHEMA_NODES_LIMIT) fault.TooManyNodes e (nat_le-down m k SCHEMA_NODES_LIMIT h)

pub unless-nil : (b : Bool) (x : SchemaError) → b ≡ true → unless b x ≡ []
unless-nil true x h = refl
unless-nil false x h = cc

pub nil-unless : (b : Bool) (x : SchemaError) → unless b x ≡ [] → b ≡ true
nil-unless true x h = refl
nil-unless false x h = cc

pub nil-append : {A : Type 0} (xs ys : List A) → xs ≡ [] → ys ≡ [] → xs ++ ys ≡ []
nil-append xs ys p q = rw p q

pub nil-left : {A : Type 0} (xs ys : List A) → xs ++ ys ≡ [] → xs ≡ []
nil-left [] ys h = refl
nil-left (x ∷ xs) ys h = cc

pub nil-right : {A : Type 0} (xs ys : List A) → xs ++ ys ≡ [] → ys ≡ []
nil-right [] ys h = h
nil-right (x ∷ xs) ys h = cc

-- ---- one after another

pub definitions-append : (ds : List Definition) (ps qs : List Place)
    → (ds ++ definitions ps) ++ definitions qs ≡ ds ++ definitions (ps ++ qs)
definitions-append ds ps qs =
    append_assoc ds (definitions ps) (definitions qs)
    ∙ ap (λ l. ds ++ l)
    (sym (filter_map-append (λ (p : Place). option_and_then (defined_by p.namespace p.before) (heading_in p.type)) ps qs))

-- from a to b the types at these places were read, where the definitions are es in all
pub record ReadsTo (es : List Definition) (ps : List Place) (a b : Builder) : Type 0 where
  pub nodes : nodes_of b ≡ nodes_of a ++ filter_map (node_at es) ps
  pub met : HasMet b es
  pub none_stands : flat_map (faults_at es) ps ≡ []

pub to : (ds : List Definition) (ps : List Place) (a b : Builder) → Reads ds ps a b → ReadsTo (ds ++ definitions ps) ps a b
to ds ps a b r = record { nodes = r.nodes; met = r.met; none_stands = r.none_stands }

pub from_to : (ds es : List Definition) (ps : List Place) (a b : Builder) → es ≡ ds ++ definitions ps → ReadsTo es ps a b → Reads ds ps a b
from_to ds es ps a b e r =
    let s : ReadsTo (ds ++ definitions ps) ps a b = subst (λ l. ReadsTo l ps a b) e r in
    record { nodes = s.nodes; met = s.met; none_stands = s.none_stands }

pub Reads-append : (ds : List Definition) (ps qs : List Place) (a b c : Builder) → SameAlong (ds ++ definitions ps) (definitions qs) ps
    → Reads ds ps a b → Reads (ds ++ definitions ps) qs b c → Reads ds (ps ++ qs) a c
Reads-append ds ps qs a b c same r s =
    let es : List Definition = (ds ++ definitions ps) ++ definitions qs in
    let whole : ReadsTo es (ps ++ qs) a c = record {
      nodes = s.nodes
          ∙ ap (λ l. l ++ filter_map (node_at es) qs) (r.nodes ∙ ap (λ l. nodes_of a ++ l) (sym same.nodes))
          ∙ append_assoc (nodes_of a) _ _
          ∙ ap (λ l. nodes_of a ++ l) (sym (filter_map-append (node_at es) ps qs));
      met = s.met;
      none_stands = flat_map-append (faults_at es) ps qs ∙ nil-append _ _ (same.faults ∙ r.none_stands) s.none_stands;
    } in
    from_to ds es (ps ++ qs) a c (definitions-append ds ps qs) whole

opened-length : (xs ys zs : List Node) (n : ℕ) → zs ≡ xs ++ ys → length ys ≡ n → length zs ≡ length xs + n
opened-length xs ys zs n e h = ap length e ∙ grind (arith, length-append)

pub opened-type : (ds : List Definition) (ns : List ℕ) (n : ℕ) (f : Form) (a b : Builder)
    → Reads ds (places ns n f) a b → opened b ≡ opened a + count f
opened-type ds ns n f a b r = opened-length _ _ _ _ r.nodes (count-type _ ns n f)

-- ---- a node that opens before its parts, and is written when they are read

pub closes : (es : List Definition) (p : Place) (ps : List Place) (x y : Node) (a a1 b c : Builder)
    → nodes_of a1 ≡ nodes_of a ++ y ∷ [] → ReadsTo es ps a1 b
    → nodes_of c ≡ set (nodes_of b) (opened a) x → c.names ≡ b.names → node_at es p ≡ Some x → faults_at es p ≡ [] → ReadsTo es (p ∷ ps) a c
closes es p ps x y a a1 b c opens r writes keeps is good =
    let inner : List Node = filter_map (node_at es) ps in
    let all : nodes_of b ≡ nodes_of a ++ y ∷ inner = r.nodes ∙ ap (λ l. l ++ inner) opens ∙ append_assoc (nodes_of a) (y ∷ []) inner in
    let done : nodes_of c ≡ nodes_of a ++ x ∷ inner = writes ∙ ap (λ l. set l (opened a) x) all ∙ set-append_seam (nodes_of a) y inner x in
    let same : opened c ≡ opened b = ap length writes ∙ length-set (nodes_of b) (opened a) x in
    record {
      nodes = done ∙ ap (λ o. nodes_of a ++ cons_option o inner) (sym is);
      met = record {
        names = subst (λ m. AreDefined m es) (sym keeps) r.met.names;
        apart = r.met.apart;
        before = subst (λ n. Before n es) (sym same) r.met.before;
        small = subst (λ n. n ≤ SCHEMA_NODES_LIMIT) (sym same) r.met.small;
      };
      none_stands = nil-append _ _ good r.none_stands;
    }

-- a node that has no parts
pub opens_one : (es : List Definition) (p : Place) (x : Node) (a b : Builder) → nodes_of b ≡ nodes_of a ++ x ∷ []
    → HasMet b es → node_at es p ≡ Some x → faults_at es p ≡ [] → ReadsTo es (p ∷ []) a b
opens_one es p x a b opens met is good = record {
  nodes = opens ∙ ap (λ o. nodes_of a ++ cons_option o []) (sym is);
  met = met;
  none_stands = nil-append _ _ good refl;
}

-- a type that adds no node
pub opens_none : (es : List Definition) (p : Place) (a : Builder) → HasMet a es
    → node_at es p ≡ None → faults_at es p ≡ [] → ReadsTo es (p ∷ []) a a
opens_none es p a met is good = record {
  nodes = sym (append-nil (nodes_of a)) ∙ ap (λ o. nodes_of a ++ cons_option o []) (sym is);
  met = met;
  none_stands = nil-append _ _ good refl;
}

-- ---- faults of parts are faults of the whole

pub in_head : (ds : List Definition) (ps qs : List Place) (m n : ℕ) (e : SchemaError) → m ≤ n
    → SameAlong (ds ++ definitions ps) (definitions qs) ps → Contains (faults_in ds ps m) e → Contains (faults_in ds (ps ++ qs) n) e
in_head ds ps qs m n e le same c =
    elim (Contains-append_cases (too_many m) (flat_map (faults_at (ds ++ definitions ps)) ps) e c) [
      | inl k ↦ Contains-append_left (too_many n) _ e (more_nodes m n e le k)
      | inr k ↦ Contains-append_right (too_many n) _ e
          (subst (λ l. Contains (flat_map (faults_at l) (ps ++ qs)) e) (definitions-append ds ps qs)
          (subst (λ l. Contains l e) (sym (flat_map-append (faults_at ((ds ++ definitions ps) ++ definitions qs)) ps qs))
          (Contains-append_left _ _ e (subst (λ l. Contains l e) (sym same.faults) k))))
    ]

pub in_tail : (ds : List Definition) (ps qs : List Place) (m n : ℕ) (e : SchemaError) → m ≤ n
    → Contains (faults_in (ds ++ definitions ps) qs m) e → Contains (faults_in ds (ps ++ qs) n) e
in_tail ds ps qs m n e le c =
    elim (Contains-append_cases (too_many m) (flat_map (faults_at ((ds ++ definitions ps) ++ definitions qs)) qs) e c) [
      | inl k ↦ Contains-append_left (too_many n) _ e (more_nodes m n e le k)
      | inr k ↦ Contains-append_right (too_many n) _ e
          (subst (λ l. Contains (flat_map (faults_at l) (ps ++ qs)) e) (definitions-append ds ps qs)
          (subst (λ l. Contains l e) (sym (flat_map-append (faults_at ((ds ++ definitions ps) ++ definitions qs)) ps qs))
          (Contains-append_right _ _ e k)))
    ]

-- the faults of a node's parts, and its own
pub in_parts : (m n : ℕ) (own es : List SchemaError) (e : SchemaError) → m ≤ n
    → Contains (too_many m ++ es) e → Contains (too_many n ++ (own ++ es)) e
in_parts m n own es e le c =
    elim (Contains-append_cases (too_many m) es e c) [
      | inl k ↦ Contains-append_left (too_many n) (own ++ es) e (more_nodes m n e le k)
      | inr k ↦ Contains-append_right (too_many n) (own ++ es) e (Contains-append_right own es e k)
    ]

pub in_own : (n : ℕ) (own es : List SchemaError) (e : SchemaError) → Contains own e → Contains (too_many n ++ (own ++ es)) e
in_own n own es e c = Contains-append_right (too_many n) (own ++ es) e (Contains-append_left own es e c)

pub in_count : (m n : ℕ) (es : List SchemaError) (e : SchemaError) → m ≤ n → Contains (too_many m) e → Contains (too_many n ++ es) e
in_count m n es e le c = Contains-append_left (too_many n) es e (more_nodes m n e le c)
