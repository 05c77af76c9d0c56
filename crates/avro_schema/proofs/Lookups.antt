-- The builder's map of names, beside the definitions that it has met.
use Rattle.std.proofs.Common.{◌≡◌, inl, inr, ◌⊎◌, ℕ, ◌+◌, ◌≤◌, ◌<◌, List, [], ◌∷◌, ◌++◌, length, Bool, true, false, cond, Option, Some}
use Rattle.std.proofs.Common.{None, is_some, is_none, option_map, option_and_then, bytes_eq, Result, refl, sym, ◌∙◌, ap, subst, arith, IfOk}
use Rattle.std.specs.Option.{option_or}
use Rattle.std.specs.Result.{IsErrAnd, IfErr}
use Rattle.std.proofs.lemmas.Result.{err_from_is_err_and}
use Rattle.std.proofs.lemmas.Slice.Eq.{bytes_eq-Decides}
use Rattle.avro_schema.specs.declared.node.Node.{Node}
use Rattle.avro_schema.specs.declared.builder.Builder.{Builder}
use Rattle.avro_schema.specs.Names.{has_dot, joined}
use Rattle.avro_schema.specs.Places.{Definition, defined, definition_used}
use Rattle.avro_schema.specs.DefinedNames.{node_named, number_of, node_in, node_of, AreDefined}
use Rattle.avro_schema.specs.Building.{Before, nodes_of, opened, HasMet}
use Rattle.avro_schema.proofs.NameLemmas.{IsDefinedToo, defined_more, none_named, named_too}
use Rattle.avro_schema.proofs.Types.{found-at, opened-more}
use Rattle.avro_schema.specs.declared.limits.TheConstants.{SCHEMA_NODES_LIMIT}

pub same_result : {T E : Type 0} (r : Result T E) (m n : T) → m ≡ n → IfOk r (λ x. x ≡ m) → IfOk r (λ x. x ≡ n)
same_result r m n e h = subst (λ y. IfOk r (λ x. x ≡ y)) e h

pub Before-more : (m n : ℕ) (ds : List Definition) → m ≤ n → Before m ds → Before n ds
Before-more m n [] le b = tt
Before-more m n (d ∷ ds) le b = (omega arith, Before-more m n ds le b.1)

Before-push : (n : ℕ) (ds : List Definition) (d : Definition) → Before n ds → d.node < n → Before n (ds ++ d ∷ [])
Before-push n [] d b lt = (lt, tt)
Before-push n (x ∷ ds) d b lt = (b.0, Before-push n ds d b.1 lt)

-- one more node is open
pub met_more : (a b : Builder) (ds : List Definition) (x : Node) → nodes_of b ≡ nodes_of a ++ x ∷ []
    → b.names ≡ a.names → opened a < SCHEMA_NODES_LIMIT → HasMet a ds → HasMet b ds
met_more a b ds x opens keeps lt met =
    let more : opened b ≡ opened a + 1 = opened-more x a b opens in
    record {
      names = subst (λ m. AreDefined m ds) (sym keeps) met.names;
      apart = met.apart;
      before = Before-more (opened a) (opened b) ds (omega arith) met.before;
      small = omega arith;
    }

-- ---- no two names are of one node

first_before : (n : ℕ) (d : Definition) (o : Option Definition) (i : ℕ) (t : Bool) → d.node < n
    → (option_map (λ x. x.node) o ≡ Some i → i < n) → option_map (λ x. x.node) (cond t (Some d) o) ≡ Some i → i < n
first_before n d o i true lt later e = let is : d.node ≡ i = cc in omega (arith, lt)
first_before n d o i false lt later e = later e

node_before : (n : ℕ) (ds : List Definition) (s : List ℕ) (i : ℕ) → Before n ds → node_named ds s ≡ Some i → i < n
node_before n [] s i b e = cc
node_before n (d ∷ ds) s i b e = first_before n d _ i (bytes_eq d.name s) b.0 (node_before n ds s i b.1) e

named_by : (ds : List Definition) (bs : List ℕ) (n : ℕ) (s : List ℕ) (i : ℕ) (t : Bool) → bytes_eq bs s ≡ t → node_named ds bs ≡ None
    → node_named (ds ++ record { name = bs; node = n } ∷ []) s ≡ Some i → ((bs ≡ s) × (i ≡ n)) ⊎ (node_named ds s ≡ Some i)
named_by ds bs n s i true e new h =
    let is : Some n ≡ Some i = named_too ds bs n s true e new ∙ h in
    let same : i ≡ n = cc in
    inl ((bytes_eq-Decides bs s).0 e, same)
named_by ds bs n s i false e new h = inr (named_too ds bs n s false e new ∙ h)

abbrev Apart : List Definition → Type 0
Apart ds = (s t : List ℕ) (i : ℕ) → node_named ds s ≡ Some i → node_named ds t ≡ Some i → s ≡ t

apart_too : (ds : List Definition) (bs : List ℕ) (n : ℕ) → Before n ds
    → node_named ds bs ≡ None → Apart ds → Apart (ds ++ record { name = bs; node = n } ∷ [])
apart_too ds bs n before new apart = λ s t i h k.
    elim (named_by ds bs n s i (bytes_eq bs s) refl new h) [
      | inl p ↦ elim (named_by ds bs n t i (bytes_eq bs t) refl new k) [
        | inl q ↦ sym p.0 ∙ q.0
        | inr q ↦ absurd (omega (arith, node_before n ds t i before q, p.1))
      ]
      | inr p ↦ elim (named_by ds bs n t i (bytes_eq bs t) refl new k) [
        | inl q ↦ absurd (omega (arith, node_before n ds s i before p, q.1))
        | inr q ↦ apart s t i p q
      ]
    ]

pub met_named : (a b c : Builder) (ds : List Definition) (x : Node) (ns : List ℕ) (k : ℕ) (last : List ℕ)
    → nodes_of b ≡ nodes_of a ++ x ∷ [] → HasMet a ds → HasMet b ds → c.nodes ≡ b.nodes → IsDefinedToo b.names c.names ns k last (opened a)
    → HasMet c (ds ++ record { name = joined ns last; node = opened a } ∷ [])
met_named a b c ds x ns k last opens was met stays too =
    let more : opened b ≡ opened a + 1 = opened-more x a b opens in
    let same : opened c ≡ opened b = ap (λ v. length v.items) stays in
    record {
      names = defined_more b.names c.names ns k last (opened a) too ds met.names;
      apart =
          apart_too ds (joined ns last) (opened a) was.before (none_named b.names c.names ns k last (opened a) too ds met.names) met.apart;
      before = Before-push (opened c) ds _ (Before-more (opened b) (opened c) ds (omega arith) met.before) (omega arith);
      small = omega (arith, met.small);
    }

-- a namespace has a number, which had none
pub met_numbered : (a b : Builder) (ds : List Definition) → b.nodes ≡ a.nodes
    → (AreDefined a.names ds → AreDefined b.names ds) → HasMet a ds → HasMet b ds
met_numbered a b ds stays names met =
    let same : opened b ≡ opened a = ap (λ v. length v.items) stays in
    record {
      names = names met.names;
      apart = met.apart;
      before = subst (λ n. Before n ds) (sym same) met.before;
      small = subst (λ n. n ≤ SCHEMA_NODES_LIMIT) (sym same) met.small;
    }

some_node : (o : Option Definition) → is_some (option_map (λ d. d.node) o) ≡ is_some o
some_node None = refl
some_node (Some d) = refl

none_not : (o : Option Definition) → is_some o ≡ true → is_none o ≡ false
none_not None e = cc
none_not (Some d) e = refl

-- what is found of a last part in a namespace whose number is known
pub node_is : (r : Builder) (ds : List Definition) (ns : List ℕ) (k : ℕ) (last : List ℕ) → HasMet r ds → number_of r.names ns ≡ Some k
    → has_dot last ≡ false → node_in r.names k last ≡ option_map (λ d. d.node) (defined ds (opened r) (joined ns last))
node_is r ds ns k last met number dotless =
    sym (ap (option_and_then (λ i. node_in r.names i last)) number) ∙ met.names.found ns last dotless ∙ found-at r ds (joined ns last) met

pub is_defined : (r : Builder) (ds : List Definition) (ns : List ℕ) (k : ℕ) (last : List ℕ) (b : Bool)
    → HasMet r ds → number_of r.names ns ≡ Some k → has_dot last ≡ false
    → is_some (node_in r.names k last) ≡ b → is_some (defined ds (opened r) (joined ns last)) ≡ b
is_defined r ds ns k last b met number dotless e =
    sym (some_node (defined ds (opened r) (joined ns last))) ∙ ap is_some (sym (node_is r ds ns k last met number dotless)) ∙ e

pub not_new : (r : Builder) (ds : List Definition) (ns : List ℕ) (k : ℕ) (last : List ℕ) → HasMet r ds → number_of r.names ns ≡ Some k
    → has_dot last ≡ false → is_some (node_in r.names k last) ≡ true → is_none (defined ds (opened r) (joined ns last)) ≡ false
not_new r ds ns k last met number dotless e = none_not _ (is_defined r ds ns k last true met number dotless e)

no_definition : (o : Option Definition) → is_some o ≡ false → o ≡ None
no_definition None e = refl
no_definition (Some d) e = cc

pub is_undefined : (r : Builder) (ds : List Definition) (ns : List ℕ) (k : ℕ) (last : List ℕ) → HasMet r ds → number_of r.names ns ≡ Some k
    → has_dot last ≡ false → is_some (node_in r.names k last) ≡ false → defined ds (opened r) (joined ns last) ≡ None
is_undefined r ds ns k last met number dotless e = no_definition _ (is_defined r ds ns k last false met number dotless e)

-- ---- uses

-- a text with a dot is a full name
pub use_dotted : (r : Builder) (ds : List Definition) (ns s : List ℕ) → HasMet r ds → has_dot s ≡ true
    → node_named ds s ≡ option_map (λ d. d.node) (definition_used ds (opened r) ns s)
use_dotted r ds ns s met dot =
    found-at r ds s met
    ∙ ap
    (λ b.
    option_map (λ d. d.node)
    (cond b (defined ds (opened r) s) (option_or (defined ds (opened r) (joined ns s)) (defined ds (opened r) s))))
    (sym dot)

map_or : (o p : Option Definition)
    → option_or (option_map (λ d. d.node) o) (option_map (λ d. d.node) p) ≡ option_map (λ d. d.node) (option_or o p)
map_or None p = refl
map_or (Some d) p = refl

-- another is looked for in the namespace that applies, and then in the null namespace
pub use_plain : (r : Builder) (ds : List Definition) (ns : List ℕ) (k : ℕ) (s : List ℕ)
    → HasMet r ds → number_of r.names ns ≡ Some k → has_dot s ≡ false
    → option_or (node_in r.names k s) (node_of r.names [] s) ≡ option_map (λ d. d.node) (definition_used ds (opened r) ns s)
use_plain r ds ns k s met number dotless =
    let n = opened r in
    ap (λ o. option_or o (node_of r.names [] s)) (node_is r ds ns k s met number dotless)
    ∙ ap (λ o. option_or (option_map (λ d. d.node) (defined ds n (joined ns s))) o) (met.names.found [] s dotless ∙ found-at r ds s met)
    ∙ map_or (defined ds n (joined ns s)) (defined ds n s)
    ∙ ap (λ b. option_map (λ d. d.node) (cond b (defined ds n s) (option_or (defined ds n (joined ns s)) (defined ds n s)))) (sym dotless)

pub no_value : {A : Type 0} (o : Option A) → is_some o ≡ false → o ≡ None
no_value None e = refl
no_value (Some x) e = cc

-- the exit of a `?` that passes an error on
pub exit_err : {T E : Type 0} (r : Result T E) (Q : E → Type 0) (x : E) → IsErrAnd r (λ y. y ≡ x) → Q x → IfErr r Q
exit_err r Q x h q = let p = err_from_is_err_and r h in rw (p.1, p.2) q
