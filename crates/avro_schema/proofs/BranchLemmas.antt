-- The kinds of branches, where a name stands as the node that it names.
use Rattle.std.proofs.Common.{◌≡◌, ℕ, ◌<◌, List, [], ◌∷◌, ◌++◌, length, Bool, true, false, ◌&&◌, ◌||◌, not, cond, Option, Some, None}
use Rattle.std.proofs.Common.{is_some, is_none, option_map, find, bytes_eq, nat_lt, slice_get, refl, sym, ◌∙◌, ap, subst, arith}
use Rattle.std.specs.List.{list_any, cons_option}
use Rattle.std.specs.Option.{option_or, option_map_or}
use Rattle.std.proofs.lemmas.Bool.{lt-ltb, le-ltb, false≢true}
use Rattle.std.proofs.lemmas.List.{append-nil}
use Rattle.std.proofs.lemmas.List.Folds.{find-append}
use Rattle.std.proofs.lemmas.Slice.Eq.{bytes_eq-Decides}
use Rattle.avro_schema.specs.declared.error.SchemaError.TheVariants as fault
use Rattle.avro_schema.specs.declared.kinds.BranchKind.{BranchKind}
use Rattle.avro_schema.specs.declared.kinds.BranchKind.TheVariants as branch
use Rattle.avro_schema.specs.declared.node.Node.{Node}
use Rattle.avro_schema.specs.declared.node.Node.TheVariants as node
use Rattle.avro_schema.specs.declared.node.NodeId.{NodeId}
use Rattle.avro_schema.specs.declared.builder.Builder.{Builder}
use Rattle.avro_schema.specs.Kinds.{Kind}
use Rattle.avro_schema.specs.Kinds as kind
use Rattle.avro_schema.specs.Names.{has_dot, joined, full_text}
use Rattle.avro_schema.specs.Form.{Heading, Form, plain, by_name, record_of, enum_of, array_of, map_of, union_of, fixed_of, ill_formed}
use Rattle.avro_schema.specs.Places.{own_namespace, place, places, Definition, definitions, defined, defined_by, definition_used}
use Rattle.avro_schema.specs.Nodes.{node_at}
use Rattle.avro_schema.specs.Faults.{if_written, is_union_kind, same_kind, kind_named}
use Rattle.avro_schema.specs.Faults.{kind_in_union, written_faults}
use Rattle.avro_schema.specs.Faults.{heading_faults, faults_at}
use Rattle.avro_schema.specs.DefinedNames.{node_named}
use Rattle.avro_schema.specs.Branches.{same_branch, is_union_branch, may_stand, kind_of_node, branch_kind, StandsFor}
use Rattle.avro_schema.specs.Building.{Before, nodes_of, opened, HasMet, IsTypeRead}
use Rattle.avro_schema.proofs.TextLemmas.{either_way}
use Rattle.avro_schema.proofs.NameLemmas.{is_equal, are_equal}
use Rattle.avro_schema.proofs.Later.{From, defined-later, type-from}
use Rattle.avro_schema.proofs.Reading.{nil-unless, nil-left, nil-right}
use Rattle.avro_schema.proofs.Types.{and_parts, defined-all}
use Rattle.avro_schema.proofs.KindLemmas as lone

-- ---- kinds that are the same

abbrev Apart : List Definition → Type 0
Apart ds = (s t : List ℕ) (i : ℕ) → node_named ds s ≡ Some i → node_named ds t ≡ Some i → s ≡ t

same_kinds : (ds : List Definition) → Apart ds → (m n : BranchKind) (k l : Kind)
    → StandsFor ds m k → StandsFor ds n l → same_branch m n ≡ same_kind k l
same_kinds ds apart (branch.Primitive a) (branch.Primitive b) k l p q =
    sym (ap (λ x. same_kind x l) p ∙ ap (same_kind (kind.Primitive a)) q)
same_kinds ds apart (branch.Primitive a) branch.Array k l p q = sym (ap (λ x. same_kind x l) p ∙ ap (same_kind (kind.Primitive a)) q)
same_kinds ds apart (branch.Primitive a) branch.Map k l p q = sym (ap (λ x. same_kind x l) p ∙ ap (same_kind (kind.Primitive a)) q)
same_kinds ds apart (branch.Primitive a) (branch.Named j) k l p q = sym (ap (λ x. same_kind x l) p ∙ ap (same_kind (kind.Primitive a)) q.1)
same_kinds ds apart (branch.Primitive a) branch.Union k l p q = sym (ap (λ x. same_kind x l) p ∙ ap (same_kind (kind.Primitive a)) q)
same_kinds ds apart branch.Array (branch.Primitive b) k l p q = sym (ap (λ x. same_kind x l) p ∙ ap (same_kind kind.Array) q)
same_kinds ds apart branch.Array branch.Array k l p q = sym (ap (λ x. same_kind x l) p ∙ ap (same_kind kind.Array) q)
same_kinds ds apart branch.Array branch.Map k l p q = sym (ap (λ x. same_kind x l) p ∙ ap (same_kind kind.Array) q)
same_kinds ds apart branch.Array (branch.Named j) k l p q = sym (ap (λ x. same_kind x l) p ∙ ap (same_kind kind.Array) q.1)
same_kinds ds apart branch.Array branch.Union k l p q = sym (ap (λ x. same_kind x l) p ∙ ap (same_kind kind.Array) q)
same_kinds ds apart branch.Map (branch.Primitive b) k l p q = sym (ap (λ x. same_kind x l) p ∙ ap (same_kind kind.Map) q)
same_kinds ds apart branch.Map branch.Array k l p q = sym (ap (λ x. same_kind x l) p ∙ ap (same_kind kind.Map) q)
same_kinds ds apart branch.Map branch.Map k l p q = sym (ap (λ x. same_kind x l) p ∙ ap (same_kind kind.Map) q)
same_kinds ds apart branch.Map (branch.Named j) k l p q = sym (ap (λ x. same_kind x l) p ∙ ap (same_kind kind.Map) q.1)
same_kinds ds apart branch.Map branch.Union k l p q = sym (ap (λ x. same_kind x l) p ∙ ap (same_kind kind.Map) q)
same_kinds ds apart (branch.Named i) (branch.Primitive b) k l p q = sym (ap (λ x. same_kind x l) p.1 ∙ ap (same_kind (kind.Named p.0)) q)
same_kinds ds apart (branch.Named i) branch.Array k l p q = sym (ap (λ x. same_kind x l) p.1 ∙ ap (same_kind (kind.Named p.0)) q)
same_kinds ds apart (branch.Named i) branch.Map k l p q = sym (ap (λ x. same_kind x l) p.1 ∙ ap (same_kind (kind.Named p.0)) q)
same_kinds ds apart (branch.Named i) (branch.Named j) k l p q =
    either_way _ _ (λ h.
    let node : i ≡ j = are_equal i j h in
    let name : p.0 ≡ q.0 = apart p.0 q.0 j (p.2 ∙ ap Some node) q.2 in
    ap (λ x. same_kind x l) p.1 ∙ ap (same_kind (kind.Named p.0)) q.1 ∙ (bytes_eq-Decides p.0 q.0).1 name) (λ h.
    let names : bytes_eq p.0 q.0 ≡ true = sym (ap (λ x. same_kind x l) p.1 ∙ ap (same_kind (kind.Named p.0)) q.1) ∙ h in
    let both : Some i ≡ Some j = sym p.2 ∙ ap (node_named ds) ((bytes_eq-Decides p.0 q.0).0 names) ∙ q.2 in
    let node : i ≡ j = cc in
    is_equal i j node)
same_kinds ds apart (branch.Named i) branch.Union k l p q = sym (ap (λ x. same_kind x l) p.1 ∙ ap (same_kind (kind.Named p.0)) q)
same_kinds ds apart branch.Union (branch.Primitive b) k l p q = sym (ap (λ x. same_kind x l) p ∙ ap (same_kind kind.Union) q)
same_kinds ds apart branch.Union branch.Array k l p q = sym (ap (λ x. same_kind x l) p ∙ ap (same_kind kind.Union) q)
same_kinds ds apart branch.Union branch.Map k l p q = sym (ap (λ x. same_kind x l) p ∙ ap (same_kind kind.Union) q)
same_kinds ds apart branch.Union (branch.Named j) k l p q = sym (ap (λ x. same_kind x l) p ∙ ap (same_kind kind.Union) q.1)
same_kinds ds apart branch.Union branch.Union k l p q = sym (ap (λ x. same_kind x l) p ∙ ap (same_kind kind.Union) q)

same_unions : (ds : List Definition) (m : BranchKind) (k : Kind) → StandsFor ds m k → is_union_branch m ≡ is_union_kind k
same_unions ds (branch.Primitive a) k p = sym (ap is_union_kind p)
same_unions ds branch.Array k p = sym (ap is_union_kind p)
same_unions ds branch.Map k p = sym (ap is_union_kind p)
same_unions ds (branch.Named i) k p = sym (ap is_union_kind p.1)
same_unions ds branch.Union k p = sym (ap is_union_kind p)

-- the kinds of branches stand for the kinds ks, one by one
abbrev pub AreFor : List Definition → List BranchKind → List Kind → Type 0
AreFor ds [] [] = Unit {0}
AreFor ds (m ∷ ms) (k ∷ ks) = StandsFor ds m k × AreFor ds ms ks
AreFor ds _ _ = ⊥

same_any : (ds : List Definition) → Apart ds → (m : BranchKind) (k : Kind) (ms : List BranchKind) (ks : List Kind)
    → StandsFor ds m k → AreFor ds ms ks → list_any (same_branch m) ms ≡ list_any (same_kind k) ks
same_any ds apart m k [] [] p q = refl
same_any ds apart m k (n ∷ ms) (l ∷ ks) p q =
    ap (λ b. b || list_any (same_branch m) ms) (same_kinds ds apart m n k l p q.0)
    ∙ ap (λ b. same_kind k l || b) (same_any ds apart m k ms ks p q.1)
same_any ds apart m k [] (l ∷ ks) p q = absurd q
same_any ds apart m k (n ∷ ms) [] p q = absurd q

-- a branch may stand where its kind may
pub same_standing : (ds : List Definition) → Apart ds → (m : BranchKind) (k : Kind) (ms : List BranchKind) (ks : List Kind)
    → StandsFor ds m k → AreFor ds ms ks → may_stand m ms ≡ lone.may_stand k ks
same_standing ds apart m k ms ks p q =
    ap (λ b. not b && not (list_any (same_branch m) ms)) (same_unions ds m k p)
    ∙ ap (λ b. not (is_union_kind k) && not b) (same_any ds apart m k ms ks p q)

-- ---- more definitions, and more branches

or_first : (o p : Option Definition) (i : ℕ) → option_map (λ d. d.node) o ≡ Some i → option_map (λ d. d.node) (option_or o p) ≡ Some i
or_first None p i e = cc
or_first (Some d) p i e = e

named_still : (ds es : List Definition) (s : List ℕ) (i : ℕ) → node_named ds s ≡ Some i → node_named (ds ++ es) s ≡ Some i
named_still ds es s i e = ap (option_map (λ d. d.node)) (find-append (λ d. bytes_eq d.name s) ds es) ∙ or_first _ _ i e

stands_still : (ds es : List Definition) (m : BranchKind) (k : Kind) → StandsFor ds m k → StandsFor (ds ++ es) m k
stands_still ds es (branch.Primitive a) k p = p
stands_still ds es branch.Array k p = p
stands_still ds es branch.Map k p = p
stands_still ds es (branch.Named i) k p = (p.0, p.1, named_still ds es p.0 i p.2)
stands_still ds es branch.Union k p = p

pub are_still : (ds es : List Definition) (ms : List BranchKind) (ks : List Kind) → AreFor ds ms ks → AreFor (ds ++ es) ms ks
are_still ds es [] [] p = tt
are_still ds es (m ∷ ms) (k ∷ ks) p = (stands_still ds es m k p.0, are_still ds es ms ks p.1)
are_still ds es [] (k ∷ ks) p = absurd p
are_still ds es (m ∷ ms) [] p = absurd p

pub are_more : (ds : List Definition) (ms : List BranchKind) (ks : List Kind) (m : BranchKind) (k : Kind)
    → AreFor ds ms ks → StandsFor ds m k → AreFor ds (ms ++ m ∷ []) (ks ++ k ∷ [])
are_more ds [] [] m k p q = (q, tt)
are_more ds (n ∷ ms) (l ∷ ks) m k p q = (p.0, are_more ds ms ks m k p.1 q)
are_more ds [] (l ∷ ks) m k p q = absurd p
are_more ds (n ∷ ms) [] m k p q = absurd p

-- ---- the kind of a branch that was read

get-middle : {A : Type 0} (xs : List A) (y : A) (zs : List A) → slice_get (xs ++ y ∷ zs) (length xs) ≡ Some y
get-middle [] y zs = refl
get-middle (x ∷ xs) y zs = get-middle xs y zs

kind_new : (n : ℕ) (xs nodes zs : List Node) (i : NodeId) (o : Option Node) (x : Node) → n ≡ length xs
    → i ≡ record { index = n } → nodes ≡ xs ++ cons_option o zs → o ≡ Some x → branch_kind n nodes i ≡ kind_of_node n (Some x)
kind_new n xs nodes zs i o x first is all new =
    let at : slice_get nodes n ≡ Some x =
    ap (λ l. slice_get l n) (all ∙ ap (λ p. xs ++ cons_option p zs) new) ∙ ap (slice_get (xs ++ x ∷ zs)) first ∙ get-middle xs x zs in
    ap (branch_kind n nodes) is
    ∙ ap (λ b. cond b (branch.Named n) (kind_of_node n (slice_get nodes n))) (le-ltb n n (omega arith))
    ∙ ap (kind_of_node n) at

passes_first : {X : Type 0} (t : X → Bool) (y x : X) (b : Bool) (o : Option X)
    → t y ≡ b → (o ≡ Some x → t x ≡ true) → cond b (Some y) o ≡ Some x → t x ≡ true
passes_first t y x true o h later k = let same : y ≡ x = cc in ap t (sym same) ∙ h
passes_first t y x false o h later k = later k

find-passes : {X : Type 0} (t : X → Bool) (xs : List X) (x : X) → find t xs ≡ Some x → t x ≡ true
find-passes t [] x e = cc
find-passes t (y ∷ xs) x e = passes_first t y x (t y) (find t xs) refl (find-passes t xs x) e

is_less : (m n : ℕ) → nat_lt m n ≡ true → m < n
is_less m n h = grind arith

-- what is found as a definition is its own name's node
found_definition : (ds : List Definition) (n : ℕ) (t : List ℕ) (d : Definition) → Before n ds
    → defined ds n t ≡ Some d → (d.node < n) × (node_named ds d.name ≡ Some d.node)
found_definition ds n t d before e =
    let parts = and_parts (nat_lt d.node n) (bytes_eq d.name t) (find-passes (λ x. nat_lt x.node n && bytes_eq x.name t) ds d e) in
    let name : d.name ≡ t = (bytes_eq-Decides d.name t).0 parts.1 in
    (is_less d.node n parts.0, ap (node_named ds) name ∙ ap (option_map (λ x. x.node)) (sym (defined-all ds n t before) ∙ e))

either_found : (ds : List Definition) (n : ℕ) (t u : List ℕ) (d : Definition) (o : Option Definition) → Before n ds
    → defined ds n t ≡ o → option_or o (defined ds n u) ≡ Some d → (d.node < n) × (node_named ds d.name ≡ Some d.node)
either_found ds n t u d None before e h = found_definition ds n u d before h
either_found ds n t u d (Some x) before e h = found_definition ds n t d before (e ∙ h)

found_use : (ds : List Definition) (n : ℕ) (ns s : List ℕ) (d : Definition) (b : Bool) → Before n ds
    → has_dot s ≡ b → definition_used ds n ns s ≡ Some d → (d.node < n) × (node_named ds d.name ≡ Some d.node)
found_use ds n ns s d true before e h =
    found_definition ds n s d before (
    sym (ap (λ b. cond b (defined ds n s) (option_or (defined ds n (joined ns s)) (defined ds n s))) e) ∙ h)
found_use ds n ns s d false before e h =
    either_found ds n (joined ns s) s d _ before refl
    (sym (ap (λ b. cond b (defined ds n s) (option_or (defined ds n (joined ns s)) (defined ds n s))) e) ∙ h)

kind_used : (ds : List Definition) (n : ℕ) (ns s : List ℕ) (nodes : List Node) (i : NodeId) (o : Option Definition)
    → Before n ds → definition_used ds n ns s ≡ o → is_some o ≡ true
    → i ≡ record { index = option_map_or (λ d. d.node) o 0 } → StandsFor ds (branch_kind n nodes i) (kind_named o)
kind_used ds n ns s nodes i None before e some is = absurd (false≢true some)
kind_used ds n ns s nodes i (Some d) before e some is =
    let found = found_use ds n ns s d (has_dot s) before refl e in
    let kind : branch_kind n nodes i ≡ branch.Named d.node =
    ap (branch_kind n nodes) is
    ∙ ap (λ b. cond b (branch.Named d.node) (kind_of_node d.node (slice_get nodes d.node))) (lt-ltb d.node n found.0) in
    subst (λ m. StandsFor ds m (kind_named (Some d))) (sym kind) (d.name, refl, found.1)

no_definition : (o : Option Definition) → is_none o ≡ true → o ≡ None
no_definition None e = refl
no_definition (Some d) e = cc

-- a heading without fault gives the name of its node
kind_headed : (ds later : List Definition) (n : ℕ) (ns : List ℕ) (h : Heading) (o : Option (List ℕ)) → Before n ds → h.name ≡ o
    → From n (cons_option (defined_by ns n h) later) → heading_faults (ds ++ cons_option (defined_by ns n h) later) ns n h ≡ []
    → StandsFor (ds ++ cons_option (defined_by ns n h) later) (branch.Named n) (kind_named (defined_by ns n h))
kind_headed ds later n ns h None before e from good =
    let written = nil-unless (is_some h.name && is_some h.aliases) fault.BadForm (nil-left _ _ (nil-left (written_faults h) _ good)) in
    let some : is_some h.name ≡ true = (and_parts _ _ written).0 in
    absurd (false≢true (sym (ap is_some e) ∙ some))
kind_headed ds later n ns h (Some s) before e from good =
    let name = full_text (own_namespace ns h) s in
    let d : Definition = record { name = name; node = n } in
    let is : defined_by ns n h ≡ Some d = ap (option_map (λ t. record { name = full_text (own_namespace ns h) t; node = n })) e in
    let es = cons_option (defined_by ns n h) later in
    let new : if_written (λ t. is_none (defined (ds ++ es) n (full_text (own_namespace ns h) t))) h.name ≡ true =
    nil-unless _ fault.Redefined (nil-right (written_faults h) _ good) in
    let none : defined (ds ++ es) n name ≡ None =
    no_definition _ (sym (ap (if_written (λ t. is_none (defined (ds ++ es) n (full_text (own_namespace ns h) t)))) e) ∙ new) in
    let absent : find (λ x. bytes_eq x.name name) ds ≡ None =
    sym (defined-all ds n name before) ∙ sym (defined-later ds es n name from) ∙ none in
    let found : node_named (ds ++ es) name ≡ Some n =
    ap (option_map (λ x. x.node))
    (find-append (λ x. bytes_eq x.name name) ds es ∙ ap (λ p. option_or p (find (λ x. bytes_eq x.name name) es)) absent
    ∙ ap (λ p. find (λ x. bytes_eq x.name name) (cons_option p later)) is
    ∙ ap (λ b. cond b (Some d) (find (λ x. bytes_eq x.name name) later)) ((bytes_eq-Decides name name).1 refl))
    in
    (name, ap kind_named is, found)

-- a type with a node of its own
module _ (ds : List Definition) (ns : List ℕ) (a b : Builder) (i : NodeId) where
  with_node : (f : Form) (x : Node) (k : Kind) → IsTypeRead ds ns f a b i → i ≡ record { index = opened a }
      → node_at (ds ++ definitions (places ns (opened a) f)) (place ns (opened a) f) ≡ Some x
      → StandsFor (ds ++ definitions (places ns (opened a) f)) (kind_of_node (opened a) (Some x)) k
      → StandsFor (ds ++ definitions (places ns (opened a) f)) (branch_kind (opened a) (nodes_of b) i) k
  with_node f x k r is new stands =
      subst (λ m. StandsFor (ds ++ definitions (places ns (opened a) f)) m k)
      (sym (kind_new (opened a) (nodes_of a) (nodes_of b) _ i _ x refl is r.0.nodes new)) stands

  headed : (f : Form) (h : Heading) (x : Node) (later : List Definition) → HasMet a ds → IsTypeRead ds ns f a b i
      → i ≡ record { index = opened a } → node_at (ds ++ definitions (places ns (opened a) f)) (place ns (opened a) f) ≡ Some x
      → kind_of_node (opened a) (Some x) ≡ branch.Named (opened a)
      → definitions (places ns (opened a) f) ≡ cons_option (defined_by ns (opened a) h) later
      → heading_faults (ds ++ definitions (places ns (opened a) f)) ns (opened a) h ≡ []
      → StandsFor (ds ++ definitions (places ns (opened a) f))
      (branch_kind (opened a) (nodes_of b) i) (kind_named (defined_by ns (opened a) h))
  headed f h x later met r is new named all good =
      let n = opened a in
      let from : From n (cons_option (defined_by ns n h) later) = subst (From n) all (type-from ns n f) in
      let right : heading_faults (ds ++ cons_option (defined_by ns n h) later) ns n h ≡ [] =
      ap (λ l. heading_faults (ds ++ l) ns n h) (sym all) ∙ good in
      let stands : StandsFor (ds ++ definitions (places ns n f)) (branch.Named n) (kind_named (defined_by ns n h)) =
      subst (λ l. StandsFor (ds ++ l) (branch.Named n) (kind_named (defined_by ns n h)))
      (sym all) (kind_headed ds later n ns h h.name met.before refl from right) in
      with_node f x _ r is new (
      subst (λ m. StandsFor (ds ++ definitions (places ns n f)) m (kind_named (defined_by ns n h))) (sym named) stands)

  own_faults : (f : Form) → IsTypeRead ds ns f a b i → faults_at (ds ++ definitions (places ns (opened a) f)) (place ns (opened a) f) ≡ []
  own_faults f r = nil-left _ _ r.0.none_stands

  pub kind_read : (f : Form) → HasMet a ds → IsTypeRead ds ns f a b i
      → StandsFor (ds ++ definitions (places ns (opened a) f)) (branch_kind (opened a) (nodes_of b) i) (kind_in_union ds ns (opened a) f)
  kind_read (plain p) met r = with_node (plain p) (node.Primitive p) _ r r.1 refl refl
  kind_read (by_name s) met r =
      let n = opened a in
      let same : definition_used (ds ++ []) n ns s ≡ definition_used ds n ns s = ap (λ l. definition_used l n ns s) (append-nil ds) in
      let some : is_some (definition_used ds n ns s) ≡ true =
      sym (ap is_some same) ∙ nil-unless _ (fault.Unknown s) (own_faults (by_name s) r) in
      let is : i ≡ record { index = option_map_or (λ d. d.node) (definition_used ds n ns s) 0 } =
      r.1 ∙ ap (λ o. record { index = option_map_or (λ d. d.node) o 0 }) same in
      subst (λ l. StandsFor l (branch_kind n (nodes_of b) i) (kind_in_union ds ns n (by_name s))) (sym (append-nil ds))
      (kind_used ds n ns s (nodes_of b) i (definition_used ds n ns s) met.before refl some is)
  kind_read (record_of h fs) met r = headed (record_of h fs) h _ _ met r r.1 refl refl refl (nil-left _ _ (own_faults (record_of h fs) r))
  kind_read (enum_of h ss d) met r = headed (enum_of h ss d) h _ _ met r r.1 refl refl refl (nil-left _ _ (own_faults (enum_of h ss d) r))
  kind_read (fixed_of h d) met r = headed (fixed_of h d) h _ _ met r r.1 refl refl refl (nil-left _ _ (own_faults (fixed_of h d) r))
  kind_read (array_of f) met r = with_node (array_of f) _ _ r r.1 refl refl
  kind_read (map_of f) met r = with_node (map_of f) _ _ r r.1 refl refl
  kind_read (union_of fs) met r = with_node (union_of fs) _ _ r r.1 refl refl
  kind_read ill_formed met r = let no = own_faults ill_formed r in cc
