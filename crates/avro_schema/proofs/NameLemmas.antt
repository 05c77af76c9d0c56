-- The names that were defined, found by the number of their namespace, beside the definitions.
use Rattle.std.proofs.Common.{◌≡◌, ℕ, zero, suc, ◌+◌, List, [], ◌∷◌, ◌++◌, length, Bool, true, false, ◌&&◌, ◌||◌, ◌==◌, cond, Option, Some}
use Rattle.std.proofs.Common.{None, option_map, option_and_then, find, bytes_eq, refl, sym, ◌∙◌, ap, arith, String, slice_get, set, inl}
use Rattle.std.proofs.Common.{inr, ◌⊎◌}
use Rattle.std.specs.Option.{option_or}
use Rattle.std.specs.BTreeMap.{BTreeMap, get_by_text}
use Rattle.std.proofs.lemmas.Bool.{false_from_ne_true, false≢true}
use Rattle.std.proofs.lemmas.Bool.Decides.{nat_tests}
use Rattle.std.proofs.lemmas.Option.{slice_get_past}
use Rattle.std.proofs.lemmas.List.Folds.{find-append}
use Rattle.std.proofs.lemmas.Slice.Eq.{bytes_eq-Decides}
use Rattle.avro_schema.specs.declared.defined_names.DefinedNames.{DefinedNames}
use Rattle.avro_schema.specs.Names.{is_dot, has_dot, is_full_name, full_text, joined}
use Rattle.avro_schema.specs.Places.{Definition}
use Rattle.avro_schema.specs.DefinedNames.{node_named, number_of, node_in, node_of, AreDefined, KeepsNumbers}
use Rattle.avro_schema.proofs.TextLemmas.{either_way}

or_true : (b : Bool) → b || true ≡ true
or_true true = refl
or_true false = refl

-- ---- the parts of a full name

pub has_dot-middle : (xs t : List ℕ) → has_dot (xs ++ 46 ∷ t) ≡ true
has_dot-middle [] t = refl
has_dot-middle (x ∷ xs) t = ap (λ b. is_dot x || b) (has_dot-middle xs t) ∙ or_true (is_dot x)

no_dot : (s xs t : List ℕ) → has_dot s ≡ false → s ≡ xs ++ 46 ∷ t → ⊥
no_dot s xs t none e = false≢true (sym none ∙ ap has_dot e ∙ has_dot-middle xs t)

-- a text is parted at its last dot in one way
parted_once : (xs ys s t : List ℕ) → has_dot s ≡ false → has_dot t ≡ false → xs ++ 46 ∷ s ≡ ys ++ 46 ∷ t → (xs ≡ ys) × (s ≡ t)
parted_once [] [] s t p q e = let same : s ≡ t = cc in (refl, same)
parted_once [] (y ∷ ys) s t p q e = let same : s ≡ ys ++ 46 ∷ t = cc in absurd (no_dot s ys t p same)
parted_once (x ∷ xs) [] s t p q e = let same : t ≡ xs ++ 46 ∷ s = cc in absurd (no_dot t xs s q same)
parted_once (x ∷ xs) (y ∷ ys) s t p q e =
    let first : x ≡ y = cc in
    let rest : xs ++ 46 ∷ s ≡ ys ++ 46 ∷ t = cc in
    let parts = parted_once xs ys s t p q rest in
    (ap (λ l. x ∷ l) parts.0 ∙ ap (λ z. z ∷ ys) first, parts.1)

not_empty : (n : ℕ) → (suc n == 0) ≡ false
not_empty n = grind (arith, nat_tests)

pub joined-dot : (x : ℕ) (ns s : List ℕ) → joined (x ∷ ns) s ≡ (x ∷ ns) ++ 46 ∷ s
joined-dot x ns s = ap (λ b. cond b s ((x ∷ ns) ++ 46 ∷ s)) (not_empty (length ns))

-- namespaces and last parts that differ give full names that differ
pub joined_once : (ns ms s t : List ℕ) → has_dot s ≡ false → has_dot t ≡ false → joined ns s ≡ joined ms t → (ns ≡ ms) × (s ≡ t)
joined_once [] [] s t p q e = (refl, e)
joined_once [] (y ∷ ms) s t p q e = absurd (no_dot s (y ∷ ms) t p (e ∙ joined-dot y ms t))
joined_once (x ∷ ns) [] s t p q e = absurd (no_dot t (x ∷ ns) s q (sym e ∙ joined-dot x ns s))
joined_once (x ∷ ns) (y ∷ ms) s t p q e = parted_once (x ∷ ns) (y ∷ ms) s t p q (sym (joined-dot x ns s) ∙ e ∙ joined-dot y ms t)

-- a full name as a text is its parts joined
pub whole_dotted : (ns s front back : List ℕ) → s ≡ front ++ 46 ∷ back → is_full_name s ≡ true → full_text ns s ≡ joined front back
whole_dotted ns s [] back is full = let no : is_full_name (46 ∷ back) ≡ true = ap is_full_name (sym is) ∙ full in absurd (false≢true no)
whole_dotted ns s (x ∷ front) back is full =
    ap (full_text ns) is
    ∙ ap (λ b. cond b ((x ∷ front) ++ 46 ∷ back) (joined ns ((x ∷ front) ++ 46 ∷ back))) (has_dot-middle (x ∷ front) back)
    ∙ sym (joined-dot x front back)

pub whole_plain : (ns s : List ℕ) → has_dot s ≡ false → full_text ns s ≡ joined ns s
whole_plain ns s e = ap (λ b. cond b s (joined ns s)) e

not_fronted : (ns s t : List ℕ) → has_dot s ≡ false → has_dot t ≡ false → joined ns s ≡ 46 ∷ t → ⊥
not_fronted [] s t p q e = no_dot s [] t p e
not_fronted (x ∷ ns) s t p q e =
    let whole : x ∷ (ns ++ 46 ∷ s) ≡ 46 ∷ t = sym (joined-dot x ns s) ∙ e in
    let rest : t ≡ ns ++ 46 ∷ s = cc in
    no_dot t ns s q rest

-- ---- one more definition

or_none : {A : Type 0} (o : Option A) → option_or o None ≡ o
or_none None = refl
or_none (Some x) = refl

pub no_node : (o : Option Definition) → option_map (λ d. d.node) o ≡ None → o ≡ None
no_node None e = refl
no_node (Some d) e = cc

-- a name is added that was not there
pub named_too : (ds : List Definition) (bs : List ℕ) (i : ℕ) (s : List ℕ) (b : Bool) → bytes_eq bs s ≡ b
    → node_named ds bs ≡ None → cond b (Some i) (node_named ds s) ≡ node_named (ds ++ record { name = bs; node = i } ∷ []) s
named_too ds bs i s true e new =
    let same : bs ≡ s = (bytes_eq-Decides bs s).0 e in
    let none : find (λ d. bytes_eq d.name s) ds ≡ None = no_node _ (ap (λ t. node_named ds t) (sym same) ∙ new) in
    sym (
    ap (option_map (λ d. d.node))
    (find-append (λ d. bytes_eq d.name s) ds (record { name = bs; node = i } ∷ [])
    ∙ ap (λ o. option_or o (cond (bytes_eq bs s) (Some (record { name = bs; node = i })) None)) none
    ∙ ap (λ b. cond b (Some (record { name = bs; node = i })) None) e))
named_too ds bs i s false e new =
    sym (
    ap (option_map (λ d. d.node))
    (find-append (λ d. bytes_eq d.name s) ds (record { name = bs; node = i } ∷ [])
    ∙ ap (λ b. option_or (find (λ d. bytes_eq d.name s) ds) (cond b (Some (record { name = bs; node = i })) None)) e
    ∙ or_none _))

unlike : (s t : List ℕ) → (s ≡ t → ⊥) → bytes_eq s t ≡ false
unlike s t apart = false_from_ne_true (bytes_eq s t) (λ e. apart ((bytes_eq-Decides s t).0 e))

-- ---- one more namespace, which has no names yet

at_text : {Y : Type 0} → List ℕ → Option (BTreeMap (String Y) ℕ) → Option ℕ
at_text s o = option_and_then (λ m. get_by_text m s) o

pub none_past : {Y : Type 0} (ms : List (BTreeMap (String Y) ℕ)) (m : BTreeMap (String Y) ℕ) (i : ℕ) (s : List ℕ) → get_by_text m s ≡ None
    → option_and_then (λ m. get_by_text m s) (slice_get (ms ++ m ∷ []) i) ≡ option_and_then (λ m. get_by_text m s) (slice_get ms i)
none_past [] m zero s e = e
none_past [] m (suc i) s e = refl
none_past (x ∷ ms) m zero s e = refl
none_past (x ∷ ms) m (suc i) s e = none_past ms m i s e

same_nodes : (f g : ℕ → Option ℕ) (o : Option ℕ) → ((i : ℕ) → f i ≡ g i) → option_and_then f o ≡ option_and_then g o
same_nodes f g None h = refl
same_nodes f g (Some i) h = h i

-- number k is given to the namespace ns, which had none
pub record IsNumberedToo (r n : DefinedNames) (ns : List ℕ) : Type 0 where
  pub new : number_of r ns ≡ None
  pub numbers : (ms : List ℕ) → number_of n ms ≡ cond (bytes_eq ns ms) (Some (length r.nodes.items)) (number_of r ms)
  pub count : length n.nodes.items ≡ length r.nodes.items + 1
  pub nodes : (i : ℕ) (s : List ℕ) → node_in n i s ≡ node_in r i s

module _ (r n : DefinedNames) (ns : List ℕ) (too : IsNumberedToo r n ns) where
  at_other : (ms : List ℕ) (i : ℕ) (b : Bool) → bytes_eq ns ms ≡ b → number_of r ms ≡ Some i → number_of n ms ≡ Some i
  at_other ms i true e h =
      let same : ns ≡ ms = (bytes_eq-Decides ns ms).0 e in let no : None ≡ Some i = sym too.new ∙ ap (number_of r) same ∙ h in cc
  at_other ms i false e h = too.numbers ms ∙ ap (λ b. cond b (Some (length r.nodes.items)) (number_of r ms)) e ∙ h

  pub kept_numbers : KeepsNumbers r n
  kept_numbers ms i = at_other ms i (bytes_eq ns ms) refl

  -- which namespace a number stands for
  owner : (ms : List ℕ) (i : ℕ) (b : Bool) → bytes_eq ns ms ≡ b → number_of n ms ≡ Some i
      → ((ns ≡ ms) × (i ≡ length r.nodes.items)) ⊎ (number_of r ms ≡ Some i)
  owner ms i true e h =
      let is : Some (length r.nodes.items) ≡ Some i =
      sym (too.numbers ms ∙ ap (λ b. cond b (Some (length r.nodes.items)) (number_of r ms)) e) ∙ h in
      let same : i ≡ length r.nodes.items = cc in
      inl ((bytes_eq-Decides ns ms).0 e, same)
  owner ms i false e h = inr (sym (too.numbers ms ∙ ap (λ b. cond b (Some (length r.nodes.items)) (number_of r ms)) e) ∙ h)

  pub defined_too : (ds : List Definition) → AreDefined r ds → AreDefined n ds
  defined_too ds are = record {
    within = λ ms i h. elim (owner ms i (bytes_eq ns ms) refl h) [
      | inl p ↦ omega (arith, p.1, too.count)
      | inr q ↦ omega (arith, are.within ms i q, too.count)
    ];
    distinct = λ ms ps i h k. elim (owner ms i (bytes_eq ns ms) refl h) [
      | inl p ↦ elim (owner ps i (bytes_eq ns ps) refl k) [
        | inl q ↦ sym p.0 ∙ q.0
        | inr q ↦ absurd (omega (arith, are.within ps i q, p.1))
      ]
      | inr p ↦ elim (owner ps i (bytes_eq ns ps) refl k) [
        | inl q ↦ absurd (omega (arith, are.within ms i p, q.1))
        | inr q ↦ are.distinct ms ps i p q
      ]
    ];
    found = λ ms s dotless. at_node ms s (bytes_eq ns ms) refl ∙ are.found ms s dotless;
    fronted = are.fronted;
  }
    where
      at_node : (ms s : List ℕ) (b : Bool) → bytes_eq ns ms ≡ b → node_of n ms s ≡ node_of r ms s
      at_node ms s true e =
          let same : ns ≡ ms = (bytes_eq-Decides ns ms).0 e in
          ap (option_and_then (λ i. node_in n i s)) (too.numbers ms ∙ ap (λ b. cond b (Some (length r.nodes.items)) (number_of r ms)) e)
          ∙ too.nodes (length r.nodes.items) s
          ∙ ap (option_and_then (λ m. get_by_text m s)) (slice_get_past r.nodes.items (length r.nodes.items) (omega arith))
          ∙ ap (option_and_then (λ i. node_in r i s)) (sym (ap (number_of r) (sym same) ∙ too.new))
      at_node ms s false e =
          ap (option_and_then (λ i. node_in n i s)) (too.numbers ms ∙ ap (λ b. cond b (Some (length r.nodes.items)) (number_of r ms)) e)
          ∙ same_nodes (λ i. node_in n i s) (λ i. node_in r i s) (number_of r ms) (λ i. too.nodes i s)

-- ---- one more name in the namespace ns of number k

pub record IsDefinedToo (r n : DefinedNames) (ns : List ℕ) (k : ℕ) (last : List ℕ) (node : ℕ) : Type 0 where
  pub number : number_of r ns ≡ Some k
  pub dotless : has_dot last ≡ false
  pub new : node_in r k last ≡ None
  pub numbers : n.numbers ≡ r.numbers
  pub count : length n.nodes.items ≡ length r.nodes.items
  pub put : (i : ℕ) (s : List ℕ) → node_in n i s ≡ cond ((i == k) && bytes_eq last s) (Some node) (node_in r i s)

both_true : (a b : Bool) → a ≡ true → b ≡ true → a && b ≡ true
both_true a b p q = rw (p, q)

both_parts : (a b : Bool) → a && b ≡ true → (a ≡ true) × (b ≡ true)
both_parts true b h = (refl, h)
both_parts false b h = cc

pub is_equal : (i k : ℕ) → i ≡ k → (i == k) ≡ true
is_equal i k e = grind (arith, nat_tests)

pub are_equal : (i k : ℕ) → (i == k) ≡ true → i ≡ k
are_equal i k e = grind (arith, nat_tests)

module _ (r n : DefinedNames) (ns : List ℕ) (k : ℕ) (last : List ℕ) (node : ℕ)
    (too : IsDefinedToo r n ns k last node) (ds : List Definition) (are : AreDefined r ds) where
  same_number : (ms : List ℕ) → number_of n ms ≡ number_of r ms
  same_number ms = ap (λ m. get_by_text m ms) too.numbers

  pub none_named : node_named ds (joined ns last) ≡ None
  none_named = sym (are.found ns last too.dotless) ∙ ap (option_and_then (λ i. node_in r i last)) too.number ∙ too.new

  same_test : (ms s : List ℕ) (j : ℕ) → has_dot s ≡ false → number_of r ms ≡ Some j
      → (j == k) && bytes_eq last s ≡ bytes_eq (joined ns last) (joined ms s)
  same_test ms s j dotless is =
      either_way _ _ (λ h.
      let parts = both_parts _ _ h in
      let number : j ≡ k = are_equal j k parts.0 in
      let space : ns ≡ ms = are.distinct ns ms k too.number (is ∙ ap Some number) in
      let name : last ≡ s = (bytes_eq-Decides last s).0 parts.1 in
      (bytes_eq-Decides _ _).1 (ap (λ l. joined l last) space ∙ ap (joined ms) name)) (λ h.
      let parts = joined_once ns ms last s too.dotless dotless ((bytes_eq-Decides _ _).0 h) in
      let both : Some j ≡ Some k = sym is ∙ ap (number_of r) (sym parts.0) ∙ too.number in
      let number : j ≡ k = cc in
      both_true _ _ (is_equal j k number) ((bytes_eq-Decides last s).1 parts.1))

  at_node : (ms s : List ℕ) (o : Option ℕ) → has_dot s ≡ false → number_of r ms ≡ o
      → node_of n ms s ≡ node_named (ds ++ record { name = joined ns last; node = node } ∷ []) (joined ms s)
  at_node ms s None dotless is =
      let other : bytes_eq (joined ns last) (joined ms s) ≡ false = unlike _ _ (λ e.
      let parts = joined_once ns ms last s too.dotless dotless e in
      let no : None ≡ Some k = sym is ∙ ap (number_of r) (sym parts.0) ∙ too.number in
      cc) in
      ap (option_and_then (λ i. node_in n i s)) (same_number ms ∙ is)
      ∙ ap (option_and_then (λ i. node_in r i s)) (sym is)
      ∙ are.found ms s dotless
      ∙ named_too ds (joined ns last) node (joined ms s) false other none_named
  at_node ms s (Some j) dotless is =
      ap (option_and_then (λ i. node_in n i s)) (same_number ms ∙ is) ∙ too.put j s
      ∙ ap (λ o. cond ((j == k) && bytes_eq last s) (Some node) o)
      (ap (option_and_then (λ i. node_in r i s)) (sym is) ∙ are.found ms s dotless)
      ∙ ap (λ b. cond b (Some node) (node_named ds (joined ms s))) (same_test ms s j dotless is)
      ∙ named_too ds (joined ns last) node (joined ms s) _ refl none_named

  pub defined_more : AreDefined n (ds ++ record { name = joined ns last; node = node } ∷ [])
  defined_more = record {
    within = λ ms i h. omega (arith, are.within ms i (sym (same_number ms) ∙ h), too.count);
    distinct = λ ms ps i h g. are.distinct ms ps i (sym (same_number ms) ∙ h) (sym (same_number ps) ∙ g);
    found = λ ms s dotless. at_node ms s (number_of r ms) dotless refl;
    fronted = λ s dotless.
        sym (named_too ds (joined ns last) node (46 ∷ s) false (unlike _ _ (not_fronted ns last s too.dotless dotless)) none_named)
        ∙ are.fronted s dotless;
  }

-- ---- a change of one map of many

not_zero : (n : ℕ) → (0 == suc n) ≡ false
not_zero n = grind (arith, nat_tests)

both_suc : (i k : ℕ) → (suc i == suc k) ≡ (i == k)
both_suc i k =
    either_way _ _ (λ h. let e : suc i ≡ suc k = are_equal (suc i) (suc k) h in is_equal i k (omega arith))
    (λ h. let e : i ≡ k = are_equal i k h in is_equal (suc i) (suc k) (omega arith))

pub put_at : {Y : Type 0} (ms : List (BTreeMap (String Y) ℕ)) (k : ℕ) (old new : BTreeMap (String Y) ℕ) (last : List ℕ) (node : ℕ)
    → slice_get ms k ≡ Some old
    → ((s : List ℕ) → get_by_text new s ≡ cond (bytes_eq last s) (Some node) (get_by_text old s)) → (i : ℕ) (s : List ℕ)
    → option_and_then (λ m. get_by_text m s) (slice_get (set ms k new) i)
    ≡ cond ((i == k) && bytes_eq last s) (Some node) (option_and_then (λ m. get_by_text m s) (slice_get ms i))
put_at [] k old new last node at puts i s = absurd (none_some at)
  where
    none_some : {A : Type 0} {x : A} → None ≡ Some x → ⊥
    none_some e = cc
put_at (x ∷ ms) zero old new last node at puts zero s =
    let same : x ≡ old = cc in
    puts s ∙ ap (λ m. cond (bytes_eq last s) (Some node) (get_by_text m s)) (sym same)
put_at (x ∷ ms) zero old new last node at puts (suc i) s =
    sym (ap (λ b. cond (b && bytes_eq last s) (Some node) (option_and_then (λ m. get_by_text m s) (slice_get ms i))) (not_empty i))
put_at (x ∷ ms) (suc k) old new last node at puts zero s =
    sym (ap (λ b. cond (b && bytes_eq last s) (Some node) (get_by_text x s)) (not_zero k))
put_at (x ∷ ms) (suc k) old new last node at puts (suc i) s =
    put_at ms k old new last node at puts i s
    ∙ sym (ap (λ b. cond (b && bytes_eq last s) (Some node) (option_and_then (λ m. get_by_text m s) (slice_get ms i))) (both_suc i k))
