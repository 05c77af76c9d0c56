-- How the first branch that matches is found by an index.
use Rattle.std.proofs.Common.{◌≡◌, ◌≢◌, leb, ℕ, suc, ◌+◌, ◌<◌, ◌≤◌, List, [], ◌∷◌, ◌++◌, length, find, filter, take, get_or, add-one}
use Rattle.std.proofs.Common.{append-nil, is_some, is_none, All, Bool, true, false, ◌||◌, eqb, cond, Option, Some, None, slice_get, refl}
use Rattle.std.proofs.Common.{sym, ◌∙◌, ap, subst, arith}
use Rattle.std.specs.BTreeMap.{BTreeMap, get, is_at}
use Rattle.std.specs.Map.{lookup}
use Rattle.std.specs.Cmp.{IsTotalOrder}
use Rattle.std.specs.List.{enumerate_from, list_any}
use Rattle.std.specs.Option.{option_copied, option_map_or, option_or}
use Rattle.std.specs.Ordering.{is_eq, nat_cmp}
use Rattle.std.specs.declared.cmp.Ordering.{Ordering}
use Rattle.std.specs.declared.cmp.Ordering.TheVariants.{Less, Equal, Greater}
use Rattle.std.proofs.lemmas.Bool.{eqb-true, le-leb, lt-leb}
use Rattle.std.proofs.lemmas.List.Elements.{All-head, All-tail, All-push, filter-append}
use Rattle.std.proofs.lemmas.List.{length-take-le}
use Rattle.std.proofs.lemmas.List.Folds.{find-append, list_any-append}
use Rattle.std.proofs.Math.Seq.{take-suc}
use Rattle.avro_schema.specs.declared.node.FullName.{FullName}
use Rattle.avro_schema.specs.declared.node.NodeId.{NodeId}
use Rattle.avro_schema.specs.declared.node.Node.{Node}
use Rattle.avro_schema.specs.declared.node.Node.TheVariants as kind
use Rattle.avro_schema.specs.Sound.{IsSound}
use Rattle.avro_resolve.specs.contracts.labels.LabelOrd.TheImpl.Laws.{total-law}
use Rattle.avro_resolve.specs.declared.labels.Label.{Label}
use Rattle.avro_resolve.specs.declared.labels.Shape.{Shape}
use Rattle.avro_resolve.specs.declared.unions.Branches.{Branches}
use Rattle.avro_resolve.specs.Labels.{Head, has_alias, has_label, heading_of, is_label, is_labelled, is_unnamed, label_cmp}
use Rattle.avro_resolve.specs.Match.{both, matches, matches_within, nodes_match}
use Rattle.avro_resolve.specs.Unions.{branches_in, earlier, AreIndexes, IsIndex}
use Rattle.avro_resolve.proofs.Labelled.{by_labels, by_no_label, is_at_label}
use Rattle.avro_resolve.proofs.SeenLaws.{is_eq-nat_cmp}
use Rattle.avro_resolve.proofs.Sound.{below_length}

-- ---- the first of two

module _ (p q : NodeId → Bool) where
  pub same_finds : (n : ℕ) (bs : List NodeId) → All (λ b. p b ≡ q b) bs
      → find (λ b. p b.1) (enumerate_from n bs) ≡ find (λ b. q b.1) (enumerate_from n bs)
  same_finds n [] all = refl
  same_finds n (b ∷ bs) all =
      ap (λ t. cond t (Some (n, b)) (find (λ (c : ℕ × NodeId). p c.1) (enumerate_from (n + 1) bs))) (All-head (λ c. p c ≡ q c) b bs all)
      ∙ ap (cond (q b) (Some (n, b))) (same_finds (n + 1) bs (All-tail (λ c. p c ≡ q c) b bs all))

numbered_from : (q : NodeId → Bool) (n : ℕ) (bs : List NodeId) (y : ℕ × NodeId) → find (λ b. q b.1) (enumerate_from n bs) ≡ Some y → n ≤ y.0
numbered_from q n [] y e = cc
numbered_from q n (b ∷ bs) y e = go (q b) (numbered_from q (n + 1) bs y) e
  where
    go : (t : Bool) → (find (λ (c : ℕ × NodeId). q c.1) (enumerate_from (n + 1) bs) ≡ Some y → n + 1 ≤ y.0)
        → cond t (Some (n, b)) (find (λ (c : ℕ × NodeId). q c.1) (enumerate_from (n + 1) bs)) ≡ Some y → n ≤ y.0
    go true later e = let same : n ≡ y.0 = cc in omega (arith, same)
    go false later e = let above = later e in omega (arith, above)

cond_same : {A : Type 0} (t : Bool) (x : A) → cond t x x ≡ x
cond_same true x = refl
cond_same false x = refl

first_here : (x : ℕ × NodeId) (o : Option (ℕ × NodeId)) → ((y : ℕ × NodeId) → o ≡ Some y → x.0 ≤ y.0) → earlier (Some x) o ≡ Some x
first_here x None later = refl
first_here x (Some y) later = ap (λ t. cond t (Some x) (Some y)) (le-leb x.0 y.0 (later y refl))

second_here : (x : ℕ × NodeId) (o : Option (ℕ × NodeId)) → ((y : ℕ × NodeId) → o ≡ Some y → x.0 < y.0) → earlier o (Some x) ≡ Some x
second_here x None later = refl
second_here x (Some y) later = ap (λ t. cond t (Some y) (Some x)) (lt-leb y.0 x.0 (later y refl))

module _ (p q : NodeId → Bool) where
  -- the first of which one or the other holds
  pub first_of_either : (n : ℕ) (bs : List NodeId)
      → earlier (find (λ b. p b.1) (enumerate_from n bs)) (find (λ b. q b.1) (enumerate_from n bs))
      ≡ find (λ b. p b.1 || q b.1) (enumerate_from n bs)
  first_of_either n [] = refl
  first_of_either n (b ∷ bs) = go (p b) (q b) (first_of_either (n + 1) bs)
    where
      ps : Option (ℕ × NodeId)
      ps = find (λ (c : ℕ × NodeId). p c.1) (enumerate_from (n + 1) bs)

      qs : Option (ℕ × NodeId)
      qs = find (λ (c : ℕ × NodeId). q c.1) (enumerate_from (n + 1) bs)

      go : (s t : Bool) → earlier ps qs ≡ find (λ (c : ℕ × NodeId). p c.1 || q c.1) (enumerate_from (n + 1) bs)
          → earlier (cond s (Some (n, b)) ps) (cond t (Some (n, b)) qs)
          ≡ cond (s || t) (Some (n, b)) (find (λ (c : ℕ × NodeId). p c.1 || q c.1) (enumerate_from (n + 1) bs))
      go true true rest = cond_same (leb n n) (Some (n, b))
      go true false rest = first_here (n, b) qs (λ y e. let later = numbered_from q (n + 1) bs y e in omega (arith, later))
      go false true rest = second_here (n, b) ps (λ y e. let later = numbered_from p (n + 1) bs y e in omega (arith, later))
      go false false rest = rest

-- the first of those that pass, where no other can be found
pub find-filter : {A : Type 0} (p q : A → Bool) → ((x : A) → p x ≡ true → q x ≡ true) → (xs : List A) → find p (filter q xs) ≡ find p xs
find-filter p q passes [] = refl
find-filter p q passes (x ∷ xs) = go (find-filter p q passes xs) (q x) refl (p x) refl
  where
    go : find p (filter q xs) ≡ find p xs → (s : Bool) → q x ≡ s → (t : Bool) → p x ≡ t
        → find p (cond s (x ∷ filter q xs) (filter q xs)) ≡ cond (p x) (Some x) (find p xs)
    go rest true is t has = ap (cond (p x) (Some x)) rest
    go rest false is true has = let no : true ≡ false = sym (passes x has) ∙ is in cc
    go rest false is false has = rest ∙ sym (ap (λ u. cond u (Some x) (find p xs)) has)

-- ---- one branch more

pub enumerate_push : (n : ℕ) (bs : List NodeId) (b : NodeId)
    → enumerate_from n (bs ++ b ∷ []) ≡ enumerate_from n bs ++ (n + length bs, b) ∷ []
enumerate_push n [] b = let e : n ≡ n + 0 = omega arith in ap (λ m. (m, b) ∷ []) e
enumerate_push n (c ∷ bs) b =
    ap (λ xs. (n, c) ∷ xs)
    (enumerate_push (n + 1) bs b
    ∙ (let e : n + 1 + length bs ≡ n + suc (length bs) = omega arith in ap (λ m. enumerate_from (n + 1) bs ++ (m, b) ∷ []) e))

-- ---- maps

module _ {K X : Type 0} {R : K → K → Ordering} (order : IsTotalOrder R) where
  -- keys that compare alike have one value
  pub get_alike : (m : BTreeMap K X) (k q : K) → is_eq (R k q) ≡ true → get R m q ≡ get R m k
  get_alike m k q tie = go m.entries
    where
      is_tie : (o : Ordering) → is_eq o ≡ true → o ≡ Equal
      is_tie Less e = cc
      is_tie Equal e = refl
      is_tie Greater e = cc

      go : (es : List (K × X)) → lookup (is_at (R q)) es ≡ lookup (is_at (R k)) es
      go [] = refl
      go (e ∷ es) =
          ap (λ o. cond (is_eq o) (Some e.1) (lookup (is_at (R q)) es)) (sym (order.congr k q e.0 (is_tie (R k q) tie)))
          ∙ ap (cond (is_eq (R k e.0)) (Some e.1)) (go es)

pub or_none : {A : Type 0} (o : Option A) → option_or o None ≡ o
or_none None = refl
or_none (Some x) = refl

abbrev Labelled : Type 0
Labelled = BTreeMap Label (ℕ × NodeId)

module _ (b : ℕ × NodeId) where
  -- what a map has with one label more, unless it had that
  abbrev pub with_one : Bool → Option (ℕ × NodeId) → Option (ℕ × NodeId)
  with_one here was = option_or was (cond here (Some b) None)

  pub label_new : (m n : Labelled) (k : Label) → get label_cmp m k ≡ None
      → ((q : Label) → get label_cmp n q ≡ cond (is_at (label_cmp k) q) (Some b) (get label_cmp m q))
      → (q : Label) → get label_cmp n q ≡ with_one (is_at (label_cmp k) q) (get label_cmp m q)
  label_new m n k free updated q = updated q ∙ go (is_at (label_cmp k) q) refl
    where
      go : (t : Bool) → is_at (label_cmp k) q ≡ t → cond t (Some b) (get label_cmp m q) ≡ with_one t (get label_cmp m q)
      go true is = ap (with_one true) (sym (get_alike total-law m k q is ∙ free))
      go false is = sym (or_none (get label_cmp m q))

  pub label_old : (m : Labelled) (k : Label) → is_some (get label_cmp m k) ≡ true
      → (q : Label) → get label_cmp m q ≡ with_one (is_at (label_cmp k) q) (get label_cmp m q)
  label_old m k has q = go (is_at (label_cmp k) q) refl
    where
      some_first : (o : Option (ℕ × NodeId)) → is_some o ≡ true → o ≡ option_or o (Some b)
      some_first None e = cc
      some_first (Some x) e = refl

      go : (t : Bool) → is_at (label_cmp k) q ≡ t → get label_cmp m q ≡ with_one t (get label_cmp m q)
      go true is = some_first (get label_cmp m q) (ap is_some (get_alike total-law m k q is) ∙ has)
      go false is = sym (or_none (get label_cmp m q))

  -- one and then another
  pub with_two : (s t : Bool) (was : Option (ℕ × NodeId)) → with_one t (with_one s was) ≡ with_one (s || t) was
  with_two s t (Some x) = refl
  with_two true t None = refl
  with_two false t None = refl

-- ---- a type's labels

not_some : {A : Type 0} (o : Option A) → is_some o ≡ false → o ≡ None
not_some None e = refl
not_some (Some x) e = cc

pub free_label : (m : Labelled) (k : Label) (has : Bool) → has ≡ is_some (get label_cmp m k) → has ≡ false → get label_cmp m k ≡ None
free_label m k has is none = not_some (get label_cmp m k) (sym is ∙ none)

module _ (b : ℕ × NodeId) (start old new : Labelled) (k : Label) (q : Label)
    (added : get label_cmp new q ≡ with_one b (is_at (label_cmp k) q) (get label_cmp old q)) where
  -- one alias more
  pub alias_more : (s : Shape) (al : List FullName) (i : ℕ) (a : FullName) → i < length al → a ≡ get_or al i a
      → k.shape ≡ s → k.name.now ≡ a.name → option_copied k.namespace ≡ Some a.namespace
      → get label_cmp old q ≡ with_one b (list_any (λ c. is_label s c.name (Some c.namespace) q) (take i al)) (get label_cmp start q)
      → get label_cmp new q ≡ with_one b (list_any (λ c. is_label s c.name (Some c.namespace) q) (take (i + 1) al)) (get label_cmp start q)
  alias_more s al i a inside is ks kn km so_far =
      let P : FullName → Bool = λ c. is_label s c.name (Some c.namespace) q in
      added
      ∙ ap (with_one b (is_at (label_cmp k) q)) so_far
      ∙ with_two b (list_any P (take i al)) (is_at (label_cmp k) q) (get label_cmp start q)
      ∙ ap (λ t. with_one b t (get label_cmp start q))
      (ap (λ t. list_any P (take i al) || t)
      (is_at_label k q
      ∙ ap (λ t. is_label t k.name.now (option_copied k.namespace) q) ks
      ∙ ap (λ n. is_label s n (option_copied k.namespace) q) kn
      ∙ ap (λ n. is_label s a.name n q) km
      ∙ last_any (P a))
      ∙ sym (list_any-append P (take i al) (a ∷ []))
      ∙ ap (list_any P) (ap (λ c. take i al ++ c ∷ []) is ∙ sym (take-suc al i a inside) ∙ ap (λ n. take n al) (sym (add-one i))))
    where
      last_any : (t : Bool) → t ≡ (t || false)
      last_any true = refl
      last_any false = refl

  -- the last part of its name, and its aliases
  pub all_labels : (h : Head) (more : Labelled) → k.shape ≡ h.0 → k.name.now ≡ h.1.name → k.namespace ≡ None
      → get label_cmp more q ≡ with_one b (has_alias h q) (get label_cmp new q)
      → get label_cmp more q ≡ with_one b (is_labelled h q) (get label_cmp old q)
  all_labels h more ks kn km rest =
      rest
      ∙ ap (with_one b (has_alias h q)) added
      ∙ with_two b (is_at (label_cmp k) q) (has_alias h q) (get label_cmp old q)
      ∙ ap (λ t. with_one b (t || has_alias h q) (get label_cmp old q))
      (is_at_label k q
      ∙ ap (λ t. is_label t k.name.now (option_copied k.namespace) q) ks
      ∙ ap (λ n. is_label h.0 n (option_copied k.namespace) q) kn
      ∙ ap (λ n. is_label h.0 h.1.name (option_copied n) q) km)

-- of a type by its head
pub head_labels : (o : Option Node) (h : Head) → Some h ≡ heading_of o → (b : ℕ × NodeId) (was : Option (ℕ × NodeId)) (q : Label)
    → with_one b (is_labelled h q) was ≡ with_one b (has_label o q) was
head_labels o h is b was q = ap (λ (p : Option Head). with_one b (option_map_or (λ h. is_labelled h q) p false) was) is

pub head_named : (o : Option Node) (h : Head) → Some h ≡ heading_of o → is_unnamed o ≡ false
head_named o h is = ap is_none (sym is)

pub no_labels : (o : Option Node) → None ≡ heading_of o
    → (b : ℕ × NodeId) (was : Option (ℕ × NodeId)) (q : Label) → was ≡ with_one b (has_label o q) was
no_labels o is b was q = sym (or_none was) ∙ ap (λ (p : Option Head). with_one b (option_map_or (λ h. is_labelled h q) p false) was) is

pub no_name : (o : Option Node) → None ≡ heading_of o → is_unnamed o ≡ true
no_name o is = ap is_none (sym is)

-- ---- the index with one branch more

module _ (r : List Node) (bs : List NodeId) (k : ℕ) (x : NodeId) (node : Node) (old new : Branches)
    (inside : k < length bs) (is : x ≡ get_or bs k x) (at : slice_get r x.index ≡ Some node)
    (labelled : (l : Label)
    → get label_cmp new.labelled l ≡ option_or (get label_cmp old.labelled l) (cond (has_label (Some node) l) (Some (k, x)) None))
    (unnamed : new.unnamed.items ≡ cond (is_unnamed (Some node)) (old.unnamed.items ++ (k, x) ∷ []) old.unnamed.items)
    (i : IsIndex r (take k bs) old) where
  more : enumerate_from 0 (take (k + 1) bs) ≡ enumerate_from 0 (take k bs) ++ (k, x) ∷ []
  more =
      ap (enumerate_from 0) (ap (λ n. take n bs) (add-one k) ∙ take-suc bs k x inside ∙ ap (λ y. take k bs ++ y ∷ []) (sym is))
      ∙ enumerate_push 0 (take k bs) x
      ∙ ap (λ n. enumerate_from 0 (take k bs) ++ (n, x) ∷ [])
      (let e : length (take k bs) ≡ k = length-take-le k bs (omega (arith, inside)) in
      let f : 0 + length (take k bs) ≡ k = omega (arith, e) in f)

  pub index_more : IsIndex r (take (k + 1) bs) new
  index_more = record {
    labelled = λ l.
        let P : ℕ × NodeId → Bool = λ b. has_label (slice_get r b.1.index) l in
        labelled l
        ∙ ap (λ o. option_or o (cond (has_label (Some node) l) (Some (k, x)) None)) (i.labelled l)
        ∙ ap (λ o. option_or (find P (enumerate_from 0 (take k bs))) (cond (has_label o l) (Some (k, x)) None)) (sym at)
        ∙ sym (find-append P (enumerate_from 0 (take k bs)) ((k, x) ∷ []))
        ∙ ap (find P) (sym more);
    unnamed =
        let Q : ℕ × NodeId → Bool = λ b. is_unnamed (slice_get r b.1.index) in
        unnamed
        ∙ last_one (is_unnamed (Some node))
        ∙ ap (λ o. old.unnamed.items ++ cond (is_unnamed o) ((k, x) ∷ []) []) (sym at)
        ∙ ap (λ xs. xs ++ cond (Q (k, x)) ((k, x) ∷ []) []) i.unnamed
        ∙ sym (filter-append Q (enumerate_from 0 (take k bs)) ((k, x) ∷ []))
        ∙ ap (filter Q) (sym more);
    within = subst (All (λ (b : ℕ × NodeId). b.1.index < length r)) (sym unnamed) (all_in (is_unnamed (Some node)));
  }
    where
      last_one : (t : Bool) → cond t (old.unnamed.items ++ (k, x) ∷ []) old.unnamed.items ≡ old.unnamed.items ++ cond t ((k, x) ∷ []) []
      last_one true = refl
      last_one false = sym (append-nil old.unnamed.items)

      all_in : (t : Bool) → All (λ (b : ℕ × NodeId). b.1.index < length r) (cond t (old.unnamed.items ++ (k, x) ∷ []) old.unnamed.items)
      all_in true = All-push (λ (b : ℕ × NodeId). b.1.index < length r) old.unnamed.items (k, x) i.within (below_length r x.index node at)
      all_in false = i.within

-- ---- unions

-- no branch of a union is a union
pub flat_branches : (r : List Node) → IsSound r → (i : ℕ)
    → All (λ (b : NodeId). (cs : List NodeId) → slice_get r b.index ≢ Some (kind.Union cs)) (branches_in (slice_get r i))
flat_branches r sound i = go (slice_get r i) refl
  where
    none : All (λ (b : NodeId). (cs : List NodeId) → slice_get r b.index ≢ Some (kind.Union cs)) []
    none = λ k d within. absurd (omega (arith, within))

    go : (o : Option Node) → slice_get r i ≡ o
        → All (λ (b : NodeId). (cs : List NodeId) → slice_get r b.index ≢ Some (kind.Union cs)) (branches_in o)
    go (Some (kind.Union bs)) at = sound.flat_unions i bs at
    go None at = none
    go (Some (kind.Primitive p)) at = none
    go (Some (kind.Record n al fs)) at = none
    go (Some (kind.Enum n al ss d)) at = none
    go (Some (kind.Fixed n al s)) at = none
    go (Some (kind.Array j)) at = none
    go (Some (kind.Map j)) at = none

-- one index more
pub indexes_more : (r : List Node) (old new : BTreeMap ℕ Branches) (i : ℕ) (x : Branches) (bs : List NodeId)
    → AreIndexes r old → IsIndex r bs x → branches_in (slice_get r i) ≡ bs
    → ((q : ℕ) → get nat_cmp new q ≡ cond (is_at (nat_cmp i) q) (Some x) (get nat_cmp old q)) → AreIndexes r new
indexes_more r old new i x bs made index is updated =
    λ q y e. go q y (eqb i q) refl (ap (λ t. cond t (Some x) (get nat_cmp old q)) (sym (is_eq-nat_cmp i q)) ∙ sym (updated q) ∙ e)
  where
    go : (q : ℕ) (y : Branches) (t : Bool) → eqb i q ≡ t
        → cond (eqb i q) (Some x) (get nat_cmp old q) ≡ Some y → IsIndex r (branches_in (slice_get r q)) y
    go q y true same e =
        let here : Some x ≡ Some y = ap (λ t. cond t (Some x) (get nat_cmp old q)) (sym same) ∙ e in
        let one : x ≡ y = cc in
        subst (λ n. IsIndex r (branches_in (slice_get r n)) y) (eqb-true i q same)
        (subst (λ cs. IsIndex r cs y) (sym is) (subst (IsIndex r bs) one index))
    go q y false apart e = made q y (ap (λ t. cond t (Some x) (get nat_cmp old q)) (sym apart) ∙ e)

-- ---- the first branch that matches

module _ (r w : List Node) (i : ℕ) (j : NodeId) (n : Node) (x : Branches)
    (index : IsIndex r (branches_in (slice_get r i)) x) (at : slice_get w j.index ≡ Some n) where
  pub first_labelled : IsSound r → (k : Head) (l f : Label) → heading_of (Some n) ≡ Some k
      → l.shape ≡ k.0 → l.name.now ≡ k.1.name → option_copied l.namespace ≡ None
      → f.shape ≡ k.0 → f.name.now ≡ k.1.name → option_copied f.namespace ≡ Some k.1.namespace
      → earlier (get label_cmp x.labelled l) (get label_cmp x.labelled f)
      ≡ find (λ b. matches r w b.1 j) (enumerate_from 0 (branches_in (slice_get r i)))
  first_labelled sound k l f is ls ln lm fs fn fm =
      let bs = branches_in (slice_get r i) in
      let P : NodeId → Bool = λ b. has_label (slice_get r b.index) l in
      let Q : NodeId → Bool = λ b. has_label (slice_get r b.index) f in
      let M : NodeId → Bool = λ b. matches r w b j in
      ap (λ o. earlier o (get label_cmp x.labelled f)) (index.labelled l)
      ∙ ap (earlier (find (λ b. P b.1) (enumerate_from 0 bs))) (index.labelled f)
      ∙ first_of_either P Q 0 bs
      ∙ same_finds (λ b. P b || Q b) M 0 bs
      (λ m d within.
      let b = get_or bs m d in
      by_labels (λ k l. matches_within (length r) r w k l) (slice_get r b.index) n k l f is
      (flat_branches r sound i m d within) ls ln lm fs fn fm
      ∙ ap (both (nodes_match (λ k l. matches_within (length r) r w k l)) (slice_get r b.index)) (sym at))

  pub first_unlabelled : heading_of (Some n) ≡ None → ((bs : List NodeId) → n ≢ kind.Union bs)
      → find (λ b. matches r w b.1 j) x.unnamed.items ≡ find (λ b. matches r w b.1 j) (enumerate_from 0 (branches_in (slice_get r i)))
  first_unlabelled is plain =
      let M : ℕ × NodeId → Bool = λ b. matches r w b.1 j in
      ap (find M) index.unnamed
      ∙ find-filter M (λ b. is_unnamed (slice_get r b.1.index))
      (λ b e.
      by_no_label (λ k l. matches_within (length r) r w k l) (slice_get r b.1.index) n is plain
      (ap (both (nodes_match (λ k l. matches_within (length r) r w k l)) (slice_get r b.1.index)) (sym at) ∙ e))
      (enumerate_from 0 (branches_in (slice_get r i)))
