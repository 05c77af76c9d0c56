-- What is known of the reader's fields that are found from the writer's side, and of those that are passed over.
use Rattle.std.proofs.Common.{drop, ◌≡◌, ◌≢◌, ℕ, zero, suc, ◌+◌, ◌-◌, ◌<◌, ◌≤◌, eqb, inl, inr, ◌⊎◌, List, [], ◌∷◌, length, map}
use Rattle.std.proofs.Common.{filter, filter_map, Bool, true, false, All, Option, Some, None, is_some, option_and_then}
use Rattle.std.proofs.Common.{option_copied, is_none, get_or, slice_get, bytes_eq, refl, sym, ◌∙◌, ap, subst, arith, ⊎_elim}
use Rattle.std.proofs.Common.{cond, not, ◌++◌}
use Rattle.std.specs.List.{cons_option, AllWithin}
use Rattle.std.specs.Borrow.{Bor}
use Rattle.std.specs.BTreeMap.{BTreeMap, get, is_at}
use Rattle.std.specs.Map.{lookup}
use Rattle.std.specs.Global.{Vec}
use Rattle.std.specs.Option.{option_map_or}
use Rattle.std.specs.Cmp.Lexicographic.{slice_cmp}
use Rattle.std.proofs.lemmas.Map.Text.{is_eq-slice_cmp}
use Rattle.std.specs.Cmp.{nat_cmp_is}
use Rattle.std.specs.Ordering.{is_lt, nat_cmp, ordering_then}
use Rattle.std.specs.declared.cmp.Ordering.{Ordering}
use Rattle.std.specs.declared.cmp.Ordering.TheVariants.{Less, Equal}
use Rattle.std.proofs.lemmas.Bool.{cases_lt, eqb-true}
use Rattle.std.proofs.lemmas.List.{drop_all}
use Rattle.std.proofs.lemmas.List.Elements.{All-append, All-cons, All-contains, All-contains_itself, All-head, All-map}
use Rattle.std.proofs.lemmas.List.Elements.{All-nil, All-push, All-tail, All-weaker}
use Rattle.std.proofs.lemmas.List.Elements.{Contains-append_left, Contains-append_right}
use Rattle.std.proofs.lemmas.Option.{slice_get_past, slice_get_read}
use Rattle.std.proofs.lemmas.Slice.Eq.{bytes_eq-Decides}
use Rattle.std.specs.List.{Contains}
use Rattle.avro_schema.specs.declared.node.Field.{Field}
use Rattle.avro_schema.specs.Defaults.{field_named}
use Rattle.avro_resolve.specs.Pairing.{partner}
use Rattle.avro_schema.specs.Sound.{HaveDistinctNames}
use Rattle.avro_resolve.specs.FieldIndex.{names_of, held, at_place, Before, DoRise, HasAt, Holders, IsAbsent, IsAbsentUpto, IsAddedTo, IsAfter}
use Rattle.avro_resolve.specs.FieldIndex.{IsFound, IsPassed, IsFieldIndex, Name, NoneOf, NoneUpto, AreFound, AreFoundUpto, AreHolders, AreOthers}
use Rattle.avro_resolve.specs.FieldIndex.{AreFieldIndexes, fields_in}
use Rattle.avro_resolve.specs.declared.field_index.FoundField.{FoundField}
use Rattle.avro_resolve.specs.declared.field_index.Holder.{Holder}
use Rattle.avro_resolve.specs.declared.field_index.FieldIndex.{FieldIndex}
use Rattle.avro_resolve.proofs.Hops.{drop_at}
use Rattle.avro_resolve.proofs.Named.{named_at}
use Rattle.avro_resolve.proofs.SeenLaws.{is_eq-nat_cmp}
use Rattle.avro_resolve.proofs.Sound.{below_length}
use Rattle.avro_schema.specs.declared.node.Node.{Node}

pub any_default : {A : Type 0} (xs : List A) (i : ℕ) (d e : A) → i < length xs → get_or xs i d ≡ get_or xs i e
any_default [] i d e h = absurd (omega arith)
any_default (x ∷ xs) zero d e h = refl
any_default (x ∷ xs) (suc i) d e h = any_default xs i d e (omega arith)

pub some_not_none : {A : Type 0} (o : Option A) → is_some o ≡ true → false ≡ is_none o
some_not_none None e = cc
some_not_none (Some x) e = refl

-- any field
no_field : Field
no_field = record { name = []; aliases = []; default = None; node = record { index = 0 } }

abbrev pub no_found : FoundField
no_found = record { holder = record { field = 0; rank = 0 }; place = 0 }

-- ---- the fields that are paired

paired_past : (gs fs : List Field) (d i : ℕ) → i + d ≤ length fs
    → ((k : ℕ) (f : Field) → slice_get fs k ≡ Some f → i ≤ k → k < i + d → IsPassed gs f)
    → filter (λ f. is_some (partner gs f)) (drop i fs) ≡ filter (λ f. is_some (partner gs f)) (drop (i + d) fs)
paired_past gs fs zero i within passed =
    let e : i ≡ i + 0 = omega arith in ap (λ n. filter (λ (f : Field). is_some (partner gs f)) (drop n fs)) e
paired_past gs fs (suc d) i within passed =
    let inside : i < length fs = omega arith in
    let f = get_or fs i no_field in
    let read : f ≡ get_or fs i f = any_default fs i no_field f inside in
    let here = passed i f (slice_get_read fs (length fs) i f refl inside read) (omega arith) (omega arith) in
    let e : (i + 1) + d ≡ i + suc d = omega arith in
    ap (filter (λ (g : Field). is_some (partner gs g))) (drop_at fs i f inside read)
    ∙ ap (λ o.
    cond (is_some o) (f ∷ filter (λ (g : Field). is_some (partner gs g)) (drop (i + 1) fs))
    (filter (λ (g : Field). is_some (partner gs g)) (drop (i + 1) fs))) here.0
    ∙ paired_past gs fs d (i + 1) (omega arith) (λ k g at above below. passed k g at (omega arith) (omega arith))
    ∙ ap (λ n. filter (λ (g : Field). is_some (partner gs g)) (drop n fs)) e

paired_upto : (gs fs : List Field) (i k : ℕ) → i ≤ k → k ≤ length fs
    → ((m : ℕ) (f : Field) → slice_get fs m ≡ Some f → i ≤ m → m < k → IsPassed gs f)
    → filter (λ f. is_some (partner gs f)) (drop i fs) ≡ filter (λ f. is_some (partner gs f)) (drop k fs)
paired_upto gs fs i k above within passed =
    let e : i + (k - i) ≡ k = omega arith in
    paired_past gs fs (k - i) i (omega arith) (λ m f at from below. passed m f at from (omega arith))
    ∙ ap (λ n. filter (λ (f : Field). is_some (partner gs f)) (drop n fs)) e

-- ---- places among names

pub before_up : (k r i j : ℕ) → Before k r i j → k ≤ i
before_up k r i j b = ⊎_elim (λ low. omega (arith, low)) (λ same. let e = same.0 in omega (arith, e)) b

pub before_more : (k r i j : ℕ) → Before k r i j → Before k r i (j + 1)
before_more k r i j b = ⊎_elim (λ low. inl low) (λ same. inr (same.0, (let h : r < j = same.1 in omega (arith, h)))) b

-- ---- the first of a field's names that a writer's field has

module _ (gs : List Field) where
  pub no_partner : (ns : List (List ℕ)) → ((r : ℕ) (n : List ℕ) → slice_get ns r ≡ Some n → field_named gs n ≡ None)
      → slice_get (filter_map (field_named gs) ns) 0 ≡ None
  no_partner [] none = refl
  no_partner (n ∷ ns) none =
      ap (λ o. slice_get (cons_option o (filter_map (field_named gs) ns)) 0) (none 0 n refl) ∙ no_partner ns (λ r m at. none (suc r) m at)

  pub least : (ns : List (List ℕ)) (r : ℕ) → ((q : ℕ) (n : List ℕ) → q < r → slice_get ns q ≡ Some n → field_named gs n ≡ None)
      → (length ns ≤ r) ⊎ (is_some (option_and_then (field_named gs) (slice_get ns r)) ≡ true)
      → option_and_then (field_named gs) (slice_get ns r) ≡ slice_get (filter_map (field_named gs) ns) 0
  least [] r none either = refl
  least (n ∷ ns) zero none either = ⊎_elim (λ past. absurd (omega (arith, past))) (λ some. go (field_named gs n) some) either
    where
      go : (o : Option Field) → is_some o ≡ true → o ≡ slice_get (cons_option o (filter_map (field_named gs) ns)) 0
      go None e = cc
      go (Some g) e = refl
  least (n ∷ ns) (suc r) none either =
      least ns r (λ q m low at. none (suc q) m (omega (arith, low)) at)
      (⊎_elim (λ past. inl (omega (arith, past))) (λ some. inr some) either)
      ∙ ap (λ o. slice_get (cons_option o (filter_map (field_named gs) ns)) 0) (sym (none 0 n (omega arith) refl))

-- where the field of a name is
pub place_named : (gs : List Field) (n : List ℕ) (g : Field) → field_named gs n ≡ Some g
    → (q : ℕ) × (q < length gs) × (slice_get gs q ≡ Some g) × (g.name ≡ n)
place_named [] n g e = cc
place_named (h ∷ gs) n g e = go (bytes_eq h.name n) refl (place_named gs n g)
  where
    go : (b : Bool) → bytes_eq h.name n ≡ b
        → (field_named gs n ≡ Some g → (q : ℕ) × (q < length gs) × (slice_get gs q ≡ Some g) × (g.name ≡ n))
        → (q : ℕ) × (q < length (h ∷ gs)) × (slice_get (h ∷ gs) q ≡ Some g) × (g.name ≡ n)
    go true is rest =
        let here : Some h ≡ Some g = ap (λ b. cond b (Some h) (field_named gs n)) (sym is) ∙ e in
        let one : h ≡ g = cc in
        (0, omega arith, here, ap (λ (x : Field). x.name) (sym one) ∙ (bytes_eq-Decides h.name n).0 is)
    go false is rest =
        let (q, inside, at, same) = rest (ap (λ b. cond b (Some h) (field_named gs n)) (sym is) ∙ e) in
        (suc q, omega (arith, inside), at, same)

-- ---- what was found

module _ (fs gs : List Field) (xs : List FoundField) (upto : AreFoundUpto fs gs (length gs) xs) where
  none_named : (k : ℕ) (f : Field) → slice_get fs k ≡ Some f → (r : ℕ) (n : List ℕ)
      → slice_get (names_of f) r ≡ Some n → NoneUpto k r xs → (o : Option Field) → field_named gs n ≡ o → o ≡ None
  none_named k f at r n named none None is = refl
  none_named k f at r n named none (Some g) is =
      let (q, inside, at_q, same) = place_named gs n g is in
      absurd (upto.whole k r q f g at at_q inside (named ∙ ap Some (sym same)) none)

  pub passed : (k : ℕ) (f : Field) → slice_get fs k ≡ Some f → NoneOf k xs → IsPassed gs f
  passed k f at none = (
    no_partner gs (names_of f)
        (λ r n named. none_named k f at r n named (λ p d within same. absurd (none p d within same)) (field_named gs n) refl),
    upto.lacking k f at none,
  )

module _ (fs gs : List Field) (xs : List FoundField) (all : AreFound fs gs xs)
    (i next : ℕ) (x : FoundField) (inside : i < length xs) (is : x ≡ get_or xs i x)
    (earlier : AllWithin (λ y. y.holder.field < next) xs 0 i) where
  here_at : (d : FoundField) → get_or xs i d ≡ x
  here_at d = any_default xs i d x inside ∙ sym is

  -- none before is of its field, or of one between
  absent_between : (m : ℕ) → next ≤ m → m < x.holder.field → NoneOf m xs
  absent_between m above below = λ p d within same.
      ⊎_elim
      (λ low. absurd (let h : (get_or xs p d).holder.field < next = earlier p d (omega arith) low in omega (arith, h, same)))
      (λ high.
      let up : Before (get_or xs i d).holder.field (get_or xs i d).holder.rank
      (get_or xs p d).holder.field (suc (get_or xs p d).holder.rank) =
      all.rise i p d high within in
      let h : (get_or xs i d).holder.field ≤ (get_or xs p d).holder.field = before_up _ _ _ _ up in
      let e : (get_or xs i d).holder.field ≡ x.holder.field = ap (λ (y : FoundField). y.holder.field) (here_at d) in
      absurd (omega (arith, h, same, e)))
      (cases_lt p i)

  pub found_here : IsFound fs gs x
  found_here = subst (IsFound fs gs) (here_at x) (all.upto.each i x inside)

  pub found_inside : x.holder.field < length fs
  found_inside = let (f, at, named, either) = found_here in below_length fs x.holder.field f at

  -- it has the first name with a field
  pub found_first : next ≤ x.holder.field → (f : Field) → f ≡ get_or fs x.holder.field f → slice_get gs x.place ≡ partner gs f
  found_first up f read =
      let (g, at, named, either) = found_here in
      let two : Some g ≡ Some f = sym at ∙ slice_get_read fs (length fs) x.holder.field f refl found_inside read in
      let one : g ≡ f = cc in
      let none : (r : ℕ) (n : List ℕ) → r < x.holder.rank → slice_get (names_of g) r ≡ Some n → field_named gs n ≡ None = λ r n low at_n.
      none_named fs gs xs all.upto x.holder.field g at r n at_n
      (λ p d within same.
      ⊎_elim
      (λ before. absurd (let h : (get_or xs p d).holder.field < next = earlier p d (omega arith) before in omega (arith, h, same)))
      (λ high.
      let e : (get_or xs i d).holder.field ≡ x.holder.field = ap (λ (y : FoundField). y.holder.field) (here_at d) in
      let e2 : (get_or xs i d).holder.rank ≡ x.holder.rank = ap (λ (y : FoundField). y.holder.rank) (here_at d) in
      ⊎_elim
      (λ lower. absurd (omega (arith, lower, same, e)))
      (λ tie. let h : (get_or xs i d).holder.rank < suc (get_or xs p d).holder.rank = tie.1 in omega (arith, h, e2, low))
      (all.rise i p d high within))
      (cases_lt p i))
      (field_named gs n) refl in
      named
      ∙ least gs (names_of g) x.holder.rank none (⊎_elim (λ past. inl past) (λ some. inr (ap is_some (sym named) ∙ some)) either)
      ∙ ap (partner gs) one

  pub earlier_more : (further : ℕ) → next ≤ further → x.holder.field < further → AllWithin (λ y. y.holder.field < further) xs 0 (i + 1)
  earlier_more further up here = λ p d from below.
      ⊎_elim
      (λ low. let h : (get_or xs p d).holder.field < next = earlier p d from low in omega (arith, h))
      (λ high.
      let e : p ≡ i = omega arith in
      let read : (get_or xs p d).holder.field ≡ x.holder.field =
      ap (λ q. (get_or xs q d).holder.field) e ∙ ap (λ (y : FoundField). y.holder.field) (here_at d) in
      omega (arith, read))
      (cases_lt p i)

  pub paired_to : next ≤ x.holder.field → (f : Field) → f ≡ get_or fs x.holder.field f
      → filter (λ g. is_some (partner gs g)) (drop next fs)
      ≡ cond (is_some (partner gs f)) (f ∷ filter (λ g. is_some (partner gs g)) (drop (x.holder.field + 1) fs))
      (filter (λ g. is_some (partner gs g)) (drop (x.holder.field + 1) fs))
  paired_to up f read =
      let below : x.holder.field < length fs = found_inside in
      paired_upto gs fs next x.holder.field up (omega (arith, below))
      (λ m g at from to. passed fs gs xs all.upto m g at (absent_between m from to))
      ∙ ap (filter (λ (g : Field). is_some (partner gs g))) (drop_at fs x.holder.field f below read)

module _ (fs gs : List Field) (xs : List FoundField) (all : AreFound fs gs xs) (i next : ℕ) (past : length xs ≤ i) (end : i ≤ length xs)
    (earlier : AllWithin (λ y. y.holder.field < next) xs 0 i) (up : next ≤ length fs) where
  absent_above : (m : ℕ) → next ≤ m → NoneOf m xs
  absent_above m above =
      λ p d within same.
      let h : (get_or xs p d).holder.field < next = earlier p d (omega arith) (omega (arith, within, past)) in
      absurd (omega (arith, h, same))

  pub paired_rest : filter (λ g. is_some (partner gs g)) (drop next fs) ≡ []
  paired_rest =
      paired_upto gs fs next (length fs) up (omega arith) (λ m f at from to. passed fs gs xs all.upto m f at (absent_above m from))
      ∙ ap (filter (λ (g : Field). is_some (partner gs g))) (drop_all (length fs) fs (omega arith))

pub all_inside : (fs gs : List Field) (xs : List FoundField) → All (IsFound fs gs) xs → All (λ x. x.holder.field < length fs) xs
all_inside fs gs xs each =
    All-weaker (IsFound fs gs) (λ (x : FoundField). x.holder.field < length fs)
    (λ x is. let (f, at, named, either) = is in below_length fs x.holder.field f at) xs each

-- ---- sorting

sorted_pair : (a b c d p q : ℕ)
    → is_lt (ordering_then (ordering_then (nat_cmp a c) (nat_cmp b d)) (nat_cmp p q)) ≡ false → Before c d a (suc b)
sorted_pair a b c d p q e = ⊎_elim less more (cases_lt a c)
  where
    less : a < c → Before c d a (suc b)
    less h =
        let t : true ≡ false = ap (λ o. is_lt (ordering_then (ordering_then o (nat_cmp b d)) (nat_cmp p q))) (nat_cmp_is a c Less h) ∙ e in
        cc

    tied : a ≡ c → Before c d a (suc b)
    tied h = ⊎_elim
        (λ low.
        let t : true ≡ false =
        ap (λ o. is_lt (ordering_then o (nat_cmp p q))) (nat_cmp_is b d Less low)
        ∙ ap (λ o. is_lt (ordering_then (ordering_then o (nat_cmp b d)) (nat_cmp p q))) (nat_cmp_is a c Equal h)
        ∙ e in
        cc)
        (λ high. inr (sym h, omega (arith, high)))
        (cases_lt b d)

    more : c ≤ a → Before c d a (suc b)
    more h = ⊎_elim (λ low. inl low) (λ high. tied (omega arith)) (cases_lt c a)

abbrev Rises : FoundField → FoundField → Type 0
Rises x y = Before x.holder.field x.holder.rank y.holder.field (suc y.holder.rank)

rises_on : (x y z : FoundField) → Rises x y → Rises y z → Rises x z
rises_on x y z a b = ⊎_elim
    (λ low. let h = before_up _ _ _ _ b in inl (omega (arith, low, h)))
    (λ same. ⊎_elim
    (λ low. let e = same.0 in inl (omega (arith, low, e)))
    (λ tie.
    let e = same.0 in
    let g = tie.0 in
    let s : x.holder.rank < suc y.holder.rank = same.1 in
    let t : y.holder.rank < suc z.holder.rank = tie.1 in inr (e ∙ g, omega (arith, s, t)))
    b)
    a

pub do_rise : (xs : List FoundField)
    → ((k : ℕ) (d : FoundField) → k + 1 < length xs
    → is_lt (
    ordering_then
    (ordering_then (nat_cmp (get_or xs (k + 1) d).holder.field (get_or xs k d).holder.field)
    (nat_cmp (get_or xs (k + 1) d).holder.rank (get_or xs k d).holder.rank))
    (nat_cmp (get_or xs (k + 1) d).place (get_or xs k d).place))
    ≡ false)
    → DoRise xs
do_rise xs sorted i j d up within =
    let e : i + (j - i) ≡ j = omega arith in subst (λ n. Rises (get_or xs i d) (get_or xs n d)) e (go (j - i) (omega arith))
  where
    go : (n : ℕ) → i + n < length xs → Rises (get_or xs i d) (get_or xs (i + n) d)
    go zero inside = let e : i ≡ i + 0 = omega arith in subst (λ n. Rises (get_or xs i d) (get_or xs n d)) e (inr (refl, omega arith))
    go (suc n) inside =
        let e : (i + n) + 1 ≡ i + suc n = omega arith in
        subst (λ m. Rises (get_or xs i d) (get_or xs m d)) e
        (rises_on (get_or xs i d) (get_or xs (i + n) d) (get_or xs ((i + n) + 1) d) (go n (omega arith))
        (sorted_pair (get_or xs ((i + n) + 1) d).holder.field (get_or xs ((i + n) + 1) d).holder.rank
        (get_or xs (i + n) d).holder.field (get_or xs (i + n) d).holder.rank
        (get_or xs ((i + n) + 1) d).place (get_or xs (i + n) d).place (sorted (i + n) d (omega arith))))

-- ---- a map of names

abbrev name_cmp : Name → Name → Ordering
name_cmp a b = slice_cmp nat_cmp a.now b.now

-- equal names have one list
pub held_alike : (m : Holders) (a b : Name) → a.now ≡ b.now → held m a ≡ held m b
held_alike m a b e = ap (λ n. option_map_or (λ v. v.items) (lookup (is_at (λ (q : Name). slice_cmp nat_cmp n q.now)) m.entries) []) e

module _ (old new : Holders) (k : Name) (v : Vec Holder)
    (updated : (q : Name) → get name_cmp new q ≡ cond (is_at (name_cmp k) q) (Some v) (get name_cmp old q)) where
  held_by : (q : Name) (b : Bool) → bytes_eq k.now q.now ≡ b
      → held new q ≡ option_map_or (λ v. v.items) (cond b (Some v) (get name_cmp old q)) []
  held_by q b is =
      ap (λ o. option_map_or (λ v. v.items) o [])
      (updated q ∙ ap (λ t. cond t (Some v) (get name_cmp old q)) (is_eq-slice_cmp k.now q.now ∙ is))

  pub held_new : (q : Name) → q.now ≡ k.now → held new q ≡ v.items
  held_new q e = held_by q true ((bytes_eq-Decides k.now q.now).1 (sym e))

  pub held_old : (q : Name) → q.now ≢ k.now → held new q ≡ held old q
  held_old q apart = go (bytes_eq k.now q.now) refl
    where
      go : (b : Bool) → bytes_eq k.now q.now ≡ b → held new q ≡ held old q
      go true is = absurd (apart (sym ((bytes_eq-Decides k.now q.now).0 is)))
      go false is = held_by q false is

pub holders_begin : (fs : List Field) (m : Holders) → ((n : Name) → held m n ≡ []) → AreHolders fs 0 0 m
holders_begin fs m none = record {
  named = λ n. subst (All (HasAt fs n.now)) (sym (none n)) (All-nil _);
  before = λ n. subst (All (λ (h : Holder). Before h.field h.rank 0 0)) (sym (none n)) (All-nil _);
  whole = λ k r f n at named before absent. ⊎_elim (λ low. omega (arith, low)) (λ same. let h : r < 0 = same.1 in omega (arith, h)) before;
}

-- ---- who has a name

All-left : {A : Type 0} (P : A → Type 0) (xs ys : List A) → All P (xs ++ ys) → All P xs
All-left P xs ys all =
    All-weaker (Contains xs) P (λ x has. All-contains P (xs ++ ys) x all (Contains-append_left xs ys x has)) xs (All-contains_itself xs)

All-right : {A : Type 0} (P : A → Type 0) (xs ys : List A) → All P (xs ++ ys) → All P ys
All-right P xs ys all =
    All-weaker (Contains ys) P (λ x has. All-contains P (xs ++ ys) x all (Contains-append_right xs ys x has)) ys (All-contains_itself ys)

All-of_map : {A B : Type 0} (P : B → Type 0) (f : A → B) (xs : List A) → All P (map f xs) → All (λ x. P (f x)) xs
All-of_map P f [] all = All-nil _
All-of_map P f (x ∷ xs) all =
    All-cons (λ y. P (f y)) x xs (All-head P (f x) (map f xs) all) (All-of_map P f xs (All-tail P (f x) (map f xs) all))

module _ (fs : List Field) (i j : ℕ) (f : Field) (old new : Holders) (was : AreHolders fs i j old)
    (at : slice_get fs i ≡ Some f) (n : List ℕ) (named : slice_get (names_of f) j ≡ Some n)
    (here : (m : Name) → m.now ≡ n → IsAddedTo (held old m) (held new m) (record { field = i; rank = j }))
    (others : (m : Name) → m.now ≢ n → held new m ≡ held old m) where
  added_or : (m : Name) → (b : Bool) → bytes_eq m.now n ≡ b
      → ((m.now ≡ n) × IsAddedTo (held old m) (held new m) (record { field = i; rank = j })) ⊎ (held new m ≡ held old m)
  added_or m true is = let e : m.now ≡ n = (bytes_eq-Decides m.now n).0 is in inl (e, here m e)
  added_or m false is = inr (others m (λ e. let t : true ≡ false = sym ((bytes_eq-Decides m.now n).1 e) ∙ is in cc))

  by_cases : (P : Name → List Holder → Type 0) → ((m : Name) → P m (held old m))
      → ((m : Name) → m.now ≡ n → P m (held old m ++ record { field = i; rank = j } ∷ [])) → (m : Name) → P m (held new m)
  by_cases P kept pushed m = ⊎_elim
      (λ same. ⊎_elim (λ more. subst (P m) (sym more) (pushed m same.0)) (λ stays. subst (P m) (sym stays.0) (kept m)) same.1)
      (λ stays. subst (P m) (sym stays) (kept m))
      (added_or m (bytes_eq m.now n) refl)

  pub holders_more : AreHolders fs i (j + 1) new
  holders_more = record {
    named = by_cases (λ m hs. All (HasAt fs m.now) hs) was.named
        (λ m e. All-push (HasAt fs m.now) (held old m) (record { field = i; rank = j }) (was.named m) (f, at, named ∙ ap Some (sym e)));
    before = by_cases (λ m hs. All (λ h. Before h.field h.rank i (j + 1)) hs) kept (λ m e.
        All-push (λ h. Before h.field h.rank i (j + 1)) (held old m) (record { field = i; rank = j }) (kept m) (inr (refl, omega arith)));
    whole = λ k r g m at_g named_g before absent.
        ⊎_elim
        (λ low. was.whole k r g m at_g named_g (inl low) (absent_old k r m absent))
        (λ same.
        ⊎_elim
        (λ low. was.whole k r g m at_g named_g (inr (same.0, low)) (absent_old k r m absent))
        (λ high.
        let r_is : r ≡ j = (let h : r < j + 1 = same.1 in omega (arith, h)) in
        let two : Some g ≡ Some f = sym at_g ∙ ap (slice_get fs) same.0 ∙ at in
        let one : g ≡ f = cc in
        let name_two : Some m.now ≡ Some n =
        sym named_g ∙ ap (slice_get (names_of g)) r_is ∙ ap (λ (x : Field). slice_get (names_of x) j) one ∙ named in
        let e : m.now ≡ n = cc in
        not_here k r m same.0 r_is absent (here m e))
        (cases_lt r j))
        before;
  }
    where
      kept : (m : Name) → All (λ h. Before h.field h.rank i (j + 1)) (held old m)
      kept m =
          All-weaker (λ (h : Holder). Before h.field h.rank i j) (λ (h : Holder). Before h.field h.rank i (j + 1))
          (λ h b. before_more h.field h.rank i j b) (held old m) (was.before m)

      absent_old : (k r : ℕ) (m : Name) → IsAbsentUpto k r (held new m) → IsAbsentUpto k r (held old m)
      absent_old k r m =
          by_cases (λ m hs. IsAbsentUpto k r hs → IsAbsentUpto k r (held old m)) (λ m absent. absent) (λ m e absent.
          All-left (λ (h : Holder). h.field ≡ k → r < h.rank) (held old m) (record { field = i; rank = j } ∷ []) absent) m

      not_here : (k r : ℕ) (m : Name) → k ≡ i → r ≡ j → IsAbsentUpto k r (held new m)
          → IsAddedTo (held old m) (held new m) (record { field = i; rank = j }) → ⊥
      not_here k r m k_is r_is absent added = ⊎_elim
          (λ more.
          let there : IsAbsentUpto k r (held old m ++ record { field = i; rank = j } ∷ []) = subst (IsAbsentUpto k r) more absent in
          let h : r < j = All-head (λ (h : Holder). h.field ≡ k → r < h.rank) (record { field = i; rank = j }) []
          (All-right (λ (h : Holder). h.field ≡ k → r < h.rank) (held old m) (record { field = i; rank = j } ∷ []) there) (sym k_is) in
          omega (arith, h, r_is))
          (λ stays.
          stays.1 (λ p d within same.
          let there : IsAbsentUpto k r (held old m) = subst (IsAbsentUpto k r) stays.0 absent in
          let h : r < (get_or (held old m) p d).rank = there p d within (same ∙ sym k_is) in
          ⊎_elim (λ low. omega (arith, low, same))
          (λ tie. let g : (get_or (held old m) p d).rank < j = tie.1 in omega (arith, g, h, r_is)) (was.before m p d within)))
          added

-- all names of a field were added
pub holders_next : (fs : List Field) (i j : ℕ) (f : Field) (m : Holders) → slice_get fs i ≡ Some f
    → length (names_of f) ≤ j → AreHolders fs i j m → AreHolders fs (i + 1) 0 m
holders_next fs i j f m at long was = record {
  named = was.named;
  before = λ n.
      All-weaker (λ (h : Holder). Before h.field h.rank i j) (λ (h : Holder). Before h.field h.rank (i + 1) 0)
      (λ h b. let up = before_up h.field h.rank i j b in inl (omega (arith, up))) (held m n) (was.before n);
  whole = λ k r g n at_g named before absent.
      ⊎_elim
      (λ low.
      ⊎_elim
      (λ lower. was.whole k r g n at_g named (inl lower) absent)
      (λ high.
      let e : k ≡ i = omega arith in
      let two : Some g ≡ Some f = sym at_g ∙ ap (slice_get fs) e ∙ at in
      let one : g ≡ f = cc in
      let below : r < length (names_of g) = below_length (names_of g) r n.now named in
      let len : length (names_of g) ≡ length (names_of f) = ap (λ (x : Field). length (names_of x)) one in
      was.whole k r g n at_g named (inr (e, omega (arith, below, len, long))) absent)
      (cases_lt k i))
      (λ same. absurd (let h : r < 0 = same.1 in omega (arith, h)))
      before;
}

-- one field index more
pub field_indexes_more : (r : List Node) (old new : BTreeMap ℕ FieldIndex) (i : ℕ) (x : FieldIndex) (fs : List Field)
    → AreFieldIndexes r old → IsFieldIndex fs x → fs ≡ fields_in (slice_get r i)
    → ((q : ℕ) → get nat_cmp new q ≡ cond (is_at (nat_cmp i) q) (Some x) (get nat_cmp old q)) → AreFieldIndexes r new
field_indexes_more r old new i x fs made field_index is updated =
    λ q y e. go q y (eqb i q) refl (ap (λ t. cond t (Some x) (get nat_cmp old q)) (sym (is_eq-nat_cmp i q)) ∙ sym (updated q) ∙ e)
  where
    go : (q : ℕ) (y : FieldIndex) (t : Bool) → eqb i q ≡ t
        → cond (eqb i q) (Some x) (get nat_cmp old q) ≡ Some y → IsFieldIndex (fields_in (slice_get r q)) y
    go q y true same e =
        let here : Some x ≡ Some y = ap (λ t. cond t (Some x) (get nat_cmp old q)) (sym same) ∙ e in
        let one : x ≡ y = cc in
        subst (λ n. IsFieldIndex (fields_in (slice_get r n)) y) (eqb-true i q same) (subst (λ l. IsFieldIndex l y) is (subst (IsFieldIndex fs) one field_index))
    go q y false apart e = made q y (ap (λ t. cond t (Some x) (get nat_cmp old q)) (sym apart) ∙ e)

-- ---- the fields without default

not_none : {A : Type 0} (o : Option A) (b : Bool) → is_some o ≡ not b → b ≡ false → is_some o ≡ true
not_none o b e f = e ∙ ap not f

module _ (fs : List Field) (i : ℕ) (f : Field) (hs : List Holder) (at : slice_get fs i ≡ Some f) where
  pub others_pushed : All (IsAfter fs) hs
      → ((n : ℕ) (g : Field) → slice_get fs n ≡ Some g → n < i → IsAbsent n hs → is_some g.default ≡ true)
      → (new : List Holder) (h : Holder) → h.field ≡ i → length (names_of f) ≤ h.rank → new ≡ hs ++ h ∷ []
      → All (IsAfter fs) new × ((n : ℕ) (g : Field) → slice_get fs n ≡ Some g → n < i + 1 → IsAbsent n new → is_some g.default ≡ true)
  others_pushed after whole new h of long is = (
    subst (All (IsAfter fs)) (sym is) (All-push (IsAfter fs) hs h after (f, ap (slice_get fs) of ∙ at, long)),
    λ n g at_g below absent.
        let there : IsAbsent n (hs ++ h ∷ []) = subst (IsAbsent n) is absent in
        ⊎_elim
        (λ low. whole n g at_g low (All-left (λ (x : Holder). x.field ≢ n) hs (h ∷ []) there))
        (λ high.
        let e : n ≡ i = omega arith in
        absurd (All-head (λ (x : Holder). x.field ≢ n) h [] (All-right (λ (x : Holder). x.field ≢ n) hs (h ∷ []) there) (of ∙ sym e)))
        (cases_lt n i),
  )

  pub others_more : ((n : ℕ) (g : Field) → slice_get fs n ≡ Some g → n < i → IsAbsent n hs → is_some g.default ≡ true)
      → (b : Bool) → is_some f.default ≡ not b → b ≡ false
      → (n : ℕ) (g : Field) → slice_get fs n ≡ Some g → n < i + 1 → IsAbsent n hs → is_some g.default ≡ true
  others_more whole b is has n g at_g below absent =
      ⊎_elim
      (λ low. whole n g at_g low absent)
      (λ high.
      let e : n ≡ i = omega arith in
      let two : Some g ≡ Some f = sym at_g ∙ ap (slice_get fs) e ∙ at in
      let one : g ≡ f = cc in
      ap (λ (x : Field). is_some x.default) one ∙ not_none f.default b is has)
      (cases_lt n i)

-- ---- what is found for the writer's fields so far

pub found_none : (fs gs : List Field) (hs : List Holder) → AreOthers fs hs → AreFoundUpto fs gs 0 (map (at_place (length gs)) hs)
found_none fs gs hs others = record {
  each =
      All-map (IsFound fs gs) (at_place (length gs)) hs (All-weaker (IsAfter fs) (λ h. IsFound fs gs (at_place (length gs) h)) (λ h after.
      let (f, at, long) = after in (
        f,
        at,
        slice_get_past gs (length gs) (omega arith) ∙ sym (ap (option_and_then (field_named gs)) (slice_get_past (names_of f) h.rank long)),
        inl long,
      ))
      hs others.after);
  whole = λ k r q f g at at_q below named none. omega (arith, below);
  lacking = λ k f at none. others.whole k f at (All-of_map (λ (x : FoundField). x.holder.field ≢ k) (at_place (length gs)) hs none);
}

module _ (fs gs : List Field) (s : FieldIndex) (field_index : IsFieldIndex fs s) (distinct : HaveDistinctNames gs) (p : ℕ)
    (g : Field) (at : slice_get gs p ≡ Some g) (xs : List FoundField) (upto : AreFoundUpto fs gs p xs) where
  pub found_more : (n : Name) → n.now ≡ g.name → (new : List FoundField)
      → new ≡ xs ++ map (at_place p) (held s.holders n) → AreFoundUpto fs gs (p + 1) new
  found_more n n_is new is = subst (AreFoundUpto fs gs (p + 1)) (sym is) (record {
    each = All-append (IsFound fs gs) xs (map (at_place p) (held s.holders n)) upto.each
        (All-map (IsFound fs gs) (at_place p) (held s.holders n) (All-weaker (HasAt fs n.now) (λ h. IsFound fs gs (at_place p h)) (λ h has.
        let (f, at_f, named) = has in (
          f,
          at_f,
          at
              ∙ sym (named_at gs distinct p g g.name at refl)
              ∙ ap (field_named gs) (sym n_is)
              ∙ sym (ap (option_and_then (field_named gs)) named),
          inr (ap is_some at),
        ))
        (held s.holders n) (field_index.holders.named n)));
    whole = λ k r q f h at_f at_q below named none.
        ⊎_elim
        (λ low.
        upto.whole k r q f h at_f at_q low named (
        All-left (λ (x : FoundField). x.holder.field ≡ k → r < x.holder.rank) xs (map (at_place p) (held s.holders n)) none))
        (λ high.
        let e : q ≡ p = omega arith in
        let two : Some h ≡ Some g = sym at_q ∙ ap (slice_get gs) e ∙ at in
        let one : h ≡ g = cc in
        field_index.holders.whole k r f n at_f (named ∙ ap (λ (x : Field). Some x.name) one ∙ ap Some (sym n_is)) (inl (below_length fs k f at_f))
        (All-of_map (λ (x : FoundField). x.holder.field ≡ k → r < x.holder.rank) (at_place p) (held s.holders n)
        (All-right (λ (x : FoundField). x.holder.field ≡ k → r < x.holder.rank) xs (map (at_place p) (held s.holders n)) none)))
        (cases_lt q p);
    lacking = λ k f at_f none.
        upto.lacking k f at_f (All-left (λ (x : FoundField). x.holder.field ≢ k) xs (map (at_place p) (held s.holders n)) none);
  })

pub has_partner : (o : Option (Bor Field)) (p : Option Field) → option_copied o ≡ p → is_some p ≡ is_some o
has_partner None p e = ap is_some (sym e)
has_partner (Some x) p e = ap is_some (sym e)

pub slice_get_behind : {A : Type 0} (x : A) (xs : List A) (n : ℕ) → 0 < n → slice_get (x ∷ xs) n ≡ slice_get xs (n - 1)
slice_get_behind x xs zero h = absurd (omega arith)
slice_get_behind x xs (suc n) h = let e : suc n - 1 ≡ n = omega arith in ap (slice_get xs) (sym e)
