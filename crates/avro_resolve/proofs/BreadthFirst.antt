-- Why a search breadth first finds the trail that is shown.
use Rattle.std.proofs.Common.{◌≡◌, ℕ, zero, suc, ◌+◌, ◌*◌, ◌/◌, ◌%◌, ◌<◌, ◌≤◌, List, [], ◌∷◌, ◌++◌, length, map, reverse, Bool}
use Rattle.std.proofs.Common.{true, false, ◌||◌, ◌&&◌, eqb, ◌⊎◌, inl, inr, Option, Some, None, Ok, Err, IsSome, option_map}
use Rattle.std.proofs.Common.{option_and_then, slice_get, refl, sym, ◌∙◌, ap, subst, arith, append_assoc}
use Rattle.std.proofs.Common.{append-nil, length-append}
use Rattle.std.specs.List.{list_any, IsDistinct}
use Rattle.std.proofs.lemmas.Bool.{eqb-true, eq-eqb}
use Rattle.std.proofs.lemmas.Cmp.{nat_eq_equiv}
use Rattle.std.proofs.lemmas.List.{map-append, reverse-append, reverse-reverse}
use Rattle.std.proofs.lemmas.Option.{slice_get-map}
use Rattle.std.proofs.Math.Nat.{mul_comm}
use Rattle.std.proofs.lemmas.Map.Keys.{IsDistinct-push}
use Rattle.std.proofs.lemmas.Map.Steps.{length-le_from_distinct_below}
use Rattle.std.proofs.lemmas.Nat.{mul-add-lt, div-mul-add, mod-mul-add}
use Rattle.avro_schema.specs.declared.node.Node.{Node}
use Rattle.avro_resolve.specs.declared.trail.Hop.{Hop}
use Rattle.avro_resolve.specs.declared.trail.ClashKind.{ClashKind}
use Rattle.avro_resolve.specs.declared.trail.Trail.{Trail}
use Rattle.avro_resolve.specs.declared.obligations.Pair.{Pair}
use Rattle.avro_resolve.specs.declared.obligations.Obligation.{Obligation}
use Rattle.avro_resolve.specs.declared.search.Origin.{Origin}
use Rattle.avro_resolve.specs.declared.search.ReachedPair.{ReachedPair}
use Rattle.avro_schema.specs.Sound.{IsSound}
use Rattle.avro_resolve.specs.Table.{outcome, clash_of, obligations}
use Rattle.std.specs.Result.{result_err}
use Rattle.avro_resolve.proofs.Rows.{owed_in}
use Rattle.avro_resolve.specs.Trails.{roots, trail_from, trail_along, ComesFirst, AreCompatible, IsShown}
use Rattle.avro_resolve.specs.Seen.{same_pair}
use Rattle.avro_resolve.specs.Owed.{pairs_of}
use Rattle.avro_resolve.specs.Search.{is_reached, unless_reached, with_entry, entry_from, expanded}
use Rattle.avro_resolve.specs.Search.{from_at, hop_numbered, hop_at, IsStep, IsWayBack, LeadsBack}
use Rattle.avro_resolve.proofs.Order.{ComesFirst_refl, ComesFirst_trans, ComesFirst-append, ComesFirst-longer}
use Rattle.avro_resolve.proofs.Order.{Before, Before-weaker, Before-children, Before-siblings}
use Rattle.avro_resolve.proofs.Order.{Before_trans, Before-root}
use Rattle.avro_resolve.proofs.Rows.{IsWithin, obligations_within}
use Rattle.avro_resolve.proofs.Hops.{end_at, after_hop}
use Rattle.avro_resolve.proofs.Searching.{same_pair-≡}

-- a pair that was reached, and the obligations' numbers that led to it
pub record Reached : Type 0 where
  pub entry : ReachedPair
  pub path : List ℕ

abbrev pub entries_of : List Reached → List ReachedPair
entries_of gs = map (λ g. g.entry) gs

-- ---- lists

lt_or_le : (x n : ℕ) → (x < n) ⊎ (n ≤ x)
lt_or_le x zero = inr (omega arith)
lt_or_le zero (suc n) = inl (omega arith)
lt_or_le (suc x) (suc n) = elim (lt_or_le x n) [ inl h ↦ inl (omega arith) | inr h ↦ inr (omega arith) ]

lt_or_last : (x n : ℕ) → x < n + 1 → (x < n) ⊎ (x ≡ n)
lt_or_last x n h = elim (lt_or_le x n) [ inl below ↦ inl below | inr above ↦ inr (omega arith) ]

get_below : {A : Type 0} (xs : List A) (x : ℕ) (a : A) → slice_get xs x ≡ Some a → x < length xs
get_below [] x a e = cc
get_below (b ∷ xs) zero a e = omega arith
get_below (b ∷ xs) (suc x) a e = let h : x < length xs = get_below xs x a e in omega arith

get_push : {A : Type 0} (xs ys : List A) (x : ℕ) (a : A) → slice_get xs x ≡ Some a → slice_get (xs ++ ys) x ≡ Some a
get_push [] ys x a e = cc
get_push (b ∷ xs) ys zero a e = e
get_push (b ∷ xs) ys (suc x) a e = get_push xs ys x a e

get_last : {A : Type 0} (xs : List A) (y : A) → slice_get (xs ++ y ∷ []) (length xs) ≡ Some y
get_last [] y = refl
get_last (b ∷ xs) y = get_last xs y

get_push_cases : {A : Type 0} (xs : List A) (y : A) (x : ℕ) (a : A)
    → slice_get (xs ++ y ∷ []) x ≡ Some a → (slice_get xs x ≡ Some a) ⊎ ((x ≡ length xs) × (y ≡ a))
get_push_cases [] y zero a e = inr (refl, cc)
get_push_cases [] y (suc x) a e = cc
get_push_cases (b ∷ xs) y zero a e = inl e
get_push_cases (b ∷ xs) y (suc x) a e = elim (get_push_cases xs y x a e) [ inl old ↦ inl old | inr new ↦ inr (ap suc new.0, new.1) ]

-- ---- pairs by numbers

module _ (r w : List Node) where
  abbrev pub number_of : Pair → ℕ
  number_of p = p.reader.index * length w + p.writer.index

  same_from_numbers : (p q : Pair) → IsWithin r w p → IsWithin r w q → number_of p ≡ number_of q → same_pair q p ≡ true
  same_from_numbers p q in_p in_q e =
      let readers : p.reader.index ≡ q.reader.index =
      sym (div-mul-add p.reader.index (length w) p.writer.index in_p.writer)
      ∙ ap (λ n. n / length w) e
      ∙ div-mul-add q.reader.index (length w) q.writer.index in_q.writer in
      let writers : p.writer.index ≡ q.writer.index =
      sym (mod-mul-add p.reader.index (length w) p.writer.index in_p.writer)
      ∙ ap (λ n. n % length w) e
      ∙ mod-mul-add q.reader.index (length w) q.writer.index in_q.writer in
      ap (λ b. b && eqb q.writer.index p.writer.index) (eq-eqb q.reader.index p.reader.index (sym readers))
      ∙ eq-eqb q.writer.index p.writer.index (sym writers)

  apart_numbers : (p q : Pair) → IsWithin r w p → IsWithin r w q → same_pair q p ≡ false
      → (b : Bool) → eqb (number_of p) (number_of q) ≡ b → b ≡ false
  apart_numbers p q in_p in_q differ true e =
      let same : same_pair q p ≡ true = same_from_numbers p q in_p in_q (eqb-true (number_of p) (number_of q) e) in cc
  apart_numbers p q in_p in_q differ false e = refl

or_left : (a b : Bool) → (a || b) ≡ false → a ≡ false
or_left true b e = e
or_left false b e = refl

or_right : (a b : Bool) → (a || b) ≡ false → b ≡ false
or_right true b e = cc
or_right false b e = e

or_of : (a b : Bool) → a ≡ false → b ≡ false → (a || b) ≡ false
or_of true b e f = cc
or_of false b e f = f

-- a pair that was reached stands at some place
reached_at : (gs : List Reached) (p : Pair) → is_reached (entries_of gs) p ≡ true
    → (y : ℕ) × (b : Reached) × (slice_get gs y ≡ Some b) × (same_pair b.entry.pair p ≡ true)
reached_at [] p e = cc
reached_at (g ∷ gs) p e = go (same_pair g.entry.pair p) refl (reached_at gs p)
  where
    go : (t : Bool) → same_pair g.entry.pair p ≡ t
        → (is_reached (entries_of gs) p ≡ true → (y : ℕ) × (b : Reached) × (slice_get gs y ≡ Some b) × (same_pair b.entry.pair p ≡ true))
        → (y : ℕ) × (b : Reached) × (slice_get (g ∷ gs) y ≡ Some b) × (same_pair b.entry.pair p ≡ true)
    go true same ih = (0, g, refl, same)
    go false same ih = let (y, b, at, is) = ih (subst (λ t. (t || is_reached (entries_of gs) p) ≡ true) same e) in (suc y, b, at, is)

-- ---- what the search keeps

module _ (r w : List Node) where
  abbrev pub owed : Reached → List Obligation
  owed g = obligations r w g.entry.pair

  abbrev pub numbers_of : List Reached → List ℕ
  numbers_of gs = map (λ g. number_of r w g.entry.pair) gs

-- the pair of roots, at place x
pub record IsRoot (x : ℕ) (g : Reached) : Type 0 where
  pub place : x ≡ 0
  pub pair : g.entry.pair ≡ roots
  pub from : g.entry.from ≡ None
  pub path : g.path ≡ []

-- g at place x was reached from an entry before it, which is one of the first n
pub record IsChild (r w : List Node) (gs : List Reached) (n x : ℕ) (g : Reached) : Type 0 where
  pub parent : Reached
  pub step : Origin
  pub number : ℕ
  pub obligation : Obligation
  pub stands : slice_get gs step.place ≡ Some parent
  pub below : step.place < n
  pub earlier : step.place < x
  pub from : g.entry.from ≡ Some step
  pub owes : slice_get (owed r w parent) number ≡ Some obligation
  pub counted : step.number ≡ number
  pub pair : g.entry.pair ≡ obligation.pair
  pub path : g.path ≡ parent.path ++ number ∷ []

-- the pairs gs were reached from the first n of them
pub record IsReach (r w : List Node) (gs : List Reached) (n : ℕ) : Type 0 where
  pub origins : (x : ℕ) (g : Reached) → slice_get gs x ≡ Some g → IsRoot x g ⊎ IsChild r w gs n x g
  pub sorted : (x y : ℕ) (a b : Reached) → slice_get gs x ≡ Some a → slice_get gs y ≡ Some b → x < y → Before a.path b.path
  pub within : (x : ℕ) (g : Reached) → slice_get gs x ≡ Some g → IsWithin r w g.entry.pair
  pub apart : IsDistinct eqb (numbers_of r w gs)
  pub begun : 0 < length gs

-- the obligation k of a was reached no later than by way of a
abbrev pub Closes : List Reached → Reached → ℕ → Obligation → Type 0
Closes gs a k o = (y : ℕ) × (b : Reached) × (slice_get gs y ≡ Some b) × (b.entry.pair ≡ o.pair) × ComesFirst b.path (a.path ++ k ∷ [])

-- the first n were looked at
pub record IsSearch (r w : List Node) (gs : List Reached) (n : ℕ) : Type 0 where
  pub reach : IsReach r w gs n
  pub no_clash : (x : ℕ) (a : Reached) → x < n → slice_get gs x ≡ Some a → clash_of r w a.entry.pair ≡ None
  pub closed : (x : ℕ) (a : Reached) (k : ℕ) (o : Obligation) → x < n
      → slice_get gs x ≡ Some a → slice_get (owed r w a) k ≡ Some o → Closes gs a k o

-- and then of h, at place n, the first k obligations
pub record IsExpanding (r w : List Node) (gs : List Reached) (n : ℕ) (h : Reached) (k : ℕ) : Type 0 where
  pub reach : IsReach r w gs (n + 1)
  pub head : slice_get gs n ≡ Some h
  pub no_clash : (x : ℕ) (a : Reached) → x < n + 1 → slice_get gs x ≡ Some a → clash_of r w a.entry.pair ≡ None
  pub closed : (x : ℕ) (a : Reached) (m : ℕ) (o : Obligation) → x < n
      → slice_get gs x ≡ Some a → slice_get (owed r w a) m ≡ Some o → Closes gs a m o
  pub closed_head : (m : ℕ) (o : Obligation) → m < k → slice_get (owed r w h) m ≡ Some o → Closes gs h m o
  pub below : (x : ℕ) (a : Reached) → slice_get gs x ≡ Some a → Before a.path (h.path ++ k ∷ [])

-- ---- its steps

none_distinct : IsDistinct eqb []
unfolding IsDistinct
none_distinct = tt

module _ (r w : List Node) where
  -- only the roots were reached
  pub started : (g : Reached) → IsRoot 0 g → IsWithin r w g.entry.pair → IsSearch r w (g ∷ []) 0
  started g root inside = record {
    reach = record {
      origins = λ x a at. inl (first_is x a at);
      sorted = λ x y a b at_x at_y before. absurd (none_before x y b at_y before);
      within = λ x a at. subst (λ (b : Reached). IsWithin r w b.entry.pair) (only x a at).1 inside;
      apart = IsDistinct-push nat_eq_equiv [] (number_of r w g.entry.pair) none_distinct refl;
      begun = omega arith;
    };
    no_clash = λ x a before at. absurd (omega arith);
    closed = λ x a k o before at owes. absurd (omega arith);
  }
    where
      only : (x : ℕ) (a : Reached) → slice_get (g ∷ []) x ≡ Some a → (x ≡ 0) × (g ≡ a)
      only zero a e = (refl, cc)
      only (suc x) a e = cc

      first_is : (x : ℕ) (a : Reached) → slice_get (g ∷ []) x ≡ Some a → IsRoot x a
      first_is x a e = let (zeroth, same) = only x a e in subst (λ y. IsRoot y a) (sym zeroth) (subst (IsRoot 0) same root)

      none_before : (x y : ℕ) (b : Reached) → slice_get (g ∷ []) y ≡ Some b → x < y → ⊥
      none_before x y b e before = let zeroth = (only y b e).0 in omega arith

  module _ (gs : List Reached) (n : ℕ) (h : Reached) (s : IsSearch r w gs n)
      (head : slice_get gs n ≡ Some h) (peaceful : clash_of r w h.entry.pair ≡ None) where
    sooner : (x : ℕ) (a : Reached) → slice_get gs x ≡ Some a → IsRoot x a ⊎ IsChild r w gs n x a → Before a.path (h.path ++ 0 ∷ [])
    sooner x a at (inl root) = subst (λ p. Before p (h.path ++ 0 ∷ [])) (sym root.path) (Before-root h.path 0)
    sooner x a at (inr child) =
        subst (λ p. Before p (h.path ++ 0 ∷ [])) (sym child.path)
        (Before-children child.parent.path h.path child.number 0
        (s.reach.sorted child.step.place n child.parent h child.stands head child.below))

    weaker : (x : ℕ) (a : Reached) → IsRoot x a ⊎ IsChild r w gs n x a → IsRoot x a ⊎ IsChild r w gs (n + 1) x a
    weaker x a (inl root) = inl root
    weaker x a (inr child) =
        inr (
        record {
          parent = child.parent;
          step = child.step;
          number = child.number;
          obligation = child.obligation;
          stands = child.stands;
          below = omega (arith, child.below);
          earlier = child.earlier;
          from = child.from;
          owes = child.owes;
          counted = child.counted;
          pair = child.pair;
          path = child.path;
        })

    -- the next entry has no clash
    pub begins : IsExpanding r w gs n h 0
    begins = record {
      reach = record {
        origins = λ x a at. weaker x a (s.reach.origins x a at);
        sorted = s.reach.sorted;
        within = s.reach.within;
        apart = s.reach.apart;
        begun = s.reach.begun;
      };
      head = head;
      no_clash = λ x a before at. elim (lt_or_last x n before) [
        | inl old ↦ s.no_clash x a old at
        | inr new ↦ let same : h ≡ a = one_there x a new at in subst (λ (b : Reached). clash_of r w b.entry.pair ≡ None) same peaceful
      ];
      closed = s.closed;
      closed_head = λ m o before owes. absurd (omega arith);
      below = λ x a at. sooner x a at (s.reach.origins x a at);
    }
      where
        one_there : (x : ℕ) (a : Reached) → x ≡ n → slice_get gs x ≡ Some a → h ≡ a
        one_there x a new at = let two : Some h ≡ Some a = sym head ∙ ap (slice_get gs) (sym new) ∙ at in cc

  -- all that it owes was reached
  pub finishes : (gs : List Reached) (n : ℕ) (h : Reached) (k : ℕ)
      → IsExpanding r w gs n h k → length (owed r w h) ≤ k → IsSearch r w gs (n + 1)
  finishes gs n h k s all = record {
    reach = s.reach;
    no_clash = s.no_clash;
    closed = λ x a m o before at owes. elim (lt_or_last x n before) [
      | inl old ↦ s.closed x a m o old at owes
      | inr new ↦ of_head a m o (one_there x a new at) owes
    ];
  }
    where
      one_there : (x : ℕ) (a : Reached) → x ≡ n → slice_get gs x ≡ Some a → h ≡ a
      one_there x a new at = let two : Some h ≡ Some a = sym s.head ∙ ap (slice_get gs) (sym new) ∙ at in cc

      of_head : (a : Reached) (m : ℕ) (o : Obligation) → h ≡ a → slice_get (owed r w a) m ≡ Some o → Closes gs a m o
      of_head a m o same owes =
          let of_h : slice_get (owed r w h) m ≡ Some o = subst (λ (b : Reached). slice_get (owed r w b) m ≡ Some o) (sym same) owes in
          let inside : m < length (owed r w h) = get_below (owed r w h) m o of_h in
          subst (λ (b : Reached). Closes gs b m o) same (s.closed_head m o (omega arith) of_h)

-- an entry more changes nothing of the others
abbrev child_at : Reached → ℕ → ℕ → Obligation → Reached
child_at h n k o = record { entry = entry_from n k o.pair; path = h.path ++ k ∷ [] }

lifts : (gs hs : List Reached) (a : Reached) (m : ℕ) (o : Obligation) → Closes gs a m o → Closes (gs ++ hs) a m o
lifts gs hs a m o (y, b, at, same, first) = (y, b, get_push gs hs y b at, same, first)

lifts_origin : (r w : List Node) (gs hs : List Reached) (n x : ℕ) (g : Reached)
    → IsRoot x g ⊎ IsChild r w gs n x g → IsRoot x g ⊎ IsChild r w (gs ++ hs) n x g
lifts_origin r w gs hs n x g (inl root) = inl root
lifts_origin r w gs hs n x g (inr child) =
    inr (
    record {
      parent = child.parent;
      step = child.step;
      number = child.number;
      obligation = child.obligation;
      stands = get_push gs hs child.step.place child.parent child.stands;
      below = child.below;
      earlier = child.earlier;
      from = child.from;
      owes = child.owes;
      counted = child.counted;
      pair = child.pair;
      path = child.path;
    })

-- a pair that wasn't reached has a number of its own
new_number : (r w : List Node) (p : Pair) → IsWithin r w p
    → (gs : List Reached) → ((x : ℕ) (g : Reached) → slice_get gs x ≡ Some g → IsWithin r w g.entry.pair)
    → is_reached (entries_of gs) p ≡ false → list_any (eqb (number_of r w p)) (numbers_of r w gs) ≡ false
new_number r w p inside [] within e = refl
new_number r w p inside (g ∷ gs) within e =
    or_of (eqb (number_of r w p) (number_of r w g.entry.pair)) _
    (apart_numbers r w p g.entry.pair inside (within 0 g refl) (or_left (same_pair g.entry.pair p) _ e) _ refl)
    (new_number r w p inside gs (λ x a at. within (suc x) a at) (or_right (same_pair g.entry.pair p) _ e))

module _ (r w : List Node) (gs : List Reached) (n : ℕ) (h : Reached) (k : ℕ)
    (s : IsExpanding r w gs n h k) (o : Obligation) (owes : slice_get (owed r w h) k ≡ Some o) where
  same_obligation : (m : ℕ) (p : Obligation) → m ≡ k → slice_get (owed r w h) m ≡ Some p → o ≡ p
  same_obligation m p new at = let two : Some o ≡ Some p = sym owes ∙ ap (slice_get (owed r w h)) (sym new) ∙ at in cc

  -- its pair was reached before
  pub skips : is_reached (entries_of gs) o.pair ≡ true → IsExpanding r w gs n h (k + 1)
  skips reached = record {
    reach = s.reach;
    head = s.head;
    no_clash = s.no_clash;
    closed = s.closed;
    closed_head = λ m p before at. elim (lt_or_last m k before) [
      | inl old ↦ s.closed_head m p old at
      | inr new ↦ subst (λ l. Closes gs h l p) (sym new)
          (subst (λ (q : Obligation). Closes gs h k q) (same_obligation m p new at) by_another)
    ];
    below = λ x a at.
        Before_trans a.path (h.path ++ k ∷ []) (h.path ++ (k + 1) ∷ []) (s.below x a at) (Before-siblings h.path k (k + 1) (omega arith));
  }
    where
      by_another : Closes gs h k o
      by_another =
          let (y, b, at, same) = reached_at gs o.pair reached in
          (y, b, at, same_pair-≡ b.entry.pair o.pair same, Before-weaker b.path (h.path ++ k ∷ []) (s.below y b at))

  -- its pair is new
  pub adds : IsWithin r w o.pair → is_reached (entries_of gs) o.pair ≡ false → IsExpanding r w (gs ++ child_at h n k o ∷ []) n h (k + 1)
  adds inside new_pair = record {
    reach = record {
      origins = λ x g at. elim (get_push_cases gs child x g at) [
        | inl old ↦ lifts_origin r w gs (child ∷ []) (n + 1) x g (s.reach.origins x g old)
        | inr new ↦ subst (λ (a : Reached). IsRoot x a ⊎ IsChild r w (gs ++ child ∷ []) (n + 1) x a) new.1 (inr (child_of_head x new.0))
      ];
      sorted = sorted_now;
      within = λ x g at. elim (get_push_cases gs child x g at) [
        | inl old ↦ s.reach.within x g old
        | inr new ↦ subst (λ (a : Reached). IsWithin r w a.entry.pair) new.1 inside
      ];
      apart = subst (IsDistinct eqb) (sym (map-append (λ (g : Reached). number_of r w g.entry.pair) gs (child ∷ [])))
          (IsDistinct-push nat_eq_equiv (numbers_of r w gs) (number_of r w o.pair) s.reach.apart
          (new_number r w o.pair inside gs s.reach.within new_pair));
      begun = get_below (gs ++ child ∷ []) 0 (first_of gs s.reach.begun).0
          (get_push gs (child ∷ []) 0 (first_of gs s.reach.begun).0 (first_of gs s.reach.begun).1);
    };
    head = get_push gs (child ∷ []) n h s.head;
    no_clash = λ x a before at. elim (get_push_cases gs child x a at) [
      | inl old ↦ s.no_clash x a before old
      | inr new ↦ absurd (past_head x before new.0)
    ];
    closed = λ x a m p before at owes_p. elim (get_push_cases gs child x a at) [
      | inl old ↦ lifts gs (child ∷ []) a m p (s.closed x a m p before old owes_p)
      | inr new ↦ absurd (past_head x (omega arith) new.0)
    ];
    closed_head = λ m p before at. elim (lt_or_last m k before) [
      | inl old ↦ lifts gs (child ∷ []) h m p (s.closed_head m p old at)
      | inr new ↦ subst (λ l. Closes (gs ++ child ∷ []) h l p) (sym new)
          (subst (λ (q : Obligation). Closes (gs ++ child ∷ []) h k q) (same_obligation m p new at) by_child)
    ];
    below = λ x a at. elim (get_push_cases gs child x a at) [
      | inl old ↦ Before_trans a.path (h.path ++ k ∷ []) (h.path ++ (k + 1) ∷ [])
          (s.below x a old) (Before-siblings h.path k (k + 1) (omega arith))
      | inr new ↦ subst (λ (b : Reached). Before b.path (h.path ++ (k + 1) ∷ [])) new.1 (Before-siblings h.path k (k + 1) (omega arith))
    ];
  }
    where
      child : Reached
      child = record { entry = entry_from n k o.pair; path = h.path ++ k ∷ [] }

      head_below : n < length gs
      head_below = get_below gs n h s.head

      past_head : (x : ℕ) → x < n + 1 → x ≡ length gs → ⊥
      past_head x before new = omega (arith, head_below)

      first_of : (gs : List Reached) → 0 < length gs → (g : Reached) × (slice_get gs 0 ≡ Some g)
      first_of [] some = absurd (omega arith)
      first_of (g ∷ gs) some = (g, refl)

      child_of_head : (x : ℕ) → x ≡ length gs → IsChild r w (gs ++ child ∷ []) (n + 1) x child
      child_of_head x new = record {
        parent = h;
        step = record { place = n; number = k };
        number = k;
        obligation = o;
        stands = get_push gs (child ∷ []) n h s.head;
        below = omega arith;
        earlier = omega (arith, head_below);
        from = refl;
        owes = owes;
        counted = refl;
        pair = refl;
        path = refl;
      }

      by_child : Closes (gs ++ child ∷ []) h k o
      by_child = (length gs, child, get_last gs child, refl, ComesFirst_refl (h.path ++ k ∷ []))

      sorted_now : (x y : ℕ) (a b : Reached) → slice_get (gs ++ child ∷ []) x ≡ Some a
          → slice_get (gs ++ child ∷ []) y ≡ Some b → x < y → Before a.path b.path
      sorted_now x y a b at_x at_y before = elim (get_push_cases gs child x a at_x) [
        | inl old_x ↦ elim (get_push_cases gs child y b at_y) [
          | inl old_y ↦ s.reach.sorted x y a b old_x old_y before
          | inr new_y ↦ subst (λ (c : Reached). Before a.path c.path) new_y.1 (s.below x a old_x)
        ]
        | inr new_x ↦ elim (get_push_cases gs child y b at_y) [
          | inl old_y ↦ let inside_y : y < length gs = get_below gs y b old_y in absurd (omega (arith, new_x.0))
          | inr new_y ↦ absurd (omega (arith, new_x.0, new_y.0))
        ]
      ]

-- ---- all obligations of the head

module _ (r w : List Node) (n : ℕ) (h : Reached)
    (inside : (m : ℕ) (o : Obligation) → slice_get (owed r w h) m ≡ Some o → IsWithin r w o.pair) where
  abbrev Expands : List Obligation → ℕ → List Reached → Type 0
  Expands os k gs =
      (gs' : List Reached) × (entries_of gs' ≡ expanded n k (pairs_of os) (entries_of gs)) × IsExpanding r w gs' n h (k + length os)

  expand_from : (os : List Obligation) (k : ℕ) (gs : List Reached) → IsExpanding r w gs n h k
      → ((m : ℕ) (o : Obligation) → slice_get os m ≡ Some o → slice_get (owed r w h) (k + m) ≡ Some o) → Expands os k gs
  expand_from [] k gs s owes = (gs, refl, subst (IsExpanding r w gs n h) (let e : k ≡ k + 0 = omega arith in e) s)
  expand_from (o ∷ os) k gs s owes = go (is_reached (entries_of gs) o.pair) refl (λ hs t. expand_from os (k + 1) hs t later)
    where
      now : slice_get (owed r w h) k ≡ Some o
      now = ap (slice_get (owed r w h)) (let e : k ≡ k + 0 = omega arith in e) ∙ owes 0 o refl

      later : (m : ℕ) (p : Obligation) → slice_get os m ≡ Some p → slice_get (owed r w h) (k + 1 + m) ≡ Some p
      later m p at = ap (slice_get (owed r w h)) (let e : k + 1 + m ≡ k + suc m = omega arith in e) ∙ owes (suc m) p at

      counted : (hs : List Reached) → IsExpanding r w hs n h (k + 1 + length os) → IsExpanding r w hs n h (k + suc (length os))
      counted hs t = subst (IsExpanding r w hs n h) (let e : k + 1 + length os ≡ k + suc (length os) = omega arith in e) t

      go : (b : Bool) → is_reached (entries_of gs) o.pair ≡ b
          → ((hs : List Reached) → IsExpanding r w hs n h (k + 1) → Expands os (k + 1) hs) → Expands (o ∷ os) k gs
      go true is ih =
          let (hs, same, t) = ih gs (skips r w gs n h k s o now is) in (
            hs,
            same ∙ ap (λ b. expanded n (k + 1) (pairs_of os) (unless_reached b (entries_of gs) (entry_from n k o.pair))) (sym is),
            counted hs t,
          )
      go false is ih =
          let (hs, same, t) = ih (gs ++ child_at h n k o ∷ []) (adds r w gs n h k s o now (inside k o now) is) in (
            hs,
            same
                ∙ ap (expanded n (k + 1) (pairs_of os)) (map-append (λ (g : Reached). g.entry) gs (child_at h n k o ∷ []))
                ∙ ap (λ b. expanded n (k + 1) (pairs_of os) (unless_reached b (entries_of gs) (entry_from n k o.pair))) (sym is),
            counted hs t,
          )

  -- the head is done
  pub expands : (gs : List Reached) → IsSearch r w gs n → slice_get gs n ≡ Some h → clash_of r w h.entry.pair ≡ None
      → (gs' : List Reached) × (entries_of gs' ≡ expanded n 0 (pairs_of (owed r w h)) (entries_of gs)) × IsSearch r w gs' (n + 1)
  expands gs s head peaceful =
      let (hs, same, t) = expand_from (owed r w h) 0 gs (begins r w gs n h s head peaceful)
      (λ m o at. ap (slice_get (owed r w h)) (let e : 0 + m ≡ m = omega arith in e) ∙ at) in
      (hs, same, finishes r w hs n h (0 + length (owed r w h)) t (omega arith))

-- ---- nothing that leads to a clash comes before the entry that is looked at next

is_none_some : false ≡ true → ⊥
is_none_some p = cc

some_of_map : {A B : Type 0} (f : A → B) (o : Option A) → IsSome (option_map f o) → IsSome o
some_of_map f None p = p
some_of_map f (Some x) p = refl

none_maps : {A B : Type 0} (f : A → B) (o : Option A) → o ≡ None → IsSome (option_map f o) → ⊥
none_maps f None e p = is_none_some p
none_maps f (Some x) e p = cc

module _ (r w : List Node) where
  -- a trail along a first number leads on from what is owed
  onward : (p : Pair) (k : ℕ) (ms : List ℕ) (q : Option Obligation)
      → slice_get (obligations r w p) k ≡ q → IsSome (trail_from r w p (k ∷ ms))
      → (o : Obligation) × (slice_get (obligations r w p) k ≡ Some o) × IsSome (trail_from r w o.pair ms)
  onward p k ms None found leads =
      absurd (
      is_none_some (subst (λ q. IsSome (option_and_then (λ o. option_map (after_hop o.hop) (trail_from r w o.pair ms)) q)) found leads))
  onward p k ms (Some o) found leads = (
    o,
    found,
    some_of_map (after_hop o.hop) _
        (subst (λ q. IsSome (option_and_then (λ o. option_map (after_hop o.hop) (trail_from r w o.pair ms)) q)) found leads),
  )

  module _ (gs : List Reached) (n : ℕ) (s : IsSearch r w gs n) (e : Reached) (next : slice_get gs n ≡ Some e) where
    -- from an entry that was not looked at
    later : (x : ℕ) (a : Reached) (ms : List ℕ) → slice_get gs x ≡ Some a → n ≤ x → ComesFirst e.path (a.path ++ ms)
    later x a ms here h = elim (lt_or_le n x) [
      | inl before ↦ ComesFirst_trans e.path a.path (a.path ++ ms)
          (Before-weaker e.path a.path (s.reach.sorted n x e a next here before)) (ComesFirst-longer a.path ms)
      | inr above ↦
          let place : x ≡ n = omega arith in
          let two : Some a ≡ Some e = sym here ∙ ap (slice_get gs) place ∙ next in
          let one : a ≡ e = cc in
          subst (λ (b : Reached). ComesFirst b.path (a.path ++ ms)) one (ComesFirst-longer a.path ms)
    ]

    comes_first : (ms : List ℕ) (x : ℕ) (a : Reached) → slice_get gs x ≡ Some a
        → IsSome (trail_from r w a.entry.pair ms) → ComesFirst e.path (a.path ++ ms)
    comes_first [] x a here leads = elim (lt_or_le x n) [
      | inl h ↦ absurd (none_maps end_at (clash_of r w a.entry.pair) (s.no_clash x a h here) leads)
      | inr h ↦ later x a [] here h
    ]
    comes_first (k ∷ ms) x a here leads = elim (lt_or_le x n) [
      | inl h ↦ through x a k ms here h leads (λ y b at_y p. comes_first ms y b at_y p)
      | inr h ↦ later x a (k ∷ ms) here h
    ]
      where
        -- the obligation that the first number takes was reached no later
        through : (x : ℕ) (a : Reached) (k : ℕ) (ms : List ℕ) → slice_get gs x ≡ Some a
            → x < n → IsSome (trail_from r w a.entry.pair (k ∷ ms)) →
            ((y : ℕ) (b : Reached) → slice_get gs y ≡ Some b → IsSome (trail_from r w b.entry.pair ms) → ComesFirst e.path (b.path ++ ms)) →
            ComesFirst e.path (a.path ++ k ∷ ms)
        through x a k ms here h leads ih =
            let (o, found, on) = onward a.entry.pair k ms _ refl leads in
            let (y, b, at_y, same, first) = s.closed x a k o h here found in
            let from_b : IsSome (trail_from r w b.entry.pair ms) = rw same on in
            let chain : ComesFirst (b.path ++ ms) ((a.path ++ k ∷ []) ++ ms) = ComesFirst-append b.path (a.path ++ k ∷ []) ms first in
            ComesFirst_trans e.path (b.path ++ ms) (a.path ++ k ∷ ms) (ih y b at_y from_b)
            (subst (λ l. ComesFirst (b.path ++ ms) l) (append_assoc a.path (k ∷ []) ms) chain)

  -- where each entry was looked at, nothing leads to a clash
  module _ (gs : List Reached) (s : IsSearch r w gs (length gs)) where
    leads_nowhere : (ms : List ℕ) (x : ℕ) (a : Reached) → slice_get gs x ≡ Some a → IsSome (trail_from r w a.entry.pair ms) → ⊥
    leads_nowhere [] x a here leads = none_maps end_at (clash_of r w a.entry.pair) (s.no_clash x a (get_below gs x a here) here) leads
    leads_nowhere (k ∷ ms) x a here leads = through x a k ms here leads (λ y b at_y p. leads_nowhere ms y b at_y p)
      where
        through : (x : ℕ) (a : Reached) (k : ℕ) (ms : List ℕ) → slice_get gs x ≡ Some a → IsSome (trail_from r w a.entry.pair (k ∷ ms)) →
            ((y : ℕ) (b : Reached) → slice_get gs y ≡ Some b → IsSome (trail_from r w b.entry.pair ms) → ⊥) → ⊥
        through x a k ms here leads ih =
            let (o, found, on) = onward a.entry.pair k ms _ refl leads in
            let (y, b, at_y, same, first) = s.closed x a k o (get_below gs x a here) here found in
            ih y b at_y (rw same on)

-- ---- the way back is the trail

-- a trail before which these hops were made, the last one first
prepended : List Hop → Trail → Trail
prepended [] t = t
prepended (h ∷ back) t = prepended back (after_hop h t)

prepended_is : (back : List Hop) (t : Trail) → prepended back t ≡ record { hops = reverse back ++ t.hops; kind = t.kind }
unfolding prepended
prepended_is [] t = refl
prepended_is (h ∷ back) t =
    prepended_is back (after_hop h t)
    ∙ ap (λ l. record { hops = l; kind = t.kind })
    (sym (append_assoc (reverse back) (h ∷ []) t.hops) ∙ ap (λ l. l ++ t.hops) (sym (reverse-append (h ∷ []) back)))

from_of : (gs : List Reached) (x : ℕ) (g : Reached) → slice_get gs x ≡ Some g → from_at (entries_of gs) x ≡ g.entry.from
from_of gs x g at =
    ap (option_and_then (λ (e : ReachedPair). e.from))
    (slice_get-map (λ (a : Reached). a.entry) gs x ∙ ap (option_map (λ (a : Reached). a.entry)) at)

-- the hop of the step by which an entry was reached
hop_of_child : (r w : List Node) (gs : List Reached) (n x : ℕ) (g : Reached) (c : IsChild r w gs n x g)
    → hop_at r w (entries_of gs) c.step ≡ Some c.obligation.hop
hop_of_child r w gs n x g c =
    ap (option_and_then (λ (e : ReachedPair). hop_numbered r w e.pair c.step.number))
    (slice_get-map (λ (a : Reached). a.entry) gs c.step.place ∙ ap (option_map (λ (a : Reached). a.entry)) c.stands)
    ∙ ap (hop_numbered r w c.parent.entry.pair) c.counted
    ∙ ap (option_map (λ (o : Obligation). o.hop)) c.owes

module _ (r w : List Node) (gs : List Reached) (n : ℕ) (s : IsReach r w gs n) where
  way_trail : (back : List Hop) (x : ℕ) (g : Reached) → slice_get gs x ≡ Some g → IsWayBack r w (entries_of gs) x back
      → (ms : List ℕ) (t : Trail) → trail_from r w g.entry.pair ms ≡ Some t → trail_from r w roots (g.path ++ ms) ≡ Some (prepended back t)
  unfolding prepended
  way_trail [] x g at way ms t leads = elim (s.origins x g at) [
    | inl root ↦ ap (λ p. trail_from r w roots (p ++ ms)) root.path ∙ ap (λ p. trail_from r w p ms) (sym root.pair) ∙ leads
    | inr child ↦ let no : None ≡ Some child.step = sym way ∙ from_of gs x g at ∙ child.from in cc
  ]
  way_trail (h ∷ back) x g at way ms t leads = elim (s.origins x g at) [
    | inl root ↦ let no : None ≡ Some way.0 = sym root.from ∙ sym (from_of gs x g at) ∙ way.1 in cc
    | inr child ↦ by_child child (λ y a stands rest ks u on. way_trail back y a stands rest ks u on)
  ]
    where
      by_child : IsChild r w gs n x g
          → ((y : ℕ) (a : Reached) → slice_get gs y ≡ Some a → IsWayBack r w (entries_of gs) y back → (ks : List ℕ) (u : Trail)
          → trail_from r w a.entry.pair ks ≡ Some u → trail_from r w roots (a.path ++ ks) ≡ Some (prepended back u))
          →
          trail_from r w roots (g.path ++ ms) ≡ Some (prepended back (after_hop h t))
      by_child child ih =
          let (step, from, same, rest) = way in
          let two : Some step ≡ Some child.step = sym from ∙ from_of gs x g at ∙ child.from in
          let one : step ≡ child.step = cc in
          let both : Some child.obligation.hop ≡ Some h =
          sym (hop_of_child r w gs n x g child) ∙ ap (hop_at r w (entries_of gs)) (sym one) ∙ same in
          let hops : child.obligation.hop ≡ h = cc in
          let on : trail_from r w child.parent.entry.pair (child.number ∷ ms) ≡ Some (after_hop h t) =
          ap (option_and_then (λ o. option_map (after_hop o.hop) (trail_from r w o.pair ms))) child.owes
          ∙ ap (λ p. option_map (after_hop child.obligation.hop) (trail_from r w p ms)) (sym child.pair)
          ∙ ap (option_map (after_hop child.obligation.hop)) leads
          ∙ ap (λ k. Some (after_hop k t)) hops in
          let behind : IsWayBack r w (entries_of gs) child.step.place back =
          subst (λ (z : Origin). IsWayBack r w (entries_of gs) z.place back) one rest in
          ap (λ p. trail_from r w roots (p ++ ms)) child.path
          ∙ ap (trail_from r w roots) (append_assoc child.parent.path (child.number ∷ []) ms)
          ∙ ih child.step.place child.parent child.stands behind (child.number ∷ ms) (after_hop h t) on

-- ---- what the search comes to

first_of : (gs : List Reached) → 0 < length gs → (g : Reached) × (slice_get gs 0 ≡ Some g)
first_of [] some = absurd (omega arith)
first_of (g ∷ gs) some = (g, refl)

root_of : (r w : List Node) (gs : List Reached) (n : ℕ) → IsReach r w gs n → (g : Reached) × (slice_get gs 0 ≡ Some g) × IsRoot 0 g
root_of r w gs n s =
    let (g, at) = first_of gs s.begun in
    (g, at, elim (s.origins 0 g at) [ inl root ↦ root | inr child ↦ absurd (omega (arith, child.earlier)) ])

-- the entry that is looked at clashes
pub shows : (r w : List Node) (gs : List Reached) (n : ℕ) (e : Reached) (c : ClashKind) (hops : List Hop)
    → IsSearch r w gs n → slice_get gs n ≡ Some e → clash_of r w e.entry.pair ≡ Some c
    → IsWayBack r w (entries_of gs) n (reverse hops) → IsShown r w (record { hops = hops; kind = c })
shows r w gs n e c hops s next clash way = (e.path, leads, first)
  where
    leads : trail_along r w e.path ≡ Some (record { hops = hops; kind = c })
    leads = ap (trail_along r w) (sym (append-nil e.path))
        ∙ way_trail r w gs n s.reach (reverse hops) n e next way [] (end_at c) (ap (option_map end_at) clash)
        ∙ ap Some (
        prepended_is (reverse hops) (end_at c)
        ∙ ap (λ l. record { hops = l; kind = c }) (append-nil (reverse (reverse hops)) ∙ reverse-reverse hops))

    first : (ls : List ℕ) → IsSome (trail_along r w ls) → ComesFirst e.path ls
    first ls some =
        let (g, at, root) = root_of r w gs n s.reach in
        let from_root : IsSome (trail_from r w g.entry.pair ls) = rw root.pair some in
        subst (λ p. ComesFirst e.path (p ++ ls)) root.path (comes_first r w gs n s e next ls 0 g at from_root)

none_of : {A : Type 0} (o : Option A) → (IsSome o → ⊥) → o ≡ None
none_of None h = refl
none_of (Some x) h = absurd (h refl)

-- each entry was looked at
pub is_compatible : (r w : List Node) (gs : List Reached) → IsSearch r w gs (length gs) → AreCompatible r w
is_compatible r w gs s ks =
    let (g, at, root) = root_of r w gs (length gs) s.reach in
    none_of (trail_along r w ks)
    (λ some. let from_root : IsSome (trail_from r w g.entry.pair ks) = rw root.pair some in leads_nowhere r w gs s ks 0 g at from_root)

-- no more pairs are reached than there are
number_below : (r w : List Node) (gs : List Reached) → ((x : ℕ) (g : Reached) → slice_get gs x ≡ Some g → IsWithin r w g.entry.pair)
    → (q : ℕ) → list_any (eqb q) (numbers_of r w gs) ≡ true → q < length r * length w
number_below r w [] within q e = cc
number_below r w (g ∷ gs) within q e = go (eqb q (number_of r w g.entry.pair)) refl (number_below r w gs (λ x a at. within (suc x) a at) q)
  where
    go : (b : Bool) → eqb q (number_of r w g.entry.pair) ≡ b
        → (list_any (eqb q) (numbers_of r w gs) ≡ true → q < length r * length w) → q < length r * length w
    go true same ih =
        let inside = within 0 g refl in
        let below : number_of r w g.entry.pair < length w * length r =
        mul-add-lt g.entry.pair.reader.index (length w) g.entry.pair.writer.index (length r) inside.reader inside.writer in
        omega (arith, below, eqb-true q (number_of r w g.entry.pair) same, mul_comm (length r) (length w))
    go false same ih = ih (subst (λ t. (t || list_any (eqb q) (numbers_of r w gs)) ≡ true) same e)

length-map : {A B : Type 0} (f : A → B) (xs : List A) → length (map f xs) ≡ length xs
length-map f [] = refl
length-map f (x ∷ xs) = ap suc (length-map f xs)

pub at_most_all : (r w : List Node) (gs : List Reached) (n : ℕ) → IsReach r w gs n → length gs ≤ length r * length w
at_most_all r w gs n s =
    subst (λ m. m ≤ length r * length w) (length-map (λ (g : Reached). number_of r w g.entry.pair) gs)
    (length-le_from_distinct_below (numbers_of r w gs) (length r * length w) s.apart (number_below r w gs s.within))

-- ---- the loop of `resolve_counted`

-- what it keeps: the entries, of which the first n were looked at, with the numbers that led to each
pub record IsSearched (r w : List Node) (es : List ReachedPair) (n : ℕ) : Type 0 where
  pub reached : List Reached
  pub entries : es ≡ entries_of reached
  pub search : IsSearch r w reached n

-- the roots were reached by no step
no_step : (from : Option Origin) (s : Origin) → from ≡ None → from ≡ Some s → ⊥
no_step from s e is = let no : None ≡ Some s = sym e ∙ is in cc

-- the others by one
one_step : (from : Option Origin) (a s : Origin) → from ≡ Some a → from ≡ Some s → a ≡ s
one_step from a s e is = let two : Some a ≡ Some s = sym e ∙ is in cc

-- each entry leads back
pub leads_back : (r w : List Node) (es : List ReachedPair) (n : ℕ) → IsSearched r w es n → LeadsBack r w es
leads_back r w es n k = subst (LeadsBack r w) (sym k.entries) back
  where
    stands : (gs : List Reached) (x : ℕ) (s : Origin) → from_at (entries_of gs) x ≡ Some s
        → (g : Reached) × (slice_get gs x ≡ Some g) × (g.entry.from ≡ Some s)
    stands [] x s e = cc
    stands (g ∷ gs) zero s e = (g, refl, e)
    stands (g ∷ gs) (suc x) s e = stands gs x s e

    by_child : (x : ℕ) (g : Reached) → (c : IsChild r w k.reached n x g) → IsStep r w (entries_of k.reached) x c.step
    by_child x g c = record {
      earlier = c.earlier;
      entry = c.parent.entry;
      stands = slice_get-map (λ (a : Reached). a.entry) k.reached c.step.place ∙ ap (option_map (λ (a : Reached). a.entry)) c.stands;
      reader = (k.search.reach.within c.step.place c.parent c.stands).reader;
      writer = (k.search.reach.within c.step.place c.parent c.stands).writer;
      numbered = subst (λ m. m < length (owed r w c.parent)) (sym c.counted) (get_below (owed r w c.parent) c.number c.obligation c.owes);
    }

    back : LeadsBack r w (entries_of k.reached)
    back x s from =
        let (g, at, is) = stands k.reached x s from in
        elim (k.search.reach.origins x g at) [
          | inl root ↦ absurd (no_step g.entry.from s root.from is)
          | inr child ↦ subst (IsStep r w (entries_of k.reached) x) (one_step g.entry.from child.step s child.from is) (by_child x g child)
        ]

-- the entry at a place, and what was reached there
entry_at : (gs : List Reached) (x : ℕ) (e : ReachedPair) → slice_get (entries_of gs) x ≡ Some e
    → (g : Reached) × (slice_get gs x ≡ Some g) × (g.entry ≡ e)
entry_at [] x e h = cc
entry_at (g ∷ gs) zero e h = (g, refl, cc)
entry_at (g ∷ gs) (suc x) e h = entry_at gs x e h

module _ (r w : List Node) (es : List ReachedPair) (n : ℕ) (k : IsSearched r w es n) where
  there : (e : ReachedPair) → slice_get es n ≡ Some e → (g : Reached) × (slice_get k.reached n ≡ Some g) × (g.entry ≡ e)
  there e at = entry_at k.reached n e (ap (λ l. slice_get l n) (sym k.entries) ∙ at)

  -- the pair that is looked at is one of the schemas'
  pub searched_within : (e : ReachedPair) → slice_get es n ≡ Some e → IsWithin r w e.pair
  searched_within e at = let (g, at_g, is) = there e at in subst (λ (x : ReachedPair). IsWithin r w x.pair) is (k.search.reach.within n g at_g)

  -- it clashes
  pub searched_clash : (e : ReachedPair) (c : ClashKind) (hops : List Hop) → slice_get es n ≡ Some e
      → outcome r w e.pair ≡ Err c → IsWayBack r w es n (reverse hops) → IsShown r w (record { hops = hops; kind = c })
  searched_clash e c hops at is way =
      let (g, at_g, same) = there e at in
      shows r w k.reached n g c hops k.search at_g (ap (λ (x : ReachedPair). clash_of r w x.pair) same ∙ ap result_err is)
      (subst (λ l. IsWayBack r w l n (reverse hops)) k.entries way)

  -- it doesn't
  pub searched_next : IsSound r → IsSound w → (e : ReachedPair) (os : List Obligation) → slice_get es n ≡ Some e
      → outcome r w e.pair ≡ Ok os → IsSearched r w (expanded n 0 (pairs_of os) es) (n + 1)
  searched_next s t e os at is =
      let (g, at_g, same) = there e at in
      let of_g : outcome r w g.entry.pair ≡ Ok os = ap (λ (x : ReachedPair). outcome r w x.pair) same ∙ is in
      let inside = k.search.reach.within n g at_g in
      let (hs, entries, search) =
      expands r w n g (obligations_within r w s t g.entry.pair inside) k.reached k.search at_g (ap result_err of_g) in
      record {
        reached = hs;
        entries = sym (
            entries
            ∙ ap (λ l. expanded n 0 (pairs_of l) (entries_of k.reached)) (ap owed_in of_g)
            ∙ ap (expanded n 0 (pairs_of os)) (sym k.entries));
        search = search;
      }

  -- more pairs than there are nodes of both can't be reached
  pub searched_few : length es ≤ length r * length w
  searched_few =
      subst (λ m. m ≤ length r * length w) (sym (ap length k.entries ∙ length-map (λ (g : Reached). g.entry) k.reached))
      (at_most_all r w k.reached n k.search.reach)

  -- all were looked at
  pub searched_all : n ≡ length es → AreCompatible r w
  searched_all e =
      is_compatible r w k.reached (
      subst (IsSearch r w k.reached) (e ∙ ap length k.entries ∙ length-map (λ (g : Reached). g.entry) k.reached) k.search)

-- only the roots were reached
pub searched_first : (r w : List Node) → IsSound r → IsSound w → (es : List ReachedPair)
    → es ≡ record { pair = roots; from = None } ∷ [] → IsSearched r w es 0
searched_first r w s t es is =
    let root : Reached = record { entry = record { pair = roots; from = None }; path = [] } in
    record {
      reached = root ∷ [];
      entries = is;
      search = started r w root (record { place = refl; pair = refl; from = refl; path = refl })
          (record { reader = s.has_root; writer = t.has_root });
    }

-- entries are never taken away
pub length-expanded : (n k : ℕ) (os : List Obligation) (es : List ReachedPair) → length es ≤ length (expanded n k (pairs_of os) es)
length-expanded n k [] es = omega arith
length-expanded n k (o ∷ os) es =
    omega (arith, more (is_reached es o.pair), length-expanded n (k + 1) os (with_entry es (entry_from n k o.pair)))
  where
    more : (b : Bool) → length es ≤ length (unless_reached b es (entry_from n k o.pair))
    more true = omega arith
    more false = omega (arith, length-append es (entry_from n k o.pair ∷ []))
