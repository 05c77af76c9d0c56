-- The held connection of the first places that asked first, and the one that holds most.
use Rattle.std.proofs.Common.{◌≡◌, ◌<◌, ◌≤◌, ◌+◌, ℕ, List, Bool, Some, None, true, false, refl, sym, ap, subst, arith, below_more, length}
use Rattle.std.specs.Prelude.{Option, nat_le, nat_lt, option_map, slice_get, if◌then◌else◌}
use Rattle.std.proofs.lemmas.Option.{slice_get_within}
use Rattle.reg_connection.specs.Connection.{weight_of}
use Rattle.reg_connection.specs.Places.{HeaviestOf, IsHeaviest, IsOldest, OldestOf, greater, held_in, lesser}
use Rattle.reg_connection.specs.declared.connection.Connection.{Connection}
use Rattle.reg_connection.specs.declared.places.Place.{Place}

module _ {S T : Type 0} where
  same-asked : (all : List (Place S T)) (n : ℕ) (c d : Connection S T)
      → held_in (slice_get all n) ≡ Some c → held_in (slice_get all n) ≡ Some d → d.asked ≡ c.asked
  same-asked all n c d is other = (let same : d ≡ c = cc in ap (λ (x : Connection S T). x.asked) same)

  same-weight : (all : List (Place S T)) (n : ℕ) (c d : Connection S T)
      → held_in (slice_get all n) ≡ Some c → held_in (slice_get all n) ≡ Some d → weight_of d ≡ weight_of c
  same-weight all n c d is other = (let same : d ≡ c = cc in ap (λ (x : Connection S T). weight_of x) same)

  -- a place that has one is there
  there : (all : List (Place S T)) (i : ℕ) (place : Option (Place S T)) (c : Connection S T)
      → slice_get all i ≡ place → held_in place ≡ Some c → i < length all
  there all i (Some place) c is held = slice_get_within all i place is
  there all i None c is held = absurd (cc)

  inside : (all : List (Place S T)) (n i : ℕ) (c : Connection S T) → length all ≤ n → held_in (slice_get all i) ≡ Some c → i < n
  inside all n i c ends held = omega (arith, ends, there all i (slice_get all i) c refl held)

  -- the next place has none
  pub oldest_past : (n by : ℕ) (all : List (Place S T)) (found : Option (ℕ × ℕ)) → OldestOf n by all found
      → held_in (slice_get all n) ≡ None → OldestOf (n + 1) by all found
  oldest_past n by all None so none =
      below_more (λ i. (c : Connection S T) → held_in (slice_get all i) ≡ Some c → by < c.asked) n so (λ c is. absurd (cc))
  oldest_past n by all (Some (at, least)) (oldest, held, asked, within, others) none = (
    oldest,
    held,
    asked,
    within,
    below_more (λ i. (c : Connection S T) → held_in (slice_get all i) ≡ Some c → least ≤ c.asked) n others (λ c is. absurd (cc)),
  )

  pub heaviest_past : (n : ℕ) (all : List (Place S T)) (found : Option (ℕ × ℕ)) → HeaviestOf n all found
      → held_in (slice_get all n) ≡ None → HeaviestOf (n + 1) all found
  heaviest_past n all None so none =
      below_more (λ i. (c : Connection S T) → held_in (slice_get all i) ≡ Some c → weight_of c ≡ 0) n so (λ c is. absurd (cc))
  heaviest_past n all (Some (at, most)) (heaviest, held, weighs, some, others) none = (
    heaviest,
    held,
    weighs,
    some,
    below_more (λ i. (c : Connection S T) → held_in (slice_get all i) ≡ Some c → weight_of c ≤ most) n others (λ c is. absurd (cc)),
  )

  -- the first one, or none yet
  oldest-first : (n by : ℕ) (all : List (Place S T)) (c : Connection S T) (within : Bool) → nat_le c.asked by ≡ within
      → OldestOf n by all None → held_in (slice_get all n) ≡ Some c
      → OldestOf (n + 1) by all (if within then Some (n, c.asked) else None)
  oldest-first n by all c true test so is =
      let early : c.asked ≤ by = grind (arith, test) in (
        c,
        is,
        refl,
        early,
        below_more (λ i. (d : Connection S T) → held_in (slice_get all i) ≡ Some d → c.asked ≤ d.asked) n
            (λ i below d held. (let late : by < d.asked = so i below d held in omega (arith, late, early)))
            (λ d held. omega (arith, same-asked all n c d is held)),
      )
  oldest-first n by all c false test so is =
      let late : by < c.asked = grind (arith, test) in
      below_more (λ i. (d : Connection S T) → held_in (slice_get all i) ≡ Some d → by < d.asked) n so
      (λ d held. omega (arith, late, same-asked all n c d is held))

  -- another one, before or after the one that was found
  oldest-other : (n by at least : ℕ) (all : List (Place S T)) (c : Connection S T) (before : Bool) → nat_lt c.asked least ≡ before
      → OldestOf n by all (Some (at, least)) → held_in (slice_get all n) ≡ Some c
      → OldestOf (n + 1) by all (if before then Some (n, c.asked) else Some (at, least))
  oldest-other n by at least all c true test (oldest, held, asked, within, others) is =
      let earlier : c.asked < least = grind (arith, test) in (
        c,
        is,
        refl,
        omega (arith, earlier, within),
        below_more (λ i. (d : Connection S T) → held_in (slice_get all i) ≡ Some d → c.asked ≤ d.asked) n
            (λ i below d there. (let late : least ≤ d.asked = others i below d there in omega (arith, late, earlier)))
            (λ d there. omega (arith, same-asked all n c d is there)),
      )
  oldest-other n by at least all c false test (oldest, held, asked, within, others) is =
      let later : least ≤ c.asked = grind (arith, test) in (
        oldest,
        held,
        asked,
        within,
        below_more (λ i. (d : Connection S T) → held_in (slice_get all i) ≡ Some d → least ≤ d.asked) n others
            (λ d there. omega (arith, later, same-asked all n c d is there)),
      )

  -- the next place has one
  pub oldest_more : (n by : ℕ) (all : List (Place S T)) (found : Option (ℕ × ℕ)) (c : Connection S T) → OldestOf n by all found
      → held_in (slice_get all n) ≡ Some c → OldestOf (n + 1) by all (lesser found n c.asked by)
  oldest_more n by all None c so is = oldest-first n by all c (nat_le c.asked by) refl so is
  oldest_more n by all (Some (at, least)) c so is = oldest-other n by at least all c (nat_lt c.asked least) refl so is

  heaviest-first : (n : ℕ) (all : List (Place S T)) (c : Connection S T) (some : Bool) → nat_lt 0 (weight_of c) ≡ some
      → HeaviestOf n all None → held_in (slice_get all n) ≡ Some c
      → HeaviestOf (n + 1) all (if some then Some (n, weight_of c) else None)
  heaviest-first n all c true test so is =
      let heavy : 0 < weight_of c = grind (arith, test) in (
        c,
        is,
        refl,
        heavy,
        below_more (λ i. (d : Connection S T) → held_in (slice_get all i) ≡ Some d → weight_of d ≤ weight_of c) n
            (λ i below d held. (let light : weight_of d ≡ 0 = so i below d held in omega (arith, light, heavy)))
            (λ d held. omega (arith, same-weight all n c d is held)),
      )
  heaviest-first n all c false test so is =
      let light : weight_of c ≡ 0 = grind (arith, test) in
      below_more (λ i. (d : Connection S T) → held_in (slice_get all i) ≡ Some d → weight_of d ≡ 0) n so
      (λ d held. omega (arith, light, same-weight all n c d is held))

  heaviest-other : (n at most : ℕ) (all : List (Place S T)) (c : Connection S T) (more : Bool) → nat_lt most (weight_of c) ≡ more
      → HeaviestOf n all (Some (at, most)) → held_in (slice_get all n) ≡ Some c
      → HeaviestOf (n + 1) all (if more then Some (n, weight_of c) else Some (at, most))
  heaviest-other n at most all c true test (heaviest, held, weighs, some, others) is =
      let heavier : most < weight_of c = grind (arith, test) in (
        c,
        is,
        refl,
        omega (arith, heavier, some),
        below_more (λ i. (d : Connection S T) → held_in (slice_get all i) ≡ Some d → weight_of d ≤ weight_of c) n
            (λ i below d there. (let light : weight_of d ≤ most = others i below d there in omega (arith, light, heavier)))
            (λ d there. omega (arith, same-weight all n c d is there)),
      )
  heaviest-other n at most all c false test (heaviest, held, weighs, some, others) is =
      let lighter : weight_of c ≤ most = grind (arith, test) in (
        heaviest,
        held,
        weighs,
        some,
        below_more (λ i. (d : Connection S T) → held_in (slice_get all i) ≡ Some d → weight_of d ≤ most) n others
            (λ d there. omega (arith, lighter, same-weight all n c d is there)),
      )

  pub heaviest_more : (n : ℕ) (all : List (Place S T)) (found : Option (ℕ × ℕ)) (c : Connection S T) → HeaviestOf n all found
      → held_in (slice_get all n) ≡ Some c → HeaviestOf (n + 1) all (greater found n (weight_of c))
  heaviest_more n all None c so is = heaviest-first n all c (nat_lt 0 (weight_of c)) refl so is
  heaviest_more n all (Some (at, most)) c so is = heaviest-other n at most all c (nat_lt most (weight_of c)) refl so is

  -- of all places
  pub oldest-all : (n by : ℕ) (all : List (Place S T)) (found : Option (ℕ × ℕ)) (result : Option ℕ) → length all ≤ n
      → result ≡ option_map (λ chosen. chosen.0) found → OldestOf n by all found → IsOldest by all result
  oldest-all n by all None result ends is so = subst (IsOldest by all) (sym is) (λ i c there. so i (inside all n i c ends there) c there)
  oldest-all n by all (Some (at, least)) result ends is (oldest, held, asked, within, others) = subst (IsOldest by all) (sym is) (
    oldest,
    held,
    omega (arith, asked, within),
    λ i c there. (let late : least ≤ c.asked = others i (inside all n i c ends there) c there in omega (arith, asked, late)),
  )

  pub heaviest-all : (n : ℕ) (all : List (Place S T)) (found : Option (ℕ × ℕ)) (result : Option ℕ) → length all ≤ n
      → result ≡ option_map (λ chosen. chosen.0) found → HeaviestOf n all found → IsHeaviest all result
  heaviest-all n all None result ends is so = subst (IsHeaviest all) (sym is) (λ i c there. so i (inside all n i c ends there) c there)
  heaviest-all n all (Some (at, most)) result ends is (heaviest, held, weighs, some, others) = subst (IsHeaviest all) (sym is) (
    heaviest,
    held,
    omega (arith, weighs, some),
    λ i c there. (let light : weight_of c ≤ most = others i (inside all n i c ends there) c there in omega (arith, weighs, light)),
  )
