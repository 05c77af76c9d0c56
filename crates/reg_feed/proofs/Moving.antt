-- Each step keeps the rule of a feed's history.
use Rattle.std.proofs.Common.{◌≡◌, ℕ, zero, suc, ◌+◌, ◌*◌, ◌<◌, ◌≤◌, ◌==◌, ◌⊎◌, inl, inr, ⊎_elim, Bool, true, false, true≢false, List, [], ◌∷◌, ◌++◌}
use Rattle.std.proofs.Common.{length, take, drop, nat_lt, refl, ap, sym, ◌∙◌, subst, arith, length-append, None, slice_set}
use Rattle.std.proofs.lemmas.List.{append-nil}
use Rattle.std.proofs.lemmas.List.Sums.{fold-append}
use Rattle.std.proofs.lemmas.Bool.Decides.{nat_tests}
use mathlib.Core.List.{IsPrefix}
use prog.Atomic.{either}
use Rattle.logbook.specs.Pages.{Cell, cell, keeps, gives, adds, Nib, no_nib, may_write, Away, step, Moves, Goes}
use Rattle.reg_feed.specs.Growing.{grown}
use Rattle.reg_feed.specs.declared.entry.FeedEntry.{FeedEntry}
use Rattle.reg_feed.specs.declared.entry.FeedEntry.TheVariants as entry
use Rattle.reg_feed.specs.History.{nothing, next, known, items_of, pens_of, gate_at, gate, AreHome, Keeps, IsKept, IsNewest, Adds, Takes, Publishes, Looks, Turns, Begins}
use Rattle.reg_feed.proofs.Histories.{fits, grows, prefix_trans}

-- the two words first
abbrev pub cells : ℕ → ℕ → List Cell → List Cell
cells a g others = (a, true) ∷ (g, true) ∷ others

home_words : (a g b h : ℕ) (others : List Cell) (ks : List ℕ) → AreHome (cells a g others) ks → AreHome (cells b h others) ks
home_words a g b h others [] home = tt
home_words a g b h others (zero ∷ ks) home = (refl, home_words a g b h others ks home.1)
home_words a g b h others (suc zero ∷ ks) home = (refl, home_words a g b h others ks home.1)
home_words a g b h others (suc (suc k) ∷ ks) home = (home.0, home_words a g b h others ks home.1)

cell_more : (cs : List Cell) (c : Cell) (k : ℕ) → (cell cs k).1 ≡ true → (cell (cs ++ c ∷ []) k).1 ≡ true
cell_more [] c k is = absurd (true≢false (sym is))
cell_more (d ∷ cs) c zero is = is
cell_more (d ∷ cs) c (suc k) is = cell_more cs c k is

home_more : (cs : List Cell) (c : Cell) (ks : List ℕ) → AreHome cs ks → AreHome (cs ++ c ∷ []) ks
home_more cs c [] home = tt
home_more cs c (k ∷ ks) home = (cell_more cs c k home.0, home_more cs c ks home.1)

cell_set : (cs : List Cell) (j n k : ℕ) → (cell cs k).1 ≡ true → (cell (slice_set cs j (n, true)) k).1 ≡ true
cell_set [] j n k is = is
cell_set (d ∷ cs) zero n zero is = refl
cell_set (d ∷ cs) zero n (suc k) is = is
cell_set (d ∷ cs) (suc j) n zero is = is
cell_set (d ∷ cs) (suc j) n (suc k) is = cell_set cs j n k is

home_set : (cs : List Cell) (j n : ℕ) (ks : List ℕ) → AreHome cs ks → AreHome (slice_set cs j (n, true)) ks
home_set cs j n [] home = tt
home_set cs j n (k ∷ ks) home = (cell_set cs j n k home.0, home_set cs j n ks home.1)

cell_put : (cs : List Cell) (j n : ℕ) → j < length cs → (cell (slice_set cs j (n, true)) j).1 ≡ true
cell_put [] j n less = absurd (omega (arith, less))
cell_put (d ∷ cs) zero n less = refl
cell_put (d ∷ cs) (suc j) n less = cell_put cs j n (omega (arith, less))

home_in : (cs : List Cell) (ys : List ℕ) (k : ℕ) (ks : List ℕ) → AreHome cs (ys ++ k ∷ ks) → (cell cs k).1 ≡ true
home_in cs [] k ks home = home.0
home_in cs (y ∷ ys) k ks home = home_in cs ys k ks home.1

zero_or : (g : ℕ) (b : Bool) → (g == 0) ≡ b → either (g == 0) 0 g ≡ g
zero_or g true is = rw is (grind (arith, nat_tests))
zero_or g false is = rw is refl

put_key : (a g n k : ℕ) (others : List Cell) → (cell (cells a g others) k).1 ≡ false
    → (rest : List Cell) × (slice_set (cells a g others) k (n, true) ≡ cells a g rest)
put_key a g n zero others away = absurd (true≢false away)
put_key a g n (suc zero) others away = absurd (true≢false away)
put_key a g n (suc (suc k)) others away = (slice_set others k (n, true), refl)

cell_words : (a g b h k : ℕ) (others : List Cell) → (cell (cells a g others) k).1 ≡ false → (cell (cells b h others) k).1 ≡ false
cell_words a g b h zero others away = away
cell_words a g b h (suc zero) others away = away
cell_words a g b h (suc (suc k)) others away = away

module _ {T : Type 0} where
  abbrev pub shown : List (FeedEntry T) → List (FeedEntry T)
  shown log = []

  abbrev pub moved : List (FeedEntry T) → List (FeedEntry T) → ℕ → Type 0
  moved xs ys n = Unit {0}

  pub known_after : (log : List (FeedEntry T)) (e : FeedEntry T) → known (log ++ e ∷ []) ≡ next (known log) e
  known_after log e = fold-append next nothing log (e ∷ [])

  newest_in : (cs : List Cell) (log was : List (FeedEntry T)) (key : ℕ) (ks new : List ℕ) → AreHome cs (drop 1 (pens_of log))
      → (cell cs key).1 ≡ false → pens_of log ≡ new ++ pens_of was → pens_of was ≡ key ∷ ks → pens_of log ≡ pens_of was
  newest_in cs log was key ks [] home away is newest = is
  newest_in cs log was key ks (y ∷ ys) home away is newest =
      let there : AreHome cs (ys ++ key ∷ ks) = subst (λ l. AreHome cs (drop 1 l)) (is ∙ ap (λ l. y ∷ (ys ++ l)) newest) home in
      absurd (true≢false (sym (home_in cs ys key ks there) ∙ away))

  pub newest : (cs : List Cell) (log : List (FeedEntry T)) (p : Nib) → IsKept cs log → Away p cs → IsNewest p log
  newest cs log p kept away right was ks pre is =
      let later = (grows was log pre).pens in
      newest_in cs log was p.key ks later.0 kept.homes (away right).1 later.1 is

  gate_cases : (k : ℕ) (ks : List ℕ) (xs ys : List T) (b : Bool) → nat_lt (length xs) (length ys) ≡ b
      → ((length xs < length ys) × (gate_at (k ∷ ks) xs ys ≡ 2 * length ys + 1))
      ⊎ ((length ys ≤ length xs) × (gate_at (k ∷ ks) xs ys ≡ 2 * length xs + 2))
  gate_cases k ks xs ys true is = inl (grind (arith, nat_tests), rw is refl)
  gate_cases k ks xs ys false is = inr (grind (arith, nat_tests), rw is refl)

  pub gate_is : (k : ℕ) (ks : List ℕ) (xs ys : List T)
      → ((length xs < length ys) × (gate_at (k ∷ ks) xs ys ≡ 2 * length ys + 1))
      ⊎ ((length ys ≤ length xs) × (gate_at (k ∷ ks) xs ys ≡ 2 * length xs + 2))
  gate_is k ks xs ys = gate_cases k ks xs ys (nat_lt (length xs) (length ys)) refl

  -- an odd gate says how much is offered
  pub gate_odd : (ks : List ℕ) (xs ys : List T) (c : ℕ) → gate_at ks xs ys ≡ 2 * c + 1
      → (length ys ≡ c) × (length xs < c) × (gate_at ks ys ys ≡ 2 * c + 2)
  gate_odd [] xs ys c is = absurd (omega (arith, is))
  gate_odd (k ∷ ks) xs ys c is = ⊎_elim
      (λ (t : (length xs < length ys) × (gate_at (k ∷ ks) xs ys ≡ 2 * length ys + 1)).
      let long : length ys ≡ c = omega (arith, is, t.1) in (
        long,
        omega (arith, long, t.0),
        ⊎_elim (λ (u : (length ys < length ys) × (gate_at (k ∷ ks) ys ys ≡ 2 * length ys + 1)). absurd (omega (arith, u.0)))
            (λ (u : (length ys ≤ length ys) × (gate_at (k ∷ ks) ys ys ≡ 2 * length ys + 2)). omega (arith, u.1, long))
            (gate_is k ks ys ys),
      ))
      (λ (t : (length ys ≤ length xs) × (gate_at (k ∷ ks) xs ys ≡ 2 * length xs + 2)). absurd (omega (arith, is, t.1)))
      (gate_is k ks xs ys)

  -- adding an item
  add_goes : (log v : List (FeedEntry T)) (e : T) (old : ℕ) (others : List Cell) → IsPrefix v log
      → AreHome (cells (length (items_of log)) (gate (known log)) others) (drop 1 (pens_of log))
      → (b : Bool) → (length (items_of log) == old) ≡ b
      → Goes IsKept shown moved 0 (v, (no_nib, None)) (λ n. either (n == old) (old + 1) n)
      (Adds (step 0 old (old + 1) (entry.Added e)) (v, (no_nib, None))) (cells (length (items_of log)) (gate (known log)) others) log
  add_goes log v e old others pre home true is =
      let here : length (items_of log) ≡ old = grind (arith, nat_tests) in
      let s = known log in
      let long : old + 1 ≡ length (s.items ++ e ∷ []) = omega (arith, here, length-append s.items (e ∷ [])) in (
        keeps,
        entry.Added e ∷ [],
        None,
        tt,
        rw is (subst (λ t. Keeps (cells (old + 1) (gate s) others) t) (sym (known_after log (entry.Added e)))
            (record { others = others; words = ap (λ n. cells n (gate s) others) long; homes = home_words (length s.items) (gate s) (old + 1) (gate s) others (drop 1 s.pens) home })),
        inl (refl, refl),
        (log, pre, refl, rw is refl),
      )
  add_goes log v e old others pre home false is =
      let all : log ++ [] ≡ log = append-nil log in
      let s = known log in (
        keeps,
        [],
        None,
        tt,
        rw is (subst (λ l. Keeps (cells (length s.items) (gate s) others) (known l)) (sym all)
            (record { others = others; words = refl; homes = home })),
        inl (refl, refl),
        (log, pre, refl, rw is all),
      )

  pub add_moves : (v : List (FeedEntry T)) (e : T) (old : ℕ)
      → Moves IsKept shown moved 0 (v, (no_nib, None)) (λ n. either (n == old) (old + 1) n)
      (Adds (step 0 old (old + 1) (entry.Added e)) (v, (no_nib, None)))
  add_moves v e old cs log kept pre away =
      let P : List Cell → Type 0 = λ c. AreHome c (drop 1 (pens_of log)) → (0 < length c) × ((cell c 0).1 ≡ true)
      × Goes IsKept shown moved 0 (v, (no_nib, None)) (λ n. either (n == old) (old + 1) n)
      (Adds (step 0 old (old + 1) (entry.Added e)) (v, (no_nib, None))) c log in
      subst P (sym kept.words) (λ home. (omega arith, refl, add_goes log v e old kept.others pre home (length (items_of log) == old) refl)) kept.homes

  -- taking a pen
  take_goes : (log v : List (FeedEntry T)) (others : List Cell) (g : ℕ) → g ≡ gate (known log)
      → AreHome (cells (length (items_of log)) g others) (drop 1 (pens_of log))
      → (e : FeedEntry T) (b : Bool) → (g == 0) ≡ b
      → Goes IsKept shown moved 1 (v, (no_nib, None)) (λ n. either (n == 0) 0 n)
      (Takes (step 1 0 0 e) (v, (no_nib, None))) (cells (length (items_of log)) g others) log
  take_goes log v others g at home e b is =
      let all : log ++ [] ≡ log = append-nil log in
      let s = known log in
      let same : either (g == 0) 0 g ≡ g = zero_or g b is in (
        adds,
        [],
        None,
        tt,
        subst (λ l. Keeps (cells (length s.items) (either (g == 0) 0 g) others ++ (0, false) ∷ []) (known l)) (sym all)
            (record {
              others = others ++ (0, false) ∷ [];
              words = ap (λ n. cells (length s.items) n (others ++ (0, false) ∷ [])) (same ∙ at);
              homes = home_more (cells (length s.items) (either (g == 0) 0 g) others) (0, false) (drop 1 s.pens)
                  (home_words (length s.items) g (length s.items) (either (g == 0) 0 g) others (drop 1 s.pens) home);
            }),
        inl (refl, refl),
        refl,
      )

  pub take_moves : (v : List (FeedEntry T)) (e : FeedEntry T)
      → Moves IsKept shown moved 1 (v, (no_nib, None)) (λ n. either (n == 0) 0 n) (Takes (step 1 0 0 e) (v, (no_nib, None)))
  take_moves v e cs log kept pre away =
      let P : List Cell → Type 0 = λ c. AreHome c (drop 1 (pens_of log)) → (1 < length c) × ((cell c 1).1 ≡ true)
      × Goes IsKept shown moved 1 (v, (no_nib, None)) (λ n. either (n == 0) 0 n) (Takes (step 1 0 0 e) (v, (no_nib, None))) c log in
      subst P (sym kept.words)
      (λ home. (omega arith, refl, take_goes log v kept.others (gate (known log)) refl home e (gate (known log) == 0) refl)) kept.homes

  -- publishing what is offered
  publish_goes : (log v : List (FeedEntry T)) (p : Nib) (c : ℕ) (others : List Cell) → IsPrefix v log → IsNewest p log
      → AreHome (cells (length (items_of log)) (gate (known log)) others) (drop 1 (pens_of log))
      → (b : Bool) → (gate (known log) == 2 * c + 1) ≡ b
      → Goes IsKept shown moved 1 (v, (p, None)) (λ n. either (n == 2 * c + 1) (2 * c + 2) n)
      (Publishes (step 1 (2 * c + 1) (2 * c + 2) entry.Published) (v, (p, None))) (cells (length (items_of log)) (gate (known log)) others) log
  publish_goes log v p c others pre new home true is =
      let s = known log in
      let here : gate s ≡ 2 * c + 1 = grind (arith, nat_tests) in
      let after = (gate_odd s.pens s.shown s.offered c here).2 in (
        keeps,
        entry.Published ∷ [],
        None,
        tt,
        rw is (subst (λ t. Keeps (cells (length s.items) (2 * c + 2) others) t) (sym (known_after log entry.Published))
            (record { others = others; words = ap (λ n. cells (length s.items) n others) (sym after); homes = home_words (length s.items) (gate s) (length s.items) (2 * c + 2) others (drop 1 s.pens) home })),
        inl (refl, refl),
        (log, pre, refl, new, rw is refl, refl),
      )
  publish_goes log v p c others pre new home false is =
      let all : log ++ [] ≡ log = append-nil log in
      let s = known log in (
        keeps,
        [],
        None,
        tt,
        rw is (subst (λ l. Keeps (cells (length s.items) (gate s) others) (known l)) (sym all)
            (record { others = others; words = refl; homes = home })),
        inl (refl, refl),
        (log, pre, refl, new, rw is all, refl),
      )

  pub publish_moves : (v : List (FeedEntry T)) (p : Nib) (c : ℕ)
      → Moves IsKept shown moved 1 (v, (p, None)) (λ n. either (n == 2 * c + 1) (2 * c + 2) n)
      (Publishes (step 1 (2 * c + 1) (2 * c + 2) entry.Published) (v, (p, None)))
  publish_moves v p c cs log kept pre away =
      let P : List Cell → Type 0 = λ cs. AreHome cs (drop 1 (pens_of log)) → (1 < length cs) × ((cell cs 1).1 ≡ true)
      × Goes IsKept shown moved 1 (v, (p, None)) (λ n. either (n == 2 * c + 1) (2 * c + 2) n)
      (Publishes (step 1 (2 * c + 1) (2 * c + 2) entry.Published) (v, (p, None))) cs log in
      subst P (sym kept.words)
      (λ home. (omega arith, refl, publish_goes log v p c kept.others pre (newest cs log p kept away) home (gate (known log) == 2 * c + 1) refl)) kept.homes

  -- looking at the gate
  look_goes : (log v : List (FeedEntry T)) (p : Nib) (others : List Cell) (g : ℕ) → g ≡ gate (known log) → IsPrefix v log → IsNewest p log
      → AreHome (cells (length (items_of log)) g others) (drop 1 (pens_of log))
      → (e : FeedEntry T) (b : Bool) → (g == 0) ≡ b
      → Goes IsKept shown moved 1 (v, (p, None)) (λ n. either (n == 0) 0 n)
      (Looks (step 1 0 0 e) (v, (p, None))) (cells (length (items_of log)) g others) log
  look_goes log v p others g at pre new home e b is =
      let all : log ++ [] ≡ log = append-nil log in
      let s = known log in
      let same : either (g == 0) 0 g ≡ g = zero_or g b is in (
        keeps,
        [],
        None,
        tt,
        subst (λ l. Keeps (cells (length s.items) (either (g == 0) 0 g) others) (known l)) (sym all)
            (record {
              others = others;
              words = ap (λ n. cells (length s.items) n others) (same ∙ at);
              homes = home_words (length s.items) g (length s.items) (either (g == 0) 0 g) others (drop 1 s.pens) home;
            }),
        inl (refl, refl),
        (log, pre, at, new, all, refl),
      )

  pub look_moves : (v : List (FeedEntry T)) (p : Nib) (e : FeedEntry T)
      → Moves IsKept shown moved 1 (v, (p, None)) (λ n. either (n == 0) 0 n) (Looks (step 1 0 0 e) (v, (p, None)))
  look_moves v p e cs log kept pre away =
      let P : List Cell → Type 0 = λ c. AreHome c (drop 1 (pens_of log)) → (1 < length c) × ((cell c 1).1 ≡ true)
      × Goes IsKept shown moved 1 (v, (p, None)) (λ n. either (n == 0) 0 n) (Looks (step 1 0 0 e) (v, (p, None))) c log in
      subst P (sym kept.words)
      (λ home. (omega arith, refl, look_goes log v p kept.others (gate (known log)) refl pre (newest cs log p kept away) home e (gate (known log) == 0) refl)) kept.homes

  -- giving up the newest pen for another, with an offer
  turn_goes : (log v : List (FeedEntry T)) (p : Nib) (ks : List ℕ) (m k old new : ℕ) (others : List Cell) → IsPrefix v log → IsNewest p log
      → p.right ≡ may_write → pens_of log ≡ p.key ∷ ks
      → (gate (known log) ≡ old → gate (next (known log) (entry.Turned m k)) ≡ new)
      → AreHome (cells (length (items_of log)) (gate (known log)) others) (drop 1 (pens_of log))
      → p.key < length (cells (length (items_of log)) (gate (known log)) others)
      → (cell (cells (length (items_of log)) (gate (known log)) others) p.key).1 ≡ false
      → (b : Bool) → (gate (known log) == old) ≡ b
      → Goes IsKept shown moved 1 (v, (p, None)) (λ n. either (n == old) new n)
      (Turns (step 1 old new (entry.Turned m k)) (v, (p, None))) (cells (length (items_of log)) (gate (known log)) others) log
  turn_goes log v p ks m k old new others pre only may held fit home less away true is =
      let s = known log in
      let t = next s (entry.Turned m k) in
      let here : gate s ≡ old = grind (arith, nat_tests) in
      let moves : either (gate s == old) new (gate s) ≡ new = rw is refl in
      let a = length s.items in
      let put = put_key a new p.value p.key others (cell_words a (gate s) a new p.key others away) in
      let rest : AreHome (cells a new others) ks =
      home_words a (gate s) a new others ks (subst (λ l. AreHome (cells a (gate s) others) (drop 1 l)) held home) in
      let all : AreHome (slice_set (cells a new others) p.key (p.value, true)) (p.key ∷ ks) =
      (cell_put (cells a new others) p.key p.value less, home_set (cells a new others) p.key p.value ks rest) in (
        gives,
        entry.Turned m k ∷ [],
        None,
        may,
        subst (λ n. Keeps (slice_set (cells a n others) p.key (p.value, true)) (known (log ++ entry.Turned m k ∷ []))) (sym moves)
            (subst (λ t. Keeps (slice_set (cells a new others) p.key (p.value, true)) t) (sym (known_after log (entry.Turned m k)))
            (record { others = put.0; words = put.1 ∙ ap (λ n. cells a n put.0) (sym (fit here)); homes = subst (λ l. AreHome (slice_set (cells a new others) p.key (p.value, true)) l) (sym held) all })),
        inl (refl, refl),
        (log, pre, refl, only, rw is refl, rw is refl),
      )
  turn_goes log v p ks m k old new others pre only may held fit home less away false is =
      let all : log ++ [] ≡ log = append-nil log in
      let s = known log in (
        keeps,
        [],
        None,
        tt,
        rw is (subst (λ l. Keeps (cells (length s.items) (gate s) others) (known l)) (sym all)
            (record { others = others; words = refl; homes = home })),
        inl (refl, refl),
        (log, pre, refl, only, rw is all, rw is refl),
      )

  -- what an offer makes of the gate, whatever the history is by then
  abbrev pub Fit : List (FeedEntry T) → List (FeedEntry T) → ℕ → ℕ → ℕ → ℕ → Type 0
  Fit was v m k old new = (log : List (FeedEntry T)) → IsPrefix was log → IsPrefix v log → pens_of log ≡ pens_of was
      → gate (known log) ≡ old → gate (next (known log) (entry.Turned m k)) ≡ new

  pub turn_moves : (was v : List (FeedEntry T)) (p : Nib) (ks : List ℕ) (m k old new : ℕ) → IsPrefix was v → p.right ≡ may_write
      → pens_of was ≡ p.key ∷ ks → Fit was v m k old new
      → Moves IsKept shown moved 1 (v, (p, None)) (λ n. either (n == old) new n) (Turns (step 1 old new (entry.Turned m k)) (v, (p, None)))
  turn_moves was v p ks m k old new begins may held fit cs log kept pre away =
      let only = newest cs log p kept away in
      let from = prefix_trans was v log begins pre in
      let same = only may was ks from held in
      let P : List Cell → Type 0 = λ c. AreHome c (drop 1 (pens_of log)) → p.key < length c → (cell c p.key).1 ≡ false
      → (1 < length c) × ((cell c 1).1 ≡ true)
      × Goes IsKept shown moved 1 (v, (p, None)) (λ n. either (n == old) new n) (Turns (step 1 old new (entry.Turned m k)) (v, (p, None))) c log in
      subst P (sym kept.words)
      (λ home less there. (omega arith, refl, turn_goes log v p ks m k old new kept.others pre only may (same ∙ held) (fit log from pre same) home less there (gate (known log) == old) refl))
      kept.homes (away may).0 (away may).1

  pub gate_none : (ks : List ℕ) (xs ys : List T) → gate_at ks xs ys ≡ 0 → ks ≡ []
  gate_none [] xs ys is = refl
  gate_none (k ∷ ks) xs ys is = ⊎_elim
      (λ (t : (length xs < length ys) × (gate_at (k ∷ ks) xs ys ≡ 2 * length ys + 1)). absurd (omega (arith, is, t.1)))
      (λ (t : (length ys ≤ length xs) × (gate_at (k ∷ ks) xs ys ≡ 2 * length xs + 2)). absurd (omega (arith, is, t.1)))
      (gate_is k ks xs ys)

  pub none_before : (xs ys : List T) → IsPrefix xs ys → ys ≡ [] → xs ≡ []
  none_before [] ys p is = refl
  none_before (x ∷ xs) ys p is = absurd (cc (p.1, is))

  begun : (xs ys zs : List T) (k : ℕ) → xs ≡ [] → gate_at (k ∷ []) xs (grown xs (take 0 zs)) ≡ 2
  begun [] ys zs k is = refl
  begun (x ∷ xs) ys zs k is = absurd (cc is)

  -- the first pen
  begin_goes : (log v : List (FeedEntry T)) (k : ℕ) (others : List Cell) → IsPrefix v log
      → AreHome (cells (length (items_of log)) (gate (known log)) others) (drop 1 (pens_of log))
      → (b : Bool) → (gate (known log) == 0) ≡ b
      → Goes IsKept shown moved 1 (v, (no_nib, None)) (λ n. either (n == 0) 2 n)
      (Begins (step 1 0 2 (entry.Turned 0 k)) (v, (no_nib, None))) (cells (length (items_of log)) (gate (known log)) others) log
  begin_goes log v k others pre home true is =
      let s = known log in
      let here : gate s ≡ 0 = grind (arith, nat_tests) in
      let none = gate_none s.pens s.shown s.offered here in
      let hidden : s.shown ≡ [] = none_before s.shown s.offered (fits log).published ((fits log).new none) in
      let after : gate (next s (entry.Turned 0 k)) ≡ 2 =
      subst (λ l. gate_at (k ∷ l) s.shown (grown s.shown (take 0 s.items)) ≡ 2) (sym none) (begun s.shown s.offered s.items k hidden) in (
        keeps,
        entry.Turned 0 k ∷ [],
        None,
        tt,
        rw is (subst (λ t. Keeps (cells (length s.items) 2 others) t) (sym (known_after log (entry.Turned 0 k)))
            (record { others = others; words = ap (λ n. cells (length s.items) n others) (sym after); homes = subst (λ l. AreHome (cells (length s.items) 2 others) l) (sym none) tt })),
        inl (refl, refl),
        (log, pre, refl, rw is refl),
      )
  begin_goes log v k others pre home false is =
      let all : log ++ [] ≡ log = append-nil log in
      let s = known log in (
        keeps,
        [],
        None,
        tt,
        rw is (subst (λ l. Keeps (cells (length s.items) (gate s) others) (known l)) (sym all)
            (record { others = others; words = refl; homes = home })),
        inl (refl, refl),
        (log, pre, refl, rw is all),
      )

  pub begin_moves : (v : List (FeedEntry T)) (k : ℕ)
      → Moves IsKept shown moved 1 (v, (no_nib, None)) (λ n. either (n == 0) 2 n) (Begins (step 1 0 2 (entry.Turned 0 k)) (v, (no_nib, None)))
  begin_moves v k cs log kept pre away =
      let P : List Cell → Type 0 = λ c. AreHome c (drop 1 (pens_of log)) → (1 < length c) × ((cell c 1).1 ≡ true)
      × Goes IsKept shown moved 1 (v, (no_nib, None)) (λ n. either (n == 0) 2 n) (Begins (step 1 0 2 (entry.Turned 0 k)) (v, (no_nib, None))) c log in
      subst P (sym kept.words)
      (λ home. (omega arith, refl, begin_goes log v k kept.others pre home (gate (known log) == 0) refl)) kept.homes
