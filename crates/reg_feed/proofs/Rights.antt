-- What the steps at the gate come to for who holds the newest pen.
use Rattle.std.proofs.Common.{◌≡◌, ℕ, ◌+◌, ◌*◌, ◌<◌, ◌≤◌, ◌==◌, ◌⊎◌, ⊎_elim, Bool, true, false, true≢false, zero-le, List, [], ◌∷◌, ◌++◌}
use Rattle.std.proofs.Common.{length, take, drop, fold, refl, ap, sym, ◌∙◌, subst, arith, length-take, MatchBool}
use Rattle.std.proofs.lemmas.List.{take-append-drop}
use Rattle.std.proofs.lemmas.List.Sums.{fold-append}
use Rattle.std.proofs.lemmas.Bool.Decides.{nat_tests}
use Rattle.logbook.specs.Pages.{Step, Nib, no_nib, may_write}
use mathlib.Core.List.{IsPrefix}
use Rattle.reg_feed.specs.Growing.{grown}
use Rattle.reg_feed.specs.declared.entry.FeedEntry.{FeedEntry}
use Rattle.reg_feed.specs.declared.entry.FeedEntry.TheVariants as entry
use Rattle.reg_feed.specs.History.{nothing, next, known, items_of, shown_of, offered_of, pens_of, gate_at, gate, Enters, IsNewest}
use Rattle.reg_feed.proofs.Prefixes.{prefix_shorter, prefix_length, prefix_whole}
use Rattle.reg_feed.proofs.Histories.{fits, grows, quiet, prefix_trans, grown_is}
use Rattle.reg_feed.proofs.Moving.{Fit, known_after, gate_is, gate_odd, gate_none, none_before}

-- two beginnings of one list, with one length
pub prefix_same : {A : Type 0} (xs ys zs : List A) → IsPrefix xs zs → IsPrefix ys zs → length xs ≡ length ys → xs ≡ ys
prefix_same xs ys zs p q same = prefix_whole xs ys (prefix_shorter xs ys zs p q (omega (arith, same))) (omega (arith, same))

take_prefix : {A : Type 0} (n : ℕ) (xs : List A) → IsPrefix (take n xs) xs
take_prefix n xs = (drop n xs, take-append-drop n xs)

-- the first items of a list are any beginning of it that has as many
pub take_is : {A : Type 0} (xs ys : List A) (n : ℕ) → IsPrefix xs ys → length xs ≡ n → take n ys ≡ xs
take_is xs ys n p long =
    let fits : n ≤ length ys = omega (arith, prefix_length xs ys p, long) in
    prefix_same (take n ys) xs ys (take_prefix n ys) p (omega (arith, length-take n ys, long, fits))

is_true : (m n : ℕ) → m ≡ n → (m == n) ≡ true
is_true m n is = grind (arith, nat_tests, is)

is_false : (m n : ℕ) → ¬ (m ≡ n) → (m == n) ≡ false
is_false m n is = grind (arith, nat_tests, is)

module _ {T : Type 0} where
  pub open_stays : (was log : List (FeedEntry T)) → IsPrefix was log → pens_of log ≡ pens_of was
      → (offered_of log ≡ offered_of was) × ((shown_of log ≡ shown_of was) ⊎ (shown_of log ≡ offered_of was))
  open_stays was log pre same =
      let all : fold next (known was) pre.0 ≡ known log = sym (fold-append next nothing was pre.0) ∙ ap (λ l. known l) pre.1 in
      subst (λ s. (s.offered ≡ offered_of was) × ((s.shown ≡ shown_of was) ⊎ (s.shown ≡ offered_of was))) all
      (quiet (known was) pre.0 (omega (arith, ap (λ s. length s.pens) all, ap length same)) (fits was))

  pub closed_stays : (was log : List (FeedEntry T)) → IsPrefix was log → pens_of log ≡ pens_of was → offered_of was ≡ shown_of was
      → (offered_of log ≡ shown_of was) × (shown_of log ≡ shown_of was)
  closed_stays was log pre same shut =
      let stays = open_stays was log pre same in
      (stays.0 ∙ shut, ⊎_elim (λ (e : shown_of log ≡ shown_of was). e) (λ (e : shown_of log ≡ offered_of was). e ∙ shut) stays.1)

  gate_shut : (ks : List ℕ) (k : ℕ) (pens : List ℕ) (xs ys : List T) → pens ≡ k ∷ ks → ys ≡ xs → gate_at pens xs ys ≡ 2 * length xs + 2
  gate_shut ks k pens xs ys held same =
      subst (λ (l : List ℕ). gate_at l xs ys ≡ 2 * length xs + 2) (sym held)
      (⊎_elim (λ (t : (length xs < length ys) × (gate_at (k ∷ ks) xs ys ≡ 2 * length ys + 1)). absurd (omega (arith, t.0, ap length same)))
      (λ (t : (length ys ≤ length xs) × (gate_at (k ∷ ks) xs ys ≡ 2 * length xs + 2)). t.1) (gate_is k ks xs ys))

  gate_ajar : (ks : List ℕ) (k : ℕ) (pens : List ℕ) (xs ys : List T) → pens ≡ k ∷ ks → length xs < length ys → gate_at pens xs ys ≡ 2 * length ys + 1
  gate_ajar ks k pens xs ys held less =
      subst (λ (l : List ℕ). gate_at l xs ys ≡ 2 * length ys + 1) (sym held)
      (⊎_elim (λ (t : (length xs < length ys) × (gate_at (k ∷ ks) xs ys ≡ 2 * length ys + 1)). t.1)
      (λ (t : (length ys ≤ length xs) × (gate_at (k ∷ ks) xs ys ≡ 2 * length xs + 2)). absurd (omega (arith, t.0, less))) (gate_is k ks xs ys))

  longer : (xs ys : List T) → length xs < length ys → grown xs ys ≡ ys
  longer xs ys less = ⊎_elim (λ (t : (length xs < length ys) × (grown xs ys ≡ ys)). t.1)
      (λ (t : (length ys ≤ length xs) × (grown xs ys ≡ xs)). absurd (omega (arith, t.0, less))) (grown_is xs ys)

  no_longer : (xs ys : List T) → length ys ≤ length xs → grown xs ys ≡ xs
  no_longer xs ys le = ⊎_elim (λ (t : (length xs < length ys) × (grown xs ys ≡ ys)). absurd (omega (arith, t.0, le)))
      (λ (t : (length ys ≤ length xs) × (grown xs ys ≡ xs)). t.1) (grown_is xs ys)

  -- offering all items of a history that was reached
  pub offer_is : (all log : List (FeedEntry T)) (p : List T) (m : ℕ) → IsPrefix all log → length (items_of all) ≡ m → length p < m
      → grown p (take m (items_of log)) ≡ items_of all
  offer_is all log p m pre long less =
      let these = take_is (items_of all) (items_of log) m (grows all log pre).items long in
      ap (λ l. grown p l) these ∙ longer p (items_of all) (omega (arith, long, less))

  pub open_fit : (was all v : List (FeedEntry T)) (k key : ℕ) (ks : List ℕ) (n m : ℕ) → IsPrefix all v → offered_of was ≡ shown_of was → pens_of was ≡ key ∷ ks
      → length (shown_of was) ≡ n → length (items_of all) ≡ m → n < m → Fit was v m k (2 * n + 2) (2 * m + 1)
  open_fit was all v k key ks n m in_v shut held few long less log pre sees same is =
      let stays = closed_stays was log pre same shut in
      let some : length (shown_of log) < m = omega (arith, ap length stays.1, few, less) in
      let offer = offer_is all log (shown_of log) m (prefix_trans all v log in_v sees) long some in
      gate_ajar (pens_of log) k (k ∷ pens_of log) (shown_of log) (grown (shown_of log) (take m (items_of log))) refl
      (omega (arith, some, ap length offer, long)) ∙ omega (arith, ap length offer, long)

  pub open_found : (was log : List (FeedEntry T)) (key : ℕ) (ks : List ℕ) (n : ℕ) → IsPrefix was log → pens_of log ≡ pens_of was
      → offered_of was ≡ shown_of was → pens_of was ≡ key ∷ ks → length (shown_of was) ≡ n → gate (known log) ≡ 2 * n + 2
  open_found was log key ks n pre same shut held few =
      let stays = closed_stays was log pre same shut in
      gate_shut ks key (pens_of log) (shown_of log) (offered_of log) (same ∙ held) (stays.0 ∙ sym stays.1)
      ∙ omega (arith, ap length stays.1, few)

  pub close_fit : (was v : List (FeedEntry T)) (k : ℕ) (n m : ℕ) → length (shown_of was) ≡ n → length (offered_of was) ≡ m → n < m
      → Fit was v n k (2 * m + 1) (2 * n + 2)
  close_fit was v k n m few long less log pre sees same is =
      let stays = open_stays was log pre same in
      let odd = gate_odd (pens_of log) (shown_of log) (offered_of log) m is in
      let p : shown_of log ≡ shown_of was = ⊎_elim (λ (e : shown_of log ≡ shown_of was). e) (λ (e : shown_of log ≡ offered_of was). absurd (omega (arith, ap length e, long, odd.1))) stays.1 in
      let kept = no_longer (shown_of log) (take n (items_of log)) (omega (arith, length-take n (items_of log), ap length p, few)) in
      gate_shut (pens_of log) k (k ∷ pens_of log) (shown_of log) (grown (shown_of log) (take n (items_of log))) refl kept
      ∙ omega (arith, ap length p, few)

  pub entered : (s : Step (FeedEntry T)) (log after : List (FeedEntry T)) (found : ℕ) → found ≡ s.old → Enters s log found after → after ≡ log ++ s.ask ∷ []
  entered s log after found is h = subst (λ b. MatchBool b (after ≡ log ++ s.ask ∷ []) (after ≡ log)) (is_true found s.old is) h

  pub not_entered : (s : Step (FeedEntry T)) (log after : List (FeedEntry T)) (found : ℕ) → ¬ (found ≡ s.old) → Enters s log found after → after ≡ log
  not_entered s log after found is h = subst (λ b. MatchBool b (after ≡ log ++ s.ask ∷ []) (after ≡ log)) (is_false found s.old is) h

  pub added : (s : Step (FeedEntry T)) (v w : List (FeedEntry T)) (e : T) (found : ℕ) → s.ask ≡ entry.Added e
      → ((log : List (FeedEntry T)) × IsPrefix v log × (found ≡ length (items_of log)) × Enters s log found w) → found ≡ s.old
      → length (items_of v) ≡ s.old → items_of w ≡ items_of v ++ e ∷ []
  added s v w e found asks h is few =
      let after : w ≡ h.0 ++ entry.Added e ∷ [] = entered s h.0 w found is h.3 ∙ ap (λ a. h.0 ++ a ∷ []) asks in
      let same : items_of v ≡ items_of h.0 =
      prefix_whole (items_of v) (items_of h.0) (grows v h.0 h.1).items (omega (arith, few, is, h.2)) in
      ap (λ l. items_of l) after ∙ (ap (λ k. k.items) (known_after h.0 (entry.Added e)) ∙ ap (λ l. l ++ e ∷ []) (sym same))

  after : (log w : List (FeedEntry T)) (e : FeedEntry T) → w ≡ log ++ e ∷ [] → known w ≡ next (known log) e
  after log w e is = ap (λ l. known l) is ∙ known_after log e

  gate_even : (ks : List ℕ) (xs ys : List T) (c : ℕ) → gate_at ks xs ys ≡ 2 * c + 2 → length xs ≡ c
  gate_even [] xs ys c is = absurd (omega (arith, is))
  gate_even (k ∷ ks) xs ys c is = ⊎_elim
      (λ (t : (length xs < length ys) × (gate_at (k ∷ ks) xs ys ≡ 2 * length ys + 1)). absurd (omega (arith, is, t.1)))
      (λ (t : (length ys ≤ length xs) × (gate_at (k ∷ ks) xs ys ≡ 2 * length xs + 2)). omega (arith, is, t.1))
      (gate_is k ks xs ys)

  -- the front v is published by this step
  pub published_now : (s : Step (FeedEntry T)) (v log w : List (FeedEntry T)) (c found : ℕ) → s.old ≡ 2 * c + 1 → s.ask ≡ entry.Published
      → length (items_of v) ≡ c → IsPrefix v log → found ≡ gate (known log) → Enters s log found w → found ≡ 2 * c + 1
      → shown_of w ≡ items_of v
  published_now s v log w c found old asks long pre at enters is =
      let known_w = after log w entry.Published (entered s log w found (is ∙ sym old) enters ∙ ap (λ a. log ++ a ∷ []) asks) in
      let odd = gate_odd (pens_of log) (shown_of log) (offered_of log) c (sym at ∙ is) in
      ap (λ k. k.shown) known_w
      ∙ prefix_same (offered_of log) (items_of v) (items_of log) (fits log).offer (grows v log pre).items (odd.0 ∙ sym long)

  -- the front v was published
  pub published_before : (s : Step (FeedEntry T)) (v log w : List (FeedEntry T)) (c found : ℕ) → s.old ≡ 2 * c + 1
      → length (items_of v) ≡ c → IsPrefix v log → found ≡ gate (known log) → Enters s log found w → found ≡ 2 * c + 2
      → shown_of w ≡ items_of v
  published_before s v log w c found old long pre at enters is =
      let same = not_entered s log w found (λ e. omega (arith, e, is, old)) enters in
      let few = gate_even (pens_of log) (shown_of log) (offered_of log) c (sym at ∙ is) in
      let all = prefix_trans (shown_of log) (offered_of log) (items_of log) (fits log).published (fits log).offer in
      ap (λ l. shown_of l) same
      ∙ prefix_same (shown_of log) (items_of v) (items_of log) all (grows v log pre).items (few ∙ sym long)

  pub began : (s : Step (FeedEntry T)) (log w : List (FeedEntry T)) (k found : ℕ) → s.old ≡ 0 → s.ask ≡ entry.Turned 0 k
      → found ≡ gate (known log) → Enters s log found w → found ≡ 0
      → (shown_of w ≡ []) × (offered_of w ≡ []) × (pens_of w ≡ k ∷ [])
  began s log w k found old asks at enters is =
      let known_w = after log w (entry.Turned 0 k) (entered s log w found (is ∙ sym old) enters ∙ ap (λ a. log ++ a ∷ []) asks) in
      let none = gate_none (pens_of log) (shown_of log) (offered_of log) (sym at ∙ is) in
      let hidden : shown_of log ≡ [] = none_before (shown_of log) (offered_of log) (fits log).published ((fits log).new none) in (
        ap (λ k. k.shown) known_w ∙ hidden,
        ap (λ k. k.offered) known_w ∙ (no_longer (shown_of log) (take 0 (items_of log)) zero-le ∙ hidden),
        ap (λ k. k.pens) known_w ∙ ap (λ l. k ∷ l) none,
      )

  pub offered : (s : Step (FeedEntry T)) (was all v log w : List (FeedEntry T)) (p : Nib) (k found : ℕ) (ks : List ℕ) (n m : ℕ)
      → s.old ≡ 2 * n + 2 → s.ask ≡ entry.Turned m k
      → IsPrefix was v → IsPrefix all v → offered_of was ≡ shown_of was → p.right ≡ may_write → pens_of was ≡ p.key ∷ ks
      → length (shown_of was) ≡ n → length (items_of all) ≡ m → n < m
      → IsPrefix v log → found ≡ gate (known log) → IsNewest p log → Enters s log found w
      → (found ≡ s.old) × (shown_of w ≡ shown_of was) × (offered_of w ≡ items_of all) × (pens_of w ≡ k ∷ pens_of was)
  offered s was all v log w p k found ks n m old asks in_v all_in_v shut may held few long less pre at newest enters =
      let from = prefix_trans was v log in_v pre in
      let same = newest may was ks from held in
      let here : found ≡ s.old = at ∙ (open_found was log p.key ks n from same shut held few ∙ sym old) in
      let known_w = after log w (entry.Turned m k) (entered s log w found here enters ∙ ap (λ a. log ++ a ∷ []) asks) in
      let stays = closed_stays was log from same shut in
      let some : length (shown_of log) < m = omega (arith, ap length stays.1, few, less) in (
        here,
        ap (λ k. k.shown) known_w ∙ stays.1,
        ap (λ k. k.offered) known_w ∙ offer_is all log (shown_of log) m (prefix_trans all v log all_in_v pre) long some,
        ap (λ k. k.pens) known_w ∙ ap (λ l. k ∷ l) same,
      )

  pub closed : (s : Step (FeedEntry T)) (was v log w : List (FeedEntry T)) (p : Nib) (k found : ℕ) (ks : List ℕ) (n m : ℕ)
      → s.old ≡ 2 * m + 1 → s.ask ≡ entry.Turned n k
      → IsPrefix was v → p.right ≡ may_write → pens_of was ≡ p.key ∷ ks
      → length (shown_of was) ≡ n → length (offered_of was) ≡ m → n < m
      → IsPrefix v log → found ≡ gate (known log) → IsNewest p log → Enters s log found w → found ≡ 2 * m + 1
      → (shown_of w ≡ shown_of was) × (offered_of w ≡ shown_of was) × (pens_of w ≡ k ∷ pens_of was)
  closed s was v log w p k found ks n m old asks in_v may held few long less pre at newest enters is =
      let from = prefix_trans was v log in_v pre in
      let same = newest may was ks from held in
      let known_w = after log w (entry.Turned n k) (entered s log w found (is ∙ sym old) enters ∙ ap (λ a. log ++ a ∷ []) asks) in
      let stays = open_stays was log from same in
      let odd = gate_odd (pens_of log) (shown_of log) (offered_of log) m (sym at ∙ is) in
      let still : shown_of log ≡ shown_of was = ⊎_elim (λ (e : shown_of log ≡ shown_of was). e) (λ (e : shown_of log ≡ offered_of was). absurd (omega (arith, ap length e, long, odd.1))) stays.1 in (
        ap (λ k. k.shown) known_w ∙ still,
        ap (λ k. k.offered) known_w
            ∙ (no_longer (shown_of log) (take n (items_of log)) (omega (arith, length-take n (items_of log), ap length still, few)) ∙ still),
        ap (λ k. k.pens) known_w ∙ ap (λ l. k ∷ l) same,
      )

  -- where the gate is no longer as the offer left it, what was offered is published
  pub late : (was log : List (FeedEntry T)) (key : ℕ) (ks : List ℕ) (m : ℕ) → IsPrefix was log → pens_of log ≡ pens_of was → pens_of was ≡ key ∷ ks
      → length (offered_of was) ≡ m → length (shown_of was) < m → ¬ (gate (known log) ≡ 2 * m + 1)
      → (shown_of log ≡ offered_of was) × (offered_of log ≡ offered_of was)
  late was log key ks m from same held long less other =
      let stays = open_stays was log from same in (
        ⊎_elim
            (λ (e : shown_of log ≡ shown_of was). absurd (other (gate_ajar ks key (pens_of log) (shown_of log) (offered_of log) (same ∙ held)
            (omega (arith, ap length e, ap length stays.0, long, less)) ∙ omega (arith, ap length stays.0, long))))
            (λ (e : shown_of log ≡ offered_of was). e) stays.1,
        stays.0,
      )

  pub closed_late : (s : Step (FeedEntry T)) (was v log w : List (FeedEntry T)) (p : Nib) (found : ℕ) (ks : List ℕ) (m : ℕ)
      → s.old ≡ 2 * m + 1 → IsPrefix was v → p.right ≡ may_write → pens_of was ≡ p.key ∷ ks
      → length (offered_of was) ≡ m → length (shown_of was) < m
      → IsPrefix v log → found ≡ gate (known log) → IsNewest p log → Enters s log found w → ¬ (found ≡ 2 * m + 1)
      → (shown_of w ≡ offered_of was) × (offered_of w ≡ offered_of was) × (pens_of w ≡ pens_of was)
  closed_late s was v log w p found ks m old in_v may held long less pre at newest enters other =
      let from = prefix_trans was v log in_v pre in
      let same = newest may was ks from held in
      let is = not_entered s log w found (λ e. other (e ∙ old)) enters in
      let end = late was log p.key ks m from same held long less (λ e. other (at ∙ e)) in
      (ap (λ l. shown_of l) is ∙ end.0, ap (λ l. offered_of l) is ∙ end.1, ap (λ l. pens_of l) is ∙ same)

  pub settled : (s : Step (FeedEntry T)) (was v log w : List (FeedEntry T)) (p : Nib) (found : ℕ) (ks : List ℕ) (m : ℕ) (b : Bool)
      → (found == s.old) ≡ b → s.old ≡ 2 * m + 1 → s.ask ≡ entry.Published
      → IsPrefix was v → p.right ≡ may_write → pens_of was ≡ p.key ∷ ks
      → length (offered_of was) ≡ m → length (shown_of was) < m
      → IsPrefix v log → found ≡ gate (known log) → IsNewest p log → Enters s log found w
      → (shown_of w ≡ offered_of was) × (offered_of w ≡ offered_of was) × (pens_of w ≡ pens_of was)
  settled s was v log w p found ks m true eq old asks in_v may held long less pre at newest enters =
      let is : found ≡ s.old = grind (arith, nat_tests, eq) in
      let from = prefix_trans was v log in_v pre in
      let same = newest may was ks from held in
      let known_w = after log w entry.Published (entered s log w found is enters ∙ ap (λ a. log ++ a ∷ []) asks) in
      let stays = open_stays was log from same in
      (ap (λ k. k.shown) known_w ∙ stays.0, ap (λ k. k.offered) known_w ∙ stays.0, ap (λ k. k.pens) known_w ∙ same)
  settled s was v log w p found ks m false eq old asks in_v may held long less pre at newest enters =
      let isnt : ¬ (found ≡ 2 * m + 1) = λ e. true≢false (sym (is_true found s.old (e ∙ sym old)) ∙ eq) in
      closed_late s was v log w p found ks m old in_v may held long less pre at newest enters isnt

  -- who holds the newest pen, and offers nothing, knows all that was published
  pub all_known : (was one v log w : List (FeedEntry T)) (p : Nib) (ks : List ℕ) → IsPrefix was v → IsPrefix one v → offered_of was ≡ shown_of was
      → p.right ≡ may_write → pens_of was ≡ p.key ∷ ks → IsPrefix v log → IsNewest p log → w ≡ log
      → IsPrefix (shown_of one) (shown_of was) × (shown_of w ≡ shown_of was) × (offered_of w ≡ shown_of was) × (pens_of w ≡ pens_of was)
  all_known was one v log w p ks in_v one_in shut may held pre newest is =
      let from = prefix_trans was v log in_v pre in
      let same = newest may was ks from held in
      let stays = closed_stays was log from same shut in (
        subst (λ l. IsPrefix (shown_of one) l) stays.1 (grows one log (prefix_trans one v log one_in pre)).shown,
        ap (λ l. shown_of l) is ∙ stays.1,
        ap (λ l. offered_of l) is ∙ stays.0,
        ap (λ l. pens_of l) is ∙ same,
      )

  pub pen_kept : (s : Step (FeedEntry T)) (found : ℕ) (x y : Nib) → ¬ (found ≡ s.old) → MatchBool (found == s.old) (x ≡ no_nib) (x ≡ y) → x ≡ y
  pen_kept s found x y other h = subst (λ b. MatchBool b (x ≡ no_nib) (x ≡ y)) (is_false found s.old other) h
