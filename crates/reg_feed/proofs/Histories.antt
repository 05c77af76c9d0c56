-- What a history comes to only grows.
use Rattle.std.proofs.Common.{◌≡◌, ℕ, ◌<◌, ◌≤◌, ◌⊎◌, inl, inr, ⊎_elim, append_assoc, Bool, true, false, List, [], ◌∷◌, ◌++◌, length, take, drop, fold, nat_lt, refl, ap, sym, subst, arith, length-append}
use Rattle.std.proofs.lemmas.List.{append-nil, take-append-drop}
use Rattle.std.proofs.lemmas.List.Sums.{fold-append}
use Rattle.std.proofs.lemmas.Bool.Decides.{nat_tests}
use mathlib.Core.List.{IsPrefix}
use Rattle.reg_feed.specs.Growing.{grown}
use Rattle.reg_feed.specs.declared.entry.FeedEntry.{FeedEntry}
use Rattle.reg_feed.specs.declared.entry.FeedEntry.TheVariants as entry
use Rattle.reg_feed.specs.History.{Known, nothing, next, known}
use Rattle.reg_feed.proofs.Prefixes.{prefix_shorter}

pub prefix_refl : {A : Type 0} (xs : List A) → IsPrefix xs xs
prefix_refl xs = ([], append-nil xs)

pub prefix_trans : {A : Type 0} (xs ys zs : List A) → IsPrefix xs ys → IsPrefix ys zs → IsPrefix xs zs
prefix_trans [] ys zs p q = (zs, refl)
prefix_trans (x ∷ xs) [] zs p q = absurd (cc (p.1))
prefix_trans (x ∷ xs) (y ∷ ys) [] p q = absurd (cc (q.1))
prefix_trans (x ∷ xs) (y ∷ ys) (z ∷ zs) p q =
    let heads : x ≡ z = cc (p.1, q.1) in
    let rest = prefix_trans xs ys zs (p.0, cc (p.1)) (q.0, cc (q.1)) in (rest.0, cc (heads, rest.1))

pub prefix_more : {A : Type 0} (xs ys zs : List A) → IsPrefix xs ys → IsPrefix xs (ys ++ zs)
prefix_more xs ys zs p = prefix_trans xs ys (ys ++ zs) p (zs, refl)

module _ {T : Type 0} where
  grown_at : (xs ys : List T) (b : Bool) → nat_lt (length xs) (length ys) ≡ b
      → ((length xs < length ys) × (grown xs ys ≡ ys)) ⊎ ((length ys ≤ length xs) × (grown xs ys ≡ xs))
  grown_at xs ys true is = inl (grind (arith, nat_tests), rw is refl)
  grown_at xs ys false is = inr (grind (arith, nat_tests), rw is refl)

  pub grown_is : (xs ys : List T)
      → ((length xs < length ys) × (grown xs ys ≡ ys)) ⊎ ((length ys ≤ length xs) × (grown xs ys ≡ xs))
  grown_is xs ys = grown_at xs ys (nat_lt (length xs) (length ys)) refl

  -- what holds of each history
  pub record Fits (s : Known T) : Type 0 where
    pub published : IsPrefix s.shown s.offered
    pub offer : IsPrefix s.offered s.items
    pub new : s.pens ≡ [] → s.offered ≡ []

  -- the second is a later one
  pub record Later (s t : Known T) : Type 0 where
    pub items : IsPrefix s.items t.items
    pub shown : IsPrefix s.shown t.shown
    pub pens : (new : List ℕ) × (t.pens ≡ new ++ s.pens)

  offers : (xs ys zs : List T) → IsPrefix xs zs → IsPrefix ys zs → IsPrefix xs (grown xs ys) × IsPrefix (grown xs ys) zs
  offers xs ys zs p q = ⊎_elim
      (λ (t : (length xs < length ys) × (grown xs ys ≡ ys)). rw t.1 (prefix_shorter xs ys zs p q (omega (arith, t.0)), q))
      (λ (t : (length ys ≤ length xs) × (grown xs ys ≡ xs)). rw t.1 (prefix_refl xs, p)) (grown_is xs ys)

  fits_next : (s : Known T) (e : FeedEntry T) → Fits s → Fits (next s e)
  fits_next s (entry.Added x) f =
      record { published = f.published; offer = prefix_more s.offered s.items (x ∷ []) f.offer; new = f.new }
  fits_next s (entry.Turned m k) f =
      let both = offers s.shown (take m s.items) s.items (prefix_trans s.shown s.offered s.items f.published f.offer) (drop m s.items, take-append-drop m s.items) in
      record { published = both.0; offer = both.1; new = λ is. absurd (cc is) }
  fits_next s entry.Published f =
      record { published = prefix_refl s.offered; offer = f.offer; new = f.new }

  later_next : (s : Known T) (e : FeedEntry T) → Fits s → Later s (next s e)
  later_next s (entry.Added x) f =
      record { items = (x ∷ [], refl); shown = prefix_refl s.shown; pens = ([], refl) }
  later_next s (entry.Turned m k) f =
      record { items = prefix_refl s.items; shown = prefix_refl s.shown; pens = (k ∷ [], refl) }
  later_next s entry.Published f =
      record { items = prefix_refl s.items; shown = f.published; pens = ([], refl) }

  pub later : (s : Known T) (more : List (FeedEntry T)) → Fits s → Fits (fold next s more) × Later s (fold next s more)
  later s [] f = (f, record { items = prefix_refl s.items; shown = prefix_refl s.shown; pens = ([], refl) })
  later s (e ∷ more) f =
      let one = later_next s e f in
      let all = later (next s e) more (fits_next s e f) in
      let t = fold next (next s e) more in (
        all.0,
        record {
          items = prefix_trans s.items (next s e).items t.items one.items all.1.items;
          shown = prefix_trans s.shown (next s e).shown t.shown one.shown all.1.shown;
          pens = (all.1.pens.0 ++ one.pens.0, cc (all.1.pens.1, one.pens.1, append_assoc all.1.pens.0 one.pens.0 s.pens));
        },
      )

  pub fits : (log : List (FeedEntry T)) → Fits (known log)
  fits log = (later nothing log (record { published = ([], refl); offer = ([], refl); new = λ is. refl })).0

  -- a longer history
  pub grows : (xs ys : List (FeedEntry T)) → IsPrefix xs ys → Later (known xs) (known ys)
  grows xs ys p =
      subst (λ l. Later (known xs) (known l)) p.1
      (subst (λ s. Later (known xs) s) (sym (fold-append next nothing xs p.0)) (later (known xs) p.0 (fits xs)).1)

  -- with no new pen all that can happen is that what was offered is published
  pub quiet : (s : Known T) (more : List (FeedEntry T)) → length (fold next s more).pens ≤ length s.pens → Fits s
      → ((fold next s more).offered ≡ s.offered)
      × (((fold next s more).shown ≡ s.shown) ⊎ ((fold next s more).shown ≡ s.offered))
  quiet s [] same f = (refl, inl refl)
  quiet s (entry.Added x ∷ more) same f = quiet (next s (entry.Added x)) more same (fits_next s (entry.Added x) f)
  quiet s (entry.Turned m k ∷ more) same f =
      let t = next s (entry.Turned m k) in
      let long = (later t more (fits_next s (entry.Turned m k) f)).1.pens in
      absurd (omega (arith, ap length long.1, length-append long.0 t.pens))
  quiet s (entry.Published ∷ more) same f =
      let rest = quiet (next s entry.Published) more same (fits_next s entry.Published f) in
      (rest.0, inr (⊎_elim (λ (e : (fold next (next s entry.Published) more).shown ≡ s.offered). e) (λ (e : (fold next (next s entry.Published) more).shown ≡ s.offered). e) rest.1))
