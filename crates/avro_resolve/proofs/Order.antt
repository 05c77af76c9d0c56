-- The order of lists of numbers: shorter ones first, and as long ones in dictionary order.
use Rattle.std.proofs.Common.{◌≡◌, ℕ, ◌<◌, List, [], ◌∷◌, ◌++◌, length, ◌⊎◌, inl, inr, refl, ◌∙◌, arith, length-append, append-nil}
use Rattle.avro_resolve.specs.Trails.{InOrder, ComesFirst}

InOrder_refl : (ks : List ℕ) → InOrder ks ks
InOrder_refl [] = tt
InOrder_refl (k ∷ ks) = inr (refl, InOrder_refl ks)

InOrder_trans : (ks ls ms : List ℕ) → InOrder ks ls → InOrder ls ms → InOrder ks ms
InOrder_trans [] ls ms p q = tt
InOrder_trans (k ∷ ks) [] ms p q = absurd p
InOrder_trans (k ∷ ks) (l ∷ ls) [] p q = absurd q
InOrder_trans (k ∷ ks) (l ∷ ls) (m ∷ ms) (inl a) (inl b) = inl (omega arith)
InOrder_trans (k ∷ ks) (l ∷ ls) (m ∷ ms) (inl a) (inr b) = inl (omega (arith, b.0))
InOrder_trans (k ∷ ks) (l ∷ ls) (m ∷ ms) (inr a) (inl b) = inl (omega (arith, a.0))
InOrder_trans (k ∷ ks) (l ∷ ls) (m ∷ ms) (inr a) (inr b) = inr (a.0 ∙ b.0, InOrder_trans ks ls ms a.1 b.1)

InOrder-append : (ks ls ms : List ℕ) → length ks ≡ length ls → InOrder ks ls → InOrder (ks ++ ms) (ls ++ ms)
InOrder-append [] [] ms e p = InOrder_refl ms
InOrder-append [] (l ∷ ls) ms e p = absurd (omega arith)
InOrder-append (k ∷ ks) [] ms e p = absurd p
InOrder-append (k ∷ ks) (l ∷ ls) ms e (inl a) = inl a
InOrder-append (k ∷ ks) (l ∷ ls) ms e (inr a) = inr (a.0, InOrder-append ks ls ms (omega arith) a.1)

pub ComesFirst_refl : (ks : List ℕ) → ComesFirst ks ks
ComesFirst_refl ks = inr (refl, InOrder_refl ks)

pub ComesFirst_trans : (ks ls ms : List ℕ) → ComesFirst ks ls → ComesFirst ls ms → ComesFirst ks ms
ComesFirst_trans ks ls ms (inl a) (inl b) = inl (omega arith)
ComesFirst_trans ks ls ms (inl a) (inr b) = inl (omega (arith, b.0))
ComesFirst_trans ks ls ms (inr a) (inl b) = inl (omega (arith, a.0))
ComesFirst_trans ks ls ms (inr a) (inr b) = inr (a.0 ∙ b.0, InOrder_trans ks ls ms a.1 b.1)

-- the same numbers may follow both
pub ComesFirst-append : (ks ls ms : List ℕ) → ComesFirst ks ls → ComesFirst (ks ++ ms) (ls ++ ms)
ComesFirst-append ks ls ms (inl a) = inl (omega (arith, length-append ks ms, length-append ls ms))
ComesFirst-append ks ls ms (inr a) = inr (omega (arith, a.0, length-append ks ms, length-append ls ms), InOrder-append ks ls ms a.0 a.1)

-- a list comes before what goes on from it
pub ComesFirst-longer : (ks ms : List ℕ) → ComesFirst ks (ks ++ ms)
ComesFirst-longer ks [] = rw append-nil (ComesFirst_refl ks)
ComesFirst-longer ks (m ∷ ms) = inl (omega (arith, length-append ks (m ∷ ms)))

-- ---- strictly before, for the order in which pairs are reached

abbrev pub Earlier : List ℕ → List ℕ → Type 0
Earlier [] ls = ⊥
Earlier (k ∷ ks) [] = ⊥
Earlier (k ∷ ks) (l ∷ ls) = (k < l) ⊎ ((k ≡ l) × Earlier ks ls)

abbrev pub Before : List ℕ → List ℕ → Type 0
Before ks ls = (length ks < length ls) ⊎ ((length ks ≡ length ls) × Earlier ks ls)

Earlier-weaker : (ks ls : List ℕ) → Earlier ks ls → InOrder ks ls
Earlier-weaker [] ls p = absurd p
Earlier-weaker (k ∷ ks) [] p = absurd p
Earlier-weaker (k ∷ ks) (l ∷ ls) (inl a) = inl a
Earlier-weaker (k ∷ ks) (l ∷ ls) (inr a) = inr (a.0, Earlier-weaker ks ls a.1)

pub Before-weaker : (ks ls : List ℕ) → Before ks ls → ComesFirst ks ls
Before-weaker ks ls (inl a) = inl a
Before-weaker ks ls (inr a) = inr (a.0, Earlier-weaker ks ls a.1)

Earlier-append : (ks ls ms ns : List ℕ) → Earlier ks ls → Earlier (ks ++ ms) (ls ++ ns)
Earlier-append [] ls ms ns p = absurd p
Earlier-append (k ∷ ks) [] ms ns p = absurd p
Earlier-append (k ∷ ks) (l ∷ ls) ms ns (inl a) = inl a
Earlier-append (k ∷ ks) (l ∷ ls) ms ns (inr a) = inr (a.0, Earlier-append ks ls ms ns a.1)

-- what is reached from the earlier is reached before what is reached from the later
pub Before-children : (ks ls : List ℕ) (m n : ℕ) → Before ks ls → Before (ks ++ m ∷ []) (ls ++ n ∷ [])
Before-children ks ls m n (inl a) = inl (omega (arith, length-append ks (m ∷ []), length-append ls (n ∷ [])))
Before-children ks ls m n (inr a) =
    inr (omega (arith, a.0, length-append ks (m ∷ []), length-append ls (n ∷ [])), Earlier-append ks ls (m ∷ []) (n ∷ []) a.1)

last_earlier : (ks : List ℕ) (m n : ℕ) → m < n → Earlier (ks ++ m ∷ []) (ks ++ n ∷ [])
last_earlier [] m n h = inl h
last_earlier (k ∷ ks) m n h = inr (refl, last_earlier ks m n h)

-- the children of one pair are reached in the order of their numbers
pub Before-siblings : (ks : List ℕ) (m n : ℕ) → m < n → Before (ks ++ m ∷ []) (ks ++ n ∷ [])
Before-siblings ks m n h = inr (omega (arith, length-append ks (m ∷ []), length-append ks (n ∷ [])), last_earlier ks m n h)

Earlier_trans : (ks ls ms : List ℕ) → Earlier ks ls → Earlier ls ms → Earlier ks ms
Earlier_trans [] ls ms p q = absurd p
Earlier_trans (k ∷ ks) [] ms p q = absurd p
Earlier_trans (k ∷ ks) (l ∷ ls) [] p q = absurd q
Earlier_trans (k ∷ ks) (l ∷ ls) (m ∷ ms) (inl a) (inl b) = inl (omega arith)
Earlier_trans (k ∷ ks) (l ∷ ls) (m ∷ ms) (inl a) (inr b) = inl (omega (arith, b.0))
Earlier_trans (k ∷ ks) (l ∷ ls) (m ∷ ms) (inr a) (inl b) = inl (omega (arith, a.0))
Earlier_trans (k ∷ ks) (l ∷ ls) (m ∷ ms) (inr a) (inr b) = inr (a.0 ∙ b.0, Earlier_trans ks ls ms a.1 b.1)

pub Before_trans : (ks ls ms : List ℕ) → Before ks ls → Before ls ms → Before ks ms
Before_trans ks ls ms (inl a) (inl b) = inl (omega arith)
Before_trans ks ls ms (inl a) (inr b) = inl (omega (arith, b.0))
Before_trans ks ls ms (inr a) (inl b) = inl (omega (arith, a.0))
Before_trans ks ls ms (inr a) (inr b) = inr (a.0 ∙ b.0, Earlier_trans ks ls ms a.1 b.1)

-- the roots are reached before what is reached from anywhere
pub Before-root : (ks : List ℕ) (k : ℕ) → Before [] (ks ++ k ∷ [])
Before-root ks k = inl (omega (arith, length-append ks (k ∷ [])))

-- two lists that each come first are the same
InOrder_both : (ks ls : List ℕ) → InOrder ks ls → InOrder ls ks → ks ≡ ls
InOrder_both [] [] p q = refl
InOrder_both [] (l ∷ ls) p q = absurd q
InOrder_both (k ∷ ks) [] p q = absurd p
InOrder_both (k ∷ ks) (l ∷ ls) (inl a) (inl b) = absurd (omega arith)
InOrder_both (k ∷ ks) (l ∷ ls) (inl a) (inr b) = absurd (omega (arith, b.0))
InOrder_both (k ∷ ks) (l ∷ ls) (inr a) (inl b) = absurd (omega (arith, a.0))
InOrder_both (k ∷ ks) (l ∷ ls) (inr a) (inr b) = let tails = InOrder_both ks ls a.1 b.1 in let heads = a.0 in cc

pub ComesFirst_both : (ks ls : List ℕ) → ComesFirst ks ls → ComesFirst ls ks → ks ≡ ls
ComesFirst_both ks ls (inl a) (inl b) = absurd (omega arith)
ComesFirst_both ks ls (inl a) (inr b) = absurd (omega (arith, b.0))
ComesFirst_both ks ls (inr a) (inl b) = absurd (omega (arith, a.0))
ComesFirst_both ks ls (inr a) (inr b) = InOrder_both ks ls a.1 b.1
