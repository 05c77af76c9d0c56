-- Why no clash can be reached once each pair that was met was looked up.
use Rattle.std.proofs.Common.{◌≡◌, ℕ, suc, ◌+◌, ◌*◌, ◌/◌, ◌%◌, ◌<◌, ◌≤◌, List, [], ◌∷◌, ◌++◌, length, Bool, true, false, not, ◌&&◌, ◌||◌}
use Rattle.std.proofs.Common.{eqb, All, Option, Some, None, is_some, option_map, option_and_then, slice_get, refl, sym, ◌∙◌, ap, subst}
use Rattle.std.proofs.Common.{arith, length-append}
use Rattle.std.specs.List.{list_any, IsDistinct}
use Rattle.std.proofs.lemmas.Bool.{eqb-true, eq-eqb}
use Rattle.std.proofs.lemmas.Cmp.{nat_eq_equiv}
use Rattle.std.proofs.lemmas.List.Elements.{All-cons, All-nil}
use Rattle.std.proofs.lemmas.List.Folds.{list_any-append}
use Rattle.std.proofs.lemmas.Map.Keys.{IsDistinct-push}
use Rattle.std.proofs.lemmas.Map.Steps.{length-le_from_distinct_below}
use Rattle.std.proofs.lemmas.Nat.{mul-add-lt, div-mul-add, mod-mul-add}
use Rattle.std.proofs.lemmas.Option.{slice_get-map}
use Rattle.std.proofs.Math.Nat.{mul_comm}
use Rattle.avro_schema.specs.declared.node.Node.{Node}
use Rattle.avro_schema.specs.Sound.{IsSound}
use Rattle.avro_resolve.specs.declared.worklist.Worklist.{Worklist}
use Rattle.avro_resolve.specs.declared.obligations.Pair.{Pair}
use Rattle.avro_resolve.specs.declared.obligations.Obligation.{Obligation}
use Rattle.avro_resolve.specs.declared.trail.Trail.{Trail}
use Rattle.avro_resolve.specs.Worklist.{has_number, is_met, waits}
use Rattle.avro_resolve.specs.AnyClash.{HasGrown, HaveMet}
use Rattle.avro_resolve.specs.Numbered.{number_of, IsPairOf}
use Rattle.avro_resolve.specs.Owed.{pairs_of}
use Rattle.avro_resolve.specs.Seen.{same_pair}
use Rattle.avro_resolve.specs.Table.{clash_of, obligations}
use Rattle.avro_resolve.specs.Trails.{roots, trail_from, AreCompatible}
use Rattle.avro_resolve.proofs.Hops.{end_at, after_hop}
use Rattle.avro_resolve.proofs.Rows.{obligations_within}
use Rattle.avro_resolve.proofs.Searching.{same_pair-≡}
use Rattle.avro_resolve.proofs.Sound.{all_at}

no_both : (a : Bool) → a ≡ true → a ≡ false → ⊥
no_both true e f = cc
no_both false e f = cc

-- a pair without a cause to clash
pub no_cause : {A : Type 0} (o : Option A) (b : Bool) → b ≡ is_some o → b ≡ false → o ≡ None
no_cause None b e f = refl
no_cause (Some x) b e f = let never : true ≡ false = sym e ∙ f in cc

-- ---- pairs by numbers

none_distinct : IsDistinct eqb []
unfolding IsDistinct
none_distinct = tt

same_from_numbers : (r w : List Node) (p q : Pair) → IsPairOf r w p → IsPairOf r w q → number_of w p ≡ number_of w q → same_pair q p ≡ true
same_from_numbers r w p q in_p in_q e =
    let readers : p.reader.index ≡ q.reader.index =
    sym (div-mul-add p.reader.index (length w) p.writer.index in_p.writer)
    ∙ ap (λ n. n / length w) e
    ∙ div-mul-add q.reader.index (length w) q.writer.index in_q.writer in
    let writers : p.writer.index ≡ q.writer.index =
    sym (mod-mul-add p.reader.index (length w) p.writer.index in_p.writer)
    ∙ ap (λ n. n % length w) e
    ∙ mod-mul-add q.reader.index (length w) q.writer.index in_q.writer in
    ap (λ b. b && eqb q.writer.index p.writer.index) (eq-eqb q.reader.index p.reader.index (sym readers))
    ∙ eq-eqb q.writer.index p.writer.index (sym writers)

-- what a pair owes are types of the schemas
owed_within : (r w : List Node) → IsSound r → IsSound w → (p : Pair) → IsPairOf r w p
    → (k : ℕ) (o : Obligation) → slice_get (obligations r w p) k ≡ Some o → IsPairOf r w o.pair
owed_within r w s t p inside k o at =
    let one = obligations_within r w s t p (record { reader = inside.reader; writer = inside.writer }) k o at in
    record { reader = one.reader; writer = one.writer }

-- ---- what was looked up

-- no clash, and each pair that it owes was met
pub record IsClosed (r w : List Node) (a : Worklist) (p : Pair) : Type 0 where
  pub peaceful : clash_of r w p ≡ None
  pub owes : (k : ℕ) (o : Obligation) → slice_get (obligations r w p) k ≡ Some o → is_met a (number_of w o.pair) ≡ true

-- the roots were met, and n of all that were met were looked up; the others wait
pub record AreLookedUp (r w : List Node) (a : Worklist) (n : ℕ) : Type 0 where
  pub done : List ℕ
  pub counted : length done ≡ n
  pub distinct : IsDistinct eqb done
  pub looked : (k : ℕ) → list_any (eqb k) done ≡ true → (is_met a k ≡ true) × (waits a k ≡ false)
  pub below : (k : ℕ) → is_met a k ≡ true → k < length r * length w
  pub begun : is_met a 0 ≡ true
  pub closed : (p : Pair) → IsPairOf r w p → is_met a (number_of w p) ≡ true → waits a (number_of w p) ≡ false → IsClosed r w a p

some_pairs : (r w : List Node) → IsSound r → IsSound w → 0 < length r * length w
some_pairs r w s t =
    let below : 0 * length w + 0 < length w * length r = mul-add-lt 0 (length w) 0 (length r) s.has_root t.has_root in
    omega (arith, below, mul_comm (length r) (length w))

-- only the roots were met
pub looked_first : (r w : List Node) → IsSound r → IsSound w → (a : Worklist)
    → ((k : ℕ) → is_met a k ≡ eqb 0 k) → ((k : ℕ) → waits a k ≡ eqb 0 k) → AreLookedUp r w a 0
looked_first r w s t a met waiting = record {
  done = [];
  counted = refl;
  distinct = none_distinct;
  looked = λ k e. cc;
  below = λ k e. let zeroth : 0 ≡ k = eqb-true 0 k (sym (met k) ∙ e) in omega (arith, zeroth, some_pairs r w s t);
  begun = met 0;
  closed = λ p inside is_met_p waits_p.
      absurd (no_both (eqb 0 (number_of w p)) (sym (met (number_of w p)) ∙ is_met_p) (sym (waiting (number_of w p)) ∙ waits_p));
}

-- ---- one pair more is looked up

module _ (r w : List Node) (a : Worklist) (n : ℕ) (now : AreLookedUp r w a n) where
  -- not more than there are
  pub looked_few : n ≤ length r * length w
  looked_few =
      subst (λ m. m ≤ length r * length w) now.counted
      (length-le_from_distinct_below now.done (length r * length w) now.distinct (λ q e. now.below q (now.looked q e).0))

  module _ (k : ℕ) (taken : waits a k ≡ true) (known : is_met a k ≡ true) where
    not_done : (b : Bool) → list_any (eqb k) now.done ≡ b → b ≡ false
    not_done true e = absurd (no_both (waits a k) taken (now.looked k e).1)
    not_done false e = refl

    distinct_now : IsDistinct eqb (now.done ++ k ∷ [])
    distinct_now = IsDistinct-push nat_eq_equiv now.done k now.distinct (not_done _ refl)

    in_done : (l : ℕ) → list_any (eqb l) (now.done ++ k ∷ []) ≡ true → (b : Bool) → list_any (eqb l) now.done ≡ b → (b ≡ false → l ≡ k)
    in_done l e true is absent = cc
    in_done l e false is absent =
        eqb-true l k (or_false (eqb l k) (ap (λ t. t || (eqb l k || false)) (sym is) ∙ sym (list_any-append (eqb l) now.done (k ∷ [])) ∙ e))
      where
        or_false : (b : Bool) → (false || (b || false)) ≡ true → b ≡ true
        or_false true e = refl
        or_false false e = e

    met_of : (l : ℕ) → list_any (eqb l) (now.done ++ k ∷ []) ≡ true → is_met a l ≡ true
    met_of l e = go (list_any (eqb l) now.done) refl
      where
        go : (b : Bool) → list_any (eqb l) now.done ≡ b → is_met a l ≡ true
        go true is = (now.looked l is).0
        go false is = ap (is_met a) (in_done l e _ is refl) ∙ known

    -- more remain than were looked up
    pub looked_fewer : n < length r * length w
    looked_fewer =
        let all : length (now.done ++ k ∷ []) ≤ length r * length w =
        length-le_from_distinct_below (now.done ++ k ∷ []) (length r * length w) distinct_now (λ q e. now.below q (met_of q e)) in
        omega (arith, all, length-append now.done (k ∷ []), now.counted)

    module _ (b c : Worklist) (left : (l : ℕ) → waits b l ≡ (not (eqb k l) && waits a l)) (same : b.met.words.items ≡ a.met.words.items)
        (p : Pair) (inside : IsPairOf r w p) (is : number_of w p ≡ k) (peaceful : clash_of r w p ≡ None)
        (ps : List Pair) (owes : ps ≡ pairs_of (obligations r w p)) (met : HaveMet r w b ps c) where
      met_b : (l : ℕ) → is_met a l ≡ true → is_met b l ≡ true
      met_b l e = ap (λ ws. has_number ws l) same ∙ e

      met_a : (l : ℕ) → is_met b l ≡ true → is_met a l ≡ true
      met_a l e = ap (λ ws. has_number ws l) (sym same) ∙ e

      met_c : (l : ℕ) → is_met a l ≡ true → is_met c l ≡ true
      met_c l e = met.grown.stays l (met_b l e)

      waits_c : (l : ℕ) → is_met a l ≡ true → waits c l ≡ (not (eqb k l) && waits a l)
      waits_c l e = met.grown.kept l (met_b l e) ∙ left l

      looked_now : (l : ℕ) → list_any (eqb l) (now.done ++ k ∷ []) ≡ true → (b : Bool)
          → list_any (eqb l) now.done ≡ b → (is_met c l ≡ true) × (waits c l ≡ false)
      looked_now l e true at =
          let old = now.looked l at in
          (met_c l old.0, waits_c l old.0 ∙ ap (λ t. not (eqb k l) && t) old.1 ∙ and_false (not (eqb k l)))
        where
          and_false : (b : Bool) → (b && false) ≡ false
          and_false true = refl
          and_false false = refl
      looked_now l e false at =
          let one : l ≡ k = in_done l e _ at refl in
          let was : is_met a l ≡ true = ap (is_met a) one ∙ known in
          (met_c l was, waits_c l was ∙ ap (λ t. not t && waits a l) (eq-eqb k l (sym one)))

      below_now : (l : ℕ) → is_met c l ≡ true → (b : Bool) → is_met a l ≡ b → l < length r * length w
      below_now l e true at = now.below l at
      below_now l e false at = met.grown.below l (ap (λ ws. has_number ws l) same ∙ at) e

      more : (q : Pair) → IsClosed r w a q → IsClosed r w c q
      more q old = record { peaceful = old.peaceful; owes = λ m o at. met_c (number_of w o.pair) (old.owes m o at) }

      -- the pair itself
      of_p : IsClosed r w c p
      of_p = record {
        peaceful = peaceful;
        owes = λ m o at.
            all_at (λ q. is_met c (number_of w q) ≡ true) ps met.each m o.pair
            (ap (λ l. slice_get l m) owes
            ∙ slice_get-map (λ (x : Obligation). x.pair) (obligations r w p) m
            ∙ ap (option_map (λ (x : Obligation). x.pair)) at);
      }

      closed_old : (q : Pair) → IsPairOf r w q → is_met a (number_of w q) ≡ true → (b : Bool)
          → eqb k (number_of w q) ≡ b → (not b && waits a (number_of w q)) ≡ false → IsClosed r w c q
      closed_old q within met_q true one waits_q =
          let numbers : number_of w p ≡ number_of w q = is ∙ eqb-true k (number_of w q) one in
          let pairs : q ≡ p = same_pair-≡ q p (same_from_numbers r w p q inside within numbers) in
          subst (IsClosed r w c) (sym pairs) of_p
      closed_old q within met_q false one waits_q = more q (now.closed q within met_q waits_q)

      closed_now : (q : Pair) → IsPairOf r w q → is_met c (number_of w q) ≡ true
          → waits c (number_of w q) ≡ false → (b : Bool) → is_met a (number_of w q) ≡ b → IsClosed r w c q
      closed_now q within met_q waits_q true at = closed_old q within at _ refl (sym (waits_c (number_of w q) at) ∙ waits_q)
      closed_now q within met_q waits_q false at =
          absurd (
          no_both (waits c (number_of w q))
          (met.grown.fresh (number_of w q) (ap (λ ws. has_number ws (number_of w q)) same ∙ at) met_q) waits_q)

      pub looked_next : AreLookedUp r w c (n + 1)
      looked_next = record {
        done = now.done ++ k ∷ [];
        counted = omega (arith, length-append now.done (k ∷ []), now.counted);
        distinct = distinct_now;
        looked = λ l e. looked_now l e _ refl;
        below = λ l e. below_now l e _ refl;
        begun = met_c 0 now.begun;
        closed = λ q within met_q waits_q. closed_now q within met_q waits_q _ refl;
      }

-- ---- nothing waits

module _ (r w : List Node) (s : IsSound r) (t : IsSound w) (a : Worklist) (n : ℕ)
    (now : AreLookedUp r w a n) (none : (k : ℕ) → waits a k ≡ false) where
  leads_nowhere : (ks : List ℕ) (p : Pair) → IsPairOf r w p → is_met a (number_of w p) ≡ true → trail_from r w p ks ≡ None
  leads_nowhere [] p inside met = ap (option_map end_at) (now.closed p inside met (none (number_of w p))).peaceful
  leads_nowhere (k ∷ ks) p inside met = along (slice_get (obligations r w p) k) refl (λ q within met_q. leads_nowhere ks q within met_q)
    where
      onward : Option Obligation → Option Trail
      onward o = option_and_then (λ x. option_map (after_hop x.hop) (trail_from r w x.pair ks)) o

      along : (found : Option Obligation) → slice_get (obligations r w p) k ≡ found
          → ((q : Pair) → IsPairOf r w q → is_met a (number_of w q) ≡ true → trail_from r w q ks ≡ None) → onward found ≡ None
      along None is ih = refl
      along (Some o) is ih =
          ap (option_map (after_hop o.hop))
          (ih o.pair (owed_within r w s t p inside k o is) ((now.closed p inside met (none (number_of w p))).owes k o is))

  -- no clash can be reached
  pub looked_all : AreCompatible r w
  looked_all ks =
      leads_nowhere ks roots (record { reader = s.has_root; writer = t.has_root })
      (let zeroth : number_of w roots ≡ 0 = omega arith in ap (is_met a) zeroth ∙ now.begun)

-- ---- pairs are met one by one

pub pairs_within : (r w : List Node) → IsSound r → IsSound w → (p : Pair) → IsPairOf r w p
    → (ps : List Pair) → ps ≡ pairs_of (obligations r w p) → All (IsPairOf r w) ps
pairs_within r w s t p inside ps is = subst (All (IsPairOf r w)) (sym is) (go (obligations r w p) (owed_within r w s t p inside))
  where
    go : (os : List Obligation) → ((k : ℕ) (o : Obligation) → slice_get os k ≡ Some o → IsPairOf r w o.pair)
        → All (IsPairOf r w) (pairs_of os)
    go [] h = All-nil (IsPairOf r w)
    go (o ∷ os) h = All-cons (IsPairOf r w) o.pair (pairs_of os) (h 0 o refl) (go os (λ k q at. h (suc k) q at))

pub met_none : (many : ℕ) (a : Worklist) → HasGrown many a a
met_none many a = record {
  stays = λ l e. e;
  kept = λ l e. refl;
  fresh = λ l before now. absurd (no_both (is_met a l) now before);
  below = λ l before now. absurd (no_both (is_met a l) now before);
}

module _ (many : ℕ) (a b c : Worklist) (old : HasGrown many a b) (k : ℕ) (small : k < many)
    (met : (l : ℕ) → is_met c l ≡ (eqb k l || is_met b l))
    (waiting : (l : ℕ) → waits c l ≡ ((eqb k l && not (is_met b k)) || waits b l)) where
  or_left : (x y : Bool) → y ≡ true → (x || y) ≡ true
  or_left true y e = refl
  or_left false y e = e

  pub met_still : (l : ℕ) → is_met b l ≡ true → is_met c l ≡ true
  met_still l e = met l ∙ or_left (eqb k l) (is_met b l) e

  pub met_it : is_met c k ≡ true
  met_it = met k ∙ ap (λ t. t || is_met b k) (eq-eqb k k refl)

  waits_still : (l : ℕ) → is_met b l ≡ true → (x : Bool) → eqb k l ≡ x → ((x && not (is_met b k)) || waits b l) ≡ waits b l
  waits_still l e true one = ap (λ t. not t || waits b l) (ap (is_met b) (eqb-true k l one) ∙ e)
  waits_still l e false one = refl

  -- the number itself, or one that was met before
  fresh_now : (l : ℕ) → is_met a l ≡ false → (x : Bool) → eqb k l ≡ x → (y : Bool)
      → is_met b l ≡ y → (x || y) ≡ true → ((x && not (is_met b k)) || waits b l) ≡ true
  fresh_now l before true one true at e = or_left (not (is_met b k)) (waits b l) (old.fresh l before at)
  fresh_now l before true one false at e = ap (λ t. not t || waits b l) (ap (is_met b) (eqb-true k l one) ∙ at)
  fresh_now l before false one true at e = old.fresh l before at
  fresh_now l before false one false at e = cc

  below_more : (l : ℕ) → is_met a l ≡ false → (x : Bool) → eqb k l ≡ x → (x || is_met b l) ≡ true → l < many
  below_more l before true one e = subst (λ m. m < many) (eqb-true k l one) small
  below_more l before false one e = old.below l before e

  pub met_more : HasGrown many a c
  met_more = record {
    stays = λ l e. met_still l (old.stays l e);
    kept = λ l e. waiting l ∙ waits_still l (old.stays l e) _ refl ∙ old.kept l e;
    fresh = λ l before now. waiting l ∙ fresh_now l before _ refl _ refl (sym (met l) ∙ now);
    below = λ l before now. below_more l before _ refl (sym (met l) ∙ now);
  }
