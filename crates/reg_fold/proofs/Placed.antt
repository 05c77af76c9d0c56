-- The entries of the last records, each kept at its own place.
use Rattle.std.proofs.Common.{◌≡◌, List, [], ◌∷◌, length, Option, Some, None, refl, sym, subst, ◌∙◌, arith}
use Rattle.std.proofs.lemmas.Cmp.{nat_cmp_total, nat_list_cmp_total, on_total, then_total}
use Rattle.std.specs.Cmp.{IsTotalOrder}
use Rattle.std.specs.Cmp.Lexicographic.{slice_cmp}
use Rattle.std.specs.FinMap as finmap
use Rattle.std.specs.FinMap.{nat_cmp-IsAntisymmetric, slice_cmp-IsAntisymmetric}
use Rattle.std.specs.FinMap.Entries.{put, by_order}
use Rattle.std.specs.List.{AllByRecursion, cons_option, filter_map, fold}
use Rattle.std.specs.Ordering.{nat_cmp, ordering_then}
use Rattle.std.specs.declared.cmp.Ordering.{Ordering}
use Rattle.std.specs.declared.cmp.Ordering.TheVariants.{Less, Equal, Greater}
use Rattle.reg_values.specs.reg_records.declared.record.Record.{Record}
use Rattle.reg_set.specs.Records.{Records, records_of}
use Rattle.reg_entries.specs.EntryOrder.{Place, place_cmp, place_of}
use Rattle.reg_entries.specs.declared.entry.Entry.{Entry}
use Rattle.reg_fold.specs.Entries.{entry_map, entry_of}
use Rattle.reg_fold.specs.Spots.{spot_cmp}

pub place_cmp-total : IsTotalOrder place_cmp
place_cmp-total = then_total (on_total (λ p. p.0) nat_list_cmp_total) (on_total (λ p. p.1) nat_cmp_total)

pub spot_cmp-total : IsTotalOrder spot_cmp
spot_cmp-total = then_total (on_total (λ s. s.0) nat_cmp_total) (on_total (λ s. s.1) place_cmp-total)

-- two orders one after the other tie where both do
pub then_ties : (a b : Ordering) → ordering_then a b ≡ Equal → (a ≡ Equal) × (b ≡ Equal)
then_ties Less b e = absurd (cc)
then_ties Equal b e = (refl, e)
then_ties Greater b e = absurd (cc)

-- places that tie are one place
pub place_cmp-ties : (p q : Place) → place_cmp p q ≡ Equal → p ≡ q
place_cmp-ties p q e =
    let ties = then_ties (slice_cmp nat_cmp p.0 q.0) (nat_cmp p.1 q.1) e in
    let subjects = slice_cmp-IsAntisymmetric nat_cmp-IsAntisymmetric p.0 q.0 ties.0 in
    let versions = nat_cmp-IsAntisymmetric p.1 q.1 ties.1 in
    λ i. (subjects i, versions i)

-- the map with the entry at its place
abbrev pub placed : finmap.FinMap place_cmp Entry → Entry → finmap.FinMap place_cmp Entry
placed m e = finmap.insert m (place_of e) e

no_length : {A : Type 0} (es : List A) → length es ≡ 0 → es ≡ []
no_length [] e = refl
no_length (x ∷ es) e = absurd (omega arith)

entries-empty : finmap.entries (finmap.empty {K = Place} {X = Entry} {R = place_cmp}) ≡ []
entries-empty = no_length _ (sym (finmap.len-entries finmap.empty) ∙ finmap.len-empty place_cmp Entry)

-- what holds of each entry that a record gives, at its place, holds of each that is kept
module _ (P : Place × Entry → Type 0) where
  put-each : (e : Entry) (es : List (Place × Entry)) → P (place_of e, e)
      → AllByRecursion P es → AllByRecursion P (put place_cmp (place_of e) e es)
  put-each e [] one all = (one, tt)
  put-each e (f ∷ fs) one all =
      elim (place_cmp (place_of e) f.0) as (λ o. place_cmp (place_of e) f.0 ≡ o
      → AllByRecursion P (by_order o ((place_of e, e) ∷ f ∷ fs) ((f.0, e) ∷ fs) (f ∷ put place_cmp (place_of e) e fs))) [
        | Less ↦ λ _. (one, all)
        | Equal ↦ λ tie. (subst (λ (p : Place). P (p, e)) (place_cmp-ties (place_of e) f.0 tie) one, all.1)
        | Greater ↦ λ _. (all.0, put-each e fs one all.1)
      ] refl

  fold-each : (es : List Entry) (m : finmap.FinMap place_cmp Entry) → AllByRecursion (λ e. P (place_of e, e)) es
      → AllByRecursion P (finmap.entries m) → AllByRecursion P (finmap.entries (fold placed m es))
  fold-each [] m each all = all
  fold-each (e ∷ es) m each all =
      fold-each es (placed m e) each.1 (
      subst (AllByRecursion P) (sym (finmap.entries-insert place_cmp-total m (place_of e) e)) (put-each e (finmap.entries m) each.0 all))

  given-each : (h : Record → Option Entry) → ((r : Record) (e : Entry) → h r ≡ Some e → P (place_of e, e))
      → (rs : List Record) → AllByRecursion (λ e. P (place_of e, e)) (filter_map h rs)
  given-each h gives [] = tt
  given-each h gives (r ∷ rs) =
      elim (h r) as (λ o. h r ≡ o → AllByRecursion (λ e. P (place_of e, e)) (cons_option o (filter_map h rs))) [
        | None ↦ λ _. given-each h gives rs
        | Some e ↦ λ is. (gives r e is, given-each h gives rs)
      ] refl

  pub entry_map-each : (rs : Records) → ((r : Record) (e : Entry) → entry_of rs r ≡ Some e → P (place_of e, e))
      → AllByRecursion P (finmap.entries (entry_map rs))
  unfolding entry_map
  entry_map-each rs gives =
      fold-each (filter_map (entry_of rs) (records_of rs)) finmap.empty
      (given-each (entry_of rs) gives (records_of rs)) (subst (AllByRecursion P) (sym entries-empty) tt)

-- each entry is kept at its own place
abbrev pub ArePlaced : List (Place × Entry) → Type 0
ArePlaced = AllByRecursion (λ kept. kept.0 ≡ place_of kept.1)

pub entry_map-placed : (rs : Records) → ArePlaced (finmap.entries (entry_map rs))
entry_map-placed rs = entry_map-each (λ kept. kept.0 ≡ place_of kept.1) rs (λ r e gives. refl)
