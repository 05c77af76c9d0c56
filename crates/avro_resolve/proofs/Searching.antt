-- What the search keeps, step by step.
use Rattle.std.proofs.Common.{◌≡◌, ℕ, ◌+◌, ◌<◌, List, [], ◌∷◌, ◌++◌, length, drop, drop-cons, add-one}
use Rattle.std.proofs.Common.{Bool, true, false, ◌||◌, eqb, not, Option, Some, None, Result, Ok, Err}
use Rattle.std.proofs.Common.{is_some, is_none, option_and_then, get_or, append_assoc, append-nil, slice_get, refl, sym}
use Rattle.std.proofs.Common.{◌∙◌, ap, subst}
use Rattle.std.proofs.lemmas.Bool.{eqb-true}
use Rattle.std.proofs.lemmas.List.Folds.{list_any-append}
use Rattle.std.proofs.lemmas.Option.{slice_get_read}
use Rattle.avro_resolve.specs.declared.trail.Hop.{Hop}
use Rattle.avro_resolve.proofs.Sound.{and_left, and_right}
use Rattle.avro_resolve.specs.declared.obligations.Pair.{Pair}
use Rattle.avro_resolve.specs.declared.obligations.Obligation.{Obligation}
use Rattle.avro_resolve.specs.declared.trail.ClashKind.{ClashKind}
use Rattle.avro_resolve.specs.Table.{obligations}
use Rattle.std.specs.Result.{result_err}
use Rattle.avro_resolve.proofs.Rows.{owed_in}
use Rattle.avro_resolve.specs.declared.search.Origin.{Origin}
use Rattle.avro_resolve.specs.declared.search.ReachedPair.{ReachedPair}
use Rattle.avro_resolve.specs.Seen.{same_pair, is_seen, IsFair}
use Rattle.avro_resolve.specs.Search.{is_reached, AgreesWith, with_entry}
use Rattle.avro_resolve.specs.Search.{entry_from, expanded, from_at, hop_numbered, hop_at}
use Rattle.avro_resolve.specs.Search.{IsStep, IsWayBack}
use Rattle.avro_resolve.specs.declared.seen.SeenPairs.{SeenPairs}
use Rattle.avro_schema.specs.declared.node.Node.{Node}

-- ---- pairs

pub same_pair-≡ : (p q : Pair) → same_pair p q ≡ true → p ≡ q
same_pair-≡ p q e =
    let readers : p.reader.index ≡ q.reader.index = eqb-true _ _ (and_left (eqb p.reader.index q.reader.index) _ e) in
    let writers : p.writer.index ≡ q.writer.index = eqb-true _ _ (and_right (eqb p.reader.index q.reader.index) _ e) in
    ap (λ i. record { reader = record { index = i }; writer = p.writer }) readers
    ∙ ap (λ i. record { reader = q.reader; writer = record { index = i } }) writers

-- ---- the pairs that were seen beside the entries

or_last : (a b : Bool) → (a || b) ≡ (b || (a || false))
or_last true true = refl
or_last true false = refl
or_last false true = refl
or_last false false = refl

pub agrees_added : (seen new : SeenPairs) (es : List ReachedPair) (e : ReachedPair) → AgreesWith seen es
    → ((p : Pair) → is_seen new p ≡ (same_pair e.pair p || is_seen seen p)) → IsFair new
    → AgreesWith new (es ++ e ∷ [])
agrees_added seen new es e agrees added fair = record {
  same = λ p. added p
      ∙ ap (λ b. same_pair e.pair p || b) (agrees.same p)
      ∙ or_last (same_pair e.pair p) (is_reached es p)
      ∙ sym (list_any-append (λ (x : ReachedPair). same_pair x.pair p) es (e ∷ []));
  fair = fair;
}

pub none_if : {A : Type 0} (o : Option A) (b : Bool) → is_some o ≡ not b → b ≡ is_none o
none_if None true e = refl
none_if None false e = cc
none_if (Some x) true e = cc
none_if (Some x) false e = refl

-- ---- the loop over the pairs that are owed

-- the element at a place begins what is left from there
drop_here : {A : Type 0} (xs : List A) (k : ℕ) (d : A) → k < length xs → drop k xs ≡ get_or xs k d ∷ drop (k + 1) xs
drop_here xs k d inside = drop-cons xs k d inside ∙ ap (λ n. get_or xs k d ∷ drop n xs) (sym (add-one k))

pub reached_next : (ps : List Pair) (place k : ℕ) (d : Pair) (es new all : List ReachedPair) → k < length ps
    → new ≡ with_entry es (entry_from place k (get_or ps k d))
    → expanded place k (drop k ps) es ≡ all
    → expanded place (k + 1) (drop (k + 1) ps) new ≡ all
reached_next ps place k d es new all inside is now =
    ap (expanded place (k + 1) (drop (k + 1) ps)) is
    ∙ ap (λ l. expanded place k l es) (sym (drop_here ps k d inside))
    ∙ now

pub reached_all : (ps : List Pair) (place k : ℕ) (es all : List ReachedPair) → drop k ps ≡ [] → expanded place k (drop k ps) es ≡ all → es ≡ all
reached_all ps place k es all none now = ap (λ l. expanded place k l es) (sym none) ∙ now

-- ---- the way back

module _ (r w : List Node) (es : List ReachedPair) (s : Origin) (e : ReachedPair) (at : slice_get es s.place ≡ Some e) where
  same_entry : (f : ReachedPair) → slice_get es s.place ≡ Some f → f ≡ e
  same_entry f at_f = let two : Some f ≡ Some e = sym at_f ∙ at in cc

  -- a step's entry and number
  pub step_reader : (x : ℕ) → IsStep r w es x s → e.pair.reader.index < length r
  step_reader x step = subst (λ (f : ReachedPair). f.pair.reader.index < length r) (same_entry step.entry step.stands) step.reader

  pub step_writer : (x : ℕ) → IsStep r w es x s → e.pair.writer.index < length w
  step_writer x step = subst (λ (f : ReachedPair). f.pair.writer.index < length w) (same_entry step.entry step.stands) step.writer

  pub step_numbered : (x : ℕ) → IsStep r w es x s → s.number < length (obligations r w e.pair)
  step_numbered x step = subst (λ (f : ReachedPair). s.number < length (obligations r w f.pair)) (same_entry step.entry step.stands) step.numbered

  pub step_hop : (h : Hop) → hop_numbered r w e.pair s.number ≡ Some h → hop_at r w es s ≡ Some h
  step_hop h is = ap (option_and_then (λ (f : ReachedPair). hop_numbered r w f.pair s.number)) at ∙ is

pub from_read : (es : List ReachedPair) (n x : ℕ) (e : ReachedPair) → n ≡ length es → x < n → e ≡ get_or es x e → from_at es x ≡ e.from
from_read es n x e len below is = ap (option_and_then (λ (y : ReachedPair). y.from)) (slice_get_read es n x e len below is)

module _ (r w : List Node) where
  -- one step further back
  pub way_further : (es : List ReachedPair) (place at : ℕ) (hops : List Hop) (s : Origin) (h : Hop) (all : List Hop)
      → ((rest : List Hop) → IsWayBack r w es at rest → IsWayBack r w es place (hops ++ rest))
      → from_at es at ≡ Some s → hop_at r w es s ≡ Some h → all ≡ hops ++ h ∷ []
      → (rest : List Hop) → IsWayBack r w es s.place rest → IsWayBack r w es place (all ++ rest)
  way_further es place at hops s h all now from named is rest way =
      let longer : IsWayBack r w es place (hops ++ h ∷ rest) = now (h ∷ rest) (s, from, named, way) in
      subst (λ l. IsWayBack r w es place (l ++ rest)) (sym is)
      (subst (IsWayBack r w es place) (sym (append_assoc hops (h ∷ []) rest)) longer)

  pub way_whole : (es : List ReachedPair) (place at : ℕ) (hops : List Hop)
      → ((rest : List Hop) → IsWayBack r w es at rest → IsWayBack r w es place (hops ++ rest))
      → from_at es at ≡ None → IsWayBack r w es place hops
  way_whole es place at hops now none = subst (IsWayBack r w es place) (append-nil hops) (now [] none)

-- what a row comes to, by its clash
pub clashes_when : (o : Result (List Obligation) ClashKind) (c : ClashKind) → Some c ≡ result_err o → o ≡ Err c
clashes_when (Err d) c e = let one : c ≡ d = cc in ap Err (sym one)
clashes_when (Ok os) c e = cc

pub owes_when : (o : Result (List Obligation) ClashKind) → None ≡ result_err o → o ≡ Ok (owed_in o)
owes_when (Err d) e = cc
owes_when (Ok os) e = refl
