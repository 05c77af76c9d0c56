-- Which pairs a pair owes, step by step.
use Rattle.std.proofs.Common.{◌≡◌, ℕ, zero, suc, ◌+◌, ◌-◌, ◌<◌, ◌≤◌, List, [], ◌∷◌, ◌++◌, length, drop, map, find, filter_map, true, false}
use Rattle.std.proofs.Common.{◌&&◌, cond, ⊎_elim, Some, None, Ok, Err, is_none, option_map, get_or, slice_get, append_assoc, append-nil}
use Rattle.std.proofs.Common.{refl, sym, ◌∙◌, ap, subst, arith}
use Rattle.std.specs.List.{AllWithin, cons_option, enumerate_from}
use Rattle.std.proofs.lemmas.Bool.{cases_lt}
use Rattle.std.proofs.lemmas.Option.{slice_get_read}
use Rattle.avro_schema.specs.declared.node.Field.{Field}
use Rattle.avro_schema.specs.declared.node.NodeId.{NodeId}
use Rattle.avro_resolve.specs.declared.obligations.Pair.{Pair}
use Rattle.avro_resolve.specs.declared.field_index.FoundField.{FoundField}
use Rattle.avro_resolve.specs.declared.trail.ClashKind.TheVariants as clash
use Rattle.avro_resolve.specs.Owed.{pairs_of, pair_with}
use Rattle.avro_resolve.specs.Pairing.{partner, lacks_value}
use Rattle.avro_resolve.specs.FieldIndex.{Before, IsPassed, NoneOf, AreFound}
use Rattle.avro_resolve.specs.Table.{to_fields}
use Rattle.avro_resolve.proofs.Rows.{owed_in, to_writer_branch, to_field, to_partner}
use Rattle.avro_resolve.proofs.Hops.{drop_at, unless_lacking}
use Rattle.avro_resolve.proofs.FieldIndexes.{any_default, before_up, found_inside, passed, some_not_none}

-- ---- the loop over a reader's fields

-- what it keeps: the pairs of the fields before place i, and none of these fields lacks a value
pub record AreOwed (gs fs : List Field) (i : ℕ) (owed : List Pair) : Type 0 where
  pub pairs : owed ++ pairs_of (filter_map (to_partner gs) (drop i fs)) ≡ pairs_of (filter_map (to_partner gs) fs)
  pub none_lacks : find (lacks_value gs) fs ≡ find (lacks_value gs) (drop i fs)

pub owed_first : (gs fs : List Field) (owed : List Pair) → owed ≡ [] → AreOwed gs fs 0 owed
owed_first gs fs owed none = record { pairs = ap (λ l. l ++ pairs_of (filter_map (to_partner gs) fs)) none; none_lacks = refl }

module _ (gs fs : List Field) (i : ℕ) (owed : List Pair) (now : AreOwed gs fs i owed)
    (f : Field) (at : drop i fs ≡ f ∷ drop (i + 1) fs) where
  -- the field has a partner
  pub owed_pair : (g : Field) → Some g ≡ partner gs f → (new : List Pair)
      → new ≡ owed ++ (to_field f g).pair ∷ [] → AreOwed gs fs (i + 1) new
  owed_pair g has new is = record {
    pairs =
        ap (λ l. l ++ pairs_of (filter_map (to_partner gs) (drop (i + 1) fs))) is
        ∙ append_assoc owed ((to_field f g).pair ∷ []) (pairs_of (filter_map (to_partner gs) (drop (i + 1) fs)))
        ∙ ap (λ o. owed ++ pairs_of (cons_option (option_map (to_field f) o) (filter_map (to_partner gs) (drop (i + 1) fs)))) has
        ∙ ap (λ l. owed ++ pairs_of (filter_map (to_partner gs) l)) (sym at)
        ∙ now.pairs;
    none_lacks = now.none_lacks
        ∙ ap (find (lacks_value gs)) at
        ∙ ap (λ o. cond (is_none o && is_none f.default) (Some f) (find (lacks_value gs) (drop (i + 1) fs))) (sym has);
  }

  -- it has none, and a default
  pub owed_none : None ≡ partner gs f → false ≡ is_none f.default → AreOwed gs fs (i + 1) owed
  owed_none has default = record {
    pairs =
        ap (λ o. owed ++ pairs_of (cons_option (option_map (to_field f) o) (filter_map (to_partner gs) (drop (i + 1) fs)))) has
        ∙ ap (λ l. owed ++ pairs_of (filter_map (to_partner gs) l)) (sym at)
        ∙ now.pairs;
    none_lacks = now.none_lacks
        ∙ ap (find (lacks_value gs)) at
        ∙ ap (λ o. cond (is_none o && is_none f.default) (Some f) (find (lacks_value gs) (drop (i + 1) fs))) (sym has)
        ∙ ap (λ b. cond b (Some f) (find (lacks_value gs) (drop (i + 1) fs))) (sym default);
  }

  -- it has neither
  pub owed_lacking : None ≡ partner gs f → true ≡ is_none f.default → to_fields fs gs ≡ Err (clash.ReaderFieldMissingDefaultValue f.name)
  owed_lacking has lacks =
      ap (λ o. unless_lacking o (Ok (filter_map (to_partner gs) fs)))
      (now.none_lacks
      ∙ ap (find (lacks_value gs)) at
      ∙ ap (λ o. cond (is_none o && is_none f.default) (Some f) (find (lacks_value gs) (drop (i + 1) fs))) (sym has)
      ∙ ap (λ b. cond b (Some f) (find (lacks_value gs) (drop (i + 1) fs))) (sym lacks))

module _ (gs fs : List Field) (i : ℕ) (owed : List Pair) (now : AreOwed gs fs i owed) (none : drop i fs ≡ []) where
  pub none_lacking : to_fields fs gs ≡ Ok (filter_map (to_partner gs) fs)
  none_lacking = ap (λ o. unless_lacking o (Ok (filter_map (to_partner gs) fs))) (now.none_lacks ∙ ap (find (lacks_value gs)) none)

  pub owed_all : owed ≡ pairs_of (owed_in (to_fields fs gs))
  owed_all =
      sym (append-nil owed)
      ∙ ap (λ l. owed ++ pairs_of (filter_map (to_partner gs) l)) (sym none)
      ∙ now.pairs
      ∙ ap (λ o. pairs_of (owed_in o)) (sym none_lacking)

-- ---- fields that are passed over

-- any field
no_field : Field
no_field = record { name = []; aliases = []; default = None; node = record { index = 0 } }

module _ (gs fs : List Field) (owed : List Pair) where
  owed_past : (d i : ℕ) → i + d ≤ length fs
      → ((k : ℕ) (f : Field) → slice_get fs k ≡ Some f → i ≤ k → k < i + d → IsPassed gs f)
      → AreOwed gs fs i owed → AreOwed gs fs (i + d) owed
  owed_past zero i within passed now = let e : i ≡ i + 0 = omega arith in subst (λ n. AreOwed gs fs n owed) e now
  owed_past (suc d) i within passed now =
      let inside : i < length fs = omega arith in
      let f = get_or fs i no_field in
      let read : f ≡ get_or fs i f = any_default fs i no_field f inside in
      let here = passed i f (slice_get_read fs (length fs) i f refl inside read) (omega arith) (omega arith) in
      let next = owed_none gs fs i owed now f (drop_at fs i f inside read) (sym here.0) (some_not_none f.default here.1) in
      let e : (i + 1) + d ≡ i + suc d = omega arith in
      subst (λ n. AreOwed gs fs n owed) e
      (owed_past d (i + 1) (omega arith) (λ k g at above below. passed k g at (omega arith) (omega arith)) next)

  -- the fields up to one are passed over
  owed_upto : (i k : ℕ) → i ≤ k → k ≤ length fs
      → ((m : ℕ) (f : Field) → slice_get fs m ≡ Some f → i ≤ m → m < k → IsPassed gs f)
      → AreOwed gs fs i owed → AreOwed gs fs k owed
  owed_upto i k above within passed now =
      let e : i + (k - i) ≡ k = omega arith in
      subst (λ n. AreOwed gs fs n owed) e
      (owed_past (k - i) i (omega arith) (λ m f at from below. passed m f at from (omega arith)) now)

module _ (fs gs : List Field) (xs : List FoundField) (all : AreFound fs gs xs)
    (i next : ℕ) (x : FoundField) (inside : i < length xs) (is : x ≡ get_or xs i x)
    (earlier : AllWithin (λ y. y.holder.field < next) xs 0 i) where
  -- none before is of its field, or of one between
  absent_between : (m : ℕ) → next ≤ m → m < x.holder.field → NoneOf m xs
  absent_between m above below = λ p d within same.
      ⊎_elim
      (λ low. absurd (let h : (get_or xs p d).holder.field < next = earlier p d (omega arith) low in omega (arith, h, same)))
      (λ high.
      let up : Before (get_or xs i d).holder.field (get_or xs i d).holder.rank
      (get_or xs p d).holder.field (suc (get_or xs p d).holder.rank) =
      all.rise i p d high within in
      let h : (get_or xs i d).holder.field ≤ (get_or xs p d).holder.field = before_up _ _ _ _ up in
      let e : (get_or xs i d).holder.field ≡ x.holder.field = ap (λ (y : FoundField). y.holder.field) (any_default xs i d x inside ∙ sym is) in
      absurd (omega (arith, h, same, e)))
      (cases_lt p i)

  -- the fields up to its own are passed over
  pub owed_to : (owed : List Pair) → AreOwed gs fs next owed → next ≤ x.holder.field → AreOwed gs fs x.holder.field owed
  owed_to owed now up =
      let below : x.holder.field < length fs = found_inside fs gs xs all i next x inside is earlier in
      owed_upto gs fs owed next x.holder.field up (omega (arith, below))
      (λ m f at from to. passed fs gs xs all.upto m f at (absent_between m from to)) now

module _ (fs gs : List Field) (xs : List FoundField) (all : AreFound fs gs xs) (i next : ℕ) (past : length xs ≤ i) (end : i ≤ length xs)
    (earlier : AllWithin (λ y. y.holder.field < next) xs 0 i) (up : next ≤ length fs) where
  absent_above : (m : ℕ) → next ≤ m → NoneOf m xs
  absent_above m above =
      λ p d within same.
      let h : (get_or xs p d).holder.field < next = earlier p d (omega arith) (omega (arith, within, past)) in
      absurd (omega (arith, h, same))

  -- and those after the last
  pub owed_rest : (owed : List Pair) → AreOwed gs fs next owed → AreOwed gs fs (length fs) owed
  owed_rest owed now =
      owed_upto gs fs owed next (length fs) up (omega arith)
      (λ m f at from to. passed fs gs xs all.upto m f at (absent_above m from)) now

-- ---- a writer's branches

-- the reader's type with each of them
pub pairs_of_branches : (i : NodeId) (n : ℕ) (bs : List NodeId)
    → pairs_of (map (to_writer_branch i) (enumerate_from n bs)) ≡ map (pair_with i) bs
pairs_of_branches i n [] = refl
pairs_of_branches i n (b ∷ bs) = ap (λ l. pair_with i b ∷ l) (pairs_of_branches i (n + 1) bs)
