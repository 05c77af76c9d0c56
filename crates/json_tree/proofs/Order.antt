-- Members in order, and where one more is put among them.
use Rattle.std.proofs.Common.{◌≡◌, ℕ, zero, suc, List, [], ◌∷◌, ◌++◌, get_or, set, length, Bor, Ordering, Less, Equal}
use Rattle.std.proofs.Common.{Greater, nat_cmp, is_lt, is_eq, true, false, bytes_eq, refl, sym, ap, ◌∙◌, subst, ◌-◌, ◌<◌, ◌≤◌, arith}
use Rattle.std.proofs.Common.{MatchOption, Some, slice_get}
use Rattle.std.proofs.lemmas.Option.{slice_get-get_or}
use Rattle.std.proofs.lemmas.Cmp.{nat_list_cmp_total, tied_itself}
use Rattle.std.proofs.lemmas.Map.Text.{is_eq-slice_cmp}
use Rattle.std.specs.Cmp.Lexicographic.{slice_cmp}
use Rattle.std.specs.List.{insert}
use Rattle.std.specs.Ordering.{match_ordering, ordering_reverse}
use Rattle.serde_json.specs.Data.{Data, Members, no_members, member, put}
use Rattle.json_tree.specs.Members.{IsBelow, IsInOrder}
use Rattle.json_tree.specs.View.{Entry, view, members_view}
use Rattle.json_tree.specs.declared.tree.Json.{Json}

below_put_at : (j k l : List ℕ) (d e : Data) (ms : Members) (o : Ordering)
    → slice_cmp nat_cmp j k ≡ Less → IsBelow j (member l e ms) → IsBelow j (put k d ms)
    → IsBelow j (match_ordering o (member k d (member l e ms)) (member l d ms) (member l e (put k d ms)))
below_put_at j k l d e ms Less less below rest = (less, below)
below_put_at j k l d e ms Equal less below rest = below
below_put_at j k l d e ms Greater less below rest = (below.0, rest)

below_put : (j k : List ℕ) (d : Data) (ms : Members) → slice_cmp nat_cmp j k ≡ Less → IsBelow j ms → IsBelow j (put k d ms)
below_put j k d no_members less below = (less, tt)
below_put j k d (member l e ms) less below = below_put_at j k l d e ms (slice_cmp nat_cmp k l) less below (below_put j k d ms less below.1)

-- what is above l is above a lower name too
below_trans : (k l : List ℕ) (ms : Members) → slice_cmp nat_cmp k l ≡ Less → IsBelow l ms → IsBelow k ms
below_trans k l no_members less below = tt
below_trans k l (member m e ms) less below = (nat_list_cmp_total.trans k l m less below.0, below_trans k l ms less below.1)

turned : (k l : List ℕ) → slice_cmp nat_cmp k l ≡ Greater → slice_cmp nat_cmp l k ≡ Less
turned k l e = nat_list_cmp_total.antisymm l k ∙ ap ordering_reverse e

order_put_at : (k l : List ℕ) (d e : Data) (ms : Members) (o : Ordering)
    → slice_cmp nat_cmp k l ≡ o → IsInOrder (member l e ms) → IsInOrder (put k d ms)
    → IsInOrder (match_ordering o (member k d (member l e ms)) (member l d ms) (member l e (put k d ms)))
order_put_at k l d e ms Less is order rest = ((is, below_trans k l ms is order.0), order)
order_put_at k l d e ms Equal is order rest = order
order_put_at k l d e ms Greater is order rest = (below_put l k d ms (turned k l is) order.0, rest)

-- members stay in order when one is put among them
pub IsInOrder-put : (k : List ℕ) (d : Data) (ms : Members) → IsInOrder ms → IsInOrder (put k d ms)
IsInOrder-put k d no_members order = (tt, tt)
IsInOrder-put k d (member l e ms) order = order_put_at k l d e ms (slice_cmp nat_cmp k l) refl order (IsInOrder-put k d ms order.1)

-- ---- a place in a list of members

below_at : (k : List ℕ) (xs : List Entry) (j : ℕ) (d : Entry) → IsBelow k (members_view xs)
    → j < length xs → slice_cmp nat_cmp k (get_or xs j d).0.now ≡ Less
below_at k [] j d below within = absurd (omega arith)
below_at k (x ∷ xs) zero d below within = below.0
below_at k (x ∷ xs) (suc j) d below within = below_at k xs j d below.1 (omega arith)

reversed : (k l : List ℕ) → slice_cmp nat_cmp k l ≡ Less → slice_cmp nat_cmp l k ≡ Greater
reversed k l e = nat_list_cmp_total.antisymm l k ∙ ap ordering_reverse e

past_at : (k l m : List ℕ) (o : Ordering) → slice_cmp nat_cmp k m ≡ o
    → is_lt o ≡ false → slice_cmp nat_cmp l m ≡ Less → slice_cmp nat_cmp k l ≡ Greater
past_at k l m Less is e below = absurd (cc)
past_at k l m Equal is e below = nat_list_cmp_total.congr k m l is ∙ reversed l m below
past_at k l m Greater is e below = reversed l k (nat_list_cmp_total.trans l m k below (turned k m is))

greater_at : (o : Ordering) → is_lt o ≡ false → is_eq o ≡ false → o ≡ Greater
greater_at Less e other = absurd (cc)
greater_at Equal e other = absurd (cc)
greater_at Greater e other = refl

pub greater : (k l : List ℕ) → is_lt (slice_cmp nat_cmp k l) ≡ false → bytes_eq k l ≡ false → slice_cmp nat_cmp k l ≡ Greater
greater k l e other = greater_at (slice_cmp nat_cmp k l) e (is_eq-slice_cmp k l ∙ other)

-- what isn't below a later name is above an earlier one
past : (k : List ℕ) (x : Entry) (xs : List Entry) (j : ℕ) (d : Entry) → IsBelow x.0.now (members_view xs)
    → j < length xs → is_lt (slice_cmp nat_cmp k (get_or xs j d).0.now) ≡ false → slice_cmp nat_cmp k x.0.now ≡ Greater
past k x xs j d below within e = past_at k x.0.now (get_or xs j d).0.now _ refl e (below_at x.0.now xs j d below within)

module _ (n : Bor (List ℕ)) (v : Json) (d : Entry) where
  -- a name that stands there has its value replaced
  pub put_replaces : (xs : List Entry) (i : ℕ) → i < length xs → IsInOrder (members_view xs)
      → n.now ≡ (get_or xs i d).0.now → members_view (set xs i (n, v)) ≡ put n.now (view v) (members_view xs)
  put_replaces [] i within order same = absurd (omega arith)
  put_replaces (x ∷ xs) zero within order same = rw (same, tied_itself nat_list_cmp_total x.0.now)
  put_replaces (x ∷ xs) (suc i) within order same =
      let tied : is_lt (slice_cmp nat_cmp n.now (get_or xs i d).0.now) ≡ false =
      rw (same, tied_itself nat_list_cmp_total (get_or xs i d).0.now) in
      rw (past n.now x xs i d order.0 (omega arith) tied) (ap (member x.0.now (view x.1)) (put_replaces xs i (omega arith) order.1 same))

  above_first : (x : Entry) (xs : List Entry) (i : ℕ) → i ≤ length xs → IsInOrder (members_view (x ∷ xs))
      → slice_cmp nat_cmp n.now (get_or (x ∷ xs) i d).0.now ≡ Greater → slice_cmp nat_cmp n.now x.0.now ≡ Greater
  above_first x xs zero within order last = last
  above_first x xs (suc i) within order last = past n.now x xs i d order.0 (omega arith) (ap is_lt last)

  -- a new name goes between those below it and those above it
  put_inserts : (xs : List Entry) (i : ℕ) → i ≤ length xs → IsInOrder (members_view xs)
      → ((j : ℕ) → suc j ≡ i → slice_cmp nat_cmp n.now (get_or xs j d).0.now ≡ Greater)
      → (i < length xs → slice_cmp nat_cmp n.now (get_or xs i d).0.now ≡ Less)
      → members_view (insert xs i (n, v)) ≡ put n.now (view v) (members_view xs)
  put_inserts [] zero within order last next = refl
  put_inserts [] (suc i) within order last next = absurd (omega arith)
  put_inserts (x ∷ xs) zero within order last next = rw (next (omega arith))
  put_inserts (x ∷ xs) (suc i) within order last next =
      rw (above_first x xs i (omega arith) order (last i refl))
      (ap (member x.0.now (view x.1))
      (put_inserts xs i (omega arith) order.1 (λ j e. last (suc j) (ap suc e)) (λ less. next (omega arith))))

  -- the same, by the places next to the new one
  pub put_between : (xs : List Entry) (i : ℕ) → i ≤ length xs → IsInOrder (members_view xs)
      → (0 < i → slice_cmp nat_cmp n.now (get_or xs (i - 1) d).0.now ≡ Greater)
      → (i < length xs → slice_cmp nat_cmp n.now (get_or xs i d).0.now ≡ Less)
      → members_view (insert xs i (n, v)) ≡ put n.now (view v) (members_view xs)
  put_between xs i within order last next =
      put_inserts xs i within order (λ j e.
      subst (λ m. slice_cmp nat_cmp n.now (get_or xs m d).0.now ≡ Greater) (omega arith) (last (omega arith))) next

  -- a name above the last goes last
  less_at : (o : Ordering) → true ≡ is_lt o → o ≡ Less
  less_at Less e = refl
  less_at Equal e = absurd (cc)
  less_at Greater e = absurd (cc)

  insert_end : (xs : List Entry) (x : Entry) → insert xs (length xs) x ≡ xs ++ x ∷ []
  insert_end [] x = refl
  insert_end (y ∷ ys) x = ap (λ zs. y ∷ zs) (insert_end ys x)

  above_last : (xs : List Entry) (j : ℕ) → suc j ≡ length xs
      → MatchOption (slice_get xs (length xs - 1)) (true ≡ true) (λ (m : Entry). true ≡ is_lt (slice_cmp nat_cmp m.0.now n.now))
      → slice_cmp nat_cmp n.now (get_or xs j d).0.now ≡ Greater
  above_last xs j e last =
      let within : j < length xs = omega (arith, e) in
      let same : length xs - 1 ≡ j = omega (arith, e) in
      let at : slice_get xs (length xs - 1) ≡ Some (get_or xs j d) = ap (slice_get xs) same ∙ slice_get-get_or xs j d within in
      let less =
      subst (λ o. MatchOption o (true ≡ true) (λ (m : Entry). true ≡ is_lt (slice_cmp nat_cmp m.0.now n.now))) at last in
      reversed (get_or xs j d).0.now n.now (less_at _ less)

  pub put_at_end : (xs : List Entry) → IsInOrder (members_view xs)
      → MatchOption (slice_get xs (length xs - 1)) (true ≡ true) (λ (m : Entry). true ≡ is_lt (slice_cmp nat_cmp m.0.now n.now))
      → members_view (xs ++ (n, v) ∷ []) ≡ put n.now (view v) (members_view xs)
  put_at_end xs order last =
      ap members_view (sym (insert_end xs (n, v)))
      ∙ put_inserts xs (length xs) (omega arith) order (λ j e. above_last xs j e last) (λ less. absurd (omega arith))

below_middle : (k : List ℕ) (done : List Entry) (e : Entry) (more : List Entry)
    → IsBelow k (members_view (done ++ e ∷ more)) → slice_cmp nat_cmp k e.0.now ≡ Less
below_middle k [] e more below = below.0
below_middle k (x ∷ done) e more below = below_middle k done e more below.1

-- a name that is above those before it goes last
pub put_last : (done : List Entry) (e : Entry) (more : List Entry) → IsInOrder (members_view (done ++ e ∷ more))
    → put e.0.now (view e.1) (members_view done) ≡ members_view (done ++ e ∷ [])
put_last [] e more order = refl
put_last (x ∷ done) e more order =
    rw (reversed x.0.now e.0.now (below_middle x.0.now done e more order.0)) (ap (member x.0.now (view x.1)) (put_last done e more order.1))
