-- One round: what its candidates are given, one after another.
use Rattle.std.proofs.Common.{◌≡◌, ◌⊎◌, inl, inr, ℕ, zero, suc, ◌+◌, ◌<◌, ◌≤◌, List, [], ◌∷◌, ◌++◌, length, set, Contains, Option}
use Rattle.std.proofs.Common.{Some, None, is_some, option_map, slice_get, refl, sym, ◌∙◌, ap, subst, arith, length-append}
use Rattle.std.proofs.lemmas.List.Elements.{Contains-append_left, Contains-append_right}
use Rattle.std.proofs.lemmas.List.{length-set}
use Rattle.std.proofs.lemmas.Bool.{cases_eq}
use Rattle.avro_schema.specs.declared.node.NodeId.{NodeId}
use Rattle.avro_schema.specs.declared.node.Node.{Node}
use Rattle.avro_data.specs.declared.outline.Outline.{Outline}
use Rattle.avro_data.specs.declared.outline.Given.{Given}
use Rattle.avro_data.specs.Outlines.{outlined}
use Rattle.avro_data.specs.Rounds.{by_round, by_table, given_count, AreNew, AreRounds, ready}
use Rattle.avro_data.specs.Rounds.{next_given, outline_in, outline_now, IsNext, AreCandidates}
use Rattle.avro_data.proofs.Options.{set_same, set_other, here, contains_at, same_id}
use Rattle.avro_data.proofs.RoundLaws.{next_early}

-- ---- counting

counted_one : (xs : List (Option Given)) (i : ℕ) (g : Given)
    → slice_get xs i ≡ Some None → given_count (set xs i (Some g)) ≡ given_count xs + 1
counted_one [] i g e = absurd (cc)
counted_one (None ∷ xs) zero g e = omega arith
counted_one (Some h ∷ xs) zero g e = absurd (cc)
counted_one (None ∷ xs) (suc i) g e = counted_one xs i g e
counted_one (Some h ∷ xs) (suc i) g e = let rest = counted_one xs i g e in omega arith

pub counted : (xs : List (Option Given)) → given_count xs ≤ length xs
counted [] = omega arith
counted (None ∷ xs) = let rest = counted xs in omega arith
counted (Some g ∷ xs) = let rest = counted xs in omega arith

module _ (nodes : List Node) where
  -- what holds once the first k candidates were looked at
  pub record IsGiving (first : List (Option Given)) (m : ℕ) (ids : List NodeId)
      (k : ℕ) (t : List (Option Given)) (given : List NodeId) : Type 0 where
    pub size : length t ≡ length first
    pub each : (i : NodeId)
        → (slice_get t i.index ≡ slice_get first i.index)
        ⊎ (slice_get t i.index ≡ option_map (next_given nodes first m i) (slice_get first i.index))
    pub done : (n : ℕ) (i : NodeId) → n < k → slice_get ids n ≡ Some i
        → slice_get t i.index ≡ option_map (next_given nodes first m i) (slice_get first i.index)
    pub new : AreNew t (m + 1) given
    pub count : given_count t ≡ given_count first + length given
    pub still : given ≡ [] → t ≡ first

  pub giving_at_first : (first : List (Option Given)) (m : ℕ) (ids : List NodeId)
      → AreRounds nodes first m → IsGiving first m ids 0 first []
  giving_at_first first m ids are = record {
    size = refl;
    each = λ i. inl refl;
    done = λ n i lt at. absurd (omega arith);
    new = λ i o at. let le : m + 1 ≤ m = are.within i.index (record { round = m + 1; outline = o }) at in absurd (omega arith);
    count = omega arith;
    still = λ e. refl;
  }

  module _ (first : List (Option Given)) (m : ℕ) (ids : List NodeId) (k : ℕ)
      (t : List (Option Given)) (given : List NodeId) (is : IsGiving first m ids k t given) where
    -- what the round gave so far changes nothing for who is ready
    same_by : (i : NodeId) → by_table t m i ≡ by_table first m i
    same_by i = go (is.each i)
      where
        go : (slice_get t i.index ≡ slice_get first i.index)
            ⊎ (slice_get t i.index ≡ option_map (next_given nodes first m i) (slice_get first i.index))
            → by_table t m i ≡ by_table first m i
        go (inl e) = ap (by_round m) e
        go (inr e) = ap (by_round m) e ∙ sym (next_early nodes first m m (omega arith) i (slice_get first i.index))

    same_ready : (i : NodeId) → ready nodes t m i ≡ ready nodes first m i
    same_ready i = ap (λ (h : NodeId → Option Outline). outlined h (slice_get nodes i.index)) (λ d. λ (j : NodeId). same_by j d)

    -- a candidate that is given nothing
    passed_over : (i : NodeId) → outline_now nodes t m i ≡ None
        → slice_get t i.index ≡ option_map (next_given nodes first m i) (slice_get first i.index)
    passed_over i none = go (is.each i)
      where
        stays_so : (o : Option (Option Given)) → outline_in nodes t m i o ≡ None → o ≡ option_map (next_given nodes first m i) o
        stays_so None e = refl
        stays_so (Some (Some g)) e = refl
        stays_so (Some None) e = ap (λ r. Some (option_map (λ o. record { round = m + 1; outline = o }) r)) (sym e ∙ same_ready i)

        go : (slice_get t i.index ≡ slice_get first i.index)
            ⊎ (slice_get t i.index ≡ option_map (next_given nodes first m i) (slice_get first i.index))
            → slice_get t i.index ≡ option_map (next_given nodes first m i) (slice_get first i.index)
        go (inl e) = stays_so (slice_get t i.index) none ∙ ap (option_map (next_given nodes first m i)) e
        go (inr e) = e

    pub none_given : (i : NodeId) → slice_get ids k ≡ Some i → outline_now nodes t m i ≡ None → IsGiving first m ids (k + 1) t given
    none_given i at none = record {
      size = is.size;
      each = is.each;
      done = λ n j lt here_at. go n j lt here_at (cases_eq n k);
      new = is.new;
      count = is.count;
      still = is.still;
    }
      where
        go : (n : ℕ) (j : NodeId) → n < k + 1 → slice_get ids n ≡ Some j → (n ≡ k) ⊎ (n ≡ k → ⊥)
            → slice_get t j.index ≡ option_map (next_given nodes first m j) (slice_get first j.index)
        go n j lt here_at (inl e) =
            let same : i ≡ j = let both : Some i ≡ Some j = sym at ∙ sym (ap (slice_get ids) e) ∙ here_at in cc in
            passed_over j (ap (outline_now nodes t m) (sym same) ∙ none)
        go n j lt here_at (inr other) = is.done n j (omega arith) here_at

    -- a candidate that is given its sample
    module _ (i : NodeId) (o : Outline) (some : outline_now nodes t m i ≡ Some o) where
      had_none : (q : Option (Option Given)) → outline_in nodes t m i q ≡ Some o → (q ≡ Some None) × (ready nodes t m i ≡ Some o)
      had_none None e = absurd (cc)
      had_none (Some None) e = (refl, e)
      had_none (Some (Some g)) e = absurd (cc)

      none_now : slice_get t i.index ≡ Some None
      none_now = (had_none (slice_get t i.index) some).0

      none_first : slice_get first i.index ≡ Some None
      none_first = go (is.each i)
        where
          back : (q : Option (Option Given)) → option_map (next_given nodes first m i) q ≡ Some None → q ≡ Some None
          back None e = absurd (cc)
          back (Some None) e = refl
          back (Some (Some g)) e = absurd (cc)

          go : (slice_get t i.index ≡ slice_get first i.index)
              ⊎ (slice_get t i.index ≡ option_map (next_given nodes first m i) (slice_get first i.index))
              → slice_get first i.index ≡ Some None
          go (inl e) = sym e ∙ none_now
          go (inr e) = back (slice_get first i.index) (sym e ∙ none_now)

      now_given : (g : Given) → g ≡ record { round = m + 1; outline = o }
          → slice_get (set t i.index (Some g)) i.index ≡ option_map (next_given nodes first m i) (slice_get first i.index)
      now_given g made =
          set_same t i.index (Some g) None none_now
          ∙ ap (λ x. Some (Some x)) made
          ∙ ap (λ r. Some (option_map (λ p. record { round = m + 1; outline = p }) r))
          (sym ((had_none (slice_get t i.index) some).1) ∙ same_ready i)
          ∙ ap (option_map (next_given nodes first m i)) (sym none_first)

      pub one_given : (g : Given) → g ≡ record { round = m + 1; outline = o } → slice_get ids k ≡ Some i
          → IsGiving first m ids (k + 1) (set t i.index (Some g)) (given ++ i ∷ [])
      one_given g made at = record {
        size = length-set t i.index (Some g) ∙ is.size;
        each = λ j. each_now j (cases_eq j.index i.index);
        done = λ n j lt here_at. done_now n j lt here_at (cases_eq j.index i.index);
        new = λ j p e. new_now j p e (cases_eq j.index i.index);
        count =
            (let one = counted_one t i.index g none_now in let before = is.count in let more = length-append given (i ∷ []) in omega arith);
        still = λ e. absurd (some_there given e);
      }
        where
          at_i : (j : NodeId) → j.index ≡ i.index
              → slice_get (set t i.index (Some g)) j.index ≡ option_map (next_given nodes first m j) (slice_get first j.index)
          at_i j e =
              subst
              (λ (x : NodeId).
              slice_get (set t i.index (Some g)) x.index ≡ option_map (next_given nodes first m x) (slice_get first x.index))
              (sym (same_id j i e)) (now_given g made)

          each_now : (j : NodeId) → (j.index ≡ i.index) ⊎ (j.index ≡ i.index → ⊥)
              → (slice_get (set t i.index (Some g)) j.index ≡ slice_get first j.index)
              ⊎ (slice_get (set t i.index (Some g)) j.index ≡ option_map (next_given nodes first m j) (slice_get first j.index))
          each_now j (inl e) = inr (at_i j e)
          each_now j (inr n) = go (is.each j)
            where
              go : (slice_get t j.index ≡ slice_get first j.index)
                  ⊎ (slice_get t j.index ≡ option_map (next_given nodes first m j) (slice_get first j.index))
                  → (slice_get (set t i.index (Some g)) j.index ≡ slice_get first j.index)
                  ⊎ (slice_get (set t i.index (Some g)) j.index ≡ option_map (next_given nodes first m j) (slice_get first j.index))
              go (inl e) = inl (set_other t i.index j.index (Some g) n ∙ e)
              go (inr e) = inr (set_other t i.index j.index (Some g) n ∙ e)

          done_now : (n : ℕ) (j : NodeId) → n < k + 1 → slice_get ids n ≡ Some j → (j.index ≡ i.index) ⊎ (j.index ≡ i.index → ⊥)
              → slice_get (set t i.index (Some g)) j.index ≡ option_map (next_given nodes first m j) (slice_get first j.index)
          done_now n j lt here_at (inl e) = at_i j e
          done_now n j lt here_at (inr other) = go (cases_eq n k)
            where
              go : (n ≡ k) ⊎ (n ≡ k → ⊥)
                  → slice_get (set t i.index (Some g)) j.index ≡ option_map (next_given nodes first m j) (slice_get first j.index)
              go (inl e) =
                  let both : Some i ≡ Some j = sym at ∙ sym (ap (slice_get ids) e) ∙ here_at in
                  let same : i ≡ j = cc in absurd (other (sym (ap (λ (x : NodeId). x.index) same)))
              go (inr apart) = set_other t i.index j.index (Some g) other ∙ is.done n j (omega arith) here_at

          new_now : (j : NodeId) (p : Outline)
              → slice_get (set t i.index (Some g)) j.index ≡ Some (Some (record { round = m + 1; outline = p }))
              → (j.index ≡ i.index) ⊎ (j.index ≡ i.index → ⊥) → Contains (given ++ i ∷ []) j
          new_now j p e (inl same) =
              Contains-append_right given (i ∷ []) j (subst (λ (x : NodeId). Contains (i ∷ []) x) (sym (same_id j i same)) (here i []))
          new_now j p e (inr other) =
              Contains-append_left given (i ∷ []) j (is.new j p (sym (set_other t i.index j.index (Some g) other) ∙ e))

          some_there : (xs : List NodeId) → xs ++ i ∷ [] ≡ [] → ⊥
          some_there [] e = cc
          some_there (x ∷ xs) e = cc

  -- once all candidates were looked at
  pub all_given : (first : List (Option Given)) (m : ℕ) (ids : List NodeId) (k : ℕ) (t : List (Option Given)) (given : List NodeId)
      → length ids ≤ k → AreCandidates nodes first m ids → IsGiving first m ids k t given → IsNext nodes first m t
  all_given first m ids k t given all are is = record {
    size = is.size;
    each = λ i. go i (is.each i);
  }
    where
      unasked : (i : NodeId) (q : Option (Option Given)) → slice_get first i.index ≡ q
          → slice_get t i.index ≡ slice_get first i.index → slice_get t i.index ≡ option_map (next_given nodes first m i) q
      unasked i None at e = e ∙ at
      unasked i (Some (Some g)) at e = e ∙ at
      unasked i (Some None) at e = choose (ready nodes first m i) refl
        where
          choose : (r : Option Outline) → ready nodes first m i ≡ r
              → slice_get t i.index ≡ Some (option_map (λ o. record { round = m + 1; outline = o }) r)
          choose None none = e ∙ at
          choose (Some o) some =
              let (n, lt, here_at) = contains_at ids i (are i at (ap is_some some)) in
              is.done n i (omega arith) here_at
              ∙ ap (option_map (next_given nodes first m i)) at
              ∙ ap (λ r. Some (option_map (λ p. record { round = m + 1; outline = p }) r)) some

      go : (i : NodeId)
          → (slice_get t i.index ≡ slice_get first i.index)
          ⊎ (slice_get t i.index ≡ option_map (next_given nodes first m i) (slice_get first i.index))
          → slice_get t i.index ≡ option_map (next_given nodes first m i) (slice_get first i.index)
      go i (inl e) = unasked i (slice_get first i.index) refl e
      go i (inr e) = e
