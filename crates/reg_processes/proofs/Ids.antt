-- No id names two schemas in two processes of one chain.
use Rattle.std.proofs.Common.{◌≡◌, inl, inr, ℕ, zero, suc, ◌+◌, ◌-◌, ◌<◌, ◌≤◌, List, ◌++◌, length, Contains, sym, ap, subst, ◌∙◌, arith}
use Rattle.std.proofs.lemmas.List.{length-append}
use Rattle.std.specs.Cmp.{IsTotalOrder}
use Rattle.std.specs.FinSet.{IsAntisymmetric}
use Rattle.reg_alike.specs.reg_entries.declared.entry.Entry.{Entry}
use Rattle.reg_alike.specs.reg_fold.Entries.{entries}
use Rattle.reg_alike.specs.reg_fold.GiveAlike.{GiveAlike}
use Rattle.reg_alike.specs.reg_records.declared.record.Record.{Record}
use Rattle.reg_alike.specs.reg_set.RecordOrder.{record_cmp}
use Rattle.reg_alike.specs.reg_set.Records.{Records}
use Rattle.reg_alike.specs.reg_leader.GivenIds.{EntriesHaveGivenIds, IsGiven, StepsKeepGivenIds}
use Rattle.reg_alike.specs.reg_leader.OneStep.{BatchesGoOn}
use Rattle.reg_alike.specs.reg_leader.StayOpen.{StepsStayOpen}
use Rattle.reg_topic.specs.Laws.{CommitsFollow, LawfulListsJoin, ListsAreFoldedInTurn}
use Rattle.reg_topic.specs.Topic.{IsLawful, after_items, registry_of}
use Rattle.reg_topic.specs.declared.published.Item.{Item}
use Rattle.reg_topic.specs.declared.topic.Topic.{Topic}
use Rattle.reg_processes.specs.Laws.{FrontsTakePart, IdsAreForBoth, IdsAreForTwo, IsDecided, NoIdNamesTwoSchemas, SameLogsGiveAlike}
use Rattle.reg_processes.specs.Process.{Process, TakesPart, registry, taken_by, when}
use Rattle.reg_processes.proofs.Chains.{CutAt, count_of, cut_at, longer_begins, order_of}
use Rattle.reg_processes.proofs.Items.{IsSteady, given_items, steady, steady_items}

-- an id is given with both of two registries that give alike, or with neither
given_alike : (rs ss : Records) (id : ℕ) (normal : List ℕ) → GiveAlike rs ss → IsGiven rs id normal → IsGiven ss id normal
given_alike rs ss id normal alike given = record {
  no_other = λ e at. given.no_other e (subst (λ es. Contains es e) (sym alike.entries_alike) at);
  is_kept = elim given.is_kept [
    | inl stood ↦ inl (stood.0, subst (λ es. Contains es stood.0) alike.entries_alike stood.1, stood.2)
    | inr marked ↦ inr (subst (λ mark. id ≤ mark) alike.marks_alike marked)
  ];
}

-- each process takes part where it took all
short_of : (chain : List (List Record)) (p q : Process) → TakesPart chain p → TakesPart chain q → length (taken_by p) ≤ length (taken_by q)
    → TakesPart (taken_by q) p
short_of chain p q part_p part_q less = record {
  adopted = part_p.adopted;
  stands = part_p.stands;
  lawful = part_p.lawful;
  begins = longer_begins (taken_by p) (taken_by q) chain part_p.begins part_q.begins less;
}

module _ (order : IsTotalOrder record_cmp) (apart : IsAntisymmetric record_cmp) (go : BatchesGoOn) (follow : CommitsFollow)
    (stay : StepsStayOpen) (entered : EntriesHaveGivenIds) (keep : StepsKeepGivenIds)
    (turn : ListsAreFoldedInTurn) (join : LawfulListsJoin) (fronts : FrontsTakePart) (give : SameLogsGiveAlike) where
  -- what is given after a front of a lawful list is given after the list
  given_later : (base : Topic) (front rest : List Item) (id : ℕ) (normal : List ℕ) → IsSteady base → IsLawful base (front ++ rest)
      → IsGiven (registry_of (after_items base front)) id normal → IsGiven (registry_of (after_items base (front ++ rest))) id normal
  given_later base front rest id normal steady_base lawful given =
      let parts = (join base front rest).0 lawful in
      let s = steady_items order apart go follow stay base front parts.0 steady_base in
      subst (λ (t : Topic). IsGiven (registry_of t) id normal) (sym (turn base front rest))
      (given_items order apart go follow stay keep (after_items base front) rest id normal parts.1 s given)

  module _ (chain : List (List Record)) (id : ℕ) (normal : List ℕ) where
    -- the id is given to that schema with each process that took so many batches
    abbrev AllGive : ℕ → Type 0
    AllGive k = (r : Process) → TakesPart chain r → length (taken_by r) ≡ k → IsGiven (registry r) id normal

    all_give : (p : Process) → TakesPart chain p → IsGiven (registry p) id normal → AllGive (length (taken_by p))
    all_give p part given r part_r as_many =
        given_alike (registry p) (registry r) id normal
        (give p r (record { chain = chain; one = part; other = part_r; as_many = sym as_many })) given

    -- so with each that took one batch more, where a process decided that
    one_more : (k : ℕ) → IsDecided chain k → AllGive k → AllGive (suc k)
    one_more k decided given r part_r as_many =
        over decided.by decided.takes_part (cut_at decided.by k decided.behind decided.taken)
      where
        over : (by : Process) → TakesPart chain by → CutAt by k → IsGiven (registry r) id normal
        over by part cut =
            let longer : TakesPart chain (when by (cut.front ++ cut.on)) = fronts chain by part (cut.front ++ cut.on) cut.is_longer in
            let before : IsGiven (registry (when by cut.front)) id normal =
            given (when by cut.front) (fronts chain by part cut.front cut.is_front) cut.took in
            let after : IsGiven (registry (when by (cut.front ++ cut.on))) id normal =
            given_later by.base cut.front cut.on id normal (steady by.base part.adopted) longer.lawful before in
            let took = cut.took_more in
            all_give (when by (cut.front ++ cut.on)) longer after r part_r (omega (arith, as_many, took))

    -- and with each that took more, where those batches were decided
    all_more : (k more : ℕ) → ((j : ℕ) → k ≤ j → j < k + more → IsDecided chain j) → AllGive k → AllGive (k + more)
    all_more k zero decided given r part_r as_many = given r part_r (omega (arith, as_many))
    all_more k (suc more) decided given r part_r as_many =
        let before : AllGive (k + more) =
        all_more k more (λ j low high. decided j low (omega (arith, high))) given in
        one_more (k + more) (decided (k + more) (omega arith) (omega arith)) before r part_r (omega (arith, as_many))

  -- an entry that stood with one process, and one that stands with another that took no less
  later : (chain : List (List Record)) (start : ℕ) → ((k : ℕ) → start ≤ k → k < length chain → IsDecided chain k) → (p q : Process)
      → TakesPart chain p → TakesPart chain q → start ≤ length p.early → length (taken_by p) ≤ length (taken_by q) → (e f : Entry)
      → Contains (entries (registry p)) e → Contains (entries (registry q)) f → e.id ≡ f.id → e.normal ≡ f.normal
  later chain start decided p q part_p part_q begun less e f in_e in_f same =
      let k : ℕ = length (taken_by p) in
      let p_count = count_of p in
      let q_count : length (taken_by q) + length part_q.begins.0 ≡ length chain =
      sym (length-append (taken_by q) part_q.begins.0) ∙ ap length part_q.begins.1 in
      let not_closed = (steady_items order apart go follow stay p.base p.items part_p.lawful (steady p.base part_p.adopted)).not_closed in
      let given = all_give chain e.id e.normal p part_p (entered (registry p) not_closed e in_e) in
      let last : IsGiven (registry q) e.id e.normal =
      all_more chain e.id e.normal k (length (taken_by q) - k)
      (λ j low high. decided j (omega (arith, low, p_count, begun)) (omega (arith, high, q_count, less)))
      given q part_q (omega (arith, less)) in
      sym (last.no_other f in_f (sym same))

  pub no_id_names_two : NoIdNamesTwoSchemas
  no_id_names_two chain start decided p q part_p part_q p_begun q_begun front back is_front is_back e f in_e in_f same =
      let front_part = fronts chain p part_p front is_front in
      let back_part = fronts chain q part_q back is_back in
      elim (order_of (length (taken_by (when p front))) (length (taken_by (when q back)))) as (λ _. e.normal ≡ f.normal) [
        | inl less ↦
            later chain start decided (when p front) (when q back) front_part back_part p_begun less e f in_e in_f same
        | inr more ↦
            sym (
            later chain start decided (when q back) (when p front) back_part front_part q_begun (omega (arith, more)) f e in_f in_e (sym same))
      ]

  -- two processes, of which the second took no less: what isn't decided by the one is by the other
  two_decide : (p q : Process) → TakesPart (taken_by q) p → TakesPart (taken_by q) q → length q.early ≤ length (taken_by p) → IdsAreForBoth p q
  two_decide p q part_p part_q q_begun =
      elim (order_of (length p.early) (length q.early)) as (λ _. IdsAreForBoth p q) [
        | inl less ↦
            no_id_names_two (taken_by q) (length p.early)
            (λ k low high.
            elim (order_of (length q.early) k) as (λ _. IsDecided (taken_by q) k) [
              | inl behind ↦ record { by = q; takes_part = part_q; behind = behind; taken = high }
              | inr before ↦ record { by = p; takes_part = part_p; behind = low; taken = omega (arith, before, q_begun) }
            ])
            p q part_p part_q (omega arith) less
        | inr more ↦
            no_id_names_two (taken_by q) (length q.early)
            (λ k low high. record { by = q; takes_part = part_q; behind = low; taken = high })
            p q part_p part_q (omega (arith, more)) (omega arith)
      ]

  pub ids_for_two : IdsAreForTwo
  ids_for_two chain p q part_p part_q p_begun q_begun front back is_front is_back e f in_e in_f same =
      elim (order_of (length (taken_by p)) (length (taken_by q))) as (λ _. e.normal ≡ f.normal) [
        | inl less ↦
            two_decide p q (short_of chain p q part_p part_q less) (short_of chain q q part_q part_q (omega arith)) q_begun
            front back is_front is_back e f in_e in_f same
        | inr more ↦
            sym (
            two_decide q p (short_of chain q p part_q part_p (omega (arith, more))) (short_of chain p p part_p part_p (omega arith)) p_begun
            back front is_back is_front f e in_f in_e (sym same))
      ]
