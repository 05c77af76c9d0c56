-- Ids that were given away stay so.
use Rattle.std.proofs.Common.{◌≡◌, ◌⊎◌, inl, inr, ℕ, suc, ◌<◌, ◌≤◌, ◌==◌, ◌||◌, Bool, true, false, cond, List, [], ◌∷◌, ◌++◌, map}
use Rattle.std.proofs.Common.{Some, All, Contains, option_and_then, unwrap_or, is_some, refl, sym, ap, subst, ◌∙◌, arith}
use Rattle.std.proofs.lemmas.Bool.{false≢true, lt-ltb, or_cases}
use Rattle.std.proofs.lemmas.Cmp.{tied_itself}
use Rattle.std.proofs.lemmas.List.Elements.{All-cons}
use Rattle.std.specs.Cmp.{IsTotalOrder}
use Rattle.std.specs.FinSet.{contains, from_list, union, IsAntisymmetric, contains-from_list, contains-union}
use Rattle.std.specs.List.{AllByRecursion, list_any}
use Rattle.std.specs.Ordering.{eq_by_cmp, is_eq, is_le, on, ordering_then}
use Rattle.std.specs.declared.cmp.Ordering.TheVariants.{Less, Equal, Greater}
use Rattle.reg_rules.specs.reg_entries.TwoSchemas.{NoneIsOneTextEach}
use Rattle.reg_rules.specs.reg_entries.declared.entry.Entry.{Entry}
use Rattle.reg_rules.specs.reg_fold.Entries.{EntriesAreInLimits, EntriesAreOfPlaces, EntriesAreRead, entries, entry_of}
use Rattle.reg_rules.specs.reg_fold.IdMark.{IdMarkIsInLimits, id_mark, id_marked_in, id_marked_of, last_id}
use Rattle.reg_rules.specs.reg_fold.Opaque.{is_version}
use Rattle.reg_rules.specs.reg_values.Value.{value_of}
use Rattle.reg_rules.specs.reg_records.declared.key.Key.TheVariants as keys
use Rattle.reg_rules.specs.reg_records.declared.record.Record.{Record}
use Rattle.reg_rules.specs.reg_records.declared.value.Value.TheVariants as values
use Rattle.reg_rules.specs.Writings.{numbered, removed, written_at}
use Rattle.reg_rules.specs.declared.writing.Writing.{Writing}
use Rattle.reg_rules.specs.reg_set.Join.{LastIsGreatest, LastOfLastRecords, LastOfUnion, later}
use Rattle.reg_rules.specs.reg_set.LastRecords.{last, last_records}
use Rattle.reg_rules.specs.reg_set.RecordOrder.{age_cmp, record_cmp, value_cmp}
use Rattle.reg_rules.specs.reg_set.Records.{Records}
use Rattle.reg_leader.specs.Harmless.{IsHarmless}
use Rattle.reg_leader.specs.StayOpen.{last_after}
use Rattle.reg_leader.specs.Step.{IsStep, course_of, marked}
use Rattle.reg_leader.specs.GivenIds.{AreBelow, EntriesHaveGivenIds, IsGiven, StepsKeepGivenIds}
use Rattle.reg_leader.specs.declared.reply.Reply.{Reply}
use Rattle.reg_leader.proofs.Below.{NormalTextsReadBack, ValuesReadBack}
use Rattle.reg_leader.proofs.Courses.{numbered-all, outcome-of}
use Rattle.reg_leader.proofs.Greatest.{last_id-fits}
use Rattle.reg_leader.proofs.Harmless.{GivesIds, numbered-harmless}
use Rattle.reg_leader.proofs.Joined.{gives, in_all, in_batch, last_cases, later_none, later_some, none_of_key, shown_in}
use Rattle.reg_leader.proofs.Names.{id_up_to_last, one_schema}
use Rattle.reg_leader.proofs.Opens.{IsNew, origin}
use Rattle.reg_leader.proofs.Sorted.{AreSorted, IsOther, MayBeGiven, OneStands, OneVersion, PlacesHaveOneId, course-sorted}

pub entries_have_given_ids : NoneIsOneTextEach → EntriesHaveGivenIds
entries_have_given_ids one rs closed e stands = record {
  no_other = λ f there same. one_schema one rs closed f e there stands same;
  is_kept = inl (e, stands, refl);
}

-- an id that may be given, and names no other schema, isn't another schema's
given-stays : (rs : Records) (given id : ℕ) (new normal : List ℕ) → MayBeGiven rs given
    → ((e : Entry) → Contains (entries rs) e → e.id ≡ given → e.normal ≡ new) → IsGiven rs id normal → given ≡ id → new ≡ normal
given-stays rs given id new normal may names taken same =
    let by_entry : (f : Entry) → Contains (entries rs) f → f.id ≡ given → new ≡ normal =
    λ f stands is. sym (names f stands is) ∙ taken.no_other f stands (is ∙ same) in
    elim may [
      | inl had ↦ by_entry had.0 had.1 had.2
      | inr above ↦ elim taken.is_kept [
        | inl had ↦ by_entry had.0 had.1 (had.2 ∙ sym same)
        | inr low ↦ absurd (omega (arith, above, low, same))
      ]
    ]

-- a record under the key of the entry's place gives a version with its id
abbrev KeepsEntry : Entry → Record → Type 0
KeepsEntry e r =
    r.key ≡ keys.Schema e.subject e.version
    → (text : List ℕ) × (deleted : Bool) × (value_of r ≡ Some (values.Schema e.subject e.version e.id text deleted))

-- a writing that is no mark, and leaves each entry's id in its place
abbrev IsMild : Records → Writing → Type 0
IsMild rs w = ¬ (w.key ≡ keys.IdMark) × ((n : ℕ) (e : Entry) → Contains (entries rs) e → KeepsEntry e (written_at n w))

others-mild : (rs : Records) (ws : List Writing) → AllByRecursion IsOther ws → AllByRecursion (IsMild rs) ws
others-mild rs [] all = tt
others-mild rs (w ∷ ws) all = ((all.0.1, λ n e _ key. absurd (false≢true (sym all.0.0 ∙ ap is_version key))), others-mild rs ws all.1)

-- a version, in a place whose entry has its id
version-mild : ValuesReadBack → (rs : Records) (ws : List Writing) (v : OneVersion rs ws)
    → ((f : Entry) → Contains (entries rs) f → f.subject ≡ v.subject → f.version ≡ v.version → f.id ≡ v.id)
    → IsMild rs (record { key = keys.Schema v.subject v.version; value = Some (values.Schema v.subject v.version v.id v.text v.deleted) })
version-mild again rs ws v keeps = (
  λ e. cc,
  λ n e stands key.
      let same : keys.Schema v.subject v.version ≡ keys.Schema e.subject e.version = key in
      let subject : v.subject ≡ e.subject = cc in
      let version : v.version ≡ e.version = cc in
      let id : v.id ≡ e.id = sym (keeps e stands (sym subject) (sym version)) in
      let reads = again n (keys.Schema v.subject v.version) (values.Schema v.subject v.version v.id v.text v.deleted)
      (refl, v.version_fits, v.id_fits, ap is_some v.is_read) in
      (v.text, v.deleted, reads ∙ (λ i. Some (values.Schema (subject i) (version i) (id i) v.text v.deleted))),
)

removed-no_mark : (es : List Entry) → AllByRecursion (λ (w : Writing). ¬ (w.key ≡ keys.IdMark)) (map removed es)
removed-no_mark [] = tt
removed-no_mark (e ∷ es) = (λ same. cc, removed-no_mark es)

-- an earlier record is smaller
earlier : (q r : Record) → q.offset < r.offset → is_le (age_cmp q r) ≡ true
unfolding age_cmp
earlier q r before =
    ap (λ b. is_le (ordering_then (cond b Less (cond (q.offset == r.offset) Equal Greater)) (on (λ (r : Record). r.value) value_cmp q r)))
    (lt-ltb q.offset r.offset before)

module _ (order : IsTotalOrder record_cmp) (apart : IsAntisymmetric record_cmp) (ages : IsTotalOrder age_cmp) (greatest : LastIsGreatest)
    (of_union : LastOfUnion) (of_lasts : LastOfLastRecords) (of_places : EntriesAreOfPlaces) (again : ValuesReadBack)
    (fits : EntriesAreInLimits) (marks : IdMarkIsInLimits) (log : Records) (n : ℕ) where
  abbrev before : Records
  before = last_records log

  one_id : PlacesHaveOneId before
  one_id e f in_e in_f subject version =
      let a = (of_places log e).0 in_e in
      let b = (of_places log f).0 in_f in
      let place : keys.Schema e.subject e.version ≡ keys.Schema f.subject f.version = λ i. keys.Schema (subject i) (version i) in
      let records : Some a.0 ≡ Some b.0 = sym a.1 ∙ ap (last log) place ∙ b.1 in
      let same : Some e ≡ Some f = sym a.2 ∙ ap (λ o. option_and_then (entry_of before) o) records ∙ b.2 in
      ap (λ o. (unwrap_or o e).id) same

  module _ (batch : List Record) where
    abbrev both : Records
    both = union log (from_list batch)

    -- a batch without a mark leaves the mark
    mark_stays : All (λ r. ¬ (r.key ≡ keys.IdMark)) batch → id_mark (last_after log batch) ≡ id_mark before
    unfolding id_mark
    mark_stays all =
        let same =
        of_lasts both keys.IdMark
        ∙ of_union log (from_list batch) keys.IdMark
        ∙ ap (later (last log keys.IdMark)) (none_of_key order apart greatest batch keys.IdMark all)
        ∙ later_none _
        ∙ sym (of_lasts log keys.IdMark) in
        ap (λ o. unwrap_or (option_and_then id_marked_of o) 0) same

    -- where the last record of a place gives a version, an entry has its id
    of_last_version : (e : Entry) (q : Record) → last both (keys.Schema e.subject e.version) ≡ Some q
        → (text : List ℕ) (deleted : Bool) → value_of q ≡ Some (values.Schema e.subject e.version e.id text deleted)
        → (g : Entry) × Contains (entries (last_after log batch)) g × (g.id ≡ e.id)
    of_last_version e q here text deleted value =
        let g = gives (last_after log batch) q e.subject e.version e.id text deleted value in
        let place : keys.Schema g.0.subject g.0.version ≡ keys.Schema e.subject e.version = λ i. keys.Schema (g.2 i) (g.3 i) in
        (g.0, (of_places both g.0).1 (q, ap (last both) place ∙ here, g.1), g.4)

    -- where each record under the key of an entry's place keeps its id, an entry has it
    entry_stays : (e : Entry) → Contains (entries before) e → All (KeepsEntry e) batch
        → (g : Entry) × Contains (entries (last_after log batch)) g × (g.id ≡ e.id)
    entry_stays e stands all =
        let key = keys.Schema e.subject e.version in
        let old = (of_places log e).0 stands in
        let now = later_some old.0 (last (from_list batch) key) in
        let here : last both key ≡ Some now.0 =
        of_union log (from_list batch) key ∙ ap (λ o. later o (last (from_list batch) key)) old.1 ∙ now.1 in
        elim (last_cases of_union log batch key now.0 here) [
          | inl was ↦
              let same : Some old.0 ≡ Some now.0 = sym old.1 ∙ was in
              let made : Some e ≡ entry_of before now.0 = sym old.2 ∙ ap (λ o. option_and_then (entry_of before) o) same in
              let s = shown_in before now.0 e (sym made) in
              of_last_version e now.0 here s.text s.deleted s.value
          | inr new ↦
              let has = in_batch order apart greatest batch (KeepsEntry e) key now.0 all new
              ((greatest (from_list batch) key now.0).0 new).is_of_key in
              of_last_version e now.0 here has.0 has.1 has.2
        ]

  -- what a batch that leaves the mark keeps
  module _ (id : ℕ) (normal : List ℕ) (taken : IsGiven before id normal) where
    abbrev Kept : List Writing → Type 0
    Kept ws =
        ((g : Entry) × Contains (entries (last_after log (numbered n ws))) g × (g.id ≡ id))
        ⊎ (id ≤ id_mark (last_after log (numbered n ws)))

    kept_by_mild : (ws : List Writing) → AllByRecursion (IsMild before) ws → Kept ws
    kept_by_mild ws mild =
        elim taken.is_kept [
          | inl had ↦
              let stays = entry_stays (numbered n ws) had.0 had.1
              (numbered-all {Q = IsMild before} (KeepsEntry had.0) (λ n w mild. mild.1 n had.0 had.1) n ws mild) in
              inl (stays.0, stays.1, stays.2 ∙ had.2)
          | inr low ↦ inr (
              subst (λ m. id ≤ m)
              (sym (
              mark_stays (numbered n ws)
              (numbered-all {Q = IsMild before} (λ r. ¬ (r.key ≡ keys.IdMark)) (λ n w mild. mild.0) n ws mild))) low)
        ]

    -- a mark that is written is the last one, and no id that was given is above it
    module _ (below : AreBelow log n) (rest : List Writing)
        (no_mark : AllByRecursion (λ (w : Writing). ¬ (w.key ≡ keys.IdMark)) rest) (one_stands : OneStands before) where
      abbrev mark : Record
      mark = written_at n (marked before)

      abbrev joined : Records
      joined = union log (from_list (numbered n (marked before ∷ rest)))

      -- of the batch's records only that one is a mark
      one_mark : All (λ q. q.key ≡ keys.IdMark → q ≡ mark) (numbered n (marked before ∷ rest))
      one_mark =
          All-cons (λ q. q.key ≡ keys.IdMark → q ≡ mark) mark (numbered (suc n) rest) (λ _. refl)
          (numbered-all (λ q. q.key ≡ keys.IdMark → q ≡ mark) (λ n w isnt same. absurd (isnt same)) (suc n) rest no_mark)

      above_all : (q : Record) → contains joined q ≡ true → q.key ≡ keys.IdMark → is_le (age_cmp q mark) ≡ true
      above_all q there key =
          elim (or_cases (contains log q) _ (sym (contains-union order log (from_list (numbered n (marked before ∷ rest))) q) ∙ there)) [
            | inl old ↦ earlier q mark (below q old)
            | inr new ↦
                let same = in_all order apart (λ q. q.key ≡ keys.IdMark → q ≡ mark) (numbered n (marked before ∷ rest)) q one_mark
                (sym (contains-from_list order (numbered n (marked before ∷ rest)) q) ∙ new) key in
                ap (λ q. is_le (age_cmp q mark)) same ∙ ap is_le (tied_itself ages mark)
          ]

      mark_is_in : contains joined mark ≡ true
      mark_is_in =
          contains-union order log (from_list (numbered n (marked before ∷ rest))) mark
          ∙ or_right (contains log mark) _
          (contains-from_list order (numbered n (marked before ∷ rest)) mark
          ∙ ap (λ o. is_eq o || list_any (eq_by_cmp record_cmp mark) (numbered (suc n) rest)) (tied_itself order mark))
        where
          or_right : (a b : Bool) → b ≡ true → (a || b) ≡ true
          or_right true b h = refl
          or_right false b h = h

      last_mark : last joined keys.IdMark ≡ Some mark
      last_mark = (greatest joined keys.IdMark mark).1 (record { is_in_set = mark_is_in; is_of_key = refl; is_greatest = above_all })

      mark_after : id_mark (last_after log (numbered n (marked before ∷ rest))) ≡ last_id before
      unfolding id_mark id_marked_of
      mark_after =
          let last_fits = last_id-fits fits marks before one_stands.0 one_stands.1 in
          ap (λ o. unwrap_or (option_and_then id_marked_of o) 0) (of_lasts joined keys.IdMark ∙ last_mark)
          ∙ ap (λ o. unwrap_or (option_and_then id_marked_in o) 0) (again n keys.IdMark (values.IdMark (last_id before)) (refl, last_fits))

      kept_by_mark : Kept (marked before ∷ rest)
      kept_by_mark =
          let up : id ≤ last_id before = elim taken.is_kept [
            | inl had ↦ subst (λ k. k ≤ last_id before) had.2 (id_up_to_last before had.0 had.1)
            | inr low ↦ omega (arith, low)
          ] in
          inr (subst (λ m. id ≤ m) (sym mark_after) up)

    kept_by_version : AreBelow log n → (ws : List Writing) → OneVersion before ws → Kept ws
    kept_by_version below ws v =
        let w : Writing =
        record { key = keys.Schema v.subject v.version; value = Some (values.Schema v.subject v.version v.id v.text v.deleted) } in
        elim v.is_first [
          | inl nothing ↦
              subst Kept (sym (v.one_writing ∙ ap (λ first. first ++ w ∷ []) nothing.0))
              (kept_by_mild (w ∷ []) (version-mild again before ws v (nothing.1 one_id), tt))
          | inr mark ↦
              subst Kept (sym (v.one_writing ∙ ap (λ first. first ++ w ∷ []) mark.0)) (kept_by_mark below (w ∷ []) (λ e. cc, tt) mark.1)
        ]

    kept : AreBelow log n → (reply : Reply) (ws : List Writing) → AreSorted before reply ws → Kept ws
    kept below reply ws (inl others) = kept_by_mild ws (others-mild before ws others)
    kept below reply ws (inr (inl v)) = kept_by_version below ws v
    kept below reply ws (inr (inr gone)) =
        subst Kept (sym gone.are_removed)
        (kept_by_mark below (map removed gone.removed_ones) (removed-no_mark gone.removed_ones) gone.one_stands)

    -- no other schema comes to the id
    new_one : (batch : List Record) (harmless : IsHarmless before n batch) → GivesIds before n batch harmless → (e : Entry)
        → IsNew order apart greatest of_union of_places again log n batch harmless e → e.id ≡ id → e.normal ≡ normal
    new_one batch (inl quiet) gives e new same = absurd new
    new_one batch (inr v) gives e new same =
        new.1 ∙ given-stays before v.id id v.schema.normal_text normal gives v.names_no_other taken (sym new.0 ∙ same)

    pub stays_given : AreBelow log n → (reply : Reply) (ws : List Writing)
        → AreSorted before reply ws → IsGiven (last_after log (numbered n ws)) id normal
    stays_given below reply ws sorted =
        let harmless = numbered-harmless before reply n ws sorted in
        record {
          no_other =
              λ e stands same. elim (origin order apart greatest of_union of_places again log n (numbered n ws) harmless.0 e stands) [
                | inl old ↦ sym old.3 ∙ taken.no_other old.0 old.1 (old.2 ∙ same)
                | inr new ↦ new_one (numbered n ws) harmless.0 harmless.1 e new same
              ];
          is_kept = kept below reply ws sorted;
        }

-- the premises in the order of the law's calls
pub steps_keep_given_ids : IsTotalOrder record_cmp → IsAntisymmetric record_cmp → IsTotalOrder age_cmp → LastIsGreatest
    → LastOfUnion → LastOfLastRecords → EntriesAreOfPlaces → ValuesReadBack → EntriesAreInLimits → IdMarkIsInLimits
    → NoneIsOneTextEach → EntriesAreRead → NormalTextsReadBack → StepsKeepGivenIds
unfolding IsStep
steps_keep_given_ids order apart ages greatest of_union of_lasts of_places again fits
    marks one read normals log n c reply batch closed below step id normal taken =
    let stays = stays_given order apart ages greatest of_union of_lasts of_places again fits marks log n id normal taken below reply in
    elim (
    outcome-of (AreSorted (last_records log)) n (course_of (last_records log) n c) reply batch
    (course-sorted one read fits normals (last_records log) n c) step) [
      | inl none ↦ subst (λ batch. IsGiven (last_after log batch) id normal) (sym none) (stays [] (inl tt))
      | inr some ↦ subst (λ batch. IsGiven (last_after log batch) id normal) (sym some.1) (stays some.0 some.2)
    ]
