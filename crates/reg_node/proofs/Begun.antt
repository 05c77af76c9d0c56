-- What a node has that begins, or is rebased: the last records of all that is kept.
use Rattle.std.proofs.Common.{◌≡◌, ◌≢◌, ◌⊎◌, inl, inr, ℕ, ◌<◌, ◌≤◌, true, List}
use Rattle.std.proofs.Common.{◌++◌, Option, Some, None, IfSome, fold, length, refl, sym, ap, subst, ◌∙◌, arith}
use Rattle.std.proofs.lemmas.Bool.Decides.{leb_tells}
use Rattle.std.proofs.lemmas.List.Sums.{fold-append}
use Rattle.std.specs.Cmp.{IsTotalOrder}
use Rattle.std.specs.FinSet.{contains, empty, union, contains-union, IsAntisymmetric}
use Rattle.reg_records.specs.declared.key.Key.{Key}
use Rattle.reg_records.specs.declared.record.Record.{Record}
use Rattle.reg_set.specs.Compaction.{IsCompactionBelow, IsGone, KeepsLasts}
use Rattle.reg_set.specs.Join.{LastIsGreatest, LastRecordsOfPart, NoLastIsNoRecord}
use Rattle.reg_set.specs.LastRecords.{IsGreatestOf, last, last_records}
use Rattle.reg_set.specs.RecordOrder.{record_cmp}
use Rattle.reg_set.specs.Records.{Records}
use Rattle.reg_floored.specs.Compaction.{IsCompactionOf}
use Rattle.reg_floored.specs.Floored.{Floored}
use Rattle.reg_floored.specs.Floors.{rebased}
use Rattle.reg_floored.specs.Laws.{EachIsItsOwnCompaction}
use Rattle.reg_topic.specs.Laws.{KeptStaysCompaction}
use Rattle.reg_topic.specs.Topic.{whole_log}
use Rattle.reg_topic.specs.declared.published.Item.{Item}
use Rattle.reg_shared.specs.Held.{Held, IsBelow, base_of, topic_at}
use Rattle.reg_node.specs.Caught.{IsWhole, NewsAreWhole, NewsCatchUp}
use Rattle.reg_node.specs.Takes.{draws_of, floor_of, taken, takes_of, with_draw}
use Rattle.reg_node.specs.declared.take.Draw.{Draw}
use Rattle.reg_node.proofs.Caught.{Adds, adds_base, each_some, either, offset_le, same_base, some_is}
use Rattle.reg_node.proofs.Drawn.{floor_after}
use Rattle.reg_node.proofs.Members.{or_left, or_right}

-- a registry over all that is kept has those last records
pub whole_is : (kept : Floored) (floor upto : ℕ) (whole : Option Records) (lasts : Records) → IsWhole kept floor upto whole
    → ((upto ≡ 0) ⊎ (floor ≢ kept.floor) → lasts ≡ last_records kept.records) → IfSome whole (λ registry. registry ≡ lasts)
whole_is kept floor upto None lasts is from = tt
whole_is kept floor upto (Some registry) lasts is from = is.1 ∙ sym (from is.0)

low_floor : (floor own upto : ℕ) → own ≤ upto → own ≡ floor → upto ≡ 0 → floor ≤ 0
low_floor floor own upto le same zero = omega arith

none_below : {A : Type 0} (floor offset : ℕ) → floor ≤ 0 → offset < floor → A
none_below floor offset zero less = absurd (omega arith)

-- A compaction of a whole that has, below its floor, all that a part of the whole has keeps the last records of that part.
module _ (greatest : LastIsGreatest) (none : NoLastIsNoRecord) (floor : ℕ) (whole all one : Records)
    (compaction : IsCompactionBelow floor one whole)
    (part : (r : Record) → contains one r ≡ true → contains all r ≡ true)
    (of_whole : (r : Record) → contains all r ≡ true → contains whole r ≡ true)
    (low : (r : Record) → contains all r ≡ true → r.offset < floor → contains one r ≡ true) where
  is_in : (key : Key) (q : Record) → last all key ≡ Some q → contains one q ≡ true
  is_in key q is =
      let top : IsGreatestOf all key q = (greatest all key q).0 is in
      let within : contains whole q ≡ true = of_whole q top.is_in_set in
      elim (last whole key) as (λ o. last whole key ≡ o → contains one q ≡ true) [
        | None ↦ λ gone. absurd (none whole q within (ap (last whole) top.is_of_key ∙ gone))
        | Some r ↦ λ at.
            let best : IsGreatestOf whole key r = (greatest whole key r).0 at in
            let before : q.offset ≤ r.offset = offset_le q r (best.is_greatest q within top.is_of_key) in
            elim (leb_tells floor r.offset) [
              | inl high ↦ elim (some_is (λ x. (contains one x ≡ true) ⊎ IsGone floor one x) (last whole key) r at (compaction.has_lasts key)) [
                | inl had ↦
                    let again : last all key ≡ Some r = (greatest all key r).1 (record {
                      is_in_set = part r had;
                      is_of_key = best.is_of_key;
                      is_greatest = λ x h k. best.is_greatest x (of_whole x h) k;
                    }) in
                    let same : q ≡ r = cc (is, again) in ap (contains one) same ∙ had
                | inr gone ↦ let b = gone.is_below in let h = high.1 in absurd (omega arith)
              ]
              | inr under ↦ let u = under.1 in low q top.is_in_set (omega arith)
            ]
      ] refl

  pub keeps : KeepsLasts one all
  keeps = record { is_part = part; has_lasts = λ key. each_some (last all key) (is_in key) }

module _ (order : IsTotalOrder record_cmp) (apart : IsAntisymmetric record_cmp) (greatest : LastIsGreatest)
    (none : NoLastIsNoRecord) (of_part : LastRecordsOfPart) where
  -- two compactions of a whole that are alike below their floor have the same last records
  alike_lasts : (floor : ℕ) (whole one other : Records) → IsCompactionBelow floor one whole → IsCompactionBelow floor other whole
      → ((r : Record) → contains one r ≡ true → r.offset < floor → contains other r ≡ true)
      → ((r : Record) → contains other r ≡ true → r.offset < floor → contains one r ≡ true)
      → last_records one ≡ last_records other
  alike_lasts floor whole one other a b to from =
      let all : Records = union one other in
      let first : (r : Record) → contains one r ≡ true → contains all r ≡ true =
      λ r h. contains-union order one other r ∙ or_left (contains one r) (contains other r) h in
      let second : (r : Record) → contains other r ≡ true → contains all r ≡ true =
      λ r h. contains-union order one other r ∙ or_right (contains one r) (contains other r) h in
      let which : (r : Record) → contains all r ≡ true → (contains one r ≡ true) ⊎ (contains other r ≡ true) =
      λ r h. either (contains one r) (contains other r) (sym (contains-union order one other r) ∙ h) in
      let of_whole : (r : Record) → contains all r ≡ true → contains whole r ≡ true =
      λ r h. elim (which r h) [
        | inl own ↦ a.is_part r own
        | inr its ↦ b.is_part r its
      ] in
      let one_low : (r : Record) → contains all r ≡ true → r.offset < floor → contains one r ≡ true =
      λ r h l. elim (which r h) [
        | inl own ↦ own
        | inr its ↦ from r its l
      ] in
      let other_low : (r : Record) → contains all r ≡ true → r.offset < floor → contains other r ≡ true =
      λ r h l. elim (which r h) [
        | inl own ↦ to r own l
        | inr its ↦ its
      ] in
      of_part one all (keeps greatest none floor whole all one a first of_whole one_low)
      ∙ sym (of_part other all (keeps greatest none floor whole all other b second of_whole other_low))

  -- What a rebase and takes of what is kept leave is alike what is kept below the floor.
  module _ (kept : Floored) (read upto : ℕ) (ds : List Draw) (base records : List Record) (other : floor_of ds ≢ kept.floor)
      (is : IsBelow kept.records kept.floor base) where
    after_base : taken (ds ++ draws_of read kept.floor (Some base) records) ≡ fold with_draw (rebased (taken ds) kept) (takes_of read records)
    after_base =
        fold-append with_draw empty ds (draws_of read kept.floor (Some base) records)
        ∙ ap (λ s. fold with_draw s (takes_of read records)) (same_base order apart (taken ds) kept base read is)

    module _ (adds : Adds order apart kept (floor_of ds) upto (taken ds) (fold with_draw (rebased (taken ds) kept) (takes_of read records))) where
      pub of_kept : (r : Record) → contains (taken (ds ++ draws_of read kept.floor (Some base) records)) r ≡ true
          → r.offset < kept.floor → contains kept.records r ≡ true
      of_kept r h low = elim (adds.from r (sym (ap (λ s. contains s r) after_base) ∙ h)) [
        | inl old ↦ elim old.1 [
          | inl same ↦ absurd (other same)
          | inr high ↦ absurd (omega arith)
        ]
        | inr new ↦ new.0
      ]

      pub to_kept : (r : Record) → contains kept.records r ≡ true → r.offset < kept.floor
          → contains (taken (ds ++ draws_of read kept.floor (Some base) records)) r ≡ true
      to_kept r k low = ap (λ s. contains s r) after_base ∙ adds.low other r k low

  module _ (stays : KeptStaysCompaction) (itself : EachIsItsOwnCompaction) (catches : NewsCatchUp) where
    is_kept : (first : Held) (f : List Item) → first.kept.floor ≤ first.next
        → IsCompactionOf (topic_at first f).kept (whole_log (topic_at first f))
    is_kept first f low =
        stays (base_of first) f low (record { floor_rises = omega arith; is_below_floor = (itself first.kept).is_below_floor })

    pub news_are_whole : NewsAreWhole
    news_are_whole first front ds upto None records low c news may =
        let kept : Floored = (topic_at first front).kept in
        let more : List Draw = draws_of (length front) kept.floor None records in
        let up = catches first front ds upto None records low c news in
        let at : floor_of (ds ++ more) ≡ kept.floor = floor_after kept ds (length front) None records news.basis in
        let nothing : kept.floor ≤ 0 = elim may [
          | inl zero ↦ low_floor kept.floor (floor_of ds) upto c.low news.basis zero
          | inr other ↦ absurd (other news.basis)
        ] in
        alike_lasts kept.floor (topic_at first front).log (taken (ds ++ more)) kept.records
        (subst (λ (f : ℕ). IsCompactionBelow f (taken (ds ++ more)) (topic_at first front).log) at up.0.compaction.is_below_floor)
        (is_kept first front low).is_below_floor
        (λ r h l. none_below kept.floor r.offset nothing l)
        (λ r h l. none_below kept.floor r.offset nothing l)
    news_are_whole first front ds upto (Some base) records low c news may =
        let kept : Floored = (topic_at first front).kept in
        let more : List Draw = draws_of (length front) kept.floor (Some base) records in
        let up = catches first front ds upto (Some base) records low c news in
        let at : floor_of (ds ++ more) ≡ kept.floor = floor_after kept ds (length front) (Some base) records news.basis in
        let adds = adds_base order apart kept (floor_of ds) upto (length front) (taken ds) records news.basis.0 news.since in
        alike_lasts kept.floor (topic_at first front).log (taken (ds ++ more)) kept.records
        (subst (λ (f : ℕ). IsCompactionBelow f (taken (ds ++ more)) (topic_at first front).log) at up.0.compaction.is_below_floor)
        (is_kept first front low).is_below_floor
        (of_kept kept (length front) upto ds base records news.basis.0 news.basis.1 adds)
        (to_kept kept (length front) upto ds base records news.basis.0 news.basis.1 adds)
