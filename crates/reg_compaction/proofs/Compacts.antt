-- What a walk over a log leaves is a compaction.
use Rattle.std.proofs.Common.{◌≡◌, ◌≤◌, ◌<◌, ◌-◌, ◌⊎◌, inl, inr, ⊎_elim, ℕ, suc, zero, Bool, true, false, cond, List, [], ◌∷◌, ◌++◌, length}
use Rattle.std.proofs.Common.{Option, Some, None, Ok, refl, sym, ap, subst, ◌∙◌, arith, append_assoc, append-nil, length-append}
use Rattle.std.proofs.Common.{if◌then◌else◌, count_by, ◌+◌}
use Rattle.std.proofs.lemmas.Bool.{or_cases, or_left, or_right, false≢true}
use Rattle.std.proofs.lemmas.Bool.Decides.{nat_tests}
use Rattle.std.specs.Cmp.{IsTotalOrder}
use Rattle.std.specs.FinSet.{IsAntisymmetric, contains, contains-from_list, from_list, same_set}
use Rattle.std.specs.List.{list_any}
use Rattle.std.specs.Option.{unwrap_or}
use Rattle.std.specs.Ordering.{eq_by_cmp}
use Rattle.std.specs.Prelude.{nat_eq, nat_lt}
use Rattle.reg_journal.specs.Lines.{LinesAreRead, Say, SayLog, SaysFloor, text_of}
use Rattle.reg_records.specs.Line.{is_line_feed}
use Rattle.reg_records.specs.Log.{LogText, log_of, next_after, next_of, records_in}
use Rattle.reg_records.specs.declared.limits.TheConstants.{LOG_LINES}
use Rattle.reg_records.specs.declared.record.Read.{Read}
use Rattle.reg_records.specs.declared.record.Read.TheVariants as reads
use Rattle.reg_records.specs.declared.record.Record.{Record}
use Rattle.reg_set.specs.LastRecords.{last_records}
use Rattle.reg_set.specs.RecordOrder.{key_cmp, record_cmp}
use Rattle.reg_set.specs.Records.{Records}
use Rattle.reg_floored.specs.Floors.{compacted_to}
use Rattle.reg_compaction.specs.Begun.{before}
use Rattle.reg_compaction.specs.Compacted.{IsCompacted, IsLines}
use Rattle.reg_compaction.specs.CompactedTo.{IsCompactedTo, floor_lines}
use Rattle.reg_compaction.specs.Walk.{Walks, carried_by, carried_in, finished, kept_lines, kept_reads, top_after}
use Rattle.reg_compaction.specs.declared.walk.Walk.{Walk}
use Rattle.reg_compaction.proofs.Fronts.{Say-length, text_of-append}
use Rattle.reg_compaction.proofs.Full.{all_kept}
use Rattle.reg_compaction.proofs.Kept.{Has, has_kept, kept_has, kept_say}
use Rattle.reg_compaction.proofs.Lasts.{HasOneAKey, same_itself, same_record}
use Rattle.reg_compaction.proofs.Offsets.{HasAt, HasForeignAt, IsCarried, above_it, at_top, below_top, carried, foreign_at, foreign_or_record}
use Rattle.reg_compaction.proofs.Offsets.{foreign_there, has_top, kept_at, no_later, no_lines, none_carried_at, not_at_top}
use Rattle.reg_compaction.proofs.Offsets.{record_at, same_next}
use Rattle.reg_compaction.proofs.Walked.{none_carried, none_kept, none_on_top}
use Rattle.reg_compaction.proofs.Counts.{all_counted}
use Rattle.reg_compaction.proofs.Sizes.{count_of, no_longer, no_more, size_of}

pub both_ways : (a b : Bool) → (a ≡ true → b ≡ true) → (b ≡ true → a ≡ true) → a ≡ b
both_ways true b to back = sym (to refl)
both_ways false true to back = back refl
both_ways false false to back = refl

-- a kept line, and one more
say_push : (lines : List (List ℕ)) (read : List Read) (line : List ℕ) (r : Read)
    → Say lines read → Say (line ∷ []) (r ∷ []) → Say (lines ++ line ∷ []) (read ++ r ∷ [])
say_push [] [] line r say one = one
say_push [] (q ∷ read) line r say one = absurd say
say_push (l ∷ lines) [] line r say one = absurd say
say_push (l ∷ lines) (q ∷ read) line r say one = (say.0, say.1, say.2, say_push lines read line r say.3 one)

text_push : (lines : List (List ℕ)) (line : List ℕ) → text_of (lines ++ line ∷ []) ≡ text_of lines ++ (line ++ 10 ∷ [])
text_push [] line = refl
text_push (l ∷ lines) line =
    ap (λ (t : List ℕ). l ++ 10 ∷ t) (text_push lines line) ∙ sym (append_assoc l (10 ∷ text_of lines) (line ++ 10 ∷ []))

foreign_push : (read : List Read) (t : ℕ) → records_in (read ++ reads.Foreign t ∷ []) ≡ records_in read
foreign_push [] t = refl
foreign_push (reads.Record r ∷ read) t = ap (λ (l : List Record). r ∷ l) (foreign_push read t)
foreign_push (reads.Foreign o ∷ read) t = foreign_push read t

pushed_at : (read : List Read) (t : ℕ) → HasAt t (read ++ reads.Foreign t ∷ [])
pushed_at [] t = inl refl
pushed_at (r ∷ read) t = inr (pushed_at read t)

pushed_part : (read : List Read) (t o : ℕ) → HasAt o (read ++ reads.Foreign t ∷ []) → HasAt o read ⊎ (t ≡ o)
pushed_part [] t o has = ⊎_elim (λ is. inr is) (λ none. absurd none) has
pushed_part (r ∷ read) t o has =
    ⊎_elim (λ is. inl (inl is)) (λ later. ⊎_elim (λ there. inl (inr there)) (λ is. inr is) (pushed_part read t o later)) has

either_way : (b : Bool) (xs : List ℕ) → xs ++ cond b [] [] ≡ xs ++ []
either_way true xs = refl
either_way false xs = refl

before_suc : (t : ℕ) → before (suc t) ≡ Some t
before_suc t = one_before_suc t (before (suc t)) refl
  where
    one_before_suc : (t : ℕ) (o : Option ℕ) → o ≡ before (suc t) → before (suc t) ≡ Some t
    one_before_suc t o is =
        let not_zero : nat_eq (suc t) 0 ≡ false = grind (arith, nat_tests) in
        let less : suc t - 1 ≡ t = omega arith in
        ap (λ b. if b then None else Some (suc t - 1)) not_zero ∙ ap Some less

module _ (total : IsTotalOrder record_cmp) (apart : IsAntisymmetric record_cmp)
    (keys : IsTotalOrder key_cmp) (keys_apart : IsAntisymmetric key_cmp) where
  in_set : (read : List Read) (q : Record) → Has read q → list_any (eq_by_cmp record_cmp q) (records_in read) ≡ true
  in_set [] q has = absurd has
  in_set (reads.Foreign o ∷ read) q has = in_set read q has
  in_set (reads.Record r ∷ read) q has =
      ⊎_elim
      (λ is. or_left _ _ (ap (λ (p : Record). eq_by_cmp record_cmp q p) (sym is) ∙ same_itself total apart keys keys_apart q))
      (λ later. or_right _ _ (in_set read q later))
      has

  of_set : (read : List Read) (q : Record) → list_any (eq_by_cmp record_cmp q) (records_in read) ≡ true → Has read q
  of_set [] q is = absurd (false≢true is)
  of_set (reads.Foreign o ∷ read) q is = of_set read q is
  of_set (reads.Record r ∷ read) q is =
      ⊎_elim
      (λ here. inl (same_record total apart keys keys_apart q r here))
      (λ later. inr (of_set read q later))
      (or_cases _ _ is)

  pub set_has : (read : List Read) (q : Record) → contains (from_list {R = record_cmp} (records_in read)) q ≡ true → Has read q
  set_has read q is = of_set read q (sym (contains-from_list total (records_in read) q) ∙ is)

  pub has_set : (read : List Read) (q : Record) → Has read q → contains (from_list {R = record_cmp} (records_in read)) q ≡ true
  has_set read q has = contains-from_list total (records_in read) q ∙ in_set read q has

  -- records that wait, one for each key, to be kept of a log whose floor rises from the start
  module _ (start floor : ℕ) (read : List Read) (lines : List (List ℕ))
      (say : Say lines read) (waiting : Records) (one : HasOneAKey waiting)
      (part : (q : Record) → contains waiting q ≡ true → Has read q)
      (covers : (r : Record) → Has read r → ((q : Record) × (contains waiting q ≡ true) × (r.offset ≤ q.offset)) ⊎ (r.offset < floor))
      (rises : start ≤ floor) (ahead : floor ≤ next_of start read) where
    abbrev kept : List Read
    kept = kept_reads waiting read

    abbrev of_lines : List (List ℕ)
    of_lines = kept_lines waiting lines read

    kept_waiting : from_list (records_in kept) ≡ waiting
    kept_waiting =
        same_set total apart (from_list (records_in kept)) waiting
        (λ q. both_ways _ _
        (λ is. (kept_has total apart keys keys_apart waiting read q (set_has kept q is)).0)
        (λ is. has_set kept q (has_kept total apart keys keys_apart waiting read q one is (part q is))))

    -- where the floor is below the next offset and no kept line has the greatest offset, a foreign one has it
    foreign_top : (t : ℕ) → next_after read ≡ suc t → floor ≤ t → (HasAt t kept → ⊥) → HasForeignAt t read
    foreign_top t is below not =
        ⊎_elim
        (λ foreign. foreign)
        (λ found. ⊎_elim
        (λ later.
        let at = record_at kept later.0 (has_kept total apart keys keys_apart waiting read later.0 one later.1 (part later.0 later.1)) in
        let le : later.0.offset ≤ t = below_top read t later.0.offset is (kept_at waiting read later.0.offset at) in
        let same : later.0.offset ≡ t = omega (arith, later.2, found.2, le) in
        absurd (not (subst (λ (o : ℕ). HasAt o kept) same at)))
        (λ under. absurd (omega (arith, under, found.2, below)))
        (covers found.0 found.1))
        (foreign_or_record t read (has_top read t is))

    -- the text is lines that stand for those of the log
    pub record Leaves (text : List ℕ) : Type 0 where
      pub left : List (List ℕ)
      pub out : List Read
      pub parts : text ≡ text_of left
      pub says : Say left out
      pub records : from_list (records_in out) ≡ waiting
      pub next : next_of floor out ≡ next_of start read
      pub small : length text ≤ length (text_of lines)
      pub few : length out ≤ length read
      pub all : length out ≡ length read → (q : Record) → Has read q → contains waiting q ≡ true

    -- a line of the log has the offset before the next one
    next_is : (t : ℕ) → next_of start read ≡ suc t → HasAt t read → next_after read ≡ suc t
    next_is t is at = omega (arith, is, above_it read t at)

    with_top : (t : ℕ) → next_of start read ≡ suc t → HasAt t kept → Leaves (text_of of_lines ++ [])
    with_top t is at =
        let after = next_is t is (kept_at waiting read t at) in
        record {
          left = of_lines;
          out = kept;
          parts = append-nil (text_of of_lines);
          says = kept_say waiting lines read say;
          records = kept_waiting;
          next = omega (arith, same_next read kept t after at (λ o has. kept_at waiting read o has), after, is, ahead);
          small = omega (arith, no_longer t waiting lines read None say, ap length (append-nil (text_of of_lines)));
          few = omega (arith, no_more t waiting lines read None say);
          all = λ same. all_kept total apart keys keys_apart t waiting lines read None say (omega (arith, same));
        }

    with_foreign : (t : ℕ) → next_of start read ≡ suc t → HasForeignAt t read → (c : Option (List ℕ))
        → carried_by (Some t) lines read None ≡ c → IsCarried t c → Leaves (text_of of_lines ++ unwrap_or c [])
    with_foreign t is foreign c same it =
        let one_line : Say (it.0 ∷ []) (reads.Foreign t ∷ []) = (it.2, it.3, it.4, tt) in
        let text : text_of of_lines ++ unwrap_or c [] ≡ text_of (of_lines ++ it.0 ∷ []) =
        ap (λ (o : Option (List ℕ)). text_of of_lines ++ unwrap_or o []) it.1 ∙ sym (text_push of_lines it.0) in
        let carries : carried_by (Some t) lines read None ≡ Some (it.0 ++ 10 ∷ []) = same ∙ it.1 in
        let most = no_more t waiting lines read None say in
        let size = no_longer t waiting lines read None say in
        let at = foreign_at read t foreign in
        let after = next_is t is at in
        record {
          left = of_lines ++ it.0 ∷ [];
          out = kept ++ reads.Foreign t ∷ [];
          parts = text;
          says = say_push of_lines kept it.0 (reads.Foreign t) (kept_say waiting lines read say) one_line;
          records = ap (λ (l : List Record). from_list l) (foreign_push kept t) ∙ kept_waiting;
          next = omega (
            arith,
            same_next read (kept ++ reads.Foreign t ∷ []) t after (pushed_at kept t)
                (λ o has.
                ⊎_elim (λ there. kept_at waiting read o there)
                (λ here. subst (λ (p : ℕ). HasAt p read) here at) (pushed_part kept t o has)),
            after,
            is,
            ahead,
          );
          small = omega (
            arith,
            size,
            ap size_of carries,
            ap length text,
            ap length (text_push of_lines it.0),
            length-append (text_of of_lines) (it.0 ++ 10 ∷ []),
          );
          few = omega (arith, most, ap count_of carries, length-append kept (reads.Foreign t ∷ []));
          all = λ same_length.
              all_kept total apart keys keys_apart t waiting lines read None say (
              omega (arith, same_length, ap count_of carries, length-append kept (reads.Foreign t ∷ [])));
        }

    -- where neither has it, the floor is the next offset
    with_none : (t : ℕ) → next_of start read ≡ suc t → (HasAt t kept → ⊥) → (HasForeignAt t read → ⊥) → (c : Option (List ℕ))
        → carried_by (Some t) lines read None ≡ c → c ≡ None → Leaves (text_of of_lines ++ unwrap_or c [])
    with_none t is not no_foreign c same no_line =
        let text : text_of of_lines ++ unwrap_or c [] ≡ text_of of_lines =
        ap (λ (o : Option (List ℕ)). text_of of_lines ++ unwrap_or o []) no_line ∙ append-nil (text_of of_lines) in
        let later = no_later read kept (λ o has. kept_at waiting read o has) in
        let at_floor : floor ≡ suc t =
        elim (nat_lt t floor) as (λ b. nat_lt t floor ≡ b → floor ≡ suc t) [
          | true ↦ λ test. let past : t < floor = grind (arith, nat_tests) in omega (arith, past, ahead, is)
          | false ↦ λ test.
              let below : floor ≤ t = grind (arith, nat_tests) in
              let after : next_after read ≡ suc t = omega (arith, is, rises, below) in
              absurd (no_foreign (foreign_top t after below not))
        ] refl in
        record {
          left = of_lines;
          out = kept;
          parts = text;
          says = kept_say waiting lines read say;
          records = kept_waiting;
          next = omega (arith, is, at_floor, later);
          small = omega (arith, no_longer t waiting lines read None say, ap length text);
          few = omega (arith, no_more t waiting lines read None say);
          all = λ same_length. all_kept total apart keys keys_apart t waiting lines read None say (omega (arith, same_length));
        }

    leaves : (t : ℕ) → next_of start read ≡ suc t
        → Leaves (text_of of_lines ++ cond (top_after (Some t) waiting read false) [] (unwrap_or (carried_by (Some t) lines read None) []))
    leaves t is =
        elim (top_after (Some t) waiting read false) as (λ b. top_after (Some t) waiting read false ≡ b
        → Leaves (text_of of_lines ++ cond b [] (unwrap_or (carried_by (Some t) lines read None) []))) [
          | true ↦ λ top. with_top t is (⊎_elim (λ none. absurd (false≢true none)) (λ at. at) (at_top t waiting read false top))
          | false ↦ λ top. ⊎_elim
              (λ foreign.
              with_foreign t is foreign (carried_by (Some t) lines read None) refl (carried t lines read None say (inl foreign)))
              (λ none.
              with_none t is (not_at_top t waiting read false top).1 none
              (carried_by (Some t) lines read None) refl (none_carried_at t lines read None none))
              (foreign_there t read)
        ] refl

    -- a log without lines leaves nothing
    leaves_none : (top : Option ℕ) → next_of start read ≡ 0
        → Leaves (text_of of_lines ++ cond (top_after top waiting read false) [] (unwrap_or (carried_by top lines read None) []))
    leaves_none top is =
        let empty : read ≡ [] = no_lines read (omega (arith, is)) in
        let no_length : length read ≡ 0 = ap length empty in
        let no_kept : kept ≡ [] = ap (λ (rs : List Read). kept_reads waiting rs) empty in
        let text : text_of of_lines ++ cond (top_after top waiting read false) [] (unwrap_or (carried_by top lines read None) []) ≡ [] =
        ap
        (λ (ls : List (List ℕ)).
        text_of ls ++ cond (top_after top waiting read false) [] (unwrap_or (carried_by top lines read None) []))
        (none_kept waiting lines read say no_length)
        ∙ ap (λ b. cond b [] (unwrap_or (carried_by top lines read None) [])) (none_on_top top waiting read false no_length)
        ∙ ap (λ (o : Option (List ℕ)). unwrap_or o []) (none_carried top lines read None no_length) in
        record {
          left = [];
          out = [];
          parts = text;
          says = tt;
          records = ap (λ (rs : List Read). from_list (records_in rs)) (sym no_kept) ∙ kept_waiting;
          next = omega (arith, is, ahead);
          small = omega (arith, ap length text);
          few = omega arith;
          all = λ none q has. absurd (subst (λ (rs : List Read). Has rs q) empty has);
        }

    leaves_all : (top : Option ℕ) (n : ℕ) → next_of start read ≡ n → top ≡ before n
        → Leaves (text_of of_lines ++ cond (top_after top waiting read false) [] (unwrap_or (carried_by top lines read None) []))
    leaves_all top zero is at = leaves_none top is
    leaves_all top (suc t) is at =
        subst (λ (o : Option ℕ).
        Leaves (text_of of_lines ++ cond (top_after o waiting read false) [] (unwrap_or (carried_by o lines read None) [])))
        (sym (at ∙ before_suc t))
        (leaves t is)

    pub walked : (top : Option ℕ) (old new : Walk) → top ≡ before (next_of start read)
        → old.waiting ≡ waiting → old.has_top ≡ false → carried_in old ≡ None
        → Walks top lines read old new → (text : List ℕ) × Leaves text × (finished new ≡ old.text.items ++ text)
    walked top old new at waits no_top no_line walks =
        let text = text_of of_lines in
        let kept_text : new.text.items ≡ old.text.items ++ text =
        walks.text ∙ ap (λ (w : Records). old.text.items ++ text_of (kept_lines w lines read)) waits in
        let has : new.has_top ≡ top_after top waiting read false =
        walks.has_top
        ∙ ap (λ (w : Records). top_after top w read old.has_top) waits
        ∙ ap (λ (b : Bool). top_after top waiting read b) no_top in
        let line : carried_in new ≡ carried_by top lines read None =
        walks.carried ∙ ap (λ (c : Option (List ℕ)). carried_by top lines read c) no_line in (
          text ++ cond (top_after top waiting read false) [] (unwrap_or (carried_by top lines read None) []),
          leaves_all top (next_of start read) refl at,
          ap (λ (l : List ℕ). l ++ cond new.has_top [] (unwrap_or (carried_in new) [])) kept_text
              ∙ ap (λ (b : Bool). (old.text.items ++ text) ++ cond b [] (unwrap_or (carried_in new) [])) has
              ∙ ap (λ (c : Option (List ℕ)). (old.text.items ++ text) ++ cond (top_after top waiting read false) [] (unwrap_or c [])) line
              ∙ append_assoc old.text.items text (
              cond (top_after top waiting read false) [] (unwrap_or (carried_by top lines read None) [])),
        )

    -- behind the line of the floor they are a log
    module _ (are_read : LinesAreRead) (front : List (List ℕ)) (says_floor : SaysFloor front floor)
        (text output : List ℕ) (l : Leaves text) (joined : output ≡ text_of front ++ text) where
      of_front : output ≡ text_of (front ++ l.left)
      of_front = joined ∙ ap (λ (t : List ℕ). text_of front ++ t) l.parts ∙ sym (text_of-append front l.left)

      say_all : SayLog (front ++ l.left) floor l.out
      say_all = record { front = front; others = l.left; parts = refl; floor = says_floor; say = l.says }

      -- as many lines as it has LFs
      pub counted : count_by is_line_feed output ≡ length front + length l.out
      counted = omega (
        arith,
        ap (λ (t : List ℕ). count_by is_line_feed t) of_front,
        all_counted (front ++ l.left) floor l.out say_all,
        length-append front l.left,
        Say-length l.left l.out l.says,
      )

      fits : length front + length l.out ≤ LOG_LINES → length (front ++ l.left) ≤ LOG_LINES
      fits count = omega (arith, count, length-append front l.left, Say-length l.left l.out l.says)

      pub is_lines : length front + length l.out ≤ LOG_LINES → IsLines output
      is_lines count = record {
        lines = front ++ l.left;
        floor = floor;
        read = l.out;
        parts = of_front;
        say = say_all;
        few = fits count;
      }

      reads_back : length front + length l.out ≤ LOG_LINES → log_of output ≡ Ok (record { floor = floor; reads = l.out; rest = [] })
      reads_back count = ap log_of of_front ∙ are_read (front ++ l.left) floor l.out say_all (fits count)

      -- a compaction of a log, of which it keeps the last records
      pub is_compacted : (input : List ℕ) (log : LogText) (all : List (List ℕ)) → log_of input ≡ Ok log
          → all ≡ front ++ lines → length all ≤ LOG_LINES → length (text_of all) ≤ length input
          → start ≡ log.floor → floor ≡ log.floor → read ≡ log.reads
          → waiting ≡ last_records (from_list (records_in log.reads)) → IsCompacted input output
      is_compacted input log all is parts most within starts floor_is reads_are waits = record {
        log = log;
        read = is;
        out = record { floor = floor; reads = l.out; rest = [] };
        read_back = reads_back (omega (arith, most, ap length parts, length-append front lines, Say-length lines read say, l.few));
        whole = refl;
        floor = floor_is;
        lasts = l.records ∙ waits;
        next = l.next ∙ ap (λ (f : ℕ). next_of f read) starts ∙ ap (λ (rs : List Read). next_of log.floor rs) reads_are;
        small = omega (
          arith,
          l.small,
          within,
          ap length joined,
          length-append (text_of front) text,
          ap (λ (ls : List (List ℕ)). length (text_of ls)) parts,
          ap length (text_of-append front lines),
          length-append (text_of front) (text_of lines),
        );
      }

      -- one to a floor
      pub is_compacted_to : (input : List ℕ) (log : LogText) → log_of input ≡ Ok log
          → length front + length l.out ≤ LOG_LINES → length (text_of lines) ≤ length input
          → front ≡ floor_lines floor → start ≡ log.floor → read ≡ log.reads
          → waiting ≡ compacted_to floor (from_list (records_in log.reads)) → IsCompactedTo floor input output
      is_compacted_to input log is count within front_is starts reads_are waits = record {
        log = log;
        read = is;
        rises = omega (arith, starts, rises);
        within = omega (arith, ahead, ap (λ (f : ℕ). next_of f read) starts, ap (λ (rs : List Read). next_of log.floor rs) reads_are);
        out = record { floor = floor; reads = l.out; rest = [] };
        read_back = reads_back count;
        whole = refl;
        floor = refl;
        lasts = l.records ∙ waits;
        next = l.next ∙ ap (λ (f : ℕ). next_of f read) starts ∙ ap (λ (rs : List Read). next_of log.floor rs) reads_are;
        small = omega (
          arith,
          l.small,
          within,
          ap length joined,
          length-append (text_of front) text,
          ap (λ (ls : List (List ℕ)). length (text_of ls)) front_is,
        );
      }
