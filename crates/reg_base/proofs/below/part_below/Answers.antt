use Rattle.std.proofs.Common.{◌≡◌, ◌≤◌, ◌++◌, ℕ, List, drop, take, length, sym, ap, refl, ◌∙◌, arith, length-append}
use Rattle.reg_journal.specs.Lines.{SayLog, text_of}
use Rattle.reg_fold.specs.reg_records.Log.{log_of, records_in}
use Rattle.reg_fold.specs.reg_records.declared.limits.TheConstants.{LOG_LINES}
use Rattle.reg_compaction.specs.Fronts.{HasLines}
use Rattle.reg_compaction.proofs.Fronts.{Say-length, behind, split_behind, split_front, text_of-append}
use Rattle.reg_base.specs.Base.{lines_below, reads_below}
use Rattle.reg_base.proofs.Lines.{counted, fewer, say_below}
use Rattle.reg_base.proofs.below.part_below.Goals as goal

pub returns : goal.returns
returns c found is log =
    let text : List ℕ = c.args.text.now in
    let below = c.args.below in
    let laws = c.lines_are_logs.ensures in
    let (lines, s, most, ends) = laws.lines text found is in
    let (tail, all, plain) = behind text lines found.rest ends in
    let parts : text ≡ text_of (s.front ++ s.others) ++ tail = all ∙ ap (λ (ls : List (List ℕ)). text_of ls ++ tail) s.parts in
    let records : length c.args.log.now.records.items ≡ length (records_in found.reads) = ap length log.records in
    let few : length found.reads ≤ LOG_LINES =
    omega (arith, most, ap length s.parts, length-append s.front s.others, Say-length s.others found.reads s.say) in
    let count : c.saturating_add-count.result ≡ length found.reads =
    omega (arith, c.saturating_add-count.ensures, c.len.ensures, records, counted found.reads, log.foreign, few) in
    let front : c.split_at.result.0.now ≡ text_of s.front =
    c.split_at.ensures.front
    ∙ ap (λ (n : ℕ). take n text) c.floor_len.ensures.len
    ∙ split_front s.front s.others found.floor found.reads tail text s.floor s.say plain parts in
    let back : c.split_at.result.1.now ≡ text_of s.others ++ tail =
    c.split_at.ensures.back
    ∙ ap (λ (n : ℕ). drop n text) c.floor_len.ensures.len
    ∙ split_behind s.front s.others found.floor found.reads tail text s.floor s.say plain parts in
    let has : HasLines c.split_at.result.1.now s.others found.reads c.saturating_add-count.result =
    record { tail = tail; parts = back; say = s.say; counts = count } in
    let kept = lines_below below s.others found.reads in
    let copy : c.in_ok-part.part.items ≡ text_of s.front = c.in_ok-part.ensures.items_if_clones_equal (λ _ _ e. e) ∙ front in
    let pushed : c.push_below.new.part.items ≡ text_of (s.front ++ kept) =
    c.in_ok-push_below.ensures s.others found.reads has
    ∙ ap (λ (l : List ℕ). l ++ text_of kept) copy
    ∙ sym (text_of-append s.front kept) in
    let says : SayLog (s.front ++ kept) found.floor (reads_below below found.reads) =
    record { front = s.front; others = kept; parts = refl; floor = s.floor; say = say_below below s.others found.reads s.say } in
    let fits : length (s.front ++ kept) ≤ LOG_LINES =
    omega (arith, most, ap length s.parts, length-append s.front s.others, length-append s.front kept, fewer below s.others found.reads) in
    ap log_of pushed ∙ laws.read (s.front ++ kept) found.floor (reads_below below found.reads) says fits
