use Rattle.std.proofs.Common.{◌≡◌, ◌≤◌, ◌++◌, ℕ, List, IfOk, Option, drop, length, sym, ap, subst, ◌∙◌, arith, length-append}
use Rattle.std.specs.BTreeMap.{BTreeMap}
use Rattle.reg_journal.specs.Lines.{text_of}
use Rattle.reg_fold.specs.reg_records.Log.{records_in}
use Rattle.reg_fold.specs.reg_records.declared.limits.TheConstants.{LOG_LINES}
use Rattle.reg_compaction.specs.Fronts.{HasLines}
use Rattle.reg_compaction.proofs.Fronts.{Say-length, split_behind}
use Rattle.reg_inspection.specs.Foreign.{foreign_keytypes, log_lines, tally_of}
use Rattle.reg_inspection.proofs.Lines.{behind_front, behind_lines, counted}
use Rattle.reg_inspection.proofs.foreign.foreign_in.Goals as goal

pub returns : goal.returns
returns c found is log =
    let text : List ℕ = c.args.text.now in
    let (lines, s, most, ends) = c.lines_are_logs.ensures.lines text found is in
    let (tail, all, empty, plain) = behind_lines text found.rest lines ends in
    let parts : text ≡ text_of (s.front ++ s.others) ++ tail = all ∙ ap (λ (ls : List (List ℕ)). text_of ls ++ tail) s.parts in
    let records : length c.args.log.now.records.items ≡ length (records_in found.reads) = ap length log.records in
    let few : length found.reads ≤ LOG_LINES =
    omega (arith, most, ap length s.parts, length-append s.front s.others, Say-length s.others found.reads s.say) in
    let count : c.saturating_add-count.result ≡ length found.reads =
    omega (arith, c.saturating_add-count.ensures, c.len.ensures, records, counted found.reads, log.foreign, few) in
    let back : c.split_at.result.1.now ≡ text_of s.others ++ tail =
    c.split_at.ensures.back
    ∙ ap (λ (n : ℕ). drop n text) c.floor_len.ensures.len
    ∙ split_behind s.front s.others found.floor found.reads tail text s.floor s.say plain parts in
    let has : HasLines c.split_at.result.1.now s.others found.reads c.saturating_add-count.result =
    record { tail = tail; parts = back; say = s.say; counts = count } in
    let keytypes = c.deref.ensures.value ∙ c.in_ok-keytypes.ensures s.others found.reads has in
    let same : foreign_keytypes (log_lines text) ≡ foreign_keytypes s.others =
    ap (λ (t : List ℕ). foreign_keytypes (log_lines t)) parts
    ∙ behind_front s.front s.others found.floor found.reads tail empty s.floor s.say in
    subst (λ (l : List (Option (List ℕ))). IfOk c.tally_of.result (λ (tally : BTreeMap (Option (List ℕ)) ℕ). tally.entries ≡ tally_of l))
    (keytypes ∙ sym same) c.tally_of.ensures
