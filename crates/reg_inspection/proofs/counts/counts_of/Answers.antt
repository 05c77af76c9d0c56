use Rattle.std.proofs.Common.{◌≡◌, ◌-◌, ℕ, not, List, length, sym, ap, ◌∙◌, arith}
use Rattle.std.specs.List.{count_by}
use Rattle.reg_fold.specs.reg_entries.declared.entry.Entry.{Entry}
use Rattle.reg_inspection.proofs.Counting.{live_are, same_counts, soft_are}
use Rattle.reg_inspection.proofs.counts.counts_of.Goals as goal

pub returns : goal.returns
returns c =
    let found = c.args.found.now in
    let records : c.len.result ≡ length c.args.log.now.records.items = omega (arith, c.len.ensures, c.args.log.now.records.ok.0) in
    same_counts c.args.log.now.foreign c.args.log.now.floor c.args.log.now.next
    records
    c.in_ok-count_subjects.ensures
    (ap (λ (n : ℕ). length found - n) c.count_soft-deleted.ensures
    ∙ sym (live_are found)
    ∙ ap (λ (l : List Entry). count_by (λ (e : Entry). not e.soft) l) c.requires.found)
    (c.count_soft-deleted.ensures ∙ sym (soft_are found) ∙ ap (λ (l : List Entry). count_by (λ (e : Entry). e.soft) l) c.requires.found)
    (c.len-2.ensures.len ∙ ap (λ (ks : List ℕ). length ks) c.requires.ids)
