use Rattle.std.proofs.Common.{◌≡◌, inl, inr, ⊎_elim, ◌∷◌, [], ℕ, Option, Result, refl, sym, ap, subst, ◌∙◌}
use Rattle.std.specs.Prelude.{IfSome, option_map, option_to_list}
use Rattle.reg_journal.specs.Lines.{Said, said}
use Rattle.reg_records.specs.declared.log.LogFault.{LogFault}
use Rattle.reg_records.specs.declared.record.Record.{Record}
use Rattle.reg_file_keep.specs.Marked.{IsLogSaid, lacked}
use Rattle.reg_file_keep.proofs.WithMark.{lacks, marked_with, one_more_said}
use Rattle.reg_file_keep.proofs.marking.append_lacked.Goals as goal

pub returns-in-Ok-put_mark-clause-log : goal.returns-in-Ok-put_mark-clause-log
returns-in-Ok-put_mark-clause-log g c modelled =
    let outcome = said (g.D.Disk.seen c.args.opened.journal.disk) in
    let log = c.args.opened.log in
    let new = c.in-Ok-put_mark.log in
    let mark = c.in-Some.mark in
    let told = c.requires.log modelled in
    let is : lacked log.records.items log.next ≡ mark ∷ [] =
    c.in-Ok.ensures.mark ∙ ap (λ (o : Option (ℕ × Record)). option_to_list (option_map (λ it. it.1) o)) c.in-Some.is in
    let at = subst (λ (o : Option (ℕ × Record)). IfSome o (λ it. it.1.offset ≡ log.next)) c.in-Some.is c.in-Ok.ensures.place in
    let put = c.in-Ok-put_mark.ensures in
    subst (λ (o : Result Said (ℕ × LogFault)). IsLogSaid o new) (sym (marked_with outcome log (mark ∷ []) told is))
    (one_more_said c.batches_add_records.ensures.records c.batches_add_records.ensures.foreign outcome log new mark told at
    put.records put.next put.foreign put.floor)

pub returns-in-Err-clause-cause : goal.returns-in-Err-clause-cause
returns-in-Err-clause-cause g c modelled =
    let outcome = said (g.D.Disk.seen c.args.opened.journal.disk) in
    let log = c.args.opened.log in
    let mark = c.in-Some.mark in
    let told = c.requires.log modelled in
    let is : lacked log.records.items log.next ≡ mark ∷ [] =
    c.in-Ok.ensures.mark ∙ ap (λ (o : Option (ℕ × Record)). option_to_list (option_map (λ it. it.1) o)) c.in-Some.is in (
      c.in-Err.error,
      refl,
      ⊎_elim
          (λ none. inl none)
          (λ has. inr (record {
            mark = mark;
            lacks = lacks outcome log (mark ∷ []) told is;
            before = c.args.opened.journal;
            same = refl;
            sound = c.requires.sound;
            ready = c.is_steady.ensures modelled;
            after = c.put_mark.new.journal;
            is_new = sym c.into_disk-in-Err.ensures;
            cause = has;
          }))
          c.in-Err.ensures.cause,
    )
