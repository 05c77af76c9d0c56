use Rattle.std.proofs.Common.{◌≡◌, ◌++◌, ◌<◌, ℕ, List, Ok, length, sym, ap₂, subst, ◌∙◌, arith}
use Rattle.reg_records.specs.Line.{reading_at_front}
use Rattle.reg_records.specs.declared.record.Read.TheVariants as reads
use Rattle.reg_records.specs.declared.record.Record.{Record}
use Rattle.reg_adapter.proofs.Requests.{ReadsBack, say_more, short_more, text_more}
use Rattle.reg_adapter.proofs.asking.request.Goals as goal

pub loop-record-preserved : goal.loop-record-preserved
loop-record-preserved c =
    let batch : List Record = c.args.batch.now in
    let i = c.loop-record.record-index in
    let r : Record = c.record-item.result in
    let below : i < length batch = omega arith in
    let line = c.in_ok-line.ensures.line in
    let back : ReadsBack r =
    λ rest. subst (λ (l : List ℕ). reading_at_front (l ++ rest) ≡ Ok (reads.Record r)) line (c.in_ok-line.ensures.reads_back rest) in
    record {
      text = c.in_ok-extend_from_slice.ensures.items
          ∙ ap₂ (λ (a b : List ℕ). a ++ b) c.loop-record.invariant.text (c.deref.ensures.value ∙ line)
          ∙ sym (text_more batch i r below c.record-item.is);
      say = say_more batch i r below c.record-item.is c.requires back c.loop-record.invariant.say;
      short = short_more batch i r below c.record-item.is c.in_ok-line.ensures.within c.loop-record.invariant.short;
    }
