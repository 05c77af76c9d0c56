-- What a desk's commands do are acts.
use Rattle.std.proofs.Common.{◌≡◌, inl, ℕ, ◌<◌, Bool, true, false, List, [], MatchBool, sym, ap, subst, arith}
use Rattle.std.specs.Borrow.{Bor}
use Rattle.reg_records.specs.declared.record.Record.{Record}
use Rattle.reg_leader.specs.declared.command.Command.{Command}
use Rattle.reg_leader.specs.declared.reply.Reply.{Reply}
use Rattle.reg_topic.specs.declared.published.Item.{Item}
use Rattle.reg_topic.specs.declared.topic.Topic.{Topic}
use Rattle.reg_pen.specs.Deletes.{floor_due}
use Rattle.reg_pen.specs.Pen.{CompactsOrNot, IsPen, PenState}
use Rattle.reg_pen.specs.declared.keep.Kept.{Kept}
use Rattle.reg_running.specs.Calls.{Added, DesksDoActs, IsToldOf}
use Rattle.reg_running.specs.Running.{Act}
use Rattle.reg_running.proofs.Acts.{added_none, compactions_are_acts, submits_are_acts}
use Rattle.reg_running.proofs.Pens.{calls_keep_pens}

-- a compaction that follows, or nothing
then_acts : {K : Type 0} (due : Bool) (base : Topic) (floor : ℕ) (l m : PenState K) (count : ℕ) → 0 < count
    → IsPen base l.published l.pending → MatchBool due (CompactsOrNot base floor l m) (m ≡ l)
    → (acts : List Act) × Added count base l.published m.published acts
then_acts {K} true base floor l m count some pen compacts = compactions_are_acts K base floor l m count some pen compacts
then_acts {K} false base floor l m count some pen same =
    ([], added_none count base l.published m.published (ap (λ (s : PenState K). s.published) same))

pub desks_do_acts : {K : Type 0} (keeps : K → List Record → Kept → K → Type 0) → DesksDoActs keeps
desks_do_acts keeps base before command reply front count node there written =
    let s = written.submitted in
    let mid = s.done.submitted in
    let acts = submits_are_acts keeps base s.since s.old mid command reply count node there s.was s.done.submits in
    let pen = calls_keep_pens keeps base s.since s.old mid command reply 0 s.was (inl s.done.submits) in
    let more = then_acts _ base (floor_due base mid) mid s.new count (omega arith) pen s.done.compacts in (
      acts.0,
      subst (λ (w : List Item). Added count base s.old.published w acts.0) (sym s.done.tells) acts.1,
      subst (λ (w : List Item). IsToldOf keeps base acts.0 node w command reply) (sym s.done.tells) acts.2,
      (more.0, subst (λ (w : List Item). Added count base w s.new.published more.0) (sym s.done.tells) more.1),
    )
