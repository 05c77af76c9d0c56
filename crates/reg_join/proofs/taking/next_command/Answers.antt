use Rattle.std.proofs.Common.{inr, List, ap, sym, ◌∙◌}
use Rattle.reg_records.specs.declared.record.Record.{Record}
use Rattle.reg_modes.specs.InForce.{mode}
use Rattle.reg_replay.specs.Candidate.{candidate}
use Rattle.reg_shared.specs.Held.{base_of}
use Rattle.reg_join.specs.declared.join_keep.JoinKeep.{JoinKeep}
use Rattle.reg_join.proofs.Candidates.{candidate_told, none_told}
use Rattle.reg_join.proofs.taking.next_command.Goals as goal

pub returns-in-Some : goal.returns-in-Some
returns-in-Some g c = (
  _,
  sym (ap (λ (k : JoinKeep g.row.C.Denot). k.stand) c.keep.ensures) ∙ (sym c.stand.ensures ∙ c.in-Due.is),
  candidate_told c.batches_are_of_candidates.ensures (base_of g.N.FeedName.first) c.args.pen.now.published c.args.pen.now.pending c.requires
      c.registry.result.now c.registry.ensures _ c.in-Some.command
      (ap (λ (b : List Record). candidate (mode c.registry.result.now) b) (sym c.as_slice.ensures)
      ∙ (sym c.in_ok-command-in-Due.ensures ∙ c.in-Some.is)),
)

pub returns-in-None : goal.returns-in-None
returns-in-None g c = inr (
  _,
  sym (ap (λ (k : JoinKeep g.row.C.Denot). k.stand) c.keep.ensures) ∙ (sym c.stand.ensures ∙ c.in-Due.is),
  none_told c.batches_are_of_candidates.ensures (base_of g.N.FeedName.first) c.args.pen.now.published c.args.pen.now.pending c.requires
      c.registry.result.now c.registry.ensures _
      (ap (λ (b : List Record). candidate (mode c.registry.result.now) b) (sym c.as_slice.ensures)
      ∙ (sym c.in_ok-command-in-Due.ensures ∙ c.in-None.is)),
)
