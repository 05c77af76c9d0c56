use Rattle.std.proofs.Common.{cond, List, map, option_map, sym, ap, ◌∙◌}
use Rattle.std.specs.FinMap as finmap
use Rattle.std.specs.Map.{values_of}
use Rattle.std.specs.Prelude.{bytes_eq}
use Rattle.reg_entries.specs.Flagged.{with_soft, flagged, FlagsEach}
use Rattle.reg_entries.specs.Sought.{of_subject}
use Rattle.reg_entries.specs.declared.entry.Entry.{Entry}
use Rattle.reg_entries.specs.declared.entry.Flag.{Flag}
use Rattle.reg_entries.proofs.Flags.{each_flagged, indexed_flagged, listed_flagged}
use Rattle.reg_entries.proofs.Views.{get-view, values-view}
use Rattle.reg_entries.proofs.entries.Entries.flag.Goals as goal

pub invariant_of-self : goal.invariant_of-self
invariant_of-self c =
    let a = c.self.inside in (
      indexed_flagged a.entries c.set_flags.new.entries a.names a.tops c.self.invariant.0
          c.set_flags.ensures.still_ordered c.args.subject c.args.flags.now c.set_flags.ensures.flagged,
      listed_flagged a.entries c.set_flags.new.entries a.schemas c.self.invariant.1
          c.args.subject c.args.flags.now c.set_flags.ensures.flagged,
      c.self.invariant.2,
      c.self.invariant.3,
    )

pub returns-clause-flagged : goal.returns-clause-flagged
returns-clause-flagged c = λ p.
    let m = c.self.inside.entries in
    get-view c.set_flags.new.entries p ∙ c.set_flags.ensures.flagged p
    ∙ ap (option_map (flagged c.args.subject c.args.flags.now)) (sym (get-view m p) ∙ ap (λ f. finmap.get f p) c.self.view_is)

pub returns-clause-each : goal.returns-clause-each
returns-clause-each c = λ soft are p.
    let a = c.self.inside in
    let m = a.entries in
    let s = c.args.subject in
    let flags_of : List Entry → List Flag = λ es. map (λ e. record { version = e.version; soft = soft e }) (of_subject es s) in
    let own : FlagsEach soft c.args.flags.now (of_subject (values_of m.entries) s) =
    are ∙ ap flags_of (sym (ap finmap.values c.self.view_is) ∙ values-view m c.self.invariant.0.ordered) in
    get-view c.set_flags.new.entries p
    ∙ each_flagged m c.set_flags.new.entries a.names a.tops c.self.invariant.0 s c.args.flags.now c.set_flags.ensures.flagged soft own p
    ∙ ap (option_map (λ e. cond (bytes_eq e.subject s) (with_soft (soft e) e) e))
    (sym (get-view m p) ∙ ap (λ f. finmap.get f p) c.self.view_is)
