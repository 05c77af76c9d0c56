use Rattle.std.proofs.Common.{◌≡◌, false, cond, get_or, take_all, option_map, refl, ap, subst, ◌∙◌}
use Rattle.std.proofs.lemmas.List.{get_or_default}
use Rattle.std.specs.Ordering.{eq_by_cmp}
use Rattle.reg_entries.specs.EntryOrder.{Place, place_cmp}
use Rattle.reg_entries.specs.Index.{entry_at}
use Rattle.reg_entries.specs.Flagged.{with_soft, flagged}
use Rattle.reg_entries.specs.declared.entry.Flag.{Flag}
use Rattle.reg_entries.proofs.Flags.{flagged_more, flagged_none}
use Rattle.reg_entries.proofs.lists.set_flags.Goals as goal

pub loop-flag-init : goal.loop-flag-init
loop-flag-init c =
    record { subject = refl; ordered = c.requires.ordered; flagged = λ p. flagged_none c.args.subject (entry_at c.args.entries.now p) }

pub loop-flag-preserved : goal.loop-flag-preserved
loop-flag-preserved c =
    let s = c.args.subject in
    let flags = c.args.flags.now in
    let i = c.loop-flag.flag-index in
    let k : Flag = get_or flags i (record { version = 0; soft = false }) in
    let at : k ≡ get_or flags i k = get_or_default flags i (record { version = 0; soft = false }) k c.loop-flag-test.true in
    let before = c.loop-flag.entries in
    let after = c.set_soft.new.entries in
    let set : (q : Place)
    → entry_at after q
    ≡ cond (eq_by_cmp place_cmp (s, k.version) q) (option_map (with_soft k.soft) (entry_at before q)) (entry_at before q) =
    subst (λ t. (q : Place)
    → entry_at after q
    ≡ cond (eq_by_cmp place_cmp (t, k.version) q) (option_map (with_soft k.soft) (entry_at before q))
    (entry_at before q)) c.loop-flag.invariant.subject c.set_soft.ensures.at in
    record {
      subject = c.loop-flag.invariant.subject;
      ordered = c.set_soft.ensures.ordered;
      flagged = flagged_more s flags i k c.loop-flag-test.true at c.args.entries.now
          before after c.requires.placed c.loop-flag.invariant.flagged set;
    }

pub returns-clause-flagged : goal.returns-clause-flagged
returns-clause-flagged c =
    λ p.
    c.loop-flag.invariant.flagged p
    ∙ ap (λ ms. option_map (flagged c.args.subject ms) (entry_at c.args.entries.now p))
    (take_all c.loop-flag.flag-index c.args.flags.now c.loop-flag-test.false)
