use Rattle.std.proofs.Common.{map, sym, ap, subst, ◌∙◌}
use Rattle.reg_entries.specs.Sought.{AreInVersionOrder}
use Rattle.reg_entries.proofs.entries.Entries.of_subject.Goals as goal

pub returns-clause-all : goal.returns-clause-all
returns-clause-all c = c.in_ok-found.ensures ∙ ap (map (λ e. e.now)) c.deref.ensures.value ∙ c.in_ok-stored_entries.ensures.all

pub returns-clause-in_order : goal.returns-clause-in_order
returns-clause-in_order c =
    subst AreInVersionOrder (sym (c.in_ok-found.ensures ∙ ap (map (λ e. e.now)) c.deref.ensures.value)) c.in_ok-stored_entries.ensures.in_order
