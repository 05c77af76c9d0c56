use Rattle.std.proofs.Common.{◌≡◌, take, map}
use Rattle.reg_entries.specs.Sought.{texts_of}
use Rattle.reg_view.proofs.against.copy_texts.Given as goal

abbrev pub invariant-loop-entry : goal.invariant-loop-entry
invariant-loop-entry l = l.olds.items ≡ texts_of (map (λ e. e.now) (take l.entry-index l.entries))
