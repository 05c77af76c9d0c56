use Rattle.std.proofs.Common.{◌≡◌, take, option_map}
use Rattle.std.specs.BTreeMap.{IsOrdered}
use Rattle.reg_entries.specs.EntryOrder.{Place, place_cmp}
use Rattle.reg_entries.specs.Index.{entry_at}
use Rattle.reg_entries.specs.Flagged.{flagged}
use Rattle.reg_entries.proofs.lists.set_flags.Given as goal

abbrev pub invariant-loop-flag : goal.invariant-loop-flag
invariant-loop-flag l = record {
  subject : l.place.0 ≡ l.fn.subject;
  ordered : IsOrdered place_cmp l.entries;
  flagged : (p : Place)
      → entry_at l.entries p ≡ option_map (flagged l.fn.subject (take l.flag-index l.flags)) (entry_at l.initial.entries p);
}
