use Rattle.std.proofs.Common.{◌≡◌, take, map}
use Rattle.reg_entries.specs.declared.entry.Entry.{Entry}
use Rattle.reg_entries.specs.Sought.{texts_of}
use Rattle.reg_entries.proofs.version_texts.texts_of.Given as goal

abbrev pub invariant-loop-entry : goal.invariant-loop-entry
invariant-loop-entry l = record {
  all_texts : map (λ old. (old.0, old.1.now)) l.texts.items ≡ texts_of (map (λ e. e.now) (take l.entry-index l.entries));
  all_versions : map (λ old. old.0) l.texts.items ≡ map {A = Entry} (λ e. e.version) (map (λ e. e.now) (take l.entry-index l.entries));
}
