use Rattle.std.proofs.Common.{option_copied, sym, ap, ◌∙◌}
use Rattle.reg_values.specs.reg_records.declared.key.Key.TheVariants as keys
use Rattle.reg_set.specs.LastRecords.{last}
use Rattle.reg_fold.proofs.Readable.{own_read}
use Rattle.reg_fold.proofs.index.Index.known_at.Goals as goal

pub new-requires : goal.new-requires
new-requires c =
    let rs = c.args.self.now.last in
    let p = c.args.place.now in
    own_read rs (last rs (keys.Schema p.0 p.1)) c.in-Some.entry.now
    (sym (c.requires.all_entries p) ∙ sym (sym (ap option_copied c.in-Some.is) ∙ c.at.ensures))
