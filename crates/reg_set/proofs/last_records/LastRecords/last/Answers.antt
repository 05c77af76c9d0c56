use Rattle.std.proofs.Common.{◌≡◌, option_map, sym, ap, ◌∙◌, rules}
use Rattle.reg_set.specs.Index.{last_at}
use Rattle.reg_set.specs.LastRecords.{last}
use Rattle.reg_set.proofs.ByKey.{last-set_of}
use Rattle.reg_set.proofs.last_records.LastRecords.last.Goals as goal

pub returns : goal.returns
returns c =
    let key = c.args.key.now in
    let found : option_map (λ found. found.now) c.get.result ≡ last_at c.self.inside.by_key key = search rules in
    found ∙ sym (last-set_of c.self.inside.by_key c.self.invariant key) ∙ ap (λ s. last s key) c.self.view_is
