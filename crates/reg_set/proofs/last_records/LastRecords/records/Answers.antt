use Rattle.std.proofs.Common.{◌≡◌, map, rules}
use Rattle.std.specs.BTreeMap.{values}
use Rattle.reg_set.proofs.ByKey.{rising}
use Rattle.reg_set.proofs.last_records.LastRecords.records.Goals as goal

pub returns-clause-one_a_key : goal.returns-clause-one_a_key
returns-clause-one_a_key c =
    let m = c.self.inside.by_key in
    let all : map (λ r. r.now) c.in_ok-found.found.items ≡ values m = search rules in
    rising m c.in_ok-found.found.items c.self.invariant all
