use Rattle.std.proofs.Common.{◌≡◌, List, IfOk, map, subst}
use Rattle.std.proofs.lemmas.Iterator.{YieldsList-from_slice}
use Rattle.std.proofs.lemmas.Iterator.Consumers.{map_from_collect}
use Rattle.std.proofs.lemmas.Result.{IfOk-at_ok}
use Rattle.std.specs.FinSet.{from_list}
use Rattle.reg_records.specs.declared.record.Record.{Record}
use Rattle.reg_set.proofs.record_set.RecordSet.of.Goals as goal

pub returns : goal.returns
returns c =
    let items : map (λ r. r.now) c.in_ok-found.found.items ≡ c.args.records.now =
    IfOk-at_ok _ c.in_ok-found.was (
    map_from_collect c.collect.result c.collect.ensures.ran (YieldsList-from_slice c.args.records.now c.iter.ensures.rest)) in
    let P : List Record → Type 0 = λ l. IfOk c.set_of.result (λ found. found ≡ from_list l) in
    subst P items c.set_of.ensures
