use Rattle.std.proofs.Common.{◌≡◌, ◌+◌, ◌-◌, ◌<◌, [], ◌∷◌, None, length, sym, ap, ◌∙◌, arith, rules}
use Rattle.std.specs.FinSet.{from_list, union}
use Rattle.std.specs.List.{slice_get}
use Rattle.reg_set.specs.ByKey.{last_alone}
use Rattle.reg_set.specs.LastRecords.{last_records}
use Rattle.reg_set.proofs.Alone.{alone-at, none_of}
use Rattle.reg_set.proofs.Joined.{last-joined, union-nothing}
use Rattle.reg_set.proofs.of_one_key.put_last.Goals as goal

pub returns-in_ok-put : goal.returns-in_ok-put
returns-in_ok-put c =
    let rs = c.args.records.now in
    let r = c.in-Some.last.now in
    let item = c.in-Some.ensures.item in
    let some : 0 < length rs = item.3.0 in
    let whole : length rs - 1 + 1 ≡ length rs = omega arith in
    let alone : last_alone rs ≡ r ∷ [] = alone-at rs (length rs - 1) r whole ∙ ap (λ x. x ∷ []) (sym item.1) in
    c.in_ok-put.ensures.added ∙ last-joined c.args._key.now rs c.requires.of_key r alone c.args.lasts.now

pub returns-in_default : goal.returns-in_default
returns-in_default c =
    let L = c.args.lasts.now in
    let gone : slice_get c.args.records.now (length c.args.records.now - 1) ≡ None = search rules in
    let none = none_of c.args.records.now gone in
    sym (ap (λ rs. last_records (union L (from_list rs))) none ∙ ap last_records (union-nothing L) ∙ c.requires.compact)
