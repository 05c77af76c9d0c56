use Rattle.std.proofs.Common.{◌≡◌, [], Result, Ok, Err, ap, sym, subst, ◌∙◌, arith}
use Rattle.std.proofs.lemmas.List.{nil_from_length}
use Rattle.std.specs.FinSet as set
use Rattle.std.specs.Result.{OnOk}
use Rattle.reg_set.specs.LastRecords.{last_records}
use Rattle.reg_fold.proofs.registry.Registry.apply_all_beside.Goals as goal

in_any_case : {T E P : Type 0} (r : Result T E) → P → OnOk r P
in_any_case (Ok _) holds = holds
in_any_case (Err _) holds = tt

pub returns-in-empty-clause-whole : goal.returns-in-empty-clause-whole
returns-in-empty-clause-whole c =
    let rs = c.args.records.now in
    let empty : rs ≡ [] = nil_from_length rs (omega (arith, c.in-empty.len_below)) in
    let same =
    subst (λ qs. c.args.self.now ≡ last_records (set.union c.args.self.now (set.from_list qs))) (sym empty) c.apply_none.ensures in
    in_any_case c.apply_none.result (λ whole is.
    same
    ∙ ap (λ s. last_records (set.union s (set.from_list rs))) is
    ∙ c.last_records_of_unions.ensures.last_records whole (set.from_list rs))
