use Rattle.std.proofs.Common.{◌≡◌, ◌++◌, [], ◌∷◌, ap, ◌∙◌, rules}
use Rattle.reg_records.specs.Floor.{floor_text}
use Rattle.reg_records.specs.Log.{log_of}
use Rattle.reg_records.proofs.Logs.{log_of-written_floor}
use Rattle.reg_records.proofs.floor.write_floor.Goals as goal

pub returns-clause-reads_back : goal.returns-clause-reads_back
returns-clause-reads_back c = λ rest.
    let written : c.into_bytes.result.items ≡ floor_text c.args.floor ++ 10 ∷ [] = search rules in
    ap (λ line. log_of (line ++ rest)) written ∙ log_of-written_floor c.args.floor c.requires rest
