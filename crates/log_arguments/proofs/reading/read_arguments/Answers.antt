use Rattle.std.proofs.Common.{List, ℕ, map, string_bytes}
use Rattle.std.proofs.lemmas.Result.{IfErr-weaker, IfOk-weaker}
use Rattle.log_arguments.proofs.Asking.{asked_by, misused_by, refused_by, rows_are, taken_by, within_limits}
use Rattle.log_arguments.proofs.reading.read_arguments.Goals as goal

pub returns-in-Ok-clause-asked : goal.returns-in-Ok-clause-asked
returns-in-Ok-clause-asked c =
    let words : List (List ℕ) = map string_bytes c.args.words.now in
    let rows = rows_are c.in_ok-line.line words c.in-Ok.found c.in_ok-line.ensures c.in-Ok.ensures.matches in
    IfOk-weaker c.read_found.result _ _ (λ command asks. asked_by c.args.set _ words command rows asks) c.read_found.ensures.asked

pub returns-in-Ok-clause-taken : goal.returns-in-Ok-clause-taken
returns-in-Ok-clause-taken c =
    let words : List (List ℕ) = map string_bytes c.args.words.now in
    IfOk-weaker c.read_found.result _ _ (λ command asks.
    taken_by c.in_ok-line.line words c.in_ok-line.ensures c.in-Ok.ensures.kinds) c.read_found.ensures.asked

pub returns-in-Ok-clause-refused : goal.returns-in-Ok-clause-refused
returns-in-Ok-clause-refused c =
    let words : List (List ℕ) = map string_bytes c.args.words.now in
    let rows = rows_are c.in_ok-line.line words c.in-Ok.found c.in_ok-line.ensures c.in-Ok.ensures.matches in
    let took = taken_by c.in_ok-line.line words c.in_ok-line.ensures c.in-Ok.ensures.kinds in
    IfErr-weaker c.read_found.result _ _ (λ error misuse. misused_by c.args.set _ words error rows took misuse) c.read_found.ensures.refused

pub returns-in-Err-clause-refused : goal.returns-in-Err-clause-refused
returns-in-Err-clause-refused c =
    refused_by c.args.set c.in_ok-line.line (map string_bytes c.args.words.now) c.in-Err.error c.in_ok-line.ensures c.in-Err.ensures.kinds

pub returns-in-Ok-clause-within : goal.returns-in-Ok-clause-within
returns-in-Ok-clause-within c =
    IfOk-weaker c.read_found.result _ _ (λ command asks. within_limits c.args.set _ command asks) c.read_found.ensures.asked
