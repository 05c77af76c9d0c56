use Rattle.std.proofs.Common.{◌≡◌, true, false, cond, not, nat_lt, length, Some, None, Ok, Err, ap, sym, ◌∙◌, arith}
use Rattle.std.specs.Option.{option_map_or}
use Rattle.std.specs.Str.{is_utf8}
use Rattle.std.proofs.lemmas.Bool.Decides.{nat_tests}
use Rattle.reg_records.specs.Line.{offset_of}
use Rattle.reg_records.specs.declared.limits.TheConstants.{LINE_LIMIT}
use Rattle.reg_records.specs.declared.line.LineError.TheVariants.{BadUtf8}
use Rattle.reg_records.specs.declared.log.LogFault.TheVariants.{BadFloor, Line}
use Rattle.reg_records.proofs.Floors.{floor_field, field-slice, reading-field}
use Rattle.reg_records.proofs.floor.read_floor.Goals as goal

pub returns-in_default : goal.returns-in_default
returns-in_default c =
    let line = c.args.line.now in
    let short : nat_lt LINE_LIMIT (length line) ≡ false = grind (arith, nat_tests) in
    let broken : is_utf8 (floor_field line) ≡ false = ap is_utf8 (sym (field-slice line)) ∙ c.in_default.ensures in
    sym (reading-field line c.requires short
    ∙ ap (λ b. cond (not b) (Err (Line BadUtf8)) (option_map_or Ok (offset_of (floor_field line)) (Err BadFloor))) broken)

pub returns-in-Some-offset_of : goal.returns-in-Some-offset_of
returns-in-Some-offset_of c =
    let line = c.args.line.now in
    let short : nat_lt LINE_LIMIT (length line) ≡ false = grind (arith, nat_tests) in
    let whole : is_utf8 (floor_field line) ≡ true = ap is_utf8 (sym (field-slice line)) ∙ c.in-Some.ensures.0 in
    let says : offset_of (floor_field line) ≡ Some c.in-Some-offset_of.floor =
    ap offset_of (sym (c.in-Some.ensures.1 ∙ field-slice line)) ∙ sym c.in-Some-offset_of.ensures.value in
    sym (reading-field line c.requires short
    ∙ ap (λ b. cond (not b) (Err (Line BadUtf8)) (option_map_or Ok (offset_of (floor_field line)) (Err BadFloor))) whole
    ∙ ap (λ found. option_map_or Ok found (Err BadFloor)) says)

pub returns-in-None : goal.returns-in-None
returns-in-None c =
    let line = c.args.line.now in
    let short : nat_lt LINE_LIMIT (length line) ≡ false = grind (arith, nat_tests) in
    let whole : is_utf8 (floor_field line) ≡ true = ap is_utf8 (sym (field-slice line)) ∙ c.in-Some.ensures.0 in
    let says : offset_of (floor_field line) ≡ None =
    ap offset_of (sym (c.in-Some.ensures.1 ∙ field-slice line)) ∙ sym c.in-None.ensures.value in
    sym (reading-field line c.requires short
    ∙ ap (λ b. cond (not b) (Err (Line BadUtf8)) (option_map_or Ok (offset_of (floor_field line)) (Err BadFloor))) whole
    ∙ ap (λ found. option_map_or Ok found (Err BadFloor)) says)
