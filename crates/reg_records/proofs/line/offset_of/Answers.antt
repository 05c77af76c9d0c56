use Rattle.std.proofs.Common.{◌≡◌, ◌<◌, ◌^◌, ℕ, List, length, None, true, arith, rules, sym}
use Rattle.std.specs.Char.{is_ascii_digit}
use Rattle.std.specs.List.{list_all}
use Rattle.std.specs.Str.Parse.{digits_value}
use Rattle.std.proofs.lemmas.Str.Parse.{IsNumeralModel, numerals_by_value, parse_digits}
use Rattle.std.proofs.lemmas.Result.{OkIff-at_err}
use Rattle.std.proofs.lemmas.Bool.Decides.{nat_tests}
use Rattle.reg_records.specs.Line.{is_decimal, offset_of}
use Rattle.reg_records.proofs.line.offset_of.Goals as goal

own : IsNumeralModel (λ ds. list_all is_ascii_digit ds ≡ true) (digits_value 10)
own = numerals_by_value _ (search rules)

-- digits that fit no u64 spell no offset
offset_of-unparsed : (field : List ℕ) → is_decimal field ≡ true
    → ((list_all is_ascii_digit field ≡ true) → ¬ ((0 < length field) × (digits_value 10 field < 2 ^ 64))) → None ≡ offset_of field
offset_of-unparsed field e h = grind (arith, nat_tests)

pub returns-in_default-2-clause-value : goal.returns-in_default-2-clause-value
returns-in_default-2-clause-value c =
    offset_of-unparsed c.args.field.now (sym c.if-not-is_decimal.ensures) (λ digits.
    OkIff-at_err c.parse.result _ _ _ (parse_digits own 64 c.args.field.now c.parse.result c.parse.ensures.value.0 digits) c.in_default.is)
