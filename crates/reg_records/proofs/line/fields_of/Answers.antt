use Rattle.std.proofs.Common.{◌≡◌, ◌∙◌, ◌<◌, None, true, false, length, ap, sym, subst, arith}
use Rattle.std.specs.List.{position_or_len, before_first, after_first}
use Rattle.std.proofs.lemmas.Str.Pattern.{split_once_first}
use Rattle.reg_records.specs.Line.{is_free_of, is_tab}
use Rattle.reg_records.proofs.Fields.{value_field, slice_split-fields, reading_of-bad_tabs, no_tab, one_tab, two_tabs, more_tabs}
use Rattle.reg_records.proofs.line.fields_of.Goals as goal

pub returns-in_err-offset : goal.returns-in_err-offset
returns-in_err-offset c =
    let text = c.args.text.now in
    let gone : c.from_residual.result ≡ None = grind arith in
    rw gone (
    reading_of-bad_tabs text (
    no_tab text (rw c.in_err-offset.was at (split_once_first 9 text c.split_once.result c.split_once.ensures.cases (omega arith)))))

pub returns-in_err-key : goal.returns-in_err-key
returns-in_err-key c =
    let text = c.args.text.now in
    let rest = c.in_ok-offset.rest.now in
    let first : (position_or_len is_tab text < length text)
    × (c.in_ok-offset.offset.now ≡ before_first is_tab text) × (rest ≡ after_first is_tab text) =
    rw c.in_ok-offset.was at (split_once_first 9 text c.split_once.result c.split_once.ensures.cases (omega arith)) in
    let none : position_or_len is_tab rest ≡ length rest =
    rw c.in_err-key.was at (split_once_first 9 rest c.split_once-2.result c.split_once-2.ensures.cases (omega arith)) in
    let gone : c.from_residual-in_err-key.result ≡ None = grind arith in
    rw gone (reading_of-bad_tabs text (one_tab text first.0 (subst (λ r. position_or_len is_tab r ≡ length r) first.2 none)))

pub returns-then-is_free_of : goal.returns-then-is_free_of
returns-then-is_free_of c =
    let text = c.args.text.now in
    let rest = c.in_ok-offset.rest.now in
    let first : (position_or_len is_tab text < length text)
    × (c.in_ok-offset.offset.now ≡ before_first is_tab text) × (rest ≡ after_first is_tab text) =
    rw c.in_ok-offset.was at (split_once_first 9 text c.split_once.result c.split_once.ensures.cases (omega arith)) in
    let second : (position_or_len is_tab rest < length rest) × (c.in_ok-key.key.now ≡ before_first is_tab rest)
    × (c.in_ok-key.value.now ≡ after_first is_tab rest) =
    rw c.in_ok-key.was at (split_once_first 9 rest c.split_once-2.result c.split_once-2.ensures.cases (omega arith)) in
    let value = second.2 ∙ ap (after_first is_tab) first.2 in
    let free : is_free_of is_tab (value_field text) ≡ true =
    ap (is_free_of is_tab) (sym (c.as_bytes.ensures.value ∙ value)) ∙ sym c.if-is_free_of.ensures in
    let two = two_tabs text first.0 (subst (λ r. position_or_len is_tab r < length r) first.2 second.0) free in
    rw (first.1, second.1 ∙ ap (before_first is_tab) first.2, value) (slice_split-fields text two)

pub returns-else-is_free_of : goal.returns-else-is_free_of
returns-else-is_free_of c =
    let text = c.args.text.now in
    let rest = c.in_ok-offset.rest.now in
    let first : (position_or_len is_tab text < length text)
    × (c.in_ok-offset.offset.now ≡ before_first is_tab text) × (rest ≡ after_first is_tab text) =
    rw c.in_ok-offset.was at (split_once_first 9 text c.split_once.result c.split_once.ensures.cases (omega arith)) in
    let second : (position_or_len is_tab rest < length rest) × (c.in_ok-key.key.now ≡ before_first is_tab rest)
    × (c.in_ok-key.value.now ≡ after_first is_tab rest) =
    rw c.in_ok-key.was at (split_once_first 9 rest c.split_once-2.result c.split_once-2.ensures.cases (omega arith)) in
    let value = second.2 ∙ ap (after_first is_tab) first.2 in
    let not_free : is_free_of is_tab (value_field text) ≡ false =
    ap (is_free_of is_tab) (sym (c.as_bytes.ensures.value ∙ value)) ∙ sym c.if-is_free_of.ensures in
    reading_of-bad_tabs text (more_tabs text first.0 (subst (λ r. position_or_len is_tab r < length r) first.2 second.0) not_free)
