use Rattle.std.proofs.Common.{ℕ, List, drop, refl, ap, ◌∙◌, arith, count_by}
use Rattle.reg_records.specs.Line.{is_line_feed}
use Rattle.reg_compaction.proofs.ToFloor.{ends_as}
use Rattle.reg_compaction.proofs.to_floor.compacted_to.Goals as goal

pub returns-then-count_lines-gt-LOG_LINES-clause-refused : goal.returns-then-count_lines-gt-LOG_LINES-clause-refused
returns-then-count_lines-gt-LOG_LINES-clause-refused c =
    let o = c.records_are_ordered.ensures in
    let last = c.last_is_greatest.ensures in
    let law = c.lines_are_logs.ensures in
    let input : List ℕ = c.args.log.now in
    let back = c.split_at.ensures.back ∙ ap (λ (n : ℕ). drop n input) c.floor_len.ensures.len in
    let left =
    ends_as o.all o.apart o.keys o.keys_apart c.last_records_are_enough.ensures.least
    last.greatest last.none law.read law.lines c.args.floor c.requires input
    c.in_ok-waiting.field-0 c.in_ok-waiting.ensures.begun _ _ c.take_lines.new.self c.in_ok-text.text.items
    back refl refl refl c.in_ok-floor_line.ensures c.in_ok-take_lines.ensures c.in_ok-text.ensures in
    left.no_room (
    omega (
      arith,
      c.count_lines.ensures,
      ap (λ (t : List ℕ). count_by is_line_feed t) c.deref.ensures.value,
      c.if-count_lines-gt-LOG_LINES.true,
    ))

pub returns-clause-compacted : goal.returns-clause-compacted
returns-clause-compacted c =
    let o = c.records_are_ordered.ensures in
    let last = c.last_is_greatest.ensures in
    let law = c.lines_are_logs.ensures in
    let input : List ℕ = c.args.log.now in
    let back = c.split_at.ensures.back ∙ ap (λ (n : ℕ). drop n input) c.floor_len.ensures.len in
    let left =
    ends_as o.all o.apart o.keys o.keys_apart c.last_records_are_enough.ensures.least
    last.greatest last.none law.read law.lines c.args.floor c.requires input
    c.in_ok-waiting.field-0 c.in_ok-waiting.ensures.begun _ _ c.take_lines.new.self c.in_ok-text.text.items
    back refl refl refl c.in_ok-floor_line.ensures c.in_ok-take_lines.ensures c.in_ok-text.ensures in
    left.compacted (
    omega (
      arith,
      c.count_lines.ensures,
      ap (λ (t : List ℕ). count_by is_line_feed t) c.deref.ensures.value,
      c.if-count_lines-gt-LOG_LINES.false,
    ))

pub returns-clause-lines : goal.returns-clause-lines
returns-clause-lines c =
    let o = c.records_are_ordered.ensures in
    let last = c.last_is_greatest.ensures in
    let law = c.lines_are_logs.ensures in
    let input : List ℕ = c.args.log.now in
    let back = c.split_at.ensures.back ∙ ap (λ (n : ℕ). drop n input) c.floor_len.ensures.len in
    let left =
    ends_as o.all o.apart o.keys o.keys_apart c.last_records_are_enough.ensures.least
    last.greatest last.none law.read law.lines c.args.floor c.requires input
    c.in_ok-waiting.field-0 c.in_ok-waiting.ensures.begun _ _ c.take_lines.new.self c.in_ok-text.text.items
    back refl refl refl c.in_ok-floor_line.ensures c.in_ok-take_lines.ensures c.in_ok-text.ensures in
    left.lines (
    omega (
      arith,
      c.count_lines.ensures,
      ap (λ (t : List ℕ). count_by is_line_feed t) c.deref.ensures.value,
      c.if-count_lines-gt-LOG_LINES.false,
    ))
