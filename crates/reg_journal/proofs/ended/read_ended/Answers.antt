use Rattle.std.proofs.Common.{◌≡◌, ◌<◌, ◌+◌, ◌-◌, ◌++◌, ◌∷◌, [], ℕ, List, Ok, cond, length, take, sym, ap, ◌∙◌, arith, rules, length-append}
use Rattle.reg_records.specs.Floor.{is_floor_line}
use Rattle.reg_records.specs.Log.{log_of, records_in}
use Rattle.reg_journal.specs.Lines.{text_of}
use Rattle.reg_journal.proofs.Ends.{ended, counted, filled, nothing_left}
use Rattle.reg_journal.proofs.ended.read_ended.Goals as goal

pub returns-clause-found : goal.returns-clause-found
returns-clause-found c =
    let found = c.in_ok-log.ensures.read in
    let file : List ℕ = c.args.bytes.items in
    let text : c.deref.result.now ≡ file ++ 10 ∷ [] = c.deref.ensures.value ∙ c.in_ok-push.ensures.items in
    let given : c.new-reader.result.inner.now ≡ c.deref.result.now = search rules in
    let reads : log_of (file ++ 10 ∷ []) ≡ Ok found.0 = ap log_of (sym (given ∙ text)) ∙ found.1 in
    let rest : c.read_log.new.reader.inner.now ≡ found.0.rest = cc (found.3) in
    let same : c.into_inner-left.result.now ≡ c.read_log.new.reader.inner.now = search rules in
    let left : c.into_inner-left.result.now ≡ found.0.rest = same ∙ rest in
    let some : 0 < length found.0.rest =
    omega (arith, ap length left, filled c.into_inner-left.result.now (sym c.is_empty.ensures ∙ c.if-is_empty.false)) in
    let it = ended file found.0 reads some in
    let size : c.len.result ≡ length file + 1 =
    omega (arith, c.len.ensures, ap length c.in_ok-push.ensures.items, length-append file (10 ∷ [])) in
    let lines = counted found.0.reads in
    let records : length c.in_ok-log.log.records.items ≡ length (records_in found.0.reads) = ap length found.2.records in
    let copied : c.in_ok-behind.behind.items ≡ take (length c.into_inner-left.result.now - 1) c.into_inner-left.result.now = search rules in
    let behind : c.in_ok-behind.behind.items ≡ take (length found.0.rest - 1) found.0.rest =
    copied ∙ ap (λ (l : List ℕ). take (length l - 1) l) left in
    let front : c.floor_lines.result ≡ cond (is_floor_line (file ++ 10 ∷ [])) 1 0 =
    c.floor_lines.ensures ∙ ap (λ (t : List ℕ). cond (is_floor_line t) 1 0) (c.deref-2.ensures.value ∙ c.in_ok-push.ensures.items) in
    record {
      lines = it.lines;
      floor = found.0.floor;
      read = found.0.reads;
      parts = it.parts ∙ ap (λ (l : List ℕ). text_of it.lines ++ 10 ∷ l) (sym behind);
      say = it.say;
      ends = omega (arith, size, ap length left, it.size);
      counts = omega (arith, records, lines, found.2.foreign, c.len-2.ensures, it.told, front);
      few = it.few;
      is_log = found.2;
    }

pub returns-clause-within : goal.returns-clause-within
returns-clause-within c =
    let found = c.in_ok-log.ensures.read in
    let file : List ℕ = c.args.bytes.items in
    let text : c.deref.result.now ≡ file ++ 10 ∷ [] = c.deref.ensures.value ∙ c.in_ok-push.ensures.items in
    let given : c.new-reader.result.inner.now ≡ c.deref.result.now = search rules in
    let reads : log_of (file ++ 10 ∷ []) ≡ Ok found.0 = ap log_of (sym (given ∙ text)) ∙ found.1 in
    let rest : c.read_log.new.reader.inner.now ≡ found.0.rest = cc (found.3) in
    let same : c.into_inner-left.result.now ≡ c.read_log.new.reader.inner.now = search rules in
    let left : c.into_inner-left.result.now ≡ found.0.rest = same ∙ rest in
    let some : 0 < length found.0.rest =
    omega (arith, ap length left, filled c.into_inner-left.result.now (sym c.is_empty.ensures ∙ c.if-is_empty.false)) in
    let it = ended file found.0 reads some in
    let size : c.len.result ≡ length file + 1 =
    omega (arith, c.len.ensures, ap length c.in_ok-push.ensures.items, length-append file (10 ∷ [])) in
    omega (arith, size, ap length left, it.size)

pub returns-then-is_empty-clause-refused : goal.returns-then-is_empty-clause-refused
returns-then-is_empty-clause-refused c =
    let found = c.in_ok-log.ensures.read in
    let file : List ℕ = c.args.bytes.items in
    let text : c.deref.result.now ≡ file ++ 10 ∷ [] = c.deref.ensures.value ∙ c.in_ok-push.ensures.items in
    let given : c.new-reader.result.inner.now ≡ c.deref.result.now = search rules in
    let reads : log_of (file ++ 10 ∷ []) ≡ Ok found.0 = ap log_of (sym (given ∙ text)) ∙ found.1 in
    let rest : c.read_log.new.reader.inner.now ≡ found.0.rest = cc (found.3) in
    let same : c.into_inner-left.result.now ≡ c.read_log.new.reader.inner.now = search rules in
    nothing_left file found.0 c.into_inner-left.result.now reads (same ∙ rest) (sym c.is_empty.ensures ∙ c.if-is_empty.true)

pub overflow_sub-end : goal.overflow_sub-end
overflow_sub-end c =
    let found = c.in_ok-log.ensures.read in
    let file : List ℕ = c.args.bytes.items in
    let text : c.deref.result.now ≡ file ++ 10 ∷ [] = c.deref.ensures.value ∙ c.in_ok-push.ensures.items in
    let given : c.new-reader.result.inner.now ≡ c.deref.result.now = search rules in
    let reads : log_of (file ++ 10 ∷ []) ≡ Ok found.0 = ap log_of (sym (given ∙ text)) ∙ found.1 in
    let rest : c.read_log.new.reader.inner.now ≡ found.0.rest = cc (found.3) in
    let same : c.into_inner-left.result.now ≡ c.read_log.new.reader.inner.now = search rules in
    let left : c.into_inner-left.result.now ≡ found.0.rest = same ∙ rest in
    let some : 0 < length found.0.rest =
    omega (arith, ap length left, filled c.into_inner-left.result.now (sym c.is_empty.ensures ∙ c.if-is_empty.false)) in
    let it = ended file found.0 reads some in
    let size : c.len.result ≡ length file + 1 =
    omega (arith, c.len.ensures, ap length c.in_ok-push.ensures.items, length-append file (10 ∷ [])) in
    omega (arith, size, ap length left, it.size)

pub overflow_sub-end-2 : goal.overflow_sub-end-2
overflow_sub-end-2 c =
    let found = c.in_ok-log.ensures.read in
    let file : List ℕ = c.args.bytes.items in
    let text : c.deref.result.now ≡ file ++ 10 ∷ [] = c.deref.ensures.value ∙ c.in_ok-push.ensures.items in
    let given : c.new-reader.result.inner.now ≡ c.deref.result.now = search rules in
    let reads : log_of (file ++ 10 ∷ []) ≡ Ok found.0 = ap log_of (sym (given ∙ text)) ∙ found.1 in
    let rest : c.read_log.new.reader.inner.now ≡ found.0.rest = cc (found.3) in
    let same : c.into_inner-left.result.now ≡ c.read_log.new.reader.inner.now = search rules in
    let left : c.into_inner-left.result.now ≡ found.0.rest = same ∙ rest in
    let some : 0 < length found.0.rest =
    omega (arith, ap length left, filled c.into_inner-left.result.now (sym c.is_empty.ensures ∙ c.if-is_empty.false)) in
    let it = ended file found.0 reads some in
    let size : c.len.result ≡ length file + 1 =
    omega (arith, c.len.ensures, ap length c.in_ok-push.ensures.items, length-append file (10 ∷ [])) in
    omega (arith, size, ap length left, it.size)

pub overflow_add-lines : goal.overflow_add-lines
overflow_add-lines c =
    let found = c.in_ok-log.ensures.read in
    let file : List ℕ = c.args.bytes.items in
    let text : c.deref.result.now ≡ file ++ 10 ∷ [] = c.deref.ensures.value ∙ c.in_ok-push.ensures.items in
    let given : c.new-reader.result.inner.now ≡ c.deref.result.now = search rules in
    let reads : log_of (file ++ 10 ∷ []) ≡ Ok found.0 = ap log_of (sym (given ∙ text)) ∙ found.1 in
    let rest : c.read_log.new.reader.inner.now ≡ found.0.rest = cc (found.3) in
    let same : c.into_inner-left.result.now ≡ c.read_log.new.reader.inner.now = search rules in
    let left : c.into_inner-left.result.now ≡ found.0.rest = same ∙ rest in
    let some : 0 < length found.0.rest =
    omega (arith, ap length left, filled c.into_inner-left.result.now (sym c.is_empty.ensures ∙ c.if-is_empty.false)) in
    let it = ended file found.0 reads some in
    let size : c.len.result ≡ length file + 1 =
    omega (arith, c.len.ensures, ap length c.in_ok-push.ensures.items, length-append file (10 ∷ [])) in
    let lines = counted found.0.reads in
    let records : length c.in_ok-log.log.records.items ≡ length (records_in found.0.reads) = ap length found.2.records in
    omega (arith, records, lines, found.2.foreign, c.len-2.ensures, it.few, it.told)

pub overflow_add-lines-2 : goal.overflow_add-lines-2
overflow_add-lines-2 c =
    let found = c.in_ok-log.ensures.read in
    let file : List ℕ = c.args.bytes.items in
    let text : c.deref.result.now ≡ file ++ 10 ∷ [] = c.deref.ensures.value ∙ c.in_ok-push.ensures.items in
    let given : c.new-reader.result.inner.now ≡ c.deref.result.now = search rules in
    let reads : log_of (file ++ 10 ∷ []) ≡ Ok found.0 = ap log_of (sym (given ∙ text)) ∙ found.1 in
    let rest : c.read_log.new.reader.inner.now ≡ found.0.rest = cc (found.3) in
    let same : c.into_inner-left.result.now ≡ c.read_log.new.reader.inner.now = search rules in
    let left : c.into_inner-left.result.now ≡ found.0.rest = same ∙ rest in
    let some : 0 < length found.0.rest =
    omega (arith, ap length left, filled c.into_inner-left.result.now (sym c.is_empty.ensures ∙ c.if-is_empty.false)) in
    let it = ended file found.0 reads some in
    let size : c.len.result ≡ length file + 1 =
    omega (arith, c.len.ensures, ap length c.in_ok-push.ensures.items, length-append file (10 ∷ [])) in
    let lines = counted found.0.reads in
    let records : length c.in_ok-log.log.records.items ≡ length (records_in found.0.reads) = ap length found.2.records in
    let front : c.floor_lines.result ≡ cond (is_floor_line (file ++ 10 ∷ [])) 1 0 =
    c.floor_lines.ensures ∙ ap (λ (t : List ℕ). cond (is_floor_line t) 1 0) (c.deref-2.ensures.value ∙ c.in_ok-push.ensures.items) in
    omega (arith, records, lines, found.2.foreign, c.len-2.ensures, it.few, it.told, front)
