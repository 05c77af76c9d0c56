use Rattle.std.proofs.Common.{◌≡◌, ◌+◌, ◌∷◌, ◌++◌, [], drop, map, Some, None, Err, IfOk, IfErr}
use Rattle.std.proofs.Common.{option_map, position, bytes_eq, rules, sym, ap, ◌∙◌, subst, arith}
use Rattle.std.proofs.lemmas.List.{drop_more, drop_all}
use Rattle.std.specs.BTreeMap.{insert_entry}
use Rattle.std.specs.Cmp.Lexicographic.{slice_cmp}
use Rattle.std.specs.Ordering.{nat_cmp}
use Rattle.avro_data.specs.View.{view, values_view, members_view}
use Rattle.avro_readings.specs.Reads as spec
use Rattle.avro_readings.specs.Room.{value_room, values_room, IsHalt}
use Rattle.avro_readings.proofs.MemberLaws.{named_found, named_none}
use Rattle.avro_readings.specs.Steps.{values_before, members_before, row_reading, through_union, all_fields_read}
use Rattle.avro_readings.proofs.Along.{Entry, seen, IsCopied, values_all, members_all}
use Rattle.avro_readings.proofs.Along.{next_last, next_copied, items_step}
use Rattle.avro_readings.proofs.Along.{values_step, fields_step}
use Rattle.avro_readings.proofs.RoomLaws.{full, row_halt, items_halt, values_halt, fields_halt, items_taken, members_taken}
use Rattle.avro_readings.proofs.reading.+read.Goals as goal

pub read_branch-returns-in_err-enter-clause-halted : goal.read_branch-returns-in_err-enter-clause-halted
read_branch-returns-in_err-enter-clause-halted t c =
    let is : c.from_residual.result ≡ Err c.in_err-enter.field-0.0 = search rules in
    rw is (
    full c.args.room.now c.in_err-enter.ensures.full.1 (
    through_union c.args.r.now.nodes c.args.w.now.nodes c.args.branches.now c.args.pair
    (view c.args.given.now)) c.in_err-enter.field-0.0 c.in_err-enter.ensures.full.0)

pub read_row-returns-in_err-enter-clause-halted : goal.read_row-returns-in_err-enter-clause-halted
read_row-returns-in_err-enter-clause-halted t c =
    let is : c.from_residual.result ≡ Err c.in_err-enter.field-0.0 = search rules in
    rw is (
    full c.args.room.now c.in_err-enter.ensures.full.1 (
    row_reading c.args.r.now.nodes c.args.w.now.nodes
    (view c.args.given.now) c.args.pair) c.in_err-enter.field-0.0 c.in_err-enter.ensures.full.0)

pub read_row-returns-in_err-found-clause-halted : goal.read_row-returns-in_err-found-clause-halted
read_row-returns-in_err-found-clause-halted t c =
    let is : c.from_residual-in_err-found.result ≡ Err c.in_err-found.field-0.0 = search rules in
    rw is (
    row_halt c.args.room.now c.enter.new.self c.in_ok-enter.ensures.entered.0 c.in_ok-enter.ensures.entered.1 (
    row_reading c.args.r.now.nodes c.args.w.now.nodes
    (view c.args.given.now) c.args.pair) c.in_err-found.field-0.0 c.in_err-found.ensures.halted)

pub read_items-returns-in_err-found-clause-halted : goal.read_items-returns-in_err-found-clause-halted
read_items-returns-in_err-found-clause-halted t c =
    let l = c.loop-item in
    let all = c.deref-item-items.result.now in
    let x = c.item-item.result in
    let here : drop l.item-index all ≡ x ∷ drop (l.item-index + 1) all =
    drop_more all l.item-index x (omega arith) ∙ ap (λ y. y ∷ drop (l.item-index + 1) all) (sym c.item-item.is) in
    let is : c.from_residual.result ≡ Err c.in_err-found.field-0.0 = search rules in
    rw is (subst (λ ys.
    IsHalt c.args.room.now (option_map values_room (spec.items_read c.args.r.now.nodes c.args.w.now.nodes c.args.pair (values_view ys)))
    c.in_err-found.field-0.0) c.deref-item-items.ensures.value
    (items_halt c.args.r.now.nodes c.args.w.now.nodes c.args.pair all (drop l.item-index all) (drop (l.item-index + 1) all) l.done.items
    x c.args.room.now l.room l.invariant.read here l.invariant.room c.in_err-found.field-0.0 c.in_err-found.ensures.halted))

pub read_fields-returns-in_err-found-clause-halted : goal.read_fields-returns-in_err-found-clause-halted
read_fields-returns-in_err-found-clause-halted t c =
    let l = c.loop-field in
    let all = c.args.fields.now in
    let f = c.field-item.result in
    let here : drop l.field-index all ≡ f ∷ drop (l.field-index + 1) all =
    drop_more all l.field-index f (omega arith) ∙ ap (λ y. y ∷ drop (l.field-index + 1) all) (sym c.field-item.is) in
    let is : c.from_residual-in_err-found.result ≡ Err c.in_err-found.field-0.0 = search rules in
    rw is (
    fields_halt (λ name q. spec.named_read c.args.r.now.nodes c.args.w.now.nodes name q (members_view c.args.members.now.items))
    c.args.others.now all (drop l.field-index all) (drop (l.field-index + 1) all) l.done.items f c.args.room.now
    l.room l.invariant.read here l.invariant.room c.in_err-found.field-0.0 c.in_err-found.ensures.halted)

pub read_values-returns-in_err-found-clause-halted : goal.read_values-returns-in_err-found-clause-halted
read_values-returns-in_err-found-clause-halted t c =
    let l = c.loop-key in
    let e : Entry = (c.in-Some.key.now, c.in-Some.value.now) in
    let is : c.from_residual.result ≡ Err c.in_err-found.field-0.0 = search rules in
    rw is (
    values_halt c.args.r.now.nodes c.args.w.now.nodes c.args.pair c.args.members.now.entries
    l.key-iterator c.next.new.self l.done.entries e c.args.room.now l.room l.invariant.read
    c.in-Some.ensures.steps l.invariant.room c.in_err-found.field-0.0 c.in_err-found.ensures.halted)

pub read_items-loop-item-preserved : goal.read_items-loop-item-preserved
read_items-loop-item-preserved t c =
    let l = c.loop-item in
    let all = c.deref-item-items.result.now in
    let x = c.item-item.result in
    let here : drop l.item-index all ≡ x ∷ drop (l.item-index + 1) all =
    drop_more all l.item-index x (omega arith) ∙ ap (λ y. y ∷ drop (l.item-index + 1) all) (sym c.item-item.is) in
    record {
      read = items_step c.args.r.now.nodes c.args.w.now.nodes c.args.pair all (drop l.item-index all)
          (drop (l.item-index + 1) all) l.done.items c.push.new.self.items x c.in_ok-found.found l.invariant.read here
          (sym c.in_ok-found.ensures.read) c.in_ok-push.ensures.items;
      room = items_taken c.args.room.now l.room c.read.new.room l.done.items c.push.new.self.items
          c.in_ok-found.found l.invariant.room c.in_ok-found.ensures.room c.in_ok-push.ensures.items;
    }

pub read_items-returns-clause-read : goal.read_items-returns-clause-read
read_items-returns-clause-read t c =
    let l = c.loop-item in
    let all = c.deref-item-items.result.now in
    let none : drop l.item-index all ≡ [] = drop_all l.item-index all c.loop-item-test.false in
    sym (ap (λ ys. spec.items_read c.args.r.now.nodes c.args.w.now.nodes c.args.pair (values_view ys)) c.deref-item-items.ensures.value)
    ∙ l.invariant.read
    ∙ ap (λ ys.
    option_map (values_before (map view l.done.items))
    (spec.items_read c.args.r.now.nodes c.args.w.now.nodes c.args.pair (values_view ys))) none
    ∙ ap Some (values_all l.done.items)

pub read_values-loop-key-preserved : goal.read_values-loop-key-preserved
read_values-loop-key-preserved t c =
    let l = c.loop-key in
    let e : Entry = (c.in-Some.key.now, c.in-Some.value.now) in
    let all = c.args.members.now.entries in
    let found = c.in_ok-found.found in
    let more = c.insert.new.self.entries in
    let named : c.in_ok-name.name ≡ e.0 = c.in_ok-name.ensures.cases in
    let put : more ≡ l.done.entries ++ (e.0, found) ∷ [] =
    c.in_ok-insert.ensures.entries
    ∙ ap (λ k. insert_entry (slice_cmp nat_cmp) l.done.entries k found) named
    ∙ next_last all l.done.entries l.key-iterator l.invariant.copied e c.next.new.self
    c.in-Some.ensures.steps c.iter-key-items.ensures.ordered found in
    record {
      copied = subst (λ es. IsCopied all es c.next.new.self) (sym put)
          (next_copied all l.done.entries l.key-iterator l.invariant.copied e c.next.new.self
          c.in-Some.ensures.steps c.iter-key-items.ensures.ordered found);
      read = values_step c.args.r.now.nodes c.args.w.now.nodes c.args.pair all l.key-iterator c.next.new.self
          l.done.entries more e found l.invariant.read c.in-Some.ensures.steps (sym c.in_ok-found.ensures.read) put;
      room = members_taken c.args.room.now l.room c.read.new.room l.done.entries
          more e.0 found l.invariant.room c.in_ok-found.ensures.room put;
    }

pub read_values-returns-clause-read : goal.read_values-returns-clause-read
read_values-returns-clause-read t c =
    let l = c.loop-key in
    l.invariant.read
    ∙ ap (λ ys.
    option_map (members_before (map seen l.done.entries))
    (spec.values_read c.args.r.now.nodes c.args.w.now.nodes c.args.pair (members_view ys))) c.in-None.ensures.steps.0
    ∙ ap Some (members_all l.done.entries)

pub read_fields-loop-field-preserved : goal.read_fields-loop-field-preserved
read_fields-loop-field-preserved t c =
    let l = c.loop-field in
    let all = c.args.fields.now in
    let f = c.field-item.result in
    let found = c.in_ok-found.found in
    let here : drop l.field-index all ≡ f ∷ drop (l.field-index + 1) all =
    drop_more all l.field-index f (omega arith) ∙ ap (λ y. y ∷ drop (l.field-index + 1) all) (sym c.field-item.is) in
    let pushed : c.push.new.self.items ≡ l.done.items ++ (f.name, found) ∷ [] =
    c.in_ok-push.ensures.items ∙ ap (λ k. l.done.items ++ (k, found) ∷ []) c.in_ok-name.ensures.cases in
    record {
      read =
          fields_step (λ name q. spec.named_read c.args.r.now.nodes c.args.w.now.nodes name q (members_view c.args.members.now.items))
          c.args.others.now all (drop l.field-index all) (drop (l.field-index + 1) all) l.done.items c.push.new.self.items f found
          l.invariant.read here (sym c.in_ok-found.ensures.read) pushed;
      room = members_taken c.args.room.now l.room c.read_field.new.room l.done.items
          c.push.new.self.items f.name found l.invariant.room c.in_ok-found.ensures.room pushed;
    }

pub read_fields-returns-clause-read : goal.read_fields-returns-clause-read
read_fields-returns-clause-read t c =
    let l = c.loop-field in
    let all = c.args.fields.now in
    let none : drop l.field-index all ≡ [] = drop_all l.field-index all c.loop-field-test.false in
    l.invariant.read
    ∙ ap (λ fs.
    option_map (members_before (map seen l.done.items))
    (all_fields_read c.args.r.now.nodes c.args.w.now.nodes (members_view c.args.members.now.items) c.args.others.now fs)) none
    ∙ ap Some (members_all l.done.items)

pub read_named-returns-in-Some-clause-read : goal.read_named-returns-in-Some-clause-read
read_named-returns-in-Some-clause-read t c =
    let es = c.args.members.now.items in
    let name = c.args.name.now in
    let is : position (λ (m : Entry). bytes_eq m.0 name) es ≡ Some c.in-Some.place =
    ap (position (λ (m : Entry). bytes_eq m.0 name)) (sym c.deref.ensures.value) ∙ sym c.place_named.ensures.place ∙ c.in-Some.is in
    let same =
    named_found c.args.r.now.nodes c.args.w.now.nodes name c.args.pair es c.in-Some.place c.index.result.now is c.index.ensures in
    subst (λ o. IfOk c.read.result (λ found. o ≡ Some (view found))) (sym same) c.read.ensures.read

pub read_named-returns-in-Some-clause-halted : goal.read_named-returns-in-Some-clause-halted
read_named-returns-in-Some-clause-halted t c =
    let es = c.args.members.now.items in
    let name = c.args.name.now in
    let is : position (λ (m : Entry). bytes_eq m.0 name) es ≡ Some c.in-Some.place =
    ap (position (λ (m : Entry). bytes_eq m.0 name)) (sym c.deref.ensures.value) ∙ sym c.place_named.ensures.place ∙ c.in-Some.is in
    let same =
    named_found c.args.r.now.nodes c.args.w.now.nodes name c.args.pair es c.in-Some.place c.index.result.now is c.index.ensures in
    subst (λ o. IfErr c.read.result (IsHalt c.args.room.now (option_map value_room o))) (sym same) c.read.ensures.halted

pub read_named-returns-in-None-clause-halted : goal.read_named-returns-in-None-clause-halted
read_named-returns-in-None-clause-halted t c =
    let es = c.args.members.now.items in
    let name = c.args.name.now in
    let is : position (λ (m : Entry). bytes_eq m.0 name) es ≡ None =
    ap (position (λ (m : Entry). bytes_eq m.0 name)) (sym c.deref.ensures.value) ∙ sym c.place_named.ensures.place ∙ c.in-None.is in
    ap (option_map value_room) (named_none c.args.r.now.nodes c.args.w.now.nodes name c.args.pair es is)
