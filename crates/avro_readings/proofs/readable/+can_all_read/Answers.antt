use Rattle.std.proofs.Common.{◌≡◌, ℕ, ◌+◌, ◌≤◌, ◌&&◌, List, [], ◌∷◌, true, false, Bool, not, drop, map, length, Some, None}
use Rattle.std.proofs.Common.{option_map, option_copied, slice_get, unwrap_or, sym, ap, ◌∙◌, subst, arith, rules}
use Rattle.std.specs.Result.{IfOk}
use Rattle.std.specs.List.{list_all}
use Rattle.std.specs.Option.{option_map_or, IfSome}
use Rattle.std.proofs.lemmas.Grind.{common_steps}
use Rattle.std.proofs.lemmas.List.{drop_more, drop_all, length-map}
use Rattle.std.proofs.lemmas.Option.{slice_get-map, slice_get-get_or}
use Rattle.avro_data.specs.declared.data.Data.{Branch, the_lemmas}
use Rattle.avro_data.specs.Fits.{fits, items_fit, values_fit}
use Rattle.avro_data.specs.Value.{branch}
use Rattle.avro_data.specs.View.{view, values_view, members_view}
use Rattle.avro_readings.specs.Reads.{branch_at}
use Rattle.avro_readings.specs.Readable.{all_read, lists_pass, place_reads}
use Rattle.avro_readings.proofs.Along.{Entry}
use Rattle.avro_readings.proofs.AtPair.{and_right}
use Rattle.avro_readings.proofs.ReadableLaws.{all_items, all_values, all_lists, all_maps, all_records, all_branches}
use Rattle.avro_readings.proofs.ReadableLaws.{one_item, one_value, no_items, no_members_left, fit_length, value_of}
use Rattle.avro_readings.proofs.ReadableLaws.{place_passes, none_past}
use Rattle.avro_readings.proofs.readable.+can_all_read.Goals as goal

pub can_all_read-returns-then-is_any_barred : goal.can_all_read-returns-then-is_any_barred
can_all_read-returns-then-is_any_barred t c =
    let r = c.args.r.now.nodes in
    let w = c.args.w.now.nodes in
    let is = c.args.readers.now in
    let k = c.in-Branch.k in
    let x = view c.in-Branch.inner.value in
    let one : view (Branch k c.in-Branch.inner) ≡ branch k x = search (rules, the_lemmas) in
    let at : branch_at (slice_get w c.args.j.index) k ≡ Some c.in-Some.b =
    sym (c.branch_at.ensures ∙ ap (λ n. branch_at n k) c.node_at-in-Branch.ensures) ∙ c.in-Some.is in
    sym (ap (all_read r w is c.args.j) (ap view c.in-Branch.is ∙ one)
    ∙ all_branches r w is c.args.j c.in-Some.b k x at
    ∙ ap (λ a. not a && all_read r w is c.in-Some.b x) (sym c.is_any_barred.ensures ∙ c.if-is_any_barred.true))

pub can_all_read-returns-else-is_any_barred : goal.can_all_read-returns-else-is_any_barred
can_all_read-returns-else-is_any_barred t c =
    let r = c.args.r.now.nodes in
    let w = c.args.w.now.nodes in
    let is = c.args.readers.now in
    let k = c.in-Branch.k in
    let x = view c.in-Branch.inner.value in
    let one : view (Branch k c.in-Branch.inner) ≡ branch k x = search (rules, the_lemmas) in
    let at : branch_at (slice_get w c.args.j.index) k ≡ Some c.in-Some.b =
    sym (c.branch_at.ensures ∙ ap (λ n. branch_at n k) c.node_at-in-Branch.ensures) ∙ c.in-Some.is in
    let same : all_read r w is c.args.j (view c.args.given.now) ≡ all_read r w is c.in-Some.b (view c.deref.result.now) =
    ap (all_read r w is c.args.j) (ap view c.in-Branch.is ∙ one)
    ∙ all_branches r w is c.args.j c.in-Some.b k x at
    ∙ ap (λ a. not a && all_read r w is c.in-Some.b x) (sym c.is_any_barred.ensures ∙ c.if-is_any_barred.false)
    ∙ ap (λ y. all_read r w is c.in-Some.b (view y)) (sym c.deref.ensures) in
    subst (λ b. IfOk c.can_all_read.result (λ yes. yes ≡ b)) (sym same) c.can_all_read.ensures

pub can_read_items-returns-in_default : goal.can_read_items-returns-in_default
can_read_items-returns-in_default t c =
    let r = c.args.r.now.nodes in
    let w = c.args.w.now.nodes in
    let vs = values_view c.args.items.now.items in
    sym (all_lists r w c.args.readers.now c.args.j c.args.inner vs c.requires.writer
    ∙ ap (λ o. option_map_or (λ ts. all_items r w ts c.args.inner vs) o false)
    (sym c.in_ok-types.ensures ∙ ap (option_map (λ ts. ts.items)) c.in_default.is))

pub can_read_items-returns-then-not-branch : goal.can_read_items-returns-then-not-branch
can_read_items-returns-then-not-branch t c =
    let l = c.loop-item in
    let r = c.args.r.now.nodes in
    let w = c.args.w.now.nodes in
    let i = c.args.inner in
    let ts = c.in-Some.types.items in
    let all = c.deref-item-items.result.now in
    let x = c.item-item.result in
    let rest = values_view (drop (l.item-index + 1) all) in
    let here : drop l.item-index all ≡ x ∷ drop (l.item-index + 1) all =
    drop_more all l.item-index x (omega arith) ∙ ap (λ y. y ∷ drop (l.item-index + 1) all) (sym c.item-item.is) in
    let answer : c.in_ok-can_all_read.field-0 ≡ false = first_of (search rules, grind (arith, common_steps)) in
    let no : all_read r w ts i (view x) ≡ false =
    ap (λ is. all_read r w is i (view x)) (sym c.as_slice.ensures.value) ∙ sym c.in_ok-can_all_read.ensures ∙ answer in
    sym (all_lists r w c.args.readers.now c.args.j i (values_view c.args.items.now.items) c.requires.writer
    ∙ ap (λ o. option_map_or (λ is. all_items r w is i (values_view c.args.items.now.items)) o false)
    (sym c.in_ok-types.ensures ∙ ap (option_map (λ is. is.items)) c.in-Some.is)
    ∙ ap (λ ys. all_items r w ts i (values_view ys)) (sym c.deref-item-items.ensures.value)
    ∙ l.invariant.left
    ∙ ap (λ ys. all_items r w ts i (values_view ys)) here
    ∙ one_item r w ts i (view x) rest
    ∙ ap (λ b. b && all_items r w ts i rest) no)

pub can_read_items-loop-item-preserved : goal.can_read_items-loop-item-preserved
can_read_items-loop-item-preserved t c =
    let l = c.loop-item in
    let r = c.args.r.now.nodes in
    let w = c.args.w.now.nodes in
    let i = c.args.inner in
    let ts = c.in-Some.types.items in
    let all = c.deref-item-items.result.now in
    let x = c.item-item.result in
    let rest = values_view (drop (l.item-index + 1) all) in
    let here : drop l.item-index all ≡ x ∷ drop (l.item-index + 1) all =
    drop_more all l.item-index x (omega arith) ∙ ap (λ y. y ∷ drop (l.item-index + 1) all) (sym c.item-item.is) in
    let answer : c.in_ok-can_all_read.field-0 ≡ true = first_of (search rules, grind (arith, common_steps)) in
    let yes : all_read r w ts i (view x) ≡ true =
    ap (λ is. all_read r w is i (view x)) (sym c.as_slice.ensures.value) ∙ sym c.in_ok-can_all_read.ensures ∙ answer in
    record {
      left = l.invariant.left
          ∙ ap (λ ys. all_items r w ts i (values_view ys)) here
          ∙ one_item r w ts i (view x) rest
          ∙ ap (λ b. b && all_items r w ts i rest) yes;
      fit = and_right (fits w i (view x)) (items_fit w i rest) (sym (ap (λ ys. items_fit w i (values_view ys)) here) ∙ l.invariant.fit);
    }

pub can_read_items-returns : goal.can_read_items-returns
can_read_items-returns t c =
    let l = c.loop-item in
    let r = c.args.r.now.nodes in
    let w = c.args.w.now.nodes in
    let i = c.args.inner in
    let ts = c.in-Some.types.items in
    let all = c.deref-item-items.result.now in
    let none : drop l.item-index all ≡ [] = drop_all l.item-index all c.loop-item-test.false in
    sym (all_lists r w c.args.readers.now c.args.j i (values_view c.args.items.now.items) c.requires.writer
    ∙ ap (λ o. option_map_or (λ is. all_items r w is i (values_view c.args.items.now.items)) o false)
    (sym c.in_ok-types.ensures ∙ ap (option_map (λ is. is.items)) c.in-Some.is)
    ∙ ap (λ ys. all_items r w ts i (values_view ys)) (sym c.deref-item-items.ensures.value)
    ∙ l.invariant.left
    ∙ ap (λ ys. all_items r w ts i (values_view ys)) none
    ∙ no_items r w ts i)

pub can_read_values-returns-in_default : goal.can_read_values-returns-in_default
can_read_values-returns-in_default t c =
    let r = c.args.r.now.nodes in
    let w = c.args.w.now.nodes in
    let ms = members_view c.args.members.now.entries in
    sym (all_maps r w c.args.readers.now c.args.j c.args.inner ms c.requires.writer
    ∙ ap (λ o. option_map_or (λ ts. all_values r w ts c.args.inner ms) o false)
    (sym c.in_ok-types.ensures ∙ ap (option_map (λ ts. ts.items)) c.in_default.is))

pub can_read_values-loop-key-init : goal.can_read_values-loop-key-init
can_read_values-loop-key-init t c =
    let r = c.args.r.now.nodes in
    let w = c.args.w.now.nodes in
    let i = c.args.inner in
    let same : c.into_iter-key-iterator.result ≡ c.args.members.now.entries = search rules in
    record {
      left = ap (λ es. all_values r w c.in-Some.types.items i (members_view es)) (sym same);
      fit = ap (λ es. values_fit w i (members_view es)) same ∙ c.requires.fit;
    }

pub can_read_values-returns-then-not-branch : goal.can_read_values-returns-then-not-branch
can_read_values-returns-then-not-branch t c =
    let l = c.loop-key in
    let r = c.args.r.now.nodes in
    let w = c.args.w.now.nodes in
    let i = c.args.inner in
    let ts = c.in-Some.types.items in
    let e : Entry = (c.in-Some-2._key.now, c.in-Some-2.value.now) in
    let here : l._key-iterator ≡ e ∷ c.next.new.self = c.in-Some-2.ensures.steps in
    let rest = members_view c.next.new.self in
    let answer : c.in_ok-can_all_read.field-0 ≡ false = first_of (search rules, grind (arith, common_steps)) in
    let no : all_read r w ts i (view e.1) ≡ false =
    ap (λ is. all_read r w is i (view e.1)) (sym c.as_slice.ensures.value) ∙ sym c.in_ok-can_all_read.ensures ∙ answer in
    sym (all_maps r w c.args.readers.now c.args.j i (members_view c.args.members.now.entries) c.requires.writer
    ∙ ap (λ o. option_map_or (λ is. all_values r w is i (members_view c.args.members.now.entries)) o false)
    (sym c.in_ok-types.ensures ∙ ap (option_map (λ is. is.items)) c.in-Some.is)
    ∙ l.invariant.left
    ∙ ap (λ es. all_values r w ts i (members_view es)) here
    ∙ one_value r w ts i e.0 (view e.1) rest
    ∙ ap (λ b. b && all_values r w ts i rest) no)

pub can_read_values-loop-key-preserved : goal.can_read_values-loop-key-preserved
can_read_values-loop-key-preserved t c =
    let l = c.loop-key in
    let r = c.args.r.now.nodes in
    let w = c.args.w.now.nodes in
    let i = c.args.inner in
    let ts = c.in-Some.types.items in
    let e : Entry = (c.in-Some-2._key.now, c.in-Some-2.value.now) in
    let here : l._key-iterator ≡ e ∷ c.next.new.self = c.in-Some-2.ensures.steps in
    let rest = members_view c.next.new.self in
    let answer : c.in_ok-can_all_read.field-0 ≡ true = first_of (search rules, grind (arith, common_steps)) in
    let yes : all_read r w ts i (view e.1) ≡ true =
    ap (λ is. all_read r w is i (view e.1)) (sym c.as_slice.ensures.value) ∙ sym c.in_ok-can_all_read.ensures ∙ answer in
    record {
      left = l.invariant.left
          ∙ ap (λ es. all_values r w ts i (members_view es)) here
          ∙ one_value r w ts i e.0 (view e.1) rest
          ∙ ap (λ b. b && all_values r w ts i rest) yes;
      fit =
          and_right (fits w i (view e.1)) (values_fit w i rest) (sym (ap (λ es. values_fit w i (members_view es)) here) ∙ l.invariant.fit);
    }

pub can_read_values-returns : goal.can_read_values-returns
can_read_values-returns t c =
    let l = c.loop-key in
    let r = c.args.r.now.nodes in
    let w = c.args.w.now.nodes in
    let i = c.args.inner in
    let ts = c.in-Some.types.items in
    sym (all_maps r w c.args.readers.now c.args.j i (members_view c.args.members.now.entries) c.requires.writer
    ∙ ap (λ o. option_map_or (λ is. all_values r w is i (members_view c.args.members.now.entries)) o false)
    (sym c.in_ok-types.ensures ∙ ap (option_map (λ is. is.items)) c.in-Some.is)
    ∙ l.invariant.left
    ∙ ap (λ es. all_values r w ts i (members_view es)) c.in-None.ensures.steps.0
    ∙ no_members_left r w ts i)

pub can_read_fields-returns-in_default : goal.can_read_fields-returns-in_default
can_read_fields-returns-in_default t c =
    let r = c.args.r.now.nodes in
    let w = c.args.w.now.nodes in
    let gs = c.args.others.now in
    let ms = members_view c.args.members.now.items in
    sym (all_records r w c.args.readers.now c.args.j c.requires.writer.0 c.requires.writer.1 gs ms c.requires.writer.2 c.requires.fit
    ∙ c.in_ok-asked.ensures.asked (place_reads r w gs ms)
    ∙ ap (λ o. option_map_or (λ lists. lists_pass (place_reads r w gs ms) 0 (map (λ x. x.items) lists.items)) o false) c.in_default.is)

pub can_read_fields-member_fits-requires : goal.can_read_fields-member_fits-requires
can_read_fields-member_fits-requires t c =
    let r = c.args.r.now.nodes in
    let w = c.args.w.now.nodes in
    let gs = c.args.others.now in
    let es = c.args.members.now.items in
    let ms = members_view es in
    let k = c.loop-k.k in
    let all = c.deref-member-items.result.now in
    let x = c.member-item.result in
    let other = c.in-Some-record_field_at.other.now in
    let field : slice_get gs k ≡ Some other =
    ap (λ fs. slice_get fs k) (sym c.as_slice.ensures.items) ∙ sym c.record_field_at.ensures ∙ ap option_copied c.in-Some-record_field_at.is in
    let there : slice_get es k ≡ Some x =
    ap (λ ys. slice_get ys k) (sym c.deref-member-items.ensures.value)
    ∙ slice_get-get_or all k x (omega arith)
    ∙ ap Some (sym c.member-item.is) in
    record { fit = c.requires.fit; field = field; member = there }

pub can_read_fields-returns-then-not-branch : goal.can_read_fields-returns-then-not-branch
can_read_fields-returns-then-not-branch t c =
    let r = c.args.r.now.nodes in
    let w = c.args.w.now.nodes in
    let gs = c.args.others.now in
    let es = c.args.members.now.items in
    let ms = members_view es in
    let k = c.loop-k.k in
    let all = c.deref-member-items.result.now in
    let x = c.member-item.result in
    let other = c.in-Some-record_field_at.other.now in
    let field : slice_get gs k ≡ Some other =
    ap (λ fs. slice_get fs k) (sym c.as_slice.ensures.items) ∙ sym c.record_field_at.ensures ∙ ap option_copied c.in-Some-record_field_at.is in
    let there : slice_get es k ≡ Some x =
    ap (λ ys. slice_get ys k) (sym c.deref-member-items.ensures.value)
    ∙ slice_get-get_or all k x (omega arith)
    ∙ ap Some (sym c.member-item.is) in
    let asked = c.in-Some.asked.items in
    let lists : List (List ℕ) = map (λ y. y.items) asked in
    let test : ℕ → ℕ → Bool = place_reads r w gs ms in
    let types = c.in_ok-types.types.items in
    let each : (p : ℕ → Bool) → list_all p types ≡ list_all p (unwrap_or (slice_get lists k) []) = λ p.
    c.in_ok-types.ensures p
    ∙ ap (list_all p) (c.list_at.ensures ∙ ap (λ o. unwrap_or o []) (sym (slice_get-map (λ y. y.items) asked k))) in
    let answer : c.in_ok-can_all_read-in-Some-record_field_at.field-0 ≡ false = first_of (search rules, grind (arith, common_steps)) in
    let told : all_read r w types other.node (view x.1) ≡ false =
    ap (λ is. all_read r w is other.node (view x.1)) (sym c.as_slice-in-Some-record_field_at.ensures.value)
    ∙ sym c.in_ok-can_all_read-in-Some-record_field_at.ensures
    ∙ answer in
    sym (all_records r w c.args.readers.now c.args.j c.requires.writer.0 c.requires.writer.1 gs ms c.requires.writer.2 c.requires.fit
    ∙ c.in_ok-asked.ensures.asked test
    ∙ ap (λ o. option_map_or (λ found. lists_pass test 0 (map (λ y. y.items) found.items)) o false) c.in-Some.is
    ∙ c.loop-k.invariant
    ∙ place_passes r w gs ms k other (view x.1) types lists field (value_of es k x there) each
    ∙ ap (λ b. b && lists_pass test (k + 1) (drop (k + 1) lists)) told)

pub can_read_fields-returns-in-None : goal.can_read_fields-returns-in-None
can_read_fields-returns-in-None t c =
    let r = c.args.r.now.nodes in
    let w = c.args.w.now.nodes in
    let gs = c.args.others.now in
    let es = c.args.members.now.items in
    let ms = members_view es in
    let k = c.loop-k.k in
    let all = c.deref-member-items.result.now in
    let none : slice_get gs k ≡ None =
    ap (λ fs. slice_get fs k) (sym c.as_slice.ensures.items) ∙ sym c.record_field_at.ensures ∙ ap option_copied c.in-None.is in
    absurd (
    none_past gs k (
    omega (arith, fit_length r w gs es c.requires.fit, ap length c.deref-member-items.ensures.value, c.loop-k-test.true)) none)

pub can_read_fields-loop-k-preserved : goal.can_read_fields-loop-k-preserved
can_read_fields-loop-k-preserved t c =
    let r = c.args.r.now.nodes in
    let w = c.args.w.now.nodes in
    let gs = c.args.others.now in
    let es = c.args.members.now.items in
    let ms = members_view es in
    let k = c.loop-k.k in
    let all = c.deref-member-items.result.now in
    let x = c.member-item.result in
    let other = c.in-Some-record_field_at.other.now in
    let field : slice_get gs k ≡ Some other =
    ap (λ fs. slice_get fs k) (sym c.as_slice.ensures.items) ∙ sym c.record_field_at.ensures ∙ ap option_copied c.in-Some-record_field_at.is in
    let there : slice_get es k ≡ Some x =
    ap (λ ys. slice_get ys k) (sym c.deref-member-items.ensures.value)
    ∙ slice_get-get_or all k x (omega arith)
    ∙ ap Some (sym c.member-item.is) in
    let asked = c.in-Some.asked.items in
    let lists : List (List ℕ) = map (λ y. y.items) asked in
    let test : ℕ → ℕ → Bool = place_reads r w gs ms in
    let types = c.in_ok-types.types.items in
    let each : (p : ℕ → Bool) → list_all p types ≡ list_all p (unwrap_or (slice_get lists k) []) = λ p.
    c.in_ok-types.ensures p
    ∙ ap (list_all p) (c.list_at.ensures ∙ ap (λ o. unwrap_or o []) (sym (slice_get-map (λ y. y.items) asked k))) in
    let answer : c.in_ok-can_all_read-in-Some-record_field_at.field-0 ≡ true = first_of (search rules, grind (arith, common_steps)) in
    let told : all_read r w types other.node (view x.1) ≡ true =
    ap (λ is. all_read r w is other.node (view x.1)) (sym c.as_slice-in-Some-record_field_at.ensures.value)
    ∙ sym c.in_ok-can_all_read-in-Some-record_field_at.ensures
    ∙ answer in
    c.loop-k.invariant
    ∙ place_passes r w gs ms k other (view x.1) types lists field (value_of es k x there) each
    ∙ ap (λ b. b && lists_pass test (k + 1) (drop (k + 1) lists)) told

pub can_read_fields-returns : goal.can_read_fields-returns
can_read_fields-returns t c =
    let r = c.args.r.now.nodes in
    let w = c.args.w.now.nodes in
    let gs = c.args.others.now in
    let es = c.args.members.now.items in
    let ms = members_view es in
    let k = c.loop-k.k in
    let all = c.deref-member-items.result.now in
    let asked = c.in-Some.asked.items in
    let lists : List (List ℕ) = map (λ y. y.items) asked in
    let test : ℕ → ℕ → Bool = place_reads r w gs ms in
    let as_many : length asked ≡ length gs =
    subst (λ o. IfSome o (λ found. length found.items ≡ length gs)) c.in-Some.is c.in_ok-asked.ensures.len in
    let past : length lists ≤ k = omega (
      arith,
      length-map asked (λ y. y.items),
      as_many,
      fit_length r w gs es c.requires.fit,
      ap length c.deref-member-items.ensures.value,
      c.loop-k-test.false,
    ) in
    sym (all_records r w c.args.readers.now c.args.j c.requires.writer.0 c.requires.writer.1 gs ms c.requires.writer.2 c.requires.fit
    ∙ c.in_ok-asked.ensures.asked test
    ∙ ap (λ o. option_map_or (λ found. lists_pass test 0 (map (λ y. y.items) found.items)) o false) c.in-Some.is
    ∙ c.loop-k.invariant
    ∙ ap (lists_pass test k) (drop_all k lists past))
