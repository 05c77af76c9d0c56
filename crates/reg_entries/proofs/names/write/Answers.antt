use Rattle.std.proofs.Common.{◌≡◌, ◌&&◌, ◌||◌, ◌==◌, not, ◌<◌, ◌^◌, true, false, cond, List, Some, None, ap, subst, sym, ◌∙◌, rules}
use Rattle.std.specs.BTreeMap.{is_at}
use Rattle.std.specs.BTreeSet.{contains}
use Rattle.std.specs.Map.{lookup}
use Rattle.std.specs.Option.{option_map_or}
use Rattle.std.specs.Ordering.{eq_by_cmp}
use Rattle.reg_entries.specs.EntryOrder.{Place, place_cmp, place_of}
use Rattle.reg_entries.specs.Index.{Name, name_of, name_cmp, entry_at, HasAt}
use Rattle.reg_entries.specs.declared.entry.Entry.{Entry}
use Rattle.reg_entries.proofs.Indexed.{named-new, named-over, named-back, placed-written}
use Rattle.reg_entries.proofs.names.write.Goals as goal

pub returns-in-Ok-None-clause-still_placed : goal.returns-in-Ok-None-clause-still_placed
returns-in-Ok-None-clause-still_placed c =
    let m = c.args.entries.now in
    let e = c.args.entry in
    let at : HasAt m c.insert-2.new.self (place_of e) (Some e) =
    subst (λ p. HasAt m c.insert-2.new.self p (Some e)) c.in_ok-place.ensures.place c.in-Ok-None.ensures.updates.0 in
    let fits : e.version < 2 ^ 32 = subst (λ (p : Place). p.1 < 2 ^ 32) c.in_ok-place.ensures.place c.in_ok-place.ensures.fits in
    placed-written m c.insert-2.new.self c.args.names.now c.requires.placed c.requires.named e at fits

pub returns-in-Ok-Some-clause-still_placed : goal.returns-in-Ok-Some-clause-still_placed
returns-in-Ok-Some-clause-still_placed c =
    let m = c.args.entries.now in
    let e = c.args.entry in
    let at : HasAt m c.insert-2.new.self (place_of e) (Some e) =
    subst (λ p. HasAt m c.insert-2.new.self p (Some e)) c.in_ok-place.ensures.place c.in-Ok-Some.ensures.updates.0 in
    let fits : e.version < 2 ^ 32 = subst (λ (p : Place). p.1 < 2 ^ 32) c.in_ok-place.ensures.place c.in_ok-place.ensures.fits in
    placed-written m c.insert-2.new.self c.args.names.now c.requires.placed c.requires.named e at fits

pub returns-in-Ok-None-clause-still_named : goal.returns-in-Ok-None-clause-still_named
returns-in-Ok-None-clause-still_named c =
    let m = c.args.entries.now in
    let e = c.args.entry in
    let at : HasAt m c.insert-2.new.self (place_of e) (Some e) =
    subst (λ p. HasAt m c.insert-2.new.self p (Some e)) c.in_ok-place.ensures.place c.in-Ok-None.ensures.updates.0 in
    let none_here : c.in-Ok-None.field-0 ≡ None = search rules in
    let none : entry_at m (place_of e) ≡ None =
    ap (entry_at m) (sym c.in_ok-place.ensures.place) ∙ sym c.in-Ok-None.ensures.old ∙ none_here in
    let added : (x : Name)
    → contains name_cmp c.insert.new.self x ≡ cond (eq_by_cmp name_cmp (name_of e) x) true (contains name_cmp c.args.names.now x) =
    subst (λ y. (x : Name)
    → contains name_cmp c.insert.new.self x
    ≡ cond (eq_by_cmp name_cmp y x) true
    (contains name_cmp c.args.names.now x)) c.in_ok-name_of.ensures c.in_ok-insert.ensures.updates.0 in
    named-new m c.insert-2.new.self c.args.names.now c.requires.placed c.requires.named e at c.insert.new.self none added

pub returns-in-Ok-Some-clause-still_named : goal.returns-in-Ok-Some-clause-still_named
returns-in-Ok-Some-clause-still_named c =
    let m = c.args.entries.now in
    let e = c.args.entry in
    let at : HasAt m c.insert-2.new.self (place_of e) (Some e) =
    subst (λ p. HasAt m c.insert-2.new.self p (Some e)) c.in_ok-place.ensures.place c.in-Ok-Some.ensures.updates.0 in
    let some_here : c.in-Ok-Some.field-0 ≡ Some c.in-Ok-Some.old = search rules in
    let was : entry_at m (place_of e) ≡ Some c.in-Ok-Some.old =
    ap (entry_at m) (sym c.in_ok-place.ensures.place) ∙ sym c.in-Ok-Some.ensures.old ∙ some_here in
    let added : (x : Name)
    → contains name_cmp c.insert.new.self x ≡ cond (eq_by_cmp name_cmp (name_of e) x) true (contains name_cmp c.args.names.now x) =
    subst (λ y. (x : Name)
    → contains name_cmp c.insert.new.self x
    ≡ cond (eq_by_cmp name_cmp y x) true
    (contains name_cmp c.args.names.now x)) c.in_ok-name_of.ensures c.in_ok-insert.ensures.updates.0 in
    let others : (x : Name)
    → contains name_cmp c.forget_other.new.names x
    ≡ (
    contains name_cmp c.insert.new.self x
    && (
    not (eq_by_cmp name_cmp (name_of c.in-Ok-Some.old) x)
    || (c.in-Ok-Some.old.id == e.id && c.in-Ok-Some.old.offset == e.offset))) =
    subst (λ (o : Entry). (x : Name)
    → contains name_cmp c.forget_other.new.names x
    ≡ (
    contains name_cmp c.insert.new.self x
    && (not (eq_by_cmp name_cmp (name_of c.in-Ok-Some.old) x)
    || (c.in-Ok-Some.old.id == o.id && c.in-Ok-Some.old.offset == o.offset)))) c.own-own.ensures c.forget_other.ensures in
    named-over m c.insert-2.new.self c.args.names.now c.requires.placed c.requires.named
    e at c.insert.new.self c.forget_other.new.names c.in-Ok-Some.old was added others

pub returns-in-Err-clause-still_named : goal.returns-in-Err-clause-still_named
returns-in-Err-clause-still_named c = λ n.
    let m = c.args.entries.now in
    let e = c.args.entry in
    let none : entry_at m (place_of e) ≡ None = ap (entry_at m) (sym c.in_ok-place.ensures.place) ∙ c.in-Err.ensures.absent in
    let added : (x : Name)
    → contains name_cmp c.insert.new.self x ≡ cond (eq_by_cmp name_cmp (name_of e) x) true (contains name_cmp c.args.names.now x) =
    subst (λ y. (x : Name)
    → contains name_cmp c.insert.new.self x
    ≡ cond (eq_by_cmp name_cmp y x) true
    (contains name_cmp c.args.names.now x)) c.in_ok-name_of.ensures c.in_ok-insert.ensures.updates.0 in
    let gone : (x : Name)
    → contains name_cmp c.forget.new.names x ≡ cond (eq_by_cmp name_cmp (name_of e) x) false (contains name_cmp c.insert.new.self x) =
    subst (λ (y : Place × Entry). (x : Name)
    → contains name_cmp c.forget.new.names x
    ≡ cond (eq_by_cmp name_cmp (name_of y.1) x) false
    (contains name_cmp c.insert.new.self x)) c.in-Err.ensures.value_returned c.forget.ensures in
    named-back m m c.args.names.now c.requires.placed c.requires.named e c.insert.new.self c.forget.new.names none added gone n
    ∙ ap (λ (es : List (Place × Entry)). option_map_or (λ e. eq_by_cmp name_cmp (name_of e) n) (lookup (is_at (place_cmp n.2)) es) false)
    (sym c.in-Err.ensures.err)
