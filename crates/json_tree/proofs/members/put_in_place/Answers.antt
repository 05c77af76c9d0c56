use Rattle.std.proofs.Common.{◌≡◌, ◌-◌, get_or, bytes_eq, true, false, ◌<◌, sym, ap, ◌∙◌, subst, arith, rules}
use Rattle.std.proofs.lemmas.Slice.Eq.{bytes_eq-Decides}
use Rattle.std.specs.List.{insert}
use Rattle.serde_json.specs.Data.{put}
use Rattle.json_tree.specs.Members.{IsInOrder}
use Rattle.json_tree.specs.View.{Entry, view, members_view}
use Rattle.json_tree.proofs.Order.{IsInOrder-put, put_replaces, put_between, greater}
use Rattle.json_tree.proofs.members.put_in_place.Goals as goal
use Rattle.json_tree.proofs.members.put_in_place.Goals.{else-place-gt0-via-then-place-gt0+else-eq, else-place-gt0-via-else-place-gt0}

pub returns-then-eq-clause-value : goal.returns-then-eq-clause-value
returns-then-eq-clause-value c =
    let xs = c.args.members.now.items in
    let i = c.place_of-place.result - 1 in
    let d = c.index.result.now in
    let same : bytes_eq c.args.name.now d.0.now ≡ true = grind arith in
    let stands : c.args.name.now ≡ (get_or xs i d).0.now =
    (bytes_eq-Decides c.args.name.now d.0.now).0 same ∙ ap (λ (e : Entry). e.0.now) c.index.ensures in
    put_replaces c.args.name c.args.value d xs i (omega arith) c.requires stands

pub returns-then-eq-clause-order : goal.returns-then-eq-clause-order
returns-then-eq-clause-order c =
    subst IsInOrder (sym (returns-then-eq-clause-value c)) (IsInOrder-put c.args.name.now (view c.args.value) _ c.requires)

-- a new name goes to its place; d stands for an entry beyond the ends
placed : (c : goal.In_ok-insert) (d : Entry)
    → (0 < c.place_of-place.result
    → bytes_eq c.args.name.now (get_or c.args.members.now.items (c.place_of-place.result - 1) d).0.now ≡ false)
    → members_view (insert c.args.members.now.items c.place_of-place.result (c.args.name, c.args.value))
    ≡ put c.args.name.now (view c.args.value) (members_view c.args.members.now.items)
placed c d other =
    let i = c.place_of-place.result in
    let last =
    λ (some : 0 < i). greater c.args.name.now _ (rw c.deref.ensures.value at (c.place_of-place.ensures.before d some)) (other some) in
    put_between c.args.name c.args.value d c.args.members.now.items i (omega arith) c.requires last
    (rw c.deref.ensures.value at (c.place_of-place.ensures.after d))

pub returns-in_ok-insert-clause-value : goal.returns-in_ok-insert-clause-value
returns-in_ok-insert-clause-value c =
    let inserted : c.insert.new.self.items ≡ insert c.args.members.now.items c.place_of-place.result (c.args.name, c.args.value) =
    search rules in
    ap members_view inserted
    ∙ elim c.else-place-gt0.branch [
      | else-place-gt0-via-then-place-gt0+else-eq w ↦
          let other : bytes_eq c.args.name.now w.index.result.now.0.now ≡ false = grind arith in
          placed c w.index.result.now (λ some. rw (← w.index.ensures) other)
      | else-place-gt0-via-else-place-gt0 w ↦ placed c (c.args.name, c.args.value) (λ some. absurd (omega arith))
    ]

pub returns-in_ok-insert-clause-order : goal.returns-in_ok-insert-clause-order
returns-in_ok-insert-clause-order c =
    subst IsInOrder (sym (returns-in_ok-insert-clause-value c)) (IsInOrder-put c.args.name.now (view c.args.value) _ c.requires)
