use Rattle.std.proofs.Common.{◌≡◌, [], ◌∷◌, ◌++◌, sym, ap, ◌∙◌, subst, append_assoc, append-nil}
use Rattle.std.proofs.lemmas.List.{nil_from_length}
use Rattle.serde_json.specs.Data.{put}
use Rattle.json_tree.specs.Members.{IsInOrder}
use Rattle.json_tree.specs.View.{Entry, view, members_view}
use Rattle.json_tree.proofs.Order.{put_last}
use Rattle.json_tree.proofs.Views.{members_view-insert_entry}
use Rattle.json_tree.proofs.members.same_map.Goals as goal

pub loop-name-preserved : goal.loop-name-preserved
loop-name-preserved c =
    let l = c.loop-name in
    let done = l.invariant.0 in
    let e : Entry = (c.in-Some.name, c.in-Some.value) in
    let left = c.next.new.self.rest.items in
    let all : c.args.members.items ≡ done ++ e ∷ left = l.invariant.1 ∙ ap (λ es. done ++ es) c.in-Some.ensures.steps.0 in
    let last = put_last done e left (subst (λ es. IsInOrder (members_view es)) all c.requires) in (
      done ++ e ∷ [],
      all ∙ sym (append_assoc done (e ∷ []) left),
      ap members_view c.in_ok-insert.ensures.entries
          ∙ members_view-insert_entry l.map.entries c.in-Some.name c.in-Some.value
          ∙ ap (put c.in-Some.name.now (view c.in-Some.value)) l.invariant.2
          ∙ last,
    )

pub returns : goal.returns
returns c =
    let l = c.loop-name in
    let left = l.name-iterator.rest.items in
    let over : left ≡ [] = nil_from_length left (sym l.name-iterator.rest.ok.0 ∙ c.in-None.ensures.steps.0) in
    l.invariant.2 ∙ ap members_view (sym (l.invariant.1 ∙ ap (λ es. l.invariant.0 ++ es) over ∙ append-nil l.invariant.0))
