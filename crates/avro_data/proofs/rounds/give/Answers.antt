use Rattle.std.proofs.Common.{◌≡◌, ◌+◌, List, ◌∷◌, ◌++◌, [], get_or, set, Option, Some, slice_get, refl, sym, ◌∙◌, ap, subst}
use Rattle.std.specs.Global.{Vec}
use Rattle.std.proofs.lemmas.Option.{slice_get-get_or}
use Rattle.avro_schema.specs.declared.node.NodeId.{NodeId}
use Rattle.avro_data.specs.declared.outline.Outline.{Outline}
use Rattle.avro_data.specs.declared.outline.Given.{Given}
use Rattle.avro_data.specs.Rounds.{outline_now}
use Rattle.avro_data.proofs.Giving.{IsGiving, none_given, one_given, all_given}
use Rattle.avro_data.proofs.rounds.give.Goals as goal
use Rattle.avro_data.proofs.rounds.give.Goals.{in-Some+in_ok-push, in_default}

pub loop-id-preserved : goal.loop-id-preserved
loop-id-preserved c =
    let l = c.loop-id in
    let ids = c.args.candidates.now in
    let x : NodeId = get_or ids l.id-index (record { index = 0 }) in
    let at : slice_get ids l.id-index ≡ Some x = slice_get-get_or ids l.id-index (record { index = 0 }) c.loop-id-test.true in
    let nodes = c.args.schema.now.nodes in
    let m = c.args.round in
    let now : outline_now nodes l.table.items m x ≡ c.outline_now.result =
    ap (λ t. outline_now nodes t m x) (sym c.as_slice.ensures.value) ∙ sym c.outline_now.ensures in
    elim c.match-outline_now.branch [
      | in-Some+in_ok-push w ↦
          let o : Outline = w.in-Some.outline in
          let made : Given = record { round = m + 1; outline = o } in
          let step : IsGiving nodes c.args.table.now.items m ids (l.id-index + 1)
          (set l.table.items x.index (Some made)) (l.given.items ++ x ∷ []) =
          one_given nodes c.args.table.now.items m ids l.id-index l.table.items l.given.items l.invariant x o
          (now ∙ w.in-Some.is) made refl at in
          let table_is : c.match-outline_now.table.items ≡ set l.table.items x.index (Some made) =
          ap (λ (v : Vec (Option Given)). v.items) w.table-is in
          let given_is : c.match-outline_now.given.items ≡ l.given.items ++ x ∷ [] =
          ap (λ (v : Vec NodeId). v.items) w.given-is ∙ w.in_ok-push.ensures.items in
          subst
          (λ (t : List (Option Given)). IsGiving nodes c.args.table.now.items m ids (l.id-index + 1) t c.match-outline_now.given.items)
          (sym table_is)
          (subst
          (λ (g : List NodeId). IsGiving nodes c.args.table.now.items m ids (l.id-index + 1) (set l.table.items x.index (Some made)) g)
          (sym given_is) step)
      | in_default w ↦
          let step : IsGiving nodes c.args.table.now.items m ids (l.id-index + 1) l.table.items l.given.items =
          none_given nodes c.args.table.now.items m ids l.id-index l.table.items l.given.items l.invariant x at (now ∙ w.in_default.is) in
          let table_is : c.match-outline_now.table.items ≡ l.table.items = ap (λ (v : Vec (Option Given)). v.items) w.table-is in
          let given_is : c.match-outline_now.given.items ≡ l.given.items = ap (λ (v : Vec NodeId). v.items) w.given-is in
          subst
          (λ (t : List (Option Given)). IsGiving nodes c.args.table.now.items m ids (l.id-index + 1) t c.match-outline_now.given.items)
          (sym table_is)
          (subst (λ (g : List NodeId). IsGiving nodes c.args.table.now.items m ids (l.id-index + 1) l.table.items g) (sym given_is) step)
    ]

pub returns-clause-next : goal.returns-clause-next
returns-clause-next c =
    all_given c.args.schema.now.nodes c.args.table.now.items c.args.round c.args.candidates.now c.loop-id.id-index
    c.loop-id.table.items c.loop-id.given.items c.loop-id-test.false c.requires.candidates c.loop-id.invariant
