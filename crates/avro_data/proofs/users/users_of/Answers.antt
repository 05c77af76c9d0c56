use Rattle.std.proofs.Common.{◌≡◌, List, get_or, length, Contains, Some, slice_get, refl, sym, subst}
use Rattle.std.specs.Global.{Vec}
use Rattle.std.proofs.lemmas.Option.{slice_get_read, slice_get-get_or}
use Rattle.avro_schema.specs.declared.node.NodeId.{NodeId}
use Rattle.avro_data.specs.Users.{HasUser, AreUsersOf}
use Rattle.avro_data.proofs.Building.{if_ok}
use Rattle.avro_data.proofs.UserLaws.{all_of, users_step, users_skip}
use Rattle.avro_data.proofs.users.users_of.Goals as goal
use Rattle.avro_data.proofs.users.users_of.Goals.{then-of-users+in_ok-add_all, else-of-users}

pub loop-of-preserved : goal.loop-of-preserved
loop-of-preserved c =
    let l = c.loop-of in
    let given = c.args.given.now in
    let x : NodeId = get_or given l.of-index (record { index = 0 }) in
    let at : slice_get given l.of-index ≡ Some x = slice_get-get_or given l.of-index (record { index = 0 }) c.loop-of-test.true in
    let users = c.args.users.now in
    elim c.if-of-users.branch [
      | then-of-users+in_ok-add_all w ↦
          users_step users given l.of-index x at w.index-users-of.result (
          slice_get_read users (length users) x.index w.index-users-of.result refl w.if-of-users.true w.index-users-of.is)
          l.found.items c.if-of-users.found.items l.invariant
          (λ i has. subst (λ (v : Vec NodeId). Contains v.items i) (sym w.found-is) (w.in_ok-add_all.ensures.kept i has))
          (λ i has.
          subst (λ (v : Vec NodeId). Contains v.items i) (sym w.found-is)
          (w.in_ok-add_all.ensures.added i (subst (λ (xs : List NodeId). Contains xs i) (sym w.as_slice.ensures.value) has)))
      | else-of-users w ↦
          users_skip users given l.of-index x at w.if-of-users.false c.if-of-users.found.items
          (λ n j i lt here has. subst (λ (v : Vec NodeId). Contains v.items i) (sym w.found-is) (l.invariant n j i lt here has))
    ]

pub returns : goal.returns
returns c =
    let found = c.loop-of.found.items in
    let users = c.args.users.now in
    let given = c.args.given.now in
    if_ok c.once_each.result (λ once. (i : NodeId) → Contains found i → Contains once.items i) (λ once. AreUsersOf users given once.items)
    (λ once kept j i has uses.
    kept i (
    all_of given c.loop-of.of-index (λ x. HasUser users x i → Contains found i) c.loop-of-test.false
    (λ n x lt at x_has. c.loop-of.invariant n x i lt at x_has) j has uses))
    c.once_each.ensures
