use Rattle.std.proofs.Common.{◌≡◌, length, Some, slice_get, refl, arith}
use Rattle.std.proofs.lemmas.Option.{slice_get_read}
use Rattle.avro_data.proofs.UserLaws.{list_grown, list_has}
use Rattle.avro_data.proofs.users.add_user.Goals as goal

pub returns-in_ok-add-clause-grown : goal.returns-in_ok-add-clause-grown
returns-in_ok-add-clause-grown c =
    let old = c.index_mut-list.result.now in
    let at : slice_get c.args.users.now.items c.args.of.index ≡ Some old =
    slice_get_read c.args.users.now.items (length c.args.users.now.items) c.args.of.index old refl
    (let is = c.len.ensures in omega (arith, c.args.users.now.ok)) c.index_mut-list.ensures.value in
    list_grown c.args.users.now.items c.args.of.index old c.add.new.list at c.in_ok-add.ensures.kept

pub returns-in_ok-add-clause-added : goal.returns-in_ok-add-clause-added
returns-in_ok-add-clause-added c =
    let old = c.index_mut-list.result.now in
    let at : slice_get c.args.users.now.items c.args.of.index ≡ Some old =
    slice_get_read c.args.users.now.items (length c.args.users.now.items) c.args.of.index old refl
    (let is = c.len.ensures in omega (arith, c.args.users.now.ok)) c.index_mut-list.ensures.value in
    λ within.
    list_has c.args.users.now.items c.args.of.index old c.add.new.list at
    c.in_ok-add.ensures.kept c.args.of c.args.user refl c.in_ok-add.ensures.added
