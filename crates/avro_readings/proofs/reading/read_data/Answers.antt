use Rattle.std.proofs.Common.{◌≡◌, true, option_map, sym, ap, ◌∙◌, subst, arith, rules}
use Rattle.std.proofs.lemmas.Grind.{common_steps}
use Rattle.avro_resolve.specs.Trails.{roots}
use Rattle.avro_data.specs.Fits.{fits}
use Rattle.avro_data.specs.View.{view}
use Rattle.avro_readings.specs.declared.room.Halt.TheVariants.{TooLarge}
use Rattle.avro_readings.specs.Reads.{pair, reads}
use Rattle.avro_readings.specs.Room.{value_room, IsHalt}
use Rattle.avro_readings.proofs.RoomLaws.{too_large}
use Rattle.avro_readings.proofs.reading.read_data.Goals as goal

pub returns-then-branch-clause-refused : goal.returns-then-branch-clause-refused
returns-then-branch-clause-refused c =
    let r = c.args.r.now.nodes in
    let w = c.args.w.now.nodes in
    let v = view c.args.given.now in
    let e = c.in-Err-TooLarge.field-0 in
    let fit : fits w roots.writer v ≡ true = first_of (search rules, grind (arith, common_steps)) in
    let is : e ≡ TooLarge = first_of (search rules, grind (arith, common_steps)) in
    let same : pair c.root-2.result c.root-3.result ≡ roots =
    ap (λ i. pair i c.root-3.result) c.root-2.ensures.first ∙ ap (pair (record { index = 0 })) c.root-3.ensures.first in
    let halted : IsHalt c.whole.result (option_map value_room (reads r w roots v)) e =
    subst (λ p. IsHalt c.whole.result (option_map value_room (reads r w p v)) e) same c.in-Err-TooLarge.ensures.halted in
    let yes : c.in_ok-can_read-in-Err-TooLarge.field-0 ≡ true = first_of (search rules, grind (arith, common_steps)) in
    let found =
    too_large c.whole.result (reads r w roots v) e c.whole.ensures is halted (sym c.in_ok-can_read-in-Err-TooLarge.ensures ∙ yes) in
    (fit, found.0, found.1, found.2)
