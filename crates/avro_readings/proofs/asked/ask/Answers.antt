use Rattle.std.proofs.Common.{◌≡◌, ℕ, List, [], ◌∷◌, ◌++◌, ◌<◌, ◌&&◌, true, Some, length}
use Rattle.std.proofs.Common.{map, set, option_map, slice_get, sym, ap, ◌∙◌, arith}
use Rattle.std.specs.Option.{option_map_or}
use Rattle.std.proofs.lemmas.List.{map-set}
use Rattle.std.proofs.lemmas.Option.{slice_get-map, slice_get-get_or}
use Rattle.avro_readings.specs.Readable.{lists_pass, place_read}
use Rattle.avro_readings.proofs.ReadableLaws.{one_asked, place_within}
use Rattle.avro_readings.proofs.asked.ask.Goals as goal

pub returns-in_ok-push-clause-asked : goal.returns-in_ok-push-clause-asked
returns-in_ok-push-clause-asked c = λ test.
    let k = c.in-Some.k in
    let i = c.args.field.now.node.index in
    let before = c.args.asked.now.items in
    let lists : List (List ℕ) = map (λ x. x.items) before in
    let is = c.index_mut.result.now.items in
    let reads : Some k ≡ place_read c.args.others.now c.args.field.now = sym c.in-Some.is ∙ c.place_read.ensures in
    let below : k < length c.args.others.now = place_within c.args.others.now c.args.field.now k (sym reads) in
    let inside : k < length before = omega (arith, below, c.requires) in
    let at : slice_get lists k ≡ Some is =
    slice_get-map (λ x. x.items) before k
    ∙ ap (option_map (λ x. x.items))
    (slice_get-get_or before k c.index_mut.result.now inside ∙ ap Some (sym c.index_mut.ensures.value)) in
    let grown : c.push.new.self.items ≡ is ++ i ∷ [] = c.in_ok-push.ensures.items in
    ap (lists_pass test 0) (map-set (λ x. x.items) before k c.push.new.self ∙ ap (set lists k) grown)
    ∙ one_asked test lists 0 k i is at
    ∙ ap (λ b. lists_pass test 0 lists && b) (ap (λ m. test m i) (omega arith) ∙ ap (λ o. option_map_or (λ m. test m i) o true) reads)
