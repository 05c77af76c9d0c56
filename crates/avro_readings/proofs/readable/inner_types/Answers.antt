use Rattle.std.proofs.Common.{◌≡◌, ◌+◌, [], ◌∷◌, ◌++◌, drop, get_or, Some, option_map, sym, ap, ◌∙◌, arith}
use Rattle.std.proofs.lemmas.List.{drop_more, drop_all, append-nil}
use Rattle.avro_readings.specs.Readable as spec
use Rattle.avro_readings.proofs.ReadableLaws.{none_before, types_last, types_none}
use Rattle.avro_readings.proofs.readable.inner_types.Goals as goal

pub loop-reader-init : goal.loop-reader-init
loop-reader-init c = none_before (spec.inner_types c.args.r.now.nodes c.args.w.now.nodes c.args.j c.args.readers.now)
    ∙ ap (λ ys. option_map (λ ts. ys ++ ts) (spec.inner_types c.args.r.now.nodes c.args.w.now.nodes c.args.j c.args.readers.now))
    (sym c.new-types.ensures.items)

pub loop-reader-preserved : goal.loop-reader-preserved
loop-reader-preserved c =
    let l = c.loop-reader in
    let all = c.args.readers.now in
    let x = get_or all l.reader-index 0 in
    let here : drop l.reader-index all ≡ x ∷ drop (l.reader-index + 1) all = drop_more all l.reader-index 0 (omega arith) in
    let inner : spec.inner_type c.args.r.now.nodes c.args.w.now.nodes (spec.pair_of x c.args.j) ≡ c.inner_type.result =
    ap (spec.inner_type c.args.r.now.nodes c.args.w.now.nodes) (sym c.pair_of.ensures) ∙ sym c.inner_type.ensures in
    l.invariant
    ∙ ap (λ is. option_map (λ ts. l.types.items ++ ts) (spec.inner_types c.args.r.now.nodes c.args.w.now.nodes c.args.j is)) here
    ∙ types_last c.args.r.now.nodes c.args.w.now.nodes c.args.j l.types.items x c.in-Some.inner
    (drop (l.reader-index + 1) all) (inner ∙ c.in-Some.is)
    ∙ ap
    (λ ys.
    option_map (λ ts. ys ++ ts) (spec.inner_types c.args.r.now.nodes c.args.w.now.nodes c.args.j (drop (l.reader-index + 1) all)))
    (sym c.in_ok-push-in-Some.ensures.items)

pub returns-in-None : goal.returns-in-None
returns-in-None c =
    let l = c.loop-reader in
    let all = c.args.readers.now in
    let x = get_or all l.reader-index 0 in
    let here : drop l.reader-index all ≡ x ∷ drop (l.reader-index + 1) all = drop_more all l.reader-index 0 (omega arith) in
    let inner : spec.inner_type c.args.r.now.nodes c.args.w.now.nodes (spec.pair_of x c.args.j) ≡ c.inner_type.result =
    ap (spec.inner_type c.args.r.now.nodes c.args.w.now.nodes) (sym c.pair_of.ensures) ∙ sym c.inner_type.ensures in
    sym (l.invariant
    ∙ ap (λ is. option_map (λ ts. l.types.items ++ ts) (spec.inner_types c.args.r.now.nodes c.args.w.now.nodes c.args.j is)) here
    ∙ types_none c.args.r.now.nodes c.args.w.now.nodes c.args.j l.types.items x (drop (l.reader-index + 1) all) (inner ∙ c.in-None.is))

pub returns : goal.returns
returns c =
    let l = c.loop-reader in
    let all = c.args.readers.now in
    let none : drop l.reader-index all ≡ [] = drop_all l.reader-index all c.loop-reader-test.false in
    sym (l.invariant
    ∙ ap (λ is. option_map (λ ts. l.types.items ++ ts) (spec.inner_types c.args.r.now.nodes c.args.w.now.nodes c.args.j is)) none
    ∙ ap Some (append-nil l.types.items))
