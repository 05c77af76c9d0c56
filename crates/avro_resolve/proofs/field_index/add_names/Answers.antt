use Rattle.std.proofs.Common.{◌≡◌, suc, refl, ◌+◌, ◌∙◌, ◌∷◌, Some, length, arith, ap, sym, slice_get}
use Rattle.std.proofs.lemmas.Option.{slice_get_read}
use Rattle.avro_resolve.proofs.FieldIndexes.{holders_more, holders_next}
use Rattle.avro_resolve.proofs.field_index.add_names.Goals as goal

pub loop-k-init : goal.loop-k-init
loop-k-init c =
    let f = c.args.f.now in
    holders_more c.args.«_fields».now c.args.field 0 f c.args.holders.now c.add_name.new.holders c.requires.before
    c.requires.field f.name refl c.in_ok-add_name.ensures.here c.in_ok-add_name.ensures.others

pub loop-k-preserved : goal.loop-k-preserved
loop-k-preserved c =
    let f = c.args.f.now in
    let k = c.loop-k.k in
    let n = c.alias-item.result in
    let at : slice_get f.aliases k ≡ Some n =
    ap (λ l. slice_get l k) (sym c.as_slice-alias-items.ensures)
    ∙ slice_get_read c.as_slice-alias-items.result.now
    (length c.as_slice-alias-items.result.now) k n refl c.loop-k-test.true c.alias-item.is in
    let e : k + 1 ≡ suc k = omega arith in
    holders_more c.args.«_fields».now c.args.field (k + 1) f c.loop-k.holders c.add_name-in-loop-k.new.holders c.loop-k.invariant
    c.requires.field n (ap (slice_get (f.name ∷ f.aliases)) e ∙ at) c.in_ok-add_name-2.ensures.here c.in_ok-add_name-2.ensures.others

pub returns : goal.returns
returns c =
    holders_next c.args.«_fields».now c.args.field (c.loop-k.k + 1) c.args.f.now c.loop-k.holders c.requires.field
    (let e : length c.as_slice-alias-items.result.now ≡ length c.args.f.now.aliases = ap length c.as_slice-alias-items.ensures in
    omega (arith, e, c.loop-k-test.false)) c.loop-k.invariant
