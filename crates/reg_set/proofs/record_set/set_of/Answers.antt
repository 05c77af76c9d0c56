use Rattle.std.proofs.Common.{◌<◌, length, map, sym, ap, ◌∙◌, arith}
use Rattle.std.proofs.lemmas.List.{take_all}
use Rattle.std.proofs.lemmas.List.Sorted.{IsPermutation-map}
use Rattle.std.specs.FinSet.{from_list, insert}
use Rattle.reg_set.proofs.Unions.{from_list-permuted, from_list-more}
use Rattle.reg_set.proofs.record_set.set_of.Goals as goal

pub loop-record-init : goal.loop-record-init
loop-record-init c = c.new-found.ensures.empty

pub loop-record-preserved : goal.loop-record-preserved
loop-record-preserved c =
    let xs = c.deref-record-items.result.now in
    let i = c.loop-record.record-index in
    let within : i < length xs = omega arith in
    c.in_ok-take.ensures.added ∙ ap (λ s. insert s c.record-item.result.now) c.loop-record.invariant
    ∙ from_list-more xs i c.record-item.result within c.record-item.is

pub returns : goal.returns
returns c =
    let xs = c.deref-record-items.result.now in
    c.loop-record.invariant
    ∙ ap (λ l. from_list (map (λ r. r.now) l)) (take_all c.loop-record.record-index xs (omega arith) ∙ c.deref-record-items.ensures.value)
    ∙ sym (from_list-permuted _ _ (IsPermutation-map (λ r. r.now) _ _ c.put_in_turn.ensures))
