use Rattle.std.proofs.Common.{◌≡◌, ◌+◌, ◌++◌, ◌∷◌, [], ◌∙◌, List, ℕ, Option, take, sym, ap, arith, length-take}
use Rattle.std.proofs.lemmas.Grind.{common_steps}
use Rattle.std.proofs.lemmas.List.{take_more}
use Rattle.std.specs.BTreeMap.{get}
use Rattle.std.specs.Option.{unwrap_or}
use Rattle.reg_inspection.specs.Foreign.{count_of, keytype_cmp, tally_of}
use Rattle.reg_inspection.proofs.Tallies.{exact, few_times, keytypes_total, tally_more, times_more}
use Rattle.reg_inspection.proofs.foreign.tally_of.Goals as goal

pub overflow_add-count : goal.overflow_add-count
overflow_add-count c =
    let xs = take c.loop-keytype.keytype-index c.args.keytypes.now in
    let x = c.keytype-item.result in
    let count : c.unwrap_or-count.result ≡ count_of xs x =
    c.unwrap_or-count.ensures
    ∙ ap (λ (o : Option ℕ). unwrap_or o 0) (c.copied.ensures ∙ c.get.ensures.value)
    ∙ c.loop-keytype.invariant.counts x in
    omega (arith, count, few_times keytype_cmp keytypes_total exact xs x, length-take c.loop-keytype.keytype-index c.args.keytypes.now)

pub loop-keytype-preserved : goal.loop-keytype-preserved
loop-keytype-preserved c =
    let i = c.loop-keytype.keytype-index in
    let xs = take i c.args.keytypes.now in
    let x = c.keytype-item.result in
    let copy = c.in_ok-clone.field-0 in
    let same : copy ≡ x = grind (arith, common_steps) in
    let n = c.unwrap_or-count.result + 1 in
    let count : c.unwrap_or-count.result ≡ count_of xs x =
    c.unwrap_or-count.ensures
    ∙ ap (λ (o : Option ℕ). unwrap_or o 0) (c.copied.ensures ∙ c.get.ensures.value)
    ∙ c.loop-keytype.invariant.counts x in
    let counts : n ≡ count_of xs copy + 1 = ap (λ (m : ℕ). m + 1) (count ∙ ap (count_of xs) (sym same)) in
    let more : xs ++ copy ∷ [] ≡ take (i + 1) c.args.keytypes.now =
    ap (λ (k : Option (List ℕ)). xs ++ k ∷ []) (same ∙ c.keytype-item.is)
    ∙ sym (take_more c.args.keytypes.now i x c.loop-keytype-test.true) in
    record {
      entries = c.in_ok-insert.ensures.entries
          ∙ tally_more keytype_cmp keytypes_total exact xs copy n counts c.loop-keytype.tally.entries
          c.loop-keytype.invariant.entries c.in_ok-insert.ensures.was_ordered
          ∙ ap tally_of more;
      counts =
          λ q.
          times_more keytype_cmp keytypes_total exact xs copy q n (get keytype_cmp c.loop-keytype.tally q)
          (get keytype_cmp c.insert.new.self q) counts (c.loop-keytype.invariant.counts q) (c.in_ok-insert.ensures.updates.0 q)
          ∙ ap (λ (l : List (Option (List ℕ))). count_of l q) more;
    }
