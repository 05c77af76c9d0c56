-- The buckets of a histogram rise.
use Rattle.std.proofs.Common.{◌≡◌, ◌+◌, ◌∷◌, [], ℕ, List, subst, arith, zero-add}
use Rattle.std.specs.Prelude.{sum}
use Rattle.exposition.specs.declared.label.LabelPair.{LabelPair}
use Rattle.exposition.specs.Numbers.{whole}
use Rattle.exposition.specs.Page.{bucket_lines}
use Rattle.exposition.specs.Rising.{BucketsRise, RisesBetween}
use Rattle.exposition.proofs.PagesRead.{sum-cons}

rises_between : (name : List ℕ) (ls : List LabelPair) (below : ℕ) (bs cs : List ℕ)
    → RisesBetween (whole below) (whole (below + sum cs)) (bucket_lines name ls below bs cs)
rises_between name ls below [] cs = omega arith
rises_between name ls below (b ∷ bs) [] = omega arith
rises_between name ls below (b ∷ bs) (c ∷ cs) =
    let all = sum-cons c cs in
    let same : (below + c) + sum cs ≡ below + sum (c ∷ cs) = omega arith in
    let more = rises_between name ls (below + c) bs cs in
    (omega arith, subst (λ n. RisesBetween (whole (below + c)) (whole n) (bucket_lines name ls (below + c) bs cs)) same more)

pub all_rise : BucketsRise
all_rise name s =
    subst (λ n. RisesBetween 0 (whole n) (bucket_lines name s.labels 0 s.bounds s.counts)) (zero-add (sum s.counts))
    (rises_between name s.labels 0 s.bounds s.counts)
