use Rattle.std.proofs.Common.{◌≡◌, ℕ, ◌-◌, ◌<◌, ◌≤◌, false, List, length, map, bytes_eq, get_or}
use Rattle.named_list.specs.Index.{names_at}
use Rattle.named_list.proofs.lookup.place_in_order.Given as goal

abbrev pub invariant-loop-low : goal.invariant-loop-low
invariant-loop-low g l =
    let ordered = names_at (map g.T.Named.name l.items) l.by_hash in record {
      in_turn : l.low ≤ l.high;
      within : l.high ≤ length l.by_hash;
      below : (k : ℕ) (d : List ℕ) → k < l.low → bytes_eq (get_or ordered k d) l.name ≡ false;
      above : (k : ℕ) (d : List ℕ) → l.high ≤ k → k < length l.by_hash → bytes_eq (get_or ordered k d) l.name ≡ false;
    }

abbrev pub decreases-loop-low : goal.decreases-loop-low
decreases-loop-low g l = l.high - l.low
