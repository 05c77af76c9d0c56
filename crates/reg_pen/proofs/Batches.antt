-- How many of a list's items are batches.
use Rattle.std.proofs.Common.{◌≡◌, ◌+◌, ◌≤◌, List, [], ◌∷◌, ◌++◌, length, refl, ap, arith}
use Rattle.reg_topic.specs.declared.published.Item.{Item}
use Rattle.reg_topic.specs.declared.published.Item.TheVariants as items
use Rattle.reg_pen.specs.Pen.{batches}
use Rattle.reg_pen.specs.Pending.{IsPending, batches_in}
use Rattle.reg_pen.specs.declared.pen.Pending.{Pending}
use Rattle.reg_pen.specs.declared.pen.Pending.TheVariants.{Nothing, Batch, Lost, Compaction}

pub batches_length : (is : List Item) → batches is ≤ length is
batches_length [] = omega arith
batches_length (items.Commit commit ∷ is) = omega (arith, batches_length is)
batches_length (items.Compaction c ∷ is) = omega (arith, batches_length is)

batches_append : (is js : List Item) → batches (is ++ js) ≡ batches is + batches js
batches_append [] js = omega arith
batches_append (items.Commit commit ∷ is) js = omega (arith, batches_append is js)
batches_append (items.Compaction c ∷ is) js = batches_append is js

pending_batches : (p : Pending) (is : List Item) → IsPending p is → batches is ≡ batches_in p
pending_batches Nothing is h = ap batches h
pending_batches (Batch n) [] h = absurd h
pending_batches (Batch n) (items.Commit commit ∷ []) h = refl
pending_batches (Batch n) (items.Commit commit ∷ j ∷ is) h = absurd h
pending_batches (Batch n) (items.Compaction c ∷ is) h = absurd h
pending_batches (Lost n) [] h = absurd h
pending_batches (Lost n) (items.Commit commit ∷ []) h = refl
pending_batches (Lost n) (items.Commit commit ∷ j ∷ is) h = absurd h
pending_batches (Lost n) (items.Compaction c ∷ is) h = absurd h
pending_batches Compaction [] h = absurd h
pending_batches Compaction (items.Compaction c ∷ []) h = refl
pending_batches Compaction (items.Compaction c ∷ j ∷ is) h = absurd h
pending_batches Compaction (items.Commit commit ∷ is) h = absurd h

pub with_pending : (p : Pending) (is js : List Item) → IsPending p js → batches (is ++ js) ≡ batches is + batches_in p
with_pending p is js h = omega (arith, batches_append is js, pending_batches p js h)
