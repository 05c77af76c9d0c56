-- What a view was told of.
use Rattle.std.proofs.Common.{◌≡◌, List, [], ◌++◌, sym, ap, subst, ◌∙◌, append_assoc}
use Rattle.std.proofs.lemmas.List.{append-nil}
use mathlib.Core.List.{IsPrefix}
use Rattle.reg_floored.specs.Compaction.{IsCompactionOf}
use Rattle.reg_topic.specs.declared.published.Item.{Item}
use Rattle.reg_shared.specs.Held.{Held, topic_at}
use Rattle.reg_node.specs.Takes.{taken_set}
use Rattle.reg_topic.specs.Topic.{whole_log}
use Rattle.reg_node.specs.declared.take.Draw.{Draw}
use Rattle.reg_desk.specs.Desk.{IsFresh}

pub prefix_self : {A : Type 0} (xs : List A) → IsPrefix xs xs
prefix_self xs = ([], append-nil xs)

pub prefix_trans : {A : Type 0} (xs ys zs : List A) → IsPrefix xs ys → IsPrefix ys zs → IsPrefix xs zs
prefix_trans xs ys zs p q = (p.0 ++ q.0, sym (append_assoc xs p.0 q.0) ∙ (ap (λ w. w ++ q.0) p.1 ∙ q.1))

pub is_fresh : (first : Held) (seen front : List Item) (told all view : List Draw) → IsPrefix seen front → told ≡ all
    → IsPrefix told view → IsCompactionOf (taken_set all) (whole_log (topic_at first front)) → IsFresh first seen view
is_fresh first seen front told all view later same shown whole = record {
  told = told;
  front = front;
  shown = shown;
  later = later;
  whole = subst (λ (ts : List Draw). IsCompactionOf (taken_set ts) (whole_log (topic_at first front))) (sym same) whole;
}

-- what was shown stays shown
pub still_fresh : (first : Held) (seen : List Item) (view more : List Draw)
    → IsFresh first seen view → IsPrefix view more → IsFresh first seen more
still_fresh first seen view more f p = record {
  told = f.told;
  front = f.front;
  shown = prefix_trans f.told view more f.shown p;
  later = f.later;
  whole = f.whole;
}
