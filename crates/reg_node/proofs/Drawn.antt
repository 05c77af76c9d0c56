-- Draws from fronts of the topic's list.
use Rattle.std.proofs.Common.{◌≡◌, ℕ, true, List, [], ◌∷◌, ◌++◌, Option, Some, None, length, fold, refl, sym, ap, ◌∙◌, append_assoc}
use Rattle.std.proofs.lemmas.List.{append-nil}
use Rattle.std.proofs.lemmas.List.Sums.{fold-append}
use Rattle.std.specs.FinSet.{contains, empty}
use Rattle.std.specs.List.{list_all}
use mathlib.Core.List.{IsPrefix}
use Rattle.reg_records.specs.declared.record.Record.{Record}
use Rattle.reg_set.specs.Records.{Records}
use Rattle.reg_topic.specs.declared.published.Item.{Item}
use Rattle.reg_shared.specs.Held.{Held, topic_at}
use Rattle.reg_floored.specs.Floored.{Floored}
use Rattle.reg_node.specs.Takes.{AreDrawn, AreDrawnFrom, IsBasis, draws_of, floor_of, floor_with, taken, takes_of, with_draw}
use Rattle.reg_node.specs.declared.take.Draw.{Draw}
use Rattle.reg_node.specs.declared.take.Draw.TheVariants as draws
use Rattle.reg_node.proofs.Members.{both_true}
use Rattle.reg_node.proofs.Prefixes.{prefix_self, prefix_trans}

-- more draws behind the pending ones
pub more_behind : (published pending more after all : List Draw) → after ≡ published → all ≡ pending ++ more
    → (published ++ pending) ++ more ≡ after ++ all
more_behind published pending more after all same is =
    append_assoc published pending more
    ∙ ap (λ (w : List Draw). w ++ (pending ++ more)) (sym same)
    ∙ ap (λ (w : List Draw). after ++ w) (sym is)

-- what was appended, where none is left
pub out_is : (out left pending : List Draw) → out ++ left ≡ pending → left ≡ [] → out ≡ pending
out_is out left pending is none = sym (append-nil out) ∙ ap (λ (w : List Draw). out ++ w) (sym none) ∙ is

-- draws behind the pending ones, of which none is left
pub behind_all : (published pending draws after out left : List Draw) → after ≡ published → out ++ left ≡ pending → left ≡ []
    → (published ++ pending) ++ draws ≡ after ++ (out ++ draws)
behind_all published pending draws after out left same is none =
    more_behind published pending draws after (out ++ draws) same (ap (λ (w : List Draw). w ++ draws) (out_is out left pending is none))

-- the floor after a pull is the kept one
floor_of_takes : (floor read : ℕ) (records : List Record) → fold floor_with floor (takes_of read records) ≡ floor
floor_of_takes floor read [] = refl
floor_of_takes floor read (r ∷ rs) = floor_of_takes floor read rs

pub floor_after : (kept : Floored) (ds : List Draw) (read : ℕ) (below : Option (List Record)) (records : List Record)
    → IsBasis kept (floor_of ds) below → floor_of (ds ++ draws_of read kept.floor below records) ≡ kept.floor
floor_after kept ds read None records same =
    fold-append floor_with 0 ds (takes_of read records) ∙ (floor_of_takes (floor_of ds) read records ∙ same)
floor_after kept ds read (Some base) records is =
    fold-append floor_with 0 ds (draws_of read kept.floor (Some base) records) ∙ floor_of_takes kept.floor read records

-- nothing is drawn only where nothing is there
pub draws_none : (read floor : ℕ) (below : Option (List Record)) (records : List Record)
    → draws_of read floor below records ≡ [] → (below ≡ None) × (records ≡ [])
draws_none read floor None [] e = (refl, refl)
draws_none read floor None (r ∷ rs) e = absurd (cc e)
draws_none read floor (Some base) records e = absurd (cc e)

module _ (first : Held) where
  -- the front with which they begin is one of the last
  pub last_front : (s : Records) (floor : ℕ) (from g : List Item) (ds : List Draw) → AreDrawn first s floor from ds g → IsPrefix from g
  last_front s floor from g [] d = d
  last_front s floor from g (t ∷ ts) d = prefix_trans from d.0 g d.1 (last_front (with_draw s t) (floor_with floor t) d.0 g ts d.3)

  pub drawn_longer : (s : Records) (floor : ℕ) (from f g : List Item) (ds : List Draw)
      → AreDrawn first s floor from ds f → IsPrefix f g → AreDrawn first s floor from ds g
  drawn_longer s floor from f g [] d p = prefix_trans from f g d p
  drawn_longer s floor from f g (t ∷ ts) d p = (d.0, d.1, d.2, drawn_longer (with_draw s t) (floor_with floor t) d.0 f g ts d.3 p)

  -- takes of kept records of one front, at its floor
  pub drawn_takes : (s : Records) (floor : ℕ) (from g : List Item) (records : List Record)
      → IsPrefix from g → floor ≡ (topic_at first g).kept.floor
      → list_all (contains (topic_at first g).kept.records) records ≡ true → AreDrawn first s floor from (takes_of (length g) records) g
  drawn_takes s floor from g [] p at kept = p
  drawn_takes s floor from g (r ∷ rs) p at kept =
      let parts = both_true (contains (topic_at first g).kept.records r) (list_all (contains (topic_at first g).kept.records) rs) kept in (
        g,
        p,
        (refl, at, parts.0),
        drawn_takes (with_draw s (draws.Take (record { read = length g; kept = r }))) floor g g rs (prefix_self g) at parts.1,
      )

  -- behind draws from a shorter front
  drawn_behind : (s : Records) (floor : ℕ) (from f g : List Item) (ds more : List Draw) → AreDrawn first s floor from ds f → IsPrefix f g
      → ((from : List Item) → IsPrefix from g → AreDrawn first (fold with_draw s ds) (fold floor_with floor ds) from more g)
      → AreDrawn first s floor from (ds ++ more) g
  drawn_behind s floor from f g [] more d p next = next from (prefix_trans from f g d p)
  drawn_behind s floor from f g (t ∷ ts) more d p next =
      (d.0, d.1, d.2, drawn_behind (with_draw s t) (floor_with floor t) d.0 f g ts more d.3 p next)

  pub drawn_more : (f g : List Item) (ds more : List Draw) → AreDrawnFrom first ds f → IsPrefix f g
      → ((from : List Item) → IsPrefix from g → AreDrawn first (taken ds) (floor_of ds) from more g) → AreDrawnFrom first (ds ++ more) g
  drawn_more f g ds more d p next = drawn_behind empty 0 [] f g ds more d p next

  -- the first ones of draws
  drawn_first : (s : Records) (floor : ℕ) (from g : List Item) (ds more : List Draw)
      → AreDrawn first s floor from (ds ++ more) g → AreDrawn first s floor from ds g
  drawn_first s floor from g [] more d = last_front s floor from g more d
  drawn_first s floor from g (t ∷ ts) more d = (d.0, d.1, d.2, drawn_first (with_draw s t) (floor_with floor t) d.0 g ts more d.3)

  pub drawn_from_first : (g : List Item) (ds more : List Draw) → AreDrawnFrom first (ds ++ more) g → AreDrawnFrom first ds g
  drawn_from_first g ds more d = drawn_first empty 0 [] g ds more d
