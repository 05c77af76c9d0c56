-- What a node did, up to some number of items and behind it.
use Rattle.std.proofs.Common.{◌≡◌, ℕ, suc, ◌≤◌, Bool, true, false, List, [], ◌∷◌, ◌++◌, length, if◌then◌else◌, refl, ap, ◌∙◌, arith}
use Rattle.std.specs.Bool.{nat_le}
use mathlib.Core.List.{IsPrefix}
use Rattle.reg_topic.specs.declared.published.Item.{Item}
use Rattle.reg_shared.specs.Held.{Held}
use Rattle.reg_set.specs.Records.{Records}
use Rattle.reg_node.specs.Takes.{AreDrawn, IsDraw, floor_with, with_draw}
use Rattle.reg_node.specs.declared.take.Draw.{Draw}
use Rattle.reg_node.specs.declared.take.Draw.TheVariants as drawn
use Rattle.reg_running.specs.Woven.{read_of}
use Rattle.reg_running.specs.Running.{Deed, Drew, Told, draws}
use Rattle.reg_running.proofs.Lists.{beyond, prefix_length, prefix_shorter, prefix_trans, within}

-- a draw has read the front that it is from
pub read_is : (first : Held) (f : List Item) (s : Records) (floor : ℕ) (d : Draw) → IsDraw first f s floor d → read_of d ≡ length f
read_is first f s floor (drawn.Take t) h = h.0
read_is first f s floor (drawn.Rebase r) h = h.0

-- the front with which they begin is one of the last
pub last_front : (first : Held) (s : Records) (floor : ℕ) (from g : List Item) (ts : List Draw)
    → AreDrawn first s floor from ts g → IsPrefix from g
last_front first s floor from g [] d = d
last_front first s floor from g (t ∷ ts) d =
    prefix_trans from d.0 g d.1 (last_front first (with_draw s t) (floor_with floor t) d.0 g ts d.3)

pub drawn_longer : (first : Held) (s : Records) (floor : ℕ) (from f g : List Item) (ts : List Draw)
    → AreDrawn first s floor from ts f → IsPrefix f g → AreDrawn first s floor from ts g
drawn_longer first s floor from f g [] d p = prefix_trans from f g d p
drawn_longer first s floor from f g (t ∷ ts) d p = (d.0, d.1, d.2, drawn_longer first (with_draw s t) (floor_with floor t) d.0 f g ts d.3 p)

-- they are drawn so at a node of some records and floor
abbrev pub AnyDrawn : Held → List Item → List Draw → List Item → Type 0
AnyDrawn first from ts g = (s : Records) × (floor : ℕ) × AreDrawn first s floor from ts g

-- whether it is no draw of more items than that
abbrev pub is_within : ℕ → Deed → Bool
is_within read (Drew draw) = nat_le (read_of draw) read
is_within read (Told query answer) = true

-- what a node did before its first draw of more items, and from there on
abbrev pub upto : ℕ → List Deed → List Deed
upto read [] = []
upto read (d ∷ ds) = if is_within read d then d ∷ upto read ds else []

abbrev pub behind : ℕ → List Deed → List Deed
behind read [] = []
behind read (d ∷ ds) = if is_within read d then behind read ds else (d ∷ ds)

pub both_parts : (read : ℕ) (ds : List Deed) → upto read ds ++ behind read ds ≡ ds
both_parts read [] = refl
both_parts read (d ∷ ds) =
    elim (is_within read d) as (λ b. (if b then d ∷ upto read ds else []) ++ (if b then behind read ds else (d ∷ ds)) ≡ d ∷ ds) [
      | true ↦ ap (λ es. d ∷ es) (both_parts read ds)
      | false ↦ refl
    ]

-- where no more items are there, all of it is up to there
pub all_upto : (first : Held) (s : Records) (floor : ℕ) (read : ℕ) (from g : List Item) (ds : List Deed)
    → length g ≤ read → AreDrawn first s floor from (draws ds) g → upto read ds ≡ ds
all_upto first s floor read from g [] h d = refl
all_upto first s floor read from g (Told query answer ∷ ds) h d =
    ap (λ es. Told query answer ∷ es) (all_upto first s floor read from g ds h d)
all_upto first s floor read from g (Drew t ∷ ds) h d =
    let p : IsPrefix d.0 g = last_front first (with_draw s t) (floor_with floor t) d.0 g (draws ds) d.3 in
    let small : read_of t ≤ read = omega (arith, read_is first d.0 s floor t d.2, prefix_length d.0 g p, h) in
    ap (λ b. if b then Drew t ∷ upto read ds else []) (within (read_of t) read small)
    ∙ ap (λ es. Drew t ∷ es) (all_upto first (with_draw s t) (floor_with floor t) read d.0 g ds h d.3)

-- what is behind so many items begins with each front that has one item more
pub drawn_behind : (first : Held) (s : Records) (floor : ℕ) (read : ℕ) (from next g : List Item) (ds : List Deed)
    → IsPrefix next g → length next ≤ suc read → AreDrawn first s floor from (draws ds) g
    → AnyDrawn first next (draws (behind read ds)) g
drawn_behind first s floor read from next g [] p h d = (s, floor, p)
drawn_behind first s floor read from next g (Told query answer ∷ ds) p h d = drawn_behind first s floor read from next g ds p h d
drawn_behind first s floor read from next g (Drew t ∷ ds) p h d =
    elim (nat_le (read_of t) read) as (λ b.
    nat_le (read_of t) read ≡ b → AnyDrawn first next (draws (if b then behind read ds else (Drew t ∷ ds))) g) [
      | true ↦ λ _. drawn_behind first (with_draw s t) (floor_with floor t) read d.0 next g ds p h d.3
      | false ↦ λ high.
          let q : IsPrefix next d.0 =
          prefix_shorter next d.0 g p (last_front first (with_draw s t) (floor_with floor t) d.0 g (draws ds) d.3)
          (omega (arith, beyond (read_of t) read high, read_is first d.0 s floor t d.2, h)) in (s, floor, (d.0, q, d.2, d.3))
    ] refl
