-- What a feed's history says, the rule of its words, and what each step tells.
use Rattle.std.specs.Prelude.{ℕ, ◌≡◌, ◌+◌, ◌*◌, ◌==◌, true, List, [], ◌∷◌, ◌++◌, length, take, drop, fold, if◌then◌else◌, nat_lt, MatchBool}
use mathlib.Core.List.{IsPrefix}
use Rattle.logbook.specs.Pages.{Cell, cell, Step, View, Book, Named, Nib, may_make, may_write, no_nib}
use Rattle.reg_feed.specs.Growing.{grown}
use Rattle.reg_feed.specs.declared.entry.FeedEntry.{FeedEntry}
use Rattle.reg_feed.specs.declared.entry.FeedEntry.TheVariants as entry

-- what a history comes to: the items, those that were published, those that were offered, and the keys of the writer's pens,
-- the newest first
pub record Known (T : Type 0) : Type 0 where
  pub items : List T
  pub shown : List T
  pub offered : List T
  pub pens : List ℕ

abbrev pub nothing : {T : Type 0} → Known T
nothing = record { items = []; shown = []; offered = []; pens = [] }

abbrev pub next : {T : Type 0} → Known T → FeedEntry T → Known T
next s (entry.Added x) = record s { items = s.items ++ x ∷ [] }
next s (entry.Turned m k) = record s { offered = grown s.shown (take m s.items); pens = k ∷ s.pens }
next s entry.Published = record s { shown = s.offered }

abbrev pub known : {T : Type 0} → List (FeedEntry T) → Known T
known log = fold next nothing log

abbrev pub items_of : {T : Type 0} → List (FeedEntry T) → List T
items_of log = (known log).items

-- the items whose publication succeeded
abbrev pub shown_of : {T : Type 0} → List (FeedEntry T) → List T
shown_of log = (known log).shown

abbrev pub offered_of : {T : Type 0} → List (FeedEntry T) → List T
offered_of log = (known log).offered

abbrev pub pens_of : {T : Type 0} → List (FeedEntry T) → List ℕ
pens_of log = (known log).pens

-- the gate's word: an odd one while more is offered than was published
abbrev pub gate_at : {T : Type 0} → List ℕ → List T → List T → ℕ
gate_at [] shown offered = 0
gate_at (k ∷ ks) shown offered =
    if nat_lt (length shown) (length offered) then 2 * length offered + 1 else 2 * length shown + 2

abbrev pub gate : {T : Type 0} → Known T → ℕ
gate s = gate_at s.pens s.shown s.offered

abbrev pub AreHome : List Cell → List ℕ → Type 0
AreHome cells [] = Unit {0}
AreHome cells (k ∷ ks) = ((cell cells k).1 ≡ true) × AreHome cells ks

-- the first word counts the items, the second is the gate. Each pen but the newest was given up
pub record Keeps {T : Type 0} (cells : List Cell) (s : Known T) : Type 0 where
  pub others : List Cell
  pub words : cells ≡ (length s.items, true) ∷ (gate s, true) ∷ others
  pub homes : AreHome cells (drop 1 s.pens)

abbrev pub IsKept : {T : Type 0} → List Cell → List (FeedEntry T) → Type 0
IsKept cells log = Keeps cells (known log)

abbrev pub head_of : Book → Named
head_of b = record { tracked = true; key = 0; book = b }

abbrev pub gate_in : Book → Named
gate_in b = record { tracked = true; key = 1; book = b }

-- who holds the newest pen of a history knows that no later one was taken
abbrev pub IsNewest : {T : Type 0} → Nib → List (FeedEntry T) → Type 0
IsNewest {T} pen log = pen.right ≡ may_write → (was : List (FeedEntry T)) (ks : List ℕ) → IsPrefix was log
    → pens_of was ≡ pen.key ∷ ks → pens_of log ≡ pens_of was

-- the entry was put behind the history where the word was as expected
abbrev pub Enters : {T : Type 0} → Step (FeedEntry T) → List (FeedEntry T) → ℕ → List (FeedEntry T) → Type 0
Enters s log found after = MatchBool (found == s.old) (after ≡ log ++ s.ask ∷ []) (after ≡ log)

abbrev pub Adds : {T : Type 0} → Step (FeedEntry T) → View (FeedEntry T) ℕ → ℕ → View (FeedEntry T) ℕ → Type 0
Adds {T} s v found w = (log : List (FeedEntry T)) × IsPrefix v.0 log × (found ≡ length (items_of log)) × Enters s log found w.0

abbrev pub Takes : {T : Type 0} → Step (FeedEntry T) → View (FeedEntry T) ℕ → ℕ → View (FeedEntry T) ℕ → Type 0
Takes s v found w = w.1.0.right ≡ may_make

abbrev pub Publishes : {T : Type 0} → Step (FeedEntry T) → View (FeedEntry T) ℕ → ℕ → View (FeedEntry T) ℕ → Type 0
Publishes {T} s v found w = (log : List (FeedEntry T)) × IsPrefix v.0 log × (found ≡ gate (known log)) × IsNewest v.1.0 log
    × Enters s log found w.0 × (w.1.0 ≡ v.1.0)

abbrev pub Turns : {T : Type 0} → Step (FeedEntry T) → View (FeedEntry T) ℕ → ℕ → View (FeedEntry T) ℕ → Type 0
Turns {T} s v found w = (log : List (FeedEntry T)) × IsPrefix v.0 log × (found ≡ gate (known log)) × IsNewest v.1.0 log
    × Enters s log found w.0 × MatchBool (found == s.old) (w.1.0 ≡ no_nib) (w.1.0 ≡ v.1.0)

abbrev pub Looks : {T : Type 0} → Step (FeedEntry T) → View (FeedEntry T) ℕ → ℕ → View (FeedEntry T) ℕ → Type 0
Looks {T} s v found w = (log : List (FeedEntry T)) × IsPrefix v.0 log × (found ≡ gate (known log)) × IsNewest v.1.0 log × (w.0 ≡ log) × (w.1.0 ≡ v.1.0)

abbrev pub Begins : {T : Type 0} → Step (FeedEntry T) → View (FeedEntry T) ℕ → ℕ → View (FeedEntry T) ℕ → Type 0
Begins {T} s v found w = (log : List (FeedEntry T)) × IsPrefix v.0 log × (found ≡ gate (known log)) × Enters s log found w.0

-- the newest of the pens is this one
abbrev pub Heads : ℕ → List ℕ → Type 0
Heads key pens = (ks : List ℕ) × (pens ≡ key ∷ ks)
