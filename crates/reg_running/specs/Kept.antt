-- That a pen's keep took what the pen publishes.
use Rattle.std.specs.Prelude.{◌≡◌, ◌⊎◌, ℕ, List, [], ◌∷◌, ◌++◌, Option, flat_map, if◌then◌else◌}
use Rattle.std.specs.Borrow.{Bor}
use mathlib.Core.List.{IsPrefix}
use Rattle.reg_records.specs.declared.record.Record.{Record}
use Rattle.reg_leader.specs.declared.command.Command.{Command}
use Rattle.reg_leader.specs.declared.reply.Reply.{Reply}
use Rattle.reg_topic.specs.declared.published.Item.{Item}
use Rattle.reg_topic.specs.declared.published.Item.TheVariants as items
use Rattle.reg_topic.specs.declared.topic.Topic.{Topic}
use Rattle.reg_pen.specs.Pen.{CompactsOrNot, PenState, Submits}
use Rattle.reg_pen.specs.declared.keep.Kept.{Kept}
use Rattle.reg_pen.specs.declared.keep.Kept.TheVariants.{Taken, Declined, Lost, Unknown}

-- the batches among the items, in their order
abbrev pub batches_in : List Item → List (List Record)
batches_in [] = []
batches_in (items.Commit commit ∷ is) = commit.batch ∷ batches_in is
batches_in (items.Compaction c ∷ is) = batches_in is

-- what is published, and then what is pending, unless it is lost
abbrev pub not_lost : {K : Type 0} → PenState K → List Item
not_lost l = l.published ++ (if l.lost then [] else l.pending)

-- the batch, if it was taken
abbrev pub if_taken : Kept → List Record → List (List Record)
if_taken Taken batch = batch ∷ []
if_taken (Declined lack) batch = []
if_taken Lost batch = []
if_taken Unknown batch = []

module _ {K : Type 0} (keeps : K → List Record → Kept → K → Type 0) where
  -- a batch was lent to a keep, and that became of it
  pub record Lending : Type 0 where
    pub before : K
    pub batch : List Record
    pub kept : Kept
    pub after : K
    pub lent : keeps before batch kept after

  -- the lendings lead from the one state of the keep to the other, each from where the one before left it
  abbrev pub AreLent : K → List Lending → K → Type 0
  AreLent begun [] keep = keep ≡ begun
  AreLent begun (x ∷ xs) keep = (x.before ≡ begun) × AreLent x.after xs keep

  -- the batches that were taken, in their order
  abbrev pub batches_taken : List Lending → List (List Record)
  batches_taken xs = flat_map (λ x. if_taken x.kept x.batch) xs

  -- lendings lead from there to where the pen's keep stands; the batches that were taken are exactly those that are published, in their
  -- order, and then the pending one, unless that is lost
  pub record HasKept (begun : K) (l : PenState K) : Type 0 where
    pub lendings : List Lending
    pub are_lent : AreLent begun lendings l.keep
    pub taken : batches_taken lendings ≡ batches_in (not_lost l)

  -- a pen that has published nothing, with nothing pending, begins where its keep stands
  abbrev pub PensBeginKept : Type 0
  PensBeginKept = (l : PenState K) → l.published ≡ [] → l.pending ≡ [] → HasKept l.keep l

  -- that stays so at each submit and each compaction, which add to what was lent
  abbrev pub CallsStayKept : Type 0
  CallsStayKept = (base : Topic) (since : Option (Bor (List Item))) (l m : PenState K) (command : Command) (reply : Reply) (floor : ℕ)
      (begun : K) (kept : HasKept begun l) → Submits keeps base since l command reply m ⊎ CompactsOrNot base floor l m
      → (more : HasKept begun m) × IsPrefix kept.lendings more.lendings

  -- whoever saw a front of the published list saw only batches that were taken, in the order in which they were taken
  abbrev pub SeenBatchesAreTaken : Type 0
  SeenBatchesAreTaken = (begun : K) (l : PenState K) (seen : List Item) (kept : HasKept begun l)
      → IsPrefix seen l.published → IsPrefix (batches_in seen) (batches_taken kept.lendings)
