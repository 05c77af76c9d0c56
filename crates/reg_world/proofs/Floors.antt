-- The kept floor and those of nodes, as the code compares them.
use Rattle.std.proofs.Common.{◌≡◌, ◌≢◌, ℕ, suc, zero, ◌<◌, ◌==◌, Bool, true, false, List, [], ◌∷◌, length, Option}
use Rattle.std.proofs.Common.{Some, None, option_map, slice_get, refl, sym, ap, subst, ◌∙◌, arith, eq-eqb, ne_eqb}
use Rattle.reg_alike.specs.reg_records.declared.record.Record.{Record}
use Rattle.reg_alike.specs.reg_floored.Floored.{Floored}
use Rattle.reg_topic.specs.Laws.{ItemsAreFoldedInTurn}
use Rattle.reg_topic.specs.Topic.{after_batch, follows}
use Rattle.reg_topic.specs.declared.published.Commit.{Commit}
use Rattle.reg_topic.specs.declared.published.Item.TheVariants as items
use Rattle.reg_topic.specs.declared.topic.Topic.{Topic}
use Rattle.reg_world.specs.Happens.{Happens}
use Rattle.reg_world.specs.State.{State, set_at, settle, topic_of}
use Rattle.reg_world.specs.declared.event.Event.TheVariants as events
use Rattle.reg_world.specs.declared.event.Outcome.{Outcome}
use Rattle.reg_world.specs.declared.node.WorldNode.{WorldNode}
use Rattle.reg_world.proofs.Steps.{set_there}

-- whether the sets have one floor, as the code compares them
pub one_floor : (s : State) (i : ℕ) (n : WorldNode) (floor : ℕ) → slice_get s.nodes i ≡ Some n
    → n.set.floor ≡ floor → ((set_at s i).floor == floor) ≡ true
one_floor s i n floor there same = ap (λ (x : Floored). x.floor == floor) (set_there s i n there) ∙ eq-eqb n.set.floor floor same

pub two_floors : (s : State) (i : ℕ) (n : WorldNode) (floor : ℕ) → slice_get s.nodes i ≡ Some n
    → n.set.floor ≢ floor → ((set_at s i).floor == floor) ≡ false
two_floors s i n floor there other = ap (λ (x : Floored). x.floor == floor) (set_there s i n there) ∙ ne_eqb n.set.floor floor other

-- a node that is there
pub within : (ns : List WorldNode) (i : ℕ) (n : WorldNode) → slice_get ns i ≡ Some n → i < length ns
within [] i n e = let none : None ≡ Some n = e in cc
within (m ∷ ns) zero n e = omega arith
within (m ∷ ns) (suc i) n e = let h = within ns i n e in omega (arith, h)

pub mapped_none : (f : WorldNode → WorldNode) (o : Option WorldNode) → option_map f o ≡ None → o ≡ None
mapped_none f None e = refl
mapped_none f (Some n) e = cc

pub mapped_some : (f : WorldNode → WorldNode) (o : Option WorldNode) (x : WorldNode) → option_map f o ≡ Some x → (n : WorldNode) × (o ≡ Some n) × (x ≡ f n)
mapped_some f None x e = cc
mapped_some f (Some n) x e = (n, refl, cc)

-- a batch leaves the floor as it is
batch_floor : (b : Bool) (t : Topic) (batch : List Record) → (after_batch b t batch).kept.floor ≡ t.kept.floor
batch_floor true t batch = refl
batch_floor false t batch = refl

settle_floor : ItemsAreFoldedInTurn → (s : State) (u : Option Commit) → (topic_of (settle u s)).kept.floor ≡ (topic_of s).kept.floor
settle_floor in_turn s None = refl
settle_floor in_turn s (Some commit) =
    ap (λ (t : Topic). t.kept.floor) (in_turn s.base s.items (items.Commit commit))
    ∙ batch_floor (follows (topic_of s).next commit.batch) (topic_of s) commit.batch

-- so a compaction without a floor of its own is one to the kept floor
pub compacts_at : ItemsAreFoldedInTurn → (s t : State) (floor : ℕ) (dropped : List Record) (o : Outcome) → floor ≡ (topic_of s).kept.floor
    → Happens s (events.CompactTo floor dropped) o t → Happens s (events.Compact dropped) o t
unfolding Happens
compacts_at in_turn s t floor dropped o is happens =
    subst (λ f. Happens s (events.CompactTo f dropped) o t) (is ∙ sym (settle_floor in_turn s s.unsettled)) happens
