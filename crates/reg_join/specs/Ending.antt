-- What a command over a chain comes to.
use Rattle.std.specs.Prelude.{◌≡◌, ⊤, ◌⊎◌, ℕ, List, [], ◌∷◌, ◌++◌, Option, Some, None, MatchBool}
use mathlib.Core.List.{IsPrefix}
use Rattle.reg_records.specs.declared.record.Record.{Record}
use Rattle.reg_leader.specs.declared.command.Command.{Command}
use Rattle.reg_leader.specs.declared.command.Command.TheVariants as commands
use Rattle.reg_leader.specs.declared.reply.Reply.{Reply}
use Rattle.reg_leader.specs.declared.reply.Reply.TheVariants as replies
use Rattle.reg_topic.specs.declared.published.Item.{Item}
use Rattle.reg_topic.specs.declared.topic.Topic.{Topic}
use Rattle.reg_pen.specs.Pen.{IsNoMemory, IsStepAfter, PenState, counted, item_of}
use Rattle.reg_chain.specs.Chain.{told_after}
use Rattle.reg_join.specs.Joined.{batches_in, batches_of}
use Rattle.reg_join.specs.Joining.{Checks, IsNotAsked, kept_after}
use Rattle.reg_join.specs.Memory.{is_no_memory}
use Rattle.reg_chain.specs.declared.chain.ChainAnswer.{ChainAnswer}
use Rattle.reg_chain.specs.declared.chain.ChainAnswer.TheVariants as answered
use Rattle.reg_join.specs.declared.commanding.JoinOutcome.{JoinOutcome}
use Rattle.reg_join.specs.declared.commanding.JoinOutcome.TheVariants as outcomes
use Rattle.reg_join.specs.declared.join_keep.JoinKeep.{JoinKeep}
use Rattle.reg_join.specs.declared.join_keep.Stand.TheVariants.{Stopped}

-- the list with what is pending
abbrev pub whole_list : {K : Type 0} → PenState K → List Item
whole_list l = l.published ++ l.pending

-- private: what is told of a batch that the chain kept, or of which it can't know
abbrev pub settled_outcome : Reply → JoinOutcome
settled_outcome (replies.Unsettled offset) = outcomes.Unsettled offset
settled_outcome reply = outcomes.Replied reply

-- private: by the answer to a batch; none where the command is decided anew
abbrev pub batch_outcome : ChainAnswer → Reply → Option JoinOutcome
batch_outcome answered.Kept reply = Some (settled_outcome reply)
batch_outcome answered.Behind reply = None
batch_outcome answered.Declined reply = Some outcomes.Declined
batch_outcome answered.Unknown reply = Some (settled_outcome reply)

-- private: where the check is declined, a registration of a schema that is live here is told its id
abbrev pub live_outcome : Reply → JoinOutcome
live_outcome (replies.Id id) = outcomes.Live id
live_outcome reply = outcomes.Declined

abbrev pub unchecked_outcome : Command → Reply → JoinOutcome
unchecked_outcome (commands.Register subject text) reply = live_outcome reply
unchecked_outcome c reply = outcomes.Declined

-- private: by the answer to a check; none where the command is decided anew
abbrev pub check_outcome : ChainAnswer → Command → Reply → Option JoinOutcome
check_outcome answered.Kept c reply = Some (outcomes.Replied reply)
check_outcome answered.Behind c reply = None
check_outcome answered.Declined c reply = Some (unchecked_outcome c reply)
check_outcome answered.Unknown c reply = Some (unchecked_outcome c reply)

-- private: the pen's keep has forgotten what was answered last
abbrev pub forgotten : {C : Type 0} → PenState (JoinKeep C) → PenState (JoinKeep C)
forgotten l = record l { keep = record l.keep { last = None } }

module _ {C : Type 0} (told : C → List (List Record)) (answers : C → List Record → ChainAnswer → C → Type 0) (base : Topic) where
  -- the reply is that of a step from exactly what was told, which wrote nothing, and nothing stood behind that when the chain was asked
  -- after it
  pub record RepliesAlone (l : PenState (JoinKeep C)) (c : Command) (reply : Reply) (seen : Option (List Item)) (k : JoinKeep C) : Type 0 where
    pub before : told l.keep.chain ≡ batches_of l
    pub step : IsStepAfter base (whole_list l) c reply []
    pub shown : seen ≡ Some (whole_list l)
    pub checked : answers l.keep.chain [] answered.Kept k.chain
    pub same : told k.chain ≡ batches_of l
    pub count : k.kept ≡ l.keep.kept

  -- the reply is that of a step from exactly what was told, whose batch stands in the chain right behind that: the chain kept it
  pub record RepliesBehind (l : PenState (JoinKeep C)) (c : Command) (reply : Reply) (seen : Option (List Item)) (k : JoinKeep C) : Type 0 where
    pub first : Record
    pub rest : List Record
    pub before : told l.keep.chain ≡ batches_of l
    pub step : IsStepAfter base (whole_list l) c reply (first ∷ rest)
    pub shown : seen ≡ Some (whole_list l ++ item_of c (first ∷ rest))
    pub kept : answers l.keep.chain (first ∷ rest) answered.Kept k.chain
    pub stands : told k.chain ≡ batches_of l ++ (first ∷ rest) ∷ []
    pub count : k.kept ≡ counted l.keep.kept

  -- a step from exactly what was told wrote a batch that begins at that offset; it stands right behind that and isn't published yet, or
  -- whether it stands can't be known
  pub record IsUnsettled (l : PenState (JoinKeep C)) (c : Command) (offset : ℕ) (k : JoinKeep C) : Type 0 where
    pub replied : Reply
    pub first : Record
    pub rest : List Record
    pub before : told l.keep.chain ≡ batches_of l
    pub step : IsStepAfter base (whole_list l) c replied (first ∷ rest)
    pub tells : (offset ≡ first.offset) ⊎ (replied ≡ replies.Unsettled offset)
    pub asked : (answers l.keep.chain (first ∷ rest) answered.Kept k.chain × (k.kept ≡ counted l.keep.kept))
        ⊎ (answers l.keep.chain (first ∷ rest) answered.Unknown k.chain × (k.kept ≡ l.keep.kept))

  -- the chain declined the batch of the command's step, or the check where that wrote nothing, or couldn't answer the check
  pub record WasDeclined (l : PenState (JoinKeep C)) (c : Command) (k : JoinKeep C) : Type 0 where
    pub replied : Reply
    pub batch : List Record
    pub before : told l.keep.chain ≡ batches_of l
    pub step : IsStepAfter base (whole_list l) c replied batch
    pub said : answers l.keep.chain batch answered.Declined k.chain ⊎ ((batch ≡ []) × answers l.keep.chain [] answered.Unknown k.chain)
    pub count : k.kept ≡ l.keep.kept

  -- a registration's step from exactly what was told replied an id and wrote nothing, so the schema is live there; the chain didn't say
  -- whether something stands behind that
  pub record IsLive (l : PenState (JoinKeep C)) (c : Command) (id : ℕ) (k : JoinKeep C) : Type 0 where
    pub subject : List ℕ
    pub text : List ℕ
    pub registers : c ≡ commands.Register subject text
    pub before : told l.keep.chain ≡ batches_of l
    pub step : IsStepAfter base (whole_list l) c (replies.Id id) []
    pub same : told k.chain ≡ batches_of l
    pub count : k.kept ≡ l.keep.kept

  -- what a command comes to, from the pen as it was when it was decided last, with all taken that was told
  abbrev pub ComesTo : JoinOutcome → PenState (JoinKeep C) → Command → Option (List Item) → JoinKeep C → Type 0
  ComesTo (outcomes.Replied reply) l c seen k = RepliesAlone l c reply seen k ⊎ RepliesBehind l c reply seen k
  ComesTo (outcomes.Unsettled offset) l c seen k = IsUnsettled l c offset k
  ComesTo (outcomes.Live id) l c seen k = IsLive l c id k
  ComesTo outcomes.NoMemory l c seen k = k.kept ≡ l.keep.kept
  ComesTo outcomes.Overtaken l c seen k = k.kept ≡ l.keep.kept
  ComesTo outcomes.Declined l c seen k = WasDeclined l c k
  ComesTo outcomes.Stopped l c seen k = (k.stand ≡ Stopped) × (k.kept ≡ l.keep.kept)

  -- what a command comes to in all: none of its batches was kept before it was decided last
  pub record Ends (old : PenState (JoinKeep C)) (c : Command) (outcome : JoinOutcome) (seen : Option (List Item)) (new : PenState (JoinKeep C)) : Type 0 where
    pub tried : PenState (JoinKeep C)
    pub grows : IsPrefix old.published tried.published
    pub none_kept : tried.keep.kept ≡ old.keep.kept
    pub comes : ComesTo outcome tried c seen new.keep

  -- the reply is that of a step from exactly what stood in the chain, and what the step wrote, if anything, is all that stands behind it by
  -- then: the chain kept it, or, where it wrote nothing, said so when it was asked
  pub record IsAtItsPlace (tried : PenState (JoinKeep C)) (c : Command) (reply : Reply) (seen : Option (List Item)) (k : JoinKeep C) : Type 0 where
    pub batch : List Record
    pub before : told tried.keep.chain ≡ batches_of tried
    pub step : IsStepAfter base (whole_list tried) c reply batch
    pub kept : answers tried.keep.chain batch answered.Kept k.chain
    pub after : told k.chain ≡ batches_of tried ++ batches_in (item_of c batch)
    pub shown : seen ≡ Some (whole_list tried ++ item_of c batch)

  -- each reply that is told, a refusal's too, is at its place
  abbrev pub RepliesAreAtTheirPlaces : Type 0
  RepliesAreAtTheirPlaces = (old : PenState (JoinKeep C)) (c : Command) (reply : Reply) (seen : Option (List Item)) (new : PenState (JoinKeep C))
      → (ends : Ends old c (outcomes.Replied reply) seen new) → IsAtItsPlace ends.tried c reply seen new.keep

  -- private: the step wrote nothing
  pub record IsUnwritten (l : PenState (JoinKeep C)) (c : Command) (reply : Reply) (seen : List Item) : Type 0 where
    pub before : told l.keep.chain ≡ batches_of l
    pub step : IsStepAfter base (whole_list l) c reply []
    pub shown : seen ≡ whole_list l

  -- private: the reply of a submit, by the answer to its batch, the step's reply and the batch's first record
  abbrev pub RepliedAs : ChainAnswer → Reply → Record → Reply → List Item → List Item → Type 0
  RepliedAs answered.Kept replied first reply after seen = ((reply ≡ replied) × (seen ≡ after)) ⊎ (reply ≡ replies.Unsettled first.offset)
  RepliedAs answered.Behind replied first reply after seen = ⊤
  RepliedAs answered.Declined replied first reply after seen = ⊤
  RepliedAs answered.Unknown replied first reply after seen = reply ≡ replies.Unsettled first.offset

  -- private: the step wrote a batch, and this was answered to it
  pub record Asked (l : PenState (JoinKeep C)) (c : Command) (reply : Reply) (seen : List Item) (answer : ChainAnswer) (k : JoinKeep C) : Type 0 where
    pub replied : Reply
    pub first : Record
    pub rest : List Record
    pub before : told l.keep.chain ≡ batches_of l
    pub step : IsStepAfter base (whole_list l) c replied (first ∷ rest)
    pub means : answers l.keep.chain (first ∷ rest) answer k.chain
    pub tells : told k.chain ≡ told_after (told l.keep.chain) (first ∷ rest) answer
    pub count : k.kept ≡ kept_after l.keep.kept answer
    pub replies_as : RepliedAs answer replied first reply (whole_list l ++ item_of c (first ∷ rest)) seen

  -- private: what comes of a submit where all is taken that was told and nothing is pending, by the answer to its batch, if there was one
  abbrev pub Tried : Option ChainAnswer → PenState (JoinKeep C) → Command → Reply → List Item → JoinKeep C → Type 0
  Tried None l c reply seen k = (IsUnwritten l c reply seen ⊎ IsNoMemory reply) × (k ≡ l.keep)
  Tried (Some answer) l c reply seen k = Asked l c reply seen answer k

  -- private: where nothing was written and memory wasn't refused, a check was made
  pub record ChecksAfter (k : JoinKeep C) (c : Command) (reply : Reply) (outcome : Option JoinOutcome) (k' : JoinKeep C) : Type 0 where
    pub answer : ChainAnswer
    pub checks : Checks told answers k answer k'
    pub own : IsNotAsked k k'
    pub told_by : outcome ≡ check_outcome answer c reply

  -- private: what is told of a submit, by the answer to its batch
  abbrev pub Concludes : Option ChainAnswer → JoinKeep C → Command → Reply → Option JoinOutcome → JoinKeep C → Type 0
  Concludes (Some answer) k c reply outcome k' = (outcome ≡ batch_outcome answer reply) × (k' ≡ k)
  Concludes None k c reply outcome k' =
      MatchBool (is_no_memory reply) ((outcome ≡ Some outcomes.NoMemory) × (k' ≡ k)) (ChecksAfter k c reply outcome k')

  -- private: by the outcome, if the command isn't decided anew
  abbrev pub MayEnd : Option JoinOutcome → PenState (JoinKeep C) → Command → Option (List Item) → JoinKeep C → Type 0
  MayEnd None l c seen k = k.kept ≡ l.keep.kept
  MayEnd (Some outcome) l c seen k = ComesTo outcome l c seen k
