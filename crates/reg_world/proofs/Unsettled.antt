-- What isn't settled is published first, and counts before it is.
use Rattle.std.proofs.Common.{◌≡◌, ◌⊎◌, inl, inr, Bool, true, false, ◌&&◌, List, [], ◌∷◌, ◌++◌, Option, Some}
use Rattle.std.proofs.Common.{None, IfSome, MatchBool, is_some, slice_get, refl, sym, ap, subst, ◌∙◌}
use Rattle.std.proofs.lemmas.Bool.{false≢true}
use Rattle.reg_alike.specs.reg_records.declared.record.Record.{Record}
use Rattle.reg_alike.specs.reg_leader.declared.command.Command.{Command}
use Rattle.reg_topic.specs.Topic.{MayCommit, after_batch, may_compact}
use Rattle.reg_topic.specs.declared.published.Commit.{Commit}
use Rattle.reg_topic.specs.declared.published.Item.{Item}
use Rattle.reg_topic.specs.declared.published.Item.TheVariants as items
use Rattle.reg_world.specs.Core.{UnsettledComesFirst, UnsettledCounts, UnsettledGoesOn, settles_first}
use Rattle.reg_world.specs.Happens.{Does, Happens, Steps, at_floor, floors_agree, is_allowed, with_batch}
use Rattle.reg_world.specs.LowerLaws.{LowerLaws}
use Rattle.reg_world.specs.State.{State, publish, settle, settled, topic_of}
use Rattle.reg_world.specs.declared.event.Event.{Event}
use Rattle.reg_world.specs.declared.event.Event.TheVariants as events
use Rattle.reg_world.specs.declared.event.Fate.{Fate}
use Rattle.reg_world.specs.declared.event.Fate.TheVariants.{Published, Unsettled, Lost}
use Rattle.reg_world.specs.declared.event.Outcome.{Outcome}
use Rattle.reg_world.specs.declared.event.Outcome.TheVariants as outcomes
use Rattle.reg_world.specs.declared.node.WorldNode.{WorldNode}
use Rattle.reg_world.proofs.Sound.{settle-none}
use Rattle.reg_world.proofs.Stays.{sound-after}
use Rattle.reg_world.proofs.Steps.{allowed, went}

where_some : {P : Commit → Type 0} (u : Option Commit) → ((c : Commit) → u ≡ Some c → P c) → IfSome u P
where_some None h = tt
where_some (Some c) h = h c refl

two_more : (xs : List Item) (a b : Item) → (xs ++ a ∷ []) ++ b ∷ [] ≡ xs ++ a ∷ b ∷ []
two_more [] a b = refl
two_more (x ∷ xs) a b = ap (λ ys. x ∷ ys) (two_more xs a b)

-- one item more, or none
abbrev OneMore : List Item → List Item → Type 0
OneMore xs ys = (ys ≡ xs) ⊎ ((b : Item) × (ys ≡ xs ++ b ∷ []))

of_batch : (s : State) (fate : Fate) (command : Command) (batch : List Record) → OneMore s.items (with_batch s fate command batch).items
of_batch s fate command [] = inl refl
of_batch s Published command (r ∷ rs) = inr (items.Commit (record { command = command; batch = r ∷ rs }), refl)
of_batch s Unsettled command (r ∷ rs) = inl refl
of_batch s Lost command (r ∷ rs) = inl refl

-- that item comes first of those that are published
abbrev IsFirst : State → State → Commit → Type 0
IsFirst s t commit = (rest : List Item) × (t.items ≡ s.items ++ items.Commit commit ∷ rest)

-- nothing is published, and what isn't settled stays so
abbrev IsLeft : State → State → Type 0
IsLeft s t = (t.items ≡ s.items) × (t.unsettled ≡ s.unsettled)

-- the items that were settled, and one more or none, begin with the commit that wasn't settled
first_of : (s t : State) (commit : Commit) → s.unsettled ≡ Some commit → OneMore (settle s.unsettled s).items t.items → IsFirst s t commit
first_of s t commit e (inl same) = ([], same ∙ ap (λ u. (settle u s).items) e)
first_of s t commit e (inr (b, more)) = (b ∷ [], more ∙ ap (λ u. (settle u s).items ++ b ∷ []) e ∙ two_more s.items (items.Commit commit) b)

left_as : (s t x : State) → t ≡ x → x.items ≡ s.items → x.unsettled ≡ s.unsettled → IsLeft s t
left_as s t x is listed left = (ap (λ (y : State). y.items) is ∙ listed, ap (λ (y : State). y.unsettled) is ∙ left)

does_first : (s t : State) (e : Event) (o : Outcome) (commit : Commit) → s.unsettled ≡ Some commit
    → Does s e o t → MatchBool (settles_first e) (IsFirst s t commit) (IsLeft s t)
does_first s t (events.Command node command fate) o commit is d =
    first_of s t commit is (
    subst (λ (x : State). OneMore (settle s.unsettled s).items x.items)
    (sym d.state) (of_batch (settle s.unsettled s) fate command d.batch))
does_first s t (events.Compact dropped) o commit is d =
    first_of s t commit is (inr (items.Compaction (at_floor (topic_of (settled s)).kept.floor dropped), ap (λ (x : State). x.items) d.1))
does_first s t (events.CompactTo floor dropped) o commit is d =
    first_of s t commit is (inr (items.Compaction (at_floor floor dropped), ap (λ (x : State). x.items) d.1))
does_first s t (events.Take node records) o commit is d = left_as s t _ d.1 refl refl
does_first s t (events.CompactNode node) o commit is d = left_as s t _ d.1 refl refl
does_first s t (events.MergeFrom node other) o commit is d = left_as s t _ d.1 refl refl
does_first s t (events.Rebase node) o commit is d = left_as s t _ d.1 refl refl
does_first s t (events.Restart node) o commit is d = left_as s t _ d.1 refl refl
does_first s t (events.Lookup node query) o commit is d = left_as s t _ d.3 refl refl

-- where the event settles and is allowed, or not
and_allowed : (A B : Type 0) (a b : Bool) → b ≡ true → MatchBool a A B → MatchBool (a && b) A B
and_allowed A B true b e h = subst (λ c. MatchBool c A B) (sym e) h
and_allowed A B false b e h = h

and_not : (A B : Type 0) (a b : Bool) → b ≡ false → B → MatchBool (a && b) A B
and_not A B true b e h = subst (λ c. MatchBool c A B) (sym e) h
and_not A B false b e h = h

-- what settles brings no two sets together
settles_alone : (s : State) (e : Event) → floors_agree s e ≡ false → settles_first e ≡ false
settles_alone s (events.Command node command fate) differ = absurd (false≢true (sym differ))
settles_alone s (events.Compact dropped) differ = absurd (false≢true (sym differ))
settles_alone s (events.CompactTo floor dropped) differ = absurd (false≢true (sym differ))
settles_alone s (events.Take node records) differ = refl
settles_alone s (events.CompactNode node) differ = refl
settles_alone s (events.MergeFrom node other) differ = refl
settles_alone s (events.Rebase node) differ = refl
settles_alone s (events.Restart node) differ = refl
settles_alone s (events.Lookup node query) differ = refl

pub unsettled_comes_first : UnsettledComesFirst
unsettled_comes_first s t e o happens = where_some s.unsettled (λ commit is.
    elim (went s t e o happens) as (λ _. MatchBool (settles_first e && is_allowed s e) (IsFirst s t commit) (IsLeft s t)) [
      | inl did ↦ and_allowed (IsFirst s t commit) (IsLeft s t) (settles_first e)
          (is_allowed s e) did.fine (does_first s t e o commit is did.does)
      | inr (inl differed) ↦ subst (λ a. MatchBool (a && is_allowed s e) (IsFirst s t commit) (IsLeft s t))
          (sym (settles_alone s e differed.differ)) (left_as s t s differed.same refl refl)
      | inr (inr refused) ↦ and_not (IsFirst s t commit) (IsLeft s t) (settles_first e)
          (is_allowed s e) refused.no (left_as s t s refused.same refl refl)
    ])

-- what is settled stays as it is when it is settled again
same_nodes : (u : Option Commit) (s : State) → (settle u s).nodes ≡ s.nodes
same_nodes None s = refl
same_nodes (Some commit) s = refl

settled_once : (s : State) → settled (settled s) ≡ settled s
settled_once s = ap (λ u. settle u (settled s)) (settle-none s.unsettled s refl)

allowed_alike : (s : State) (e : Event) → settles_first e ≡ true → is_allowed s e ≡ is_allowed (settled s) e
allowed_alike s (events.Command node command fate) first =
    ap (λ (ns : List WorldNode). is_some (slice_get ns node)) (sym (same_nodes s.unsettled s))
allowed_alike s (events.Compact dropped) first =
    ap (λ (x : State). may_compact (topic_of x) (at_floor (topic_of x).kept.floor dropped)) (sym (settled_once s))
allowed_alike s (events.CompactTo floor dropped) first =
    ap (λ (x : State). may_compact (topic_of x) (at_floor floor dropped)) (sym (settled_once s))
allowed_alike s (events.Take node records) first = absurd (false≢true first)
allowed_alike s (events.CompactNode node) first = absurd (false≢true first)
allowed_alike s (events.MergeFrom node other) first = absurd (false≢true first)
allowed_alike s (events.Rebase node) first = absurd (false≢true first)
allowed_alike s (events.Restart node) first = absurd (false≢true first)
allowed_alike s (events.Lookup node query) first = absurd (false≢true first)

does_alike : (s : State) (e : Event) (o : Outcome) (t : State) → settles_first e ≡ true
    → (Does s e o t → Does (settled s) e o t) × (Does (settled s) e o t → Does s e o t)
does_alike s (events.Command node command fate) o t first =
    let at : State → Type 0 = λ x. Steps x command fate o t in (subst at (sym (settled_once s)), subst at (settled_once s))
does_alike s (events.Compact dropped) o t first =
    let at : State → Type 0 = λ x. (o ≡ outcomes.Done) × (t ≡ publish x (items.Compaction (at_floor (topic_of x).kept.floor dropped))) in
    (subst at (sym (settled_once s)), subst at (settled_once s))
does_alike s (events.CompactTo floor dropped) o t first =
    let at : State → Type 0 = λ x. (o ≡ outcomes.Done) × (t ≡ publish x (items.Compaction (at_floor floor dropped))) in
    (subst at (sym (settled_once s)), subst at (settled_once s))
does_alike s (events.Take node records) o t first = absurd (false≢true first)
does_alike s (events.CompactNode node) o t first = absurd (false≢true first)
does_alike s (events.MergeFrom node other) o t first = absurd (false≢true first)
does_alike s (events.Rebase node) o t first = absurd (false≢true first)
does_alike s (events.Restart node) o t first = absurd (false≢true first)
does_alike s (events.Lookup node query) o t first = absurd (false≢true first)

agree_first : (s : State) (e : Event) → settles_first e ≡ true → floors_agree s e ≡ true
agree_first s e first =
    elim (floors_agree s e) as (λ b. floors_agree s e ≡ b → b ≡ true) [
      | true ↦ λ _. refl
      | false ↦ λ differ. absurd (false≢true (sym (settles_alone s e differ) ∙ first))
    ] refl

done_of : (s t : State) (e : Event) (o : Outcome) → settles_first e ≡ true → is_allowed s e ≡ true → Happens s e o t → Does s e o t
done_of s t e o first fine happens =
    elim (went s t e o happens) as (λ _. Does s e o t) [
      | inl did ↦ did.does
      | inr (inl differed) ↦ absurd (false≢true (sym differed.differ ∙ agree_first s e first))
      | inr (inr refused) ↦ absurd (false≢true (sym refused.no ∙ fine))
    ]

pub unsettled_counts : UnsettledCounts
unsettled_counts s e first =
    let same = allowed_alike s e first in (
      same,
      λ fine o t. (
        (λ happens.
            allowed (settled s) t e o (sym same ∙ fine) (agree_first (settled s) e first)
            ((does_alike s e o t first).0 (done_of s t e o first fine happens))),
        (λ happens.
            allowed s t e o fine (agree_first s e first)
            ((does_alike s e o t first).1 (done_of (settled s) t e o first (sym same ∙ fine) happens))),
      ),
    )

module _ (l : LowerLaws) where
  goes_on : (w : State) (u : Option Commit) → IfSome u (MayCommit (topic_of w))
      → IfSome u (λ commit. topic_of (settle u w) ≡ after_batch true (topic_of w) commit.batch)
  goes_on w None may = tt
  goes_on w (Some commit) may =
      l.in_turn w.base w.items (items.Commit commit) ∙ ap (λ b. after_batch b (topic_of w) commit.batch) (l.commits (topic_of w) commit may)

  pub unsettled_goes_on : UnsettledGoesOn
  unsettled_goes_on es w a = goes_on w w.unsettled (sound-after l es w a).pending
