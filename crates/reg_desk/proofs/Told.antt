-- What the pen tells of a command.
use Rattle.std.proofs.Common.{◌≡◌, ◌⊎◌, inl, inr, ◌+◌, ◌≤◌, List, [], ◌∷◌, ◌++◌, true, length, Option}
use Rattle.std.proofs.Common.{Some, None, MatchBool, option_map, refl, sym, ap, subst, ◌∙◌, arith, length-append, Bor}
use mathlib.Core.List.{IsPrefix}
use Rattle.reg_records.specs.declared.record.Record.{Record}
use Rattle.reg_leader.specs.declared.command.Command.{Command}
use Rattle.reg_leader.specs.declared.reply.Reply.{Reply}
use Rattle.reg_leader.specs.declared.reply.Reply.TheVariants as replies
use Rattle.reg_topic.specs.declared.published.Item.{Item}
use Rattle.reg_topic.specs.declared.published.Item.TheVariants as items
use Rattle.reg_topic.specs.declared.topic.Topic.{Topic}
use Rattle.reg_shared.specs.Held.{Held, base_of}
use Rattle.reg_pen.specs.Pen.{Acts, Follows, IsBehind, IsPen, IsStepAfter, PenState, Submits, StillPends, item_of, counted, settled}
use Rattle.reg_pen.specs.Writing.{SubmitsAndCompacts}
use Rattle.reg_pen.specs.declared.keep.Kept.{Kept}
use Rattle.reg_pen.specs.declared.keep.Kept.TheVariants.{Taken, Declined, Lost, Unknown}
use Rattle.reg_node.specs.declared.take.Draw.{Draw}
use Rattle.reg_desk.specs.Desk.{DeskCommands, IsFresh, IsNext, IsSubmitted, IsWritten, Known, Replies, front_of}
use Rattle.reg_desk.specs.Told.{IsTold, front_at}
use Rattle.reg_desk.proofs.Fresh.{prefix_trans}

-- beginnings of one another are equal
no_more : {A : Type 0} (xs ys : List A) → length ys ≤ length xs → IsPrefix xs ys → xs ≡ ys
no_more [] [] le p = refl
no_more [] (y ∷ ys) le p = absurd (omega arith)
no_more (x ∷ xs) [] le p = absurd (cc (p.1))
no_more (x ∷ xs) (y ∷ ys) le p =
    let rest = no_more xs ys (omega arith) (p.0, cc (p.1)) in cc (p.1, rest)

pub same_front : {A : Type 0} (before told found : List A) → (found ≡ before) ⊎ (found ≡ told)
    → IsPrefix told found → IsPrefix before told → found ≡ told
same_front before told found (inr e) p q = e
same_front before told found (inl e) p q =
    let here : IsPrefix told before = subst (λ (w : List _). IsPrefix told w) e p in
    let a : length told + length here.0 ≡ length before = sym (length-append told here.0) ∙ ap length here.1 in
    e ∙ no_more before told (omega (arith, a)) q

front_is : (since : Option (Bor (List Item))) → front_at since ≡ front_of (option_map (λ (s : Bor (List Item)). s.now) since)
front_is None = refl
front_is (Some since) = refl

behind_front : (since : Option (Bor (List Item))) (is : List Item) → IsBehind since is → IsPrefix (front_at since) is
behind_front None is h = (is, refl)
behind_front (Some since) is h = h

module _ {K : Type 0} (keeps : K → List Record → Kept → K → Type 0) where
  module _ (base : Topic) (c : Command) where
    stays : (before is js : List Item) (reply : Reply) → IsPrefix before is → js ≡ is
        → Replies keeps base before c reply js → IsNext keeps base before c reply js
    stays before is js reply p e r = record { grows = subst (λ (w : List Item). IsPrefix before w) (sym e) p; replies = r }

    waits : (before is js : List Item) (reply : Reply) → IsPrefix before is → js ≡ is
        → (pending : List Item) → StillPends pending reply → IsTold keeps base before c reply js
    waits before is js reply p e [] w = absurd w
    waits before is js reply p e (items.Commit commit ∷ []) w = inr (stays before is js reply p e (inr (inr (inl (w.0.offset, w.3)))))
    waits before is js reply p e (items.Compaction dropped ∷ []) w = inl w
    waits before is js reply p e (items.Commit commit ∷ j ∷ rest) w = absurd w
    waits before is js reply p e (items.Compaction dropped ∷ j ∷ rest) w = absurd w

    -- what followed on a batch that was lent
    followed : (before : List Item) (l m : PenState K) (reply replied : Reply)
        (first : Record) (rest : List Record) (kept : Kept) (keep : K)
        → IsPrefix before l.published
        → IsStepAfter base l.published c replied (first ∷ rest) → keeps l.keep (first ∷ rest) kept keep
        → Follows kept (item_of c (first ∷ rest)) replied (replies.Unsettled first.offset) (record l { keep = keep }) reply m
        → IsNext keeps base before c reply m.published
    followed before l m reply replied first rest Taken keep p step lent (inl done) =
        let ends : m.published ≡ l.published ++ item_of c (first ∷ rest) = ap (λ (s : PenState K). s.published) done.1 in record {
          grows = subst (λ (w : List Item). IsPrefix before w) (sym ends)
              (prefix_trans before l.published (l.published ++ item_of c (first ∷ rest)) p (item_of c (first ∷ rest), refl));
          replies = inr (inl (record {
            front = l.published;
            first = first;
            rest = rest;
            later = p;
            step = subst (λ (r : Reply). IsStepAfter base l.published c r (first ∷ rest)) (sym done.0) step;
            ends = ends;
          }));
        }
    followed before l m reply replied first rest Taken keep p step lent (inr waiting) =
        stays before l.published m.published reply p (ap (λ (s : PenState K). s.published) waiting.1)
        (inr (inr (inl (first.offset, waiting.0))))
    followed before l m reply replied first rest (Declined lack) keep p step lent refused =
        let same : m.published ≡ l.published = ap (λ (s : PenState K). s.published) refused.1 in
        stays before l.published m.published reply p same (inr (inr (inr (inl (record {
          replied = replied;
          first = first;
          rest = rest;
          step = subst (λ (w : List Item). IsStepAfter base w c replied (first ∷ rest)) (sym same) step;
          lack = lack;
          keep = l.keep;
          keep' = keep;
          lent = lent;
          told = refused.0;
        })))))
    followed before l m reply replied first rest Lost keep p step lent lost =
        stays before l.published m.published reply p (ap (λ (s : PenState K). s.published) lost.1) (inr (inr (inl (first.offset, lost.0))))
    followed before l m reply replied first rest Unknown keep p step lent unknown =
        stays before l.published m.published reply p (ap (λ (s : PenState K). s.published) unknown.1)
        (inr (inr (inl (first.offset, unknown.0))))

    acts : (before : List Item) (l m : PenState K) (reply : Reply) → IsPrefix before l.published
        → Acts keeps base l c reply m → IsTold keeps base before c reply m.published
    acts before l m reply p (inl none) =
        let same : m.published ≡ l.published = ap (λ (s : PenState K). s.published) none.1 in
        inr (
        stays before l.published m.published reply p same (
        inl (subst (λ (w : List Item). IsStepAfter base w c reply []) (sym same) none.0)))
    acts before l m reply p (inr (inl lent)) =
        inr (followed before l m reply lent.replied lent.first lent.rest lent.kept lent.keep p lent.step lent.lent lent.follows)
    acts before l m reply p (inr (inr none)) = inl none.0

    told : (since : Option (Bor (List Item))) (l m : PenState K) (reply : Reply)
        → Submits keeps base since l c reply m → IsTold keeps base (front_at since) c reply m.published
    told since l m reply (inl ahead) = inl ahead.1
    told since l m reply (inr (behind, inl w)) =
        waits (front_at since) l.published m.published reply (behind_front since l.published behind)
        (ap (λ (s : PenState K). s.published) w.1) l.pending w.0
    told since l m reply (inr (behind, inr a)) =
        acts (front_at since) (settled l) m reply
        (prefix_trans (front_at since) l.published (l.published ++ l.pending)
        (behind_front since l.published behind) (l.pending, refl)) a.1

  pub is_told : (base : Topic) (since : Option (Bor (List Item))) (l m : PenState K) (c : Command) (reply : Reply) (seen : List Item)
      → Submits keeps base since l c reply m → seen ≡ m.published
      → IsTold keeps base (front_at since) c reply seen
  is_told base since l m c reply seen s e =
      subst (λ (w : List Item). IsTold keeps base (front_at since) c reply w) (sym e) (told base c since l m reply s)

  pub is_next : (base : Topic) (before told found : List Item) (c : Command) (reply : Reply)
      → IsTold keeps base before c reply told → IsPrefix before found → (IsPrefix before told → found ≡ told)
      → IsNext keeps base before c reply found
  is_next base before told found c reply (inl none) grows same = record { grows = grows; replies = inr (inr (inr (inr none))) }
  is_next base before told found c reply (inr next) grows same =
      subst (λ (w : List Item). IsNext keeps base before c reply w) (sym (same next.grows)) next

  -- what a pen did is a submit
  pub is_submitted : (base : Topic) (before : Option (List Item)) (since : Option (Bor (List Item))) (old new : PenState K)
      (c : Command) (reply : Reply) (told : List Item) → SubmitsAndCompacts keeps base since old c reply told new
      → IsPen base old.published old.pending → option_map (λ (s : Bor (List Item)). s.now) since ≡ before
      → IsSubmitted keeps base before c reply told
  is_submitted base before since old new c reply told done was same =
      record { old = old; was = was; since = since; with_front = same; new = new; done = done }

  pub is_written : (base : Topic) (before : Option (List Item)) (c : Command) (reply : Reply) (told found : List Item)
      → IsSubmitted keeps base before c reply told → (IsPrefix (front_of before) told → found ≡ told)
      → IsWritten keeps base before c reply found
  is_written base before c reply told found s same = record { told = told; submitted = s; is_told = same }

  -- what comes of a submit by whoever had that front
  pub submitted_told : (base : Topic) (before : Option (List Item)) (c : Command) (reply : Reply) (told : List Item)
      → IsSubmitted keeps base before c reply told → IsTold keeps base (front_of before) c reply told
  submitted_told base before c reply told s =
      subst (λ (w : List Item). IsTold keeps base w c reply told) (front_is s.since ∙ ap front_of s.with_front)
      (is_told base s.since s.old s.done.submitted c reply told s.done.submits s.done.tells)

  module _ {W : Type 0} (wakes : W → List Item → W → Type 0) where
    -- the view may show more before the command is submitted, and again after it
    pub commands : (first : Held) (inside before after : Known W) (c : Command) (reply : Reply) (front : List Item) (shown : List Draw)
        → inside ≡ before → after.seen ≡ Some front
        → after.submits ≡ counted inside.submits → IsWritten keeps (base_of first) inside.seen c reply front
        → IsNext keeps (base_of first) (front_of inside.seen) c reply front → wakes inside.wake front after.wake
        → IsPrefix inside.view shown
        → MatchBool after.fresh (IsPrefix shown after.view × IsFresh first front after.view) (after.view ≡ shown)
        → DeskCommands keeps wakes first before c reply after
    commands first inside before after c reply front shown same seen counts written next woken grows shows =
        subst (λ (k : Known W). DeskCommands keeps wakes first k c reply after) same (record {
          counts = counts;
          front = front;
          seen = seen;
          written = written;
          next = next;
          woken = woken;
          judged = shown;
          judges = grows;
          shows = shows;
        })
