-- A compaction that follows on a submit.
use Rattle.std.proofs.Common.{◌≡◌, ◌⊎◌, inl, inr, ℕ, ◌/◌, ◌<◌, ◌≤◌, Bool, true, false, List, Option, Result, Ok, Err}
use Rattle.std.proofs.Common.{OnOk, IfErr, MatchBool, refl, sym, ap, subst, ◌∙◌, arith, Bor}
use Rattle.std.proofs.lemmas.Bool.Decides.{Decides-ltb}
use Rattle.reg_records.specs.declared.record.Record.{Record}
use Rattle.reg_leader.specs.declared.command.Command.{Command}
use Rattle.reg_leader.specs.declared.reply.Reply.{Reply}
use Rattle.reg_topic.specs.declared.published.Item.{Item}
use Rattle.reg_topic.specs.declared.topic.Topic.{Topic}
use Rattle.reg_pen.specs.Deletes.{floor_due}
use Rattle.reg_pen.specs.Pen.{Compacts, CompactsOrNot, IsCompactRefusal, IsUnsettled, PenState, Submits, batches, with_pending}
use Rattle.reg_pen.specs.Writing.{SubmitsAndCompacts, passes_multiple}
use Rattle.reg_pen.specs.declared.compact_error.CompactError.{CompactError}
use Rattle.reg_pen.specs.declared.compact_error.CompactError.TheVariants as refused
use Rattle.reg_pen.specs.declared.keep.Kept.{Kept}
use Rattle.reg_pen.specs.declared.writing.TheConstants.{BATCHES}

-- it is done or refused
done_or_not : {K X : Type 0} (base : Topic) (floor : ℕ) (l m : PenState K) (r : Result X CompactError)
    → OnOk r (Compacts base floor l m) → IfErr r (λ error. IsCompactRefusal base floor l error m) → CompactsOrNot base floor l m
done_or_not base floor l m (Ok x) ok err = inl ok
done_or_not base floor l m (Err e) ok err = inr (e, err)

-- the kept floor may be set
kept_floor : {K : Type 0} (base : Topic) (floor : ℕ) (l m : PenState K) (error : CompactError)
    → floor ≡ (with_pending base l).kept.floor → (with_pending base l).kept.floor ≤ (with_pending base l).next
    → IsCompactRefusal base floor l error m → IsUnsettled base floor l error m
kept_floor base floor l m (refused.FloorBelow kept) is below h =
    let same : kept ≡ (with_pending base l).kept.floor = h.0 in
    let less : floor < kept = h.1 in
    absurd (omega (arith, is, same, less))
kept_floor base floor l m (refused.FloorAhead next) is below h =
    let same : next ≡ (with_pending base l).next = h.0 in
    let less : next < floor = h.2 in
    absurd (omega (arith, is, same, less, below))
kept_floor base floor l m refused.OutOfMemory is below h = h.1
kept_floor base floor l m refused.Lost is below h = h.1

pub unsettled_or_not : {K X : Type 0} (base : Topic) (floor : ℕ) (l m : PenState K) (r : Result X CompactError)
    → floor ≡ (with_pending base l).kept.floor → (with_pending base l).kept.floor ≤ (with_pending base l).next
    → IfErr r (λ error. IsCompactRefusal base floor l error m)
    → IfErr r (λ error. IsUnsettled base (with_pending base l).kept.floor l error m)
unsettled_or_not base floor l m (Ok x) is below err = tt
unsettled_or_not base floor l m (Err e) is below err =
    subst (λ (n : ℕ). IsUnsettled base n l e m) is (kept_floor base floor l m e is below err)

passes : (m n : ℕ) → m / BATCHES < n / BATCHES → passes_multiple m n ≡ true
passes m n h = (Decides-ltb (m / BATCHES) (n / BATCHES)).1 h

not_true : (b : Bool) → (b ≡ true → ⊥) → b ≡ false
not_true true never = absurd (never refl)
not_true false never = refl

passes_none : (m n : ℕ) → n / BATCHES ≤ m / BATCHES → passes_multiple m n ≡ false
passes_none m n h =
    not_true (passes_multiple m n) (λ yes. let less : m / BATCHES < n / BATCHES = (Decides-ltb (m / BATCHES) (n / BATCHES)).0 yes in omega arith)

module _ {K : Type 0} (keeps : K → List Record → Kept → K → Type 0) (base : Topic) (since : Option (Bor (List Item)))
    (l mid : PenState K) (c : Command) (reply : Reply) (told : List Item) (before after : ℕ)
    (submits : Submits keeps base since l c reply mid) (tells : told ≡ mid.published)
    (at_first : before ≡ batches l.published) (at_last : after ≡ batches mid.published) where
  test_is : (b : Bool) → passes_multiple before after ≡ b → passes_multiple (batches l.published) (batches mid.published) ≡ b
  test_is b h = sym (λ i. passes_multiple (at_first i) (at_last i)) ∙ h

  pub compacts_then : {X : Type 0} (m : PenState K) (floor : ℕ) (r : Result X CompactError)
      → before / BATCHES < after / BATCHES → floor ≡ floor_due base mid
      → OnOk r (Compacts base floor mid m) → IfErr r (λ error. IsCompactRefusal base floor mid error m)
      → SubmitsAndCompacts keeps base since l c reply told m
  compacts_then m floor r passed is ok err = record {
    submitted = mid;
    submits = submits;
    tells = tells;
    compacts = subst (λ (b : Bool). MatchBool b (CompactsOrNot base (floor_due base mid) mid m) (m ≡ mid))
        (sym (test_is true (passes before after passed)))
        (subst (λ (f : ℕ). CompactsOrNot base f mid m) is (done_or_not base floor mid m r ok err));
  }

  pub compacts_not : after / BATCHES ≤ before / BATCHES → SubmitsAndCompacts keeps base since l c reply told mid
  compacts_not none = record {
    submitted = mid;
    submits = submits;
    tells = tells;
    compacts = subst (λ (b : Bool). MatchBool b (CompactsOrNot base (floor_due base mid) mid mid) (mid ≡ mid))
        (sym (test_is false (passes_none before after none))) refl;
  }
