-- How lines are taken one after the other.
use Rattle.std.proofs.Common.{◌≡◌, ℕ, List, [], ◌∷◌, ◌++◌, Some, Result, Ok, Err, IfErr, OnErr, refl}
use Rattle.std.proofs.Common.{sym, ap, subst, ◌∙◌, append_assoc, append-nil, option_to_list}
use mathlib.Core.List.{IsPrefix}
use Rattle.reg_journal.specs.Lines.{text_of}
use Rattle.reg_records.specs.Device.{counted}
use Rattle.reg_records.specs.Log.{record_in, records_in}
use Rattle.reg_records.specs.Pieces.{HasNoLineFeed}
use Rattle.reg_records.specs.declared.record.Read.{Read}
use Rattle.reg_records.specs.declared.record.Read.TheVariants as reads
use Rattle.reg_records.specs.declared.record.Record.{Record}
use Rattle.reg_node.specs.Takes.{takes_of}
use Rattle.reg_node.specs.declared.take.Draw.{Draw}
use Rattle.reg_intake.specs.Intake.{Comes, HasRead, IsRefusal, Unread, with_bytes}
use Rattle.reg_intake.specs.declared.fault.IntakeError.{IntakeError}
use Rattle.reg_intake.specs.declared.fault.IntakeError.TheVariants as intakes
use Rattle.reg_intake.specs.declared.incoming.Came.{Came}
use Rattle.reg_intake.specs.declared.incoming.Came.TheVariants as cames
use Rattle.reg_follow.specs.Following.{Adds, ComesTo, Following, GoesOn, HasTaken, IsStopped, TakesLine, draws_of, list_of, published}
use Rattle.reg_follow.specs.declared.intake.Stop.{Stop}
use Rattle.reg_follow.specs.declared.intake.Stop.TheVariants.{Ended, Full, Waits}

records_in-append : (read more : List Read) → records_in (read ++ more) ≡ records_in read ++ records_in more
records_in-append [] more = refl
records_in-append (reads.Record r ∷ read) more = ap (λ (l : List Record). r ∷ l) (records_in-append read more)
records_in-append (reads.Foreign offset ∷ read) more = records_in-append read more

takes-append : (records more : List Record) → takes_of 0 (records ++ more) ≡ takes_of 0 records ++ takes_of 0 more
takes-append [] more = refl
takes-append (r ∷ records) more = ap (λ (l : List Draw). draws_of (reads.Record r ∷ []) ++ l) (takes-append records more)

of_one : (r : Read) → records_in (r ∷ []) ≡ option_to_list (record_in r)
of_one (reads.Record r) = refl
of_one (reads.Foreign offset) = refl

one_more : (read : List Read) (r : Read) → draws_of (read ++ r ∷ []) ≡ draws_of read ++ takes_of 0 (option_to_list (record_in r))
one_more read r =
    ap (takes_of 0) (records_in-append read (r ∷ []))
    ∙ takes-append (records_in read) (records_in (r ∷ []))
    ∙ ap (λ l. draws_of read ++ takes_of 0 l) (of_one r)

-- a line that was read, and whose record is appended
pub added : (text : List ℕ) (read : List Read) (r : Read) (old new : Following)
    → HasRead text (read ++ r ∷ []) old.unread → list_of old ≡ draws_of read
    → Adds old r new → HasTaken text (read ++ r ∷ []) new
added text read r old new has list adds = record {
  has = subst (λ (u : Unread). HasRead text (read ++ r ∷ []) u) (sym adds.unread) has;
  list =
      ap (λ (l : List Draw). l ++ new.pending) adds.published
      ∙ ap (λ (l : List Draw). old.published ++ l) adds.pending
      ∙ sym (append_assoc old.published old.pending (takes_of 0 (option_to_list (record_in r))))
      ∙ ap (λ (l : List Draw). l ++ takes_of 0 (option_to_list (record_in r))) list
      ∙ sym (one_more read r);
}

lists : (old new : Following) → new.published ≡ old.published → new.pending ≡ old.pending → list_of new ≡ list_of old
lists old new shown left = ap (λ (l : List Draw). l ++ new.pending) shown ∙ ap (λ (l : List Draw). old.published ++ l) left

-- what came next, where the list stays
pub came_to : (text : List ℕ) (read : List Read) (came : Came) (old new before : Following)
    → old ≡ before → new.published ≡ old.published → new.pending ≡ old.pending
    → HasTaken text read old → Comes text read old.unread came new.unread → ComesTo text read before came new
came_to text read (cames.Line r) old new before is shown left has comes =
    (comes.0, lists old new shown left ∙ has.list, comes.1.count ∙ ap (λ (s : Following). counted s.unread.count) is)
came_to text read cames.Floor old new before is shown left has comes = (
  record { has = comes.0; list = lists old new shown left ∙ has.list },
  comes.1.count ∙ ap (λ (s : Following). counted s.unread.count) is,
)
came_to text read cames.End old new before is shown left has comes = (
  record { has = subst (λ (u : Unread). HasRead text read u) (sym comes.0) has.has; list = lists old new shown left ∙ has.list },
  (comes.1.0, ap (λ (u : Unread). u.bytes) comes.0 ∙ comes.1.1),
)
came_to text read cames.Nothing old new before is shown left has comes = (
  record { has = subst (λ (u : Unread). HasRead text read u) (sym comes.0) has.has; list = lists old new shown left ∙ has.list },
  subst (λ (u : Unread). HasNoLineFeed u.bytes) (sym comes.0) comes.1,
)

-- it stops where nothing more was read
pub stopped : (text : List ℕ) (read : List Read) (e : IntakeError) (s : Following)
    → HasTaken text read s → IsRefusal s.unread e → IsStopped text read e s
stopped text read e s has refusal = record {
  more = [];
  has = subst (λ (r : List Read). HasRead text r s.unread) (sym (append-nil read)) has.has;
  begins = ([], append-nil (list_of s) ∙ has.list ∙ ap draws_of (sym (append-nil read)));
  refusal = refusal;
}

-- or where a line was read whose record isn't there
pub stopped_behind : (text : List ℕ) (read : List Read) (r : Read) (e : IntakeError) (s : Following)
    → HasRead text (read ++ r ∷ []) s.unread → list_of s ≡ draws_of read
    → IsRefusal s.unread e → IsStopped text read e s
stopped_behind text read r e s has list refusal = record {
  more = r ∷ [];
  has = has;
  begins = (
    takes_of 0 (option_to_list (record_in r)),
    ap (λ (l : List Draw). l ++ takes_of 0 (option_to_list (record_in r))) list ∙ sym (one_more read r),
  );
  refusal = refusal;
}

-- more behind more
pub more_taken : (text : List ℕ) (read more next : List Read) (s : Following)
    → HasTaken text ((read ++ more) ++ next) s → HasTaken text (read ++ (more ++ next)) s
more_taken text read more next s has = subst (λ (r : List Read). HasTaken text r s) (append_assoc read more next) has

-- it stops before a line that isn't taken
pub stops_there : (text : List ℕ) (read more : List Read) (old mid new : Following) (stop : Stop)
    → TakesLine text (read ++ more) mid (Some stop) new → GoesOn text read stop old new
stops_there text read more old mid new Full it = absurd it.1
stops_there text read more old mid new Waits it = record { more = more; taken = it.0; stops = it.1 }
stops_there text read more old mid new Ended it = record { more = more; taken = it.0; stops = it.1 }

pub is_stopped : (text : List ℕ) (read more : List Read) (e : IntakeError) (s : Following)
    → IsStopped text (read ++ more) e s → IsStopped text read e s
is_stopped text read more e s it = record {
  more = more ++ it.more;
  has = subst (λ (r : List Read). HasRead text r s.unread) (append_assoc read more it.more) it.has;
  begins = subst (λ (r : List Read). IsPrefix (list_of s) (draws_of r)) (append_assoc read more it.more) it.begins;
  refusal = it.refusal;
}

-- what is published is as it was
pub shown : (text : List ℕ) (read : List Read) (s : Following) → HasTaken text read s → HasTaken text read (published s)
shown text read s has = record { has = has.has; list = append-nil (list_of s) ∙ has.list }

-- an error of the next line, where all stays
pub refused : (text : List ℕ) (read : List Read) (result : Result Came IntakeError) (old new : Following)
    → new.published ≡ old.published → new.pending ≡ old.pending
    → HasTaken text read old → OnErr result (new.unread ≡ old.unread)
    → IfErr result (IsRefusal old.unread) → IfErr result (λ e. IsStopped text read e new)
refused text read (Ok came) old new shown left has same refusal = tt
refused text read (Err e) old new shown left has same refusal =
    stopped text read e new
    (record { has = subst (λ (u : Unread). HasRead text read u) (sym same) has.has; list = lists old new shown left ∙ has.list })
    (subst (λ (u : Unread). IsRefusal u e) (sym same) refusal)

pub more_of_none : (text : List ℕ) (read : List Read) (s : Following)
    → HasTaken text read s → (more : List Read) × HasTaken text (read ++ more) s
more_of_none text read s has = ([], subst (λ (r : List Read). HasTaken text r s) (sym (append-nil read)) has)

-- memory was refused behind lines that were taken
pub refused_memory : (text : List ℕ) (read : List Read) (stop : Stop) (old s : Following)
    → GoesOn text read stop old s → IsStopped text read intakes.OutOfMemory s
refused_memory text read stop old s go = record {
  more = go.more;
  has = go.taken.has;
  begins = ([], append-nil (list_of s) ∙ go.taken.list);
  refusal = tt;
}

-- what is pending is published
pub goes_on_shown : (text : List ℕ) (read : List Read) (stop : Stop) (old s : Following)
    → GoesOn text read stop old s → GoesOn text read stop old (published s)
goes_on_shown text read Full old s go = record { more = go.more; taken = shown text (read ++ go.more) s go.taken; stops = go.stops }
goes_on_shown text read Waits old s go = record { more = go.more; taken = shown text (read ++ go.more) s go.taken; stops = go.stops }
goes_on_shown text read Ended old s go = record { more = go.more; taken = shown text (read ++ go.more) s go.taken; stops = go.stops }

pub same_following : (old new : Following)
    → new.unread ≡ old.unread → new.published ≡ old.published → new.pending ≡ old.pending → new ≡ old
same_following old new unread shown left =
    ap (λ (u : Unread). record new { unread = u }) unread
    ∙ ap (λ (l : List Draw). record old { published = l; pending = new.pending }) shown
    ∙ ap (λ (l : List Draw). record old { pending = l }) left

more_bytes : (text : List ℕ) (read : List Read) (u : Unread) (bytes : List ℕ)
    → HasRead text read u → HasRead (text ++ bytes) read (with_bytes u bytes)
more_bytes text read u bytes has = record {
  lines = has.lines;
  floor = has.floor;
  parts = ap (λ (t : List ℕ). t ++ bytes) has.parts ∙ append_assoc (text_of has.lines) u.bytes bytes;
  say = has.say;
  count = has.count;
}

-- bytes came behind those before
pub bytes_taken : (text : List ℕ) (read : List Read) (old new : Following) (bytes : List ℕ)
    → new.unread ≡ with_bytes old.unread bytes → new.published ≡ old.published → new.pending ≡ old.pending
    → HasTaken text read old → HasTaken (text ++ bytes) read new
bytes_taken text read old new bytes came shown left has = record {
  has = subst (λ (u : Unread). HasRead (text ++ bytes) read u) (sym came) (more_bytes text read old.unread bytes has.has);
  list = lists old new shown left ∙ has.list;
}
