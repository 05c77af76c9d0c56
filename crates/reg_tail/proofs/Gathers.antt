-- How the lines of a piece are gathered.
use Rattle.std.proofs.Common.{◌≡◌, ◌⊎◌, ⊎_elim, ◌+◌, ℕ, suc, max, Bool, cond, true, false, List, [], ◌∷◌, ◌++◌, length}
use Rattle.std.proofs.Common.{take, refl, sym, ap, ◌∙◌, arith, append_assoc, append-nil, length-append, nat_le}
use Rattle.reg_journal.specs.Lines.{Say, text_of}
use Rattle.reg_records.specs.Log.{log_from, offset_in}
use Rattle.reg_records.specs.declared.record.Read.{Read}
use Rattle.reg_tail.specs.Gathered.{Gathers, Takes}
use Rattle.reg_tail.specs.Line.{IsFront, IsPieceRefusal}
use Rattle.reg_tail.specs.Tail.{HasPassed, lines_from}
use Rattle.reg_tail.specs.declared.error.TailError.{TailError}
use Rattle.reg_tail.specs.declared.error.TailError.TheVariants.{Line, NoEmptyLine, Floor, ReadFault, SyncFault, WriteFault, OutOfMemory}
use Rattle.reg_tail.specs.declared.gathered.Gathered.{Gathered}
use Rattle.reg_tail.specs.declared.tail.Tail.{Tail}
use Rattle.reg_tail.proofs.Lines.{fault_behind, parts}
use Rattle.reg_tail.proofs.Texts.{Say-append, line_of, lines_from-append, next_after-append, text_of-append}

-- ---- one line

-- its text is added, or it is below the offset
abbrev pub Adds : (from offset : ℕ) (old new taken : List ℕ) → Type 0
Adds from offset old new taken = ((nat_le from offset ≡ true) × (new ≡ old ++ taken)) ⊎ ((nat_le from offset ≡ false) × (new ≡ old))

abbrev one : Bool → List ℕ → List (List ℕ)
one b line = cond b (line ∷ []) []

adds : (from : ℕ) (read : Read) (line old new taken : List ℕ) → taken ≡ line ++ 10 ∷ [] → Adds from (offset_in read) old new taken
    → new ≡ old ++ text_of (lines_from from (line ∷ []) (read ∷ []))
adds from read line old new taken is added =
    ⊎_elim
    (λ yes. yes.1 ∙ ap (λ (l : List ℕ). old ++ l) (is ∙ ap (λ b. text_of (one b line)) (sym yes.0)))
    (λ no. no.1 ∙ sym (append-nil old) ∙ ap (λ b. old ++ text_of (one b line)) (sym no.0))
    added

pub takes : (text : List ℕ) (old mid : Gathered) (tail : Tail) (len : ℕ) (read : Read)
    → IsFront (old.tail.lines + 1) text len read → mid.tail ≡ old.tail
    → tail.place ≡ mid.tail.place + len → tail.lines ≡ mid.tail.lines + 1
    → tail.from ≡ mid.tail.from → tail.next ≡ max mid.tail.next (suc (offset_in read))
    → Adds old.tail.from (offset_in read) old.text.items mid.text.items (take len text)
    → Takes text old (record { tail = tail; text = mid.text }) len
takes text old mid tail len read front same place count from next added = record {
  read = read;
  front = front;
  given = adds old.tail.from read front.line old.text.items mid.text.items (take len text)
      (line_of front.line front.behind text len front.parts front.size) added;
  passed = record {
    place = omega (arith, place, ap (λ (t : Tail). t.place) same, front.size, length-append front.line (10 ∷ []));
    count = omega (arith, count, ap (λ (t : Tail). t.lines) same);
    from = from ∙ ap (λ (t : Tail). t.from) same;
    next = next ∙ ap (λ (t : Tail). max t.next (suc (offset_in read))) same ∙ ap (max old.tail.next) (omega arith);
  };
}

-- ---- lines behind lines

pub begun : (piece : List ℕ) (g : Gathered) → Gathers piece piece g g
begun piece g = record {
  lines = [];
  read = [];
  parts = refl;
  say = tt;
  given = sym (append-nil g.text.items);
  passed = record { place = omega arith; count = omega arith; from = refl; next = omega arith };
}

pub given_then : (from : ℕ) (lines more : List (List ℕ)) (read next : List Read) (old now new : List ℕ) → Say lines read
    → now ≡ old ++ text_of (lines_from from lines read) → new ≡ now ++ text_of (lines_from from more next)
    → new ≡ old ++ text_of (lines_from from (lines ++ more) (read ++ next))
given_then from lines more read next old now new say first then =
    then
    ∙ ap (λ (l : List ℕ). l ++ text_of (lines_from from more next)) first
    ∙ append_assoc old (text_of (lines_from from lines read)) (text_of (lines_from from more next))
    ∙ ap (λ (l : List ℕ). old ++ l) (sym (text_of-append (lines_from from lines read) (lines_from from more next)))
    ∙ ap (λ (l : List (List ℕ)). old ++ text_of l) (sym (lines_from-append from lines more read next say))

pub passed_then : (lines more : List (List ℕ)) (read next : List Read) (old now new : Tail)
    → HasPassed lines read old now → HasPassed more next now new → HasPassed (lines ++ more) (read ++ next) old new
passed_then lines more read next old now new first then = record {
  place = omega (arith, first.place, then.place, ap length (text_of-append lines more), length-append (text_of lines) (text_of more));
  count = omega (arith, first.count, then.count, length-append lines more);
  from = then.from ∙ first.from;
  next = omega (arith, first.next, then.next, next_after-append read next);
}

module _ (piece rest : List ℕ) (old now : Gathered) (go : Gathers piece rest old now) where
  pub stepped : (new : Gathered) (len : ℕ) (t : Takes rest now new len) → Gathers piece t.front.behind old new
  stepped new len t =
      let line = t.front.line in
      let behind = t.front.behind in
      let given : new.text.items ≡ now.text.items ++ text_of (lines_from old.tail.from (line ∷ []) (t.read ∷ [])) =
      t.given ∙ ap (λ from. now.text.items ++ text_of (lines_from from (line ∷ []) (t.read ∷ []))) go.passed.from in
      record {
        lines = go.lines ++ line ∷ [];
        read = go.read ++ t.read ∷ [];
        parts =
            go.parts
            ∙ ap (λ (l : List ℕ). text_of go.lines ++ l) (t.front.parts ∙ sym (append_assoc line (10 ∷ []) behind))
            ∙ sym (append_assoc (text_of go.lines) (line ++ 10 ∷ []) behind)
            ∙ ap (λ (l : List ℕ). l ++ behind) (sym (text_of-append go.lines (line ∷ [])));
        say = Say-append go.lines (line ∷ []) go.read (t.read ∷ []) go.say (t.front.some, t.front.free, t.front.says, tt);
        given = given_then old.tail.from go.lines (line ∷ []) go.read
            (t.read ∷ []) old.text.items now.text.items new.text.items go.say go.given given;
        passed = passed_then go.lines (line ∷ []) go.read (t.read ∷ []) old.tail now.tail new.tail go.passed t.passed;
      }

  pub refused : (e : TailError) → IsPieceRefusal (now.tail.lines + 1) rest e → IsPieceRefusal (old.tail.lines + 1) piece e
  refused (Line line fault) is =
      let number : old.tail.lines + 1 + length go.lines ≡ now.tail.lines + 1 = omega (arith, go.passed.count) in
      let behind = ap (λ n. log_from n (parts rest)) number ∙ is in
      ap (λ p. log_from (old.tail.lines + 1) (parts p)) go.parts
      ∙ fault_behind (old.tail.lines + 1) go.lines go.read rest line fault go.say (omega (arith, go.passed.count, now.tail.few)) behind
  refused NoEmptyLine is = record {
    lines = go.lines ++ is.lines;
    read = go.read ++ is.read;
    parts = go.parts ∙ ap (λ (l : List ℕ). text_of go.lines ++ l) is.parts ∙ sym (text_of-append go.lines is.lines);
    say = Say-append go.lines is.lines go.read is.read go.say is.say;
    few = omega (arith, is.few, go.passed.count, length-append go.lines is.lines);
  }
  refused (Floor floor) is = absurd is
  refused ReadFault is = tt
  refused SyncFault is = absurd is
  refused WriteFault is = absurd is
  refused OutOfMemory is = tt
