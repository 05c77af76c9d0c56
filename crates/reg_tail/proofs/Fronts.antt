-- The line of a file's floor.
use Rattle.std.proofs.Common.{◌≡◌, ◌+◌, ◌==◌, ℕ, Bool, cond, true, false, List, [], ◌∷◌, length, take, decimal, Some}
use Rattle.std.proofs.Common.{None, Result, Ok, Err, refl, sym, ap, subst, ◌∙◌, arith, append_assoc, length-append}
use Rattle.std.proofs.lemmas.Bool.{true≢false}
use Rattle.std.specs.Prelude.{position}
use Rattle.reg_records.proofs.Floors.{floor_reading-text, is_floor_line-mark, is_floor_line-text, of_reading, one_line}
use Rattle.reg_records.specs.Floor.{floor_reading, floor_text, is_floor_line}
use Rattle.reg_records.specs.Line.{is_line_feed}
use Rattle.reg_records.specs.Log.{floor_then, log_at, log_from, log_of}
use Rattle.reg_records.specs.Pieces.{HasNoLineFeed}
use Rattle.reg_records.specs.declared.line.LineError.TheVariants.{Truncated}
use Rattle.reg_records.specs.declared.log.LogFault.{LogFault}
use Rattle.reg_records.specs.declared.log.LogFault.TheVariants.{Line}
use Rattle.reg_tail.specs.Front.{BeginsAs, HasFloor, HasFloorFault}
use Rattle.reg_tail.proofs.Lines.{Cut, Outcome, cut_at, has_line_feed, has_parts, no_line_feed, parts, parts-line, parts-none, same_first}

-- what the first line makes of a log
abbrev at_first : Bool → Bool → Result ℕ LogFault → Outcome → Outcome → Outcome
at_first begins last says more plain = cond begins (floor_then (cond last (Err (Line Truncated)) says) more) plain

plain_at : (line : List ℕ) (lines : List (List ℕ)) → is_floor_line line ≡ false → log_at (line ∷ lines) ≡ log_from 1 (line ∷ lines)
plain_at line lines plain =
    ap (λ b. at_first b (length lines == 0) (floor_reading line) (log_from 2 lines) (log_from 1 (line ∷ lines))) plain

-- a file that doesn't begin as a floor's line does
pub log_plain : (file : List ℕ) → is_floor_line file ≡ false → log_of file ≡ log_from 1 (parts file)
log_plain file plain =
    elim (position is_line_feed file) as (λ found. position is_line_feed file ≡ found → log_of file ≡ log_from 1 (parts file)) [
      | None ↦ λ at.
          let split = parts-none file (no_line_feed file at) in
          ap log_at split ∙ plain_at file [] plain ∙ ap (log_from 1) (sym split)
      | Some end ↦ λ at.
          let cut = cut_at file end at in
          let line = take end file in
          let split : parts file ≡ line ∷ parts cut.behind = ap parts cut.is ∙ parts-line line cut.behind cut.free in
          let other : is_floor_line line ≡ false = sym (is_floor_line-text line cut.behind) ∙ ap is_floor_line (sym cut.is) ∙ plain in
          ap log_at split ∙ plain_at line (parts cut.behind) other ∙ ap (log_from 1) (sym split)
    ] refl

begins_so : (file : List ℕ) (floor : ℕ) → HasFloor file floor → is_floor_line file ≡ true
begins_so file floor has =
    ap is_floor_line has.2 ∙ is_floor_line-text (floor_text floor) has.1 ∙ is_floor_line-mark (decimal floor)

pub begins_plain : (file : List ℕ) → is_floor_line file ≡ false → BeginsAs file (record { len = 0; lines = 0; floor = 0 })
begins_plain file plain = record {
  lines = [];
  rest = file;
  parts = refl;
  floor = refl;
  len = refl;
  count = refl;
  only = λ floor has. absurd (true≢false (sym (begins_so file floor has) ∙ plain));
  faults = λ line fault is. log_plain file plain ∙ is;
}

-- a floor's line without an LF
pub floor_truncated : (file : List ℕ) → is_floor_line file ≡ true → position is_line_feed file ≡ None → HasFloorFault file (Line Truncated)
floor_truncated file begins none =
    let free = no_line_feed file none in (
      ap log_at (parts-none file free) ∙ ap (λ b. at_first b true (floor_reading file) (log_from 2 []) (log_from 1 (file ∷ []))) begins,
      λ floor has. has_line_feed (floor_text floor) has.1 (subst HasNoLineFeed has.2 free),
    )

-- and with one
module _ (file : List ℕ) (end : ℕ) (begins : is_floor_line file ≡ true) (at : position is_line_feed file ≡ Some end) where
  cut : Cut file end
  cut = cut_at file end at

  line_begins : is_floor_line (take end file) ≡ true
  line_begins = sym (is_floor_line-text (take end file) cut.behind) ∙ ap is_floor_line (sym cut.is) ∙ begins

  log_floor : log_of file ≡ floor_then (floor_reading (take end file)) (log_from 2 (parts cut.behind))
  log_floor =
      let line = take end file in
      let behind = cut.behind in
      ap log_at (ap parts cut.is ∙ parts-line line behind cut.free)
      ∙ ap (λ b.
      at_first b (length (parts behind) == 0) (floor_reading line)
      (log_from 2 (parts behind)) (log_from 1 (line ∷ parts behind))) line_begins
      ∙ ap (λ b. at_first true b (floor_reading line) (log_from 2 (parts behind)) (log_from 1 (line ∷ parts behind))) (has_parts behind)

  reads : (floor : ℕ) → HasFloor file floor → floor_reading (take end file) ≡ Ok floor
  reads floor has =
      ap floor_reading (same_first (take end file) cut.behind (floor_text floor) has.1 cut.free (one_line floor has.0) (sym cut.is ∙ has.2))
      ∙ floor_reading-text floor has.0

  pub floor_faulty : (fault : LogFault) → floor_reading (take end file) ≡ Err fault → HasFloorFault file fault
  floor_faulty fault is = (
    log_floor ∙ ap (λ says. floor_then says (log_from 2 (parts cut.behind))) is,
    λ floor has. let both : Err fault ≡ Ok floor = sym is ∙ reads floor has in absurd cc,
  )

  pub begins_floor : (floor : ℕ) → floor_reading (take end file) ≡ Ok floor
      → BeginsAs file (record { len = end + 1; lines = 1; floor = floor })
  begins_floor floor is =
      let line = take end file in
      record {
        lines = line ∷ [];
        rest = cut.behind;
        parts = cut.is ∙ sym (append_assoc line (10 ∷ []) cut.behind);
        floor = of_reading line floor line_begins is;
        len = omega (arith, cut.size, length-append line (10 ∷ []));
        count = refl;
        only = λ other has. let both : Ok floor ≡ Ok other = sym is ∙ reads other has in cc;
        faults = λ number fault found.
            log_floor
            ∙ ap (λ says. floor_then says (log_from 2 (parts cut.behind))) is
            ∙ ap (λ (more : Outcome). floor_then (Ok floor) more) found;
      }
