-- What a line of a batch says.
use Rattle.std.proofs.Common.{◌≡◌, ◌<◌, ◌++◌, ◌∷◌, ℕ, List, [], Result, length, sym, ap, ◌∙◌, arith}
use Rattle.reg_adapter.proofs.Cuts.{front_reading}
use Rattle.reg_adapter.specs.Said.{line_in, part_in}
use Rattle.reg_adapter.specs.declared.fault.MessageFault.{MessageFault}
use Rattle.reg_adapter.specs.declared.line.Part.{Part}
use Rattle.reg_records.specs.Line.{reading_at_front}
use Rattle.reg_records.specs.Pieces.{HasNoLineFeed}
use Rattle.reg_records.specs.declared.line.LineError.{LineError}
use Rattle.reg_records.specs.declared.record.Read.{Read}

pub line_says : (begun : List Read) (line text : List ℕ) (read : Result Read LineError) (part : Result Part MessageFault)
    → line ≡ text ++ 10 ∷ [] → HasNoLineFeed text → 1 < length line → reading_at_front line ≡ read → line_in begun read ≡ part
    → part_in begun text ≡ part
line_says begun line [] read part is free more reads says = absurd (omega (arith, more, ap length is))
line_says begun line (b ∷ text) read part is free more reads says =
    ap (line_in begun) (sym (front_reading (b ∷ text) free) ∙ ap reading_at_front (sym is) ∙ reads) ∙ says
