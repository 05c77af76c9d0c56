-- What is reported on standard error.
use Rattle.std.specs.Prelude.{◌⊎◌, ℕ, List, Option, decimal}
use Rattle.std.specs.List.{flat_map}
use Rattle.reg_records.specs.declared.device.Device.{Device}
use Rattle.reg_responses.specs.Writing.{HasFront, HasWritten}
use Rattle.reg_program.specs.declared.telling.Part.{Part}
use Rattle.reg_program.specs.declared.telling.Part.TheVariants as parts

-- standard error has the text and nothing more, or was lost and has a front of it
abbrev pub Tells : {E : Type 0} → (E → Option (List ℕ)) → Device E → Device E → List ℕ → Type 0
Tells contents errors errors' text = HasWritten contents errors errors' text ⊎ HasFront contents errors errors' text

-- private: what stands for a part
abbrev pub part_text : Part → List ℕ
part_text (parts.Text text) = text.now
part_text (parts.Number number) = decimal number

-- private: what stands for the parts
abbrev pub parts_text : List Part → List ℕ
parts_text all = flat_map part_text all
