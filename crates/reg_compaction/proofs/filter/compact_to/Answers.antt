use Rattle.std.proofs.Common.{◌≡◌, ℕ, List, Option, Some, None, Err, rules, subst, sym}
use Rattle.std.specs.Prelude.{IfSome}
use Rattle.std.specs.Io.KnownBytes.{Keeps}
use Rattle.reg_records.specs.Log.{log_of}
use Rattle.reg_records.specs.declared.log.LogError.TheVariants as logs
use Rattle.reg_compaction.specs.CompactedTo.{IsToFloorRefusal}
use Rattle.reg_compaction.specs.Filter.{IsFilterRefusalTo, filter_error_to}
use Rattle.reg_compaction.specs.declared.filter.FilterError.{FilterError}
use Rattle.reg_compaction.specs.declared.to_floor.ToFloorError.{ToFloorError}
use Rattle.reg_compaction.specs.declared.to_floor.ToFloorError.TheVariants.{Log, FloorBelow, FloorAhead, NoRoom}
use Rattle.reg_compaction.proofs.filter.compact_to.Goals as goal

if_read : (P : List ℕ → Type 0) (text : List ℕ) (input : Option (List ℕ)) → IfSome input (λ i. text ≡ i) → P text → IfSome input P
if_read P text None is p = tt
if_read P text (Some i) is p = subst P is p

kept : (held : Option (List ℕ)) → Keeps held held
kept held = search rules

refusal : (floor : ℕ) (text : List ℕ) (input held : Option (List ℕ)) (e : ToFloorError) → IfSome input (λ i. text ≡ i)
    → IsToFloorRefusal text floor e → IsFilterRefusalTo floor input held held (filter_error_to e)
refusal floor text input held (Log (logs.Fault line fault)) is why =
    (if_read (λ t. log_of t ≡ Err (line, fault)) text input is why, kept held)
refusal floor text input held (Log (logs.ReadFault line)) is why = kept held
refusal floor text input held (Log logs.OutOfMemory) is why = kept held
refusal floor text input held (FloorBelow own) is why =
    (if_read (λ t. IsToFloorRefusal t floor (FloorBelow own)) text input is why, kept held)
refusal floor text input held (FloorAhead next) is why =
    (if_read (λ t. IsToFloorRefusal t floor (FloorAhead next)) text input is why, kept held)
refusal floor text input held NoRoom is why = (if_read (λ t. IsToFloorRefusal t floor NoRoom) text input is why, kept held)

pub returns-clause-refused : goal.returns-clause-refused
returns-clause-refused g c =
    let held = g.W.Write.contents c.args.writer.now in
    let input = g.R.Read.remaining c.args.reader.now in
    subst (λ (e : FilterError). IsFilterRefusalTo c.args.floor input held held e) (sym c.to_floor_error.ensures)
    (refusal c.args.floor c.deref.result.now input held c.in-Err.e
    (subst (λ (t : List ℕ). IfSome input (λ i. t ≡ i)) (sym c.deref.ensures.value) c.in_ok-input.ensures.read) c.in-Err.ensures.refused)
