-- The texts of objects whose members have literal names.
use Rattle.std.proofs.Common.{◌≡◌, ◌++◌, ℕ, List, Bool, true, false, Some, codes, decimal, if◌then◌else◌, append_assoc}
use Rattle.json.specs.Print.{escape, escape_byte, quoted}
use Rattle.serde_json.specs.Written.{compact_text}
use Rattle.reg_modes.specs.reg_entries.declared.entry.Entry.{Entry}
use Rattle.reg_lookup.specs.Bodies.{check_body, place_data}

pub compact_text-place_data : (e : Entry) (subject : List ℕ) → subject ≡ quoted e.subject
    → codes "{\"subject\":" ++ (subject ++ (codes ",\"version\":" ++ (decimal e.version ++ codes "}"))) ≡ compact_text (place_data e)
unfolding escape_byte
compact_text-place_data e subject h = rw h (simp append_assoc)

-- a clash's message, which is escaped already
pub check_body-told : (ok : Bool) (message : List ℕ)
    → ((codes "{\"is_compatible\":" ++ ((if ok then codes "true" else codes "false") ++ codes ",\"messages\":[\"")) ++ escape message)
    ++ codes "\"]}"
    ≡ check_body true ok (Some message)
unfolding escape_byte
check_body-told true message = simp append_assoc
check_body-told false message = simp append_assoc
