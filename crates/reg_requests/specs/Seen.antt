-- Private: what stands behind references, as the definitions have it.
use Rattle.std.specs.Prelude.{ℕ, List, option_map, Result, Ok, Err}
use Rattle.std.specs.Borrow.{Bor}
use Rattle.serde_json.specs.View.{view}
use Rattle.reg_leader.specs.reg_refusals.declared.refusal.Refusal.{Refusal}
use Rattle.reg_requests.specs.Action as action
use Rattle.reg_requests.specs.declared.action.Given.{Given}

-- the text that was found, or its refusal
abbrev pub seen_text : Result (Bor (List ℕ)) Refusal → Result (List ℕ) Refusal
seen_text (Ok text) = Ok text.now
seen_text (Err refusal) = Err refusal

-- what was given to an action
abbrev pub seen : Given → action.Given
seen g = record {
  subject = option_map (λ s. s.now) g.subject;
  id = g.id.now;
  version = g.version;
  query = g.query.now;
  object = view g.object.now;
}
