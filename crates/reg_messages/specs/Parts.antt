-- The parts of a request that a registry looks at.
use Rattle.std.specs.Prelude.{ℕ, List, Bool, Option}
use Rattle.reg_messages.specs.Types.{has_accepted_types}
use Rattle.reg_messages.specs.declared.request.Request.{Request}

-- the method and the target, whether each type that its fields name is accepted, and the body, if the input doesn't end in it
pub record Parts : Type 0 where
  pub method : List ℕ
  pub target : List ℕ
  pub is_accepted : Bool
  pub body : Option (List ℕ)

abbrev pub parts_of : Request → Parts
parts_of r = record { method = r.method; target = r.target; is_accepted = has_accepted_types r.fields; body = r.body }
