-- What a test that passes tells.
use Rattle.std.proofs.Common.{◌≡◌, ℕ, Bool, true, false, ◌&&◌, ◌||◌, nat_le, is_some, refl}
use Rattle.std.proofs.lemmas.Bool.{false≢true, leb-true}
use Rattle.reg_rules.specs.reg_fold.Closed.{is_closed, two_schemas}
use Rattle.reg_rules.specs.reg_fold.Opaque.{opaque}
use Rattle.reg_rules.specs.reg_modes.Permitted.{granted}
use Rattle.reg_rules.specs.reg_records.Written.{IsVersionOrId}
use Rattle.reg_rules.specs.reg_records.declared.limits.TheConstants.{NUMBER_LIMIT}
use Rattle.reg_rules.specs.reg_refusals.declared.reason.StoreFault.TheVariants as faults
use Rattle.reg_rules.specs.reg_refusals.declared.refusal.Refusal.{Refusal}
use Rattle.reg_rules.specs.reg_refusals.declared.refusal.Refusal.TheVariants as refusals
use Rattle.reg_rules.specs.Tests as test
use Rattle.reg_rules.specs.Tests.{refuse_if, refuse_unless}
use Rattle.reg_rules.specs.reg_set.Records.{Records}

pub unless_passed : (b : Bool) (refusal : Refusal) → refuse_unless b refusal ≡ granted → b ≡ true
unless_passed true refusal e = refl
unless_passed false refusal e = absurd (cc)

pub if_passed : (b : Bool) (refusal : Refusal) → refuse_if b refusal ≡ granted → b ≡ false
if_passed true refusal e = absurd (cc)
if_passed false refusal e = refl

neither : (a b : Bool) (refusal : Refusal) → test.if_not_opaque a (refuse_if b refusal) ≡ granted → (a || b) ≡ false
neither true b refusal e = absurd (cc)
neither false b refusal e = if_passed b refusal e

pub open_passed : (rs : Records) → test.must_be_open rs ≡ granted → is_closed rs ≡ false
open_passed rs e = neither (is_some (opaque rs)) (is_some (two_schemas rs)) (refusals.Store faults.TwoSchemas) e

both_true : (a b : Bool) → (a && b) ≡ true → (a ≡ true) × (b ≡ true)
both_true true b h = (refl, h)
both_true false b h = absurd (false≢true h)

pub number_passed : (m : ℕ) → test.must_be_number m ≡ granted → IsVersionOrId m
number_passed m e =
    let within =
    both_true (nat_le 1 m) (nat_le m NUMBER_LIMIT) (unless_passed (nat_le 1 m && nat_le m NUMBER_LIMIT) test.numbers_used_up e) in
    (leb-true 1 m within.0, leb-true m NUMBER_LIMIT within.1)
