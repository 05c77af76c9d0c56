-- Which candidate a written record tells.
use Rattle.std.proofs.Common.{◌≡◌, ℕ, Bool, true, false, cond, Some, is_none, option_and_then}
use Rattle.std.proofs.Common.{refl, ap, ◌∙◌, nat_le, ◌&&◌}
use Rattle.std.proofs.lemmas.Bool.{false≢true, leb-true}
use Rattle.reg_leader.specs.reg_fold.InForce.{Scope}
use Rattle.reg_leader.specs.reg_level_names.Level.{is_level, level_named, level_text}
use Rattle.reg_leader.specs.reg_level_names.declared.level.Level.{Level}
use Rattle.reg_leader.specs.reg_level_names.declared.level.Level.TheVariants as levels
use Rattle.reg_leader.specs.reg_modes.Mode.{mode_named, mode_text}
use Rattle.reg_leader.specs.reg_modes.declared.mode.Mode.{Mode}
use Rattle.reg_leader.specs.reg_modes.declared.mode.Mode.TheVariants as modes
use Rattle.reg_leader.specs.reg_modes.Permitted.{granted}
use Rattle.reg_leader.specs.reg_records.Written.{IsVersionOrId}
use Rattle.reg_leader.specs.reg_records.WrittenValue.{written_value}
use Rattle.reg_leader.specs.reg_records.declared.limits.TheConstants.{NUMBER_LIMIT}
use Rattle.reg_leader.specs.reg_refusals.declared.refusal.Refusal.{Refusal}
use Rattle.reg_leader.specs.reg_rules.Tests.{must_be_number, numbers_used_up, refuse_unless}
use Rattle.reg_leader.specs.reg_records.declared.key.Key.{Key}
use Rattle.reg_leader.specs.reg_records.declared.value.Value.{Value}
use Rattle.reg_leader.specs.reg_records.declared.value.Value.TheVariants as values
use Rattle.reg_leader.specs.reg_rules.Writings.{written_at}
use Rattle.reg_leader.specs.reg_values.OfKey.{IsValueOf}
use Rattle.reg_leader.specs.reg_values.Value.{value_of}
use Rattle.reg_replay.specs.Candidate.{candidate_by, putting, removing}

abbrev pub ValuesReadBack : Type 0
ValuesReadBack = (offset : ℕ) (k : Key) (v : Value) → IsValueOf k v → value_of (record { offset = offset; key = k; value = written_value v }) ≡ Some v

pub levels_are_named : (level : Level) → is_level (level_text level) ≡ true
levels_are_named levels.None = refl
levels_are_named levels.Backward = refl
levels_are_named levels.BackwardTransitive = refl
levels_are_named levels.Forward = refl
levels_are_named levels.ForwardTransitive = refl
levels_are_named levels.Full = refl
levels_are_named levels.FullTransitive = refl

pub level_again : (level : Level) → level_named (level_text level) ≡ Some level
level_again levels.None = refl
level_again levels.Backward = refl
level_again levels.BackwardTransitive = refl
level_again levels.Forward = refl
level_again levels.ForwardTransitive = refl
level_again levels.Full = refl
level_again levels.FullTransitive = refl

pub mode_again : (mode : Mode) → mode_named (mode_text mode) ≡ Some mode
mode_again modes.Readwrite = refl
mode_again modes.Readonly = refl
mode_again modes.Import = refl

-- what a test that passed tells of a number
pub number_passed : (m : ℕ) → must_be_number m ≡ granted → IsVersionOrId m
number_passed m e =
    let within = both (nat_le 1 m) (nat_le m NUMBER_LIMIT) (unless_passed (nat_le 1 m && nat_le m NUMBER_LIMIT) numbers_used_up e) in
    (leb-true 1 m within.0, leb-true m NUMBER_LIMIT within.1)
  where
    unless_passed : (b : Bool) (refusal : Refusal) → refuse_unless b refusal ≡ granted → b ≡ true
    unless_passed true refusal e = refl
    unless_passed false refusal e = absurd (cc)

    both : (a b : Bool) → (a && b) ≡ true → (a ≡ true) × (b ≡ true)
    both true b h = (refl, h)
    both false b h = absurd (false≢true h)

-- a value that may stand under a key has a text
has_text : (k : Key) (v : Value) → IsValueOf k v → is_none (written_value v) ≡ false
unfolding written_value
has_text k (values.Schema subject version id schema deleted) is = refl
has_text k (values.Config level) is = refl
has_text k (values.Mode mode) is = refl
has_text k (values.DeleteSubject subject version) is = refl
has_text k values.Noop is = absurd is
has_text k (values.IdMark id) is = refl

module _ (reads : ValuesReadBack) (mode : Scope → Mode) (n : ℕ) (k : Key) where
  -- a value that was written tells the command that puts it
  pub puts : (v : Value) (alone : Bool) → IsValueOf k v → candidate_by mode (written_at n (record { key = k; value = Some v })) alone ≡ putting mode k v
  puts v alone is =
      ap (λ b. cond b (removing k alone) (option_and_then (putting mode k) (value_of (record { offset = n; key = k; value = written_value v }))))
      (has_text k v is)
      ∙ ap (option_and_then (putting mode k)) (reads n k v is)
