-- The command that may have written a batch. Below, mode is the mode in force in each scope.
use Rattle.std.specs.Prelude.{ℕ, List, [], ◌∷◌, Bool, true, false, cond, Option, Some, None, is_none, option_map, option_and_then}
use Rattle.reg_leader.specs.reg_fold.InForce.{Scope}
use Rattle.reg_leader.specs.reg_fold.declared.version_ref.VersionRef.TheVariants.{Number}
use Rattle.reg_leader.specs.reg_level_names.Level.{level_named}
use Rattle.reg_leader.specs.reg_modes.Mode.{mode_named}
use Rattle.reg_leader.specs.reg_modes.declared.mode.Mode.{Mode}
use Rattle.reg_leader.specs.reg_modes.declared.mode.Mode.TheVariants as modes
use Rattle.reg_leader.specs.reg_records.declared.key.Key.{Key}
use Rattle.reg_leader.specs.reg_records.declared.key.Key.TheVariants as keys
use Rattle.reg_leader.specs.reg_records.declared.record.Record.{Record}
use Rattle.reg_leader.specs.reg_records.declared.value.Value.{Value}
use Rattle.reg_leader.specs.reg_records.declared.value.Value.TheVariants as values
use Rattle.reg_leader.specs.reg_values.Value.{value_of}
use Rattle.reg_leader.specs.declared.command.Command.{Command}
use Rattle.reg_leader.specs.declared.command.Command.TheVariants as commands

abbrev pub is_mark : Key → Bool
is_mark (keys.Schema subject version) = false
is_mark (keys.Config scope) = false
is_mark (keys.Mode scope) = false
is_mark (keys.DeleteSubject subject) = false
is_mark keys.Noop = false
is_mark keys.IdMark = true

-- the batch without the mark of ids that it may begin with: that tells nothing of its command
abbrev pub without_mark : List Record → List Record
without_mark [] = []
without_mark (r ∷ rs) = cond (is_mark r.key) rs (r ∷ rs)

-- one version is deleted for good, or a subject, of which each version is
abbrev pub removing_version : List ℕ → ℕ → Bool → Option Command
removing_version subject version true = Some (commands.DeleteVersion subject (Number version) true)
removing_version subject version false = Some (commands.DeleteSubject subject true)

abbrev pub clearing_level : Scope → Option Command
clearing_level scope = option_map commands.ClearLevel scope

abbrev pub clearing_mode : Scope → Option Command
clearing_mode scope = option_map commands.ClearMode scope

-- the command that takes away what a key has; alone says that no other record follows
abbrev pub removing : Key → Bool → Option Command
removing (keys.Schema subject version) alone = removing_version subject version alone
removing (keys.Config scope) alone = clearing_level scope
removing (keys.Mode scope) alone = clearing_mode scope
removing (keys.DeleteSubject subject) alone = None
removing keys.Noop alone = Some commands.Noop
removing keys.IdMark alone = None

-- a new version: an import where the mode is IMPORT, else a registration
abbrev pub registering : Mode → List ℕ → ℕ → ℕ → List ℕ → Command
registering modes.Import subject version id text = commands.ImportRegister subject text id (Some version)
registering modes.Readwrite subject version id text = commands.Register subject text
registering modes.Readonly subject version id text = commands.Register subject text

-- the level, or the mode, of that name is set in the key's scope; the mode by force, which changes nothing of what is written
abbrev pub setting_level : Key → List ℕ → Option Command
setting_level (keys.Schema subject version) name = None
setting_level (keys.Config scope) name = option_map (commands.SetLevel scope) (level_named name)
setting_level (keys.Mode scope) name = None
setting_level (keys.DeleteSubject subject) name = None
setting_level keys.Noop name = None
setting_level keys.IdMark name = None

abbrev pub setting_mode : Key → List ℕ → Option Command
setting_mode (keys.Schema subject version) name = None
setting_mode (keys.Config scope) name = None
setting_mode (keys.Mode scope) name = option_map (λ mode. commands.SetMode scope mode true) (mode_named name)
setting_mode (keys.DeleteSubject subject) name = None
setting_mode keys.Noop name = None
setting_mode keys.IdMark name = None

-- the command that gives a key this value
abbrev pub putting : (Scope → Mode) → Key → Value → Option Command
putting mode key (values.Schema subject version id text true) = Some (commands.DeleteVersion subject (Number version) false)
putting mode key (values.Schema subject version id text false) = Some (registering (mode (Some subject)) subject version id text)
putting mode key (values.Config name) = setting_level key name
putting mode key (values.Mode name) = setting_mode key name
putting mode key (values.DeleteSubject subject version) = Some (commands.DeleteSubject subject false)
putting mode key values.Noop = None
putting mode key (values.IdMark id) = None

-- by the first record that is no mark: a record without a text takes away, another gives the value that it is read as
abbrev pub candidate_by : (Scope → Mode) → Record → Bool → Option Command
candidate_by mode r alone = cond (is_none r.value) (removing r.key alone) (option_and_then (putting mode r.key) (value_of r))

abbrev pub candidate_of : (Scope → Mode) → List Record → Option Command
candidate_of mode [] = None
candidate_of mode (r ∷ []) = candidate_by mode r true
candidate_of mode (r ∷ q ∷ more) = candidate_by mode r false

-- the candidate of a batch
abbrev pub candidate : (Scope → Mode) → List Record → Option Command
candidate mode batch = candidate_of mode (without_mark batch)
