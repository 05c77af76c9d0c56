-- Which turn of a node's workers a request takes, by its method and its target.
use Rattle.std.specs.Prelude.{◌≡◌, ⊤, ℕ, List, [], ◌∷◌, Bool, ◌==◌, Option, Some, None, option_and_then, if◌then◌else◌}
use Rattle.std.specs.List.{after_first, before_first}
use Rattle.reg_lookup.specs.declared.query.Query.TheVariants as queries
use Rattle.reg_messages.specs.Head.{is_skipped, within_limit}
use Rattle.reg_requests.specs.declared.asked.Asked.{Asked}
use Rattle.reg_requests.specs.declared.asked.Asked.TheVariants as asked
use Rattle.reg_routes.specs.Router.{route_of}
use Rattle.reg_routes.specs.Routes.{action_of}
use Rattle.reg_routes.specs.Target.{is_path, path_of}
use Rattle.reg_routes.specs.declared.route.Action.{Action}
use Rattle.reg_routes.specs.declared.route.Action.TheVariants as actions
use Rattle.reg_routes.specs.declared.route.Route.{Route}
use Rattle.reg_connection.specs.declared.turn_kinds.TurnKind.{TurnKind}
use Rattle.reg_connection.specs.declared.turn_kinds.TurnKind.TheVariants as kinds

-- commands take turns of commands, checks turns of checks, and all that is looked up takes none
abbrev pub kind_of_action : Action → Option TurnKind
kind_of_action actions.Register = Some kinds.Command
kind_of_action actions.DeleteSubject = Some kinds.Command
kind_of_action actions.DeleteVersion = Some kinds.Command
kind_of_action actions.SetLevel = Some kinds.Command
kind_of_action actions.ClearLevel = Some kinds.Command
kind_of_action actions.SetMode = Some kinds.Command
kind_of_action actions.ClearMode = Some kinds.Command
kind_of_action actions.Check = Some kinds.Check
kind_of_action actions.SchemaById = None
kind_of_action actions.IdVersions = None
kind_of_action actions.Subjects = None
kind_of_action actions.Lookup = None
kind_of_action actions.Versions = None
kind_of_action actions.Version = None
kind_of_action actions.VersionSchema = None
kind_of_action actions.Level = None
kind_of_action actions.Mode = None

-- by what a method asks of a path
abbrev pub kind_on : List ℕ → Route → Option TurnKind
kind_on method route = option_and_then kind_of_action (action_of route method)

-- by a method and a target
abbrev pub kind_of : List ℕ → List ℕ → Option TurnKind
kind_of method target = if is_path target then option_and_then (kind_on method) (route_of (path_of target)) else None

abbrev pub is_space : ℕ → Bool
is_space b = b == 32

-- some bytes without the CR and LF bytes at their front
abbrev pub skip_blank : List ℕ → List ℕ
skip_blank [] = []
skip_blank (b ∷ bytes) = if is_skipped b then skip_blank bytes else b ∷ bytes

-- by the method and the target of the first line
abbrev pub kind_on_line : List ℕ → Option TurnKind
kind_on_line line = kind_of (before_first is_space line) (before_first is_space (after_first is_space line))

-- by the first line of a text, which is looked for where a head may stand
abbrev pub kind_in : List ℕ → Option TurnKind
kind_in text = kind_on_line (skip_blank (within_limit text))

-- what is asked takes a turn of its kind, and a query that isn't a check none
abbrev pub TakesTurn : Asked → Option TurnKind → Type 0
TakesTurn (asked.Command command) kind = kind ≡ Some kinds.Command
TakesTurn (asked.Query (queries.Check subject version text verbose)) kind = kind ≡ Some kinds.Check
TakesTurn (asked.Query other) kind = kind ≡ None
TakesTurn (asked.Refused refusal closes) kind = ⊤
