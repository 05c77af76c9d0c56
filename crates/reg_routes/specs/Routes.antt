-- The paths of the registry, and what each method asks of them.
use Rattle.std.specs.Prelude.{ℕ, List, [], ◌∷◌, codes, bytes_eq, find, map, Option, Some, None, option_map}
use Rattle.reg_refusals.specs.declared.allow.Allow.{Allow}
use Rattle.reg_refusals.specs.declared.allow.Allow.TheVariants as allows
use Rattle.reg_routes.specs.declared.route.Action.{Action}
use Rattle.reg_routes.specs.declared.route.Action.TheVariants as actions
use Rattle.reg_routes.specs.declared.route.Route.{Route}
use Rattle.reg_routes.specs.declared.route.Route.TheVariants as routes

-- each path, whose parameters stand in braces
abbrev pub paths : List (List ℕ × Route)
paths =
    (codes "/schemas/ids/{id}", routes.SchemaById)
    ∷ (codes "/schemas/ids/{id}/versions", routes.IdVersions)
    ∷ (codes "/subjects", routes.Subjects)
    ∷ (codes "/subjects/{subject}", routes.Subject)
    ∷ (codes "/subjects/{subject}/versions", routes.Versions)
    ∷ (codes "/subjects/{subject}/versions/{version}", routes.Version)
    ∷ (codes "/subjects/{subject}/versions/{version}/schema", routes.VersionSchema)
    ∷ (codes "/compatibility/subjects/{subject}/versions", routes.CheckAll)
    ∷ (codes "/compatibility/subjects/{subject}/versions/{version}", routes.CheckOne)
    ∷ (codes "/config", routes.Level)
    ∷ (codes "/config/{subject}", routes.SubjectLevel)
    ∷ (codes "/mode", routes.Mode)
    ∷ (codes "/mode/{subject}", routes.SubjectMode)
    ∷ []

-- the path of a route
abbrev pub pattern_of : Route → List ℕ
pattern_of routes.SchemaById = codes "/schemas/ids/{id}"
pattern_of routes.IdVersions = codes "/schemas/ids/{id}/versions"
pattern_of routes.Subjects = codes "/subjects"
pattern_of routes.Subject = codes "/subjects/{subject}"
pattern_of routes.Versions = codes "/subjects/{subject}/versions"
pattern_of routes.Version = codes "/subjects/{subject}/versions/{version}"
pattern_of routes.VersionSchema = codes "/subjects/{subject}/versions/{version}/schema"
pattern_of routes.CheckAll = codes "/compatibility/subjects/{subject}/versions"
pattern_of routes.CheckOne = codes "/compatibility/subjects/{subject}/versions/{version}"
pattern_of routes.Level = codes "/config"
pattern_of routes.SubjectLevel = codes "/config/{subject}"
pattern_of routes.Mode = codes "/mode"
pattern_of routes.SubjectMode = codes "/mode/{subject}"

-- the method that asks an action
abbrev pub method_of : Action → List ℕ
method_of actions.SchemaById = codes "GET"
method_of actions.IdVersions = codes "GET"
method_of actions.Subjects = codes "GET"
method_of actions.Lookup = codes "POST"
method_of actions.DeleteSubject = codes "DELETE"
method_of actions.Versions = codes "GET"
method_of actions.Register = codes "POST"
method_of actions.Version = codes "GET"
method_of actions.DeleteVersion = codes "DELETE"
method_of actions.VersionSchema = codes "GET"
method_of actions.Check = codes "POST"
method_of actions.Level = codes "GET"
method_of actions.SetLevel = codes "PUT"
method_of actions.ClearLevel = codes "DELETE"
method_of actions.Mode = codes "GET"
method_of actions.SetMode = codes "PUT"
method_of actions.ClearMode = codes "DELETE"

-- the methods that a path offers, and what each asks of it
abbrev pub offers_of : Route → List (List ℕ × Action)
offers_of routes.SchemaById = (codes "GET", actions.SchemaById) ∷ []
offers_of routes.IdVersions = (codes "GET", actions.IdVersions) ∷ []
offers_of routes.Subjects = (codes "GET", actions.Subjects) ∷ []
offers_of routes.Subject = (codes "POST", actions.Lookup) ∷ (codes "DELETE", actions.DeleteSubject) ∷ []
offers_of routes.Versions = (codes "GET", actions.Versions) ∷ (codes "POST", actions.Register) ∷ []
offers_of routes.Version = (codes "GET", actions.Version) ∷ (codes "DELETE", actions.DeleteVersion) ∷ []
offers_of routes.VersionSchema = (codes "GET", actions.VersionSchema) ∷ []
offers_of routes.CheckAll = (codes "POST", actions.Check) ∷ []
offers_of routes.CheckOne = (codes "POST", actions.Check) ∷ []
offers_of routes.Level = (codes "GET", actions.Level) ∷ (codes "PUT", actions.SetLevel) ∷ []
offers_of routes.SubjectLevel = (codes "GET", actions.Level) ∷ (codes "PUT", actions.SetLevel) ∷ (codes "DELETE", actions.ClearLevel) ∷ []
offers_of routes.Mode = (codes "GET", actions.Mode) ∷ (codes "PUT", actions.SetMode) ∷ []
offers_of routes.SubjectMode = (codes "GET", actions.Mode) ∷ (codes "PUT", actions.SetMode) ∷ (codes "DELETE", actions.ClearMode) ∷ []

-- what the method asks of the path, if the path offers it
abbrev pub action_of : Route → List ℕ → Option Action
action_of route method = option_map (λ offer. offer.1) (find (λ offer. bytes_eq offer.0 method) (offers_of route))

-- the methods that a path offers, in the order in which they are reported
abbrev pub methods_of : Route → List (List ℕ)
methods_of route = map (λ offer. offer.0) (offers_of route)

-- the same as one value
abbrev pub allow_of : Route → Allow
allow_of routes.SchemaById = allows.Get
allow_of routes.IdVersions = allows.Get
allow_of routes.Subjects = allows.Get
allow_of routes.Subject = allows.PostDelete
allow_of routes.Versions = allows.GetPost
allow_of routes.Version = allows.GetDelete
allow_of routes.VersionSchema = allows.Get
allow_of routes.CheckAll = allows.Post
allow_of routes.CheckOne = allows.Post
allow_of routes.Level = allows.GetPut
allow_of routes.SubjectLevel = allows.GetPutDelete
allow_of routes.Mode = allows.GetPut
allow_of routes.SubjectMode = allows.GetPutDelete

-- which part of the path is a subject, where the empty part before the first slash is number 0
abbrev pub subject_place : Route → Option ℕ
subject_place routes.SchemaById = None
subject_place routes.IdVersions = None
subject_place routes.Subjects = None
subject_place routes.Subject = Some 2
subject_place routes.Versions = Some 2
subject_place routes.Version = Some 2
subject_place routes.VersionSchema = Some 2
subject_place routes.CheckAll = Some 3
subject_place routes.CheckOne = Some 3
subject_place routes.Level = None
subject_place routes.SubjectLevel = Some 2
subject_place routes.Mode = None
subject_place routes.SubjectMode = Some 2

-- which part of the path is an id or a version
abbrev pub number_place : Route → Option ℕ
number_place routes.SchemaById = Some 3
number_place routes.IdVersions = Some 3
number_place routes.Subjects = None
number_place routes.Subject = None
number_place routes.Versions = None
number_place routes.Version = Some 4
number_place routes.VersionSchema = Some 4
number_place routes.CheckAll = None
number_place routes.CheckOne = Some 5
number_place routes.Level = None
number_place routes.SubjectLevel = None
number_place routes.Mode = None
number_place routes.SubjectMode = None
