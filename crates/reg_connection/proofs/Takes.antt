-- What is asked takes the turn that its method and its target tell.
use Rattle.std.proofs.Common.{List, ℕ, Bool, true, false, refl}
use Rattle.std.proofs.Common.{Some, None, if◌then◌else◌}
use Rattle.std.specs.Prelude.{Option, Result, Ok, Err, option_and_then, ok_or, option_map, is_none, not, ◌&&◌, codes}
use Rattle.std.specs.Option.{option_map_or}
use Rattle.reg_leader.specs.declared.command.Command.TheVariants as commands
use Rattle.reg_lookup.specs.declared.query.Query.{Query}
use Rattle.reg_lookup.specs.declared.query.Query.TheVariants as queries
use Rattle.reg_messages.specs.Fields.{told_length}
use Rattle.reg_refusals.specs.declared.refusal.Refusal.{Refusal}
use Rattle.reg_refusals.specs.declared.refusal.Refusal.TheVariants as refusals
use Rattle.reg_requests.specs.Action.{Given, action_asks, deleted, number_of, subject_in, switch}
use Rattle.reg_requests.specs.Asked.{asked_of, asked_of_action, asked_of_body, asked_of_object, asked_of_parts, asked_of_route, asked_of_target, asked_of_texts, closing, given_of, named_version, names_version, object_in, or_closing, or_open, takes_body}
use Rattle.reg_requests.specs.Body.{level_in, map_ok, mode_in, registration_in, schema_in}
use Rattle.reg_requests.specs.declared.asked.Asked.{Asked}
use Rattle.reg_requests.specs.declared.asked.Asked.TheVariants as asked
use Rattle.reg_messages.specs.Parts.{Parts, parts_of}
use Rattle.reg_messages.specs.declared.request.Request.{Request}
use Rattle.reg_routes.specs.Router.{route_of}
use Rattle.reg_routes.specs.Routes.{action_of, allow_of, number_place, subject_place}
use Rattle.reg_routes.specs.Target.{is_path, path_of, text_part}
use Rattle.reg_routes.specs.declared.route.Action.{Action}
use Rattle.reg_routes.specs.declared.route.Action.TheVariants as actions
use Rattle.reg_routes.specs.declared.route.Route.{Route}
use Rattle.reg_connection.specs.TurnKinds.{TakesTurn, kind_of, kind_of_action, kind_on}
use Rattle.reg_connection.specs.declared.turn_kinds.TurnKind.{TurnKind}
use Rattle.reg_connection.specs.declared.turn_kinds.TurnKind.TheVariants as kinds

-- a choice takes the turn where both sides do
takes-if : (b : Bool) (x y : Asked) (kind : Option TurnKind) → TakesTurn x kind → TakesTurn y kind → TakesTurn (if b then x else y) kind
takes-if true x y kind first second = first
takes-if false x y kind first second = second

takes-or : {A : Type 0} (f : A → Asked) (o : Option A) (other : Asked) (kind : Option TurnKind)
    → ((x : A) → TakesTurn (f x) kind) → TakesTurn other kind → TakesTurn (option_map_or f o other) kind
takes-or f None other kind all none = none
takes-or f (Some x) other kind all none = all x

takes-closing : {A : Type 0} (f : A → Asked) (r : Result A Refusal) (kind : Option TurnKind)
    → ((x : A) → TakesTurn (f x) kind) → TakesTurn (or_closing f r) kind
takes-closing f (Ok x) kind all = all x
takes-closing f (Err refusal) kind all = tt

takes-mapped : {A : Type 0} (f : A → Asked) (r : Result A Refusal) (kind : Option TurnKind)
    → ((x : A) → TakesTurn (f x) kind) → TakesTurn (or_open (map_ok f r)) kind
takes-mapped f (Ok x) kind all = all x
takes-mapped f (Err refusal) kind all = tt

takes-by_id : (q : ℕ → Query) (n : Option ℕ) → ((id : ℕ) → TakesTurn (asked.Query (q id)) None)
    → TakesTurn (or_open (ok_or (option_map (λ id. asked.Query (q id)) n) refusals.SchemaNotFound)) None
takes-by_id q None all = tt
takes-by_id q (Some id) all = all id

-- what an action asks
takes-action : (action : Action) (given : Given) → TakesTurn (or_open (action_asks action given)) (kind_of_action action)
takes-action actions.SchemaById given = takes-by_id (λ id. queries.SchemaById id) (number_of given.id) (λ id. refl)
takes-action actions.IdVersions given = takes-by_id (λ id. queries.IdVersions id (deleted given)) (number_of given.id) (λ id. refl)
takes-action actions.Subjects given = refl
takes-action actions.Lookup given =
    takes-mapped (λ text. asked.Query (queries.Lookup (subject_in given) text (deleted given))) (schema_in given.object) None (λ text. refl)
takes-action actions.DeleteSubject given = refl
takes-action actions.Versions given = refl
takes-action actions.Register given =
    takes-mapped asked.Command (registration_in (subject_in given) given.object) (Some kinds.Command) (λ command. refl)
takes-action actions.Version given = refl
takes-action actions.DeleteVersion given = refl
takes-action actions.VersionSchema given = refl
takes-action actions.Check given =
    takes-mapped (λ text. asked.Query (queries.Check (subject_in given) given.version text (switch given (codes "verbose"))))
    (schema_in given.object) (Some kinds.Check) (λ text. refl)
takes-action actions.Level given = refl
takes-action actions.SetLevel given =
    takes-mapped (λ level. asked.Command (commands.SetLevel given.subject level)) (level_in given.object) (Some kinds.Command) (λ level. refl)
takes-action actions.ClearLevel given = refl
takes-action actions.Mode given = refl
takes-action actions.SetMode given =
    takes-mapped (λ mode. asked.Command (commands.SetMode given.subject mode (switch given (codes "force")))) (mode_in given.object)
    (Some kinds.Command) (λ mode. refl)
takes-action actions.ClearMode given = refl

module _ (r : Parts) (route : Route) (action : Action) where
  takes-body : (subject number : Option (List ℕ)) (body : List ℕ)
      → TakesTurn (asked_of_body r route action subject number body) (kind_of_action action)
  takes-body subject number body =
      takes-if (names_version route && is_none (named_version route number)) _ _ (kind_of_action action) tt
      (takes-or (asked_of_object r route action subject number) (object_in r.method body) (closing refusals.BadRequest)
      (kind_of_action action) (λ members. takes-action action (given_of r route subject number members)) tt)

  takes-texts : (subject number : Option (List ℕ)) → TakesTurn (asked_of_texts r route action subject number) (kind_of_action action)
  takes-texts subject number =
      takes-or (asked_of_body r route action subject number) r.body (closing refusals.BadRequest) (kind_of_action action)
      (λ body. takes-body subject number body) tt

  takes-parts : TakesTurn (asked_of_parts r route action) (kind_of_action action)
  takes-parts = takes-closing _ (text_part (path_of r.target) (subject_place route)) (kind_of_action action)
      (λ subject. takes-closing (asked_of_texts r route action subject) (text_part (path_of r.target) (number_place route))
      (kind_of_action action) (λ number. takes-texts subject number))

  takes-asked_action : (told : Option ℕ) → TakesTurn (asked_of_action r told route action) (kind_of_action action)
  takes-asked_action told =
      takes-if (takes_body r.method && is_none told) _ _ (kind_of_action action) tt
      (takes-if (takes_body r.method && not r.is_accepted) _ _ (kind_of_action action) tt takes-parts)

takes-route : (r : Parts) (told : Option ℕ) (route : Route) → TakesTurn (asked_of_route r told route) (kind_on r.method route)
takes-route r told route = by_action (action_of route r.method)
  where
    by_action : (o : Option Action)
        → TakesTurn (option_map_or (asked_of_action r told route) o (closing (refusals.MethodNotAllowed (allow_of route))))
        (option_and_then kind_of_action o)
    by_action None = tt
    by_action (Some action) = takes-asked_action r route action told

takes-target : (r : Parts) (told : Option ℕ) → TakesTurn (asked_of_target r told) (kind_of r.method r.target)
takes-target r told = by_path (is_path r.target) (route_of (path_of r.target))
  where
    by_path : (b : Bool) (o : Option Route)
        → TakesTurn (if not b then closing refusals.BadRequest else option_map_or (asked_of_route r told) o (closing refusals.NotFound))
        (if b then option_and_then (kind_on r.method) o else None)
    by_path false o = tt
    by_path true None = tt
    by_path true (Some route) = takes-route r told route

-- what a request asks takes the turn that its method and its target tell
pub takes-asked : (r : Request) → TakesTurn (asked_of r) (kind_of r.method r.target)
unfolding asked_of
takes-asked r = takes-closing (asked_of_target (parts_of r)) (told_length r.fields) (kind_of r.method r.target) (λ told. takes-target (parts_of r) told)
