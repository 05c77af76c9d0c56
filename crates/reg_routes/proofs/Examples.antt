-- What the definitions give for some targets.
use Rattle.std.proofs.Common.{◌≡◌, true, false, Some, None, refl, codes}
use Rattle.std.specs.Prelude.{Ok, Err}
use Rattle.std.specs.Str.{is_utf8, chars}
use Rattle.std.specs.Str.Lossy.{utf8_lossy, utf8_valid_len}
use lib.Utf8.{encode}
use Rattle.matchit.proofs.OnLiterals.{matchit_on_literals}
use Rattle.form_urlencoded.proofs.OnLiterals.{form_urlencoded_on_literals}
use Rattle.percent_encoding.specs.Percent.{percent_decode}
use Rattle.reg_refusals.specs.declared.refusal.Refusal.TheVariants.{BadRequest}
use Rattle.reg_routes.specs.Query.{has_switch}
use Rattle.reg_routes.specs.Router.{path_rows, route_of}
use Rattle.reg_routes.specs.Target.{text_part}
use Rattle.reg_routes.specs.declared.route.Route.TheVariants as routes

-- paths
path_of_a_version : route_of (codes "/subjects/s/versions/1") ≡ Some routes.Version
unfolding matchit_on_literals route_of path_rows
path_of_a_version = refl

path_with_an_escaped_slash : route_of (codes "/subjects/a%2Fb") ≡ Some routes.Subject
unfolding matchit_on_literals route_of path_rows
path_with_an_escaped_slash = refl

path_of_a_subject_named_versions : route_of (codes "/subjects/versions/versions") ≡ Some routes.Versions
unfolding matchit_on_literals route_of path_rows
path_of_a_subject_named_versions = refl

path_with_an_empty_part : route_of (codes "/subjects//versions") ≡ None
unfolding matchit_on_literals route_of path_rows
path_with_an_empty_part = refl

path_with_a_slash_more : route_of (codes "/subjects/s/") ≡ None
unfolding matchit_on_literals route_of path_rows
path_with_a_slash_more = refl

path_without_a_subject : route_of (codes "/subjects/") ≡ None
unfolding matchit_on_literals route_of path_rows
path_without_a_subject = refl

path_with_a_part_more : route_of (codes "/config/a/b") ≡ None
unfolding matchit_on_literals route_of path_rows
path_with_a_part_more = refl

-- parts of a path, whose escapes are read once
part_with_an_escaped_escape : text_part (codes "/config/a%252Fb") (Some 2) ≡ Ok (Some (codes "a%2Fb"))
unfolding percent_decode is_utf8 chars encode
part_with_an_escaped_escape = refl

part_that_is_no_utf8 : text_part (codes "/config/a%FF") (Some 2) ≡ Err BadRequest
unfolding percent_decode is_utf8 chars encode
part_that_is_no_utf8 = refl

-- switches
switch_with_escapes : has_switch (codes "deleted") (codes "x=1&del%65ted=tru%65") ≡ true
unfolding form_urlencoded_on_literals utf8_lossy utf8_valid_len is_utf8 chars encode
switch_with_escapes = refl

switch_in_capitals : has_switch (codes "deleted") (codes "deleted=TRUE") ≡ false
unfolding form_urlencoded_on_literals utf8_lossy utf8_valid_len is_utf8 chars encode
switch_in_capitals = refl
