-- The methods that a path offers, as the field `Allow` lists them.
use Rattle.std.specs.Prelude.{ℕ, List, codes}
use Rattle.reg_refusals.specs.declared.allow.Allow.{Allow}
use Rattle.reg_refusals.specs.declared.allow.Allow.TheVariants.{Get, Post, GetPost, GetPut, GetDelete, PostDelete, GetPutDelete}

abbrev pub allow_text : Allow → List ℕ
allow_text Get = codes "GET"
allow_text Post = codes "POST"
allow_text GetPost = codes "GET, POST"
allow_text GetPut = codes "GET, PUT"
allow_text GetDelete = codes "GET, DELETE"
allow_text PostDelete = codes "POST, DELETE"
allow_text GetPutDelete = codes "GET, PUT, DELETE"
