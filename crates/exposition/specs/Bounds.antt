-- Private: the bound of a bucket, or none.
use Rattle.std.specs.Prelude.{ℕ, List, Option, Some, None, codes}
use Rattle.exposition.specs.Numbers.{number_text}

abbrev pub bound_text : Option ℕ → List ℕ
bound_text None = codes "+Inf"
bound_text (Some bound) = number_text bound
