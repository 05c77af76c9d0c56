pub mod Sound
pub mod MatchLaws
pub mod Rows
pub mod Hops
pub mod Named
pub mod Labelled
pub mod Indexed
pub mod Searching
pub mod FieldIndexes
pub mod Owing
pub mod SeenLaws
pub mod Worklists
pub mod Order
pub mod BreadthFirst
pub mod AnyClash
pub mod Verdicts
pub mod Examples
pub use Rattle.avro_schema.proofs as avro_schema_proofs
