-- The jobs of a word, whether listed or shared.
use Rattle.std.specs.Prelude.{ℕ, List}
use Rattle.shop_model.specs.{declared.words.Entries.Entries, declared.words.Entries.TheVariants.{Listed, Shared}}

abbrev pub entries_jobs : Entries → List ℕ
entries_jobs (Listed jobs) = jobs.items
entries_jobs (Shared word) = word
