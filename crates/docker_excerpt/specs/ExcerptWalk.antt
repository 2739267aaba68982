-- The code's walk over a state's entries, which makes an excerpt from them.
use Rattle.std.specs.Prelude.{List, map}
use Rattle.docker_model.specs.file.Change.{Key}
use Rattle.docker_model.specs.state.Op.{Entry}
use Rattle.docker_join.specs.Meaning.{row_meant}
use Rattle.docker_excerpt.specs.declared.walk.ExcerptWalk.{ExcerptWalk}
use Rattle.docker_excerpt.specs.Walked.{IsWalk}

-- says that the walk has passed exactly these entries, and that the walk's fields satisfy `IsWalk`
-- for these entries
abbrev pub HasWalked : ExcerptWalk → List (Key × Entry) → Type 0
HasWalked walk entries = IsWalk walk.place entries (map row_meant walk.kept.items) (map row_meant walk.run.items) walk.needed walk.names.items
