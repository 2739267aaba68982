-- Converts what a job keeps in memory to the form that the definitions use, and says which output
-- can be written from what is kept.
use Rattle.std.specs.Prelude.{◌≡◌}
use Rattle.docker_excerpt.specs.Values.{Excerpt}
use Rattle.docker_cmd.specs.Prepared.{ReadView, file_read, office_read}
use Rattle.docker_cmd.specs.declared.holding.Holding.{Holding}
use Rattle.docker_cmd.specs.declared.holding.Holding.TheVariants.{Counts, Whole, Place, Ledger}
use Rattle.docker_cmd.specs.Writes.{Output, counts_written, docker_written, files_written, state_written}

-- the content from which an excerpt was made, namely a whole state
abbrev pub place_read : Excerpt → ReadView
place_read office = office_read office.state

-- the content that a job has read, given what the job keeps of it in memory
abbrev pub held_meant : Holding → ReadView
held_meant (Counts file) = file_read file
held_meant (Whole office) = office_read office
held_meant (Place office) = place_read office
held_meant (Ledger office) = office_read office

-- this output can be written from what the job keeps in memory. From a file's counts, only the line
-- with these counts can be written. From a whole state, only the state's text can be written. From
-- an excerpt, only the docker of its timing point and day can be written. From a ledger, only the
-- list of files can be written
abbrev pub IsWrittenFrom : Output → Holding → Type 0
IsWrittenFrom output (Counts file) = output ≡ counts_written
IsWrittenFrom output (Whole office) = output ≡ state_written
IsWrittenFrom output (Place office) = output ≡ docker_written office.place office.day
IsWrittenFrom output (Ledger office) = output ≡ files_written
