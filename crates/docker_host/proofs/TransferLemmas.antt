-- Interrupted reads and writes leave known bytes as they are.
use Rattle.std.proofs.Common.{ℕ, List, Option, rules, Result}
use Rattle.std.specs.Io.KnownBytes.{Appends, Consumes, Keeps, ReadConsumes, WriteAppends}

pub keeps_itself : (bytes : Option (List ℕ)) → Keeps bytes bytes
keeps_itself = search rules

pub keeps_again : (old mid new : Option (List ℕ)) → Keeps old mid → Keeps mid new → Keeps old new
keeps_again = search rules

consumes_after : (old mid new : Option (List ℕ)) (bytes : List ℕ) → Keeps old mid → Consumes mid new bytes → Consumes old new bytes
consumes_after = search rules

appends_after : (old mid new : Option (List ℕ)) (bytes : List ℕ) → Keeps old mid → Appends mid new bytes → Appends old new bytes
appends_after = search rules

-- if a reader kept its known bytes until a read that then took some, it took them from the first
-- bytes on
pub reads_after : {E : Type 0} (old mid new : Option (List ℕ)) (result : Result ℕ E) (into : List ℕ) → Keeps old mid → ReadConsumes mid new result into
    → ReadConsumes old new result into
reads_after = search (rules, consumes_after, keeps_again)

pub writes_after : {E : Type 0} (old mid new : Option (List ℕ)) (result : Result ℕ E) (piece : List ℕ) → Keeps old mid → WriteAppends mid new result piece
    → WriteAppends old new result piece
writes_after = search (rules, appends_after, keeps_again)
