-- The exchanges of a program with its input and its output: the calls to the two devices and their
-- results, in one order.
use Rattle.std.specs.Prelude.{List, [], ◌∷◌, ◌++◌, ⊤}
use Rattle.docker_host.specs.History.{Text}

-- one call to the input or to the output, and its result. Bytes that a read returned or a write
-- took are known to the program. So contracts can say which bytes they are, for real devices too
pub data Exchange : Type 0 where
  -- the input was read, and returned these bytes. No bytes mean that the input reported its end
  read : (bytes : Text) → Exchange
  -- the input was read, and failed
  unread : Exchange
  -- the output was written to, and took these bytes
  wrote : (bytes : Text) → Exchange
  -- the output was written to, and failed
  unwritten : Exchange

-- the call is a read. A program that reads from a terminal may wait at this call
abbrev pub IsRead : Exchange → Type 0
IsRead (read bytes) = ⊤
IsRead unread = ⊤
IsRead (wrote bytes) = ⊥
IsRead unwritten = ⊥

-- the call is a write
abbrev pub IsWrite : Exchange → Type 0
IsWrite (read bytes) = ⊥
IsWrite unread = ⊥
IsWrite (wrote bytes) = ⊤
IsWrite unwritten = ⊤

-- the bytes that the input returned in these exchanges
abbrev pub bytes_read : List Exchange → Text
bytes_read [] = []
bytes_read (read bytes ∷ exchanges) = bytes ++ bytes_read exchanges
bytes_read (unread ∷ exchanges) = bytes_read exchanges
bytes_read (wrote bytes ∷ exchanges) = bytes_read exchanges
bytes_read (unwritten ∷ exchanges) = bytes_read exchanges

-- the bytes that the output took in these exchanges
abbrev pub bytes_written : List Exchange → Text
bytes_written [] = []
bytes_written (read bytes ∷ exchanges) = bytes_written exchanges
bytes_written (unread ∷ exchanges) = bytes_written exchanges
bytes_written (wrote bytes ∷ exchanges) = bytes ++ bytes_written exchanges
bytes_written (unwritten ∷ exchanges) = bytes_written exchanges

-- each of these exchanges is a read
abbrev pub AreReads : List Exchange → Type 0
AreReads [] = ⊤
AreReads (exchange ∷ exchanges) = IsRead exchange × AreReads exchanges

-- each of these exchanges is a write
abbrev pub AreWrites : List Exchange → Type 0
AreWrites [] = ⊤
AreWrites (exchange ∷ exchanges) = IsWrite exchange × AreWrites exchanges
