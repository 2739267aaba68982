-- Several writes to the output of streams, one after another, and the exchanges that they add.
use Rattle.std.proofs.Common.{◌≡◌, ℕ, ◌+◌, ◌≤◌, ◌<◌, List, [], ◌∷◌, ◌++◌, length, take, drop, refl, arith, rules, append_assoc, append-nil, length-append}
use Rattle.std.proofs.lemmas.Grind.{common_steps}
use Rattle.std.proofs.lemmas.List.{take-append-le}
use Rattle.std.proofs.Math.Seq.{take-add, take-append-add, take-length}
use Rattle.docker_host.specs.History.{Bytes, Text}
use Rattle.docker_host.specs.Exchanges.{Exchange, read, unread, wrote, unwritten, AreReads, AreWrites, bytes_read, bytes_written}
use Rattle.docker_host.specs.Streams.{StreamsView, Writes, WritesPart, WritesWhole, after_unwritten}

-- ---- the bytes of exchanges

-- the bytes read in two lists of exchanges are the bytes read in their concatenation
pub read_append : (one two : List Exchange) → bytes_read (one ++ two) ≡ bytes_read one ++ bytes_read two
read_append [] two = refl
read_append (read bytes ∷ one) two = grind (arith, append_assoc, (read_append one two))
read_append (_ ∷ one) two = read_append one two

-- the bytes written in two lists of exchanges are the bytes written in their concatenation
pub written_append : (one two : List Exchange) → bytes_written (one ++ two) ≡ bytes_written one ++ bytes_written two
written_append [] two = refl
written_append (wrote bytes ∷ one) two = grind (arith, append_assoc, (written_append one two))
written_append (_ ∷ one) two = written_append one two

pub writes_append : (one two : List Exchange) → AreWrites one → AreWrites two → AreWrites (one ++ two)
writes_append [] two first second = second
writes_append (exchange ∷ one) two first second = (first.0, writes_append one two first.1 second)

-- writes read nothing
pub writes_read_none : (exchanges : List Exchange) → AreWrites exchanges → bytes_read exchanges ≡ []
writes_read_none [] are = refl
writes_read_none (wrote bytes ∷ exchanges) are = writes_read_none exchanges are.1
writes_read_none (unwritten ∷ exchanges) are = writes_read_none exchanges are.1
writes_read_none _ are = absurd are.0

-- reads write nothing
pub reads_write_none : (exchanges : List Exchange) → AreReads exchanges → bytes_written exchanges ≡ []
reads_write_none [] are = refl
reads_write_none (read bytes ∷ exchanges) are = reads_write_none exchanges are.1
reads_write_none (unread ∷ exchanges) are = reads_write_none exchanges are.1
reads_write_none _ are = absurd are.0

-- ---- one write after another

-- the streams after writes, with what the output has taken and how often it has failed
abbrev written_to : StreamsView → Bytes → ℕ → List Exchange → StreamsView
written_to old output failures gained =
    record old { output = output; output_failures = failures; exchanges = old.exchanges ++ gained }

only_both : (one two : List Exchange) (old mid new : StreamsView)
    → mid ≡ written_to old mid.output mid.output_failures one → new ≡ written_to mid new.output new.output_failures two
    → new ≡ written_to old new.output new.output_failures (one ++ two)
only_both = search (rules, append_assoc)

-- if the output took some bytes and then more bytes, it took their concatenation
pub writes_both : (front back : Text) (one two : List Exchange) (old mid new : StreamsView) → Writes front one old mid
    → Writes back two mid new → Writes (front ++ back) (one ++ two) old new
writes_both = grind (common_steps, arith, writes_append, written_append, only_both)

-- if no write was made, the output took the empty text
pub writes_none : (old : StreamsView) → WritesWhole [] old old
writes_none = search (rules, append-nil)

-- a write that failed
failed_write : (old new : StreamsView) → new ≡ after_unwritten old → Writes [] (unwritten ∷ []) old new
failed_write = search (rules, append-nil)

-- if the output took a whole text and then another whole text, it took their concatenation
pub whole_both : (first second : Text) (old mid new : StreamsView) → WritesWhole first old mid → WritesWhole second mid new
    → WritesWhole (first ++ second) old new
whole_both first second old mid new one two = record {
  gained = one.gained ++ two.gained;
  writes = search (rules, writes_both);
  failures = cc;
}

-- if the output took a whole text and then a proper prefix of another text, it took a proper prefix
-- of their concatenation
pub part_of_second : (first second : Text) (old mid new : StreamsView) → WritesWhole first old mid → WritesPart second mid new
    → WritesPart (first ++ second) old new
part_of_second first second old mid new one two = record {
  n = length first + two.n;
  short = simp length-append (omega arith);
  gained = one.gained ++ two.gained;
  writes = rw take-append-add (writes_both _ _ _ _ _ _ _ one.writes two.writes);
  failures = cc;
}

-- if the output took a proper prefix of a text, it took a proper prefix of each longer text that begins
-- with this text
pub part_of_first : (first second : Text) (old new : StreamsView) → WritesPart first old new → WritesPart (first ++ second) old new
part_of_first = search (rules, length-append, take-append-le)

-- ---- the loop over the writes of a text

-- if the first `done` bytes of a text were written and then the next `n` bytes, the first `done + n`
-- bytes were written
pub whole_more : (text : Text) (done n : ℕ) (old mid new : StreamsView) → WritesWhole (take done text) old mid
    → Writes (take n (drop done text)) (wrote (take n (drop done text)) ∷ []) mid new → new.output_failures ≡ mid.output_failures
    → WritesWhole (take (done + n) text) old new
whole_more = search (rules, take-add, whole_both)

-- if the first `done` bytes of a text were written and the next write fails, a proper prefix of the text
-- was written
pub part_fails : (text : Text) (done : ℕ) (old mid new : StreamsView) → done < length text → WritesWhole (take done text) old mid
    → new ≡ after_unwritten mid → WritesPart text old new
part_fails text done old mid new short one same = record {
  n = done;
  short = short;
  gained = one.gained ++ unwritten ∷ [];
  writes = rw append-nil at (writes_both _ _ _ _ _ _ _ one.writes (failed_write _ _ same));
  failures = cc;
}

-- once all bytes of a text are written, the whole text is written
pub whole_all : (text : Text) (done : ℕ) (old new : StreamsView) → done ≤ length text → length text ≤ done
    → WritesWhole (take done text) old new → WritesWhole text old new
whole_all = grind (common_steps, arith, take-length)
