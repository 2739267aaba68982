-- The bytes that the parser was fed are the bytes that were read from the source.
use Rattle.std.proofs.Common.{[], ap, inl, Err}
use Rattle.docker_bytes.proofs.ReadLemmas.{at_start, loses_few, nothing_lost, reads_all, refused_ends}
use Rattle.docker_bytes.proofs.read.read_pieces.Goals as goal

pub feed_all-requires-clause-taking : goal.feed_all-requires-clause-taking
feed_all-requires-clause-taking g c = record { settings = _; text = []; taken = at_start _ c.requires.unread c.requires.limit }

pub returns-in-Ok-clause-reads : goal.returns-in-Ok-clause-reads
returns-in-Ok-clause-reads g c =
    let start = at_start _ c.requires.unread c.requires.limit in
    record {
      few = loses_few _ _ _ (c.in-Ok.ensures.no_further _ [] start);
      outcome = reads_all _ _ _ _ _ (c.in-Ok.ensures.ends.0 _ [] start) c.in-Ok.ensures.ends.1;
      failures = c.in-Ok.ensures.failures.1 (λ is. cc);
    }

pub returns-in-Err-Source-clause-reads : goal.returns-in-Err-Source-clause-reads
returns-in-Err-Source-clause-reads g c = record {
  few = loses_few _ _ _ (c.in-Err-Source.ensures.no_further _ [] (at_start _ c.requires.unread c.requires.limit));
  outcome = tt;
  failures = c.in-Err-Source.ensures.failures.0.0 (ap Err c.in-Err-Source.field-0-is);
}

pub returns-in-Err-Memory-clause-reads : goal.returns-in-Err-Memory-clause-reads
returns-in-Err-Memory-clause-reads g c =
    let same = rw c.in-Err-Memory.field-0-is at c.in-Err-Memory.ensures.ends in
    record {
      few = loses_few _ _ _ (c.in-Err-Memory.ensures.no_further _ [] (at_start _ c.requires.unread c.requires.limit));
      outcome = inl (nothing_lost _ _ same.0);
      failures = c.in-Err-Memory.ensures.failures.1 (λ is. cc);
    }

pub returns-in-Err-Refused-clause-reads : goal.returns-in-Err-Refused-clause-reads
returns-in-Err-Refused-clause-reads g c =
    let start = at_start _ c.requires.unread c.requires.limit in
    let refused = rw c.in-Err-Refused.field-0-is at c.in-Err-Refused.ensures.ends in
    refused_ends _ _ _ _ _ _ _ (loses_few _ _ _ (c.in-Err-Refused.ensures.no_further _ [] start))
    (c.in-Err-Refused.ensures.failures.1 (λ is. cc)) (refused _ [] start)
