-- The parser was fed exactly the bytes that were read from the source.
use Rattle.cif_laws.proofs.Common.{[], Err, ap, inl}
use Rattle.cif_file.proofs.ReadLemmas.{at_start, ends_early, ends_whole, no_further, unread}
use Rattle.cif_file.proofs.read.read_kept.Goals as goal

pub feed_all-requires-clause-taking : goal.feed_all-requires-clause-taking
feed_all-requires-clause-taking g c = record {
  settings = c.args.limit;
  text = [];
  taken = at_start g.K.ChangeKeeper.keeps c.args.limit c.new-reading.result c.new-reading.ensures c.requires.limit;
}

pub returns-in-Ok-clause-reads : goal.returns-in-Ok-clause-reads
returns-in-Ok-clause-reads g c =
    let start = at_start _ _ _ c.new-reading.ensures c.requires.limit in
    ends_whole _ _ _ _ _ _ _ _ _ _ (c.in-Ok.ensures.ends.0 c.args.limit [] start) c.in-Ok.ensures.ends.1
    (no_further _ _ _ _ (c.in-Ok.ensures.no_further c.args.limit [] start)) (c.in-Ok.ensures.failures.1 (λ is. cc))
    c.ended_of.ensures.ok c.ended_of.ensures.file c.ended_of.ensures.memory c.ended_of.ensures.source

pub returns-in-Err-Source-clause-reads : goal.returns-in-Err-Source-clause-reads
returns-in-Err-Source-clause-reads g c =
    let start = at_start _ _ _ c.new-reading.ensures c.requires.limit in
    record {
      no_further = no_further _ _ _ _ (c.in-Err-Source.ensures.no_further c.args.limit [] start);
      outcome = tt;
      failures = c.in-Err-Source.ensures.failures.0.0 (ap Err c.in-Err-Source.field-0-is);
    }

pub returns-in-Err-Memory-clause-reads : goal.returns-in-Err-Memory-clause-reads
returns-in-Err-Memory-clause-reads g c = record {
  no_further = no_further _ _ _ _ (c.in-Err-Memory.ensures.no_further c.args.limit [] (at_start _ _ _ c.new-reading.ensures c.requires.limit));
  outcome = inl (unread _ _ (rw c.in-Err-Memory.field-0-is at c.in-Err-Memory.ensures.ends).0);
  failures = c.in-Err-Memory.ensures.failures.1 (λ failing. cc (c.in-Err-Memory.field-0-is, failing));
}

pub returns-clause-reads : goal.returns-clause-reads
returns-clause-reads g c =
    let start = at_start _ _ _ c.new-reading.ensures c.requires.limit in
    let refused = rw c.in-Err-Refused.field-0-is at c.in-Err-Refused.ensures.ends in
    ends_early _ _ _ _ _ _ _ _ _ _ (refused c.args.limit [] start) (no_further _ _ _ _ (c.in-Err-Refused.ensures.no_further c.args.limit [] start))
    (c.in-Err-Refused.ensures.failures.1 (λ failing. cc (c.in-Err-Refused.field-0-is, failing)))
    c.fault_of.ensures.memory c.fault_of.ensures.file c.fault_of.ensures.source
