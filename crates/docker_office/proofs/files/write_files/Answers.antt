use Rattle.std.proofs.Common.{◌∙◌, refl}
use Rattle.docker_office.proofs.FilesLemmas.{none_taken, minute_at, line_taken, line_begun, all_taken, on_err}
use Rattle.docker_office.proofs.files.write_files.Goals as goal

pub loop-item-init : goal.loop-item-init
loop-item-init g c = record { taken = none_taken (g.K.Sink.taken c.args.sink.now); no_failure = refl }

pub line_of-requires : goal.line_of-requires
line_of-requires g c = minute_at c.args.items.now c.loop-item.item-index c.item-item.result c.requires.good c.loop-item-test.true c.item-item.is

pub loop-item-preserved : goal.loop-item-preserved
loop-item-preserved g c = record {
  taken = line_taken _ _ _ _ _ _ _ c.loop-item-test.true c.item-item.is c.line_of.ensures c.loop-item.invariant.taken c.in_ok-write_all.ensures.whole;
  no_failure = c.in_ok-write_all.ensures.no_failure ∙ c.loop-item.invariant.no_failure;
}

pub returns-clause-whole : goal.returns-clause-whole
returns-clause-whole g c = all_taken _ _ _ _ c.loop-item-test.false c.loop-item.invariant.taken

pub returns-in_err-write_all-clause-part : goal.returns-in_err-write_all-clause-part
returns-in_err-write_all-clause-part g c = on_err _ _ (line_begun _ _ _ _ _ _ _ c.loop-item-test.true c.item-item.is c.line_of.ensures
    c.loop-item.invariant.taken c.in_err-write_all.ensures.part)
