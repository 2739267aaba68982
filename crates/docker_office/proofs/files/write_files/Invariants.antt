use Rattle.std.proofs.Common.{◌≡◌, take}
use Rattle.cif_device.specs.Device.{Takes}
use Rattle.docker_office.proofs.FilesLemmas.{text_of}
use Rattle.docker_office.proofs.files.write_files.Given as goal

-- the lines before the current line have been written
abbrev pub invariant-loop-item : goal.invariant-loop-item
invariant-loop-item g l = record {
  taken : Takes (g.K.Sink.taken l.fn.sink) (text_of (take l.item-index l.items)) (g.K.Sink.taken l.sink);
  no_failure : g.K.Sink.failures l.sink ≡ g.K.Sink.failures l.fn.sink;
}
