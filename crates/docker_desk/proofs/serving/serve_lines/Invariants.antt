use Rattle.cif_laws.proofs.Common.{◌≡◌, ◌≤◌, false}
use Rattle.docker_desk.specs.Lines.{with_ahead}
use Rattle.docker_desk.specs.SessionViews.{session_view, setting}
use Rattle.docker_desk.proofs.StepLemmas.{IsSoFar}
use Rattle.docker_desk.proofs.serving.serve_lines.Given as goal

abbrev pub invariant-loop : goal.invariant-loop
invariant-loop g l = record {
  so_far : IsSoFar (setting l.fn.words.name.now l.fn.words.may_write g.D.Folder.names_bytes) l.counter
      (session_view l.fn.session.desk (g.D.Folder.look_of l.fn.session.seen) (g.D.Folder.history l.fn.folder) (g.D.Folder.failures l.fn.folder))
      (session_view l.session.desk (g.D.Folder.look_of l.session.seen) (g.D.Folder.history l.folder) (g.D.Folder.failures l.folder))
      l.fn.streams.input (with_ahead l.ahead l.streams.input) l.fn.streams.output l.streams.output l.ahead l.fn.streams.exchanges
      l.streams.exchanges;
  few : g.D.Folder.failures l.folder ≤ l.counter;
  input : l.streams.input_failures ≡ l.fn.streams.input_failures;
  output : l.streams.output_failures ≡ l.fn.streams.output_failures;
  going : l.fn.streams.ended ≡ false → (l.streams.passed ≡ l.fn.streams.passed) × (l.streams.ended ≡ false);
}
