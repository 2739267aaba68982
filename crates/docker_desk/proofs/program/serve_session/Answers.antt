use Rattle.cif_laws.proofs.Common.{refl}
use Rattle.docker_cmd.specs.Words.{texts}
use Rattle.docker_desk.specs.SessionViews.{session_view}
use Rattle.docker_desk.proofs.ServeLemmas.{begins, refused_as, served_as, still}
use Rattle.docker_desk.proofs.program.serve_session.Goals as goal

pub returns-in-Ok : goal.returns-in-Ok
returns-in-Ok g c = served_as (texts c.args.words.now) g.D.Folder.names_bytes _ _ _ c.end_session.result c.host.view_is (record {
  name = c.in-Some.named.name.now;
  may_write = c.in-Some.named.may_write;
  words_are = c.in-Some.ensures.named;
  first = session_view c.in-Ok.session.desk (g.D.Folder.look_of c.in-Ok.session.seen) (g.D.Folder.history c.open_session.new.folder)
      (g.D.Folder.failures c.open_session.new.folder);
  begins = begins (λ session. session.desk) _ _ _ c.in-Ok.session _ _ c.in-Ok.ensures.opens c.in-Ok.ensures.look;
  none = still _ _ c.in-Ok.ensures.counted;
  last = session_view c.serve_lines-ending.new.session.desk (g.D.Folder.look_of c.serve_lines-ending.new.session.seen)
      (g.D.Folder.history c.serve_lines-ending.new.folder) (g.D.Folder.failures c.serve_lines-ending.new.folder);
  ending = c.serve_lines-ending.result;
  answers = c.serve_lines-ending.ensures.answers;
  history = refl;
  failures = refl;
  counts = c.serve_lines-ending.ensures.counted;
  not_passed = c.serve_lines-ending.ensures.not_passed;
  told = c.serve_lines-ending.ensures.reported;
  left = c.serve_lines-ending.ensures.left;
  ends = rw (← c.is_unsaved-unsaved.ensures) c.end_session.ensures;
})

pub returns-in-Err : goal.returns-in-Err
returns-in-Err g c = refused_as _ _ _ _ _ _ _ _ _ c.host.view_is c.in-Some.ensures.named c.in-Err.ensures.opens c.in-Err.ensures.counted refl
    c.tell_failure.ensures.status c.tell_failure.ensures.tells
