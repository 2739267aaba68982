use Rattle.cif_laws.proofs.Common.{length, refl, err_from_is_err_and}
use Rattle.docker_program.proofs.ProgramLemmas.{ends_done, ends_unread, ends_unwritten, never_passed}
use Rattle.docker_program.proofs.program.do_job.Goals as goal

pub returns-in_err-prepared-clause-ends : goal.returns-in_err-prepared-clause-ends
returns-in_err-prepared-clause-ends g c =
    let same = err_from_is_err_and c.from_residual-in_err-prepared.result c.from_residual-in_err-prepared.ensures.1 in
    rw (same.1, same.2) (ends_unread _ _ _ _ _ _ _ _ _ c.host.view_is c.look_at_stored-looked.ensures.asked
    c.in_ok-job.ensures.job c.in_ok-job.ensures.at_most refl c.in_err-prepared.ensures.reads)

pub returns-in_err-done-clause-ends : goal.returns-in_err-done-clause-ends
returns-in_err-done-clause-ends g c =
    let same = err_from_is_err_and c.from_residual-in_err-done.result c.from_residual-in_err-done.ensures.1 in
    rw (same.1, same.2) (ends_unwritten _ _ _ _ _ _ _ _ _ _ _
    c.host.view_is c.look_at_stored-looked.ensures.asked c.in_ok-job.ensures.job c.in_ok-job.ensures.at_most c.in_ok-prepared.ensures.reads
    (c.in_err-done.ensures.ends (length (g.D.Folder.history c.host.inside.folder)) c.look_at_stored-looked.ensures.look))

pub returns-clause-ends : goal.returns-clause-ends
returns-clause-ends g c = ends_done _ _ _ _ _ _ _ _ _ _
    c.host.view_is c.look_at_stored-looked.ensures.asked c.in_ok-job.ensures.job c.in_ok-job.ensures.at_most c.in_ok-prepared.ensures.reads
    (c.in_ok-done.ensures.ends (length (g.D.Folder.history c.host.inside.folder)) c.look_at_stored-looked.ensures.look)

pub returns-in_err-prepared-clause-not_passed : goal.returns-in_err-prepared-clause-not_passed
returns-in_err-prepared-clause-not_passed g c = never_passed _ _ _ _ _ c.host.view_is c.in_ok-job.ensures.not_ended c.in_ok-job.ensures.not_passed
    c.in_err-prepared.ensures.not_passed

pub returns-in_err-done-clause-not_passed : goal.returns-in_err-done-clause-not_passed
returns-in_err-done-clause-not_passed g c = never_passed _ _ _ _ _ c.host.view_is c.in_ok-job.ensures.not_ended c.in_ok-job.ensures.not_passed
    c.in_ok-prepared.ensures.not_passed

pub returns-clause-not_passed : goal.returns-clause-not_passed
returns-clause-not_passed g c = never_passed _ _ _ _ _ c.host.view_is c.in_ok-job.ensures.not_ended c.in_ok-job.ensures.not_passed
    c.in_ok-prepared.ensures.not_passed
