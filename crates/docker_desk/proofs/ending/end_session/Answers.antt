use Rattle.docker_desk.proofs.ending.end_session.Goals as goal

pub returns-in-InputFailed : goal.returns-in-InputFailed
returns-in-InputFailed g c = rw c.in-InputFailed.is (record { status_is = c.tell_failure.ensures.status; tells = c.tell_failure.ensures.tells })

pub returns-in-InputEndless : goal.returns-in-InputEndless
returns-in-InputEndless g c =
    rw c.in-InputEndless.is
    (record { status_is = c.tell_failure-in-InputEndless.ensures.status; tells = c.tell_failure-in-InputEndless.ensures.tells })

pub returns-in-OutputFailed : goal.returns-in-OutputFailed
returns-in-OutputFailed g c =
    rw c.in-OutputFailed.is
    (record { status_is = c.tell_failure-in-OutputFailed.ensures.status; tells = c.tell_failure-in-OutputFailed.ensures.tells })
