use Rattle.docker_desk.proofs.UnsavedLemmas.{is_in_state, refused_renewal, was_in_state}
use Rattle.docker_desk.proofs.laws.what_is_not_unsaved_is_in_state.Goals as goal

pub returns-clause-held : goal.returns-clause-held
returns-clause-held c = λ setting old first last steps begins are clear. was_in_state setting old first last steps begins are clear

pub returns-clause-holds : goal.returns-clause-holds
returns-clause-holds c = λ standing setting old first last steps begins are clear stands still.
    is_in_state setting standing last (was_in_state setting old first last steps begins are clear) stands still

pub returns-clause-refused : goal.returns-clause-refused
returns-clause-refused c = λ setting before after fault does. refused_renewal setting before after fault does
