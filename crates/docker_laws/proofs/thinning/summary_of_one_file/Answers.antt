use Rattle.docker_laws.proofs.dockers.FileSummary.{summary_is, summary_valid, join_of_nothing}
use Rattle.docker_laws.proofs.dockers.ThinState.{live_of_summary}
use Rattle.docker_laws.proofs.thinning.summary_of_one_file.Goals as goal

pub returns-clause-is : goal.returns-clause-is
returns-clause-is c = summary_is

pub returns-clause-valid : goal.returns-clause-valid
returns-clause-valid c = summary_valid

pub returns-clause-joined : goal.returns-clause-joined
returns-clause-joined c = join_of_nothing

pub returns-clause-live : goal.returns-clause-live
returns-clause-live c = λ file state summary. λ i key. live_of_summary file state summary key i
