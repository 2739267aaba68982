use Rattle.docker_program.proofs.VersionLemmas.{one_version, version_known, version_printed}
use Rattle.docker_program.proofs.laws.versions_are_summaries.Goals as goal

pub returns-clause-summary : goal.returns-clause-summary
returns-clause-summary c = version_known

pub returns-clause-same : goal.returns-clause-same
returns-clause-same c = one_version

pub returns-clause-docker : goal.returns-clause-docker
returns-clause-docker c = version_printed
