-- Converts the last columns of a docker line from the code's type to the type of the definitions.
use Rattle.docker_model.specs.docker.DockerLine.{ends, partner}
use Rattle.docker_model.specs.docker.DockerLine as model
use Rattle.docker_day.specs.declared.detail.Detail.{Detail}
use Rattle.docker_day.specs.declared.detail.Detail.TheVariants.{Ends, Partner}

-- converts the code's `Detail` of a docker line to the definitions' `Detail`
abbrev pub detail_meant : Detail → model.Detail
detail_meant (Ends origin destination) = ends origin destination
detail_meant (Partner uid identity) = partner uid identity
