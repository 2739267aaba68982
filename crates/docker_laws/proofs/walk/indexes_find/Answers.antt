use Rattle.state_laws.proofs.indexes.OneIndex.{calling_by_index, linked_by_index}
use Rattle.state_laws.proofs.indexes.IndexSegment.{calling_piece, linked_piece}
use Rattle.docker_laws.proofs.dockers.IndexedWalk.{indexed_walk, indexed_docker, of_uid_has, linked_has}
use Rattle.docker_laws.proofs.walk.indexes_find.Goals as goal

pub returns-clause-calling : goal.returns-clause-calling
returns-clause-calling c = calling_by_index

pub returns-clause-linked : goal.returns-clause-linked
returns-clause-linked c = linked_by_index

pub returns-clause-walk : goal.returns-clause-walk
returns-clause-walk c = indexed_walk

pub returns-clause-schedules : goal.returns-clause-schedules
returns-clause-schedules c = of_uid_has

pub returns-clause-associations : goal.returns-clause-associations
returns-clause-associations c = linked_has

pub returns-clause-docker : goal.returns-clause-docker
returns-clause-docker c = indexed_docker

pub returns-clause-calling_piece : goal.returns-clause-calling_piece
returns-clause-calling_piece c = calling_piece

pub returns-clause-linked_piece : goal.returns-clause-linked_piece
returns-clause-linked_piece c = linked_piece
