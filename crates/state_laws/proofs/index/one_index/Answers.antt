use Rattle.state_laws.proofs.indexes.OneIndex.{one_calling_index, one_linked_index, one_calling, one_linked, one_of_uid}
use Rattle.state_laws.proofs.indexes.CallsTest.{calling_from_rows, linked_from_rows}
use Rattle.state_laws.proofs.index.one_index.Goals as goal

pub returns-clause-calling : goal.returns-clause-calling
returns-clause-calling c = one_calling_index

pub returns-clause-linked : goal.returns-clause-linked
returns-clause-linked c = one_linked_index

pub returns-clause-calls : goal.returns-clause-calls
returns-clause-calls c = one_calling

pub returns-clause-links : goal.returns-clause-links
returns-clause-links c = one_linked

pub returns-clause-of_uid : goal.returns-clause-of_uid
returns-clause-of_uid c = one_of_uid

pub returns-clause-calling_made : goal.returns-clause-calling_made
returns-clause-calling_made c = calling_from_rows

pub returns-clause-linked_made : goal.returns-clause-linked_made
returns-clause-linked_made c = linked_from_rows
