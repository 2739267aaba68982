use Rattle.cif_line.proofs.CallLanes.{lanes_told, all_set}
use Rattle.cif_line.proofs.call_fields.CallFields.read.Goals as goal

pub returns-clause-good : goal.returns-clause-good
returns-clause-good c = all_set c.args.line.now c.requires c.type_inv.line

pub returns-clause-arrival : goal.returns-clause-arrival
returns-clause-arrival c = (lanes_told c.args.line.now c.requires c.type_inv.line).arrival_told

pub returns-clause-departure : goal.returns-clause-departure
returns-clause-departure c = (lanes_told c.args.line.now c.requires c.type_inv.line).departure_told

pub returns-clause-pass : goal.returns-clause-pass
returns-clause-pass c = (lanes_told c.args.line.now c.requires c.type_inv.line).pass_told
