-- First the schedule's change is made, and then the next record begins another unit.
use Rattle.cif_file.proofs.FrontLemmas.{over_of_closed, on_ok_one}
use Rattle.cif_file.proofs.records.front.Front.begin_anew.Goals as goal

pub returns-clause-read : goal.returns-clause-read
returns-clause-read g c = λ line is whole.
    on_ok_one c.add_unit.result (c.add_unit.ensures.read line is)
    (λ begins. λ records has counted.
    begins records
    (over_of_closed g.K.ChangeKeeper.keeps c.args.self.now c.close.new.self c.args.opened records has c.requires.stage whole c.close.ensures.header
    c.in_ok-close.ensures.kept)
    counted)
