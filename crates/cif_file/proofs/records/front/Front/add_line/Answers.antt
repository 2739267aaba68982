-- The line is appended to the lines of the schedule. If the line is the terminus, the keeper makes the schedule's change.
use Rattle.cif_laws.proofs.Common.{subst, refl, ◌++◌, ◌∷◌, []}
use Rattle.cif_file.specs.KeeperRead.{Closes}
use Rattle.cif_file.proofs.FrontLemmas.{line_added, line_closed, added_to, on_ok}
use Rattle.cif_file.proofs.records.front.Front.add_line.Goals as goal

pub returns-in-Some-clause-read : goal.returns-in-Some-clause-read
returns-in-Some-clause-read g c = λ opened place records before.
    let over = c.in-Some.ensures opened place in
    on_ok c.close.result c.close.ensures.kept c.close.ensures.stage
    (λ closed between.
    line_closed g.K.ChangeKeeper.keeps c.args.self.now opened c.args.line.now records before c.close.new.self over.1
    c.close.ensures.header between
    (λ lines made some read is kept.
    subst (λ o. Closes g.K.ChangeKeeper.keeps c.add_line.new.self o c.close.new.self.keeper) over.0 closed
    (lines ++ c.args.line.now ∷ []) made read is
    (added_to g.K.ChangeKeeper.keeps c.args.self.now.keeper c.add_line.new.self lines c.args.line.now made some c.in_ok-add_line.ensures.kept kept)))

pub returns-in-None-clause-read : goal.returns-in-None-clause-read
returns-in-None-clause-read g c = λ opened place records before. line_added _ _ _ _ _ before _ (c.in-None.ensures opened place) refl place
    c.in_ok-add_line.ensures.kept
