use Rattle.cif_laws.proofs.Common.{◌≡◌, ◌∙◌, ap, inl, refl, sym, Ok, Err, err_from_is_err_and, most_records, dks_1, dks_2}
use Rattle.docker_excerpt.specs.Values.{Excerpt}
use Rattle.docker_office.specs.Office.{TakesFile, no_state}
use Rattle.docker_cmd.specs.Tasks.{check_task, day_task, files_task, horizon_task, merge_task, migrate_task, new_task, output_of, print_task, take_task}
use Rattle.docker_cmd.specs.Tasks.{task_meant}
use Rattle.docker_cmd.specs.declared.holding.Holding.TheVariants.{Counts, Whole, Place, Ledger}
use Rattle.docker_cmd.proofs.ReadingLemmas.{file_failed_alone, file_refused_alone}
use Rattle.docker_cmd.proofs.SourcesLemmas.{alone_held, held_for, state_held, state_unheld}
use Rattle.docker_cmd.proofs.holding.hold.Goals as goal

pub returns-in-New : goal.returns-in-New
returns-in-New g c =
    let at : c.args.job.now.task ≡ new_task = sym c.task.ensures ∙ ap task_meant c.in-New.is in
    record {
      reads = held_for g.S.Source.left g.S.Source.failures g.T.Source.left g.T.Source.failures _ new_task _ _ _ _ (Ok (Whole c.new.result)) at (record {
        outcome = record { first_few = refl; second_few = refl; ends = (c.new.ensures.empty, tt) };
        none = λ none. refl;
        order = inl refl;
        counted = (refl, refl);
      });
      written = ap output_of at;
      not_passed = (λ _. refl, λ _. refl);
    }

pub returns-in_ok-counts_of_file-in-Check-clause-reads : goal.returns-in_ok-counts_of_file-in-Check-clause-reads
returns-in_ok-counts_of_file-in-Check-clause-reads g c =
    let at : c.args.job.now.task ≡ check_task = sym c.task.ensures ∙ ap task_meant c.in-Check.is in
    let read = c.in_ok-counts_of_file-in-Check in
    let ended = read.ensures.reads (g.T.Source.left c.args.second.now) in
    alone_held g.S.Source.left g.S.Source.failures g.T.Source.left g.T.Source.failures _ check_task _ _ _ (Ok (Counts read.field-0)) at (λ none. cc)
    (record { first_few = ended.first_few; second_few = refl; ends = ((refl, ended.ends.0), ended.ends.1) })
    (read.ensures.counted (g.T.Source.failures c.args.second.now))

pub returns-in_err-counts_of_file-in-Check-clause-reads : goal.returns-in_err-counts_of_file-in-Check-clause-reads
returns-in_err-counts_of_file-in-Check-clause-reads g c =
    let at : c.args.job.now.task ≡ check_task = sym c.task.ensures ∙ ap task_meant c.in-Check.is in
    let read = c.in_err-counts_of_file-in-Check in
    let same = err_from_is_err_and c.from_residual.result c.from_residual.ensures.1 in
    rw (same.1, same.2) (alone_held g.S.Source.left g.S.Source.failures g.T.Source.left g.T.Source.failures _ check_task _ _ _ (Err _) at (λ none. cc)
    (read.ensures.reads (g.T.Source.left c.args.second.now)) (read.ensures.counted (g.T.Source.failures c.args.second.now)))

pub returns-in_ok-office-in-Day-clause-reads : goal.returns-in_ok-office-in-Day-clause-reads
returns-in_ok-office-in-Day-clause-reads g c =
    let at : c.args.job.now.task ≡ day_task c.in-Day.place c.in-Day.day = sym c.task.ensures ∙ ap task_meant c.in-Day.is in
    let read = c.in_ok-office-in-Day in
    alone_held g.S.Source.left g.S.Source.failures g.T.Source.left g.T.Source.failures _ (day_task c.in-Day.place c.in-Day.day) _ _ _
    (Ok (Place read.office)) at (λ none. cc)
    (record { first_few = read.ensures.takes.no_further; second_few = refl; ends = read.ensures.takes.outcome }) (read.ensures.takes.failures, refl)

pub returns-in_err-office-in-Day-clause-reads : goal.returns-in_err-office-in-Day-clause-reads
returns-in_err-office-in-Day-clause-reads g c =
    let at : c.args.job.now.task ≡ day_task c.in-Day.place c.in-Day.day = sym c.task.ensures ∙ ap task_meant c.in-Day.is in
    let read = c.in_err-office-in-Day in
    let same = err_from_is_err_and c.from_residual-in_err-office-in-Day.result c.from_residual-in_err-office-in-Day.ensures.1 in
    rw (same.1, same.2) (alone_held g.S.Source.left g.S.Source.failures g.T.Source.left g.T.Source.failures _ (day_task c.in-Day.place c.in-Day.day) _ _ _
    (Err _) at (λ none. cc)
    (file_refused_alone (λ (office : Excerpt). TakesFile most_records (g.S.Source.left c.args.first.now) no_state office.state)
    _ _ _ _ read.ensures.takes.no_further read.ensures.takes.outcome)
    (file_failed_alone Excerpt _ _ (g.T.Source.failures c.args.second.now) _ read.ensures.takes.failures))

pub returns-in_ok-office_of_state_and_file-in-Take-clause-reads : goal.returns-in_ok-office_of_state_and_file-in-Take-clause-reads
returns-in_ok-office_of_state_and_file-in-Take-clause-reads g c =
    let at : c.args.job.now.task ≡ take_task = sym c.task.ensures ∙ ap task_meant c.in-Take.is in
    let read = c.in_ok-office_of_state_and_file-in-Take in
    held_for g.S.Source.left g.S.Source.failures g.T.Source.left g.T.Source.failures _ take_task _ _ _ _ (Ok (Whole read.field-0)) at read.ensures.reads

pub returns-in_err-office_of_state_and_file-in-Take-clause-reads : goal.returns-in_err-office_of_state_and_file-in-Take-clause-reads
returns-in_err-office_of_state_and_file-in-Take-clause-reads g c =
    let at : c.args.job.now.task ≡ take_task = sym c.task.ensures ∙ ap task_meant c.in-Take.is in
    let read = c.in_err-office_of_state_and_file-in-Take in
    let residual = c.from_residual-in_err-office_of_state_and_file-in-Take in
    let same = err_from_is_err_and residual.result residual.ensures.1 in
    rw (same.1, same.2) (held_for g.S.Source.left g.S.Source.failures g.T.Source.left g.T.Source.failures _ take_task _ _ _ _ (Err _) at read.ensures.reads)

pub returns-in_ok-office_of_two_states-in-Merge-clause-reads : goal.returns-in_ok-office_of_two_states-in-Merge-clause-reads
returns-in_ok-office_of_two_states-in-Merge-clause-reads g c =
    let at : c.args.job.now.task ≡ merge_task = sym c.task.ensures ∙ ap task_meant c.in-Merge.is in
    let read = c.in_ok-office_of_two_states-in-Merge in
    held_for g.S.Source.left g.S.Source.failures g.T.Source.left g.T.Source.failures _ merge_task _ _ _ _ (Ok (Whole read.field-0)) at read.ensures.reads

pub returns-in_err-office_of_two_states-in-Merge-clause-reads : goal.returns-in_err-office_of_two_states-in-Merge-clause-reads
returns-in_err-office_of_two_states-in-Merge-clause-reads g c =
    let at : c.args.job.now.task ≡ merge_task = sym c.task.ensures ∙ ap task_meant c.in-Merge.is in
    let read = c.in_err-office_of_two_states-in-Merge in
    let residual = c.from_residual-in_err-office_of_two_states-in-Merge in
    let same = err_from_is_err_and residual.result residual.ensures.1 in
    rw (same.1, same.2) (held_for g.S.Source.left g.S.Source.failures g.T.Source.left g.T.Source.failures _ merge_task _ _ _ _ (Err _) at read.ensures.reads)

pub returns-in_ok-office-in-Print-clause-reads : goal.returns-in_ok-office-in-Print-clause-reads
returns-in_ok-office-in-Print-clause-reads g c =
    let at : c.args.job.now.task ≡ print_task c.in-Print.place c.in-Print.day = sym c.task.ensures ∙ ap task_meant c.in-Print.is in
    let read = c.in_ok-office-in-Print in
    state_held g.S.Source.left g.S.Source.failures g.T.Source.left g.T.Source.failures dks_2 _ (print_task c.in-Print.place c.in-Print.day) _ _ _
    (Place read.office) at refl read.ensures.reads

pub returns-in_err-office-in-Print-clause-reads : goal.returns-in_err-office-in-Print-clause-reads
returns-in_err-office-in-Print-clause-reads g c =
    let at : c.args.job.now.task ≡ print_task c.in-Print.place c.in-Print.day = sym c.task.ensures ∙ ap task_meant c.in-Print.is in
    let read = c.in_err-office-in-Print in
    let same = err_from_is_err_and c.from_residual-in_err-office-in-Print.result c.from_residual-in_err-office-in-Print.ensures.1 in
    rw (same.1, same.2) (state_unheld g.S.Source.left g.S.Source.failures g.T.Source.left g.T.Source.failures dks_2 _
    (print_task c.in-Print.place c.in-Print.day) _ _ _ _ at refl read.ensures.reads)

pub returns-in_ok-read-in-Files-clause-reads : goal.returns-in_ok-read-in-Files-clause-reads
returns-in_ok-read-in-Files-clause-reads g c =
    let at : c.args.job.now.task ≡ files_task = sym c.task.ensures ∙ ap task_meant c.in-Files.is in
    let read = c.in_ok-read-in-Files in
    state_held g.S.Source.left g.S.Source.failures g.T.Source.left g.T.Source.failures dks_2 _ files_task _ _ _ (Ledger read.field-0) at refl read.ensures.reads

pub returns-in_err-read-in-Files-clause-reads : goal.returns-in_err-read-in-Files-clause-reads
returns-in_err-read-in-Files-clause-reads g c =
    let at : c.args.job.now.task ≡ files_task = sym c.task.ensures ∙ ap task_meant c.in-Files.is in
    let read = c.in_err-read-in-Files in
    let same = err_from_is_err_and c.from_residual-in_err-read-in-Files.result c.from_residual-in_err-read-in-Files.ensures.1 in
    rw (same.1, same.2) (state_unheld g.S.Source.left g.S.Source.failures g.T.Source.left g.T.Source.failures dks_2 _ files_task _ _ _ _
    at refl read.ensures.reads)

pub returns-in_ok-office_raised-in-Horizon-clause-reads : goal.returns-in_ok-office_raised-in-Horizon-clause-reads
returns-in_ok-office_raised-in-Horizon-clause-reads g c =
    let at : c.args.job.now.task ≡ horizon_task c.in-Horizon.day = sym c.task.ensures ∙ ap task_meant c.in-Horizon.is in
    let read = c.in_ok-office_raised-in-Horizon in
    state_held g.S.Source.left g.S.Source.failures g.T.Source.left g.T.Source.failures dks_2 _ (horizon_task c.in-Horizon.day) _ _ _
    (Whole read.field-0) at refl read.ensures.reads

pub returns-in_err-office_raised-in-Horizon-clause-reads : goal.returns-in_err-office_raised-in-Horizon-clause-reads
returns-in_err-office_raised-in-Horizon-clause-reads g c =
    let at : c.args.job.now.task ≡ horizon_task c.in-Horizon.day = sym c.task.ensures ∙ ap task_meant c.in-Horizon.is in
    let read = c.in_err-office_raised-in-Horizon in
    let same = err_from_is_err_and c.from_residual-in_err-office_raised-in-Horizon.result c.from_residual-in_err-office_raised-in-Horizon.ensures.1 in
    rw (same.1, same.2) (state_unheld g.S.Source.left g.S.Source.failures g.T.Source.left g.T.Source.failures dks_2 _ (horizon_task c.in-Horizon.day) _ _ _ _
    at refl read.ensures.reads)

pub returns-in_ok-office-in-Migrate-clause-reads : goal.returns-in_ok-office-in-Migrate-clause-reads
returns-in_ok-office-in-Migrate-clause-reads g c =
    let at : c.args.job.now.task ≡ migrate_task = sym c.task.ensures ∙ ap task_meant c.in-Migrate.is in
    let read = c.in_ok-office-in-Migrate in
    state_held g.S.Source.left g.S.Source.failures g.T.Source.left g.T.Source.failures dks_1 _ migrate_task _ _ _ (Whole read.office) at refl read.ensures.reads

pub returns-in_err-office-in-Migrate-clause-reads : goal.returns-in_err-office-in-Migrate-clause-reads
returns-in_err-office-in-Migrate-clause-reads g c =
    let at : c.args.job.now.task ≡ migrate_task = sym c.task.ensures ∙ ap task_meant c.in-Migrate.is in
    let read = c.in_err-office-in-Migrate in
    let same = err_from_is_err_and c.from_residual-in_err-office-in-Migrate.result c.from_residual-in_err-office-in-Migrate.ensures.1 in
    rw (same.1, same.2) (state_unheld g.S.Source.left g.S.Source.failures g.T.Source.left g.T.Source.failures dks_1 _ migrate_task _ _ _ _
    at refl read.ensures.reads)
