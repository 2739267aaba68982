use Rattle.cif_laws.proofs.Common.{◌∙◌, ℕ, List, [], length, ap, refl, rules, Some, None, Bor}
use Rattle.docker_cmd.specs.declared.tasks.Subcommand.TheVariants.{New, Day, Take, Merge, Print, Horizon, Migrate}
use Rattle.docker_cmd.specs.declared.tasks.Task.TheVariants as task
use Rattle.docker_cmd.specs.Words.{texts}
use Rattle.docker_cmd.specs.Tasks.{day_task, ids_of, print_task}
use Rattle.docker_cmd.proofs.TaskWords.{asked, both_behind, not_both_behind, state_alone, state_first}
use Rattle.docker_cmd.proofs.tasks.Subcommand.task.Goals as goal

-- a default word for an index past the end. It is never used
no_word : Bor (List ℕ)
no_word = record { ref_ptr = (0, 0); now = [] }

pub returns-in-New : goal.returns-in-New
returns-in-New c = asked New c.args.self (texts c.args.words.now) _ _ c.in-New.is c.unless_stdin.ensures
    (state_alone New task.New refl (λ s is. is) (λ s is. is) c.args.words.now _ (c.requires ∙ ap (λ s. length (ids_of s)) c.in-New.is))

pub returns-in-Migrate : goal.returns-in-Migrate
returns-in-Migrate c = asked Migrate c.args.self (texts c.args.words.now) _ _ c.in-Migrate.is c.unless_stdin-in-Migrate.ensures
    (state_alone Migrate task.Migrate refl (λ s is. is) (λ s is. is) c.args.words.now _ (c.requires ∙ ap (λ s. length (ids_of s)) c.in-Migrate.is))

pub returns-in-Take : goal.returns-in-Take
returns-in-Take c = asked Take c.args.self (texts c.args.words.now) _ _ c.in-Take.is c.unless_stdin-in-Take.ensures
    (state_first Take task.Take c.args.words.now _ no_word refl (λ s is. is) (λ s o is. is)
    (c.requires ∙ ap (λ s. length (ids_of s)) c.in-Take.is))

pub returns-in-Merge : goal.returns-in-Merge
returns-in-Merge c = asked Merge c.args.self (texts c.args.words.now) _ _ c.in-Merge.is c.unless_stdin-in-Merge.ensures
    (state_first Merge task.Merge c.args.words.now _ no_word refl (λ s is. is) (λ s o is. is)
    (c.requires ∙ ap (λ s. length (ids_of s)) c.in-Merge.is))

pub returns-in_ok-day-in-Horizon : goal.returns-in_ok-day-in-Horizon
returns-in_ok-day-in-Horizon c =
    let day = c.in_ok-day-in-Horizon in
    asked Horizon c.args.self (texts c.args.words.now) _ _ c.in-Horizon.is c.unless_stdin-in-Horizon.ensures
    (state_first Horizon (task.Horizon day.day) c.args.words.now _ _ refl (λ s is. (is, record { within = search rules; written = day.ensures.value }))
    (λ s o is. is.stored) (c.requires ∙ ap (λ s. length (ids_of s)) c.in-Horizon.is))

pub returns-in_ok-place-in-Day : goal.returns-in_ok-place-in-Day
returns-in_ok-place-in-Day c =
    let place = c.in_ok-place-in-Day in
    asked Day c.args.self (texts c.args.words.now) (Some (task.Day place.place place.day)) _ c.in-Day.is refl
    (both_behind Day (day_task place.place place.day) place.place place.day c.args.words.now _ _ refl (λ first tiploc date named dated. (named, dated))
    (c.requires ∙ ap (λ s. length (ids_of s)) c.in-Day.is) place.ensures.pair.0 place.ensures.pair.1)

pub returns-in_ok-place-in-Print : goal.returns-in_ok-place-in-Print
returns-in_ok-place-in-Print c =
    let place = c.in_ok-place-in-Print in
    asked Print c.args.self (texts c.args.words.now) (Some (task.Print place.place place.day)) _ c.in-Print.is refl
    (both_behind Print (print_task place.place place.day) place.place place.day c.args.words.now _ _ refl (λ first tiploc date named dated. (named, dated))
    (c.requires ∙ ap (λ s. length (ids_of s)) c.in-Print.is) place.ensures.pair.0 place.ensures.pair.1)

pub returns-in_err-place-in-Day : goal.returns-in_err-place-in-Day
returns-in_err-place-in-Day c = asked Day c.args.self (texts c.args.words.now) None _ c.in-Day.is c.from_residual.ensures
    (not_both_behind Day c.args.words.now _ _ (λ first tiploc date suits. suits) (c.requires ∙ ap (λ s. length (ids_of s)) c.in-Day.is)
    (c.in_err-place-in-Day.ensures.none refl))

pub returns-in_err-place-in-Print : goal.returns-in_err-place-in-Print
returns-in_err-place-in-Print c = asked Print c.args.self (texts c.args.words.now) None _ c.in-Print.is c.from_residual-in_err-place-in-Print.ensures
    (not_both_behind Print c.args.words.now _ _ (λ first tiploc date suits. suits) (c.requires ∙ ap (λ s. length (ids_of s)) c.in-Print.is)
    (c.in_err-place-in-Print.ensures.none refl))
