use Rattle.cif_laws.proofs.Common.{◌≢◌, ℕ, List, [], ◌∷◌, length, refl, rules, Bor}
use Rattle.docker_cmd.specs.Job.{NameNoJob}
use Rattle.docker_cmd.specs.Prepared.{DeviceBytes}
use Rattle.docker_cmd.specs.Words.{texts}
use Rattle.docker_program.specs.Program.{AskForNone}
use Rattle.docker_program.proofs.request.requested_job.Goals as goal

-- if there are words and they name no job, no job is requested (`AskForNone`)
asks_none : (words : List (Bor (List ℕ))) (input : DeviceBytes) → length words ≢ 0 → NameNoJob (texts words) → AskForNone (texts words) input
asks_none [] input some none = absurd (some refl)
asks_none (word ∷ words) input some none = none

pub returns-else-is_empty-clause-usage : goal.returns-else-is_empty-clause-usage
returns-else-is_empty-clause-usage g c =
    let some : length c.args.words.now ≢ 0 = search rules in
    λ usage. asks_none c.args.words.now (g.S.Source.left c.args.stdin.now) some (c.job.ensures.usage.0 usage)
