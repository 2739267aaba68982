-- Which words name a job.
use Rattle.cif_laws.proofs.Common.{◌≡◌, ◌↔◌, ◌≤◌, ◌-◌, List, [], ◌∷◌, length, take, drop, slice_index_or, rules, common_steps, Bool, true, false, true≢false}
use Rattle.cif_laws.proofs.Common.{Some, None, sym, arith, Bor, length-map, take_all, list_all}
use Rattle.docker_cmd.specs.declared.tasks.Subcommand.{Subcommand}
use Rattle.docker_cmd.specs.Tasks.{ids_of, name_of, subcommand_named, subcommand_of, subcommands}
use Rattle.docker_cmd.specs.Words.{Text, is_plain_word, texts}
use Rattle.docker_cmd.specs.Job.{AskNothing, IsJobOf, IsTaskOf, JobView, NameNoJob, NameNoSubcommand, NamesSubcommand}
use Rattle.docker_cmd.proofs.Rows.{named_back, words_counted}
use Rattle.docker_cmd.proofs.TableWords.{name_back}
use Rattle.docker_cmd.proofs.TaskWords.{first_word, other_words, same_subcommand}

-- if words name a job, they name the job's subcommand
pub job_subcommand : (words : List Text) (job : JobView) → IsJobOf words job → NamesSubcommand words (subcommand_of job.task) job.words
job_subcommand = search (rules, words_counted)

-- if words name no subcommand, they name no job
pub no_subcommand : (words : List Text) → NameNoSubcommand words → NameNoJob words
no_subcommand = search (rules, job_subcommand)

-- if words name a subcommand, but no task of this subcommand, they name no job
pub asks_nothing : (words : List Text) (s : Subcommand) (behind : List Text) → NamesSubcommand words s behind → IsTaskOf s behind None → NameNoJob words
asks_nothing = search (rules, same_subcommand, first_word, other_words)

-- ---- words that `clap` doesn't parse

-- if a word isn't plain, the words name no job
pub no_plain_job : (words : List Text) → list_all is_plain_word words ≡ false → NameNoJob words
no_plain_job = search (rules, true≢false)

-- if the number of words isn't the number that a subcommand requires, the words name no task of the
-- subcommand
pub miscounted : (s : Subcommand) (words ids : List (Bor Text)) → texts ids ≡ ids_of s → (length words ≡ length ids → ⊥) → AskNothing s (texts words)
miscounted = search (rules, words_counted, length-map)

-- if the first word isn't a subcommand's name, the words name no job
pub unnamed_job : (words : List (Bor Text)) (d : Bor Text) → 1 ≤ length words → None ≡ subcommand_named (slice_index_or words 0 d).now → NameNoJob (texts words)
unnamed_job = grind (common_steps, arith, first_word, named_back)

-- suppose that plain words begin with a subcommand's name. They name no job if and only if the
-- other words name no task of the subcommand
pub behind_asks : (words : List (Bor Text)) (d : Bor Text) (s : Subcommand) (test : Bool) → 1 ≤ length words
    → Some s ≡ subcommand_named (slice_index_or words 0 d).now → list_all is_plain_word (texts words) ≡ true
    → ((test ≡ false) ↔ AskNothing s (texts (take (length words - 1) (drop 1 words)))) → (test ≡ false) ↔ NameNoJob (texts words)
behind_asks [] d s test some named plain asks = absurd (omega (arith, some))
behind_asks (word ∷ words) d s test some named plain asks =
    let name : word.now ≡ name_of s = name_back name_of subcommands word.now s (sym named) in
    let behind : take (length (word ∷ words) - 1) words ≡ words = take_all (length (word ∷ words) - 1) words (omega arith) in
    let asks : (test ≡ false) ↔ AskNothing s (texts words) = rw behind at asks in (
      λ never job is. search (rules, asks, same_subcommand, first_word, other_words),
      λ none. asks.1 (λ task same is. none (record { task = task; words = texts words }) (search rules)),
    )
