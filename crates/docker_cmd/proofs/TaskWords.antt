-- The words after a subcommand determine the task.
use Rattle.cif_laws.proofs.Common.{◌≡◌, ℕ, List, [], ◌∷◌, length, true, false, cond, Some, None, rules, common_steps, refl, codes, arith, slice_index_or}
use Rattle.cif_laws.proofs.Common.{true≢false, Option, option_map, bytes_eq, Bor, bytes_eq-Decides}
use Rattle.docker_cmd.specs.declared.tasks.Subcommand.{Subcommand}
use Rattle.docker_cmd.specs.declared.tasks.Task.{Task}
use Rattle.docker_cmd.specs.Tasks.{AreWordsOf, TaskView, name_of, subcommand_of, task_meant}
use Rattle.docker_cmd.specs.Words.{NamesDay, NamesPlace, NamesStored, Text, texts}
use Rattle.docker_cmd.specs.Job.{IsTaskOf}
use Rattle.docker_cmd.proofs.Rows.{NameBoth, Suit, named_back, suit}

-- the first of these words, or an empty word if there is none
abbrev pub first_word : List Text → Text
first_word [] = []
first_word (word ∷ words) = word

-- all words except the first
abbrev pub other_words : List Text → List Text
other_words [] = []
other_words (word ∷ words) = words

-- ---- looking up a subcommand by its name

-- a subcommand's name determines the subcommand
pub same_subcommand : (s t : Subcommand) → name_of s ≡ name_of t → s ≡ t
same_subcommand = search (rules, named_back)

-- ---- the words name a task

-- if words don't have the form that a subcommand requires, they name no task of the subcommand
nothing_asked : (s : Subcommand) (words : List Text) → ¬ Suit s words → IsTaskOf s words None
nothing_asked = search (rules, suit)

-- if `t` equals `s` and `q` equals `r`, words that name the task `r` of the subcommand `s` also
-- name the task `q` of `t`
pub asked : (s t : Subcommand) (words : List Text) (r q : Option Task) → t ≡ s → q ≡ r → IsTaskOf s words (option_map task_meant r)
    → IsTaskOf t words (option_map task_meant q)
asked = search rules

-- this task, or None if `stdin` is given as the name of STATE
abbrev pub unless_stdin : Text → Task → Option Task
unless_stdin state task = cond (bytes_eq state (codes "stdin")) None (Some task)

-- the words name the task, unless they give `stdin` as the name of STATE. In that case they name no
-- task
tested : (s : Subcommand) (words : List Text) (state : Text) (task : Task) → subcommand_of (task_meant task) ≡ s
    → (NamesStored state → AreWordsOf (task_meant task) words) → (Suit s words → NamesStored state)
    → IsTaskOf s words (option_map task_meant (unless_stdin state task))
tested s words state task same holds back = (elim (bytes_eq state (codes "stdin"))
    as (λ test. bytes_eq state (codes "stdin") ≡ test → IsTaskOf s words (option_map task_meant (cond test None (Some task)))) [
      | true ↦ λ is. search (rules, nothing_asked, bytes_eq-Decides)
      | false ↦ λ is. search (rules, bytes_eq-Decides, true≢false)
    ]) refl

-- if the only word is the name of STATE, the words name the task unless this word is `stdin`
pub state_alone : (s : Subcommand) (task : Task) → subcommand_of (task_meant task) ≡ s
    → ((state : Text) → NamesStored state → AreWordsOf (task_meant task) (state ∷ [])) → ((state : Text) → Suit s (state ∷ []) → NamesStored state)
    → (words : List (Bor Text)) (d : Bor Text) → length words ≡ 1
    → IsTaskOf s (texts words) (option_map task_meant (unless_stdin (slice_index_or words 0 d).now task))
state_alone = grind (common_steps, arith, tested)

-- if the first of two words is the name of STATE, the two words name the task unless the name is
-- `stdin`
pub state_first : (s : Subcommand) (task : Task) (words : List (Bor Text)) (d e : Bor Text) → subcommand_of (task_meant task) ≡ s
    → ((state : Text) → NamesStored state → AreWordsOf (task_meant task) (state ∷ (slice_index_or words 1 e).now ∷ []))
    → ((state other : Text) → Suit s (state ∷ other ∷ []) → NamesStored state) → length words ≡ 2
    → IsTaskOf s (texts words) (option_map task_meant (unless_stdin (slice_index_or words 0 d).now task))
state_first s task (a ∷ b ∷ []) d e same holds back two = tested s (a.now ∷ b.now ∷ []) a.now task same (holds a.now) (back a.now b.now)
state_first s task words d e same holds back two = absurd (omega arith)

-- if the last two of three words name a timing point and a day, the words name the task for this
-- timing point and day
pub both_behind : (s : Subcommand) (task : TaskView) (place : List ℕ) (day : ℕ) (words : List (Bor Text)) (d e : Bor Text) → subcommand_of task ≡ s
    → ((first tiploc date : Text) → NamesPlace tiploc place → NamesDay date day → AreWordsOf task (first ∷ tiploc ∷ date ∷ [])) → length words ≡ 3
    → NamesPlace (slice_index_or words 1 d).now place → NamesDay (slice_index_or words 2 e).now day → IsTaskOf s (texts words) (Some task)
both_behind s task place day (a ∷ b ∷ c ∷ []) d e same holds three place_is day_is = (same, holds a.now b.now c.now place_is day_is)
both_behind s task place day words d e same holds three place_is day_is = absurd (omega arith)

-- if the last two of three words don't name both a timing point and a day, the words name no task
pub not_both_behind : (s : Subcommand) (words : List (Bor Text)) (d e : Bor Text)
    → ((first tiploc date : Text) → Suit s (first ∷ tiploc ∷ date ∷ []) → NameBoth tiploc date) → length words ≡ 3
    → ((place : List ℕ) (day : ℕ) → NamesPlace (slice_index_or words 1 d).now place → ¬ NamesDay (slice_index_or words 2 e).now day)
    → IsTaskOf s (texts words) None
not_both_behind s (a ∷ b ∷ c ∷ []) d e back three never = nothing_asked s (a.now ∷ b.now ∷ c.now ∷ [])
    (λ suits. let both = back a.now b.now c.now suits in never both.place both.day both.place_is both.day_is)
not_both_behind s words d e back three never = absurd (omega arith)
