-- What `read_words` returns follows from what `clap` returns.
use Rattle.cif_laws.proofs.Common.{◌≡◌, ◌≢◌, ◌⊎◌, inl, inr, Bool, true, subst, List, [], rules, Option, Some, Result, Err, IfOk, option_map, false, true≢false}
use Rattle.cif_laws.proofs.Common.{list_all, Bor}
use Rattle.std.specs.Option.{ok_or}
use Rattle.std.proofs.lemmas.List.Folds.{list_all-map}
use Rattle.clap.specs.Simple.{subcommand_of}
use Rattle.clap.specs.Faults.{fault_of}
use Rattle.clap.specs.Kinds.{IsAmong}
use Rattle.clap.specs.declared.error.ErrorKind.{ErrorKind}
use Rattle.clap.specs.declared.error.ErrorKind.TheVariants.{OutOfMemory}
use Rattle.docker_cmd.specs.declared.job_fault.JobFault.{JobFault}
use Rattle.docker_cmd.specs.declared.job_fault.JobFault.TheVariants.{Usage}
use Rattle.docker_cmd.specs.declared.tasks.Subcommand.{Subcommand}
use Rattle.docker_cmd.specs.Words.{Text, is_plain_word, texts}
use Rattle.docker_cmd.specs.Job.{NameNoSubcommand, NamesSubcommand}
use Rattle.docker_cmd.specs.Grammar.{docker_app, found_in, pair_of}
use Rattle.docker_cmd.proofs.JobWords.{judged}

-- all words are plain if and only if all texts in the list of their texts are plain
pub plain_texts : (words : List (Bor Text)) (b : Bool) → b ≡ list_all (λ word. is_plain_word word.now) words → list_all is_plain_word (texts words) ≡ b
plain_texts = search (rules, list_all-map)

-- if a word isn't plain, the words name no subcommand
pub not_plain : (words : List Text) → list_all is_plain_word words ≡ false → NameNoSubcommand words
not_plain = search (rules, true≢false)

-- these words name a subcommand, and `found` is this subcommand with the words after its name
pub record IsFound (words : List Text) (found : Option (Subcommand × List Text)) : Type 0 where
  pub subcommand : Subcommand
  pub behind : List Text
  pub is : found ≡ Some (pair_of subcommand behind)
  pub names : NamesSubcommand words subcommand behind

-- if `clap` accepts plain words, it finds the subcommand that the words name, and the words after
-- its name
pub words_found : (words : List Text) → list_all is_plain_word words ≡ true → fault_of docker_app words ≡ []
    → IsFound words (found_in (subcommand_of docker_app words))
words_found words plain none = elim (judged _ plain) [
  | inl takes ↦ record {
    subcommand = takes.subcommand;
    behind = takes.behind;
    is = takes.found;
    names = record { plain = plain; whole = takes.required.whole; count = takes.required.count };
  }
  | inr refuses ↦ absurd (refuses.fault none)
]

-- if `clap` refuses plain words and memory hasn't run out, the words name no subcommand
pub words_refused : (words : List Text) (kind : ErrorKind) → list_all is_plain_word words ≡ true
    → (kind ≡ OutOfMemory) ⊎ IsAmong kind (fault_of docker_app words) → kind ≢ OutOfMemory → NameNoSubcommand words
words_refused words kind plain (inl memory) other = absurd (other memory)
words_refused words kind plain (inr among) other = elim (judged _ plain) [
  | inl takes ↦ absurd (subst (IsAmong kind) takes.no_fault among)
  | inr refuses ↦ λ s behind names. refuses.names_none s behind (record { whole = names.whole; count = names.count })
]

-- `read_words` may return this result for these words. The function `held` returns the texts of the
-- words after the subcommand
abbrev pub IsRead : {B : Type 0} → (B → List Text) → List Text → Result (Subcommand × B) JobFault → Type 0
IsRead held words result = IfOk result (λ read. NamesSubcommand words read.0 (held read.1)) × ((result ≡ Err Usage) → NameNoSubcommand words)

-- if `clap` found the subcommand that the words name, and the words after its name, `read_words`
-- may return this subcommand and these words
pub read_found : {B : Type 0} (held : B → List Text) (words : List Text) (found : Option (Subcommand × B)) (rows : Option (Subcommand × List Text))
    → IsFound words rows → option_map (λ read. pair_of read.0 (held read.1)) found ≡ rows → IsRead held words (ok_or found Usage)
read_found = search rules
