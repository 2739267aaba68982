-- What `clap` returns for the words of a command.
use Rattle.cif_laws.proofs.Common.{◌≡◌, true, refl, subst, List, IfOk, Result, IfOk-weaker}
use Rattle.clap.specs.Words.{App, FailsBy, Text, fault_of, is_simple_and_free, subcommand_of, subcommand_rows_of}
use Rattle.clap.specs.Simple.{HasMatchesOf, is_simple}
use Rattle.clap.specs.declared.error.Error.{Error}
use Rattle.clap.specs.declared.parser.matches.ArgMatches.{ArgMatches}
use Rattle.docker_cmd.specs.Grammar.{docker_app}

-- docker's command line is simple enough that the definitions of `clap` determine its matches
simple : is_simple docker_app ≡ true
simple = refl

-- docker's command line is simple enough that the definitions of `clap` determine its faults
free : is_simple_and_free docker_app ≡ true
free = refl

-- if `clap` accepts the words, it returns the subcommand and the rows that the definitions of
-- `clap` determine
pub rows_are : (app : App) (words : List Text) (result : Result ArgMatches Error) → app ≡ docker_app → IfOk result (HasMatchesOf app words)
    → IfOk result (λ m. subcommand_rows_of m ≡ subcommand_of docker_app words)
rows_are app words result is has =
    IfOk-weaker result (HasMatchesOf docker_app words) (λ m. subcommand_rows_of m ≡ subcommand_of docker_app words) (λ m found. (found simple).1)
    (subst (λ a. IfOk result (HasMatchesOf a words)) is has)

-- if `clap` refuses the words, it reports one of the faults that the definitions of `clap`
-- determine
pub fails_by : (app : App) (words : List Text) (result : Result ArgMatches Error) → app ≡ docker_app
    → (is_simple_and_free app ≡ true → FailsBy (fault_of app words) result) → FailsBy (fault_of docker_app words) result
fails_by app words result is fails = subst (λ a. is_simple_and_free a ≡ true → FailsBy (fault_of a words) result) is fails free
