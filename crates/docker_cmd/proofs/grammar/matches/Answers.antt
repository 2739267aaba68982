use Rattle.cif_laws.proofs.Common.{map}
use Rattle.docker_cmd.proofs.GrammarLemmas.{fails_by, rows_are}
use Rattle.docker_cmd.proofs.grammar.matches.Goals as goal

pub returns-clause-subcommand : goal.returns-clause-subcommand
returns-clause-subcommand c = rows_are _ (map (λ w. w.now) c.args.words.now) _ c.in_ok-docker.ensures c.try_get_matches_from.ensures.matches

pub returns-clause-kinds : goal.returns-clause-kinds
returns-clause-kinds c = fails_by _ (map (λ w. w.now) c.args.words.now) _ c.in_ok-docker.ensures c.try_get_matches_from.ensures.kinds
