use Rattle.cif_laws.proofs.Common.{◌≡◌, [], map, take, fold}
use Rattle.clap.specs.Words.{app_of, with_subcommand}
use Rattle.docker_cmd.specs.Grammar.{docker_shape, shape_of}
use Rattle.docker_cmd.specs.Tasks.{subcommands}
use Rattle.docker_cmd.proofs.grammar.docker.Given as goal

-- the program has the subcommands that precede this one
abbrev pub invariant-loop-subcommand : goal.invariant-loop-subcommand
invariant-loop-subcommand l = record {
  shape : app_of l.docker ≡ fold with_subcommand (record { top = docker_shape; subs = [] }) (map shape_of (take l.subcommand-index l.subcommand-items));
  all : l.subcommand-items ≡ subcommands;
}
