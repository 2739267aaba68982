use Rattle.cif_laws.proofs.Common.{◌≡◌, [], false, map, take}
use Rattle.clap.specs.Words.{app_of}
use Rattle.clap.specs.declared.builder.Command.TheViews.{out-Command as fields_of}
use Rattle.docker_cmd.specs.Grammar.{words_shape}
use Rattle.docker_cmd.specs.Tasks.{ids_of, name_of}
use Rattle.docker_cmd.proofs.grammar.command_of.Given as goal

-- the subcommand has the arguments of the ids before this one
abbrev pub invariant-loop-id : goal.invariant-loop-id
invariant-loop-id l = record {
  shape : app_of l.command ≡ record { top = words_shape (name_of l.fn.subcommand) (map (λ id. id.now) (take l.id-index l.id-items)); subs = [] };
  local : (fields_of l.command).has_globals ≡ false;
  ids : map (λ id. id.now) l.id-items ≡ ids_of l.fn.subcommand;
}
