use Rattle.cif_laws.proofs.Common.{◌≡◌, ◌∙◌, List, [], ◌∷◌, ◌++◌, slice_index_or, take, map, refl, sym, ap, ap₂, fold, take_more}
use Rattle.clap.specs.Words.{App, with_subcommand}
use Rattle.docker_cmd.specs.Grammar.{docker_shape, shape_of}
use Rattle.docker_cmd.specs.declared.tasks.Subcommand.{Subcommand}
use Rattle.docker_cmd.specs.declared.tasks.Subcommand.TheVariants.{New}
use Rattle.docker_cmd.proofs.grammar.docker.Goals as goal

-- the program with these subcommands added
abbrev with_all : App → List Subcommand → App
with_all app ss = fold with_subcommand app (map shape_of ss)

-- if a list of subcommands is added to the program, and then the subcommand `s`, the result is the
-- program with the list `ss ++ s ∷ []` added
with_last : (app : App) (ss : List Subcommand) (s : Subcommand) → with_all app (ss ++ s ∷ []) ≡ with_subcommand (with_all app ss) (shape_of s)
with_last app [] s = refl
with_last app (t ∷ ss) s = with_last (with_subcommand app (shape_of t)) ss s

-- the program without subcommands
abbrev start : App
start = record { top = docker_shape; subs = [] }

pub loop-subcommand-preserved : goal.loop-subcommand-preserved
loop-subcommand-preserved c = record {
  shape = c.in_ok-docker.ensures.shape c.in_ok-command_of.ensures.local
      ∙ ap₂ with_subcommand c.loop-subcommand.invariant.shape (ap (λ (app : App). app.top) c.in_ok-command_of.ensures.shape)
      ∙ sym (with_last start (take c.loop-subcommand.subcommand-index c.all-subcommand-items.result.now)
      (slice_index_or c.all-subcommand-items.result.now c.loop-subcommand.subcommand-index New))
      ∙ sym (ap (with_all start) (take_more c.all-subcommand-items.result.now c.loop-subcommand.subcommand-index New c.loop-subcommand-test.true));
  all = c.loop-subcommand.invariant.all;
}
