-- What two offices on one shelf know.
use Rattle.std.specs.Prelude.{◌≡◌, ℕ, List, [], ◌∷◌, codes}
use Rattle.docker_model.specs.run.Run.{Known, Files}
use Rattle.docker_model.specs.run.Knowledge.{HaveSameFiles}
use Rattle.docker_model.specs.state.StateText.{dks_2}
use Rattle.docker_host.specs.History.{Bytes}
use Rattle.docker_host.specs.Host.{HostView}
use Rattle.docker_host.specs.Shelf.{text_under}
use Rattle.docker_cmd.specs.Saved.{HoldsFile}
use Rattle.docker_program.specs.Commands.{HoldsKnown}
use Rattle.docker_program.specs.Program.{failures_of}

-- no device has failed so far
pub record HaveNotFailed (host : HostView) : Type 0 where
  pub devices : failures_of host ≡ 0
  pub faults : host.faults_failures ≡ 0

-- this file on the shelf held the state of an office that knows exactly these files
pub record KnowsFiles (held : Bytes) (files : Files) : Type 0 where
  pub known : Known
  pub holds : HoldsKnown dks_2 held known
  pub same : HaveSameFiles files known.files

-- the offices `north` and `south` know exactly these two files, and nothing was printed since `old`
pub record KnowBoth (old new : HostView) (full update : List (List ℕ)) : Type 0 where
  pub north : KnowsFiles (text_under new.history (codes "north")) (full ∷ update ∷ [])
  pub south : KnowsFiles (text_under new.history (codes "south")) (full ∷ update ∷ [])
  pub unprinted : new.output ≡ old.output

-- if the shelf had two files, `full.cif` and `update.cif`, both offices have got to know both
abbrev pub LearnBoth : HostView → HostView → Type 0
LearnBoth old new = (full update : List (List ℕ)) → HoldsFile (text_under old.history (codes "full.cif")) full
    → HoldsFile (text_under old.history (codes "update.cif")) update → KnowBoth old new full update
