-- What a desk on the state of `north` does, and what the commands before and after its session do.
use Rattle.std.specs.Prelude.{◌≡◌, ℕ, List, ◌++◌, codes, slice_index}
use Rattle.docker_model.specs.run.Run.{Known, nothing, united}
use Rattle.docker_model.specs.state.StateText.{dks_2}
use Rattle.cif_device.specs.Device.{Takes}
use Rattle.docker_host.specs.Host.{HostView}
use Rattle.docker_host.specs.Shelf.{ShelfView, text_under}
use Rattle.docker_cmd.specs.Saved.{HoldsFile}
use Rattle.docker_program.specs.Commands.{HoldsKnown, PrintsKnown, of_file}
use Rattle.docker_desk.specs.Answers.{answer_text}

-- `north` has taken the full extract and `south` the update, twice. Nothing was printed
pub record KnowApart (old new : HostView) (full update : List (List ℕ)) : Type 0 where
  pub north : HoldsKnown dks_2 (text_under new.history (codes "north")) (united nothing (of_file full))
  pub south : HoldsKnown dks_2 (text_under new.history (codes "south"))
      (united (united nothing (of_file update)) (of_file update))
  pub unprinted : new.output ≡ old.output

-- if the shelf had two files, `full.cif` and `update.cif`, each office has got to know one of them
abbrev pub LearnApart : HostView → HostView → Type 0
LearnApart old new = (full update : List (List ℕ)) → HoldsFile (text_under old.history (codes "full.cif")) full
    → HoldsFile (text_under old.history (codes "update.cif")) update → KnowApart old new full update

-- each of the three answers begins with the digit 0, its status
abbrev pub AreDone : List ℕ → Type 0
AreDone answers = (slice_index answers 0 ≡ 48) × (slice_index answers 6 ≡ 48) × (slice_index answers 12 ≡ 48)

-- the desk merged the state of `south`, saved its state, and printed the docker of ASHFELD for 10
-- June 2024. `one` and `two` are what `north` and `south` knew before
pub record IsServedNorth (new : ShelfView) (answers : List ℕ) (one two : Known) : Type 0 where
  pub north : HoldsKnown dks_2 (text_under new.events (codes "north")) (united one two)
  pub docker : List ℕ
  pub is : PrintsKnown (united one two) (codes "ASHFELD") 23537 docker
  pub told : answers ≡ codes "0 0 0\n" ++ codes "0 0 0\n" ++ answer_text 0 docker

-- if `north` and `south` held states, the desk merged, saved and printed
abbrev pub ServesNorth : ShelfView → ShelfView → List ℕ → Type 0
ServesNorth old new answers = (one two : Known) → HoldsKnown dks_2 (text_under old.events (codes "north")) one
    → HoldsKnown dks_2 (text_under old.events (codes "south")) two → IsServedNorth new answers one two

-- `south` began with an empty state, merged the state of `north`, and printed the docker of ASHFELD
-- for 10 June 2024. `known` is what `north` knew
pub record IsShownSouth (old new : HostView) (known : Known) : Type 0 where
  pub docker : List ℕ
  pub is : PrintsKnown (united nothing known) (codes "ASHFELD") 23537 docker
  pub takes : Takes old.output docker new.output

-- if `north` held a state, `south` printed its docker
abbrev pub ShowsSouth : HostView → HostView → Type 0
ShowsSouth old new = (known : Known) → HoldsKnown dks_2 (text_under old.history (codes "north")) known
    → IsShownSouth old new known
