-- A line that doesn't begin with the identity of a kind of record can't come next.
use Rattle.cif_laws.proofs.Common.{ap, sym, ◌∙◌, option_map, false≢true}
use Rattle.cif_line.specs.Kind.{meaning}
use Rattle.cif_change.proofs.JourneyLemmas.{unknown_kind}
use Rattle.cif_change.proofs.progress.Progress.take.Goals as goal

pub returns-in-None-clause-err : goal.returns-in-None-clause-err
returns-in-None-clause-err c = λ lines has. unknown_kind _ _ _ has c.bytes-record.ensures.«record» (sym c.kind.ensures ∙ ap (option_map meaning) c.in-None.is)

pub returns-in-None-clause-ok : goal.returns-in-None-clause-ok
returns-in-None-clause-ok c = λ lines has. (
  λ bad. absurd (false≢true bad),
  λ begins. absurd ((unknown_kind _ _ _ has c.bytes-record.ensures.«record» (sym c.kind.ensures ∙ ap (option_map meaning) c.in-None.is)).here begins),
)
