-- The first record must be a header with good fields.
use Rattle.cif_laws.proofs.Common.{err_from_is_err_and, ◌∙◌, ap, refl, Some}
use Rattle.cif_line.specs.Kind.{meaning}
use Rattle.cif_file.proofs.FrontLemmas.{no_header, bad_header, header_added, other_kind}
use Rattle.cif_file.proofs.records.front.Front.take_header.Goals as goal

pub returns-in_default-clause-err : goal.returns-in_default-clause-err
returns-in_default-clause-err g c = λ records has. no_header _ _ _ _ has c.requires.«record» _ c.requires.stage c.requires.kind
    (other_kind _ c.in_default.not-Header)

pub returns-in_err-view-clause-err : goal.returns-in_err-view-clause-err
returns-in_err-view-clause-err g c =
    let same = err_from_is_err_and c.from_residual.result c.from_residual.ensures.1 in
    rw (same.1, same.2) (λ records has. bad_header _ _ _ _ has c.requires.«record» _ c.requires.stage
    (c.requires.kind ∙ ap (λ kind. Some (meaning kind)) c.in-Header.is) c.in_err-view.ensures.err)

pub returns-clause-read : goal.returns-clause-read
returns-clause-read g c = λ records has. header_added _ _ _ _ has c.requires.«record» _ c.requires.stage
    (c.requires.kind ∙ ap (λ kind. Some (meaning kind)) c.in-Header.is) (c.in_ok-view.ensures.ok.0 refl)
    (ap Some (c.of.ensures ∙ c.in_ok-view.ensures.value)) refl refl
