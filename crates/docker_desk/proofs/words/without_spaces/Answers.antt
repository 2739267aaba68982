use Rattle.cif_laws.proofs.Common.{sym, ◌∙◌}
use Rattle.docker_desk.proofs.WordLemmas.{spaces_nowhere}
use Rattle.docker_desk.proofs.words.without_spaces.Goals as goal

pub returns : goal.returns
returns c = sym (spaces_nowhere c.loop-piece.rest.now c.in_default.ensures.pieces) ∙ c.loop-piece.invariant.same
