-- The ghost bytes that `is_text_of` compares are the bytes of the copy.
use Rattle.cif_laws.proofs.Common.{Some}
use Rattle.docker_desk.proofs.matching.compared_with.Given as goal

abbrev pub ghosts-is_text_of : goal.ghosts-is_text_of
ghosts-is_text_of a = record { bytes = Some a.text.now }
