-- The parser has read all pieces before the current one.
use Rattle.cif_laws.proofs.Common.{map, take, concat}
use Rattle.cif_file.specs.ParserRead.{HasRead}
use Rattle.cif_file.proofs.read.pieces.read_pieces.Given as goal

abbrev pub invariant-loop-piece : goal.invariant-loop-piece
invariant-loop-piece l = HasRead l.parser l.fn.limit (concat (map (λ piece. piece.now) (take l.piece-index l.pieces)))
