-- The parser is fed one piece after another.
use Rattle.cif_laws.proofs.Common.{IfOk-weaker, err_from_is_err_and}
use Rattle.cif_file.proofs.AnswerLemmas.{if_err_by}
use Rattle.cif_file.proofs.PiecesLemmas.{read_more, read_all, refused_front}
use Rattle.cif_file.proofs.read.pieces.read_pieces.Goals as goal

pub loop-piece-preserved : goal.loop-piece-preserved
loop-piece-preserved c = read_more _ _ _ _ _ _ c.loop-piece-test.true (c.feed.ensures.read c.args.limit _ c.loop-piece.invariant)

pub returns-in_err-feed-clause-err : goal.returns-in_err-feed-clause-err
returns-in_err-feed-clause-err c =
    let same = err_from_is_err_and c.from_residual.result c.from_residual.ensures.1 in
    rw (same.1, same.2) (refused_front _ _ _ _ _ _ c.loop-piece-test.true (c.in_err-feed.ensures.err c.args.limit _ c.loop-piece.invariant))

pub returns-clause-ok : goal.returns-clause-ok
returns-clause-ok c = IfOk-weaker c.finish.result _ _ (λ file told. told c.args.limit _ (read_all _ _ _ _ _ c.loop-piece-test.false c.loop-piece.invariant))
    c.finish.ensures.ok

pub returns-clause-err : goal.returns-clause-err
returns-clause-err c =
    if_err_by c.finish.result
    (λ fault told. told c.args.limit _ (read_all _ c.loop-piece.parser c.args.limit c.args.pieces.now c.loop-piece.piece-index c.loop-piece-test.false
    c.loop-piece.invariant)) c.finish.ensures.err
