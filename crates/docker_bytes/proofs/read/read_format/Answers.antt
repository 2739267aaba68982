use Rattle.std.proofs.Common.{[], Some}
use Rattle.std.proofs.lemmas.Result.{err_from_is_err_and}
use Rattle.state_text.specs.FormatMeaning.{format_meant}
use Rattle.docker_bytes.specs.ReadEnds.{CountsWhy, IsWhyUnread, StopsReading}
use Rattle.docker_bytes.specs.SourceRead.{WantsSoFar}
use Rattle.docker_bytes.specs.StateReading.{IsMadeOf}
use Rattle.docker_bytes.proofs.ReadLemmas.{unread, as_asked, ends_early, ends_whole}
use Rattle.docker_bytes.proofs.read.read_format.Goals as goal

pub read_pieces-requires-clause-unread : goal.read_pieces-requires-clause-unread
read_pieces-requires-clause-unread g c = unread c.new-parser.result (format_meant c.args.format) c.args.limit [] c.new-parser.ensures

pub returns-clause-reads : goal.returns-clause-reads
returns-clause-reads g c =
    let read = rw (c.new-parser.ensures.format_is, c.new-parser.ensures.limit_is) at c.in_ok-read_pieces.ensures.reads in
    ends_whole _ _ _ _ c.read_pieces.new.parser _ _ (IsMadeOf g.K.Maker.makes (format_meant c.args.format) c.args.limit) _ c.finish.result read
    (c.finish.ensures (format_meant c.args.format) c.args.limit) (λ text made held of. record { text = text; held = held; of = of })

pub returns-in_err-read_pieces-clause-reads : goal.returns-in_err-read_pieces-clause-reads
returns-in_err-read_pieces-clause-reads g c =
    let same = err_from_is_err_and c.from_residual.result c.from_residual.ensures.1 in
    let left = g.S.Source.left c.args.source.now in
    let left_now = g.S.Source.left c.read_pieces.new.source in
    let failed = g.S.Source.failures c.args.source.now in
    let failed_now = g.S.Source.failures c.read_pieces.new.source in
    let fault = c.in_err-read_pieces.field-0.0 in
    let read = as_asked c.new-parser.result (format_meant c.args.format) c.args.limit []
    (λ f n. StopsReading f n left left_now (IsWhyUnread WantsSoFar f n left left_now (Some fault)) (CountsWhy (Some fault) failed failed_now))
    c.new-parser.ensures c.in_err-read_pieces.ensures.reads in
    rw (same.1, same.2) (ends_early _ _ left left_now fault failed failed_now read)
