-- The text is cut at its first line feed.
use Rattle.cif_laws.proofs.Common.{◌+◌, ◌-◌, length, take, drop, sym, subst, arith, length-drop, take_all}
use Rattle.cif_file.specs.Cut.{IsCut}
use Rattle.cif_file.proofs.ParserLemmas.{cut_at, no_feed_by}
use Rattle.cif_file.proofs.read.text.split_line.Goals as goal

pub returns : goal.returns
returns c =
    let text = c.args.text.now in
    let end = c.in_ok-end.end in
    let size = length-drop (end + 1) text in
    let rest = take_all (length text - (end + 1)) (drop (end + 1) text) (omega arith) in
    subst (λ behind. IsCut text (take end text) behind) (sym rest) (cut_at text end (sym c.in_ok-end.ensures.place))

pub returns-in_err-end : goal.returns-in_err-end
returns-in_err-end c = rw c.from_residual.ensures (no_feed_by c.args.text.now (sym c.in_err-end.ensures.place))
