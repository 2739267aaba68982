-- The caller's place and day equal the place and the day that the type `P` determines.
use Rattle.std.proofs.Common.{sym, subst}
use Rattle.docker_model.specs.state.StateText.{dks_2}
use Rattle.docker_bytes.specs.Excerpts.{IsExcerptAt}
use Rattle.docker_bytes.specs.ReadEnds.{as_it_is}
use Rattle.docker_bytes.specs.SourceRead.{ReadsMade, WantsMemory}
use Rattle.docker_bytes.proofs.ReadLemmas.{ends_with}
use Rattle.docker_bytes.proofs.excerpt.excerpt_at.Goals as goal

pub returns-clause-reads : goal.returns-clause-reads
returns-clause-reads g c =
    let left = g.S.Source.left c.args.source.now in
    ends_with WantsMemory as_it_is g.S.Source.left g.S.Source.failures dks_2 c.args.limit
    (ReadsMade (IsExcerptAt g.P.PlaceDay.place g.P.PlaceDay.day) dks_2 c.args.limit left)
    (ReadsMade (IsExcerptAt c.args.place c.args.day) dks_2 c.args.limit left) c.args.source.now c.read_format.new.source c.read_format.result
    (λ made read. subst (λ day. ReadsMade (IsExcerptAt c.args.place day) dks_2 c.args.limit left made) (sym c.requires.day)
    (subst (λ place. ReadsMade (IsExcerptAt place g.P.PlaceDay.day) dks_2 c.args.limit left made) (sym c.requires.place) read))
    c.read_format.ensures.reads
