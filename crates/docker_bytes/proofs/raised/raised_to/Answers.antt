-- The caller's day equals the day that the type `D` determines.
use Rattle.std.proofs.Common.{◌≡◌, sym, subst}
use Rattle.docker_model.specs.state.State.{raise_horizon}
use Rattle.docker_model.specs.state.StateText.{dks_2}
use Rattle.docker_bytes.specs.ReadEnds.{as_it_is}
use Rattle.docker_bytes.specs.SourceRead.{RaisesState, ReadsMade, WantsMemory}
use Rattle.docker_bytes.proofs.ReadLemmas.{ends_with, read_raised}
use Rattle.docker_bytes.proofs.raised.raised_to.Goals as goal

pub returns-clause-reads : goal.returns-clause-reads
returns-clause-reads g c =
    let left = g.S.Source.left c.args.source.now in
    let day = g.D.HorizonDay.day in
    ends_with WantsMemory as_it_is g.S.Source.left g.S.Source.failures dks_2 c.args.limit
    (ReadsMade (λ made state. made ≡ raise_horizon day state) dks_2 c.args.limit left)
    (RaisesState dks_2 c.args.limit left c.args.day) c.args.source.now c.read_format.new.source c.read_format.result
    (λ made read. subst (λ own. RaisesState dks_2 c.args.limit left own made) (sym c.requires.day) (read_raised dks_2 c.args.limit left day made read))
    c.read_format.ensures.reads
