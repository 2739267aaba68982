use Rattle.cif_laws.proofs.Common.{List, ℕ, refl, subst}
use Rattle.docker_host.specs.FaultSink.{TellsText, faults_view}
use Rattle.docker_desk.proofs.GivenLemmas.{misused}
use Rattle.docker_desk.proofs.given.serve_strings.Goals as goal

pub returns-in-None : goal.returns-in-None
returns-in-None g c = misused _ _ _ _ _ _ _ (c.in-None.ensures.many refl) c.host.view_is refl refl
    (subst (λ (text : List ℕ). TellsText text (faults_view (g.L.Sink.taken c.host.inside.faults) (g.L.Sink.failures c.host.inside.faults))
    (faults_view (g.L.Sink.taken c.tell_text.new.faults) (g.L.Sink.failures c.tell_text.new.faults))) c.usage.ensures c.tell_text.ensures)
