use Rattle.cif_laws.proofs.Common.{◌≡◌, ℕ, List, [], Some, ap}
use Rattle.docker_host.specs.Host.{HostView}
use Rattle.offices_agree.proofs.TwoOfficesSteps.{both_print, sinks_agree}
use Rattle.offices_agree.proofs.two_offices.two_offices_agree.Goals as goal

pub returns : goal.returns
returns c =
    let empty : ◌≡◌ {A = List ℕ} c.in-Ok-Ok-Ok.first.taken [] = c.in-Ok-Ok-Ok.ensures.empty in
    let fresh : ◌≡◌ {A = List ℕ} c.in-Ok-Ok-Ok.second.taken [] = c.in-Ok-Ok-Ok.ensures'.empty in
    let printed = both_print _ _ _ _ _ c.in_ok-folder.ensures.full c.in_ok-folder.ensures.update
    (ap (λ (taken : List ℕ). Some taken) empty) c.in_ok-exchange.ensures.learn (c.in_ok-enter.ensures.performs, c.enter.ensures.met)
    (ap (λ (host : HostView). host.history) c.host-2.view_is) (ap (λ (taken : List ℕ). Some taken) fresh)
    (c.in_ok-enter-2.ensures.performs, c.enter-2.ensures.met) in
    sinks_agree _ _ _ _ (ap (λ (host : HostView). host.output) c.host-2.view_is) (ap (λ (host : HostView). host.output) c.host-3.view_is) printed
