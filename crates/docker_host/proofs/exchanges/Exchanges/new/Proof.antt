-- A new history of exchanges is empty. The proof assumes `Logic`, the kit's laws of memory.
use Rattle.std.proofs.Common.{[], ◌∷◌, refl}
use base.Logic.{emp, id⊢}
use contract.Monad.{fact_i}
use contract.Running.{MachineTables, tables}
use types.Kit.{raw, ◌$◌, ◌∵◌, !, qed, done}
use types.Part.{agg}
use types.Run.{enter, returns, no_more}
use types.ByLocal.{alloc_all, pass_all, free_all, look_at, sets}
use Rattle.docker_host.proofs.Making.{empty_struct, made_of_nothing, returns_made}
use Rattle.docker_host.specs.contracts.exchanges.Exchanges.new as clauses_of
use Rattle.docker_host.specs.contracts.exchanges.Exchanges.new.Key.{name as #new}
use Rattle.docker_host.proofs.exchanges.Exchanges.new.Statement as goal
use Rattle.docker_host.proofs.exchanges.Exchanges.new.Code as code

pub new_spec : {M : Type 1} → goal.statement M
new_spec 𝓤 𝓛 𝓜 𝓡 w =
    let 𝓣 : MachineTables 𝓤 𝓛.H 𝓜 = tables 𝓤 𝓛.H 𝓜 𝓡 𝓡.env in
    returns_made 𝓛 clauses_of.ended (clauses_of.clauses 𝓛 𝓜.mem 𝓡.returns) (λ κs args. record { events = [] }) (λ κs args. tt)
    (λ κs args. made_of_nothing 𝓛) (λ κs args. id⊢ 𝓤 (emp 𝓤)) (λ κs args g. fact_i 𝓤 _ (emp 𝓤) refl)
    𝓣.C 𝓣.Λ #new code.function (λ κs. tt)
    (λ κs. tt)
    (λ κs args K. qed 𝓛 (raw (K empty_struct) ∷ []) ∵
    enter ! 𝓣.C 𝓣.Λ code.function [] K $ alloc_all ! (λ l. pass_all ! refl tt $
    sets ! (agg ! (no_more !)) refl (tt, tt) $ returns ! (look_at ! 0 refl) $ free_all ! refl $ done !))
    (code.unfolded 𝓤 𝓛.H 𝓜 𝓡 w)
