-- `then` takes a note, and appends the event that the note describes to the history. The proof
-- assumes `Logic`, the kit's laws of memory.
use Rattle.std.proofs.Common.{[], ◌∷◌, ◌++◌, refl}
use base.Logic.{emp, id⊢}
use contract.Monad.{fact_i}
use contract.Running.{MachineTables, tables}
use mir.Syntax.{named}
use types.Kit.{raw, ◌$◌, ◌∵◌, !, qed, done}
use types.Part.{agg}
use types.Run.{enter, returns, no_more}
use types.ByLocal.{alloc_all, pass_all, free_all, look_at, sets}
use denote.Ref.{shr_vals, shr_Tells}
use denote.Signature.{named_lft}
use Rattle.docker_host.proofs.Making.{beside, empty_struct, made_of_nothing, returns_made}
use Rattle.docker_host.specs.Notes.{event_of}
use Rattle.docker_host.specs.contracts.history.History as history
use Rattle.docker_host.specs.contracts.history.Note as note
use Rattle.docker_host.specs.contracts.history.History.then as clauses_of
use Rattle.docker_host.specs.contracts.history.History.then.Key.{name as #then}
use Rattle.docker_host.proofs.history.History.then.Statement as goal
use Rattle.docker_host.proofs.history.History.then.Code as code

pub then_spec : {M : Type 1} → goal.statement M
then_spec 𝓤 𝓛 𝓜 𝓡 w =
    let 𝓣 : MachineTables 𝓤 𝓛.H 𝓜 = tables 𝓤 𝓛.H 𝓜 𝓡 𝓡.env in
    returns_made 𝓛 clauses_of.ended (clauses_of.clauses 𝓛 𝓜.mem 𝓡.returns)
    (λ κs args. record { events = args.0.now.events ++ event_of args.1.0.now ∷ [] }) (λ κs args. (tt, (tt, tt)))
    (λ κs args. made_of_nothing 𝓛) (λ κs args. beside 𝓤 (emp 𝓤) _ (beside 𝓤 (emp 𝓤) (emp 𝓤) (id⊢ 𝓤 (emp 𝓤)))) (λ κs args g. fact_i 𝓤 _ (emp 𝓤) refl)
    𝓣.C 𝓣.Λ #then code.function (λ κs. (shr_vals, (shr_vals, tt)))
    (λ κs. (shr_Tells (named 0) κs.0 history.the_row, (shr_Tells (named 1) κs.1.0 (note.the_row (named_lft 3 2 tt κs)), tt)))
    (λ κs args K. qed 𝓛 (raw (K empty_struct) ∷ []) ∵
    enter ! 𝓣.C 𝓣.Λ code.function (shr_vals args.0 ++ shr_vals args.1.0) K $ alloc_all ! (λ l. pass_all ! refl ((tt, tt), ((tt, tt), tt)) $
    sets ! (agg ! (no_more !)) refl (tt, tt) $ returns ! (look_at ! 0 refl) $ free_all ! refl $ done !))
    (code.unfolded 𝓤 𝓛.H 𝓜 𝓡 w)
