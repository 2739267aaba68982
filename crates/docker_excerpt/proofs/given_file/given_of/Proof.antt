-- `given_of` reads nothing through its reference, and makes a struct without fields. The proof
-- assumes `Logic`, the kit's laws of memory.
use Rattle.cif_laws.proofs.Common.{refl, [], ◌∷◌, named, vstruct, vnil, proved}
use base.Logic.{emp, via, fst∗}
use types.Kit.{‵, raw, ◌$◌, ◌∵◌, !, qed, move, suffices, done}
use types.Run.{no_more, returns, enter}
use types.Part.{agg}
use types.ByLocal.{alloc_all, pass_all, free_all, look_at, sets}
use denote.Exit.{yes}
use denote.RattleType.{owns}
use denote.Ref.{shr_vals, shr_Tells}
use denote.Shadow.{pure_i}
use denote.Signature.{plain, types_at}
use denote.Triple.Entry.{Vals, alive}
use denote.Triple.Walked.{says, Stays, stay_none, Goes-none_ref, ends_at}
use Rattle.docker_excerpt.specs.Values.{state_of_read}
use Rattle.docker_excerpt.specs.contracts.thin_file.ThinFile as thin
use Rattle.state_text.specs.contracts.given.Given as given
use Rattle.docker_excerpt.specs.contracts.given_file.given_of as f
use Rattle.docker_excerpt.proofs.given_file.given_of.Statement as stated
use Rattle.docker_excerpt.proofs.given_file.given_of.Code as code

abbrev stayed : Stays f.ended.signature.params f.ended.kept
stayed = (stay_none _ yes, tt)

pub given_of_spec : {M : Type 1} → stated.statement M
given_of_spec 𝓤 𝓛 𝓜 𝓡 wired =
    let c = f.clauses 𝓛 𝓜.mem 𝓡.returns in
    proved 𝓛 f.ended stayed c 𝓜 𝓡
    (Goes-none_ref 𝓛 1 (0 ∷ []) tt (plain (λ _. thin.the_row)) yes, tt)
    f.Key.name code.function (code.unfolded 𝓤 𝓛.H 𝓜 𝓡 wired) (λ κs. (shr_vals, tt))
    (λ κs. (shr_Tells (named 0) κs.0 thin.the_row, tt))
    (λ κs qs bounds a g are.
    let vs : Vals f.signature κs = (shr_vals a.0, tt) in
    let made : (given.the_row).Denot = record { entries = (state_of_read a.0.now.file).entries } in
    via 𝓤 _ (fst∗ 𝓤 _ (emp 𝓤)) (
    qed 𝓛 (raw (alive 𝓛 f.signature κs qs) ∷ ‵ (owns (types_at f.signature.params κs) a vs) ∷ []) ∵ enter ! _ _ _ _ _ $
    alloc_all ! (λ l. pass_all ! refl ((tt, tt), tt) $
    sets ! (agg ! (no_more !)) refl (tt, tt) $ returns ! (look_at ! 0 refl) $ free_all ! refl $
    suffices ! _ (ends_at 𝓛 f.ended stayed c ((κs, qs, bounds, a, vs), g) (vstruct vnil) made (tt, tt) (tt, tt)) $
    says ! refl $ pure_i ! (given.the_row.own_val made (vstruct vnil ∷ [])) ((λ vss. (tt, tt)), tt) ((tt, (refl, tt)), tt) $
    move ! (1 ∷ 2 ∷ 0 ∷ []) $ done !)))
