-- `with` reads nothing through its references, and makes a struct without fields. The proof assumes
-- `Logic`, the kit's laws of memory.
use Rattle.cif_laws.proofs.Common.{refl, [], ◌∷◌, named, vstruct, vnil, proved, ◌++◌}
use base.Logic.{emp, via, fst∗}
use types.Kit.{‵, raw, ◌$◌, ◌∵◌, !, qed, move, suffices, done}
use types.Run.{no_more, returns, enter}
use types.Part.{agg}
use types.ByLocal.{alloc_all, pass_all, free_all, look_at, sets}
use denote.Exit.{yes}
use denote.RattleType.{owns}
use denote.Ref.{shr_vals, shr_Tells}
use denote.Shadow.{pure_i}
use denote.Signature.{plain, types_at}
use denote.Triple.Entry.{Vals, alive}
use denote.Triple.Walked.{says, Stays, stay_none, Goes-none_ref, ends_at}
use Rattle.cif_change.specs.Meaning.{key_meant}
use Rattle.docker_join.specs.Meaning.{entry_meant}
use Rattle.cif_change.specs.contracts.key.Key as key
use Rattle.docker_join.specs.contracts.entry.Entry as entry
use Rattle.state_text.specs.contracts.given.Given as given
use Rattle.state_text.specs.contracts.given.Given.with as f
use Rattle.state_text.proofs.given.Given.with.Statement as stated
use Rattle.state_text.proofs.given.Given.with.Code as code

abbrev stayed : Stays f.ended.signature.params f.ended.kept
stayed = (stay_none _ yes, (stay_none _ yes, (stay_none _ yes, tt)))

pub with_spec : {M : Type 1} → stated.statement M
with_spec 𝓤 𝓛 𝓜 𝓡 wired =
    let c = f.clauses 𝓛 𝓜.mem 𝓡.returns in
    proved 𝓛 f.ended stayed c 𝓜 𝓡 (
      Goes-none_ref 𝓛 3 (0 ∷ []) tt (plain (λ _. given.the_row)) yes,
      (Goes-none_ref 𝓛 3 (1 ∷ []) tt (plain (λ _. key.the_row)) yes, (Goes-none_ref 𝓛 3 (2 ∷ []) tt (plain (λ _. entry.the_row)) yes, tt)),
    )
    f.Key.name code.function (code.unfolded 𝓤 𝓛.H 𝓜 𝓡 wired) (λ κs. (shr_vals, (shr_vals, (shr_vals, tt))))
    (λ κs. (shr_Tells (named 0) κs.0 given.the_row, (shr_Tells (named 1) κs.1.0 key.the_row, (shr_Tells (named 2) κs.1.1.0 entry.the_row, tt))))
    (λ κs qs bounds a g are.
    let vs : Vals f.signature κs = (shr_vals a.0, (shr_vals a.1.0, (shr_vals a.1.1.0, tt))) in
    let made : (given.the_row).Denot = record { entries = a.0.now.entries ++ (key_meant a.1.0.now, entry_meant a.1.1.0.now) ∷ [] } in
    via 𝓤 _ (fst∗ 𝓤 _ (emp 𝓤)) (
    qed 𝓛 (raw (alive 𝓛 f.signature κs qs) ∷ ‵ (owns (types_at f.signature.params κs) a vs) ∷ []) ∵ enter ! _ _ _ _ _ $
    alloc_all ! (λ l. pass_all ! refl ((tt, tt), ((tt, tt), ((tt, tt), tt))) $
    sets ! (agg ! (no_more !)) refl (tt, tt) $ returns ! (look_at ! 0 refl) $ free_all ! refl $
    suffices ! _ (ends_at 𝓛 f.ended stayed c ((κs, qs, bounds, a, vs), g) (vstruct vnil) made (tt, (tt, (tt, tt))) (tt, (tt, (tt, tt)))) $
    says ! refl $ pure_i ! (given.the_row.own_val made (vstruct vnil ∷ [])) ((λ vss. (tt, tt)), tt) ((tt, (refl, tt)), tt) $
    move ! (1 ∷ 2 ∷ 0 ∷ []) $ done !)))
