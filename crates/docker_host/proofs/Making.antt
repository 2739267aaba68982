-- Functions that return a struct that has only ghost fields, and do nothing else. The struct takes
-- no memory. The proofs assume `Logic`, the kit's laws of memory.
use Rattle.std.proofs.Common.{List, [], ◌∷◌, refl}
use seplogic.Ra.Ura.{Ura}
use base.Logic.{SProp, sep, ent, ex, emp, via, emp∗, comm∗, mono_l, fst∗, ex_i}
use base.Fml.{Fml, fsep, ftrue}
use mir.Syntax.{Fn}
use mir.Val.{Val, vstruct, vnil}
use prog.Routine.{Callee}
use prog.Wp.{Calls, Closed, Loops, WpFn}
use types.Logic.{Logic, sem}
use types.Kit.{◌$◌, ◌∵◌, !, qed, done, fjoin, fpack, feq_i}
use contract.Lifetimes.{Lfts}
use denote.Laws.{Ises, Spells, Tellss, valss}
use denote.RattleType.{Valss, flat, owns}
use denote.Signature.{Signature, type_at, types_at}
use denote.Steps.{nothing, said}
use denote.Struct.Struct.{Shape, Struct, within}
use denote.Triple.Clauses.{Clauses, Ended, Lasts, at_exit, closing, ensured, lasts}
use denote.Triple.Entry.{Args, Res, alive, on_entry}
use denote.Triple.Spec.{Back, triple_of}
use denote.Triple.Statement.{Contract, Triple}
use denote.Triple.Table.{entered}

-- the declaration of a struct that has only ghost fields
abbrev pub no_fields : Shape
no_fields = record { name = []; args = []; types = []; fields = [] }

-- the value of a struct that has only ghost fields
abbrev pub empty_struct : Val
empty_struct = vstruct vnil

-- what a struct that has only ghost fields owns
abbrev pub owned : Fml
owned = fsep ((Struct no_fields).own_val tt (empty_struct ∷ [])) ftrue

-- what is made from nothing is added to what there is
pub beside : {M : Type 1} (𝓤 : Ura M) (P Q : SProp 𝓤) → ent 𝓤 (emp 𝓤) Q → ent 𝓤 P (sep 𝓤 P Q)
beside 𝓤 P Q made = via 𝓤 (sep 𝓤 (emp 𝓤) P) (emp∗ 𝓤 P) (via 𝓤 (sep 𝓤 Q P) (mono_l 𝓤 P made) (comm∗ 𝓤 Q P))

module _ {M : Type 1} {𝓤 : Ura M} (𝓛 : Logic 𝓤) where
  -- a struct that has only ghost fields can be made from nothing, since ghost fields own nothing
  pub made_of_nothing : ent 𝓤 (emp 𝓤) (sem 𝓛 owned)
  made_of_nothing = qed 𝓛 [] ∵ nothing ! $ nothing ! $ feq_i ! (List Val) (empty_struct ∷ []) (empty_struct ∷ []) refl $ fjoin ! $
      fpack ! (Valss []) (within no_fields tt (empty_struct ∷ [])) tt $ fjoin ! $ done !

  module _ (T : Ended) (c : Clauses 𝓤 T) (made : (κs : Lfts T.signature.lifetimes) → Args T.signature κs → Res T.signature κs)
      (last : (κs : Lfts T.signature.lifetimes) (args : Args T.signature κs) → Lasts T κs args) where
    abbrev S : Signature
    S = T.signature

    abbrev met : Contract 𝓤
    met = triple_of 𝓛 S (closing 𝓛 T c)

    module _ (own : (κs : Lfts S.lifetimes) (args : Args S κs) → ent 𝓤 (emp 𝓤) (sem 𝓛 ((type_at S.result κs).own_val (made κs args) (empty_struct ∷ []))))
        (silent : (κs : Lfts S.lifetimes) (args : Args S κs) → ent 𝓤 (emp 𝓤) (sem 𝓛 (lasts T κs args (last κs args))))
        (ensures : (κs : Lfts S.lifetimes) (args : Args S κs) (g : (c κs args).ghost)
        → ent 𝓤 (emp 𝓤) ((c κs args).ensures g (made κs args) (at_exit T κs args (last κs args)))) where
      -- the contract holds when the function returns the empty struct
      meets : (y : met.Ghost) → ent 𝓤 (alive 𝓛 S y.0.0 y.0.1) (met.post y empty_struct)
      meets y =
          let κs = y.0.0 in
          let args = y.0.3 in
          let Said : Lasts T κs args → SProp 𝓤 = λ ws. sep 𝓤 (sem 𝓛 (lasts T κs args ws)) ((c κs args).ensures y.1 (made κs args) (at_exit T κs args ws)) in
          let Back : Res S κs → SProp 𝓤 = λ r. sep 𝓤 (Back 𝓛 S y.0 empty_struct r) (ensured 𝓛 T c κs args y.1 r) in
          via 𝓤 (sep 𝓤 (alive 𝓛 S y.0.0 y.0.1) (sem 𝓛 ((type_at S.result κs).own_val (made κs args) (empty_struct ∷ [])))) (beside 𝓤 _ _ (own κs args))
          (via 𝓤 (Back (made κs args)) (beside 𝓤 _ (ex 𝓤 Said) (via 𝓤 (sem 𝓛 (lasts T κs args (last κs args))) (silent κs args)
          (via 𝓤 (Said (last κs args)) (beside 𝓤 _ _ (ensures κs args y.1)) (ex_i 𝓤 Said (last κs args)))))
          (via 𝓤 (ex 𝓤 Back) (ex_i 𝓤 Back (made κs args)) (𝓛.laws.⇛_intro (ex 𝓤 Back))))

      -- a function that returns the empty struct meets its contract, if the contract says nothing of
      -- what its arguments own
      pub returns_made : (C : Calls 𝓤 𝓛.H) (Λ : Loops 𝓤 𝓛.H) (key : Callee) (function : Fn)
          (passed : (κs : Lfts S.lifetimes) → Spells (types_at S.params κs))
          → ((κs : Lfts S.lifetimes) → Tellss (types_at S.params κs) (Ises (types_at S.params κs)) (passed κs))
          → ((κs : Lfts S.lifetimes) (args : Args S κs) (K : Val → SProp 𝓤) → ent 𝓤 (K empty_struct)
          (WpFn 𝓤 𝓛.H C Λ function (flat (types_at S.params κs) (valss (types_at S.params κs) (passed κs) args)) K))
          → Closed 𝓤 𝓛.H C Λ key function → Triple 𝓤 (C key) met
      returns_made C Λ key function passed tells walk closed = entered 𝓤 𝓛.H met C Λ key function closed (λ y.
          let κs = y.0.0 in
          let args = y.0.3 in
          let entry : SProp 𝓤 = on_entry 𝓛 S κs y.0.1 args y.0.4 in
          via 𝓤 entry (fst∗ 𝓤 entry ((c κs args).requires y.1))
          (said 𝓛 S κs y.0.1 (passed κs) (tells κs) args (λ us. WpFn 𝓤 𝓛.H C Λ function (flat (types_at S.params κs) us) (met.post y)) y.0.4
          (λ are. via 𝓤 (met.post y empty_struct) (via 𝓤 (alive 𝓛 S κs y.0.1) (fst∗ 𝓤 (alive 𝓛 S κs y.0.1)
          (sem 𝓛 (owns (types_at S.params κs) args (valss (types_at S.params κs) (passed κs) args)))) (meets y)) (walk κs args (met.post y)))))
