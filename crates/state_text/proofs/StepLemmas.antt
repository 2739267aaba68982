-- Lemmas on reading one more ledger item, or one more line, of a state's text.
use Rattle.cif_laws.proofs.Common.{◌≡◌, ℕ, ◌+◌, ◌≤◌, List, [], ◌∷◌, ◌++◌, length, arith, length-append, rules, Result, IfOk, IfErr, ScheduleKey, schedule_key}
use Rattle.cif_laws.proofs.Common.{schedule_body, LedgerItem, Stamp, put_with, State, IsLedger, IsScheduleOf, Format, Before, in_entry, before_line}
use Rattle.cif_laws.proofs.Common.{AreLinesUpTo, IsPartHere}
use Rattle.state_laws.specs.TextStage.{advance, after_entries, with_entry}
use Rattle.state_laws.proofs.texts.TextsBefore.{all_lines}
use Rattle.state_laws.proofs.texts.LedgerGrown.{one_item_more}
use Rattle.state_text.specs.declared.cause.StateCause.{StateCause}
use Rattle.state_text.specs.declared.cause.StateCause.TheVariants as cause
use Rattle.state_text.specs.FaultMeaning.{IsWantingHere}
use Rattle.state_text.specs.Judged.{MayFollow, Judges}
use Rattle.state_text.specs.declared.stage.Stage.{Stage}
use Rattle.state_text.specs.Stage.{stage_meant, IsFresh}

-- if an item may come next in a ledger, the ledger with this item appended is a ledger
pub item_follows : (ledger told : List LedgerItem) (item meant : LedgerItem) → told ≡ ledger → IsLedger ledger → meant ≡ item → MayFollow told item
    → IsLedger (ledger ++ meant ∷ [])
item_follows = grind (arith, one_item_more)

-- after the last line, the number of lines is at least the count in the entry's head
pub taken_all : (lines : List (List ℕ)) (line : List ℕ) (taken : List (List ℕ)) (n : ℕ) → taken ≡ lines ++ line ∷ [] → n ≤ length lines + 1 → n ≤ length taken
taken_all = search (rules, length-append)

-- suppose that reading the last part of an entry results in the stage after the entry, or in
-- `Memory`. Then this result is a correct judgement of the part
pub entry_judged : (format : Format) (before after : Before) (bytes : List ℕ) (new : State) (lines : List (List ℕ)) (result : Result Stage StateCause)
    → IfOk result (λ s. (ls : List (List ℕ)) → stage_meant s new ls ≡ after) → IfOk result (λ s. IsFresh s new)
    → IfErr result (λ told. told ≡ cause.Memory) → after ≡ advance format before bytes → IsWantingHere format before bytes
    → Judges format before bytes new lines result
entry_judged = search rules

-- if two stages are equal, a correct judgement of a part at one stage is also correct at the other
-- stage
pub judged_at : (meant format : Format) (at exact : Stage) → meant ≡ format → at ≡ exact → (state new : State) (lines after : List (List ℕ)) (bytes : List ℕ)
    (result : Result Stage StateCause) → Judges format (stage_meant exact state lines) bytes new after result
    → Judges meant (stage_meant at state lines) bytes new after result
judged_at = search rules

module _ (format : Format) (count : ℕ) (state : State) (key : ScheduleKey) (stamp : Stamp) (n : ℕ) (lines : List (List ℕ)) (line : List ℕ)
    (taken : List (List ℕ))
    (here : IsPartHere state (before_line key stamp n lines)) (is : taken ≡ lines ++ line ∷ []) where
  count_is : n ≤ length taken → n ≡ length (lines ++ line ∷ [])
  count_is = search (rules, length-append)

  -- after the last line the entry is complete
  pub all_there : (body : List (List ℕ)) → body ≡ taken → n ≤ length taken
      → after_entries count (with_entry state (schedule_key key) stamp (put_with (schedule_body body))) ≡ advance format
      (in_entry count state (before_line key stamp n lines)) line
  all_there = search (rules, all_lines, count_is)

  -- after the last line, the lines are a schedule with the key
  pub whole_schedule : (body : List (List ℕ)) → body ≡ taken → n ≤ length taken → AreLinesUpTo key n (lines ++ line ∷ []) → IsScheduleOf key body
  whole_schedule = search (rules, count_is)
