-- A run up to some event, and its extension by one more event.
use Rattle.std.proofs.Common.{◌≡◌, ℕ, ◌≤◌, List, [], ◌∷◌, ◌++◌, length, map, take, sym, subst, All, arith, rules}
use Rattle.std.proofs.lemmas.Grind.{common_steps}
use Rattle.std.proofs.lemmas.List.{map-append, take_all}
use Rattle.std.proofs.lemmas.List.Elements.{All-nil}
use Rattle.docker_model.specs.state.StateText.{dks_2}
use Rattle.docker_model.specs.state.Summary.{IsSummary}
use Rattle.docker_model.specs.run.Run.{RunEvent, Exchange, AreReplies, none_known, known_sets}
use Rattle.docker_model.specs.run.Run as model
use Rattle.docker_model.specs.run.Knowledge.{IsGoodEvent}
use Rattle.docker_laws.specs.RunInvariant.{Holds}
use Rattle.docker_laws.proofs.runs.KnownSets.{replies_long, replies_more, sets_more}
use Rattle.docker_laws.proofs.runs.RunEnd.{holds_at_end}
use Rattle.docker_laws.proofs.runs.RunSteps.{holds_at_first}
use Rattle.docker_office.specs.declared.reply.Reply.{Reply}
use Rattle.docker_office.specs.declared.steps.Holdings.{Holdings}
use Rattle.docker_office.specs.RunMeaning.{IsRunReply, events_meant, reply_meant, texts_of}
use Rattle.docker_office.specs.declared.event.Event.{Event}
use Rattle.docker_office.specs.RunSteps.{AreOf, MeetsEvent}
use Rattle.docker_office.specs.RunEnds.{LeavesRun}

-- says that these events got these replies. Each office's state is the summary of what the office
-- knows after these events, and each message is the text of the summary of what its sender knew
pub record HasRun (offices : ℕ) (events : List RunEvent) (replies : List Reply) (held : Holdings) : Type 0 where
  pub told : All IsRunReply replies
  pub are : AreReplies (none_known offices) events (map reply_meant replies)
  pub holds : AreOf (known_sets offices events (map reply_meant replies)) held
  pub good : All (IsGoodEvent dks_2) events

-- if no event has happened yet, the run so far is a run without events
pub run_at_first : (offices : ℕ) (held : Holdings) → length held.offices.items ≡ offices → All (IsSummary [] 0) held.offices.items
    → held.messages.items ≡ [] → HasRun offices [] [] held
run_at_first offices held many each none = record {
  told = All-nil IsRunReply;
  are = tt;
  holds = subst (λ kept. Holds dks_2 (none_known offices) held.offices.items (texts_of kept)) (sym none) (holds_at_first _ _ _ many each);
  good = All-nil (IsGoodEvent dks_2);
}

-- if a run is followed by one more event and its reply, the run and this event together form a run
-- too
pub run_with_one_more : (offices : ℕ) (events : List RunEvent) (replies : List Reply) (held after : Holdings) (event : RunEvent) (reply : Reply)
    → HasRun offices events replies held → IsGoodEvent dks_2 event → ((known : model.KnownSets) → AreOf known held → MeetsEvent known event reply after)
    → HasRun offices (events ++ event ∷ []) (replies ++ reply ∷ []) after
run_with_one_more = grind (common_steps, arith, map-append, sets_more, replies_long, replies_more)

-- after the last event, the run so far is a run of all events
pub run_at_end : (offices : ℕ) (events : List Event) (index : ℕ) (replies : List Reply) (held : Holdings) (exchange : Exchange)
    → HasRun offices (events_meant (take index events)) replies held → length events ≤ index
    → exchange ≡ record { states = held.offices.items; messages = texts_of held.messages.items; replies = map reply_meant replies }
    → LeavesRun offices (events_meant events) exchange
run_at_end = search (rules, take_all, holds_at_end)
