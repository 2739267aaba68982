-- Properties of a run's result, for each event, each office and each message.
use Rattle.std.proofs.Common.{◌≡◌, ℕ, zero, suc, ◌<◌, List, [], ◌∷◌, length, take, sym, ◌∙◌, arith, rules, fold, zip}
use Rattle.docker_model.specs.state.StateText.{dks_2}
use Rattle.docker_model.specs.run.Run.{RunEvent, Reply, Exchange, KnownSets, IsReply, AreReplies, after_reply, none_known}
use Rattle.docker_model.specs.run.Knowledge.{sets_of, sent_count}
use Rattle.docker_laws.specs.RunInvariant.{Holds}
use Rattle.docker_laws.proofs.runs.KnownSets.{replies_long, offices_are, messages_are}
use Rattle.docker_laws.proofs.runs.RunEnd.{run_holds}
use Rattle.docker_laws.proofs.runs.RunSteps.{sizes, office_is, message_is}
use Rattle.docker_office.specs.RunEnds.{LeavesRun, IsReplyAt, HasSummary, TellsSummary, event_at, reply_at}

-- for each event, the definitions allow its reply, whatever was known at the start of the run
reply_there : (known : KnownSets) (events : List RunEvent) (replies : List Reply) → AreReplies known events replies → (place : ℕ) → place < length events
    → IsReply (fold after_reply known (zip (take place events) (take place replies))) (event_at events place) (reply_at replies place)
reply_there known [] replies are place low = absurd (omega arith)
reply_there known (event ∷ events) [] are place low = absurd are
reply_there known (event ∷ events) (reply ∷ replies) are zero low = are.0
reply_there known (event ∷ events) (reply ∷ replies) are (suc place) low = reply_there (after_reply known (event, reply)) _ replies are.1 _ (omega arith)

module _ (offices : ℕ) (events : List RunEvent) (exchange : Exchange) (leaves : LeavesRun offices events exchange) where
  held : Holds dks_2 (sets_of offices events exchange) exchange.states exchange.messages
  held = run_holds dks_2 offices events exchange leaves.good leaves.run

  many : (length exchange.states ≡ length (sets_of offices events exchange).offices) ×
      (length exchange.messages ≡ length (sets_of offices events exchange).messages)
  many = sizes dks_2 (sets_of offices events exchange) exchange.states exchange.messages held

  -- a run has one reply for each event
  pub one_each : length exchange.replies ≡ length events
  one_each = sym (replies_long (none_known offices) events exchange.replies leaves.run.replies)

  -- for each event of a run, the definitions allow its reply
  pub each_reply : (place : ℕ) → place < length events → IsReplyAt offices events exchange.replies place
  each_reply place low = reply_there (none_known offices) events exchange.replies leaves.run.replies place low

  -- there is one message for each `Send` that was carried out
  pub one_sent : length exchange.messages ≡ sent_count events exchange.replies
  one_sent = many.1 ∙ messages_are offices events exchange.replies

  -- there is one state for each office
  pub all_offices : length exchange.states ≡ offices
  all_offices = many.0 ∙ offices_are offices events exchange.replies

  -- each office's state is the summary of what the office knows
  pub each_state : (office : ℕ) → office < offices → HasSummary offices events exchange office
  each_state = search (rules, office_is, held, offices_are)

  -- each message is the text of a summary: the summary of what the sending office knew when it sent
  -- the message
  pub each_message : (message : ℕ) → message < length exchange.messages → TellsSummary offices events exchange message
  each_message message sent =
      message_is dks_2 (sets_of offices events exchange) exchange.states exchange.messages held message (let same = many.1 in omega arith)
