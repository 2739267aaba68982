-- One event in the middle of a run: the offices and the messages before and after it.
use Rattle.docker_model.specs.state.StateText.{dks_2}
use Rattle.docker_model.specs.run.Run.{RunEvent, KnownSets, IsReply, after_reply}
use Rattle.docker_laws.specs.RunInvariant.{Holds}
use Rattle.docker_office.specs.declared.reply.Reply.{Reply}
use Rattle.docker_office.specs.declared.steps.Holdings.{Holdings}
use Rattle.docker_office.specs.RunMeaning.{IsRunReply, reply_meant, texts_of}

-- says that each office's state is the summary of what the office knows, and that each message is
-- the text of the summary of what its sender knew
abbrev pub AreOf : KnownSets → Holdings → Type 0
AreOf known held = Holds dks_2 known held.offices.items (texts_of held.messages.items)

-- says that the definitions allow this reply to the event. After the event, each office's state is
-- the summary of what the office knows, and each message is the text of the summary of what its
-- sender knew
pub record MeetsEvent (known : KnownSets) (event : RunEvent) (reply : Reply) (held : Holdings) : Type 0 where
  pub told : IsRunReply reply
  pub may : IsReply known event (reply_meant reply)
  pub holds : AreOf (after_reply known (event, reply_meant reply)) held
