use Rattle.docker_desk.proofs.MatchLemmas.{sent_compares}
use Rattle.docker_desk.proofs.matching.is_text_of.Goals as goal

pub returns : goal.returns
returns g c = sent_compares _ _ _ _ _ _ _ _ _ _ _
    c.new-sink.ensures.taken c.new-sink.ensures.no_failure c.requires c.is_whole.ensures.text c.send-sent.ensures.whole c.send-sent.ensures.part
    c.send-sent.ensures.failures c.send-sent.ensures.only c.is_ok.ensures.value c.is_whole.ensures.whole c.is_whole.ensures.parted
