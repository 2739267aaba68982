-- The taker takes the pieces in the order in which they were read.
use Rattle.std.proofs.Common.{◌≡◌, ◌<◌, ◌++◌, length, take, refl, arith, ◌∙◌, subst, rules}
use Rattle.std.proofs.lemmas.List.{length-take-le}
use Rattle.cif_device.specs.Device.{IsEnd}
use Rattle.cif_device.proofs.FeedLemmas.{at_once, at_start, end_stays, going_on, fed_where_failed, fits_still, next_turn, no_more, none_failed, nothing_more}
use Rattle.cif_device.proofs.FeedLemmas.{nothing_read, one_more, refused_behind, same_front}
use Rattle.cif_device.proofs.feed.feed_all.Goals as goal

pub returns-in_default-clause-ends : goal.returns-in_default-clause-ends
returns-in_default-clause-ends g c = (refl, refl)

pub returns-in_default-clause-no_further : goal.returns-in_default-clause-no_further
returns-in_default-clause-no_further g c = λ settings text taken. nothing_read _ _ _ _ _ taken

pub returns-in_default-clause-failures : goal.returns-in_default-clause-failures
returns-in_default-clause-failures g c = search (rules, none_failed)

pub pieces-init : goal.pieces-init
pieces-init g c = search (rules, at_start, c.in-Ok.ensures.len)

pub returns-in_default-read-clause-ends : goal.returns-in_default-read-clause-ends
returns-in_default-read-clause-ends g c = search (rules, fed_where_failed, c.pieces.invariant.turn, c.in_default-read.ensures.unmoved)

pub returns-in_default-read-clause-no_further : goal.returns-in_default-read-clause-no_further
returns-in_default-read-clause-no_further g c = search (rules, no_more, c.pieces.invariant.turn, c.in_default-read.ensures.unmoved)

pub returns-in_default-read-clause-failures : goal.returns-in_default-read-clause-failures
returns-in_default-read-clause-failures g c = search rules

pub returns-then-n-eq0-clause-ends : goal.returns-then-n-eq0-clause-ends
returns-then-n-eq0-clause-ends g c =
    let room : 0 < length c.read.new.into = omega (arith, c.pieces.invariant.room, c.as_mut_slice.ensures.len, c.read.auto.into) in
    let end : IsEnd (g.S.Source.left c.pieces.source) = c.in-Ok-read.ensures.end c.if-n-eq0.true room in (
      λ settings text taken. search (rules, nothing_more, c.pieces.invariant.turn, c.if-n-eq0.true, c.in-Ok-read.ensures.moved),
      end_stays _ _ _ c.in-Ok-read.ensures.moved end,
    )

pub returns-then-n-eq0-clause-failures : goal.returns-then-n-eq0-clause-failures
returns-then-n-eq0-clause-failures g c = search (rules, none_failed)

pub returns-then-n-eq0-clause-no_further : goal.returns-then-n-eq0-clause-no_further
returns-then-n-eq0-clause-no_further g c = λ settings text taken. one_more _ _ _ _ _ _ _ _ _ (c.pieces.invariant.turn settings text taken)
    c.in-Ok-read.ensures.moved (at_once _ _ _ (c.read.auto.into ∙ c.as_mut_slice.ensures.len) c.pieces.invariant.room c.in-Ok-read.ensures.within)

pub returns-in-Err-clause-ends : goal.returns-in-Err-clause-ends
returns-in-Err-clause-ends g c = λ settings text taken.
    let at = c.pieces.invariant.turn settings text taken in
    let long : length c.read.new.into ≡ c.pieces.piece.len = c.read.auto.into ∙ c.as_mut_slice.ensures.len in
    let same : take c.in-Ok-read.n c.deref.result.now ≡ take c.in-Ok-read.n c.read.new.into = search (rules, same_front) in
    refused_behind g.T.Taker.takes g.T.Taker.refuses c.pieces.fed settings text (g.S.Source.left c.args.source.now) (g.S.Source.left c.pieces.source)
    (g.S.Source.left c.read.new.self) c.pieces.taker c.take.new.self (take c.in-Ok-read.n c.read.new.into) c.in-Err.fault at c.in-Ok-read.ensures.moved
    (at_once c.in-Ok-read.n c.pieces.piece.len c.read.new.into long c.pieces.invariant.room c.in-Ok-read.ensures.within)
    (search rules)

pub returns-in-Err-clause-failures : goal.returns-in-Err-clause-failures
returns-in-Err-clause-failures g c = search (rules, none_failed)

pub returns-in-Err-clause-no_further : goal.returns-in-Err-clause-no_further
returns-in-Err-clause-no_further g c = λ settings text taken. one_more _ _ _ _ _ _ _ _ _ (c.pieces.invariant.turn settings text taken)
    c.in-Ok-read.ensures.moved (at_once _ _ _ (c.read.auto.into ∙ c.as_mut_slice.ensures.len) c.pieces.invariant.room c.in-Ok-read.ensures.within)

pub overflow_add-fed : goal.overflow_add-fed
overflow_add-fed g c =
    let asked = c.requires.taking in
    let at = c.pieces.invariant.turn asked.settings asked.text asked.taken in
    let long : length c.read.new.into ≡ c.pieces.piece.len = c.read.auto.into ∙ c.as_mut_slice.ensures.len in
    let same : take c.in-Ok-read.n c.deref.result.now ≡ take c.in-Ok-read.n c.read.new.into = search (rules, same_front) in
    let taken = subst (λ piece. g.T.Taker.takes c.take.new.self asked.settings ((asked.text ++ at.bytes) ++ piece)) same
    (c.in_default-take.ensures.taken asked.settings (asked.text ++ at.bytes) at.taken) in
    fits_still _ _ _ _ _ at.size (length-take-le c.in-Ok-read.n c.read.new.into c.in-Ok-read.ensures.within)
    (g.met.T.Taker.bounded c.take.new.self asked.settings ((asked.text ++ at.bytes) ++ take c.in-Ok-read.n c.read.new.into) taken)

pub pieces-preserved : goal.pieces-preserved
pieces-preserved g c =
    let long : length c.read.new.into ≡ c.pieces.piece.len = c.read.auto.into ∙ c.as_mut_slice.ensures.len in
    let same : take c.in-Ok-read.n c.deref.result.now ≡ take c.in-Ok-read.n c.read.new.into = search (rules, same_front) in
    record {
      turn = λ settings text taken.
          let at = c.pieces.invariant.turn settings text taken in
          next_turn g.T.Taker.takes c.pieces.fed c.in-Ok-read.n settings text (g.S.Source.left c.args.source.now) (g.S.Source.left c.pieces.source)
          (g.S.Source.left c.read.new.self) c.pieces.taker c.take.new.self (take c.in-Ok-read.n c.read.new.into) at
          (length-take-le c.in-Ok-read.n c.read.new.into c.in-Ok-read.ensures.within) c.in-Ok-read.ensures.moved
          (search rules);
      no_failure = c.in-Ok-read.ensures.no_failure ∙ c.pieces.invariant.no_failure;
      room = c.pieces.invariant.room;
      not_ended = λ was. going_on _ _ _ _ _ _ c.in-Ok-read.ensures.ending c.if-n-eq0.false (c.pieces.invariant.not_ended was);
      not_passed = λ was. c.in-Ok-read.ensures.ending.3 (c.pieces.invariant.not_ended was) ∙ c.pieces.invariant.not_passed was;
    }

pub returns-in_default-read-clause-not_ended : goal.returns-in_default-read-clause-not_ended
returns-in_default-read-clause-not_ended g c = λ was. c.in_default-read.ensures.still.0 ∙ c.pieces.invariant.not_ended was

pub returns-in_default-read-clause-not_passed : goal.returns-in_default-read-clause-not_passed
returns-in_default-read-clause-not_passed g c = λ was. c.in_default-read.ensures.still.1 ∙ c.pieces.invariant.not_passed was

pub returns-then-n-eq0-clause-ended : goal.returns-then-n-eq0-clause-ended
returns-then-n-eq0-clause-ended g c = search rules

pub returns-then-n-eq0-clause-not_passed : goal.returns-then-n-eq0-clause-not_passed
returns-then-n-eq0-clause-not_passed g c = λ was. c.in-Ok-read.ensures.ending.3 (c.pieces.invariant.not_ended was) ∙ c.pieces.invariant.not_passed was

pub returns-in-Err-clause-not_ended : goal.returns-in-Err-clause-not_ended
returns-in-Err-clause-not_ended g c = λ was. going_on _ _ _ _ _ _ c.in-Ok-read.ensures.ending c.if-n-eq0.false (c.pieces.invariant.not_ended was)

pub returns-in-Err-clause-not_passed : goal.returns-in-Err-clause-not_passed
returns-in-Err-clause-not_passed g c = λ was. c.in-Ok-read.ensures.ending.3 (c.pieces.invariant.not_ended was) ∙ c.pieces.invariant.not_passed was
