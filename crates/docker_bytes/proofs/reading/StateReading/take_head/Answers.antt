use Rattle.std.proofs.Common.{◌≡◌, ◌+◌, ◌-◌, ◌≤◌, ◌∙◌, length, take, refl, sym, ap, subst, arith}
use Rattle.std.proofs.lemmas.List.{length-take-le}
use Rattle.state_text.specs.Head.{AreParts}
use Rattle.docker_bytes.proofs.HeadLemmas.{valid_so_far, head_read}
use Rattle.docker_bytes.proofs.ReadingLemmas.{before_rest}
use Rattle.docker_bytes.proofs.reading.StateReading.take_head.Goals as goal

pub put_head-requires : goal.put_head-requires
put_head-requires g c = valid_so_far c.args.self.now c.in-Tag.count c.requires c.in-Tag.is

pub returns-clause-on : goal.returns-clause-on
returns-clause-on g c =
    let piece = c.args.piece.now in
    let behind = c.split_at.result.1.now in
    let len = c.in-Some.len in
    let back = c.split_at.ensures.back_len in
    let within = c.requires.within in
    let room = c.if-len-self.false in
    let same : length piece - length behind ≡ len = omega arith in
    let size : length (before_rest piece behind) ≡ len = ap (λ n. length (take n piece)) same ∙ length-take-le len piece c.in-Some.ensures.within in
    let fits : c.args.self.now.reached + length (before_rest piece behind) ≤ c.args.self.now.limit = omega arith in
    head_read _ _ c.requires c.in-Tag.is _ _ _
    (subst (λ n. AreParts c.args.self.now.parts (take n piece) c.in-Some.ensures.part) (sym same) c.in-Some.ensures.parts) c.in-Some.ensures.is
    c.in-Some.ensures.fresh fits refl c.clear.ensures refl (ap (λ n. c.args.self.now.reached + n) (sym size)) refl refl refl
