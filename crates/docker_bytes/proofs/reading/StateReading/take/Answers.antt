use Rattle.std.proofs.Common.{rules, ◌≡◌, [], ◌++◌, ap, sym, ◌∙◌, arith, length, length-append}
use Rattle.std.proofs.lemmas.List.{nil_from_length}
use Rattle.std.proofs.lemmas.Result.{IfErr-weaker}
use Rattle.docker_bytes.proofs.ReadingLemmas.{part_refused}
use Rattle.docker_bytes.proofs.reading.StateReading.take.Goals as goal

pub returns-then-is_empty-clause-err : goal.returns-then-is_empty-clause-err
returns-then-is_empty-clause-err g c =
    let empty : length c.args.self.now.partial.items ≡ 0 = search rules in
    let none : c.args.self.now.partial.items ≡ [] = nil_from_length c.args.self.now.partial.items empty in
    let low = c.if-len-front.false in
    IfErr-weaker c.judge.result _ _ (λ fault told. part_refused _ _ _ _ _ c.requires.reading (ap (λ xs. xs ++ c.args.front.now) (sym none))
    (omega arith) c.requires.some (omega arith) told.0 told.1) c.judge.ensures.err

pub returns-clause-err : goal.returns-clause-err
returns-clause-err g c =
    let whole : c.as_slice.result.now ≡ c.args.self.now.partial.items ++ c.args.front.now = search rules in
    let size = ap length whole ∙ length-append c.args.self.now.partial.items c.args.front.now in
    let low = c.if-len-front.false in
    IfErr-weaker c.judge-2.result _ _ (λ fault told. part_refused _ _ _ _ _ c.requires.reading whole (omega arith)
    c.requires.some (omega arith) told.0 told.1) c.judge-2.ensures.err
