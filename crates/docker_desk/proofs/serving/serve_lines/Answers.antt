use Rattle.cif_laws.proofs.Common.{◌≡◌, ◌-◌, ◌^◌, Some, ap, refl, ◌∙◌, arith}
use Rattle.docker_desk.proofs.StepLemmas.{counts_on, ended_after, ended_endless, so_far_first, so_far_on}
use Rattle.docker_desk.proofs.EndLemmas.{left_of_all}
use Rattle.docker_desk.proofs.serving.serve_lines.Goals as goal

pub loop-init : goal.loop-init
loop-init g c = record {
  so_far = so_far_first _ _ c.new-ahead.result _ _ _ c.new-ahead.ensures;
  few = (let none = c.requires.none in omega (arith, none));
  input = refl;
  output = refl;
  going = λ before. (refl, before);
}

pub loop-preserved : goal.loop-preserved
loop-preserved g c =
    let counts = counts_on c.serve_next-next.result _ _ _ _ c.in_default.is c.serve_next-next.ensures.counted in
    record {
      so_far =
          so_far_on _ c.loop.counter _ _ c.args.streams.now.input c.args.streams.now.output c.loop.ahead c.args.streams.now.exchanges c.loop.streams
          c.loop.invariant.so_far _ c.serve_next-next.new.ahead c.serve_next-next.new.streams c.serve_next-next.result c.in_default.is
          c.serve_next-next.ensures.serves;
      few = (let few = c.loop.invariant.few in let more = c.serve_next-next.ensures.few in omega (arith, few, more));
      input = counts.0 ∙ c.loop.invariant.input;
      output = counts.1 ∙ c.loop.invariant.output;
      going = λ before.
          let going = c.loop.invariant.going before in
          let stops = c.serve_next-next.ensures.stops in
          (stops.not_passed going.1 ∙ going.0, stops.going going.1 c.in_default.is);
    }

pub returns-in-Some-clause-answers : goal.returns-in-Some-clause-answers
returns-in-Some-clause-answers g c =
    ended_after _ c.loop.counter _ _ c.args.streams.now.input c.args.streams.now.output c.loop.ahead c.args.streams.now.exchanges c.loop.streams
    c.loop.invariant.so_far c.in-Some.ending _ c.serve_next-next.new.streams c.in-Some.ensures.serves

pub returns-clause-answers : goal.returns-clause-answers
returns-clause-answers g c =
    let full : c.loop.counter ≡ 2 ^ 64 - 1 = omega arith in
    ended_endless _ _ _ _ _ _ _ _ c.loop.streams c.loop.invariant.so_far full

pub returns-in-Some-clause-not_passed : goal.returns-in-Some-clause-not_passed
returns-in-Some-clause-not_passed g c = λ before.
    let going = c.loop.invariant.going before in c.serve_next-next.ensures.stops.not_passed going.1 ∙ going.0

pub returns-clause-not_passed : goal.returns-clause-not_passed
returns-clause-not_passed g c = λ before. (c.loop.invariant.going before).0

pub returns-in-Some-clause-reported : goal.returns-in-Some-clause-reported
returns-in-Some-clause-reported g c = λ before ended. c.in-Some.ensures.stops.told (c.loop.invariant.going before).1 (ap Some ended)

pub returns-in-Some-clause-left : goal.returns-in-Some-clause-left
returns-in-Some-clause-left g c = λ ended. left_of_all _ _ _ _ c.loop.invariant.so_far.read (c.in-Some.ensures.left (ap Some ended))
