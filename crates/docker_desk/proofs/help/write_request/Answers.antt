use Rattle.cif_laws.proofs.Common.{List, ℕ, ◌∷◌, ◌++◌, subst, codes, flat_map, Bor}
use Rattle.docker_host.specs.Streams.{EndsWriting, WritesPart, WritesWhole}
use Rattle.docker_host.proofs.StreamsLemmas.{part_of_first}
use Rattle.docker_desk.specs.Help.{leave_text}
use Rattle.docker_desk.proofs.HelpLemmas.{line_is}
use Rattle.docker_desk.proofs.WritingLemmas.{ends_second}
use Rattle.docker_desk.proofs.help.write_request.Goals as goal

pub returns-in-Ok : goal.returns-in-Ok
returns-in-Ok g c =
    let row = c.args.row.now in
    subst (λ (line : List ℕ). EndsWriting c.write_rest.result line c.args.streams.now c.write_rest.new.streams)
    (line_is row.writes row.name.now row.ids.now)
    (ends_second c.write_rest.result (leave_text row.writes ++ row.name.now)
    (flat_map (λ (word : Bor (List ℕ)). 32 ∷ word.now) row.ids.now ++ codes "\n") c.args.streams.now c.write_both.new.streams c.write_rest.new.streams
    (subst (λ (front : List ℕ). WritesWhole front c.args.streams.now c.write_both.new.streams) (λ i. c.leave.ensures i ++ c.as_bytes.ensures.value i)
    c.in-Ok.ensures) c.write_rest.ensures)

pub returns-in-Err : goal.returns-in-Err
returns-in-Err g c =
    let row = c.args.row.now in
    subst (λ (line : List ℕ). WritesPart line c.args.streams.now c.write_both.new.streams) (line_is row.writes row.name.now row.ids.now)
    (part_of_first (leave_text row.writes ++ row.name.now) (flat_map (λ (word : Bor (List ℕ)). 32 ∷ word.now) row.ids.now ++ codes "\n")
    c.args.streams.now c.write_both.new.streams
    (subst (λ (front : List ℕ). WritesPart front c.args.streams.now c.write_both.new.streams) (λ i. c.leave.ensures i ++ c.as_bytes.ensures.value i)
    c.in-Err.ensures))
