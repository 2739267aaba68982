use Rattle.cif_laws.proofs.Common.{◌≡◌, ℕ, IfSome, subst, option_map}
use Rattle.docker_program.proofs.PrintingLemmas.{printing_ends}
use Rattle.docker_program.specs.SourceNames.{stored_by}
use Rattle.docker_program.specs.Writing.{EndsWriting, drafting, written}
use Rattle.docker_program.proofs.job_output.write_output.Goals as goal

pub returns-in-Some-clause-ends : goal.returns-in-Some-clause-ends
returns-in-Some-clause-ends g c = λ look is.
    let same : g.D.Folder.look_of c.in-Some.looked.seen ≡ look = subst (λ looked. IfSome looked (λ it. g.D.Folder.look_of it.seen ≡ look)) c.in-Some.is is in
    subst (λ (n : ℕ). EndsWriting (drafting n g.D.Folder.names_bytes) (written (g.K.Sink.taken c.args.output.now) (g.K.Sink.taken c.args.output.now)
    (g.D.Folder.history c.args.folder.now) (g.D.Folder.history c.write_file.new.folder)) c.args.prepared.now c.write_file.result)
    same (c.write_file.ensures.ends (g.K.Sink.taken c.args.output.now))

pub returns-in-None-clause-ends : goal.returns-in-None-clause-ends
returns-in-None-clause-ends g c = λ look is.
    printing_ends g.K.Sink.taken g.K.Sink.failures (drafting look g.D.Folder.names_bytes) (g.D.Folder.history c.args.folder.now) c.args.prepared.now
    c.args.output.now c.emit.new.sink c.emit.result
    (let names = c.requires.name in subst (λ looked. option_map (λ it. it.name.now) looked ≡ stored_by c.args.prepared.now.job) c.in-None.is names)
    c.emit.ensures.ends
