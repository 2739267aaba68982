use Rattle.cif_laws.proofs.Common.{◌≡◌, false, live_table}
use Rattle.docker_state.specs.Live.{live_rows}
use Rattle.train_choice.specs.Along.{AreGoodRows, AreLive}
use Rattle.docker_day.proofs.Written.{Leads}
use Rattle.docker_train.specs.TrainRows.{row_line}
use Rattle.docker_train.proofs.trains.write_trains.Given as goal

-- the sink has gained the lines of the rows before the remaining rows
abbrev pub invariant-loop-key : goal.invariant-loop-key
invariant-loop-key g l = record {
  same : l.listing ≡ record { timetable = record { state = l.state; permanent = false }; identity = l.identity; day = l.fn.day };
  good : AreGoodRows l.key-iterator;
  live : AreLive (live_table l.state) l.key-iterator;
  leads : Leads (row_line (live_rows l.state.entries) l.identity l.fn.day) (live_rows l.state.entries) l.key-iterator (g.K.Sink.taken l.fn.sink)
      (g.K.Sink.taken l.sink);
  no_failure : g.K.Sink.failures l.sink ≡ g.K.Sink.failures l.fn.sink;
}
