use Rattle.std.proofs.Common.{◌<◌, ◌≤◌, ◌^◌}
use Rattle.llama_main.specs.Session.{IsReady, room}
use Rattle.llama_main.specs.Run.{Reached}
use Rattle.llama_main.proofs.run.read_pieces.Given as goal

abbrev pub invariant-pieces : goal.invariant-pieces
invariant-pieces g l = record {
  reached : Reached (g.S.Source.left l.fn.source) (g.S.Source.left l.source) (g.K.Sink.written l.fn.sink) (g.K.Sink.written l.sink) l.fn.session l.session;
  ready : IsReady l.session;
  read_steady : g.S.Source.faults l.fn.source ≤ g.S.Source.faults l.source;
  write_steady : g.K.Sink.faults l.fn.sink ≤ g.K.Sink.faults l.sink;
  read_bounded : g.S.Source.faults l.fn.source < 2 ^ 64 → g.S.Source.faults l.source < 2 ^ 64;
  write_bounded : g.K.Sink.faults l.fn.sink < 2 ^ 64 → g.K.Sink.faults l.sink < 2 ^ 64;
}

abbrev pub decreases-pieces : goal.decreases-pieces
decreases-pieces g l = room l.session
