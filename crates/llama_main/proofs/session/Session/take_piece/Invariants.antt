use Rattle.std.proofs.Common.{◌≡◌, ◌<◌, ◌≤◌, ◌^◌, ◌++◌, List, ℕ, length}
use Rattle.llama_main.specs.Session.{IsReady, room, Wrote}
use Rattle.llama_main.proofs.session.Session.take_piece.Given as goal

abbrev pub invariant-lines : goal.invariant-lines
invariant-lines g l = record {
  ready : IsReady l.self;
  within : length l.rest ≤ length l.piece;
  no_more_room : room l.self ≤ room l.fn.self;
  less_room : length l.rest < length l.piece → room l.self < room l.fn.self;
  front : (front : List ℕ) × (l.piece ≡ front ++ l.rest) × Wrote (g.K.Sink.written l.fn.sink) (g.K.Sink.written l.sink) l.fn.self l.self front;
  steady : g.K.Sink.faults l.fn.sink ≤ g.K.Sink.faults l.sink;
  bounded : g.K.Sink.faults l.fn.sink < 2 ^ 64 → g.K.Sink.faults l.sink < 2 ^ 64;
}

abbrev pub decreases-lines : goal.decreases-lines
decreases-lines g l = length l.rest
