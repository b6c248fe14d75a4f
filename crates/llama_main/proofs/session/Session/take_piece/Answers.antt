use Rattle.std.proofs.Common.{◌≡◌, ◌≤◌, ◌<◌, ◌++◌, ◌∷◌, [], ap, length, arith}
use Rattle.std.proofs.lemmas.List.{length-append}
use Rattle.std.proofs.lemmas.Result.{IfErr-at_err, IfErr-weaker, IfOk-at_ok}
use Rattle.llama_main.specs.Session.{room}
use Rattle.llama_main.proofs.Sessions.{Wrote-line, piece-line, stop-in-line, stop-in-rest, stop-in-writing}
use Rattle.llama_main.proofs.session.Session.take_piece.Goals as goal

pub returns-in-Err-clause-err : goal.returns-in-Err-clause-err
returns-in-Err-clause-err g c =
    let f = c.lines.invariant.front in
    stop-in-line _ _ c.args.self.now c.lines.self c.args.piece.now f.0 c.lines.rest.now c.in-Some.line.now c.in-Some.after.now _ _ c.in-Err.stop f.1 c.in-Some.ensures.1 f.2 (IfErr-at_err _ c.in-Err.is c.take_part.ensures.err)

pub lines-preserved : goal.lines-preserved
lines-preserved g c =
    let f = c.lines.invariant.front in
    let cut : c.lines.rest.now ≡ c.in-Some.line.now ++ 10 ∷ c.in-Some.after.now = c.in-Some.ensures.1 in
    let longer : length c.in-Some.after.now < length c.lines.rest.now = omega (arith, ap length cut, length-append c.in-Some.line.now (10 ∷ c.in-Some.after.now)) in
    let less : room c.take_part.new.self < room c.lines.self = IfOk-at_ok _ c.in-Ok.is c.take_part.ensures.room in
    let same : room c.write_gathered.new.self ≡ room c.take_part.new.self = c.write_gathered.ensures.room in
    let before : room c.lines.self ≤ room c.args.self.now = c.lines.invariant.no_more_room in
    record {
      ready = c.write_gathered.ensures.ready;
      within = omega (arith, longer, c.lines.invariant.within);
      no_more_room = omega (arith, less, same, before);
      less_room = λ _. omega (arith, less, same, before);
      front = (
        f.0 ++ (c.in-Some.line.now ++ 10 ∷ []),
        piece-line c.args.piece.now f.0 c.lines.rest.now c.in-Some.line.now c.in-Some.after.now f.1 cut,
        Wrote-line _ _ _ c.args.self.now c.lines.self c.take_part.new.self c.write_gathered.new.self f.0 c.in-Some.line.now f.2 (IfOk-at_ok _ c.in-Ok.is c.take_part.ensures.ok) (IfOk-at_ok _ c.in-Ok-write_gathered.is c.write_gathered.ensures.ok),
      );
      steady = omega (arith, c.write_gathered.ensures.steady, c.lines.invariant.steady);
      bounded = λ below. c.write_gathered.ensures.bounded (c.lines.invariant.bounded below);
    }

pub returns-in-Err-write_gathered-clause-err : goal.returns-in-Err-write_gathered-clause-err
returns-in-Err-write_gathered-clause-err g c =
    let f = c.lines.invariant.front in
    stop-in-writing _ _ _ c.args.self.now c.lines.self c.take_part.new.self c.args.piece.now f.0 c.lines.rest.now c.in-Some.line.now c.in-Some.after.now _ _ c.in-Err-write_gathered.stop f.1 c.in-Some.ensures.1 f.2 (IfOk-at_ok _ c.in-Ok.is c.take_part.ensures.ok) (IfErr-at_err _ c.in-Err-write_gathered.is c.write_gathered.ensures.err)

pub returns-clause-err : goal.returns-clause-err
returns-clause-err g c =
    let f = c.lines.invariant.front in
    IfErr-weaker c.hold.result _ _ (λ stop stops. stop-in-rest _ _ c.args.self.now c.lines.self c.args.piece.now f.0 c.lines.rest.now c.hold.new.self.interpreter.out.items c.hold.new.self.interpreter.store.journal stop f.1 f.2 stops) c.hold.ensures.err
