use Rattle.std.proofs.Common.{arith}
use Rattle.std.proofs.lemmas.Result.{IfErr-at_err, IfOk-at_ok}
use Rattle.llama_main.proofs.Bytes.{Gave-none, Gave-gives}
use Rattle.llama_main.proofs.Runs.{Reached-written, Reached-piece, HasRead-stopped, HasRead-unread, HasRead-last}
use Rattle.llama_main.proofs.run.read_pieces.Goals as goal

pub returns-in-Err-clause-has_read : goal.returns-in-Err-clause-has_read
returns-in-Err-clause-has_read g c =
    HasRead-stopped _ _ _ _ _ _ c.args.session.now c.pieces.session _ _ _ c.in-Err.stop c.pieces.invariant.reached (Gave-none (g.S.Source.left c.pieces.source)) (IfErr-at_err _ c.in-Err.is c.write_all.ensures.err)

pub returns-in-Err-read-clause-has_read : goal.returns-in-Err-read-clause-has_read
returns-in-Err-read-clause-has_read g c =
    let reached = Reached-written _ _ _ _ _ c.args.session.now c.pieces.session c.write_all.new.self c.pieces.invariant.reached (IfOk-at_ok _ c.in-Ok.is c.write_all.ensures.ok) in
    HasRead-unread _ _ _ _ _ c.args.session.now c.write_all.new.self c.write_all.new.self.interpreter.store.journal reached c.in-Err-read.ensures.kept

pub returns-then-n-eq0-clause-has_read : goal.returns-then-n-eq0-clause-has_read
returns-then-n-eq0-clause-has_read g c =
    let reached = Reached-written _ _ _ _ _ c.args.session.now c.pieces.session c.write_all.new.self c.pieces.invariant.reached (IfOk-at_ok _ c.in-Ok.is c.write_all.ensures.ok) in
    HasRead-last _ _ _ _ _ c.args.session.now c.write_all.new.self c.take_last.new.self c.in-Ok-read.n c.read.new.buf c.take_last.result reached c.in-Ok-read.ensures.given (omega arith) c.if-n-eq0.true c.take_last.ensures.ok c.take_last.ensures.none c.take_last.ensures.err

pub pieces-preserved : goal.pieces-preserved
pieces-preserved g c =
    let reached = Reached-written _ _ _ _ _ c.args.session.now c.pieces.session c.write_all.new.self c.pieces.invariant.reached (IfOk-at_ok _ c.in-Ok.is c.write_all.ensures.ok) in
    let seen = c.pieces.invariant in
    record {
      reached = Reached-piece _ _ _ _ _ _ c.args.session.now c.write_all.new.self c.take_piece.new.self c.in-Ok-read.n c.read.new.buf reached c.in-Ok-read.ensures.given (IfOk-at_ok _ c.in-Ok-take_piece.is c.take_piece.ensures.ok);
      ready = IfOk-at_ok _ c.in-Ok-take_piece.is c.take_piece.ensures.ready;
      read_steady = omega (arith, c.read.ensures.steady, seen.read_steady);
      write_steady = omega (arith, c.write_all.ensures.steady, c.take_piece.ensures.steady, seen.write_steady);
      read_bounded = λ _. c.read.ensures.bounded;
      write_bounded = λ below. c.take_piece.ensures.bounded (c.write_all.ensures.bounded (seen.write_bounded below));
    }

pub returns-in-Err-take_piece-clause-has_read : goal.returns-in-Err-take_piece-clause-has_read
returns-in-Err-take_piece-clause-has_read g c =
    let reached = Reached-written _ _ _ _ _ c.args.session.now c.pieces.session c.write_all.new.self c.pieces.invariant.reached (IfOk-at_ok _ c.in-Ok.is c.write_all.ensures.ok) in
    HasRead-stopped _ _ _ _ _ _ c.args.session.now c.write_all.new.self _ _ _ c.in-Err-take_piece.stop reached (Gave-gives (g.S.Source.left c.pieces.source) (g.S.Source.left c.read.new.self) c.in-Ok-read.n c.read.new.buf c.in-Ok-read.ensures.given) (IfErr-at_err _ c.in-Err-take_piece.is c.take_piece.ensures.err)
