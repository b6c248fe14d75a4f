use Rattle.std.proofs.Common.{take, arith, sym, subst, List, ℕ, Option, length-drop}
use Rattle.llama_main.specs.Streams.{Appends}
use Rattle.llama_main.proofs.Bytes.{Appends-takes, IsFront-take}
use Rattle.llama_main.proofs.writing.write_all.Goals as goal

pub loop-written-preserved : goal.loop-written-preserved
loop-written-preserved g c = record {
  within = omega (arith, c.in-Ok.ensures.count, length-drop c.loop-written.written c.args.bytes.now);
  appended = Appends-takes _ _ _ c.args.bytes.now c.loop-written.written c.in-Ok.taken c.loop-written.invariant.appended c.in-Ok.ensures.taken;
  steady = omega (arith, c.in-Ok.ensures.steady, c.loop-written.invariant.steady);
  bounded = λ _. c.in-Ok.ensures.bounded;
}

pub returns-in-Err-clause-err : goal.returns-in-Err-clause-err
returns-in-Err-clause-err g c =
    let taken = take c.loop-written.written c.args.bytes.now in (
      taken,
      subst (λ (w : Option (List ℕ)). Appends (g.K.Sink.written c.args.sink.now) w taken) (sym c.in-Err.ensures.kept) c.loop-written.invariant.appended,
      IsFront-take c.loop-written.written c.args.bytes.now,
    )
