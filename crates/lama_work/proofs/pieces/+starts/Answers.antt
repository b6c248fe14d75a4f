use Rattle.std.proofs.Common.{rules, ◌+◌}
use Rattle.std.proofs.lemmas.Result.{IfOk-at_ok}
use Rattle.lama_work.specs.Pieces.{AreFrom}
use Rattle.lama_work.proofs.OfPieces.{from_next}
use Rattle.lama_work.proofs.pieces.+starts.Goals as goal

pub returns : goal.returns
returns g t c =
    from_next g.F.Fn c.args.f.now c.args.n c.args.workers c.args.from c.join-answer.result.0 c.in_ok-rest.rest.items c.append.new.self.items
    (search rules)
    c.join-answer.ensures.first
    (IfOk-at_ok (λ v. AreFrom g.F.Fn c.args.f.now c.args.n c.args.workers (c.args.from + 1) v.items) c.in_ok-rest.was c.join-answer.ensures.second)
