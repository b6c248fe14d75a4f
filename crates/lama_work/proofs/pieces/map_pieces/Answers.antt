use Rattle.std.proofs.Common.{◌≡◌, Ok, map}
use Rattle.std.proofs.lemmas.Result.{IfOk-weaker}
use Rattle.lama_work.specs.Pieces.{GivesPieces}
use Rattle.lama_work.proofs.OfPieces.{of_ok}
use Rattle.lama_work.proofs.pieces.map_pieces.Goals as goal

pub returns-clause-each : goal.returns-clause-each
returns-clause-each g c =
    let rs = c.in_ok-answers.answers.items in
    IfOk-weaker c.all_ok.result (λ v. map Ok v.items ≡ rs) (λ v. GivesPieces g.F.Fn c.args.f.now c.args.n c.args.workers v.items)
    (λ v same. of_ok g.F.Fn c.args.f.now c.args.n c.args.workers v.items rs same c.in_ok-answers.ensures.len c.in_ok-answers.ensures.each)
    c.all_ok.ensures
