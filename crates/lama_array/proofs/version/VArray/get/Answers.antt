use Rattle.std.proofs.Common.{◌≡◌, ◌<◌, ap, arith, get_or, length, subst}
use Rattle.lama_array.proofs.Paged.{length-kept, read-in}
use Rattle.lama_array.proofs.version.VArray.get.Goals as goal

pub returns : goal.returns
returns g c =
    let within : c.args.i < c.self.inside.len = omega (arith, c.requires, length-kept _ _ c.self.invariant, ap length c.self.view_is) in
    subst (λ items. c.get.result ≡ get_or items c.args.i c.get.result) c.self.view_is
    (read-in c.self.inside.table c.self.inside.len c.args.i c.self.invariant within c.page.result.now c.get.result c.page.ensures c.get.ensures.record_at)
