use Rattle.std.proofs.Common.{◌≡◌, ◌-◌, ◌<◌, ltb, length, get_or, arith, true}
use Rattle.std.proofs.lemmas.Bool.Decides.{nat_tests}
use Rattle.std.proofs.lemmas.List.{get_or_default}
use Rattle.lama_snapshot.proofs.Limits.{all-set-below}
use Rattle.lama_snapshot.proofs.snapshot.all_set_below.Goals as goal

pub returns : goal.returns
returns c =
    let ks = c.args.set.now in
    let none = c.if-is_empty.ensures in
    let some : 0 < length ks = grind (arith, nat_tests, none) in
    let last = get_or ks (length ks - 1) (0, 0) in
    let both = all-set-below ks c.args.len last c.requires some (get_or_default ks (length ks - 1) (0, 0) last (omega (arith, some))) in
    (λ t. both.0 (let lt : last.0 < c.args.len = grind (arith, nat_tests, t) in lt), λ all. let lt = both.1 all in let t : ltb last.0 c.args.len ≡ true = grind (arith, nat_tests, lt) in t)
