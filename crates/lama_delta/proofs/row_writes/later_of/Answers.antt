use Rattle.std.proofs.Common.{rules, ◌≡◌, ◌∙◌, ◌+◌, ◌-◌, ℕ, ◌∷◌, ◌++◌, cond, eqb, length, get_or, drop, ap, sym, arith, Option, None}
use Rattle.std.proofs.lemmas.List.{drop_more}
use Rattle.std.specs.Ordering.{nat_cmp}
use Rattle.std.specs.BTreeMap.{get}
use Rattle.lama_delta.specs.declared.row_writes.Fate.{Fate}
use Rattle.lama_delta.specs.RowWrites.{fate_before, fate_of, new_pair, left_of}
use Rattle.lama_delta.proofs.Groups.{no_write}
use Rattle.lama_delta.proofs.RowLemmas.{drop-past}
use Rattle.lama_delta.proofs.Sieves.{no-fates}
use Rattle.lama_delta.proofs.row_writes.later_of.Goals as goal

pub loop-i-init : goal.loop-i-init
loop-i-init c =
    let ws = c.args.writes.now in
    let none = drop-past (length ws - 0) ws (omega arith) in
    let empty : (v : ℕ) → get nat_cmp c.new.result v ≡ None = λ v. search rules in
    record { fates = λ v. empty v ∙ sym (ap (λ xs. fate_of xs v) none); sieve = no-fates c.new-2.result.items (get nat_cmp c.new.result) empty; added = c.in_ok-with_capacity.ensures.items ∙ sym (ap left_of none) }

pub loop-i-preserved : goal.loop-i-preserved
loop-i-preserved c =
    let ws = c.args.writes.now in
    let i = c.loop-i.i in
    let lt = c.loop-i-test.true in
    let n = length ws - (i + 1) in
    let rest = drop (length ws - i) ws in
    let item = get_or ws (length ws - 1 - i) no_write in
    let same : n ≡ length ws - 1 - i = omega (arith, lt) in
    let step : drop n ws ≡ item ∷ rest = drop_more ws n no_write (omega (arith, lt)) ∙ (ap (λ k. get_or ws k no_write ∷ drop (n + 1) ws) same ∙ ap (λ k. item ∷ drop k ws) (let e : n + 1 ≡ length ws - i = omega (arith, lt) in e)) in
    let inv = c.loop-i.invariant in
    record {
      fates = λ v. c.in_ok-put_before.ensures.fates v ∙ (ap (λ (f : Option Fate). cond (eqb item.target v) (fate_before item.act f) f) (inv.fates v) ∙ sym (ap (λ xs. fate_of xs v) step));
      sieve = c.in_ok-put_before.ensures.sieve;
      added = c.in_ok-put_before.ensures.added
          ∙ (ap (λ xs. xs ++ new_pair item.act item.target (get nat_cmp c.loop-i.later.fates item.target)) inv.added
          ∙ (ap (λ (f : Option Fate). left_of rest ++ new_pair item.act item.target f) (inv.fates item.target) ∙ sym (ap left_of step)));
    }

pub returns : goal.returns
returns c =
    let ws = c.args.writes.now in
    let t = c.loop-i-test.false in
    let all : drop (length ws - c.loop-i.i) ws ≡ ws = ap (λ k. drop k ws) (let e : length ws - c.loop-i.i ≡ 0 = omega (arith, t) in e) in
    record { fates = λ v. c.loop-i.invariant.fates v ∙ ap (λ xs. fate_of xs v) all; sieve = c.loop-i.invariant.sieve; added = c.loop-i.invariant.added ∙ ap left_of all }
