use Rattle.std.proofs.Common.{◌∙◌, ◌++◌, ◌<◌, ◌⊎◌, ap, arith, inl, inr, map}
use Rattle.std.proofs.lemmas.Result.{on_ok_weaker}
use Rattle.lama_model.specs.Opening.{empty_opening}
use Rattle.lama_model.specs.Journal.{graph_of, floor_of}
use Rattle.lama_model.specs.Lines.{refusal_line, as_of_line}
use Rattle.lama_model.specs.declared.answers.Refusal.TheVariants.{NoSnapshot}
use Rattle.llama_main.proofs.Reading.{as_of-untold, as_of-read, as_of-refused}
use Rattle.llama_main.proofs.interpreter.Interpreter.read_as_of.Goals as goal

pub returns-then-j-floor-clause-printed : goal.returns-then-j-floor-clause-printed
returns-then-j-floor-clause-printed g c =
    let s = c.args.self.now.store.standing in
    let x = c.args.snapshot.now in
    let n = c.number-number.ensures.is in
    let f = c.floor-floor.ensures ∙ c.requires.floor in
    let out : (c.args.j < floor_of empty_opening s x.number) ⊎ (x.number < c.args.j) = elim c.then-j-floor.either [ inl low ↦ inl (omega (arith, low, f)) | inr high ↦ (let h = high.1 in inr (omega (arith, h, n))) ] in
    let same = (λ i. refusal_line (NoSnapshot c.args.j (f i) (n i))) ∙ as_of-untold (graph_of empty_opening s) (floor_of empty_opening s x.number) x.number c.args.j c.args.v out in
    on_ok_weaker c.refuse.result (λ h. h ∙ ap (λ xs. c.args.self.now.out.items ++ xs) same) c.refuse.ensures.printed

pub returns-then-v-count-clause-printed : goal.returns-then-v-count-clause-printed
returns-then-v-count-clause-printed g c =
    let s = c.args.self.now.store.standing in
    let x = c.args.snapshot.now in
    let n = c.number-number.ensures.is in
    let f = c.floor-floor.ensures ∙ c.requires.floor in
    let low = c.if-j-floor.false in
    let high = c.if-number-j.false in
    let past = c.if-v-count.true in
    let same = as_of-refused (graph_of empty_opening s) (floor_of empty_opening s x.number) c.count-count.result x.number c.args.j c.args.v (omega (arith, low, f)) (omega (arith, high, n)) (c.count-count.ensures.count ∙ c.requires.rows.rows.count) past in
    on_ok_weaker c.refuse_vertex.result (λ h. h ∙ ap (λ xs. c.args.self.now.out.items ++ xs) same) c.refuse_vertex.ensures.printed

pub returns-clause-printed : goal.returns-clause-printed
returns-clause-printed g c =
    let s = c.args.self.now.store.standing in
    let x = c.args.snapshot.now in
    let n = c.number-number.ensures.is in
    let f = c.floor-floor.ensures ∙ c.requires.floor in
    let root = c.floor-floor.ensures in
    let low = c.if-j-floor.false in
    let high = c.if-number-j.false in
    let lt = c.if-v-count.false in
    let count = c.count-count.ensures.count in
    let many = c.requires.rows.rows.count in
    let targets = c.deref.ensures.value ∙ (c.in_ok-targets.ensures ∙ ap (map (λ p. p.0)) (c.requires.before c.args.j c.args.v (omega (arith, low, root)) (omega (arith, high, n)))) in
    let same = ap (λ k. as_of_line k c.args.j c.args.v c.deref.result.now) n
    ∙ as_of-read (graph_of empty_opening s) (floor_of empty_opening s x.number) x.number c.args.j c.args.v c.deref.result.now (omega (arith, low, f)) (omega (arith, high, n)) (omega (arith, lt, count, many)) targets in
    on_ok_weaker c.print_asof.result (λ h. h ∙ ap (λ xs. c.args.self.now.out.items ++ xs) same) c.print_asof.ensures.ok
