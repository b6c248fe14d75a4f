use Rattle.std.proofs.Common.{◌≡◌, ℕ, ◌+◌, List, [], ◌∷◌, ◌++◌, length, true, sym, ap, subst, arith}
use Rattle.std.proofs.lemmas.List.{length_push}
use Rattle.lama_model.specs.Journal.{is_accepted, edges_added}
use Rattle.lama_model.specs.Graph.{effect}
use Rattle.lama_model.specs.declared.calls.Call.TheVariants.{Write as Writes}
use Rattle.lama_book.specs.Book.{Book, answers, IsWhole}
use Rattle.lama_book.specs.Shown.{shown}
use Rattle.lama_book.proofs.Calls.{write-meets, write-whole}
use Rattle.lama_book.proofs.book.Book.accept.Goals as goal
use Rattle.lama_model.specs.declared.calls.Write.{Write}

pub overflow_add-self : goal.overflow_add-self
overflow_add-self c =
    let b : Book = shown c.self.inside in
    let m = write-meets b c.args.w c.self.invariant.few_vertices c.self.invariant.few_added (subst (λ x. is_accepted (answers x (Writes c.args.w)) ≡ true) (sym c.self.view_is) c.requires.accepted) in
    let most = m.vertices in
    let more = c.more_vertices.ensures c.self.inside.count in
    omega (arith, most, more)

pub invariant_of-self : goal.invariant_of-self
invariant_of-self c =
    let b : Book = shown c.self.inside in
    let t : Book = shown (record { alloc = c.self.inside.alloc; journal = c.push_reserved.new.self; delta = c.push.new.self; kept = c.self.inside.kept; count = c.self.inside.count + c.more_vertices.result; added = c.self.inside.added + c.more_edges.result; oldest = c.self.inside.oldest }) in
    let calls = c.requires.calls in
    let old = ap (λ (x : Book). length x.journal) c.self.view_is in
    let more = ap length c.push_reserved.ensures.items in
    let push = length_push c.self.inside.journal.items c.args.entry in
    let whole = write-whole b c.args.w t.journal t.spare c.self.invariant (subst (λ x. is_accepted (answers x (Writes c.args.w)) ≡ true) (sym c.self.view_is) c.requires.accepted) (omega (arith, calls, old, more, push)) in
    let one : b.pending ++ c.args.w ∷ [] ≡ t.pending = sym c.push.ensures.writes in
    let two : (effect c.args.w (record { count = b.count; edges = [] })).count ≡ t.count = c.more_vertices.ensures b.count in
    let three : b.added + edges_added c.args.w ≡ t.added = ap (λ k. b.added + k) (sym c.more_edges.ensures) in
    let P : List Write × ℕ × ℕ → Type 0 = λ p. (let n : Book = record t { pending = p.0; count = p.1; added = p.2 } in IsWhole n) in
    subst P (λ j. (one j, two j, three j)) whole
