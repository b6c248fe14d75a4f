-- A snapshot that a book may begin with.
use Rattle.std.proofs.Common.{◌≡◌, ◌∙◌, ℕ, zero, suc, ◌+◌, ◌-◌, ◌<◌, ◌≤◌, List, [], ◌∷◌, length, take, get_or, refl, sym, ap, subst, arith, true, cond, leb}
use Rattle.std.specs.Prelude.{All}
use Rattle.std.proofs.lemmas.Bool.Decides.{nat_tests}
use Rattle.std.proofs.lemmas.List.Elements.{All-nil, All-weaker}
use Rattle.lama_base.specs.declared.Edge.{Edge}
use Rattle.lama_model.specs.Graph.{Graph, IsGraph, IsNamedBelow, no_graph}
use Rattle.lama_model.specs.Row.{AreRowsOf, edges_in}
use Rattle.lama_model.specs.Change.{IsChange}
use Rattle.lama_model.specs.Opening.{Opening, last_number, opening_graph, opening_of, with_changes}
use Rattle.lama_model.specs.Journal.{Standing, begun, graph_of, standing}
use Rattle.lama_model.specs.declared.calls.Entry.{Entry}
use Rattle.lama_model.specs.declared.calls.Write.{Write}
use Rattle.lama_model.proofs.Counting.{edges-counted}
use Rattle.lama_snapshot.specs.BaseRows.{Numbered}
use Rattle.lama_snapshot.specs.Snap.{Snap, no_snap}
use Rattle.lama_snapshot.specs.Snap as snap
use Rattle.lama_merge.proofs.Runs.{single}
use Rattle.lama_book.specs.Book.{Book, IsWhole}
use Rattle.lama_book.specs.Relation.{IsSnapshotOf, Agrees, Opens}

-- the sources of a graph are below its count
pub sources-below : (g : Graph) → IsGraph g → All (λ e. e.source < g.count) g.edges
sources-below g is = All-weaker (λ (e : Edge). (e.source < g.count) × (e.target < g.count)) (λ (e : Edge). e.source < g.count) (λ e h. h.0) g.edges is

take-nothing : (n : ℕ) (g : Graph) → with_changes g (take n []) ≡ g
take-nothing zero g = refl
take-nothing (suc n) g = refl

graph-opening : (number k : ℕ) (g : Graph) → k ≤ number → graph_of (opening_of number g) (begun (opening_of number g)) k ≡ g
graph-opening number k g le =
    let t : leb k (last_number (opening_of number g)) ≡ true = grind (arith, nat_tests) in
    ap (λ b. cond b (opening_graph (opening_of number g) k) no_graph) t ∙ take-nothing (k - number) g

pub opens : (number : ℕ) (rows : List (List (ℕ × ℕ))) (x : Snap) → x.number ≡ number → x.base ≡ (let b : Numbered = record { number = number; rows = rows } in b) → x.rows ≡ rows → x.changes ≡ [] →
    number ≤ 100000000 → length rows ≤ 4194304 → edges_in rows ≤ 33554432 → (g : Graph) → IsGraph g → AreRowsOf rows g → Opens (opening_of number g) x
opens number rows x n b rs none few vertices edges g is of =
    let counted = edges-counted rows g of (sources-below g is) in
    let count = of.count in
    let o : Opening = opening_of number g in
    let last : opening_graph o (last_number o) ≡ g = take-nothing (last_number o - number) g in
    let here : g ≡ graph_of o (begun o) (last_number o) = sym (graph-opening number (last_number o) g (omega arith)) in
    let there : g ≡ graph_of o (begun o) number = sym (graph-opening number number g (omega arith)) in
    let c = ap (λ (h : Graph). h.count) last in
    let e = ap (λ (h : Graph). length h.edges) last in
    let size = ap length none in
    record {
      is = record {
        from_floor = omega arith;
        to_newest = omega arith;
        number = omega (arith, few);
        vertices = omega (arith, c, count, vertices);
        edges = omega (arith, e, counted, edges);
        valid = All-nil IsChange;
        fits = λ k low high. absurd (omega (arith, low, high));
        graphs = λ k. subst IsGraph (sym (take-nothing (k - number) g)) is;
      };
      one = omega arith;
      snapshot = record {
        number = omega (arith, n);
        rows = subst (AreRowsOf x.rows) here (subst (λ r. AreRowsOf r g) (sym rs) of);
        floor = ap (λ (m : Numbered). m.number) b;
        base = subst (AreRowsOf x.base.rows) there (subst (λ (m : Numbered). AreRowsOf m.rows g) (sym b) of);
        len = omega (arith, size);
        changes = λ j low high. absurd (omega (arith, low, high));
      };
    }

standing-none : (o : Opening) → standing o [] ≡ begun o
unfolding standing
standing-none o = refl

graph-last : (o : Opening) → graph_of o (begun o) (last_number o) ≡ opening_graph o (last_number o)
graph-last o =
    let t : leb (last_number o) (last_number o) ≡ true = grind (arith, nat_tests) in
    ap (λ b. cond b (opening_graph o (last_number o)) no_graph) t

begins : (o : Opening) (x : Snap) (count added oldest : ℕ) → Opens o x → count ≡ length x.rows → added ≡ edges_in x.rows → oldest ≡ x.number → Agrees o (begun o) (x ∷ []) [] count added oldest
begins o x count added oldest h c a n =
    let of : AreRowsOf x.rows (opening_graph o (last_number o)) = subst (AreRowsOf x.rows) (graph-last o) h.snapshot.rows in
    let g = h.is.graphs (last_number o) in
    let counted = edges-counted x.rows (opening_graph o (last_number o)) of (sources-below (opening_graph o (last_number o)) g) in
    let k = of.count in
    let number = h.snapshot.number in
    let one = h.one in
    record {
      is = h.is;
      pending_is = refl;
      count_is = c ∙ k;
      added_is = a ∙ counted;
      oldest_is = n ∙ (number ∙ sym one);
      numbers = omega (arith, n, number);
      each = λ k low high. (let last : last_number o ≡ k = omega (arith, low, high, one) in let place : 0 ≡ k - o.oldest = omega (arith, low, high, one) in
          subst (λ i. IsSnapshotOf o (begun o) k (get_or (x ∷ []) i no_snap)) place (subst (λ i. IsSnapshotOf o (begun o) i x) last h.snapshot));
    }

-- before any call
pub new-book : (o : Opening) (x : Snap) (journal : List Entry) (kept : List Snap) (pending : List Write) (count added oldest : ℕ) → Opens o x → journal ≡ [] → kept ≡ x ∷ [] → pending ≡ [] → count ≡ length x.rows → added ≡ edges_in x.rows → oldest ≡ x.number → Agrees o (standing o journal) kept pending count added oldest
new-book o x journal kept pending count added oldest h none one nothing c a n =
    let start : begun o ≡ standing o journal = sym (ap (standing o) none ∙ standing-none o) in
    let P : Standing × List Snap × List Write → Type 0 = λ p. Agrees o p.0 p.1 p.2 count added oldest in
    subst P (λ j. (start j, sym one j, sym nothing j)) (begins o x count added oldest h c a n)

-- and the book is whole
pub new-whole : (x : Snap) (spare : ℕ) (journal : List Entry) (kept : List Snap) (pending : List Write) (count added oldest : ℕ) → journal ≡ [] → kept ≡ x ∷ [] → pending ≡ [] → count ≡ length x.rows → added ≡ edges_in x.rows → oldest ≡ x.number →
    length x.changes + snap.floor_of x ≡ x.number → x.number ≤ 100000000 → length x.rows ≤ 4194304 → edges_in x.rows ≤ 33554432 → (let n : Book = record { journal = journal; kept = kept; pending = pending; spare = spare; count = count; added = added; oldest = oldest } in IsWhole n)
new-whole x spare journal kept pending count added oldest none one nothing c a o size number vertices edges =
    let P : List Entry × List Snap × List Write × ℕ × ℕ × ℕ → Type 0 = λ p. (let n : Book = record { journal = p.0; kept = p.1; pending = p.2; spare = spare; count = p.3; added = p.4; oldest = p.5 } in IsWhole n) in
    subst P (λ j. (sym none j, sym one j, sym nothing j, sym c j, sym a j, sym o j)) (record {
      few_calls = omega arith;
      some_kept = omega arith;
      few_kept = omega arith;
      number = omega (arith, number);
      few_vertices = vertices;
      few_added = edges;
      named = All-nil (IsNamedBelow (length x.rows));
      last = omega arith;
      grows = omega arith;
      room = omega arith;
      run = single x size;
    })
