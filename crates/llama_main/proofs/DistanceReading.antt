-- What is printed of distances, where the snapshot has the rows of a graph.
use Rattle.std.proofs.Common.{◌≡◌, ◌∙◌, ℕ, ◌<◌, ◌≤◌, List, Bool, true, false, cond, sym, ap, arith}
use Rattle.std.specs.Prelude.{nat_lt}
use Rattle.std.proofs.lemmas.Bool.Decides.{nat_tests}
use Rattle.lama_model.specs.Graph.{Graph, IsGraph}
use Rattle.lama_model.specs.Row.{AreRowsOf, graph_of_rows}
use Rattle.lama_model.specs.Distances.{distances}
use Rattle.lama_model.specs.Lines.{refusal_line, distances_text}
use Rattle.lama_model.specs.Text.{read_lines}
use Rattle.lama_model.specs.declared.commands.Read.TheVariants.{Dist}
use Rattle.lama_model.specs.declared.answers.Refusal.TheVariants.{UnknownVertex}
use Rattle.lama_model.proofs.RowsOfGraph.{row-of-rows}
use Rattle.lama_model.proofs.GraphSteps.{row-everywhere}
use Rattle.lama_model.proofs.DistanceLaw.{distances_same}

-- from a vertex that is there
pub distances-read : (gs : ℕ → Graph) (f : ℕ) (rows : List (List (ℕ × ℕ))) (k s : ℕ) (sum : Bool) → AreRowsOf rows (gs k) → IsGraph (gs k) → s < (gs k).count → distances_text k s (distances (graph_of_rows rows) s) sum ≡ read_lines gs f k (Dist s sum)
unfolding read_lines
distances-read gs f rows k s sum of is below =
    let test : nat_lt s (gs k).count ≡ true = grind (arith, nat_tests) in
    ap (λ reach. distances_text k s reach sum) (distances_same (graph_of_rows rows) (gs k) s (record { count = of.count; rows = λ v. row-of-rows rows v ∙ row-everywhere rows (gs k) v of is }))
    ∙ sym (ap (λ (b : Bool). cond b (distances_text k s (distances (gs k) s) sum) (refusal_line (UnknownVertex s (gs k).count))) test)

-- and from one that isn't
pub distances-refused : (gs : ℕ → Graph) (f count k s : ℕ) (sum : Bool) → count ≡ (gs k).count → count ≤ s → refusal_line (UnknownVertex s count) ≡ read_lines gs f k (Dist s sum)
unfolding read_lines
distances-refused gs f count k s sum same_count past =
    let test : nat_lt s (gs k).count ≡ false = grind (arith, nat_tests) in
    ap (λ (n : ℕ). refusal_line (UnknownVertex s n)) same_count ∙ sym (ap (λ (b : Bool). cond b (distances_text k s (distances (gs k) s) sum) (refusal_line (UnknownVertex s (gs k).count))) test)
