-- The graphs of a journal are graphs within the limits.
use Rattle.std.proofs.Common.{◌≡◌, ℕ, zero, suc, ◌-◌, ◌<◌, ◌≤◌, List, [], get_or, take, Bool, true, false, cond, leb, refl, sym, subst, arith}
use Rattle.std.specs.Prelude.{All}
use Rattle.std.proofs.lemmas.Bool.Decides.{nat_tests}
use Rattle.std.proofs.lemmas.List.Elements.{All-nil, All-push, All-get_or}
use Rattle.lama_model.specs.Graph.{no_graph}
use Rattle.lama_model.specs.Opening.{IsOpening, empty_opening, opening_graph, with_changes, last_number}
use Rattle.lama_model.specs.Journal.{Standing, newest_of, graph_of, standing, reply_at, is_accepted, done, after}
use Rattle.lama_model.specs.declared.calls.Call.{Call}
use Rattle.lama_model.specs.declared.calls.Call.TheVariants.{Write as Writes, Checkpoint, Look, LookAt, Install, Retire}
use Rattle.lama_model.specs.declared.calls.Entry.{Entry}
use Rattle.lama_model.proofs.StandingLemmas.{standing-keeps, standing-step, IsStanding, is_standing}
use Rattle.llama_main.specs.Store.{IsWithinLimits}

-- what a journal leaves, and that its graphs are such
record IsSound (s : Standing) : Type 0 where
  is : IsStanding empty_opening s
  made : All IsWithinLimits s.made

sound-step : (s : Standing) (call : Call) → IsSound s → IsSound (after empty_opening s call)
unfolding after
sound-step s call h = record { is = standing-step empty_opening s call h.is; made = by (is_accepted (reply_at empty_opening s call)) call }
  where
    by : (b : Bool) (call : Call) → All IsWithinLimits (cond b (done call s) s).made
    by false call = h.made
    by true (Writes w) = h.made
    by true Checkpoint = All-push IsWithinLimits s.made s.graph h.made (record { is = h.is.is_graph; vertices = h.is.few_vertices; edges = let a = h.is.few_edges in let b = h.is.few_added in omega (arith, a, b) })
    by true Look = h.made
    by true (LookAt k) = h.made
    by true (Install k) = h.made
    by true (Retire k) = h.made

sound : IsOpening empty_opening → (journal : List Entry) → IsSound (standing empty_opening journal)
unfolding standing
sound is journal = standing-keeps empty_opening IsSound (record { is = is_standing empty_opening is []; made = All-nil IsWithinLimits }) sound-step journal

no-change : (n : ℕ) → with_changes no_graph (take n []) ≡ no_graph
no-change zero = refl
no-change (suc n) = refl

none-within : IsWithinLimits no_graph
none-within = record { is = All-nil _; vertices = omega arith; edges = omega arith }

pub graph-within : IsOpening empty_opening → (journal : List Entry) (k : ℕ) → k ≤ newest_of empty_opening (standing empty_opening journal) → IsWithinLimits (graph_of empty_opening (standing empty_opening journal) k)
graph-within is journal k le = by (leb k (last_number empty_opening)) refl
  where
    s : Standing
    s = standing empty_opening journal

    by : (b : Bool) → leb k (last_number empty_opening) ≡ b → IsWithinLimits (cond b (opening_graph empty_opening k) (get_or s.made (k - last_number empty_opening - 1) no_graph))
    by true t = subst IsWithinLimits (sym (no-change (k - 0))) none-within
    by false t = let above : last_number empty_opening < k = grind (arith, nat_tests, t) in All-get_or IsWithinLimits s.made (k - last_number empty_opening - 1) no_graph (omega (arith, above, le)) (sound is journal).made
