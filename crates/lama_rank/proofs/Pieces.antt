-- The lists of edges, one for each piece of the vertices that they lead to, and what a round leaves of all pieces.
use Rattle.std.proofs.Common.{◌≡◌, ◌∙◌, ℕ, ◌+◌, ◌-◌, ◌<◌, ◌≤◌, List, [], ◌∷◌, length, get_or, map, Bool, refl, sym, ap, subst, arith}
use Rattle.std.specs.List.{flat_map, range_with_len}
use Rattle.std.proofs.lemmas.List.{get_or-map, map-append, ext_get_or}
use Rattle.std.proofs.lemmas.List.FromFn.{length-range_with_len, length-map-range_with_len, get_or-map-range_with_len}
use Rattle.lama_model.specs.Row.{AreTargetsBelow}
use Rattle.lama_model.specs.Ranks.{rank_of_sum}
use Rattle.lama_model.proofs.EdgePairs.{range-part}
use Rattle.lama_work.specs.Pieces.{piece_start}
use Rattle.lama_work.proofs.Cover.{starts-rise, starts-within, cover}
use Rattle.lama_rank.specs.Rounds.{handed, all_edges, edges_to, left_of, after_round, AreByTarget, AreInPiece}
use Rattle.lama_rank.proofs.Handing.{all-ends, in-piece, handed-part, after-same}

module _ (rows : List (List (ℕ × ℕ))) (below : AreTargetsBelow (length rows) rows) (lists : List (List (ℕ × ℕ))) (by : AreByTarget rows lists)
    (n workers : ℕ) (count : n ≡ length rows) (many : workers ≡ length lists) (some : 1 ≤ workers) where
  list-at : (i : ℕ) (d : List (ℕ × ℕ)) → i < workers → get_or lists i d ≡ edges_to (piece_start n workers i) (piece_start n workers (i + 1)) (all_edges rows)
  list-at i d lt = by i d (omega (arith, lt, many)) ∙ (λ j. edges_to (piece_start (sym count j) (sym many j) i) (piece_start (sym count j) (sym many j) (i + 1)) (all_edges rows))

  -- what the lists hand on
  pub lists-in-pieces : (shares : List ℕ) (m : ℕ) → m ≡ length rows → ((v : ℕ) → v < length rows → handed shares (all_edges rows) v ≤ 4194304000000)
      → (i : ℕ) (d : List (ℕ × ℕ)) → i < workers → AreInPiece m (piece_start n workers i) (piece_start n workers (i + 1)) shares (get_or lists i d)
  lists-in-pieces shares m same few i d lt =
      let within = starts-within n workers some (i + 1) (omega (arith, lt)) in
      subst (λ m. AreInPiece m (piece_start n workers i) (piece_start n workers (i + 1)) shares (get_or lists i d)) (sym same)
      (subst (AreInPiece (length rows) (piece_start n workers i) (piece_start n workers (i + 1)) shares) (sym (list-at i d lt))
      (in-piece (piece_start n workers i) (piece_start n workers (i + 1)) (length rows) shares (all_edges rows) (all-ends rows below) (omega (arith, within, count)) few))

  -- what a round leaves of all pieces, one after another
  pub whole-round : {T : Type 0} (items : T → List ℕ) (last : Bool) (degrees shares : List ℕ) (rs : List T) → length rs ≡ workers
      → ((i : ℕ) (d : List ℕ) (e : List (ℕ × ℕ)) → i < workers → get_or (map items rs) i d ≡ after_round last degrees shares (get_or lists i e) (range_with_len (piece_start n workers i) (piece_start n workers (i + 1) - piece_start n workers i)))
      → flat_map items rs ≡ after_round last degrees shares (all_edges rows) (range_with_len 0 (length rows))
  whole-round items last degrees shares rs size each =
      cover items (after_round last degrees shares (all_edges rows)) (λ us ws. map-append _ us ws) refl (range_with_len 0 (length rows)) n workers some
      (length-range_with_len 0 (length rows) ∙ sym count) rs size
      (λ i d lt.
      let a = piece_start n workers i in
      let b = piece_start n workers (i + 1) in
      let up : a ≤ b = starts-rise n workers some i (i + 1) (omega arith) in
      let within : b ≤ length rows = let w = starts-within n workers some (i + 1) (omega (arith, lt)) in omega (arith, w, count) in
      sym (get_or-map items rs i d [] (omega (arith, lt, size)))
      ∙ (each i [] [] lt
      ∙ (ap (λ es. after_round last degrees shares es (range_with_len a (b - a))) (list-at i [] lt)
      ∙ (after-same last degrees shares (edges_to a b (all_edges rows)) (all_edges rows) a (b - a) (λ v le below. handed-part a b shares (all_edges rows) v le (omega (arith, below, up)))
      ∙ ap (after_round last degrees shares (all_edges rows)) (sym (range-part a b (length rows) up within))))))

-- what a round leaves of one piece
pub piece-is : (last : Bool) (degrees shares : List ℕ) (edges : List (ℕ × ℕ)) (start k : ℕ) (sums after : List ℕ) → length after ≡ k
    → ((i : ℕ) → i < k → get_or sums i 0 ≡ handed shares edges (start + i))
    → ((i : ℕ) → i < k → get_or after i 0 ≡ left_of last (get_or degrees (start + i) 0) (rank_of_sum (get_or sums i 0)))
    → after ≡ after_round last degrees shares edges (range_with_len start k)
piece-is last degrees shares edges start k sums after size handed-to ends =
    ext_get_or 0 after (after_round last degrees shares edges (range_with_len start k)) (size ∙ sym (length-map-range_with_len (λ v. left_of last (get_or degrees v 0) (rank_of_sum (handed shares edges v))) start k))
    (λ i lt.
    let here : i < k = omega (arith, lt, size) in
    ends i here ∙ (ap (λ s. left_of last (get_or degrees (start + i) 0) (rank_of_sum s)) (handed-to i here)
    ∙ sym (get_or-map-range_with_len (λ v. left_of last (get_or degrees v 0) (rank_of_sum (handed shares edges v))) start k i (start + i) 0 here refl)))
