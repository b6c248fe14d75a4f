-- The slots that words and tails stand for.
use Rattle.std.proofs.Common.{◌≡◌, ℕ, ◌+◌, ◌<◌, ◌≤◌, ◌==◌, zero, suc, Bool, true, false, List, [], ◌∷◌, ◌++◌, Option, Some, None, length, get_or, refl, sym, ap, ◌∙◌, arith, subst}
use Rattle.std.specs.Prelude.{All, slice_get, if◌then◌else◌}
use Rattle.std.proofs.lemmas.Bool.Decides.{nat_tests}
use Rattle.std.proofs.lemmas.Option.{slice_get_within, slice_get-get_or}
use Rattle.lama_edges.specs.declared.records.Slot.{Slot}
use Rattle.lama_edges.specs.declared.records.Slot.TheVariants.{Edge, Next, End}
use Rattle.lama_edges.specs.declared.tails.Tail.{Tail}
use Rattle.lama_edges.specs.Table.{IsTail, HasEdge}
use Rattle.lama_edges.specs.Placed.{slot_by, slot_of, slots_from, AreTails, AreNumbered}

some_inj : {A : Type 0} {x y : A} → Some x ≡ Some y → x ≡ y
some_inj {A = A} {x = x} e = ap (λ o. elim o as (λ _. A) [ None ↦ x | Some z ↦ z ]) e

edge_inj : {w u : ℕ} → Edge w ≡ Edge u → w ≡ u
edge_inj {w = w} e = ap (λ s. target_of s) e
  where
    target_of : Slot → ℕ
    target_of (Edge t) = t
    target_of (Next l o k) = w
    target_of End = w

pub length-slots : (ts : List Tail) (i : ℕ) (ws : List ℕ) → length (slots_from ts i ws) ≡ length ws
length-slots ts i [] = refl
length-slots ts i (w ∷ ws) = ap suc (length-slots ts (i + 1) ws)

slots-push : (ts : List Tail) (i : ℕ) (ws : List ℕ) (w : ℕ) → slots_from ts i (ws ++ w ∷ []) ≡ slots_from ts i ws ++ slot_of ts (i + length ws) w ∷ []
slots-push ts i [] w = let here : i ≡ i + 0 = omega arith in ap (λ k. slot_of ts k w ∷ []) here
slots-push ts i (x ∷ ws) w =
    let here : i + 1 + length ws ≡ i + suc (length ws) = omega arith in
    ap (λ l. slot_of ts i x ∷ l) (slots-push ts (i + 1) ws w ∙ ap (λ k. slots_from ts (i + 1) ws ++ slot_of ts k w ∷ []) here)

get-last : (ts : List Tail) (t : Tail) → slice_get (ts ++ t ∷ []) (length ts) ≡ Some t
get-last [] t = refl
get-last (x ∷ ts) t = get-last ts t

elsewhere : (i w : ℕ) (t : Tail) → i < t.place → slot_by i w (Some t) ≡ Edge w
elsewhere i w t lt = let no : (t.place == i) ≡ false = grind (arith, nat_tests, lt) in ap (λ (b : Bool). if b then t.slot else Edge w) no

-- one more tail says nothing of the slots before its place
slot-more : (ts : List Tail) (t : Tail) (i w k : ℕ) → i < t.place → slot_by i w (slice_get (ts ++ t ∷ []) k) ≡ slot_by i w (slice_get ts k)
slot-more [] t i w zero lt = elsewhere i w t lt
slot-more [] t i w (suc k) lt = refl
slot-more (x ∷ ts) t i w zero lt = refl
slot-more (x ∷ ts) t i w (suc k) lt = slot-more ts t i w k lt

slots-more : (ts : List Tail) (t : Tail) (i : ℕ) (ws : List ℕ) → i + length ws ≤ t.place → slots_from (ts ++ t ∷ []) i ws ≡ slots_from ts i ws
slots-more ts t i [] le = refl
slots-more ts t i (w ∷ ws) le = λ j. slot-more ts t i w w (omega arith) j ∷ slots-more ts t (i + 1) ws (omega arith) j

-- the slot at place k of a list of words that begins at place i
slot-at : (ts : List Tail) (i k d : ℕ) (ws : List ℕ) → k < length ws → slice_get (slots_from ts i ws) k ≡ Some (slot_of ts (i + k) (get_or ws k d))
slot-at ts i k d [] lt = absurd (omega arith)
slot-at ts i zero d (w ∷ ws) lt = let here : i ≡ i + 0 = omega arith in ap (λ j. Some (slot_of ts j w)) here
slot-at ts i (suc k) d (w ∷ ws) lt =
    let here : i + 1 + k ≡ i + suc k = omega arith in
    slot-at ts (i + 1) k d ws (omega arith) ∙ ap (λ j. Some (slot_of ts j (get_or ws k d))) here

-- the tail of a number is one of the tails
one-of : (ts : List Tail) (w : ℕ) (t : Tail) (P : Tail → Type 0) → All P ts → slice_get ts w ≡ Some t → P t
one-of ts w t P all is =
    let within : w < length ts = slice_get_within ts w t is in
    let same : Some (get_or ts w t) ≡ Some t = sym (slice_get-get_or ts w t within) ∙ is in
    subst P (some_inj same) (all w t within)

module _ (n : ℕ) (ts : List Tail) (are : AreTails n ts) where
  -- an edge behind all tails
  edge-by : (w : ℕ) (o : Option Tail) → slice_get ts w ≡ o → slot_by n w o ≡ Edge w
  edge-by w None is = refl
  edge-by w (Some t) is =
      let before : t.place < n = one-of ts w t (λ t. t.place < n) are.places is in
      let no : (t.place == n) ≡ false = grind (arith, nat_tests, before) in
      ap (λ (b : Bool). if b then t.slot else Edge w) no

  pub edge-pushed : (ws : List ℕ) (w : ℕ) → n ≡ length ws → slots_from ts 0 (ws ++ w ∷ []) ≡ slots_from ts 0 ws ++ Edge w ∷ []
  edge-pushed ws w e =
      let here : 0 + length ws ≡ n = omega arith in
      slots-push ts 0 ws w ∙ ap (λ k. slots_from ts 0 ws ++ slot_of ts k w ∷ []) here ∙ ap (λ s. slots_from ts 0 ws ++ s ∷ []) (edge-by w (slice_get ts w) refl)

  -- where an edge stands, the word is its target
  target-by : (i w u : ℕ) (o : Option Tail) → slice_get ts w ≡ o → slot_by i w o ≡ Edge u → w ≡ u
  target-by i w u None is e = edge_inj e
  target-by i w u (Some t) is e = by_test (t.place == i) e
    where
      by_test : (b : Bool) → (if b then t.slot else Edge w) ≡ Edge u → w ≡ u
      by_test true e = absurd (subst IsTail e (one-of ts w t (λ t. IsTail t.slot) are.kinds is))
      by_test false e = edge_inj e

  -- a tail in its place, behind the others
  pub tail-pushed : (ws : List ℕ) (t : Tail) (k : ℕ) → n ≡ length ws → t.place ≡ n → k ≡ length ts → slots_from (ts ++ t ∷ []) 0 (ws ++ k ∷ []) ≡ slots_from ts 0 ws ++ t.slot ∷ []
  tail-pushed ws t k e at last =
      let here : 0 + length ws ≡ n = omega arith in
      let yes : (t.place == n) ≡ true = grind (arith, nat_tests, at) in
      let got : slice_get (ts ++ t ∷ []) k ≡ Some t = ap (λ j. slice_get (ts ++ t ∷ []) j) last ∙ get-last ts t in
      slots-push (ts ++ t ∷ []) 0 ws k
      ∙ ap (λ j. slots_from (ts ++ t ∷ []) 0 ws ++ slot_of (ts ++ t ∷ []) j k ∷ []) here
      ∙ ap (λ o. slots_from (ts ++ t ∷ []) 0 ws ++ slot_by n k o ∷ []) got
      ∙ ap (λ (b : Bool). slots_from (ts ++ t ∷ []) 0 ws ++ (if b then t.slot else Edge k) ∷ []) yes
      ∙ ap (λ l. l ++ t.slot ∷ []) (slots-more ts t 0 ws (omega arith))

  pub slot-read : (ws : List ℕ) (i w : ℕ) → i < length ws → w ≡ get_or ws i w → slice_get (slots_from ts 0 ws) i ≡ Some (slot_of ts i w)
  slot-read ws i w lt is =
      let here : 0 + i ≡ i = omega arith in
      slot-at ts 0 i w ws lt ∙ ap (λ j. Some (slot_of ts j (get_or ws i w))) here ∙ ap (λ v. Some (slot_of ts i v)) (sym is)

  pub target-read : (ws : List ℕ) (i w : ℕ) → i < length ws → w ≡ get_or ws i w → HasEdge (slots_from ts 0 ws) i → slice_get (slots_from ts 0 ws) i ≡ Some (Edge w)
  target-read ws i w lt is edge =
      let same : slot_of ts i w ≡ Edge edge.target = some_inj (sym (slot-read ws i w lt is) ∙ edge.slot_is) in
      edge.slot_is ∙ ap (λ v. Some (Edge v)) (sym (target-by i w edge.target (slice_get ts w) refl same))

-- the tail of a number stands at its place
pub tail-there : (ts : List Tail) (ws : List ℕ) → AreNumbered ws ts → (k i : ℕ) (t : Tail) → slice_get ts k ≡ Some t → t.place ≡ i → slice_get (slots_from ts 0 ws) i ≡ Some t.slot
tail-there ts ws numbered k i t got at =
    let word : slice_get ws i ≡ Some k = subst (λ j. slice_get ws j ≡ Some k) at (numbered k t got) in
    let within : i < length ws = slice_get_within ws i k word in
    let is : get_or ws i 0 ≡ k = some_inj (sym (slice_get-get_or ws i 0 within) ∙ word) in
    let here : 0 + i ≡ i = omega arith in
    let same : (t.place == i) ≡ true = grind (arith, nat_tests, at) in
    slot-at ts 0 i 0 ws within
    ∙ (λ j. Some (slot_of ts (here j) (is j)))
    ∙ ap (λ o. Some (slot_by i k o)) got
    ∙ ap (λ (b : Bool). Some (if b then t.slot else Edge k)) same
