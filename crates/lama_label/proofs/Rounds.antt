-- What a round leaves, in place or in pieces.
use Rattle.std.proofs.Common.{◌≡◌, ◌∙◌, ℕ, zero, suc, ◌+◌, ◌<◌, List, [], ◌∷◌, ◌++◌, length, get_or, map, false, refl, sym, ap, subst, arith}
use Rattle.std.specs.Prelude.{All, slice_index}
use Rattle.std.specs.List.{flat_map}
use Rattle.std.proofs.lemmas.List.Elements.{All-head, All-tail, All-append, All-map}
use Rattle.lama_model.specs.Graph.{Graph}
use Rattle.lama_model.specs.Labels.{AreJoined}
use Rattle.lama_label.specs.Lowering.{offered, is_lower, take_all, take_edges, AreLow, AreEdgesOf, IsEdgeSettled, AreSettled, IsLowered}
use Rattle.lama_label.proofs.Lowered.{kept-all, kept-edges, length-edges, offered-sum, low-edges, low-offered}

none : {X : Type 0} (P : X → Type 0) → All P []
none P k d lt = absurd (omega (arith, lt))

one-more : {X : Type 0} (P : X → Type 0) (x : X) (xs : List X) → P x → All P xs → All P (x ∷ xs)
one-more P x xs h rest zero d lt = h
one-more P x xs h rest (suc k) d lt = rest k d (omega (arith, lt))

-- the parts of a list of which all is said
pub front : {X : Type 0} (P : X → Type 0) (xs ys : List X) → All P (xs ++ ys) → All P xs
front P [] ys h = none P
front P (x ∷ xs) ys h = one-more P x xs (All-head P x (xs ++ ys) h) (front P xs ys (All-tail P x (xs ++ ys) h))

pub rest-of : {X : Type 0} (P : X → Type 0) (xs ys : List X) → All P (xs ++ ys) → All P ys
rest-of P [] ys h = h
rest-of P (x ∷ xs) ys h = rest-of P xs ys (All-tail P x (xs ++ ys) h)

pub split-flat : {X Y : Type 0} (P : Y → Type 0) (f : X → List Y) (xs : List X) → All P (flat_map f xs) → All (λ x. All P (f x)) xs
split-flat P f [] h = none (λ x. All P (f x))
split-flat P f (x ∷ xs) h = one-more (λ x. All P (f x)) x xs (front P (f x) (flat_map f xs) h) (split-flat P f xs (rest-of P (f x) (flat_map f xs) h))

pub unmap : {X Y : Type 0} (P : Y → Type 0) (h : X → Y) (xs : List X) → All P (map h xs) → All (λ x. P (h x)) xs
unmap P h [] a = λ k d lt. absurd (omega (arith, lt))
unmap P h (x ∷ xs) a = one-more (λ x. P (h x)) x xs (a 0 (h x) (omega arith)) (unmap P h xs (λ i d li. a (suc i) d (omega (arith, li))))

-- the lists of edges of the pieces
abbrev pub all_of : List (List (ℕ × ℕ)) → List (ℕ × ℕ)
all_of ess = flat_map (λ es. es) ess

module _ (ls : List ℕ) where
  -- what the copies after these lists of edges offer
  abbrev pub copied : List (List (ℕ × ℕ)) → List (ℕ × ℕ)
  copied ess = flat_map (λ es. offered 0 (take_edges es ls)) ess

  pub low-in-pieces : (g : Graph) → AreLow g ls → (ess : List (List (ℕ × ℕ))) → AreEdgesOf g (all_of ess) → All (λ p. AreJoined g p.1 p.0) (copied ess)
  low-in-pieces g low [] are = none (λ p. AreJoined g p.1 p.0)
  low-in-pieces g low (es ∷ ess) are =
      let mine : AreEdgesOf g es = front (λ e. (e.0 < g.count) × (e.1 < g.count) × AreJoined g e.0 e.1) es (all_of ess) are in
      All-append (λ p. AreJoined g p.1 p.0) (offered 0 (take_edges es ls)) (copied ess)
      (low-offered g (take_edges es ls) (low-edges g es ls low mine))
      (low-in-pieces g low ess (rest-of (λ e. (e.0 < g.count) × (e.1 < g.count) × AreJoined g e.0 e.1) es (all_of ess) are))

  -- where no copy offers a lower label, nothing is lower
  settled-in-pieces : (ess : List (List (ℕ × ℕ))) → All (λ p. is_lower ls p ≡ false) (copied ess) → AreSettled (all_of ess) ls
  settled-in-pieces [] quiet = λ k d lt. absurd (omega (arith, lt))
  settled-in-pieces (es ∷ ess) quiet =
      let mine = front (λ p. is_lower ls p ≡ false) (offered 0 (take_edges es ls)) (copied ess) quiet in
      let k = kept-edges es ls in
      let less = k.less in
      let more = offered-sum ls 0 (take_edges es ls) ls (length-edges es ls) (λ i lt. ap (slice_index ls) (let z : 0 + i ≡ i = omega arith in z)) mine in
      let here : AreSettled es ls = (k.same (omega (arith, less, more))).1 in
      All-append (λ e. IsEdgeSettled ls e.0 e.1) es (all_of ess) here
      (settled-in-pieces ess (rest-of (λ p. is_lower ls p ≡ false) (offered 0 (take_edges es ls)) (copied ess) quiet))

  pub lowered-in-pieces : (ess : List (List (ℕ × ℕ))) → IsLowered ls (take_all (copied ess) ls) (AreSettled (all_of ess) ls)
  lowered-in-pieces ess =
      let k = kept-all (copied ess) ls in
      record { less = k.less; same = λ eq. let s = k.same eq in (s.0, settled-in-pieces ess s.1) }

-- what copies have, where each is what its edges leave of the labels
pub copies-are : {T U : Type 0} (items : T → List ℕ) (edges : U → List (ℕ × ℕ)) (ls : List ℕ) (ts : List T) (us : List U) → length ts ≡ length us
    → ((i : ℕ) (d : T) → i < length us → (e : List (ℕ × ℕ)) → items (get_or ts i d) ≡ take_edges (get_or (map edges us) i e) ls) → map items ts ≡ map (λ u. take_edges (edges u) ls) us
copies-are items edges ls [] [] same h = refl
copies-are items edges ls [] (u ∷ us) same h = absurd (omega (arith, same))
copies-are items edges ls (t ∷ ts) [] same h = absurd (omega (arith, same))
copies-are items edges ls (t ∷ ts) (u ∷ us) same h =
    (λ j. h 0 t (omega arith) [] j ∷ copies-are items edges ls ts us (omega (arith, same)) (λ i d lt e. h (suc i) d (omega (arith, lt)) e) j)

-- what the copies offer, by what they have
pub offered-are : {T U : Type 0} (items : T → List ℕ) (edges : U → List (ℕ × ℕ)) (ls : List ℕ) (ts : List T) (us : List U) → map items ts ≡ map (λ u. take_edges (edges u) ls) us → flat_map (λ t. offered 0 (items t)) ts ≡ copied ls (map edges us)
offered-are items edges ls ts us h = flat-map (offered 0) items ts ∙ (ap (flat_map (offered 0)) h ∙ (sym (flat-map (offered 0) (λ u. take_edges (edges u) ls) us) ∙ flat-map (λ es. offered 0 (take_edges es ls)) edges us))
  where
    flat-map : {X Y Z : Type 0} (f : Y → List Z) (h : X → Y) (xs : List X) → flat_map (λ x. f (h x)) xs ≡ flat_map f (map h xs)
    flat-map f h [] = refl
    flat-map f h (x ∷ xs) = ap (λ l. f (h x) ++ l) (flat-map f h xs)

-- they are as long as the labels
pub copies-long : {T U : Type 0} (items : T → List ℕ) (edges : U → List (ℕ × ℕ)) (ls : List ℕ) (ts : List T) (us : List U) → map items ts ≡ map (λ u. take_edges (edges u) ls) us → All (λ t. length (items t) ≡ length ls) ts
copies-long items edges ls ts us h =
    unmap (λ (l : List ℕ). length l ≡ length ls) items ts (subst (All (λ (l : List ℕ). length l ≡ length ls)) (sym h)
    (All-map (λ (l : List ℕ). length l ≡ length ls) (λ u. take_edges (edges u) ls) us (λ k d lt. length-edges (edges (get_or us k d)) ls)))

pub all-are : {U : Type 0} (edges : U → List (ℕ × ℕ)) (us : List U) → flat_map edges us ≡ all_of (map edges us)
all-are edges [] = refl
all-are edges (u ∷ us) = ap (λ l. edges u ++ l) (all-are edges us)
