-- What becomes of numbered edges under writes: the old ones are thinned and reweighed in their places, and new ones follow.
use Rattle.std.proofs.Common.{◌≡◌, ◌∙◌, ℕ, ◌+◌, ◌≤◌, List, [], ◌∷◌, ◌++◌, length, reverse, map, cond, eqb, Bool, true, false, not, refl, sym, ap, subst, arith, Option, Some, None}
use Rattle.std.specs.Prelude.{filter, fold}
use Rattle.std.specs.List.{enumerate_from}
use Rattle.std.proofs.lemmas.List.{map-append, append_assoc, append-nil, reverse-append}
use Rattle.std.proofs.lemmas.List.Elements.{filter-append}
use Rattle.lama_base.specs.declared.Edge.{Edge}
use Rattle.lama_model.specs.declared.calls.Write.{Write}
use Rattle.lama_model.specs.declared.calls.Write.TheVariants.{Vertices, Add, Remove, Weigh}
use Rattle.lama_model.specs.Graph.{Graph, no_graph, effect, joins, with_weight}
use Rattle.lama_model.specs.Row.{leaving}
use Rattle.lama_model.specs.Change.{Numbered, numbered, numbered_effect, numbered_after, graph_after}

-- the edges from number k on that are still there, with the weights that they have now: None where one is gone
abbrev pub thin : ℕ → List (Option ℕ) → List Edge → List (ℕ × Edge)
thin k [] es = []
thin k (f ∷ fs) [] = []
thin k (None ∷ fs) (e ∷ es) = thin (k + 1) fs es
thin k (Some w ∷ fs) (e ∷ es) = (k, with_weight w e) ∷ thin (k + 1) fs es

-- one fate for each edge
abbrev pub AreFates : List (Option ℕ) → List Edge → Type 0
AreFates [] [] = Unit {0}
AreFates [] (e ∷ es) = ⊥
AreFates (f ∷ fs) [] = ⊥
AreFates (f ∷ fs) (e ∷ es) = AreFates fs es

-- the edges keep their weights
abbrev pub all_kept : List Edge → List (Option ℕ)
all_kept [] = []
all_kept (e ∷ es) = Some e.weight ∷ all_kept es

pub all_kept-fates : (es : List Edge) → AreFates (all_kept es) es
all_kept-fates [] = tt
all_kept-fates (e ∷ es) = all_kept-fates es

pub thin-all : (k : ℕ) (es : List Edge) → thin k (all_kept es) es ≡ enumerate_from k es
thin-all k [] = refl
thin-all k (e ∷ es) = ap (λ ps. (k, e) ∷ ps) (thin-all (k + 1) es)

-- the edges from u to v are gone
abbrev removed : ℕ → ℕ → List (Option ℕ) → List Edge → List (Option ℕ)
removed u v [] es = []
removed u v (f ∷ fs) [] = []
removed u v (f ∷ fs) (e ∷ es) = cond (joins u v e) None f ∷ removed u v fs es

removed-fates : (u v : ℕ) (fs : List (Option ℕ)) (es : List Edge) → AreFates fs es → AreFates (removed u v fs es) es
removed-fates u v [] [] h = tt
removed-fates u v [] (e ∷ es) h = h
removed-fates u v (f ∷ fs) [] h = absurd h
removed-fates u v (f ∷ fs) (e ∷ es) h = removed-fates u v fs es h

filter-thin : (u v k : ℕ) (fs : List (Option ℕ)) (es : List Edge) → filter (λ (p : ℕ × Edge). not (joins u v p.1)) (thin k fs es) ≡ thin k (removed u v fs es) es
filter-thin u v k [] es = refl
filter-thin u v k (f ∷ fs) [] = refl
filter-thin u v k (None ∷ fs) (e ∷ es) = filter-thin u v (k + 1) fs es ∙ by (joins u v e)
  where
    by : (b : Bool) → thin (k + 1) (removed u v fs es) es ≡ thin k (cond b None None ∷ removed u v fs es) (e ∷ es)
    by true = refl
    by false = refl
filter-thin u v k (Some w ∷ fs) (e ∷ es) = by (joins u v e) (filter-thin u v (k + 1) fs es)
  where
    by : (b : Bool) → filter (λ (p : ℕ × Edge). not (joins u v p.1)) (thin (k + 1) fs es) ≡ thin (k + 1) (removed u v fs es) es → cond (not b) ((k, with_weight w e) ∷ filter (λ (p : ℕ × Edge). not (joins u v p.1)) (thin (k + 1) fs es)) (filter (λ (p : ℕ × Edge). not (joins u v p.1)) (thin (k + 1) fs es)) ≡ thin k (cond b None (Some w) ∷ removed u v fs es) (e ∷ es)
    by true rest = rest
    by false rest = ap (λ ps. (k, with_weight w e) ∷ ps) rest

-- the edges from u to v that are there have the weight w
abbrev pub option_weight : Bool → ℕ → Option ℕ → Option ℕ
option_weight b w None = None
option_weight b w (Some old) = Some (cond b w old)

abbrev reweighed : ℕ → ℕ → ℕ → List (Option ℕ) → List Edge → List (Option ℕ)
reweighed u v w [] es = []
reweighed u v w (f ∷ fs) [] = []
reweighed u v w (f ∷ fs) (e ∷ es) = option_weight (joins u v e) w f ∷ reweighed u v w fs es

reweighed-fates : (u v w : ℕ) (fs : List (Option ℕ)) (es : List Edge) → AreFates fs es → AreFates (reweighed u v w fs es) es
reweighed-fates u v w [] [] h = tt
reweighed-fates u v w [] (e ∷ es) h = h
reweighed-fates u v w (f ∷ fs) [] h = absurd h
reweighed-fates u v w (f ∷ fs) (e ∷ es) h = reweighed-fates u v w fs es h

abbrev weigh : ℕ → ℕ → ℕ → ℕ × Edge → ℕ × Edge
weigh u v w p = (p.0, cond (joins u v p.1) (with_weight w p.1) p.1)

map-thin : (u v w k : ℕ) (fs : List (Option ℕ)) (es : List Edge) → map (weigh u v w) (thin k fs es) ≡ thin k (reweighed u v w fs es) es
map-thin u v w k [] es = refl
map-thin u v w k (f ∷ fs) [] = refl
map-thin u v w k (None ∷ fs) (e ∷ es) = map-thin u v w (k + 1) fs es
map-thin u v w k (Some old ∷ fs) (e ∷ es) = by (joins u v e) (map-thin u v w (k + 1) fs es)
  where
    by : (b : Bool) → map (weigh u v w) (thin (k + 1) fs es) ≡ thin (k + 1) (reweighed u v w fs es) es → (let p : ℕ × Edge = (k, cond b (with_weight w (with_weight old e)) (with_weight old e)) in p ∷ map (weigh u v w) (thin (k + 1) fs es)) ≡ (k, with_weight (cond b w old) e) ∷ thin (k + 1) (reweighed u v w fs es) es
    by true rest = ap (λ ps. (k, with_weight w e) ∷ ps) rest
    by false rest = ap (λ ps. (k, with_weight old e) ∷ ps) rest

-- each number of the list is at least k
abbrev pub AreFrom : ℕ → List (ℕ × Edge) → Type 0
AreFrom k [] = Unit {0}
AreFrom k (p ∷ ps) = (k ≤ p.0) × AreFrom k ps

pub AreFrom-weaker : (j k : ℕ) (ps : List (ℕ × Edge)) → j ≤ k → AreFrom k ps → AreFrom j ps
AreFrom-weaker j k [] h from = tt
AreFrom-weaker j k (p ∷ ps) h from = (let first = from.0 in omega (arith, first, h), AreFrom-weaker j k ps h from.1)

pub AreFrom-append : (k : ℕ) (ps qs : List (ℕ × Edge)) → AreFrom k ps → AreFrom k qs → AreFrom k (ps ++ qs)
AreFrom-append k [] qs h i = i
AreFrom-append k (p ∷ ps) qs h i = (h.0, AreFrom-append k ps qs h.1 i)

AreFrom-filter : (test : ℕ × Edge → Bool) (k : ℕ) (ps : List (ℕ × Edge)) → AreFrom k ps → AreFrom k (filter test ps)
AreFrom-filter test k [] h = tt
AreFrom-filter test k (p ∷ ps) h = by (test p) (AreFrom-filter test k ps h.1)
  where
    by : (b : Bool) → AreFrom k (filter test ps) → AreFrom k (cond b (p ∷ filter test ps) (filter test ps))
    by true rest = (h.0, rest)
    by false rest = rest

AreFrom-map : (u v w k : ℕ) (ps : List (ℕ × Edge)) → AreFrom k ps → AreFrom k (map (weigh u v w) ps)
AreFrom-map u v w k [] h = tt
AreFrom-map u v w k (p ∷ ps) h = (h.0, AreFrom-map u v w k ps h.1)

pub thin-from : (k : ℕ) (fs : List (Option ℕ)) (es : List Edge) → AreFrom k (thin k fs es)
thin-from k [] es = tt
thin-from k (f ∷ fs) [] = tt
thin-from k (None ∷ fs) (e ∷ es) = AreFrom-weaker k (k + 1) (thin (k + 1) fs es) (omega arith) (thin-from (k + 1) fs es)
thin-from k (Some w ∷ fs) (e ∷ es) = (omega arith, AreFrom-weaker k (k + 1) (thin (k + 1) fs es) (omega arith) (thin-from (k + 1) fs es))

-- without their numbers they are the graph's edges
abbrev pub plain : List (ℕ × Edge) → List Edge
plain ps = map (λ (p : ℕ × Edge). p.1) ps

pub plain-filter : (test : Edge → Bool) (ps : List (ℕ × Edge)) → plain (filter (λ (p : ℕ × Edge). test p.1) ps) ≡ filter test (plain ps)
plain-filter test [] = refl
plain-filter test (p ∷ ps) = by (test p.1) (plain-filter test ps)
  where
    by : (b : Bool) → plain (filter (λ (p : ℕ × Edge). test p.1) ps) ≡ filter test (plain ps) → plain (cond b (p ∷ filter (λ (p : ℕ × Edge). test p.1) ps) (filter (λ (p : ℕ × Edge). test p.1) ps)) ≡ cond b (p.1 ∷ filter test (plain ps)) (filter test (plain ps))
    by true rest = ap (λ es. p.1 ∷ es) rest
    by false rest = rest

plain-weigh : (u v w : ℕ) (ps : List (ℕ × Edge)) → plain (map (weigh u v w) ps) ≡ map (λ (e : Edge). cond (joins u v e) (with_weight w e) e) (plain ps)
plain-weigh u v w [] = refl
plain-weigh u v w (p ∷ ps) = ap (λ es. cond (joins u v p.1) (with_weight w p.1) p.1 ∷ es) (plain-weigh u v w ps)

-- what a write makes of the later weight of an edge, where it is still there
abbrev pub fate_step : Write → Edge → Option ℕ → Option ℕ
fate_step (Vertices n) e f = f
fate_step (Add u v w) e f = f
fate_step (Remove u v) e f = cond (joins u v e) None f
fate_step (Weigh u v w) e f = option_weight (joins u v e) w f

-- and what the writes make of it, oldest first
abbrev pub run_fate : List Write → Edge → Option ℕ → Option ℕ
run_fate [] e f = f
run_fate (w ∷ ws) e f = run_fate ws e (fate_step w e f)

run_fate-push : (ws : List Write) (w : Write) (e : Edge) (f : Option ℕ) → run_fate (ws ++ w ∷ []) e f ≡ fate_step w e (run_fate ws e f)
run_fate-push [] w e f = refl
run_fate-push (x ∷ ws) w e f = run_fate-push ws w e (fate_step x e f)

-- the later weights of the edges
abbrev pub fates_after : List Write → List Edge → List (Option ℕ)
fates_after ws [] = []
fates_after ws (e ∷ es) = run_fate ws e (Some e.weight) ∷ fates_after ws es

fates-none : (es : List Edge) → all_kept es ≡ fates_after [] es
fates-none [] = refl
fates-none (e ∷ es) = ap (λ fs. Some e.weight ∷ fs) (fates-none es)

-- a write that keeps each fate
fates-same : (ws : List Write) (w : Write) (es : List Edge) → ((e : Edge) (f : Option ℕ) → fate_step w e f ≡ f) → fates_after ws es ≡ fates_after (ws ++ w ∷ []) es
fates-same ws w [] same = refl
fates-same ws w (e ∷ es) same = ap (λ f. f ∷ fates_after ws es) (sym (run_fate-push ws w e (Some e.weight) ∙ same e (run_fate ws e (Some e.weight)))) ∙ ap (λ fs. run_fate (ws ++ w ∷ []) e (Some e.weight) ∷ fs) (fates-same ws w es same)

fates-removed : (ws : List Write) (u v : ℕ) (es : List Edge) → removed u v (fates_after ws es) es ≡ fates_after (ws ++ Remove u v ∷ []) es
fates-removed ws u v [] = refl
fates-removed ws u v (e ∷ es) = ap (λ f. f ∷ removed u v (fates_after ws es) es) (sym (run_fate-push ws (Remove u v) e (Some e.weight))) ∙ ap (λ fs. run_fate (ws ++ Remove u v ∷ []) e (Some e.weight) ∷ fs) (fates-removed ws u v es)

fates-reweighed : (ws : List Write) (u v w : ℕ) (es : List Edge) → reweighed u v w (fates_after ws es) es ≡ fates_after (ws ++ Weigh u v w ∷ []) es
fates-reweighed ws u v w [] = refl
fates-reweighed ws u v w (e ∷ es) = ap (λ f. f ∷ reweighed u v w (fates_after ws es) es) (sym (run_fate-push ws (Weigh u v w) e (Some e.weight))) ∙ ap (λ fs. run_fate (ws ++ Weigh u v w ∷ []) e (Some e.weight) ∷ fs) (fates-reweighed ws u v w es)

graph_after-push : (ws : List Write) (w : Write) (g : Graph) → graph_after (ws ++ w ∷ []) g ≡ effect w (graph_after ws g)
graph_after-push [] w g = refl
graph_after-push (x ∷ ws) w g = graph_after-push ws w (effect x g)

-- the numbered edges are the old ones, thinned, and then new ones
pub record IsThinned (es : List Edge) (ws : List Write) (t : Numbered) : Type 0 where
  pub fates : List (Option ℕ)
  pub new : List (ℕ × Edge)
  pub are : AreFates fates es
  pub edges : t.edges ≡ thin 0 fates es ++ new
  pub past : AreFrom (length es) new
  pub next : length es ≤ t.next
  pub fates_are : fates ≡ fates_after ws es
  pub new_are : plain new ≡ (graph_after ws no_graph).edges

thinned-start : (g : Graph) → IsThinned g.edges [] (numbered g)
thinned-start g = record {
  fates = all_kept g.edges;
  new = [];
  are = all_kept-fates g.edges;
  edges = sym (append-nil (thin 0 (all_kept g.edges) g.edges) ∙ thin-all 0 g.edges);
  past = tt;
  next = omega arith;
  fates_are = fates-none g.edges;
  new_are = refl;
}

thinned-effect : (es : List Edge) (ws : List Write) (w : Write) (t : Numbered) → IsThinned es ws t → IsThinned es (ws ++ w ∷ []) (numbered_effect w t)
thinned-effect es ws (Vertices n) t h = record {
  fates = h.fates;
  new = h.new;
  are = h.are;
  edges = h.edges;
  past = h.past;
  next = h.next;
  fates_are = h.fates_are ∙ fates-same ws (Vertices n) es (λ e f. refl);
  new_are = h.new_are ∙ sym (ap (λ (g : Graph). g.edges) (graph_after-push ws (Vertices n) no_graph));
}
thinned-effect es ws (Add u v w) t h = record {
  fates = h.fates;
  new = h.new ++ (t.next, record { source = u; target = v; weight = w }) ∷ [];
  are = h.are;
  edges = ap (λ ps. ps ++ (t.next, record { source = u; target = v; weight = w }) ∷ []) h.edges ∙ append_assoc (thin 0 h.fates es) h.new ((t.next, record { source = u; target = v; weight = w }) ∷ []);
  past = AreFrom-append (length es) h.new ((t.next, record { source = u; target = v; weight = w }) ∷ []) h.past (h.next, tt);
  next = let before = h.next in omega (arith, before);
  fates_are = h.fates_are ∙ fates-same ws (Add u v w) es (λ e f. refl);
  new_are = map-append (λ (p : ℕ × Edge). p.1) h.new ((t.next, record { source = u; target = v; weight = w }) ∷ [])
      ∙ (ap (λ es. es ++ record { source = u; target = v; weight = w } ∷ []) h.new_are ∙ sym (ap (λ (g : Graph). g.edges) (graph_after-push ws (Add u v w) no_graph)));
}
thinned-effect es ws (Remove u v) t h = record {
  fates = removed u v h.fates es;
  new = filter (λ (p : ℕ × Edge). not (joins u v p.1)) h.new;
  are = removed-fates u v h.fates es h.are;
  edges = ap (filter (λ (p : ℕ × Edge). not (joins u v p.1))) h.edges
      ∙ (filter-append (λ (p : ℕ × Edge). not (joins u v p.1)) (thin 0 h.fates es) h.new
      ∙ ap (λ ps. ps ++ filter (λ (p : ℕ × Edge). not (joins u v p.1)) h.new) (filter-thin u v 0 h.fates es));
  past = AreFrom-filter (λ (p : ℕ × Edge). not (joins u v p.1)) (length es) h.new h.past;
  next = h.next;
  fates_are = ap (λ fs. removed u v fs es) h.fates_are ∙ fates-removed ws u v es;
  new_are = plain-filter (λ (e : Edge). not (joins u v e)) h.new ∙ (ap (filter (λ (e : Edge). not (joins u v e))) h.new_are ∙ sym (ap (λ (g : Graph). g.edges) (graph_after-push ws (Remove u v) no_graph)));
}
thinned-effect es ws (Weigh u v w) t h = record {
  fates = reweighed u v w h.fates es;
  new = map (weigh u v w) h.new;
  are = reweighed-fates u v w h.fates es h.are;
  edges = ap (map (weigh u v w)) h.edges
      ∙ (map-append (weigh u v w) (thin 0 h.fates es) h.new
      ∙ ap (λ ps. ps ++ map (weigh u v w) h.new) (map-thin u v w 0 h.fates es));
  past = AreFrom-map u v w (length es) h.new h.past;
  next = h.next;
  fates_are = ap (λ fs. reweighed u v w fs es) h.fates_are ∙ fates-reweighed ws u v w es;
  new_are = plain-weigh u v w h.new ∙ (ap (map (λ (e : Edge). cond (joins u v e) (with_weight w e) e)) h.new_are ∙ sym (ap (λ (g : Graph). g.edges) (graph_after-push ws (Weigh u v w) no_graph)));
}

thinned-run : (es : List Edge) (done writes : List Write) (t : Numbered) → IsThinned es done t → IsThinned es (done ++ writes) (fold (λ t w. numbered_effect w t) t writes)
thinned-run es done [] t h = subst (λ ws. IsThinned es ws t) (sym (append-nil done)) h
thinned-run es done (w ∷ writes) t h =
    subst (λ ws. IsThinned es ws (fold (λ t w. numbered_effect w t) (numbered_effect w t) writes)) (append_assoc done (w ∷ []) writes) (thinned-run es (done ++ w ∷ []) writes (numbered_effect w t) (thinned-effect es done w t h))

pub thinned : (g : Graph) (writes : List Write) → IsThinned g.edges writes (numbered_after writes g)
thinned g writes = thinned-run g.edges [] writes (numbered g) (thinned-start g)

pub plain-enumerate : (k : ℕ) (es : List Edge) → plain (enumerate_from k es) ≡ es
plain-enumerate k [] = refl
plain-enumerate k (e ∷ es) = ap (λ xs. e ∷ xs) (plain-enumerate (k + 1) es)

plain-effect : (w : Write) (t : Numbered) (h : Graph) → plain t.edges ≡ h.edges → plain (numbered_effect w t).edges ≡ (effect w h).edges
plain-effect (Vertices n) t h is = is
plain-effect (Add u v w) t h is = map-append (λ (p : ℕ × Edge). p.1) t.edges ((t.next, record { source = u; target = v; weight = w }) ∷ []) ∙ ap (λ es. es ++ record { source = u; target = v; weight = w } ∷ []) is
plain-effect (Remove u v) t h is = plain-filter (λ (e : Edge). not (joins u v e)) t.edges ∙ ap (filter (λ (e : Edge). not (joins u v e))) is
plain-effect (Weigh u v w) t h is = plain-weigh u v w t.edges ∙ ap (map (λ (e : Edge). cond (joins u v e) (with_weight w e) e)) is

plain-run : (writes : List Write) (t : Numbered) (h : Graph) → plain t.edges ≡ h.edges → plain (fold (λ t w. numbered_effect w t) t writes).edges ≡ (graph_after writes h).edges
plain-run [] t h is = is
plain-run (w ∷ writes) t h is = plain-run writes (numbered_effect w t) (effect w h) (plain-effect w t h is)

pub plain_after : (g : Graph) (writes : List Write) → plain (numbered_after writes g).edges ≡ (graph_after writes g).edges
plain_after g writes = plain-run writes (numbered g) g (plain-enumerate 0 g.edges)

-- the pairs of the numbered edges of source u, newest first
abbrev pub pair : ℕ × Edge → ℕ × ℕ
pair p = (p.1.target, p.1.weight)

abbrev pub leaves : ℕ → ℕ × Edge → Bool
leaves u p = eqb p.1.source u

abbrev pub pairs_of : ℕ → List (ℕ × Edge) → List (ℕ × ℕ)
pairs_of u ps = reverse (map pair (filter (leaves u) ps))

pairs_of-plain' : (u : ℕ) (ps : List (ℕ × Edge)) → map pair (filter (leaves u) ps) ≡ leaving u (plain ps)
pairs_of-plain' u [] = refl
pairs_of-plain' u (p ∷ ps) = by (eqb p.1.source u) (pairs_of-plain' u ps)
  where
    by : (b : Bool) → map pair (filter (leaves u) ps) ≡ leaving u (plain ps) → map pair (cond b (p ∷ filter (leaves u) ps) (filter (leaves u) ps)) ≡ map (λ (e : Edge). (e.target, e.weight)) (cond b (p.1 ∷ filter (λ (e : Edge). eqb e.source u) (plain ps)) (filter (λ (e : Edge). eqb e.source u) (plain ps)))
    by true rest = ap (λ rs. pair p ∷ rs) rest
    by false rest = rest

pub pairs_of-plain : (u : ℕ) (ps : List (ℕ × Edge)) → pairs_of u ps ≡ reverse (leaving u (plain ps))
pairs_of-plain u ps = ap reverse (pairs_of-plain' u ps)

pub pairs_of-append : (u : ℕ) (ps qs : List (ℕ × Edge)) → pairs_of u (ps ++ qs) ≡ pairs_of u qs ++ pairs_of u ps
pairs_of-append u ps qs =
    ap (λ xs. reverse (map pair xs)) (filter-append (leaves u) ps qs)
    ∙ (ap reverse (map-append pair (filter (leaves u) ps) (filter (leaves u) qs))
    ∙ reverse-append (map pair (filter (leaves u) ps)) (map pair (filter (leaves u) qs)))
