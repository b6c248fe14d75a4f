-- What a book gives, as the lane's asks name it.
use Rattle.std.proofs.Common.{arith, ◌≡◌, ◌≢◌, List, [], ◌∷◌, ◌++◌, ℕ, ◌+◌, ◌≤◌, sym, ap, ◌∙◌, subst, Global}
use Rattle.std.specs.declared.sync.Arc.{Arc}
use Rattle.std.specs.Arc.{arc_value}
use Rattle.lama_model.specs.Bounds.{checkpoint_pages}
use Rattle.lama_model.specs.Change.{Change}
use Rattle.std.specs.Prelude.{MatchOption}
use Rattle.lama_model.specs.declared.calls.Call.TheVariants.{Look as LookCall, LookAt as LookAtCall}
use Rattle.lama_model.specs.declared.calls.Entry.{Entry}
use Rattle.lama_model.specs.declared.answers.Reply.TheVariants.{Snapshot}
use Rattle.lama_model.proofs.JournalLaws.{newest-rises}
use Rattle.lama_model.proofs.StandingLemmas.{standing-push}
use Rattle.lama_book.specs.declared.book.Looked.{Looked}
use Rattle.lama_book.proofs.Keeping.{after-look, after-look_at}
use Rattle.lama_model.specs.Opening.{Opening}
use Rattle.lama_model.specs.Journal.{Standing, standing, newest, newest_of}
use Rattle.lama_snapshot.specs.Snap.{Snap}
use Rattle.lama_snapshot.specs.declared.snapshot.Snapshot.{Snapshot as Kept_snapshot}
use Rattle.lama_book.specs.Book.{Book, next_change, last_snap}
use Rattle.lama_book.specs.Relation.{IsBookOf, IsSnapshotOf}
use Rattle.lama_book.proofs.Checkpointing.{newest-of, next-of}
use Rattle.lama_engine.specs.declared.asks.Ask.{Ask}
use Rattle.lama_engine.specs.declared.asks.Ask.TheVariants.{Checkpoint, Look, LookAt}
use Rattle.lama_engine.specs.declared.asks.Given.{Given}
use Rattle.lama_engine.specs.declared.asks.Given.TheVariants.{Newest, Found}
use Rattle.lama_engine.specs.Asks.{Gives, pages_of}

pub pages-are : (o : Opening) (b v : Book) (ask : Ask) (old new : ℕ) → b ≡ v → ask ≡ Checkpoint → IsBookOf o v → new ≤ old + checkpoint_pages (next_change b) → new ≤ old + pages_of o v.journal ask
pages-are o b v ask old new e is of made =
    subst (λ a. new ≤ old + pages_of o v.journal a) (sym is) (subst (λ (x : Change). new ≤ old + checkpoint_pages x) (ap next_change e ∙ next-of o v of) made)

pub gives-newest : (o : Opening) (b v : Book) (ask : Ask) (a : Arc Kept_snapshot Global) → b ≡ v → ask ≡ Look → arc_value a ≡ last_snap b → IsBookOf o v → Gives o v.journal ask (Newest a)
gives-newest o b v ask a e is snap of =
    subst (λ x. Gives o v.journal x (Newest a)) (sym is)
    (subst (λ (x : Snap). IsSnapshotOf o (standing o v.journal) (newest_of o (standing o v.journal)) x) (sym (snap ∙ ap last_snap e)) (newest-of o v of))

-- a look leaves what stands
look-leaves : (o : Opening) (seen j : List Entry) (caller : ℕ) → seen ≡ j ++ record { caller = caller; call = LookCall } ∷ [] → standing o j ≡ standing o seen
look-leaves o seen j caller e = sym (ap (standing o) e ∙ (standing-push o j (record { caller = caller; call = LookCall }) ∙ after-look o (standing o j)))

look_at-leaves : (o : Opening) (seen j : List Entry) (caller k : ℕ) → seen ≡ j ++ record { caller = caller; call = LookAtCall k } ∷ [] → standing o j ≡ standing o seen
look_at-leaves o seen j caller k e = sym (ap (standing o) e ∙ (standing-push o j (record { caller = caller; call = LookAtCall k }) ∙ after-look_at o (standing o j) k))

-- so the snapshot that was handed out is that of the whole journal seen
pub looked : (o : Opening) (seen j : List Entry) (caller : ℕ) (g : Given) (a : Arc Kept_snapshot Global) → seen ≡ j ++ record { caller = caller; call = LookCall } ∷ [] → g ≡ Newest a → Gives o j Look g
    → IsSnapshotOf o (standing o seen) (newest_of o (standing o seen)) (arc_value a)
looked o seen j caller g a e is gives =
    subst (λ (s : Standing). IsSnapshotOf o s (newest_of o s) (arc_value a)) (look-leaves o seen j caller e) (subst (λ x. Gives o j Look x) is gives)

pub looked-at : (o : Opening) (seen j : List Entry) (caller k : ℕ) (g : Given) (l : Looked) → seen ≡ j ++ record { caller = caller; call = LookAtCall k } ∷ [] → g ≡ Found l → Gives o j (LookAt k) g
    → MatchOption l.snapshot ((n : ℕ) → l.reply ≢ Snapshot n) (λ a. (l.reply ≡ Snapshot k) × IsSnapshotOf o (standing o seen) k (arc_value a))
looked-at o seen j caller k g l e is gives =
    subst (λ (s : Standing). MatchOption l.snapshot ((n : ℕ) → l.reply ≢ Snapshot n) (λ a. (l.reply ≡ Snapshot k) × IsSnapshotOf o s k (arc_value a))) (look_at-leaves o seen j caller k e)
    (subst (λ x. Gives o j (LookAt k) x) is gives).1

-- and no older than what was known of
pub looked-later : (o : Opening) (old j more : List Entry) (g : Given) (a : Arc Kept_snapshot Global) → j ≡ old ++ more → g ≡ Newest a → Gives o j Look g → newest o old ≤ (arc_value a).number
looked-later o old j more g a e is gives =
    let s = subst (λ x. Gives o j Look x) is gives in
    omega (arith, newest-rises o old more, s.number, ap (newest o) e)
