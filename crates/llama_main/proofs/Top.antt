-- What a run says, whether its words were in the grammar or not.
use Rattle.std.proofs.Common.{◌≡◌, ℕ, List, [], refl, sym, subst, ◌∙◌, Option, Some, None, ◌⊎◌, inl, inr}
use Rattle.std.specs.Prelude.{IfSome, IsSome, MatchOption}
use Rattle.std.proofs.lemmas.Bool.{false≢true}
use Rattle.lama_model.specs.Opening.{empty_opening}
use Rattle.lama_model.specs.Script.{End}
use Rattle.lama_model.specs.Text.{text}
use Rattle.lama_model.specs.declared.calls.Entry.{Entry}
use Rattle.lama_model.specs.Lines.{usage_line}
use Rattle.llama_main.specs.declared.status.Status.{Status}
use Rattle.llama_main.specs.declared.status.Status.TheVariants as statuses
use Rattle.llama_main.specs.Streams.{IsFront, Appends, Gave, HasEnded}
use Rattle.llama_main.specs.Ending.{end_of, HasBook, IsCut, IsOutside, Exchanges, IsText, IsSettled}
use Rattle.lama_book.specs.Book.{Book}
use Rattle.lama_book.specs.Relation.{IsBookOf}
use Rattle.llama_main.specs.Outcome.{journal_of}
use Rattle.llama_main.specs.Run.{Ran, RanWith, Fits}
use Rattle.llama_main.specs.Words.{text_by, AreRefused}
use Rattle.llama_main.proofs.Bytes.{Gave-none}

-- the words are in the grammar, or they are not
pub words_cases : (n : Option ℕ) → IsSome n ⊎ (IsSome n → ⊥)
words_cases None = inr (λ h. false≢true h)
words_cases (Some n) = inl refl

pub outside_status : (w w' : Option (List ℕ)) (status : Status) → AreRefused w w' status → IsOutside status
outside_status w w' status (inl h) = subst IsOutside (sym h.0) tt
outside_status w w' status (inr h) = by h.3
  where
    by : (status ≡ statuses.WriteFault) ⊎ (status ≡ statuses.NoMemory) → IsOutside status
    by (inl is) = subst IsOutside (sym is) tt
    by (inr is) = subst IsOutside (sym is) tt

-- an outside status names no end of a script
outside_end : (status : Status) (P : End → Type 0) → IsOutside status → IfSome (end_of status) P
outside_end statuses.Done P h = absurd h
outside_end statuses.Usage P h = tt
outside_end (statuses.BadLine n) P h = absurd h
outside_end statuses.ReadFault P h = tt
outside_end statuses.WriteFault P h = tt
outside_end statuses.NoMemory P h = tt
outside_end statuses.TooManyLines P h = absurd h

fits_text : (l l' w w' : Option (List ℕ)) (journal : List Entry) (status : Status) (given taken : List ℕ) → Gave l l' given → Appends w w' taken → Fits l l' given taken journal status → IfSome (end_of status) (λ e. Exchanges l l' w w' (λ given taken. IsText given taken e))
fits_text l l' w w' journal statuses.Done given taken gave took fits = (given, taken, gave, took, fits.1)
fits_text l l' w w' journal statuses.Usage given taken gave took fits = tt
fits_text l l' w w' journal (statuses.BadLine n) given taken gave took fits = (given, taken, gave, took, fits.1)
fits_text l l' w w' journal statuses.ReadFault given taken gave took fits = tt
fits_text l l' w w' journal statuses.WriteFault given taken gave took fits = tt
fits_text l l' w w' journal statuses.NoMemory given taken gave took fits = tt
fits_text l l' w w' journal statuses.TooManyLines given taken gave took fits = (given, taken, gave, took, fits.1)

fits_settled : (l l' w w' : Option (List ℕ)) (journal : List Entry) (status : Status) (given taken : List ℕ) → Gave l l' given → Appends w w' taken → Fits l l' given taken journal status → IfSome (end_of status) (λ e. Exchanges l l' w w' (λ given taken. IsSettled l l' given))
fits_settled l l' w w' journal statuses.Done given taken gave took fits = (given, taken, gave, took, inl fits.0)
fits_settled l l' w w' journal statuses.Usage given taken gave took fits = tt
fits_settled l l' w w' journal (statuses.BadLine n) given taken gave took fits = (given, taken, gave, took, fits.0)
fits_settled l l' w w' journal statuses.ReadFault given taken gave took fits = tt
fits_settled l l' w w' journal statuses.WriteFault given taken gave took fits = tt
fits_settled l l' w w' journal statuses.NoMemory given taken gave took fits = tt
fits_settled l l' w w' journal statuses.TooManyLines given taken gave took fits = (given, taken, gave, took, fits.0)

fits_cut : (l l' w w' : Option (List ℕ)) (journal : List Entry) (status : Status) (given taken : List ℕ) → Gave l l' given → Appends w w' taken → Fits l l' given taken journal status → IsCut status → Exchanges l l' w w' (λ given taken. IsFront taken (text empty_opening given))
fits_cut l l' w w' journal statuses.Done given taken gave took fits cut = absurd cut
fits_cut l l' w w' journal statuses.Usage given taken gave took fits cut = absurd cut
fits_cut l l' w w' journal (statuses.BadLine n) given taken gave took fits cut = absurd cut
fits_cut l l' w w' journal statuses.ReadFault given taken gave took fits cut = (given, taken, gave, took, fits)
fits_cut l l' w w' journal statuses.WriteFault given taken gave took fits cut = (given, taken, gave, took, fits)
fits_cut l l' w w' journal statuses.NoMemory given taken gave took fits cut = (given, taken, gave, took, fits)
fits_cut l l' w w' journal statuses.TooManyLines given taken gave took fits cut = absurd cut

-- what is known of a run: the script was run, or the words were refused and nothing was read
abbrev RunsInside : Option ℕ → Option (List ℕ) → Option (List ℕ) → Option (List ℕ) → Option (List ℕ) → Status → Type 0
RunsInside n l l' w w' status = IsSome n → Ran l l' w w' status

abbrev RefusesOutside : Option ℕ → Option (List ℕ) → Option (List ℕ) → Option (List ℕ) → Option (List ℕ) → Status → Type 0
RefusesOutside n l l' w w' status = (IsSome n → ⊥) → AreRefused w w' status × (l' ≡ l)

pub text_clause : (words : Option ℕ) (l l' w w' : Option (List ℕ)) (status : Status) → RunsInside words l l' w w' status → RefusesOutside words l l' w w' status → IfSome (end_of status) (λ e. Exchanges l l' w w' (λ given taken. IsText given taken e))
text_clause words l l' w w' status inside outside = by (words_cases words)
  where
    by : IsSome words ⊎ (IsSome words → ⊥) → IfSome (end_of status) (λ e. Exchanges l l' w w' (λ given taken. IsText given taken e))
    by (inl h) = let ran = (inside h).run in fits_text l l' w w' (inside h).journal status ran.given ran.taken ran.gave ran.took ran.fits
    by (inr h) = outside_end status (λ e. Exchanges l l' w w' (λ given taken. IsText given taken e)) (outside_status w w' status (outside h).0)

pub settled_clause : (words : Option ℕ) (l l' w w' : Option (List ℕ)) (status : Status) → RunsInside words l l' w w' status → RefusesOutside words l l' w w' status → IfSome (end_of status) (λ e. Exchanges l l' w w' (λ given taken. IsSettled l l' given))
settled_clause words l l' w w' status inside outside = by (words_cases words)
  where
    by : IsSome words ⊎ (IsSome words → ⊥) → IfSome (end_of status) (λ e. Exchanges l l' w w' (λ given taken. IsSettled l l' given))
    by (inl h) = let ran = (inside h).run in fits_settled l l' w w' (inside h).journal status ran.given ran.taken ran.gave ran.took ran.fits
    by (inr h) = outside_end status (λ e. Exchanges l l' w w' (λ given taken. IsSettled l l' given)) (outside_status w w' status (outside h).0)

-- at Done the source has ended
pub ended_clause : (words : Option ℕ) (l l' w w' : Option (List ℕ)) (status : Status) → RunsInside words l l' w w' status → RefusesOutside words l l' w w' status → status ≡ statuses.Done → HasEnded l l'
ended_clause words l l' w w' status inside outside done = by (words_cases words)
  where
    by : IsSome words ⊎ (IsSome words → ⊥) → HasEnded l l'
    by (inl h) = let ran = (inside h).run in (subst (Fits l l' ran.given ran.taken (inside h).journal) done ran.fits).0
    by (inr h) = absurd (subst IsOutside done (outside_status w w' status (outside h).0))

cut_outside : (words : Option ℕ) (l l' w w' : Option (List ℕ)) (status : Status) → (IsSome words → ⊥) → AreRefused w w' status → l' ≡ l → IsCut status → Exchanges l l' w w' (λ given taken. IsFront taken (text_by words given))
cut_outside (Some n) l l' w w' status some refused same cut = absurd (some refl)
cut_outside None l l' w w' status some (inl h) same cut = absurd (subst IsCut h.0 cut)
cut_outside None l l' w w' status some (inr h) same cut = ([], h.0, subst (λ (x : Option (List ℕ)). Gave l x []) (sym same) (Gave-none l), h.1, h.2)

cut_inside : (words : Option ℕ) (l l' w w' : Option (List ℕ)) → IsSome words → Exchanges l l' w w' (λ given taken. IsFront taken (text empty_opening given)) → Exchanges l l' w w' (λ given taken. IsFront taken (text_by words given))
cut_inside (Some n) l l' w w' some h = h
cut_inside None l l' w w' some h = absurd (false≢true some)

pub cut_clause : (words : Option ℕ) (l l' w w' : Option (List ℕ)) (status : Status) → RunsInside words l l' w w' status → RefusesOutside words l l' w w' status → IsCut status → Exchanges l l' w w' (λ given taken. IsFront taken (text_by words given))
cut_clause words l l' w w' status inside outside cut = by (words_cases words)
  where
    by : IsSome words ⊎ (IsSome words → ⊥) → Exchanges l l' w w' (λ given taken. IsFront taken (text_by words given))
    by (inl h) =
        let ran = (inside h).run in
        cut_inside words l l' w w' h (fits_cut l l' w w' (inside h).journal status ran.given ran.taken ran.gave ran.took ran.fits cut)
    by (inr h) = let out = outside h in cut_outside words l l' w w' status h out.0 out.1 cut

refused_usage : (w w' : Option (List ℕ)) (status : Status) → AreRefused w w' status → status ≡ statuses.Usage → Appends w w' usage_line
refused_usage w w' status (inl h) is = h.1
refused_usage w w' status (inr h) is = by h.3
  where
    by : (status ≡ statuses.WriteFault) ⊎ (status ≡ statuses.NoMemory) → Appends w w' usage_line
    by (inl other) = cc
    by (inr other) = cc

pub usage_clause : (words : Option ℕ) (l l' w w' : Option (List ℕ)) (status : Status) → RunsInside words l l' w w' status → RefusesOutside words l l' w w' status → status ≡ statuses.Usage → (IsSome words → ⊥) × Appends w w' usage_line
usage_clause words l l' w w' status inside outside is = by (words_cases words)
  where
    by : IsSome words ⊎ (IsSome words → ⊥) → (IsSome words → ⊥) × Appends w w' usage_line
    by (inl h) = let ran = (inside h).run in absurd (subst (Fits l l' ran.given ran.taken (inside h).journal) is ran.fits)
    by (inr h) = (h, refused_usage w w' status (outside h).0 is)

fits_journal : (l l' w w' : Option (List ℕ)) (journal : List Entry) (status : Status) (given taken : List ℕ) → Gave l l' given → Appends w w' taken → Fits l l' given taken journal status → IsSome (end_of status) → Exchanges l l' w w' (λ given taken. journal ≡ journal_of empty_opening given)
fits_journal l l' w w' journal statuses.Done given taken gave took fits some = (given, taken, gave, took, fits.2)
fits_journal l l' w w' journal statuses.Usage given taken gave took fits some = absurd (false≢true some)
fits_journal l l' w w' journal (statuses.BadLine n) given taken gave took fits some = (given, taken, gave, took, fits.2)
fits_journal l l' w w' journal statuses.ReadFault given taken gave took fits some = absurd (false≢true some)
fits_journal l l' w w' journal statuses.WriteFault given taken gave took fits some = absurd (false≢true some)
fits_journal l l' w w' journal statuses.NoMemory given taken gave took fits some = absurd (false≢true some)
fits_journal l l' w w' journal statuses.TooManyLines given taken gave took fits some = (given, taken, gave, took, fits.2)

-- the journal of a run whose status names the script's end is that of what was read
pub ran_journal : (l l' w w' : Option (List ℕ)) (journal : List Entry) (status : Status) → RanWith l l' w w' journal status → IsSome (end_of status) → Exchanges l l' w w' (λ given taken. journal ≡ journal_of empty_opening given)
ran_journal l l' w w' journal status ran some = fits_journal l l' w w' journal status ran.given ran.taken ran.gave ran.took ran.fits some

-- the book that a session leaves is that of its run
pub has_book : (l l' w w' : Option (List ℕ)) (journal : List Entry) (status : Status) (book : Option Book) → RanWith l l' w w' journal status → MatchOption book (end_of status ≡ None) (λ b. IsSome (end_of status) × (b.journal ≡ journal) × IsBookOf empty_opening b) → HasBook l l' w w' status book
has_book l l' w w' journal status None ran h = h
has_book l l' w w' journal status (Some b) ran h =
    let found = ran_journal l l' w w' journal status ran h.0 in
    (h.0, h.2, (found.0, found.1, found.2, found.3, h.1 ∙ found.4))
