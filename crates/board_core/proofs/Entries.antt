-- Entries and events, with one more of each.
use Rattle.board_core.proofs.Common.{◌≡◌, ℕ, List, [], ◌∷◌, ◌++◌, sym, ap, ◌∙◌, map-append, Setup, Answer, Content}
use Rattle.board_core.proofs.Common.{entry_of, entries_of, Event, Entry, event_of, events_of}

pub events_more : (units : ℕ) (answers : List Answer) (entries entries2 : List Entry) (e : Entry) →
    entries2 ≡ entries ++ e ∷ [] →
    events_of units answers entries2 ≡ events_of units answers entries ++ event_of units answers e ∷ []
events_more units answers entries entries2 e is =
    ap (events_of units answers) is ∙ map-append (event_of units answers) entries (e ∷ [])

pub entries_more : (h h2 : List (Event Answer)) (e : Event Answer) (entries entries2 : List Entry) → h2 ≡ h ++ e ∷ [] →
    entries2 ≡ entries ++ entry_of e ∷ [] → entries_of h ≡ entries → entries_of h2 ≡ entries2
entries_more h h2 e entries entries2 is is2 was =
    ap entries_of is ∙ map-append entry_of h (e ∷ []) ∙ ap (λ (xs : List Entry). xs ++ entry_of e ∷ []) was ∙ sym is2

abbrev pub content : Setup → List (Event Answer) → Content
content b h = record { setup = b; events = h }
