-- The detailed dockers of a summary are fixed by the summary's files, and are the detailed dockers of
-- the files' plain table. The same is true of detailed dockers without the short-term plan.
use Rattle.cif_laws.proofs.Common.{◌≡◌, ℕ, List, sym, subst, rules, ◌↔◌, IsDay, IsDayRefused, State, live_table, IsSummary, Table, IsPlainTable, IsDetailedText}
use Rattle.cif_laws.proofs.Common.{permanent_table, AreFiles, HaveSameFiles}
use Rattle.state_laws.proofs.states.CountedRows.{counted_bodies}
use Rattle.docker_laws.proofs.dockers.FewMidnights.{bodies_few}
use Rattle.docker_laws.proofs.dockers.LapsedOrigins.{detailed_text_iff}
use Rattle.docker_laws.proofs.dockers.OneOrigin.{one_detailed_text}
use Rattle.docker_laws.proofs.dockers.PermanentDocker.{lapses_alike}
use Rattle.docker_laws.proofs.dockers.PrintedDocker.{day_bound}
use Rattle.docker_laws.proofs.dockers.TextsOfFiles.{StaysLapsed, IsOneText, text_is_plain, text_of_files}

module _ (place : List ℕ) where
  -- the text is the detailed docker of the table
  abbrev Detailed : Table → ℕ → List ℕ → Type 0
  Detailed live day text = IsDetailedText live place day text

  -- the text is the detailed docker of the table without the short-term plan
  abbrev Permanent : Table → ℕ → List ℕ → Type 0
  Permanent live day text = IsDetailedText (permanent_table live) place day text

  detailed_lapses : StaysLapsed Detailed
  detailed_lapses = search (rules, detailed_text_iff, day_bound, bodies_few)

  permanent_lapses : StaysLapsed Permanent
  permanent_lapses horizon live day text is_day good from =
      subst (λ (t : Table). IsDetailedText (permanent_table live) place day text ↔ IsDetailedText t place day text) (sym (lapses_alike _ live))
      (detailed_text_iff _ (day_bound horizon is_day) _ (bodies_few (permanent_table live) (counted_bodies _ live good)) _ day from _)

  one_detailed : IsOneText Detailed
  one_detailed live day text other = one_detailed_text live place day text other

  one_permanent : IsOneText Permanent
  one_permanent = search (rules, one_detailed_text)

-- a detailed docker printed from a summary is the detailed docker of the plain table
pub detailed_is_plain : (files : List (List (List ℕ))) (horizon : ℕ) (state : State) (table : Table) (place : List ℕ) (day : ℕ) (text : List ℕ)
    → AreFiles files → IsDay horizon → IsSummary files horizon state → IsPlainTable files table → ¬ IsDayRefused horizon day
    → IsDetailedText (live_table state) place day text ↔ IsDetailedText table place day text
detailed_is_plain files horizon state table place day text = text_is_plain _ (detailed_lapses place) _ _ _ _ _ _

-- a permanent detailed docker printed from a summary is the permanent detailed docker of the plain
-- table
pub permanent_detailed_is_plain : (files : List (List (List ℕ))) (horizon : ℕ) (state : State) (table : Table) (place : List ℕ) (day : ℕ) (text : List ℕ)
    → AreFiles files → IsDay horizon → IsSummary files horizon state → IsPlainTable files table → ¬ IsDayRefused horizon day
    → IsDetailedText (permanent_table (live_table state)) place day text ↔ IsDetailedText (permanent_table table) place day text
permanent_detailed_is_plain files horizon state table place day text = text_is_plain _ (permanent_lapses place) _ _ _ _ _ _

-- two summaries of the same files have the same detailed docker for each place and each day, unless
-- the program refuses the docker because of a horizon
pub detailed_of_files : (files others : List (List (List ℕ))) (horizon theirs : ℕ) (one two : State) → AreFiles files → AreFiles others
    → HaveSameFiles files others → IsDay horizon → IsDay theirs → IsSummary files horizon one → IsSummary others theirs two
    → (place : List ℕ) (day : ℕ) → ¬ IsDayRefused horizon day → ¬ IsDayRefused theirs day → (text other : List ℕ)
    → IsDetailedText (live_table one) place day text → IsDetailedText (live_table two) place day other → text ≡ other
detailed_of_files files others horizon theirs one two are also same is_day day_too is that place =
    text_of_files _ (detailed_lapses place) (one_detailed place) _ _ _ _ _ _ are also same is_day day_too is that

-- two summaries of the same files have the same permanent detailed docker for each place and each
-- day, unless the program refuses the docker because of a horizon
pub permanent_detailed_of_files : (files others : List (List (List ℕ))) (horizon theirs : ℕ) (one two : State) → AreFiles files → AreFiles others
    → HaveSameFiles files others → IsDay horizon → IsDay theirs → IsSummary files horizon one → IsSummary others theirs two
    → (place : List ℕ) (day : ℕ) → ¬ IsDayRefused horizon day → ¬ IsDayRefused theirs day → (text other : List ℕ)
    → IsDetailedText (permanent_table (live_table one)) place day text → IsDetailedText (permanent_table (live_table two)) place day other → text ≡ other
permanent_detailed_of_files files others horizon theirs one two are also same is_day day_too is that place =
    text_of_files _ (permanent_lapses place) (one_permanent place) _ _ _ _ _ _ are also same is_day day_too is that
