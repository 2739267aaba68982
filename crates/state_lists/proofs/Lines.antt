-- The list of a state's timing points is the concatenation of the lines of all entries.
use Rattle.cif_laws.proofs.Common.{◌≡◌, List, ℕ, [], ◌∷◌, map, refl, ap, sym, ◌∙◌, arith, rules, Option, flat_map, Key, tiploc_key, Body, tiploc_body, Entry}
use Rattle.cif_laws.proofs.Common.{State, IsValid, live_table, ended, Row, IsPlacesText}
use Rattle.std.proofs.lemmas.List.Folds.{flat_map-map}
use Rattle.cif_device.specs.Device.{Takes, TakesPart}
use Rattle.cif_change.specs.declared.key.Key.{Key as Kept}
use Rattle.docker_join.specs.declared.entry.Entry.{Entry as Held}
use Rattle.docker_join.specs.Meaning.{row_meant}
use Rattle.state_index.specs.Counts.{IsCallingCount}
use Rattle.docker_state.specs.Live.{live_rows}
use Rattle.state_lists.specs.Gained.{Gains, GainsPart}
use Rattle.docker_model.specs.lists.PlacesText.{place_line, place_text, places_text}
use Rattle.state_lists.specs.RowLines.{row_line}
use Rattle.state_lists.proofs.Counts.{count_is, rows_are}

-- the line for a row of the code's type. `rows` are all live rows
abbrev pub kept_line : List Row → Kept × Held → List ℕ
kept_line rows row = row_line rows (row_meant row)

-- the lines of all entries are the lines of the live entries, because an entry that isn't live has
-- no line
lines_are : (rows : List Row) (entries : List (Key × Entry))
    → flat_map (row_line rows) entries ≡ flat_map (λ (row : Row). place_line rows row.0 row.1) (live_rows entries)
lines_are rows [] = refl
lines_are rows (entry ∷ entries) = grind (arith, (lines_are rows entries))

module _ (state : State) (valid : IsValid state) (rows : List (Kept × Held)) (are : map row_meant rows ≡ state.entries) where
  text_is : flat_map (kept_line (live_rows state.entries)) rows ≡ places_text (live_rows state.entries)
  text_is =
      sym (flat_map-map (row_line (live_rows state.entries)) row_meant rows)
      ∙ ap (flat_map (row_line (live_rows state.entries))) are ∙ lines_are (live_rows state.entries) state.entries

  is_text : IsPlacesText (live_table state) (flat_map (kept_line (live_rows state.entries)) rows)
  is_text = record { rows = live_rows state.entries; are = rows_are state valid; text_is = text_is }

  -- if a sink gains the lines of all entries, it gains the list of timing points
  pub list_taken : (old new : Option (List ℕ)) → Takes old (flat_map (kept_line (live_rows state.entries)) rows) new
      → Gains (IsPlacesText (live_table state)) old new
  list_taken old new taken = record { text = flat_map (kept_line (live_rows state.entries)) rows; is = is_text; gained = taken }

  -- if a sink gains a proper prefix of the lines of all entries, it gains a proper prefix of the
  -- list of timing points
  pub list_begun : (old new : Option (List ℕ)) → TakesPart old (flat_map (kept_line (live_rows state.entries)) rows) new
      → GainsPart (IsPlacesText (live_table state)) old new
  list_begun = search (rules, is_text)

-- the line that is written for a timing point equals the result of `place_line` for the timing
-- point's key and body
pub line_is : (state : State) → IsValid state → (key : Key) (body : Body) (code details : List ℕ) (count : ℕ) (bytes : List ℕ)
    → key ≡ tiploc_key code → body ≡ tiploc_body details → IsCallingCount (live_table state) code count
    → bytes ≡ ended (place_text code details count) → bytes ≡ place_line (live_rows state.entries) key body
line_is state valid key body code details count bytes key_is body_is counted is =
    is ∙ ap (λ n. ended (place_text code details n)) (count_is state valid code count counted)
    ∙ sym (λ i. place_line (live_rows state.entries) (key_is i) (body_is i))
