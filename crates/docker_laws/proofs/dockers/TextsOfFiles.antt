-- Texts that a table determines, and that don't change when its rows lapse. If two states are
-- summaries of the same files, their texts of this kind are equal. If these files have distinct
-- moments, the texts are also the texts of the files' plain table.
use Rattle.cif_laws.proofs.Common.{◌≡◌, ℕ, ◌+◌, ◌≤◌, List, sym, subst, rules, length, map, All, inl, inr, ap, ◌∙◌, Some, None, ◌↔◌, max, Option, fold}
use Rattle.cif_laws.proofs.Common.{le-max_left, le-max_right, max-eq_left, max-eq_right, ltb-true, ltb-false, IsDay, IsDayRefused, lapse_table, State, IsValid}
use Rattle.cif_laws.proofs.Common.{live_table, lapse_state, HasGoodBodies, IsBodyOf, IsSummary, IsEntryOf, Table, IsPlainTable, empty_table, from_last_full}
use Rattle.cif_laws.proofs.Common.{AreFiles, HaveSameFiles, IsFile, most_records, Key, Act, delete, put, Body, FileStamp, ledger_item_of, IsFloor, Entry, op_of}
use Rattle.cif_laws.proofs.Common.{body_of}
use Rattle.state_laws.proofs.states.Lapse.{max_most}
use Rattle.state_laws.proofs.states.PlainLive.{lapse_table_none, live_is_lapsed_plain}
use Rattle.state_laws.proofs.states.SummaryLaws.{summary_unique, lapsed_summary}
use Rattle.state_laws.proofs.states.SummaryValid.{summary_is_valid}
use Rattle.state_laws.proofs.states.TableLapsed.{live_lapsed}
use Rattle.state_laws.proofs.states.GoodBodies.{good_bodies}
use Rattle.cif_laws.proofs.files.FileChanges.{body_of_file}
use Rattle.state_laws.proofs.states.PlainTable.{entries_along, step, last_there, after_files_is, entries_ascend, suffix_ascends, out_entries}

-- if neither of two horizons makes the program refuse the dockers of a day, the greater horizon
-- doesn't make the program refuse them either
greater_prints : (a b day : ℕ) → ¬ IsDayRefused a day → ¬ IsDayRefused b day → ¬ IsDayRefused (max a b) day
greater_prints = search (rules, ltb-true, max-eq_right, max-eq_left, ltb-false)

-- ---- the bodies of a plain table are well formed

put_of : (act : Act) (body : Body) → body_of (op_of act) ≡ Some body → act ≡ put body
put_of delete body none = cc
put_of (put here) body some = let same : here ≡ body = cc in ap put same

module _ (files : List (List (List ℕ))) (each : All IsFile files) (few : All (λ file. length file ≤ most_records) files) (table : Table)
    (plain : IsPlainTable files table)
    (floor : Option FileStamp) (is_floor : IsFloor (map ledger_item_of files) floor) where
  body_made_good : (key : Key) (entry : Entry) (body : Body) → IsEntryOf files floor key entry → body_of entry.op ≡ Some body → IsBodyOf key body
  body_made_good = search (rules, put_of, body_of_file)

  -- if each file has at most `most_records` records, the bodies in the plain table of the files are
  -- well formed
  pub plain_bodies : HasGoodBodies table
  plain_bodies key body is =
      elim (last_there (entries_along (from_last_full plain.ordered)) empty_table key
      (entries_ascend (from_last_full plain.ordered) (suffix_ascends plain.ordered plain.order.ascending))) [
        | inl none ↦ let bad : None ≡ Some body = sym none.1 ∙ sym table_is ∙ is in cc
        | inr last ↦ body_made_good key last.0 body (out_entries files plain.ordered plain.order floor is_floor key last.0 last.1)
            (sym last.2 ∙ sym table_is ∙ is)
      ]
    where
      table_is : table key ≡ fold step empty_table (entries_along (from_last_full plain.ordered)) key
      table_is = plain.is key ∙ (λ i. after_files_is empty_table (from_last_full plain.ordered) i key)

-- ---- texts that stay when rows lapse

-- on each day from the third day after a horizon, a table has the same texts before and after its
-- rows lapse
abbrev pub StaysLapsed : (Table → ℕ → List ℕ → Type 0) → Type 0
StaysLapsed Tells = (horizon : ℕ) (live : Table) (day : ℕ) (text : List ℕ) → IsDay horizon → HasGoodBodies live → horizon + 3 ≤ day
    → Tells live day text ↔ Tells (lapse_table horizon live) day text

-- a table has at most one text for a day
abbrev pub IsOneText : (Table → ℕ → List ℕ → Type 0) → Type 0
IsOneText Tells = (live : Table) (day : ℕ) (text other : List ℕ) → Tells live day text → Tells live day other → text ≡ other

module _ (Tells : Table → ℕ → List ℕ → Type 0) (lapses : StaysLapsed Tells) where
  -- on each day that isn't refused because of the horizon, a table has the same texts before and
  -- after its rows lapse
  lapsed_iff : (horizon : ℕ) (live : Table) (day : ℕ) (text : List ℕ) → IsDay horizon → HasGoodBodies live → ¬ IsDayRefused horizon day
      → Tells live day text ↔ Tells (lapse_table horizon live) day text
  lapsed_iff = search (rules, ltb-true, ltb-false, lapse_table_none)

  -- a text of a summary is the text of the plain table
  pub text_is_plain : (files : List (List (List ℕ))) (horizon : ℕ) (state : State) (table : Table) (day : ℕ) (text : List ℕ) → AreFiles files
      → IsDay horizon → IsSummary files horizon state → IsPlainTable files table → ¬ IsDayRefused horizon day
      → Tells (live_table state) day text ↔ Tells table day text
  text_is_plain files horizon state table day text are is_day summary plain printed =
      let told = lapsed_iff horizon table day text is_day (plain_bodies files are.0 are.1 table plain summary.floor summary.is_floor) printed in
      subst (λ (t : Table). Tells t day text ↔ Tells table day text) (sym (live_is_lapsed_plain files horizon state table summary plain)) (told.1, told.0)

  -- on each day that isn't refused because of the horizon, a state has the same texts after its
  -- entries lapse
  stays : (horizon : ℕ) (state : State) (day : ℕ) (text : List ℕ) → IsDay horizon → IsValid state → ¬ IsDayRefused horizon day
      → Tells (live_table state) day text → Tells (live_table (lapse_state horizon state)) day text
  stays horizon state day text is_day valid printed is = subst (λ (t : Table). Tells t day text) (sym (live_lapsed _ state))
      ((lapsed_iff _ (live_table state) _ text is_day (good_bodies _ valid) printed).0 is)

  -- two summaries of the same files have the same text for each day that isn't refused because of
  -- their horizons
  pub text_of_files : IsOneText Tells → (files others : List (List (List ℕ))) (horizon theirs : ℕ) (one two : State) → AreFiles files → AreFiles others
      → HaveSameFiles files others → IsDay horizon → IsDay theirs → IsSummary files horizon one → IsSummary others theirs two
      → (day : ℕ) → ¬ IsDayRefused horizon day → ¬ IsDayRefused theirs day → (text other : List ℕ)
      → Tells (live_table one) day text → Tells (live_table two) day other → text ≡ other
  text_of_files one_text files others horizon theirs one two are also same is_day day_too is that day prints prints_too text other told told_too =
      let greater = max horizon theirs in
      let day_is : IsDay greater = max_most _ _ _ is_day day_too in
      let printed = greater_prints _ _ _ prints prints_too in
      let states = summary_unique _ _ same _ _ _ (lapsed_summary _ _ _ _ (le-max_left horizon theirs) is)
      (lapsed_summary _ _ _ _ (le-max_right horizon theirs) that) in
      one_text (live_table (lapse_state greater two)) day text other (subst (λ (s : State). Tells (live_table s) day text) states
      (stays _ _ _ _ day_is (summary_is_valid _ _ _ is_day are.0 are.1 is) printed told))
      (stays _ _ _ _ day_is (summary_is_valid _ _ _ day_too also.0 also.1 that) printed told_too)
