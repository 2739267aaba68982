-- A list of trains is written row by row, by a walk over all live rows.
use Rattle.cif_laws.proofs.Common.{◌≡◌, ℕ, List, [], ◌∷◌, sym, subst, Some, append-nil, Contains, arith, rules, common_steps, Option, ◌↔◌, Bool, true, false}
use Rattle.cif_laws.proofs.Common.{flat_map, Train, ended, Key, Body, ScheduleKey, AreInKeyOrder, AreRowsOf, Row, HasGoodBodies, State, live_table, Table}
use Rattle.cif_device.specs.Device.{Takes, TakesPart}
use Rattle.cif_laws.proofs.lists.Membership.{cons-Contains, cons-Contains-first}
use Rattle.docker_day.proofs.Written.{Leads, both_taken, part_of_back, part_of_front}
use Rattle.docker_state.specs.Timetables.{live_in}
use Rattle.train_choice.specs.Along.{AreGoodRows, AreLive}
use Rattle.docker_train.specs.TrainsListed.{ListsPart, ListsTrains}
use Rattle.docker_model.specs.lists.TrainsText.{train_columns}
use Rattle.docker_train.specs.TrainRows.{Listing, is_listed, row_line, schedule_line}
use Rattle.docker_train.proofs.ListedTrains.{is_trains_text}

-- before the first row, writing all rows completes the text
pub rows_first : (bytes : Row → List ℕ) (rows rest : List Row) (first : Option (List ℕ)) → rest ≡ rows → Leads bytes rows rest first first
rows_first = search rules

-- after a row is written, writing the later rows completes the text
pub rows_on : (bytes : Row → List ℕ) (rows rest : List Row) (row : Row) (more : List Row) (first now next : Option (List ℕ)) → rest ≡ row ∷ more
    → Leads bytes rows rest first now → Takes now (bytes row) next → Leads bytes rows more first next
rows_on bytes rows rest row more first now next is leads taken = record {
  whole = λ last later. (here leads).whole last (both_taken now next last (bytes row) (flat_map bytes more) taken later);
  part = λ last later. (here leads).part last (part_of_back now next last (bytes row) (flat_map bytes more) taken later);
}
  where
    here : Leads bytes rows rest first now → Leads bytes rows (row ∷ more) first now
    here it = subst (λ (left : List Row). Leads bytes rows left first now) is it

-- if only a proper prefix of a row's line is written, the sink has gained a proper prefix of the
-- text
pub rows_part : (bytes : Row → List ℕ) (rows rest : List Row) (row : Row) (more : List Row) (first now next : Option (List ℕ)) → rest ≡ row ∷ more
    → Leads bytes rows rest first now → TakesPart now (bytes row) next → TakesPart first (flat_map bytes rows) next
rows_part = grind (common_steps, arith, part_of_front)

-- after the last row, the whole text is written
pub rows_last : (bytes : Row → List ℕ) (rows rest : List Row) (first now : Option (List ℕ)) → rest ≡ [] → Leads bytes rows rest first now
    → Takes first (flat_map bytes rows) now
rows_last = search (rules, append-nil)

-- the rows of a live table are live, and their bodies are well formed
pub rows_live : (live : Table) (rows : List Row) → ((key : Key) (body : Body) → Contains rows (key, body) → live key ≡ Some body) → AreLive live rows
rows_live live [] each = tt
rows_live live (row ∷ rows) each =
    (each row.0 row.1 (cons-Contains-first row rows), rows_live live rows (λ key body among. each key body (cons-Contains row rows (key, body) among)))

pub rows_good : (live : Table) (rows : List Row) → HasGoodBodies live → AreLive live rows → AreGoodRows rows
rows_good live [] good are = tt
rows_good live (row ∷ rows) good are = (good row.0 row.1 are.0, rows_good live rows good are.1)

-- the rows of a walk over a live table are the rows of the table
pub walk_is : (live : Table) (walk rows : List Row) → walk ≡ rows → AreInKeyOrder walk
    → ((key : Key) (body : Body) → Contains walk (key, body) ↔ (live key ≡ Some body)) → AreRowsOf live rows
walk_is live walk rows same up members = subst (AreRowsOf live) same (record { ascending = up; members = members })

-- a statement about the line of a row, for all rows of the listing's table, is true of the line for
-- these rows, this identity and this day
pub row_told : (P : List ℕ → Type 0) (state : State) (identity : List ℕ) (day : ℕ) (listing : Listing) (rows : List Row) (row : Row)
    → listing ≡ record { timetable = record { state = state; permanent = false }; identity = identity; day = day }
    → AreRowsOf (live_table state) rows
    → ((walk : List Row) → AreRowsOf (live_in listing.timetable) walk → P (row_line walk listing.identity listing.day row))
    → P (row_line rows identity day row)
row_told P state identity day listing rows row same are told =
    subst (λ (it : Listing). P (row_line rows it.identity it.day row)) same
    (told rows (subst (λ (it : Listing). AreRowsOf (live_in it.timetable) rows) (sym same) are))

-- if a row is live, it is in the listing's table
pub live_told : (state : State) (identity : List ℕ) (day : ℕ) (listing : Listing) (key : Key) (body : Body)
    → listing ≡ record { timetable = record { state = state; permanent = false }; identity = identity; day = day }
    → live_table state key ≡ Some body → live_in listing.timetable key ≡ Some body
live_told state identity day listing key body same is = subst (λ (it : Listing). live_in it.timetable key ≡ Some body) (sym same) is

-- the bytes that are written for a listed schedule are its line
pub line_told : (rows : List Row) (identity : List ℕ) (day : ℕ) (train : Train) (told : ℕ) (key : ScheduleKey) (answer : Bool) (bytes : List ℕ) → told ≡ day
    → key ≡ train.key → answer ≡ is_listed rows identity day train → answer ≡ true → bytes ≡ ended (train_columns told key)
    → bytes ≡ schedule_line rows identity day (Some train)
line_told = search rules

-- if a sink gains the lines of all live rows, it gains the list of trains
pub list_taken : (state : State) (rows : List Row) → AreRowsOf (live_table state) rows → (identity : List ℕ) (day : ℕ) (old new : Option (List ℕ))
    → Takes old (flat_map (row_line rows identity day) rows) new → ListsTrains (live_table state) identity day old new
list_taken = search (rules, is_trains_text)

-- if a sink gains a proper prefix of the lines of all live rows, it gains a proper prefix of the
-- list of trains
pub list_begun : (state : State) (rows : List Row) → AreRowsOf (live_table state) rows → (identity : List ℕ) (day : ℕ) (old new : Option (List ℕ))
    → TakesPart old (flat_map (row_line rows identity day) rows) new → ListsPart (live_table state) identity day old new
list_begun = search (rules, is_trains_text)
