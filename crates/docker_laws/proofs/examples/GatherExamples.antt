-- A worked example of the docker lines that a walk gathers. A train ends at COLWELL at 23:50 and
-- becomes the train that leaves COLWELL after midnight.
use Rattle.cif_laws.proofs.Common.{◌≡◌, ℕ, List, [], ◌∷◌, map, refl, true, false, codes, calls_at, schedule_key, association_key, schedule_body}
use Rattle.cif_laws.proofs.Common.{association_body, Row, line_text}
use Rattle.jiff_core.specs.Calendar.{days_from_civil, day_count, days_of_years, days_of_months}
use Rattle.docker_laws.specs.LiveRows.{train_in, link_in}
use Rattle.docker_laws.specs.Gathering.{gathered, start_days}
use Rattle.cif_laws.proofs.records.Builders.{no_text, bs, lo, li, lt, aa}

abbrev base_lines : List (List ℕ)
base_lines =
    bs (codes "N") (codes "C40001") (codes "240610") (codes "240610") (codes "1000000") (codes "4D40") (codes "P")
    ∷ lo (codes "ASHFELD") no_text (codes "2300") no_text (codes "1") no_text
    ∷ lt (codes "COLWELL") no_text (codes "2350") no_text (codes "1") no_text ∷ []

abbrev next_lines : List (List ℕ)
next_lines =
    bs (codes "N") (codes "C40002") (codes "240611") (codes "240611") (codes "0100000") (codes "4D42") (codes "P")
    ∷ lo (codes "COLWELL") no_text (codes "0010") no_text (codes "1") no_text
    ∷ lt (codes "ASHFELD") no_text (codes "0100") no_text (codes "1") no_text ∷ []

abbrev link : List ℕ
link =
    aa (codes "N") (codes "C40001") (codes "C40002") (codes "240610") (codes "240610") (codes "1000000") (codes "NP") (codes "N")
    (codes "COLWELL") no_text no_text (codes "P")

abbrev rows : List Row
rows = (
  association_key (record { base = codes "C40001"; associated = codes "C40002"; start = 23537; location = codes "COLWELL"; suffix = 32; indicator = 80 }),
  association_body link,
)
    ∷ (schedule_key (record { uid = codes "C40001"; runs_from = 23537; indicator = 80 }), schedule_body base_lines)
    ∷ (schedule_key (record { uid = codes "C40002"; runs_from = 23538; indicator = 80 }), schedule_body next_lines) ∷ []

-- the start days for 10 June are 10, 9 and 8 June
days_looked_at : start_days 23537 ≡ 23537 ∷ 23536 ∷ 23535 ∷ []
days_looked_at = refl

first_days : start_days 1 ≡ 1 ∷ 0 ∷ []
first_days = refl

-- the lines at COLWELL on 10 June 2024, in the order in which the walk gathers them
at_colwell : map line_text (gathered (train_in rows) (link_in rows) (codes "COLWELL") 23537 rows)
    ≡ codes "2350  N 4D40 C40001 P   1                C40002  4D42   " ∷ codes "2350  A 4D40 C40001 P   1                ASHFELD COLWELL" ∷ []
unfolding days_from_civil day_count days_of_years days_of_months
at_colwell = refl

-- on 9 June there are no lines at COLWELL
day_before : gathered (train_in rows) (link_in rows) (codes "COLWELL") 23536 rows ≡ []
unfolding days_from_civil day_count days_of_years days_of_months
day_before = refl

-- rows in which the associated train is cancelled. The docker then shows `????` as the identity of
-- this train
abbrev cancelled : List Row
cancelled =
    let cancelling : List ℕ = bs (codes "N") (codes "C40002") (codes "240611") (codes "240611") (codes "0100000") (codes "4D42") (codes "C") in (
      association_key (record { base = codes "C40001"; associated = codes "C40002"; start = 23537; location = codes "COLWELL"; suffix = 32; indicator = 80 }),
      association_body link,
    )
    ∷ (schedule_key (record { uid = codes "C40001"; runs_from = 23537; indicator = 80 }), schedule_body base_lines)
    ∷ (schedule_key (record { uid = codes "C40002"; runs_from = 23538; indicator = 67 }), schedule_body (cancelling ∷ []))
    ∷ (schedule_key (record { uid = codes "C40002"; runs_from = 23538; indicator = 80 }), schedule_body next_lines) ∷ []

partner_cancelled : map line_text (gathered (train_in cancelled) (link_in cancelled) (codes "COLWELL") 23537 cancelled)
    ≡ codes "2350  N 4D40 C40001 P   1                C40002  ????   " ∷ codes "2350  A 4D40 C40001 P   1                ASHFELD COLWELL" ∷ []
unfolding days_from_civil day_count days_of_years days_of_months
partner_cancelled = refl

-- ---- a train that calls at one place twice, with two suffixes, and divides there

abbrev twice_lines : List (List ℕ)
twice_lines =
    bs (codes "N") (codes "C30001") (codes "240610") (codes "240610") (codes "1000000") (codes "3C30") (codes "P")
    ∷ lo (codes "ASHFELD") no_text (codes "1000") no_text (codes "1") no_text
    ∷ li (codes "COLWELL") no_text (codes "1010") (codes "1012") no_text no_text no_text (codes "3") no_text no_text
    ∷ li (codes "COLWELL") (codes "2") (codes "1040") (codes "1042") no_text no_text no_text (codes "4") no_text no_text
    ∷ lt (codes "BRAYTON") no_text (codes "1100") no_text (codes "2") no_text ∷ []

abbrev divided_lines : List (List ℕ)
divided_lines =
    bs (codes "N") (codes "C30002") (codes "240610") (codes "240610") (codes "1000000") (codes "3C32") (codes "P")
    ∷ lo (codes "COLWELL") no_text (codes "1045") no_text (codes "5") no_text
    ∷ lt (codes "DUNMERE") no_text (codes "1100") no_text (codes "1") no_text ∷ []

abbrev division : List ℕ
division =
    aa (codes "N") (codes "C30001") (codes "C30002") (codes "240610") (codes "240610") (codes "1000000") (codes "VV") (codes "S") (codes "COLWELL")
    (codes "2") no_text (codes "P")

abbrev divided : List Row
divided = (
  association_key (record { base = codes "C30001"; associated = codes "C30002"; start = 23537; location = codes "COLWELL"; suffix = 50; indicator = 80 }),
  association_body division,
)
    ∷ (schedule_key (record { uid = codes "C30001"; runs_from = 23537; indicator = 80 }), schedule_body twice_lines)
    ∷ (schedule_key (record { uid = codes "C30002"; runs_from = 23537; indicator = 80 }), schedule_body divided_lines) ∷ []

division_at_colwell : map line_text (gathered (train_in divided) (link_in divided) (codes "COLWELL") 23537 divided)
    ≡ codes "1040  V 3C30 C30001 P 2 4                C30002  3C32   " ∷ codes "1010  A 3C30 C30001 P   3                ASHFELD BRAYTON"
    ∷ codes "1012  D 3C30 C30001 P   3                ASHFELD BRAYTON" ∷ codes "1040  A 3C30 C30001 P 2 4                ASHFELD BRAYTON"
    ∷ codes "1042  D 3C30 C30001 P 2 4                ASHFELD BRAYTON" ∷ codes "1045  D 3C32 C30002 P   5                COLWELL DUNMERE" ∷ []
unfolding days_from_civil day_count days_of_years days_of_months
division_at_colwell = refl

-- the schedules `twice_lines` and `divided_lines` call at COLWELL, and `twice_lines` doesn't call
-- at ELM
colwell_called_at : (calls_at (codes "COLWELL") twice_lines ≡ true) × (calls_at (codes "COLWELL") divided_lines ≡ true)
    × (calls_at (codes "ELM    ") twice_lines ≡ false)
colwell_called_at = (refl, refl, refl)
