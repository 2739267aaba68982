-- Functions that build records of 80 bytes from their fields, for the examples. Each argument is
-- padded with spaces to the width of its field.
use Rattle.cif_laws.proofs.Common.{ℕ, ◌-◌, List, [], ◌∷◌, ◌++◌, length, replicate, codes}

-- the text, padded with spaces to this width
abbrev pub wide : ℕ → List ℕ → List ℕ
wide width text = text ++ replicate (width - length text) 32

-- no bytes, for a blank field
abbrev pub no_text : List ℕ
no_text = []

-- a header with these fields
abbrev pub hd : List ℕ → List ℕ → List ℕ → List ℕ → List ℕ → List ℕ
hd date time reference last indicator =
    wide 80 (codes "HDTPS.UDFROC1.PD240609" ++ wide 6 date ++ wide 4 time ++ wide 7 reference ++ wide 7 last ++ wide 1 indicator ++ codes "A")

-- a TIPLOC insert with these fields
abbrev pub ti : List ℕ → List ℕ → List ℕ
ti code text = wide 80 (codes "TI" ++ wide 7 code ++ wide 9 no_text ++ wide 26 text)

-- a TIPLOC amendment with these fields
abbrev pub ta : List ℕ → List ℕ → List ℕ → List ℕ
ta code text new = wide 80 (codes "TA" ++ wide 7 code ++ wide 9 no_text ++ wide 26 text ++ wide 28 no_text ++ wide 7 new)

-- a basic schedule with these fields
abbrev pub bs : List ℕ → List ℕ → List ℕ → List ℕ → List ℕ → List ℕ → List ℕ → List ℕ
bs transaction uid first last days identity indicator =
    wide 79
    (codes "BS" ++ wide 1 transaction ++ wide 6 uid ++ wide 6 first ++ wide 6 last ++ wide 7 days ++ codes " POO" ++ wide 4 identity) ++ wide 1 indicator

-- an origin with these fields
abbrev pub lo : List ℕ → List ℕ → List ℕ → List ℕ → List ℕ → List ℕ → List ℕ
lo code suffix departs public platform track =
    wide 80 (codes "LO" ++ wide 7 code ++ wide 1 suffix ++ wide 5 departs ++ wide 4 public ++ wide 3 platform ++ wide 3 track)

-- an intermediate location with these fields
abbrev pub li : List ℕ → List ℕ → List ℕ → List ℕ → List ℕ → List ℕ → List ℕ → List ℕ → List ℕ → List ℕ → List ℕ
li code suffix arrives departs passes public_arrival public_departure platform track path =
    wide 80 (codes "LI" ++ wide 7 code ++ wide 1 suffix ++ wide 5 arrives ++ wide 5 departs ++ wide 5 passes
    ++ wide 4 public_arrival ++ wide 4 public_departure ++ wide 3 platform ++ wide 3 track ++ wide 3 path)

-- a terminus with these fields
abbrev pub lt : List ℕ → List ℕ → List ℕ → List ℕ → List ℕ → List ℕ → List ℕ
lt code suffix arrives public platform path =
    wide 80 (codes "LT" ++ wide 7 code ++ wide 1 suffix ++ wide 5 arrives ++ wide 4 public ++ wide 3 platform ++ wide 3 path)

-- a trailer
abbrev pub zz : List ℕ
zz = wide 80 (codes "ZZ")

-- the header of the example file
abbrev pub f2_header : List ℕ
f2_header = hd (codes "090624") (codes "2100") (codes "DFROC1A") (codes "DFROC1Z") (codes "U")

-- the basic schedule of the example file
abbrev pub f2_basic : List ℕ
f2_basic = bs (codes "N") (codes "C10001") (codes "240610") (codes "240614") (codes "1111100") (codes "1A10") (codes "P")

-- the origin of the example file
abbrev pub f2_origin : List ℕ
f2_origin = lo (codes "ASHFELD") no_text (codes "0900") (codes "0900") (codes "1") (codes "SL")

-- the terminus of the example file
abbrev pub f2_terminus : List ℕ
f2_terminus = lt (codes "BRAYTON") no_text (codes "0930") (codes "0932") (codes "2") (codes "FL")

-- the example file: one schedule from ASHFELD to BRAYTON
abbrev pub f2 : List (List ℕ)
f2 = f2_header ∷ f2_basic ∷ f2_origin ∷ f2_terminus ∷ zz ∷ []

-- an association with these fields
abbrev pub aa : List ℕ → List ℕ → List ℕ → List ℕ → List ℕ → List ℕ → List ℕ → List ℕ → List ℕ → List ℕ → List ℕ → List ℕ → List ℕ
aa transaction base associated first last days category indicator location base_suffix associated_suffix stp =
    wide 79 (codes "AA" ++ wide 1 transaction ++ wide 6 base ++ wide 6 associated ++ wide 6 first ++ wide 6 last ++ wide 7 days
    ++ wide 2 category ++ wide 1 indicator ++ wide 7 location ++ wide 1 base_suffix ++ wide 1 associated_suffix ++ codes "TP") ++ wide 1 stp

-- a change en route with these fields
abbrev pub cr : List ℕ → List ℕ → List ℕ → List ℕ
cr code suffix identity = wide 80 (codes "CR" ++ wide 7 code ++ wide 1 suffix ++ codes "OO" ++ wide 4 identity)

-- the schedule of the example file
abbrev pub f2_schedule : List (List ℕ)
f2_schedule = f2_basic ∷ f2_origin ∷ f2_terminus ∷ []

-- the header of a file that renames a TIPLOC
abbrev pub rename_header : List ℕ
rename_header = hd (codes "100624") (codes "2100") (codes "DFROC1B") (codes "DFROC1A") (codes "U")

-- a TIPLOC amendment with a new code
abbrev pub rename_amend : List ℕ
rename_amend = ta (codes "ASHFELD") (codes "ASHFIELD NEW") (codes "ASHFLDN")

-- a file whose only unit is the amendment `rename_amend`
abbrev pub rename : List (List ℕ)
rename = rename_header ∷ rename_amend ∷ zz ∷ []

-- a schedule that passes midnight once
abbrev pub night_schedule : List (List ℕ)
night_schedule =
    bs (codes "N") (codes "C20001") (codes "240610") (codes "240610") (codes "1000000") (codes "2B20") (codes "P")
    ∷ lo (codes "ASHFELD") no_text (codes "2355") (codes "2355") (codes "1") (codes "SL")
    ∷ li (codes "COLWELL") no_text (codes "0000H") (codes "0000H") no_text (codes "0000") (codes "0001") (codes "2") (codes "SL") (codes "FL")
    ∷ li (codes "DUNMERE") no_text no_text no_text (codes "0010") no_text no_text no_text no_text no_text
    ∷ lt (codes "BRAYTON") no_text (codes "0020") (codes "0021") (codes "2") (codes "FL") ∷ []

-- a schedule with a change en route
abbrev pub changing_schedule : List (List ℕ)
changing_schedule =
    bs (codes "N") (codes "C50001") (codes "240610") (codes "240610") (codes "1000000") (codes "5E50") (codes "P")
    ∷ lo (codes "ASHFELD") no_text (codes "1200") no_text no_text no_text
    ∷ cr (codes "COLWELL") no_text (codes "5E51")
    ∷ li (codes "COLWELL") no_text no_text no_text (codes "1210") no_text no_text no_text no_text no_text
    ∷ lt (codes "BRAYTON") no_text (codes "1230") no_text no_text no_text ∷ []
