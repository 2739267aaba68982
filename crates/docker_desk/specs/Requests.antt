-- The request in a line. The line's first word is a verb, and its other words must fit the verb.
use Rattle.std.specs.Prelude.{◌≡◌, ℕ, Bool, true, false, not, if◌then◌else◌, List, [], ◌∷◌, ◌++◌, Option, Some, None, IsTrue, codes}
use Rattle.std.specs.Prelude.{filter, map}
use Rattle.std.specs.List.{before_first, after_first}
use Rattle.docker_cmd.specs.Words.{NamesDay, NamesStored, OfOne, OfTwo, Text, is_plain_word, usage_with, with_bars, word_named}
use Rattle.docker_cmd.specs.JobLine.{is_space, words_in}
use Rattle.docker_desk.specs.Queries.{AreIdentityAndDay, ArePlaceAndDay, AreTrainAndDay, docker_word}
use Rattle.docker_desk.specs.declared.query.DockerKind.TheVariants as kind
use Rattle.docker_desk.specs.declared.query.Query.{Query}
use Rattle.docker_desk.specs.declared.query.Query.TheVariants as query
use Rattle.docker_desk.specs.declared.requests.RequestRow as given
use Rattle.docker_desk.specs.declared.requests.Verb.{Verb}
use Rattle.docker_desk.specs.declared.requests.Verb.TheVariants as verb
use Rattle.docker_desk.specs.declared.requests.Request.{Request}
use Rattle.docker_desk.specs.declared.requests.Request.TheVariants as code

-- a request, with the query, the day or the file that it names. `show_request` stands for all
-- requests that only show something
pub data RequestView : Type 0 where
  show_request : (query : Query) → RequestView
  renew_request : RequestView
  take_request : (file : Text) → RequestView
  merge_request : (other : Text) → RequestView
  horizon_request : (day : ℕ) → RequestView
  save_request : RequestView

-- converts the code's `Request` to the `RequestView` of the definitions
abbrev pub request_meant : Request → RequestView
request_meant (code.Show query) = show_request query
request_meant code.Renew = renew_request
request_meant (code.Take file) = take_request file.now
request_meant (code.Merge other) = merge_request other.now
request_meant (code.Horizon day) = horizon_request day
request_meant code.Save = save_request

-- a row of the table of requests: the verb, the names of the words after it, and whether the
-- request is allowed only if the desk may write
pub record RequestRow : Type 0 where
  pub name : Text
  pub ids : List Text
  pub writes : Bool

-- makes a row from these columns
abbrev pub row : Text → List Text → Bool → RequestRow
row name ids writes = record { name = name; ids = ids; writes = writes }

-- converts the code's `RequestRow` to the `RequestRow` of the definitions
abbrev pub row_meant : given.RequestRow → RequestRow
row_meant it = row it.name.now (map (λ id. id.now) it.ids.now) it.writes

-- the table of requests: the row of each verb
abbrev pub row_of : Verb → RequestRow
row_of (verb.Docker kind) = row (docker_word kind) (codes "TIPLOC" ∷ codes "DATE" ∷ []) false
row_of verb.Train = row (codes "train") (codes "UID" ∷ codes "DATE" ∷ []) false
row_of verb.Trains = row (codes "trains") (codes "IDENTITY" ∷ codes "DATE" ∷ []) false
row_of verb.Files = row (codes "files") [] false
row_of verb.Places = row (codes "places") [] false
row_of verb.Known = row (codes "known") [] false
row_of verb.Renew = row (codes "renew") [] false
row_of verb.Take = row (codes "take") (codes "FILE" ∷ []) true
row_of verb.Merge = row (codes "merge") (codes "OTHER" ∷ []) true
row_of verb.Horizon = row (codes "horizon") (codes "DATE" ∷ []) true
row_of verb.Save = row (codes "save") [] true

-- all verbs, in the order of the usage line
abbrev pub verbs : List Verb
verbs =
    verb.Docker kind.Ordinary ∷ verb.Docker kind.Permanent ∷ verb.Docker kind.Detailed ∷ verb.Docker kind.PermanentDetailed ∷ verb.Train ∷ verb.Trains
    ∷ verb.Files ∷ verb.Places ∷ verb.Known ∷ verb.Renew ∷ verb.Take ∷ verb.Merge ∷ verb.Horizon ∷ verb.Save ∷ []

-- the name of a verb, as bytes
abbrev pub name_of : Verb → Text
name_of verb = (row_of verb).name

-- whether the requests with this verb are allowed only if the desk may write
abbrev pub is_writing : Verb → Bool
is_writing verb = (row_of verb).writes

-- the verb with this name, if there is one
abbrev pub verb_named : Text → Option Verb
verb_named = word_named name_of verbs

-- the part of the usage line that shows these verbs and the words after them
abbrev pub usages : List Verb → Text
usages requests = with_bars (map (λ verb. usage_with (name_of verb) (row_of verb).ids) requests)

-- the text that answers a line that isn't a request: the usage line
abbrev pub usage_line : Text
usage_line =
    codes "desk: usage: [--write] STATE, and then a line for each request: " ++ usages (filter (λ verb. not (is_writing verb)) verbs)
    ++ codes " | with --write " ++ usages (filter is_writing verbs) ++ codes "\n"

-- a text without its leading spaces
abbrev pub without_spaces : List ℕ → List ℕ
without_spaces [] = []
without_spaces (byte ∷ bytes) = if is_space byte then without_spaces bytes else byte ∷ bytes

-- the first word of a text; empty if the text has no words
abbrev pub first_word : List ℕ → Text
first_word text = before_first is_space (without_spaces text)

-- the text after the first word of a text, without leading spaces
abbrev pub after_word : List ℕ → List ℕ
after_word text = without_spaces (after_first is_space (without_spaces text))

-- the text names this file: it is the file's name, isn't empty, doesn't begin with a hyphen, and
-- isn't `stdin`
pub record NamesFile (text : List ℕ) (file : Text) : Type 0 where
  pub same : file ≡ text
  pub plain : IsTrue (is_plain_word text)
  pub stored : NamesStored text

-- the request is this one, which needs no words after its verb, and the rest of its line has none
abbrev pub IsAlone : RequestView → List ℕ → RequestView → Type 0
IsAlone alone rest request = (words_in rest ≡ []) × (request ≡ alone)

-- a line with this verb makes this request, if this is the rest of the line after the verb
abbrev pub MakesRequest : Verb → List ℕ → RequestView → Type 0
MakesRequest (verb.Docker kind) rest request = (place : List ℕ) × ((day : ℕ)
    × (OfTwo (ArePlaceAndDay place day) (words_in rest) × (request ≡ show_request (query.Docker kind place day))))
MakesRequest verb.Train rest request = (uid : List ℕ) × ((day : ℕ)
    × (OfTwo (AreTrainAndDay uid day) (words_in rest) × (request ≡ show_request (query.Train uid day))))
MakesRequest verb.Trains rest request = (identity : List ℕ) × ((day : ℕ)
    × (OfTwo (AreIdentityAndDay identity day) (words_in rest) × (request ≡ show_request (query.Trains identity day))))
MakesRequest verb.Files rest request = IsAlone (show_request query.Files) rest request
MakesRequest verb.Places rest request = IsAlone (show_request query.Places) rest request
MakesRequest verb.Known rest request = IsAlone (show_request query.Known) rest request
MakesRequest verb.Renew rest request = IsAlone renew_request rest request
MakesRequest verb.Take rest request = (file : Text) × (NamesFile rest file × (request ≡ take_request file))
MakesRequest verb.Merge rest request = (other : Text) × (NamesFile rest other × (request ≡ merge_request other))
MakesRequest verb.Horizon rest request = (day : ℕ)
    × (OfOne (λ date. NamesDay date day) (words_in rest) × (request ≡ horizon_request day))
MakesRequest verb.Save rest request = IsAlone save_request rest request

-- the line is this request: its first word is a verb that makes the request with the rest of the line.
-- The desk may write if the verb requires it
pub record IsRequestOf (may_write : Bool) (line : List ℕ) (request : RequestView) : Type 0 where
  pub verb : Verb
  pub name : first_word line ≡ name_of verb
  pub makes : MakesRequest verb (after_word line) request
  pub allowed : is_writing verb ≡ true → may_write ≡ true

-- `Is` holds for this request; None says that `Is` holds for no request
abbrev pub FindsRequest : (RequestView → Type 0) → Option RequestView → Type 0
FindsRequest Is (Some request) = Is request
FindsRequest Is None = (request : RequestView) → ¬ Is request

-- the line is this request; None says that it isn't a request
abbrev pub AsksFor : Bool → List ℕ → Option RequestView → Type 0
AsksFor may_write line request = FindsRequest (IsRequestOf may_write line) request

-- the text has exactly these two words; None says that it doesn't have exactly two words
abbrev pub HasTwoWords : List ℕ → Option (Text × Text) → Type 0
HasTwoWords text (Some words) = words_in text ≡ words.0 ∷ words.1 ∷ []
HasTwoWords text None = (first second : Text) → ¬ (words_in text ≡ first ∷ second ∷ [])

-- the text has exactly this word; None says that it doesn't have exactly one word
abbrev pub HasOneWord : List ℕ → Option Text → Type 0
HasOneWord text (Some word) = words_in text ≡ word ∷ []
HasOneWord text None = (word : Text) → ¬ (words_in text ≡ word ∷ [])
