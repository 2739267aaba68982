-- What a desk can show. A query is what a request asks for if it only shows something. For each
-- query there is a row in each table of this file.
use Rattle.std.specs.Prelude.{◌≡◌, ◌<◌, ℕ, List, IsTrue, codes, length}
use Rattle.docker_model.specs.records.Record.{IsTextOfLength}
use Rattle.docker_model.specs.state.State.{State, live_table}
use Rattle.docker_model.specs.state.Lapse.{IsDayRefused}
use Rattle.docker_model.specs.state.Table.{Table}
use Rattle.docker_model.specs.docker.DetailedText.{IsDetailedText}
use Rattle.docker_model.specs.docker.DockerText.{IsDockerText, files_text}
use Rattle.docker_model.specs.docker.Permanent.{permanent_table}
use Rattle.docker_model.specs.lists.KnownText.{IsKnownText}
use Rattle.docker_model.specs.lists.PlacesText.{IsPlacesText}
use Rattle.docker_model.specs.lists.TrainText.{IsTrainText}
use Rattle.docker_model.specs.lists.TrainsText.{IsTrainsText}
use Rattle.docker_cmd.specs.Words.{NamesDay, NamesPlace, Text, is_plain_word}
use Rattle.docker_desk.specs.declared.query.DockerKind.{DockerKind}
use Rattle.docker_desk.specs.declared.query.DockerKind.TheVariants as kind
use Rattle.docker_desk.specs.declared.query.Query.{Query}
use Rattle.docker_desk.specs.declared.query.Query.TheVariants as query

-- the word that requests a docker of this kind
abbrev pub docker_word : DockerKind → Text
docker_word kind.Ordinary = codes "print"
docker_word kind.Permanent = codes "permanent"
docker_word kind.Detailed = codes "detail"
docker_word kind.PermanentDetailed = codes "permanent-detail"

-- ---- the words of a query

-- the word names this train: it is the train's UID, of six bytes
pub record NamesTrain (word : Text) (uid : List ℕ) : Type 0 where
  pub six : IsTextOfLength 6 word
  pub same : uid ≡ word

-- the word names this train identity, which has four bytes
pub record NamesIdentity (word : Text) (identity : List ℕ) : Type 0 where
  pub four : length word ≡ 4
  pub same : identity ≡ word

-- the first word names this timing point and doesn't begin with a hyphen, and the second word names
-- this day
pub record ArePlaceAndDay (place : List ℕ) (day : ℕ) (tiploc date : Text) : Type 0 where
  pub plain : IsTrue (is_plain_word tiploc)
  pub named : NamesPlace tiploc place
  pub dated : NamesDay date day

-- the first word names this train, and the second word names this day
pub record AreTrainAndDay (uid : List ℕ) (day : ℕ) (word date : Text) : Type 0 where
  pub named : NamesTrain word uid
  pub dated : NamesDay date day

-- the first word names this train identity, and the second word names this day
pub record AreIdentityAndDay (identity : List ℕ) (day : ℕ) (word date : Text) : Type 0 where
  pub named : NamesIdentity word identity
  pub dated : NamesDay date day

-- ---- what a query shows

-- the text is the docker of this kind, made from this table for a timing point and a day
abbrev pub IsDockerShown : DockerKind → Table → List ℕ → ℕ → List ℕ → Type 0
IsDockerShown kind.Ordinary live place day text = IsDockerText live place day text
IsDockerShown kind.Permanent live place day text = IsDockerText (permanent_table live) place day text
IsDockerShown kind.Detailed live place day text = IsDetailedText live place day text
IsDockerShown kind.PermanentDetailed live place day text = IsDetailedText (permanent_table live) place day text

-- the text is what a desk with this state shows for the query
abbrev pub IsQueryText : State → Query → List ℕ → Type 0
IsQueryText state (query.Docker kind place day) text = IsDockerShown kind (live_table state) place day text
IsQueryText state (query.Train uid day) text = IsTrainText state uid day text
IsQueryText state (query.Trains identity day) text = IsTrainsText (live_table state) identity day text
IsQueryText state query.Files text = text ≡ files_text state.ledger
IsQueryText state query.Places text = IsPlacesText (live_table state) text
IsQueryText state query.Known text = IsKnownText state text

-- the day of the query is refused under the state's horizon. A query without a day is never refused
-- for its day
abbrev pub IsQueryLapsed : State → Query → Type 0
IsQueryLapsed state (query.Docker kind place day) = IsDayRefused state.horizon day
IsQueryLapsed state (query.Train uid day) = day < state.horizon
IsQueryLapsed state (query.Trains identity day) = day < state.horizon
IsQueryLapsed state query.Files = ⊥
IsQueryLapsed state query.Places = ⊥
IsQueryLapsed state query.Known = ⊥
