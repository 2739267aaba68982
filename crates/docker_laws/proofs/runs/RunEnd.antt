-- Offices with the same knowledge have equal states, and offices that know the same files print the
-- same dockers, even in different runs.
use Rattle.cif_laws.proofs.Common.{◌≡◌, ℕ, List, ap, sym, ◌∙◌, subst, All, rules, ◌↔◌, All-get_or, Table, IsPlainTable, IsDayRefused, State, live_table}
use Rattle.cif_laws.proofs.Common.{IsSummary, Format, state_text, IsDockerText, RunEvent, AreReplies, none_known, IsStateOf, Known, nothing, office_known}
use Rattle.cif_laws.proofs.Common.{message_known, IsOffice, HaveSameFiles, AreOneKnowledge, IsGoodKnown}
use Rattle.docker_model.specs.run.Run.{Exchange, IsRun}
use Rattle.docker_model.specs.run.Run.{IsMessage}
use Rattle.docker_model.specs.run.Knowledge.{IsGoodEvent, office_state, message_text, sets_of}
use Rattle.docker_laws.specs.RunInvariant.{Holds}
use Rattle.docker_laws.proofs.dockers.PrintedDocker.{docker_lapses, printed_is_plain, one_text}
use Rattle.docker_laws.proofs.dockers.TextsOfFiles.{text_of_files}
use Rattle.docker_laws.proofs.runs.GoodKnowledge.{good_in_run}
use Rattle.state_laws.proofs.texts.StateGrown.{horizon_day}
use Rattle.state_laws.proofs.states.SummaryLaws.{summary_unique}
use Rattle.cif_laws.proofs.lists.ZipSteps.{zip_at}

-- if the replies of an exchange are allowed, and its states and messages match the knowledge
-- (`Holds`), the exchange is a possible result of the run
pub holds_at_end : (format : Format) (offices : ℕ) (events : List RunEvent) (exchange : Exchange) → AreReplies (none_known offices) events exchange.replies
    → Holds format (sets_of offices events exchange) exchange.states exchange.messages → IsRun format offices events exchange
holds_at_end format offices events exchange replies holds = record { replies = replies; states = holds.states_are; messages = holds.messages_are }

-- after a run of good events, the states and messages match the knowledge (`Holds`)
pub run_holds : (format : Format) (offices : ℕ) (events : List RunEvent) (exchange : Exchange) → All (IsGoodEvent format) events
    → IsRun format offices events exchange
    → Holds format (sets_of offices events exchange) exchange.states exchange.messages
run_holds format offices events exchange each run =
    let good = good_in_run format offices events exchange.replies each run.replies in
    record { offices = good.0; sent = good.1; states_are = run.states; messages_are = run.messages }

-- ---- two summaries of the same files have the same dockers

-- two summaries of the same files have the same docker for each place and each day, unless the
-- program refuses the docker because of a horizon
pub docker_of_files : (format : Format) (one two : Known) (first second : State) → IsGoodKnown format one → IsGoodKnown format two → IsStateOf one first
    → IsStateOf two second
    → HaveSameFiles one.files two.files → (place : List ℕ) (day : ℕ) → ¬ IsDayRefused one.horizon day → ¬ IsDayRefused two.horizon day → (text other : List ℕ)
    → IsDockerText (live_table first) place day text → IsDockerText (live_table second) place day other → text ≡ other
docker_of_files format one two first second good also is that same place =
    text_of_files (λ live day text. IsDockerText live place day text) (docker_lapses place) (one_text place) _ _ _ _ _ _ good.0 also.0 same
    (horizon_day _ _ good.1) (horizon_day _ _ also.1) is that

-- ---- offices with the same knowledge have equal states

module _ (format : Format) (offices others : ℕ) (events more : List RunEvent) (one two : Exchange) (first : IsRun format offices events one)
    (second : IsRun format others more two) (i j : ℕ) where
  module _ (in_one : IsOffice (sets_of offices events one) i) (in_two : IsOffice (sets_of others more two) j) where
    this_state : IsStateOf (office_known (sets_of offices events one) i) (office_state one.states i)
    this_state = search (rules, zip_at)

    that_state : IsStateOf (office_known (sets_of others more two) j) (office_state two.states j)
    that_state = search (rules, zip_at)

    -- two offices with the same knowledge have equal states
    pub same_state : AreOneKnowledge (office_known (sets_of offices events one) i) (office_known (sets_of others more two) j)
        → office_state one.states i ≡ office_state two.states j
    same_state same = summary_unique _ _ same.0 _ _ _
        (subst (λ h. IsSummary (office_known (sets_of offices events one) i).files h (office_state one.states i)) same.1 this_state) that_state

    -- offices that know the same files print the same docker for each place and each day, unless
    -- the program refuses the docker because of a horizon
    pub same_docker : All (IsGoodEvent format) events → All (IsGoodEvent format) more → HaveSameFiles (office_known (sets_of offices events one) i).files
        (office_known (sets_of others more two) j).files
        → (place : List ℕ) (day : ℕ) → ¬ IsDayRefused (office_state one.states i).horizon day → ¬ IsDayRefused (office_state two.states j).horizon day
        → (text other : List ℕ)
        → IsDockerText (live_table (office_state one.states i)) place day text → IsDockerText (live_table (office_state two.states j)) place day other
        → text ≡ other
    same_docker each each_too same place day prints prints_too text other is that = docker_of_files _ _ _ _ _
        (All-get_or (IsGoodKnown format) (sets_of offices events one).offices i nothing in_one (good_in_run _ _ _ _ each first.replies).0)
        (All-get_or (IsGoodKnown format) (sets_of others more two).offices j nothing in_two (good_in_run _ _ _ _ each_too second.replies).0)
        this_state that_state same _ _ (subst (λ h. ¬ IsDayRefused h day) this_state.horizon_is prints)
        (subst (λ h. ¬ IsDayRefused h day) that_state.horizon_is prints_too) _ _ is that

  -- two messages that carry the same knowledge have equal texts
  pub same_message : IsMessage (sets_of offices events one) i → IsMessage (sets_of others more two) j
      → AreOneKnowledge (message_known (sets_of offices events one) i) (message_known (sets_of others more two) j)
      → message_text one.messages i ≡ message_text two.messages j
  same_message in_one in_two same =
      let this = zip_at _ _ _ _ _ _ first.messages in_one in
      let that = zip_at _ _ _ _ _ _ second.messages in_two in
      this.2 ∙ ap (state_text format) (summary_unique _ _ same.0 _ _ _
      (subst (λ h. IsSummary (message_known (sets_of offices events one) i).files h this.0) same.1 this.1) that.1) ∙ sym that.2

-- a docker that an office prints is the docker of the plain table of the files that the office
-- knows
pub plain_docker : (format : Format) (offices : ℕ) (events : List RunEvent) (exchange : Exchange) → IsRun format offices events exchange
    → All (IsGoodEvent format) events
    → (office : ℕ) → IsOffice (sets_of offices events exchange) office → (plain : Table)
    → IsPlainTable (office_known (sets_of offices events exchange) office).files plain
    → (place : List ℕ) (day : ℕ) → ¬ IsDayRefused (office_state exchange.states office).horizon day → (text : List ℕ)
    → IsDockerText (live_table (office_state exchange.states office)) place day text ↔ IsDockerText plain place day text
plain_docker format offices events exchange run each office there plain is_plain place day prints text =
    let good = All-get_or (IsGoodKnown format) (sets_of offices events exchange).offices office nothing there (good_in_run _ _ _ _ each run.replies).0 in
    let state = zip_at _ _ _ _ _ _ run.states there in
    printed_is_plain _ _ _ _ _ _ _ good.0.0 good.0.1 (horizon_day _ _ good.1) state is_plain (subst (λ h. ¬ IsDayRefused h day) state.horizon_is prints)
