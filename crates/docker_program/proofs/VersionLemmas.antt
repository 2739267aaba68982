-- What the versions of STATE files know. This knowledge determines their texts.
use Rattle.cif_laws.proofs.Common.{◌≡◌, Some, ◌<◌, ◌⊎◌, ℕ, List, [], ◌∷◌, ◌++◌, length, map, refl, sym, ◌∙◌, ap, subst, arith, inl, inr, append-nil}
use Rattle.cif_laws.proofs.Common.{append_assoc, rules, slice_index_or, AllZip, length-map, State, dks_2, state_text, HaveDistinctMoments, IsSummary, Table}
use Rattle.cif_laws.proofs.Common.{IsPlainTable, IsDockerText, Known, nothing, united, AreOneKnowledge, HaveSameFiles}
use Rattle.cif_laws.proofs.lists.ZipSteps.{zip_at, zip_end, zip_long}
use Rattle.docker_laws.proofs.dockers.PrintedDocker.{printed_is_plain}
use Rattle.docker_laws.proofs.runs.RunEnd.{docker_of_files}
use Rattle.state_laws.proofs.states.OnePlainTable.{some_plain_table}
use Rattle.state_laws.proofs.states.SummaryLaws.{summary_unique}
use Rattle.docker_host.specs.History.{Bytes}
use Rattle.docker_cmd.specs.Job.{JobView}
use Rattle.docker_cmd.specs.Saved.{AreGained, Gain, Gains, HoldsVersion, IsSaved, file_gained, horizon_gained, version_gained}
use Rattle.docker_cmd.specs.Tasks.{TaskView}
use Rattle.docker_cmd.specs.Words.{Text}
use Rattle.docker_program.specs.Sources.{SourcesRead}
use Rattle.docker_program.specs.Commands.{AreMade, AreVersions, ByCommand, HoldsKnown, IsKnownText, IsMade, IsVersion, Knows, MayStore}
use Rattle.docker_program.specs.Commands.{Origin, Prints, PrintsKnown, Run, Stores, Version, begun, known_after, known_at, known_by}
use Rattle.docker_program.specs.Commands.{known_once, known_with, merged, migrated, of_file, of_horizon, printing, raised, saved, taken}
use Rattle.docker_program.proofs.CommandLemmas.{IsKnown, known_held, known_joined, known_raised, known_text}
use Rattle.docker_program.proofs.CommandLemmas.{may_store_known, prints_known, stores_known, taken_behind}

-- the texts of these versions, in order
abbrev pub texts_of : List Version → List (List ℕ)
texts_of versions = map (λ (version : Version). version.text) versions

-- each text is the text of the summary of the knowledge at the same index
abbrev AreKnown : List Known → List (List ℕ) → Type 0
AreKnown knowns texts = AllZip (IsKnownText dks_2) knowns texts

-- if a source held a version in `texts`, it held the text of the summary of what this version knows
version_held : (knowns : List Known) (texts : List (List ℕ)) (bytes : Bytes) (number : ℕ) → AreKnown knowns texts → HoldsVersion texts bytes number
    → HoldsKnown dks_2 bytes (known_at knowns number)
version_held = search (rules, zip_long, zip_at)

-- a text that a job stored, or may have stored, is the text of the summary of what the job's office
-- knows
stored_either : (run : Run) (job : JobView) (read : SourcesRead) (text : List ℕ) (known : Known) → Stores run job read text ⊎ MayStore run job read text
    → Knows job.task read.first read.second known → IsKnownText dks_2 known text
stored_either run job read text known (inl stores) knows = stores_known run job read text known stores knows
stored_either run job read text known (inr stores) knows = may_store_known run job read text known stores knows

-- a text that a command stored, or may have stored, is the text of the summary of what the
-- command's office knows
by_command : {Held : Bytes → Bytes → Type 0} (task : TaskView) (known : Known) (text : List ℕ) (by : ByCommand task Held text)
    → Knows task by.read.first by.read.second known → IsKnownText dks_2 known text
by_command task known text by knows = stored_either _ _ _ _ _ by.stores
    (subst (λ (t : TaskView). Knows t by.read.first by.read.second known) (sym by.task_is) knows)

-- after one gain, the state is the summary of what was known before and of what was gained
gained_known : (knowns : List Known) (texts : List (List ℕ)) (gain : Gain) (known : Known) (old new : State) → AreKnown knowns texts
    → IsKnown known old → Gains texts gain old new → IsKnown (known_with knowns known gain) new
gained_known knowns texts (file_gained file) known old new are is gains = taken_behind known gains.0 file old new is gains.1 gains.2
gained_known knowns texts (version_gained number) known old new are is gains = search (rules, known_joined, known_held, version_held)
gained_known knowns texts (horizon_gained day) known old new are is gains = search (rules, known_raised)

-- after a list of gains, the state is the summary of what was known before and of everything that
-- was gained
all_gained : (knowns : List Known) (texts : List (List ℕ)) (gains : List Gain) (known : Known) (old new : State) → AreKnown knowns texts
    → IsKnown known old → AreGained texts gains old new → IsKnown (known_once knowns known gains) new
all_gained knowns texts [] known old new are is same = subst (IsKnown known) (sym same) is
all_gained knowns texts (gain ∷ gains) known old new are is gained = all_gained knowns _ gains _ gained.0 _ are
    (gained_known knowns _ gain _ old _ are is gained.1) gained.2

-- a text that a desk saved is the text of the summary of what was known when the session began, and
-- of everything that the desk's state then gained
saved_known : (knowns : List Known) (texts : List (List ℕ)) (own : ℕ) (gains : List Gain) (text : List ℕ) → AreKnown knowns texts
    → IsSaved texts own gains text → IsKnownText dks_2 (known_once knowns (known_at knowns own) gains) text
saved_known knowns texts own gains text are is = known_text _ _ _ (all_gained _ _ _ _ _ _ are
    (known_held _ _ _ (version_held _ _ _ _ are is.holds) is.reads) is.gained) is.text_is

-- a version made from earlier versions is the text of the summary of what the version knows
made_known : (knowns : List Known) (texts : List (List ℕ)) (origin : Origin) (text : List ℕ) → AreKnown knowns texts → IsMade texts origin text
    → IsKnownText dks_2 (known_by knowns origin) text
made_known knowns texts begun text are made = by_command _ nothing _ made refl
made_known knowns texts (taken own file) text are made = by_command _ (united (known_at knowns own) (of_file file)) _ made
    (known_at knowns own, file, version_held _ texts _ own are made.held.0, made.held.1, refl)
made_known knowns texts (merged own other) text are made = by_command _ (united (known_at knowns own) (known_at knowns other)) _ made (
  known_at knowns own,
  known_at knowns other,
  version_held _ texts _ own are made.held.0,
  version_held _ texts _ other are made.held.1,
  refl,
)
made_known knowns texts (raised own day) text are made = by_command _ (united (known_at knowns own) (of_horizon day)) _ made
    (known_at knowns own, version_held _ texts _ own are made.held, refl)
made_known knowns texts (migrated known) text are made = by_command _ known _ made made.held
made_known knowns texts (saved own gains) text are made = saved_known _ texts _ gains _ are made

-- the text of each version is the text of the summary of what the version knows
all_known : (knowns : List Known) (texts : List (List ℕ)) (versions : List Version) → AreKnown knowns texts → AreMade texts versions
    → AreKnown (known_after knowns versions) (texts ++ texts_of versions)
all_known knowns texts [] are made = subst (AreKnown knowns) (sym (append-nil texts)) are
all_known knowns texts (version ∷ versions) are made =
    grind (
      arith,
      append_assoc,
      zip_end,
      made_known,
      (all_known (knowns ++ known_by knowns version.origin ∷ []) (texts ++ version.text ∷ []) versions
          (zip_end (IsKnownText dks_2) knowns texts (known_by knowns version.origin) version.text are
          (made_known knowns texts version.origin version.text are made.0)) made.1),
    )

-- the list of what the versions know is as long as the list of their texts
known_long : (knowns : List Known) (texts : List (List ℕ)) (versions : List Version) → AreKnown knowns texts → AreMade texts versions
    → length (known_after knowns versions) ≡ length (texts ++ texts_of versions)
known_long = search (rules, zip_long, all_known)

-- a version's text is the text of the summary of what the version knows
pub version_known : (versions : List Version) (number : ℕ) (text : List ℕ) (known : Known) → AreVersions versions → IsVersion versions number text known
    → IsKnownText dks_2 known text
version_known versions number text known are is = subst (λ (t : List ℕ). IsKnownText dks_2 known t) (sym is.text_is)
    (subst (λ (k : Known). IsKnownText dks_2 k (slice_index_or (texts_of versions) number [])) (sym is.known_is)
    (zip_at _ (known_after [] versions) _ number _ [] (all_known _ [] _ tt are) low))
  where
    low : number < length (known_after [] versions)
    low =
        let long = known_long [] _ versions tt are in
        let texts = length-map versions (λ (version : Version). version.text) in
        let there = is.there in
        omega (arith, long, texts)

-- ---- what the knowledge determines

-- the known files and the known horizon determine the text of their summary
pub one_known_text : (one two : Known) (text other : List ℕ) → IsKnownText dks_2 one text → IsKnownText dks_2 two other → AreOneKnowledge one two → text ≡ other
one_known_text one two text other first second same =
    let states = summary_unique _ _ same.0 _ _ _ (subst (λ (h : ℕ). IsSummary one.files h first.is.0) same.1 first.is.1) second.is.1 in
    first.is.2 ∙ ap (state_text dks_2) states ∙ sym second.is.2

-- the known files determine the docker at each place for each day that isn't refused
pub one_known_docker : (one two : Known) (place : List ℕ) (day : ℕ) (text other : List ℕ) → PrintsKnown one place day text
    → PrintsKnown two place day other → HaveSameFiles one.files two.files → text ≡ other
one_known_docker one two place day text other first second same =
    docker_of_files dks_2 one two first.state second.state first.good second.good first.is second.is same place day first.allowed second.allowed
    text other first.docker second.docker

-- if no two of the known files have the same moment, each docker of these files is the docker of
-- their plain table
pub plain_known_docker : (known : Known) (place : List ℕ) (day : ℕ) (text : List ℕ) → PrintsKnown known place day text
    → HaveDistinctMoments known.files → (plain : Table) × IsPlainTable known.files plain × IsDockerText plain place day text
plain_known_docker known place day text prints distinct =
    let plain = some_plain_table _ distinct in (
      plain.0,
      plain.1,
      (printed_is_plain _ _ _ _ _ _ _ prints.good.0.0 prints.good.0.1 prints.good.1 prints.is plain.1 prints.allowed).0 prints.docker,
    )

-- ---- the text and the dockers of a version

-- what a version knows determines its text
pub one_version : (versions : List Version) (number another : ℕ) (text other : List ℕ) (known also : Known) → AreVersions versions
    → IsVersion versions number text known → IsVersion versions another other also → AreOneKnowledge known also → text ≡ other
one_version = search (rules, one_known_text, version_known)

-- a docker printed from a version is made from what the version knows
pub version_printed : (versions : List Version) (number : ℕ) (version : List ℕ) (known : Known) → AreVersions versions
    → IsVersion versions number version known → (run : Run) (read : SourcesRead) (place : List ℕ) (day : ℕ) (words : List Text) (text : List ℕ)
    → Prints run (printing place day words) read text → read.first ≡ Some version → PrintsKnown known place day text
version_printed versions number version known are is run read place day words text prints held =
    prints_known run (printing place day words) read text known prints (version, held, version_known versions number version known are is)
