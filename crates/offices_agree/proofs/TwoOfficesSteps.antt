-- What the files of a shelf hold after each command of the two offices.
use Rattle.cif_laws.proofs.Common.{◌≡◌, ℕ, true, List, [], ◌∷◌, ◌++◌, Option, None, Some, length, refl, sym, ◌∙◌, ap, rules, subst, inl, inr, codes, append-nil}
use Rattle.cif_laws.proofs.Common.{⊤, ◌⊎◌, date_number, dks_2, Known, nothing, united, HaveSameFiles}
use Rattle.cif_device.specs.Device.{Takes}
use Rattle.cif_line.proofs.DateFields.{digits_in, digits_in-day_text}
use Rattle.docker_host.specs.History.{Bytes, Event, Text, drafted, looked, placed}
use Rattle.docker_host.specs.Host.{HostView}
use Rattle.docker_host.specs.Shelf.{AreMet, IsShelfHistory, Texts, after_event, after_events, no_texts, text_under, with_text}
use Rattle.docker_cmd.specs.Job.{IsJobOf, JobView}
use Rattle.docker_cmd.specs.Saved.{HoldsFile}
use Rattle.docker_cmd.specs.Tasks.{TaskView, new_task, take_task, merge_task}
use Rattle.docker_cmd.specs.Tasks.{print_task, name_of, subcommand_of, AreWordsOf}
use Rattle.docker_cmd.specs.Words.{NamesDay, NamesPlace}
use Rattle.docker_program.specs.SourceNames.{SourceNames, names_of, no_source, one_file, stored_by, two_files}
use Rattle.docker_program.specs.Sources.{SourcesRead, with_files_read, with_look_at}
use Rattle.docker_program.specs.Program.{Performs}
use Rattle.docker_program.specs.Commands.{HoldsKnown, IsDone, IsKnownText, Knows, Prints, PrintsKnown, Run, Stores, of_file}
use Rattle.offices_agree.specs.TwoOffices.{KnowBoth, LearnBoth}
use Rattle.offices_agree.specs.DeskAndOffice.{KnowApart, LearnApart}
use Rattle.docker_program.proofs.CommandLemmas.{prints_known, stores_known}
use Rattle.docker_program.proofs.EndingLemmas.{run_done}
use Rattle.cif_laws.proofs.lists.Membership.{cons-Contains, cons-Contains-first}
use Rattle.jiff_core.specs.Calendar.{days_from_civil, day_count, days_of_years, days_of_months}
use Rattle.docker_program.proofs.VersionLemmas.{plain_known_docker}
use Rattle.offices_agree.proofs.TwoOfficesFiles.{full_file, full_is, full_text, place, update_file, update_is, update_text}
use Rattle.offices_agree.proofs.TwoOfficesDocker.{both, both_distinct, text_of_both, the_docker}

-- ---- the texts on a shelf

pub after_append : (texts : Texts) (events more : List Event) → after_events texts (events ++ more) ≡ after_events (after_events texts events) more
after_append texts [] more = refl
after_append texts (event ∷ events) more = after_append (after_event texts event) events more

pub met_behind : (texts : Texts) (events more : List Event) → AreMet texts (events ++ more) → AreMet (after_events texts events) more
met_behind texts [] more met = met
met_behind texts (event ∷ events) more met = met_behind (after_event texts event) events more met.1

-- a command left the text of the summary of what is known in the file of this name, and changed no
-- other file. It printed nothing
pub record IsGained (old new : HostView) (name : Text) (known : Known) : Type 0 where
  pub text : List ℕ
  pub is : IsKnownText dks_2 known text
  pub texts : text_under new.history ≡ with_text name text (text_under old.history)
  pub unprinted : new.output ≡ old.output

pub met_front : (texts : Texts) (events more : List Event) → AreMet texts (events ++ more) → AreMet texts events
met_front texts [] more met = tt
met_front texts (event ∷ events) more met = (met.0, met_front (after_event texts event) events more met.1)

-- reading files changes none of them
read_keeps : (names : SourceNames) (read : SourcesRead) (history : List Event)
    → after_events no_texts (with_files_read names read history) ≡ after_events no_texts history
read_keeps = search (rules, after_append)

-- a look changes no file
look_keeps : (name : Text) (history : List Event) → after_events no_texts (history ++ looked name ∷ []) ≡ after_events no_texts history
look_keeps name history = after_append no_texts history (looked name ∷ [])

-- a command that stores a text changes no other file
stored_texts : (names : SourceNames) (read : SourcesRead) (name : Text) (look : ℕ) (text : List ℕ) (old new : List Event)
    → new ≡ with_files_read names read (old ++ looked name ∷ []) ++ drafted name look ∷ placed name (Some text) ∷ []
    → text_under new ≡ with_text name text (text_under old)
stored_texts = search (rules, after_append, read_keeps, look_keeps)

-- two files that were opened after a look held what the shelf held under their names
two_opened : (first name other : Text) (read : SourcesRead) (history more : List Event)
    → IsShelfHistory (with_files_read (two_files name other) read (history ++ looked first ∷ []) ++ more)
    → (read.first ≡ text_under history name) × (read.second ≡ text_under history other)
two_opened = search (rules, met_behind, met_front, look_keeps)

one_opened : (name : Text) (read : SourcesRead) (history : List Event) → AreMet no_texts (with_files_read (one_file name) read history)
    → read.first ≡ text_under history name
one_opened name read history met = (met_behind no_texts history _ met).0.0

-- ---- the words determine the job

abbrev job_of : TaskView → List Text → JobView
job_of task words = record { task = task; words = words }

abbrev behind : List Text → List Text
behind [] = []
behind (word ∷ words) = words

pub none_some : (name : Text) → ◌≡◌ {A = Option Text} None (Some name) → ⊥
none_some name is = cc

pub some_name : (one two : Text) → ◌≡◌ {A = Option Text} (Some one) (Some two) → one ≡ two
some_name one two same = cc

-- the words name only this job
abbrev NameOnly : List Text → JobView → Type 0
NameOnly words job = (other : JobView) → IsJobOf words other → other ≡ job

-- if only one task has the name that is the first word, the words name only one job
only_job : (name : Text) (task : TaskView) (words : List Text)
    → ((other : TaskView) (more : List Text) → name ∷ words ≡ name_of (subcommand_of other) ∷ more → other ≡ task)
    → NameOnly (name ∷ words) (job_of task words)
only_job name task words named job is = λ i. job_of (named job.task job.words is.whole i) (sym (ap behind is.whole) i)

-- if the first word is `print`, the task is a `print_task`
abbrev IsPrint : TaskView → Type 0
IsPrint task = (place : List ℕ) × (day : ℕ) × (task ≡ print_task place day)

print_named : (task : TaskView) (words more : List Text) → codes "print" ∷ more ≡ name_of (subcommand_of task) ∷ words → IsPrint task
print_named = search (rules, place)

-- ---- what each command leaves

abbrev run_of : List Text → HostView → HostView → Run
run_of words old new = record { words = words; names_bytes = true; old = old; new = new }

abbrev pub After : List Text → HostView → HostView → Type 0
After words old new = Performs words true old new 0 × IsShelfHistory new.history

-- the run stored or printed the text of this job
abbrev HasDone : Run → JobView → Type 0
HasDone run job = (read : SourcesRead) × (text : List ℕ) × (Stores run job read text ⊎ Prints run job read text)

-- a command whose words name only one job has done this job
done_only : (first : Text) (words : List Text) (old new : HostView) (job : JobView) → NameOnly (first ∷ words) job → IsDone (run_of (first ∷ words) old new)
    → HasDone (run_of (first ∷ words) old new) job
done_only first words old new job only (other, read, text, inl stores) =
    (read, text, inl (subst (λ (j : JobView). Stores (run_of (first ∷ words) old new) j read text) (only other stores.reads.asks.0) stores))
done_only first words old new job only (other, read, text, inr prints) =
    (read, text, inr (subst (λ (j : JobView). Prints (run_of (first ∷ words) old new) j read text) (only other prints.reads.asks.0) prints))

-- a command that stores leaves its text under the name of its state
leaves : (first : Text) (words : List Text) (old new : HostView) (job : JobView) (names : SourceNames) (name : Text) (known : Known)
    → NameOnly (first ∷ words) job → names_of job ≡ names → stored_by job ≡ Some name
    → ((read : SourcesRead) (more : List Event) → IsShelfHistory (with_files_read names read (old.history ++ looked name ∷ []) ++ more)
    → Knows job.task read.first read.second known)
    → After (first ∷ words) old new → IsGained old new name known
leaves first words old new job names name known only same stored knows to =
    by (done_only first words old new job only (run_done (run_of (first ∷ words) old new) to.0))
  where
    by : HasDone (run_of (first ∷ words) old new) job → IsGained old new name known
    by (read, text, inl stores) =
        let own : stores.name ≡ name = some_name stores.name name (sym stores.stored ∙ stored) in
        let history : new.history ≡ with_files_read names read (old.history ++ looked name ∷ []) ++ drafted name (length old.history)
        ∷ placed name (Some text) ∷ [] = stores.history
        ∙ (λ i. with_files_read (same i) read (with_look_at (stored i) old.history) ++ drafted (own i) (length old.history)
        ∷ placed (own i) (Some text) ∷ []) in
        record {
          text = text;
          is = stores_known (run_of (first ∷ words) old new) job read text known stores (knows read _ (subst IsShelfHistory history to.1));
          texts = stored_texts names read name (length old.history) text old.history new.history history;
          unprinted = stores.unprinted;
        }
    by (read, text, inr prints) = absurd (none_some name (sym prints.unstored ∙ stored))

-- `new` leaves the text of the state that knows no files
new_leaves : (name : Text) (old new : HostView) → After (codes "new" ∷ name ∷ []) old new → IsGained old new name nothing
new_leaves name old new =
    leaves (codes "new") (name ∷ []) old new (job_of new_task (name ∷ [])) no_source name nothing
    (only_job (codes "new") new_task (name ∷ []) (search rules)) refl refl (λ read more met. refl)

-- `take` leaves the text of the summary of what the state knew and of the file
take_leaves : (name file : Text) (content : List (List ℕ)) (known : Known) (old new : HostView)
    → names_of (job_of take_task (name ∷ file ∷ [])) ≡ two_files name file
    → HoldsKnown dks_2 (text_under old.history name) known → HoldsFile (text_under old.history file) content
    → After (codes "take" ∷ name ∷ file ∷ []) old new → IsGained old new name (united known (of_file content))
take_leaves name file content known old new same holds is_file =
    leaves (codes "take") (name ∷ file ∷ []) old new (job_of take_task (name ∷ file ∷ [])) (two_files name file) name (united known (of_file content))
    (only_job (codes "take") take_task (name ∷ file ∷ []) (search rules)) same refl (λ read more met.
    let held = two_opened name name file read old.history more met in (
      known,
      content,
      subst (λ (b : Bytes). HoldsKnown dks_2 b known) (sym held.0) holds,
      subst (λ (b : Bytes). HoldsFile b content) (sym held.1) is_file,
      refl,
    ))

-- `merge` leaves the text of the summary of what the two states knew
merge_leaves : (name other : Text) (known heard : Known) (old new : HostView)
    → names_of (job_of merge_task (name ∷ other ∷ [])) ≡ two_files name other
    → HoldsKnown dks_2 (text_under old.history name) known → HoldsKnown dks_2 (text_under old.history other) heard
    → After (codes "merge" ∷ name ∷ other ∷ []) old new → IsGained old new name (united known heard)
merge_leaves name other known heard old new same holds also =
    leaves (codes "merge") (name ∷ other ∷ []) old new (job_of merge_task (name ∷ other ∷ [])) (two_files name other) name (united known heard)
    (only_job (codes "merge") merge_task (name ∷ other ∷ []) (search rules)) same refl (λ read more met.
    let held = two_opened name name other read old.history more met in (
      known,
      heard,
      subst (λ (b : Bytes). HoldsKnown dks_2 b known) (sym held.0) holds,
      subst (λ (b : Bytes). HoldsKnown dks_2 b heard) (sym held.1) also,
      refl,
    ))

-- the output gained a docker of the summary of what is known, and no file changed
pub record IsPrinted (old new : HostView) (known : Known) (place : List ℕ) (day : ℕ) : Type 0 where
  pub text : List ℕ
  pub is : PrintsKnown known place day text
  pub takes : Takes old.output text new.output
  pub kept : text_under new.history ≡ text_under old.history

-- the word names only one place, if it has seven bytes
pub one_place : (word place : List ℕ) → length word ≡ 7 → NamesPlace word place → place ≡ word
one_place = search (rules, append-nil)

-- `print` prints the docker of the summary of what the state knows
pub print_shows : (name place date : Text) (number : ℕ) (known : Known) (old new : HostView)
    → names_of (job_of (print_task place number) (name ∷ place ∷ date ∷ [])) ≡ one_file name → length place ≡ 7 → date_number (digits_in date) ≡ number
    → HoldsKnown dks_2 (text_under old.history name) known → After (codes "print" ∷ name ∷ place ∷ date ∷ []) old new
    → IsPrinted old new known place number
print_shows name place date number known old new same long is_date holds to =
    by (done_only (codes "print") (name ∷ place ∷ date ∷ []) old new the_job job_is (run_done (run_of words old new) to.0))
  where
    words : List Text
    words = codes "print" ∷ name ∷ place ∷ date ∷ []

    the_job : JobView
    the_job = job_of (print_task place number) (name ∷ place ∷ date ∷ [])

    job_is : NameOnly words the_job
    job_is job is =
        let print = print_named job.task job.words (name ∷ place ∷ date ∷ []) is.whole in
        let behind_is : job.words ≡ name ∷ place ∷ date ∷ [] = sym (ap behind is.whole) in
        let asked : NamesPlace place print.0 × NamesDay date print.1 =
        subst (λ (ws : List Text). AreWordsOf (print_task print.0 print.1) ws) behind_is
        (subst (λ (t : TaskView). AreWordsOf t job.words) print.2 is.required) in
        let place_is : print.0 ≡ place = one_place place print.0 long asked.0 in
        let day_is : print.1 ≡ number = sym (digits_in-day_text print.1 asked.1.within date asked.1.written).1 ∙ is_date in
        λ i. job_of ((print.2 ∙ (λ j. print_task (place_is j) (day_is j))) i) (behind_is i)

    by : HasDone (run_of words old new) the_job → IsPrinted old new known place number
    by (read, text, inl stores) = absurd (none_some stores.name stores.stored)
    by (read, text, inr prints) =
        let events : new.history ≡ with_files_read (one_file name) read old.history =
        prints.history ∙ (λ i. with_files_read (same i) read old.history) in
        let first : read.first ≡ text_under old.history name = one_opened name read old.history (subst IsShelfHistory events to.1) in
        record {
          text = text;
          is = prints_known (run_of words old new) the_job read text known prints (subst (λ (b : Bytes). HoldsKnown dks_2 b known) (sym first) holds);
          takes = prints.printed;
          kept = ap (after_events no_texts) events ∙ read_keeps (one_file name) read old.history;
        }

-- ---- the exchange of two offices

abbrev pub north : Text
north = codes "north"

abbrev pub south : Text
south = codes "south"

abbrev pub full_name : Text
full_name = codes "full.cif"

abbrev pub update_name : Text
update_name = codes "update.cif"

-- the bytes hold this file, if a file is given
abbrev pub MayHoldFile : Bytes → Option (List (List ℕ)) → Type 0
MayHoldFile bytes None = ⊤
MayHoldFile bytes (Some file) = HoldsFile bytes file

-- the bytes hold the text of this summary, if a summary is given
abbrev pub MayHoldKnown : Bytes → Option Known → Type 0
MayHoldKnown bytes None = ⊤
MayHoldKnown bytes (Some known) = HoldsKnown dks_2 bytes known

-- of the two files and the two states of offices, the shelf has each one that is given. Nothing was
-- printed since `old`
pub record Stands (old new : HostView) (full update : Option (List (List ℕ))) (one two : Option Known) : Type 0 where
  pub full_held : MayHoldFile (text_under new.history full_name) full
  pub update_held : MayHoldFile (text_under new.history update_name) update
  pub north_held : MayHoldKnown (text_under new.history north) one
  pub south_held : MayHoldKnown (text_under new.history south) two
  pub unprinted : new.output ≡ old.output

module _ {a old new : HostView} {full update : Option (List (List ℕ))} where
  north_gains : {one two : Option Known} {known : Known} → Stands a old full update one two → IsGained old new north known
      → Stands a new full update (Some known) two
  north_gains {two = two} stands gains = record {
    full_held = subst (λ (t : Texts). MayHoldFile (t full_name) full) (sym gains.texts) stands.full_held;
    update_held = subst (λ (t : Texts). MayHoldFile (t update_name) update) (sym gains.texts) stands.update_held;
    north_held = (gains.text, ap (λ (t : Texts). t north) gains.texts, gains.is);
    south_held = subst (λ (t : Texts). MayHoldKnown (t south) two) (sym gains.texts) stands.south_held;
    unprinted = gains.unprinted ∙ stands.unprinted;
  }

  south_gains : {one two : Option Known} {known : Known} → Stands a old full update one two → IsGained old new south known
      → Stands a new full update one (Some known)
  south_gains {one = one} stands gains = record {
    full_held = subst (λ (t : Texts). MayHoldFile (t full_name) full) (sym gains.texts) stands.full_held;
    update_held = subst (λ (t : Texts). MayHoldFile (t update_name) update) (sym gains.texts) stands.update_held;
    north_held = subst (λ (t : Texts). MayHoldKnown (t north) one) (sym gains.texts) stands.north_held;
    south_held = (gains.text, ap (λ (t : Texts). t south) gains.texts, gains.is);
    unprinted = gains.unprinted ∙ stands.unprinted;
  }

  new_north : {one two : Option Known} → Stands a old full update one two → After (codes "new" ∷ north ∷ []) old new
      → Stands a new full update (Some nothing) two
  new_north stands to = north_gains stands (new_leaves north old new to)

  pub new_south : {one two : Option Known} → Stands a old full update one two → After (codes "new" ∷ south ∷ []) old new
      → Stands a new full update one (Some nothing)
  new_south stands to = south_gains stands (new_leaves south old new to)

  merge_north : {one two : Known} → Stands a old full update (Some one) (Some two) → After (codes "merge" ∷ north ∷ south ∷ []) old new
      → Stands a new full update (Some (united one two)) (Some two)
  merge_north stands to = north_gains stands (merge_leaves north south _ _ old new refl stands.north_held stands.south_held to)

  pub merge_south : {one two : Known} → Stands a old full update (Some one) (Some two) → After (codes "merge" ∷ south ∷ north ∷ []) old new
      → Stands a new full update (Some one) (Some (united two one))
  merge_south stands to = south_gains stands (merge_leaves south north _ _ old new refl stands.south_held stands.north_held to)

-- after the first commands `north` knows the full extract, and `south` knows the update, twice
pub apart : (a b c d e f : HostView)
    → After (codes "new" ∷ north ∷ []) a b → After (codes "new" ∷ south ∷ []) b c
    → After (codes "take" ∷ north ∷ full_name ∷ []) c d → After (codes "take" ∷ south ∷ update_name ∷ []) d e
    → After (codes "take" ∷ south ∷ update_name ∷ []) e f → LearnApart a f
apart a b c d e f to_b to_c to_d to_e to_f full update first then =
    record { north = there_f.north_held; south = there_f.south_held; unprinted = there_f.unprinted }
  where
    there_a : Stands a a (Some full) (Some update) None None
    there_a = record { full_held = first; update_held = then; north_held = tt; south_held = tt; unprinted = refl }

    there_c : Stands a c (Some full) (Some update) (Some nothing) (Some nothing)
    there_c = new_south (new_north there_a to_b) to_c

    there_d : Stands a d (Some full) (Some update) (Some (united nothing (of_file full))) (Some nothing)
    there_d = north_gains there_c (take_leaves north full_name full nothing c d refl there_c.north_held there_c.full_held to_d)

    there_e : Stands a e (Some full) (Some update) (Some (united nothing (of_file full))) (Some (united nothing (of_file update)))
    there_e = south_gains there_d (take_leaves south update_name update nothing d e refl there_d.south_held there_d.update_held to_e)

    there_f : Stands a f (Some full) (Some update) (Some (united nothing (of_file full))) (Some (united (united nothing (of_file update)) (of_file update)))
    there_f = south_gains there_e (take_leaves south update_name update _ e f refl there_e.south_held there_e.update_held to_f)

-- an office that knows a full extract, and an update twice, knows these two files
pub same_files : (full update : List (List ℕ)) → HaveSameFiles (full ∷ update ∷ []) (full ∷ update ∷ update ∷ [])
same_files = search (rules, cons-Contains-first, cons-Contains)

-- after all commands both offices know both files
pub exchanged : (a b c d e f g h j k : HostView)
    → After (codes "new" ∷ north ∷ []) a b → After (codes "new" ∷ south ∷ []) b c
    → After (codes "take" ∷ north ∷ full_name ∷ []) c d → After (codes "take" ∷ south ∷ update_name ∷ []) d e
    → After (codes "take" ∷ south ∷ update_name ∷ []) e f → After (codes "merge" ∷ north ∷ south ∷ []) f g
    → After (codes "merge" ∷ south ∷ north ∷ []) g h → After (codes "new" ∷ south ∷ []) h j
    → After (codes "merge" ∷ south ∷ north ∷ []) j k → LearnBoth a k
exchanged a b c d e f g h j k to_b to_c to_d to_e to_f to_g to_h to_j to_k full update first then = record {
  north = record { known = _; holds = there_k.north_held; same = same_files full update };
  south = record { known = _; holds = there_k.south_held; same = same_files full update };
  unprinted = there_k.unprinted;
}
  where
    knows : KnowApart a f full update
    knows = apart a b c d e f to_b to_c to_d to_e to_f full update first then

    -- each merges the state of the other
    known_g : Known
    known_g = united (united nothing (of_file full)) (united (united nothing (of_file update)) (of_file update))

    there_f : Stands a f None None (Some (united nothing (of_file full))) (Some (united (united nothing (of_file update)) (of_file update)))
    there_f = record { full_held = tt; update_held = tt; north_held = knows.north; south_held = knows.south; unprinted = knows.unprinted }

    there_k : Stands a k None None (Some known_g) (Some (united nothing known_g))
    there_k = merge_south (new_south (merge_south (merge_north there_f to_g) to_h) to_j) to_k

-- ---- what both offices print

-- an office that knows both files prints the docker of their plain table
pub printed_both : (old new : HostView) (known : Known) → HaveSameFiles both known.files → old.output ≡ Some [] → IsPrinted old new known place 23537
    → new.output ≡ Some the_docker
printed_both old new known same empty printed = subst (λ (o : Bytes). Takes o printed.text new.output) empty printed.takes ∙ ap Some text_is
  where
    text_is : printed.text ≡ the_docker
    text_is =
        let plain = plain_known_docker _ _ _ _ printed.is (both_distinct _ same) in
        text_of_both _ _ _ same plain.1 plain.2

pub date_is : date_number (digits_in (codes "2024-06-10")) ≡ 23537
unfolding days_from_civil day_count days_of_years days_of_months
date_is = refl

-- `a` is the host before the exchange, `k` after it, and `m` after `north` printed. Before `south`
-- prints, the output is replaced by an empty one (`n`)
pub both_print : (a k m n p : HostView) → text_under a.history full_name ≡ Some full_text → text_under a.history update_name ≡ Some update_text
    → a.output ≡ Some [] → LearnBoth a k → After (codes "print" ∷ north ∷ place ∷ codes "2024-06-10" ∷ []) k m
    → n.history ≡ m.history → n.output ≡ Some [] → After (codes "print" ∷ south ∷ place ∷ codes "2024-06-10" ∷ []) n p
    → (m.output ≡ Some the_docker) × (p.output ≡ Some the_docker)
both_print a k m n p full update empty learn to_m same fresh to_p = (
  printed_both _ _ _ knows.north.same (knows.unprinted ∙ empty) first,
  printed_both _ _ _ knows.south.same fresh second,
)
  where
    knows : KnowBoth a k full_file update_file
    knows = learn full_file update_file (full_text, full, full_is) (update_text, update, update_is)

    first : IsPrinted k m knows.north.known place 23537
    first = print_shows _ _ _ _ _ _ _ refl refl date_is knows.north.holds to_m

    south_n : HoldsKnown dks_2 (text_under n.history south) knows.south.known
    south_n = subst (λ (x : Bytes). HoldsKnown dks_2 x knows.south.known)
        (sym (ap (λ (events : List Event). text_under events south) same ∙ ap (λ (texts : Texts). texts south) first.kept)) knows.south.holds

    second : IsPrinted n p knows.south.known place 23537
    second = print_shows _ _ _ _ _ _ _ refl refl date_is south_n to_p

-- both sinks have taken the docker
pub sinks_agree : (one two : List ℕ) (first second : Bytes) → Some one ≡ first → Some two ≡ second → (first ≡ Some the_docker) × (second ≡ Some the_docker)
    → (one ≡ two) × (one ≡ the_docker)
sinks_agree = search (rules, some_name, the_docker, both)
