-- The result of reading two sources follows from the results of reading each source.
use Rattle.cif_laws.proofs.Common.{◌≡◌, ℕ, Err, rules, Result, most_records, Format, dks_2}
use Rattle.cif_file.specs.FileEnds.{CountsWhyNoFile, IsWhyNoFile, StopsReadingFile}
use Rattle.cif_file.specs.SourceRead.{WantsAtStart}
use Rattle.cif_file.specs.declared.fault.FileReadFault as files
use Rattle.docker_bytes.specs.ReadEnds.{CountsWhy, IsWhyUnread, StopsReading}
use Rattle.docker_bytes.specs.SourceRead.{WantsMemory}
use Rattle.docker_office.specs.Faults.{office_fault_of_file}
use Rattle.docker_office.specs.OfficeReads.{CountsTaking, IsTakingOutcome, why_unread}
use Rattle.docker_office.specs.declared.fault.OfficeFault.{OfficeFault}
use Rattle.docker_cmd.specs.Prepared.{CountsSources, DeviceBytes, EndsReadingSources, FailsBy, HasNoSource, HoldsSomeState, IsWhyRefused}
use Rattle.docker_cmd.specs.Prepared.{ReadsFew, ReadsFewOfFile, ReadsFewOfState, ReadsSources, most_bytes}
use Rattle.docker_cmd.specs.Reads.{Sources, checked_file, one_state, state_and_file, taken_file, two_states}

-- ---- reading one source

-- if reading a state from the only source ends with a fault, this fault is one for which the source
-- may be refused
pub state_refused_alone : (format : Format) (first left second : DeviceBytes) (failed failed_now : ℕ) (fault : OfficeFault)
    → StopsReading format most_bytes first left (IsWhyUnread WantsMemory format most_bytes first left (why_unread fault))
    (CountsWhy (why_unread fault) failed failed_now)
    → ReadsFew (one_state format) first left second second (IsWhyRefused (one_state format) first left second second fault)
state_refused_alone = search rules

-- if reading a state from the only source ends with a fault, the source has failed if and only if
-- the fault is `Source`
pub state_failed_alone : (one one_now two : ℕ) (fault : OfficeFault) → CountsWhy (why_unread fault) one one_now → FailsBy one one_now two two fault
state_failed_alone = search rules

-- if taking a file from the only source ends with a fault, this fault is one for which the source
-- may be refused
pub file_refused_alone : {A : Type 0} (IsMade : A → Type 0) (first left second : DeviceBytes) (fault : OfficeFault) → ReadsFewOfFile first left
    → IsTakingOutcome most_records IsMade first left (Err fault)
    → ReadsFew taken_file first left second second (IsWhyRefused taken_file first left second second fault)
file_refused_alone = search rules

-- if taking a file from the only source ends with a fault, the source has failed if and only if the
-- fault is `Source`
pub file_failed_alone : (A : Type 0) (one one_now two : ℕ) (fault : OfficeFault) → CountsTaking {A = A} one one_now (Err fault)
    → FailsBy one one_now two two fault
file_failed_alone = search rules

-- if checking the file in the only source ends with a fault, this fault is one for which the source
-- may be refused
pub check_refused : (left left_now second : DeviceBytes) (failed failed_now : ℕ) (cause : files.FileReadFault)
    → StopsReadingFile most_records left left_now (IsWhyNoFile WantsAtStart most_records left left_now cause) (CountsWhyNoFile cause failed failed_now)
    → ReadsFew checked_file left left_now second second (IsWhyRefused checked_file left left_now second second (office_fault_of_file cause))
check_refused = search rules

-- if checking the file in the only source ends with a fault, the source has failed if and only if
-- the fault is `Source`
pub check_failed : (one one_now two : ℕ) (cause : files.FileReadFault) → CountsWhyNoFile cause one one_now
    → FailsBy one one_now two two (office_fault_of_file cause)
check_failed = search rules

-- ---- reading two sources

-- suppose that reading a state from the first source ends with a fault, so that the file in the
-- second source isn't read. Then this fault is one for which the sources may be refused
pub file_unread : (first left second : DeviceBytes) (fault : OfficeFault)
    → ReadsFew (one_state dks_2) first left second second (IsWhyRefused (one_state dks_2) first left second second fault)
    → ReadsFew state_and_file first left second second (IsWhyRefused state_and_file first left second second fault)
file_unread = search rules

-- suppose that reading a state from the first source ends with a fault, so that the state in the
-- second source isn't read. Then this fault is one for which the sources may be refused
pub state_unread : (first left second : DeviceBytes) (fault : OfficeFault)
    → ReadsFew (one_state dks_2) first left second second (IsWhyRefused (one_state dks_2) first left second second fault)
    → ReadsFew two_states first left second second (IsWhyRefused two_states first left second second fault)
state_unread = search rules

-- suppose that the first source held a state, and that taking a file from the second source ends
-- with a fault. Then this fault is one for which the sources may be refused
pub file_refused : {A : Type 0} (IsMade : A → Type 0) (first left second second_left : DeviceBytes) (fault : OfficeFault) → HoldsSomeState first
    → ReadsFewOfState dks_2 first left → ReadsFewOfFile second second_left → IsTakingOutcome most_records IsMade second second_left (Err fault)
    → ReadsFew state_and_file first left second second_left (IsWhyRefused state_and_file first left second second_left fault)
file_refused = search rules

-- suppose that the first source held a state, and that reading a state from the second source ends
-- with a fault. Then this fault is one for which the sources may be refused
pub state_refused : (first left second second_left : DeviceBytes) (failed failed_now : ℕ) (fault : OfficeFault) → HoldsSomeState first
    → ReadsFewOfState dks_2 first left
    → StopsReading dks_2 most_bytes second second_left (IsWhyUnread WantsMemory dks_2 most_bytes second second_left (why_unread fault))
    (CountsWhy (why_unread fault) failed failed_now)
    → ReadsFew two_states first left second second_left (IsWhyRefused two_states first left second second_left fault)
state_refused = search rules

-- suppose that the first source hasn't failed, and taking a file from the second source ends with a
-- fault. Then one of the two sources has failed if and only if the fault is `Source`
pub file_failed : (A : Type 0) (one one_now two two_now : ℕ) (fault : OfficeFault) → one_now ≡ one → CountsTaking {A = A} two two_now (Err fault)
    → FailsBy one one_now two two_now fault
file_failed = search rules

-- suppose that the first source hasn't failed, and reading a state from the second source ends with
-- a fault. Then one of the two sources has failed if and only if the fault is `Source`
pub state_failed : (one one_now two two_now : ℕ) (fault : OfficeFault) → one_now ≡ one → CountsWhy (why_unread fault) two two_now
    → FailsBy one one_now two two_now fault
state_failed = search rules

-- ---- tasks with one source

-- if a task has a source, and reads only its first source, its reading ended as the contract of
-- `hold` says
pub read_alone : {S T A : Type 0} (left : S → DeviceBytes) (failures : S → ℕ) (left_of : T → DeviceBytes) (failures_of : T → ℕ) (IsMade : A → Type 0)
    (sources : Sources) (first now : S) (second : T) (result : Result A OfficeFault) → ¬ HasNoSource sources
    → ReadsSources IsMade sources (left first) (left now) (left_of second) (left_of second) result
    → CountsSources result (failures first) (failures now) (failures_of second) (failures_of second)
    → EndsReadingSources left failures left_of failures_of IsMade sources first now second second result
read_alone = search rules
