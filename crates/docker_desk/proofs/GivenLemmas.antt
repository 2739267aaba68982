-- Words that are too many for a session, or that couldn't be read.
use Rattle.cif_laws.proofs.Common.{◌≡◌, ℕ, ◌<◌, List, length, string_bytes, rules, Bool, length-map}
use Rattle.std.specs.Prelude.{String}
use Rattle.std.specs.Global.{Global}
use Rattle.docker_cmd.specs.Words.{Text}
use Rattle.docker_host.specs.FaultSink.{FaultsView, TellsText}
use Rattle.docker_host.specs.SessionHost.{SessionHostView}
use Rattle.docker_desk.specs.Requests.{usage_line}
use Rattle.docker_desk.specs.Serving.{NamesSession, Serves, word_bytes}

-- a session has at most two words
few_words : (words : List Text) (name : Text) (may_write : Bool) → 2 < length words → ¬ NamesSession words name may_write
few_words = search rules

-- if there are more than two words and only the usage line was reported, this is what the contract of `serve`
-- says
pub misused : (words : List (String Global)) (names_bytes : Bool) (old seen new : SessionHostView) (faults : FaultsView) (status : ℕ) → 2 < length words
    → seen ≡ old → new ≡ record seen { faults = faults } → status ≡ 2 → TellsText usage_line seen.faults faults
    → Serves (word_bytes words) names_bytes old new status
misused = search (rules, few_words, length-map, string_bytes)
