-- The words of a session: the words with which a desk is started.
use Rattle.cif_laws.proofs.Common.{◌≡◌, ◌<◌, ◌≤◌, Bool, true, List, [], ◌∷◌, length, get_or, arith, Bor, rules, common_steps, Option, IfSome, codes}
use Rattle.docker_cmd.specs.Words.{Text, texts}
use Rattle.docker_desk.specs.Requests.{NamesFile}
use Rattle.docker_desk.specs.Serving.{NamesSession}

-- a list of exactly two words consists of its first and its second word
two_words : (words : List (Bor Text)) (none : Bor Text) → 2 ≤ length words → length words < 3
    → texts words ≡ (get_or words 0 none).now ∷ (get_or words 1 none).now ∷ []
two_words = grind (common_steps, arith)

-- if there are two words and the first is `--write`, the words name a session in which the desk may
-- write
pub named_to_write : {T : Type 0} (name_in : T → Text) (writes : T → Bool) (words : List (Bor Text)) (none : Bor Text) (found : Option T)
    → 2 ≤ length words → length words < 3 → (get_or words 0 none).now ≡ codes "--write"
    → IfSome found (λ it. (name_in it ≡ (get_or words 1 none).now) × (writes it ≡ true) × NamesFile (get_or words 1 none).now (get_or words 1 none).now)
    → IfSome found (λ it. NamesSession (texts words) (name_in it) (writes it))
named_to_write = search (rules, two_words)
