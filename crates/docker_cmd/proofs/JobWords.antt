-- `clap` accepts words if and only if they name a subcommand. If `clap` accepts the words, it finds
-- the subcommand that they name, and the words after its name.
use Rattle.cif_laws.proofs.Common.{◌≡◌, ◌∙◌, ◌⊎◌, inl, inr, true, false, refl, ap, rules, common_steps, List, [], ◌∷◌, length, map, Some, None, option_map}
use Rattle.cif_laws.proofs.Common.{true≢false, arith, find, list_all, bytes_eq, bytes_eq-Decides}
use Rattle.std.proofs.lemmas.Bool.{cases_Bool}
use Rattle.clap.specs.Walk.{Text, answers_to, is_empty}
use Rattle.clap.specs.Simple.{label_of, subcommand_of}
use Rattle.clap.specs.Faults.{fault_of}
use Rattle.clap.proofs.WalkLemmas.{both}
use Rattle.docker_cmd.specs.declared.tasks.Subcommand.{Subcommand}
use Rattle.docker_cmd.specs.Tasks.{ids_of, name_of, subcommands}
use Rattle.docker_cmd.specs.Words.{is_plain_word, word_named}
use Rattle.docker_cmd.specs.Grammar.{docker_app, found_at, found_in, pair_of}
use Rattle.docker_cmd.proofs.FirstWord.{named_fault, named_rows, no_word, unnamed_fault}
use Rattle.docker_cmd.proofs.RequiredWords.{count_fault, leaf_fault, paired, rows_found}
use Rattle.docker_cmd.proofs.Rows.{known, leaf_of, leaves, named_back}
use Rattle.docker_cmd.proofs.TaskWords.{first_word, other_words, same_subcommand}

-- the words are the subcommand's name, followed by as many words as the subcommand requires
pub record AreRequired (words : List Text) (s : Subcommand) (behind : List Text) : Type 0 where
  pub whole : words ≡ name_of s ∷ behind
  pub count : length behind ≡ length (ids_of s)

-- the words name a subcommand, and `clap` finds this subcommand and the words after its name
pub record Takes (words : List Text) : Type 0 where
  pub subcommand : Subcommand
  pub behind : List Text
  pub required : AreRequired words subcommand behind
  pub no_fault : fault_of docker_app words ≡ []
  pub found : found_in (subcommand_of docker_app words) ≡ Some (pair_of subcommand behind)

-- the words name no subcommand, and `clap` refuses them
pub record Refuses (words : List Text) : Type 0 where
  pub fault : fault_of docker_app words ≡ [] → ⊥
  pub names_none : (s : Subcommand) (behind : List Text) → ¬ AreRequired words s behind

-- `clap` either accepts the words or refuses them
abbrev pub Judged : List Text → Type 0
Judged words = Takes words ⊎ Refuses words

-- ---- the number of words

-- either there are as many words as ids and no fault, or the numbers differ and there is a fault
abbrev IsCounted : List Text → List Text → Type 0
IsCounted ids words = ((length words ≡ length ids) × (count_fault ids words ≡ []))
    ⊎ ((length words ≡ length ids → ⊥) × (is_empty (count_fault ids words) ≡ false))

-- there is a fault if and only if the number of words differs from the number of ids
counted : (ids words : List Text) → IsCounted ids words
counted [] [] = inl (refl, refl)
counted [] (word ∷ words) = inr ((λ same. omega (arith, same)), refl)
counted (id ∷ ids) [] = inr ((λ same. omega (arith, same)), refl)
counted (id ∷ ids) (word ∷ words) = grind (arith, (counted ids words))

module _ (s : Subcommand) (words : List Text) (plain : list_all is_plain_word words ≡ true) where
  -- for the words after a subcommand's name, the only possible faults are the faults for a wrong
  -- number of words
  fault_at_name : fault_of docker_app (name_of s ∷ words) ≡ count_fault (ids_of s) words
  fault_at_name =
      let k = known s in
      named_fault leaves (leaf_of s) (name_of s) words k.met k.under ∙ leaf_fault (name_of s) (ids_of s) words k.fits k.fresh plain

  -- the words after a subcommand's name are looked up by the ids of the subcommand's arguments, in
  -- order
  found_at_name : found_in (subcommand_of docker_app (name_of s ∷ words)) ≡ found_at (name_of s) (paired (ids_of s) words)
  found_at_name =
      let k = known s in
      ap found_in (named_rows leaves (leaf_of s) (name_of s) words k.met k.under)
      ∙ ap (found_at (name_of s)) (rows_found (name_of s) (ids_of s) words k.fits k.fresh plain)

  -- if there are as many words as the subcommand requires, looking up the subcommand's ids finds
  -- all of these words
  words_at_name : length words ≡ length (ids_of s) → found_at (name_of s) (paired (ids_of s) words) ≡ Some (pair_of s words)
  words_at_name = grind (common_steps, arith, option_map, paired, named_back, known)

  -- `clap` accepts or refuses the words after a subcommand's name, depending on their number
  named_judged : Judged (name_of s ∷ words)
  named_judged = elim (counted (ids_of s) words) [
    | inl is ↦ inl (record {
      subcommand = s;
      behind = words;
      required = record { whole = refl; count = is.0 };
      no_fault = fault_at_name ∙ is.1;
      found = found_at_name ∙ words_at_name is.0;
    })
    | inr never ↦ inr (record {
      fault = search (rules, fault_at_name, true≢false);
      names_none = search (rules, same_subcommand, first_word, other_words);
    })
  ]

-- ---- whether `clap` accepts the words

-- the word isn't the name of any subcommand in this list
abbrev IsNoneOf : Text → List Subcommand → Type 0
IsNoneOf word [] = Unit {0}
IsNoneOf word (s ∷ ss) = (bytes_eq (name_of s) word ≡ false) × IsNoneOf word ss

-- if the word isn't the name of any subcommand in a list, `clap` doesn't recognise the word
none_answers : (word : Text) (ss : List Subcommand) → IsNoneOf word ss → find (answers_to word) (map label_of (map leaf_of ss)) ≡ None
none_answers word [] none = refl
none_answers word (s ∷ ss) none = search (rules, (none_answers word ss))

-- if the word isn't the name of any subcommand in a list, a search of the list by name returns
-- `None`
none_found : (word : Text) (ss : List Subcommand) → IsNoneOf word ss → find (λ s. bytes_eq (name_of s) word) ss ≡ None
none_found word [] none = refl
none_found word (s ∷ ss) none = search (rules, (none_found word ss))

-- the table has every subcommand: a word that isn't the name of any subcommand in the table isn't
-- the name of `s`
no_name : (word : Text) (s : Subcommand) → IsNoneOf word subcommands → word ≡ name_of s → ⊥
unfolding word_named
no_name = search (rules, none_found, named_back)

-- `clap` refuses a list of plain words if the first word isn't the name of a subcommand
unnamed_judged : (word : Text) (words : List Text) → list_all is_plain_word (word ∷ words) ≡ true → IsNoneOf word subcommands → Judged (word ∷ words)
unnamed_judged = search (rules, unnamed_fault, leaves, both, option_map, none_answers, true≢false, no_name, first_word)

-- `clap` either accepts or refuses a word followed by plain words (`Judged`). It is enough that
-- `clap` does so if the first word isn't the name of any subcommand in a list
by_name : (word : Text) (words : List Text) → list_all is_plain_word words ≡ true → (ss : List Subcommand) → (IsNoneOf word ss → Judged (word ∷ words))
    → Judged (word ∷ words)
by_name word words plain [] unnamed = unnamed tt
by_name word words plain (s ∷ ss) unnamed = elim (cases_Bool (bytes_eq (name_of s) word)) [
  | inl same ↦ rw (← (bytes_eq-Decides (name_of s) word).0 same) (named_judged s words plain)
  | inr differ ↦ by_name word words plain ss (λ none. unnamed (differ, none))
]

-- `clap` either accepts or refuses plain words
pub judged : (words : List Text) → list_all is_plain_word words ≡ true → Judged words
judged [] plain = search (rules, true≢false, no_word, leaves)
judged (word ∷ words) plain = by_name word words (both _ _ plain).1 subcommands (unnamed_judged word words plain)
