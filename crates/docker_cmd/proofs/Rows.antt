-- Facts about every row of the table of subcommands.
use Rattle.cif_laws.proofs.Common.{◌≡◌, ℕ, List, [], ◌∷◌, length, map, Some, codes, arith, rules, common_steps, ⊤, find}
use Rattle.clap.specs.Walk.{Text, answers_to, idle, subcommand_met}
use Rattle.clap.specs.Simple.{Shape, label_of, names_of}
use Rattle.docker_cmd.specs.declared.tasks.Subcommand.{Subcommand}
use Rattle.docker_cmd.specs.declared.tasks.Subcommand.TheVariants.{New, Check, Day, Take, Merge, Print, Files, Horizon, Migrate}
use Rattle.docker_cmd.specs.Tasks.{AreWordsOf, TaskView, ids_of, name_of, subcommand_named, subcommands, subcommand_of}
use Rattle.docker_cmd.specs.Words.{NamesDay, NamesPlace, NamesStored, OfOne, OfThree, OfTwo, word_named}
use Rattle.docker_cmd.specs.Grammar.{found_words}
use Rattle.docker_cmd.proofs.FirstWord.{built_with}
use Rattle.docker_cmd.proofs.RequiredWords.{Fits, Fresh, leaf, paired}

-- a search for a subcommand's name finds this subcommand
pub named_back : (s : Subcommand) → subcommand_named (name_of s) ≡ Some s
unfolding word_named
named_back = search rules

-- ---- the number of words

-- a task is named by as many words as its subcommand requires
pub words_counted : (task : TaskView) (words : List Text) → AreWordsOf task words → length words ≡ length (ids_of (subcommand_of task))
words_counted = search rules

-- ---- the form of the words after a subcommand

-- these two words name a timing point and a day
pub record NameBoth (tiploc date : Text) : Type 0 where
  pub place : List ℕ
  pub day : ℕ
  pub place_is : NamesPlace tiploc place
  pub day_is : NamesDay date day

-- these two words name a state that can be replaced, and a day
pub record NameHorizon (state date : Text) : Type 0 where
  pub stored : NamesStored state
  pub day : ℕ
  pub day_is : NamesDay date day

-- these words have the form that each task of the subcommand requires
abbrev pub Suit : Subcommand → List Text → Type 0
Suit New = OfOne (λ state. NamesStored state)
Suit Check = OfOne (λ file. ⊤)
Suit Day = OfThree (λ file tiploc date. NameBoth tiploc date)
Suit Take = OfTwo (λ state file. NamesStored state)
Suit Merge = OfTwo (λ state other. NamesStored state)
Suit Print = OfThree (λ state tiploc date. NameBoth tiploc date)
Suit Files = OfOne (λ state. ⊤)
Suit Horizon = OfTwo (λ state date. NameHorizon state date)
Suit Migrate = OfOne (λ state. NamesStored state)

-- the words that name a task have the form that the task's subcommand requires
pub suit : (task : TaskView) (words : List Text) → AreWordsOf task words → Suit (subcommand_of task) words
suit = search rules

-- ---- looking up words at ids

-- if one word is looked up by the id of its argument, the result is this word
one_found : (a : Text) → ((x : Text) → found_words (a ∷ []) (paired (a ∷ []) (x ∷ [])) ≡ Some (x ∷ []))
    → (words : List Text) → length words ≡ 1 → found_words (a ∷ []) (paired (a ∷ []) words) ≡ Some words
one_found = grind (common_steps, arith)

-- if two words are looked up by the ids of their arguments, the result is these words
two_found : (a b : Text) → ((x y : Text) → found_words (a ∷ b ∷ []) (paired (a ∷ b ∷ []) (x ∷ y ∷ [])) ≡ Some (x ∷ y ∷ []))
    → (words : List Text) → length words ≡ 2 → found_words (a ∷ b ∷ []) (paired (a ∷ b ∷ []) words) ≡ Some words
two_found = grind (common_steps, arith)

-- if three words are looked up by the ids of their arguments, the result is these words
three_found : (a b c : Text) → ((x y z : Text) → found_words (a ∷ b ∷ c ∷ []) (paired (a ∷ b ∷ c ∷ []) (x ∷ y ∷ z ∷ [])) ≡ Some (x ∷ y ∷ z ∷ []))
    → (words : List Text) → length words ≡ 3 → found_words (a ∷ b ∷ c ∷ []) (paired (a ∷ b ∷ c ∷ []) words) ≡ Some words
three_found = grind (common_steps, arith)

-- ---- the subcommands as `clap` describes them

-- a subcommand, after `clap` has built it
abbrev pub leaf_of : Subcommand → Shape
leaf_of s = leaf (name_of s) (ids_of s)

abbrev pub leaves : List Shape
leaves = map leaf_of subcommands

-- the facts about one subcommand. The ids of its words differ from each other and are in the right
-- positions. `clap` recognises the subcommand's name. If the subcommand's words are looked up by
-- their ids, they are found
pub record IsKnown (s : Subcommand) : Type 0 where
  pub fits : Fits (leaf_of s).rules 1 (ids_of s)
  pub fresh : Fresh [] (ids_of s)
  pub met : subcommand_met (names_of (built_with leaves)) idle (name_of s) ≡ Some (name_of s)
  pub under : find (λ x. answers_to (name_of s) (label_of x)) leaves ≡ Some (leaf_of s)
  pub found : (words : List Text) → length words ≡ length (ids_of s) → found_words (ids_of s) (paired (ids_of s) words) ≡ Some words

-- the facts of `IsKnown` are true of every subcommand
pub known : (s : Subcommand) → IsKnown s
known = search (rules, one_found, codes, three_found, two_found)
