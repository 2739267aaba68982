-- Looking up a word of a table by its name.
use Rattle.cif_laws.proofs.Common.{◌≡◌, List, [], ◌∷◌, Some, arith, find, bytes_eq, bytes_eq-Decides}
use Rattle.docker_cmd.specs.Words.{Text, word_named}

-- if a search by name returns a word, the word has that name
found_name : {W : Type 0} (name_of : W → Text) (words : List W) (name : Text) (word : W)
    → find (λ w. bytes_eq (name_of w) name) words ≡ Some word → name ≡ name_of word
found_name name_of [] name word found = absurd (cc)
found_name name_of (first ∷ words) name word found = grind (arith, bytes_eq-Decides, (found_name name_of words name word))

-- if a name is looked up in a table and a word is found, the name is that word's name
pub name_back : {W : Type 0} (name_of : W → Text) (words : List W) (name : Text) (word : W) → word_named name_of words name ≡ Some word → name ≡ name_of word
unfolding word_named
name_back name_of words name word found = found_name name_of words name word found
