-- The words of a line determine its request.
use Rattle.cif_laws.proofs.Common.{◌≡◌, ℕ, Bool, true, false, cond, List, [], ◌∷◌, Some, None, refl, sym, subst, rules, Option, find, bytes_eq}
use Rattle.cif_laws.proofs.Common.{bytes_eq-Decides, IsDay}
use Rattle.docker_cmd.specs.Words.{NamesDay, OfOne, Text, word_named}
use Rattle.docker_desk.specs.Requests.{AsksFor, FindsRequest, IsRequestOf, MakesRequest, RequestView, after_word, first_word, horizon_request, is_writing}
use Rattle.docker_desk.specs.Requests.{name_of, verb_named, verbs}
use Rattle.docker_desk.specs.declared.requests.Verb.{Verb}

-- ---- looking up a verb by its name

-- if a verb's name is looked up, the result is this verb
named_back : (v : Verb) → verb_named (name_of v) ≡ Some v
unfolding word_named
named_back = search rules

-- if looking up a name returns a verb, the verb has that name
found_name : (word : Text) (v : Verb) (vs : List Verb) → find (λ u. bytes_eq (name_of u) word) vs ≡ Some v → word ≡ name_of v
found_name word v [] found = absurd (cc)
found_name word v (u ∷ vs) found = (elim (bytes_eq (name_of u) word) as (λ test. bytes_eq (name_of u) word ≡ test
    → cond test (Some u) (find (λ w. bytes_eq (name_of w) word) vs) ≡ Some v → word ≡ name_of v) [
      | true ↦ λ same one. search (rules, bytes_eq-Decides)
      | false ↦ λ differ rest. found_name word v vs rest
    ]) refl found

name_back : (word : Text) (v : Verb) → verb_named word ≡ Some v → word ≡ name_of v
unfolding word_named
name_back word v found = found_name word v verbs found

-- ---- the request in a line

-- if the first word of a line isn't a verb, the line isn't a request
pub no_verb : (may_write : Bool) (line : List ℕ) (word : Text) → word ≡ first_word line → None ≡ verb_named word → AsksFor may_write line None
no_verb = search (rules, named_back)

module _ (may_write : Bool) (line : List ℕ) (word : Text) (v : Verb) (first : word ≡ first_word line) (found : Some v ≡ verb_named word) where
  -- the verb of a line's request is the verb that the line's first word names
  of_request : (request : RequestView) (is : IsRequestOf may_write line request) → is.verb ≡ v
  of_request = search (rules, named_back)

  -- if the verb of a line requires a desk that may write, and this desk may not, the line isn't a
  -- request
  pub not_allowed : ((is_writing v ≡ true → may_write ≡ true) → ⊥) → AsksFor may_write line None
  not_allowed never = λ request is. never (subst (λ u. is_writing u ≡ true → may_write ≡ true) (of_request request is) is.allowed)

  -- the line's verb and the rest of the line make its request
  pub made : (request : RequestView) → IsRequestOf may_write line request → MakesRequest v (after_word line) request
  made request is = subst (λ u. MakesRequest u (after_word line) request) (of_request request is) is.makes

  -- suppose that the desk may carry out requests with the verb of a line. Then the line's request
  -- is the request with this verb and with the words in the rest of the line
  pub asked_by : (rest : List ℕ) (request : Option RequestView) → rest ≡ after_word line → (is_writing v ≡ true → may_write ≡ true)
      → FindsRequest (MakesRequest v rest) request → AsksFor may_write line request
  asked_by = search (rules, made, name_back)

-- if the first word of a line is the name of this verb, the verb and the rest of the line make the
-- line's request
pub with_verb : (may_write : Bool) (line : List ℕ) (v : Verb) (request : RequestView) → first_word line ≡ name_of v → IsRequestOf may_write line request
    → MakesRequest v (after_word line) request
with_verb may_write line v request first is = made may_write line (name_of v) v (sym first) (sym (named_back v)) request is

-- ---- the day of `horizon`

-- the day that a word names is a valid day number
one_day : (words : List Text) (day : ℕ) → OfOne (λ date. NamesDay date day) words → IsDay day
one_day = search rules

-- the day that a `horizon` request names is a valid day number
pub day_made : (v : Verb) (rest : List ℕ) (day : ℕ) → MakesRequest v rest (horizon_request day) → IsDay day
day_made = search (rules, one_day)
