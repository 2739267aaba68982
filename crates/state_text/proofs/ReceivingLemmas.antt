-- Lemmas on staging the entries that are given to a receiving state. Committing the staged entries
-- joins this state with the given entries and ledger items.
use Rattle.cif_laws.proofs.Common.{◌≡◌, ℕ, List, [], ◌∷◌, ◌++◌, sym, subst, inl, inr, All, rules, Option, Key, Entry, key_cmp, IsBelow, FileStamp, IsFloor}
use Rattle.cif_laws.proofs.Common.{State, IsValid, IsJoin}
use Rattle.state_laws.specs.Staging.{IsStaged, IsCommit}
use Rattle.cif_laws.proofs.lists.Membership.{member_of}
use Rattle.state_laws.proofs.joins.StagedEntry.{nothing_staged, one_staged_more, one_left_out, staging_joins_before}
use Rattle.docker_state.specs.declared.item.LedgerItem.{LedgerItem}
use Rattle.docker_state.specs.Parts.{under}
use Rattle.docker_state.specs.Staging.{Staging, IsOffered, IsAboveStaged}
use Rattle.state_text.specs.Receiving.{given_state, items_of, IsStagedOf}

-- if a key is above the keys of all entries that the receiving state was given, it is above the
-- keys of the staged entries
pub above_staged : (own : State) (floor : Option FileStamp) (entries staged : List (Key × Entry)) (key : Key) → IsStaged own floor entries staged
    → All (λ (entry : Key × Entry). IsBelow key_cmp entry.0 key) entries → IsAboveStaged staged key
above_staged own floor entries staged key are above other among =
    member_of (λ (entry : Key × Entry). IsBelow key_cmp entry.0 key) entries other above ((are.members other.0 other.1).0 among).0

-- if the staging is correct, it is still correct after it is given one more entry. It is correct if
-- it contains exactly those given entries that the receiving state has to take over
pub offered_more : (own : State) (staging after : Staging) (entries : List (Key × Entry)) (key : Key) (entry : Entry) → IsStagedOf own staging entries
    → IsAboveStaged staging.staged key → IsOffered own staging key entry after → IsStagedOf own after (entries ++ (key, entry) ∷ [])
offered_more own staging after entries key entry are above (inl to) = subst (λ (s : Staging). IsStagedOf own s (entries ++ (key, entry) ∷ [])) (sym to.1)
    (record { floor = are.floor; staged = one_staged_more _ _ _ _ _ _ are.staged above to.0 })
offered_more own staging after entries key entry are above (inr out) = subst (λ (s : Staging). IsStagedOf own s (entries ++ (key, entry) ∷ [])) (sym out.1)
    (record { floor = are.floor; staged = one_left_out _ _ _ _ _ _ are.staged out.0 })

-- a staging with the right floor is correct if no entry was given and no entry is staged
pub none_staged : (own : State) (staging : Staging) (entries : List (Key × Entry)) → entries ≡ [] → staging.staged ≡ []
    → IsFloor (own.ledger ++ staging.items) staging.floor → IsStagedOf own staging entries
none_staged = search (rules, nothing_staged)

-- committing the staged entries joins the receiving state with the received ledger items and all
-- entries that were given
pub commit_joins : (own after : State) (items : List LedgerItem) (held : Option Staging) (entries : List (Key × Entry)) (staging : Staging) (horizon : ℕ)
    → IsValid own → IsValid (under horizon (given_state (items_of items held) entries)) → items_of items held ≡ staging.items
    → IsStagedOf own staging entries
    → ((offered : List (Key × Entry)) → IsStaged own staging.floor offered staging.staged → IsCommit own staging.items staging.staged after)
    → IsJoin own (given_state (items_of items held) entries) after
commit_joins own after items held entries staging horizon valid told same are commit = subst (λ its. IsJoin own (given_state its entries) after) (sym same)
    (staging_joins_before _ _ _ _ _ valid
    (subst (λ its. IsValid (under horizon (given_state its entries))) same told) are.floor are.staged (commit entries are.staged))
