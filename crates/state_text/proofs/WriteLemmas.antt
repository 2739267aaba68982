-- The text of a state is the concatenation of the pieces in which it is written through a buffer.
use Rattle.cif_laws.proofs.Common.{◌≡◌, ℕ, ◌<◌, List, [], ◌++◌, length, map, get_or, ap, sym, ◌∙◌, subst, arith, append_assoc, append-nil, All, rules, concat}
use Rattle.cif_laws.proofs.Common.{flat_map, w64, to_be_bytes, length-map, Key, Entry, LedgerItem, State, dks_2, item_bytes, entry_bytes, state_text}
use Rattle.std.proofs.Math.ListN.{get_or-map}
use Rattle.docker_model.specs.state.StateText.{head_text}
use Rattle.state_text.specs.Entries.{entry_head, op_lines}
use Rattle.state_text.specs.Written.{body_text}

-- an entry's bytes are its head followed by its lines
pub entry_text : (entry : Key × Entry) → entry_head entry ++ concat (op_lines entry.1.op) ≡ entry_bytes entry
entry_text = search (rules, append-nil, append_assoc)

-- if all elements of a mapped list have a property, the image of each element has it
pub at_mapped : {A B : Type 0} (P : B → Type 0) (m : A → B) (xs : List A) (i : ℕ) (x : A) → All P (map m xs) → i < length xs → x ≡ get_or xs i x → P (m x)
at_mapped P m xs i x all below at =
    let size = length-map xs m in
    subst P (get_or-map m xs i x ∙ ap m (sym at)) (all i (m x) (omega arith))

-- the text of a state is the concatenation of its head (the mark and the horizon), the number of its ledger items, and the text after this number
pub state_text_is : {A : Type 0} (state : State) (item : A → LedgerItem) (items : List A) (horizon : ℕ) (none head : List ℕ) → map item items ≡ state.ledger
    → horizon ≡ state.horizon → none ≡ [] → head ≡ none ++ head_text dks_2 horizon ++ to_be_bytes w64 (length items)
    → head ++ body_text state ≡ state_text dks_2 state
state_text_is = search (rules, length-map, append_assoc)

-- the text after the number of ledger items is the text of the items, the number of entries and the entries
pub body_text_is : {A B : Type 0} (state : State) (item : A → LedgerItem) (row : B → Key × Entry) (items : List A) (rows : List B)
    → map item items ≡ state.ledger → map row rows ≡ state.entries
    → flat_map item_bytes (map item items) ++ to_be_bytes w64 (length rows) ++ flat_map entry_bytes (map row rows) ≡ body_text state
body_text_is = search (rules, length-map)
