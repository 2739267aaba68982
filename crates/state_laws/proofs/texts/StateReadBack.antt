-- Decoding is the inverse of encoding, for ledger items, keys and stamps. The lemmas also say how
-- many bytes an item, a key and a stamp have.
use Rattle.cif_laws.proofs.Common.{◌≡◌, ℕ, suc, ◌+◌, ◌-◌, ◌<◌, ◌^◌, List, [], ◌∷◌, ◌++◌, length, take, drop, rules, common_steps, ap, ◌∙◌, subst, arith}
use Rattle.cif_laws.proofs.Common.{append_assoc, length-append, slice_index, slice_range, w16, w32, to_be_bytes, from_be_bytes, take_all, Key, association_key}
use Rattle.cif_laws.proofs.Common.{schedule_key, AssociationKey, ScheduleKey, FileStamp, Stamp, LedgerItem, key_tag, IsGoodItem, IsGoodKey, IsGoodScheduleKey}
use Rattle.cif_laws.proofs.Common.{IsLedger, IsStampIn, item_bytes, key_bytes, stamp_bytes, item_in, key_in, stamp_in, key_width}
use Rattle.std.proofs.lemmas.Nat.{from_be_bytes-to_be_bytes_2}
use Rattle.std.proofs.lemmas.List.{take_at, get_or-append_right}
use Rattle.docker_model.specs.state.State.{IsGoodAssociationKey}
use Rattle.docker_model.specs.state.StateText.{file_stamp_bytes, file_stamp_in}
use Rattle.docker_model.specs.state.StateText.{association_key_in, schedule_key_in}
use Rattle.cif_laws.proofs.lists.Membership.{Contains-map}

-- if a list has `n` elements, dropping `n + k` elements of its concatenation with another list
-- equals dropping `k` elements of the other list
pub drop_past : (xs ys : List ℕ) (n k : ℕ) → length xs ≡ n → drop (n + k) (xs ++ ys) ≡ drop k ys
drop_past [] ys n k size = ap (λ j. drop j ys) (omega arith)
drop_past (x ∷ xs) ys n k size =
    let up : n + k ≡ suc ((n - 1) + k) = omega arith in
    ap (λ j. drop j (x ∷ xs ++ ys)) up ∙ drop_past xs ys (n - 1) k (omega arith)

-- the file stamp can be decoded from its bytes: its two numbers are below 2^16, and its reference
-- has seven bytes
record IsGoodFileStamp (stamp : FileStamp) : Type 0 where
  day : stamp.moment.day < 2 ^ 16
  minute : stamp.moment.minute < 2 ^ 16
  reference : length stamp.reference ≡ 7

good_stamp : (item : LedgerItem) → IsGoodItem item → IsGoodFileStamp item.stamp
good_stamp item good = let low = good.day in let minute = good.minute in record { day = omega arith; minute = omega arith; reference = good.reference.0 }

-- a number below 2^16 can be decoded from its two bytes
pub read_16 : (n : ℕ) → n < 2 ^ 16 → from_be_bytes w16 (to_be_bytes w16 n) ≡ n
read_16 = from_be_bytes-to_be_bytes_2

file_stamp_read : (stamp : FileStamp) (rest : List ℕ) → IsGoodFileStamp stamp → file_stamp_in (file_stamp_bytes stamp ++ rest) ≡ stamp
file_stamp_read stamp rest good =
    let day : from_be_bytes w16 (slice_range (file_stamp_bytes stamp ++ rest) 0 2) ≡ stamp.moment.day = read_16 stamp.moment.day good.day in
    let minute : from_be_bytes w16 (slice_range (file_stamp_bytes stamp ++ rest) 2 4) ≡ stamp.moment.minute = read_16 stamp.moment.minute good.minute in
    let reference : slice_range (file_stamp_bytes stamp ++ rest) 4 11 ≡ stamp.reference = take_at stamp.reference rest 7 good.reference in
    λ i. record { moment = record { day = day i; minute = minute i }; reference = reference i }

-- a well-formed ledger item can be decoded from its bytes
pub item_read : (item : LedgerItem) → IsGoodItem item → item_in (item_bytes item) ≡ item
item_read = grind (common_steps, arith, file_stamp_read, good_stamp, get_or-append_right, drop_past, take_all)

-- a well-formed ledger item has 19 bytes
pub item_width : (item : LedgerItem) → IsGoodItem item → length (item_bytes item) ≡ 19
item_width = search (rules, length-append)

stamp_of_ledger : (ledger : List LedgerItem) (stamp : Stamp) → IsLedger ledger → IsStampIn ledger stamp → IsGoodFileStamp stamp.file
stamp_of_ledger ledger stamp is in_it =
    let found = Contains-map (λ (item : LedgerItem). item.stamp) ledger stamp.file in_it.in_ledger in
    subst IsGoodFileStamp found.2 (good_stamp found.0 (subst IsGoodItem found.1.2 (is.each found.1.0 found.0 found.1.1)))

-- a stamp whose file is in the ledger can be decoded from its bytes
pub stamp_read : (ledger : List LedgerItem) (stamp : Stamp) → IsLedger ledger → IsStampIn ledger stamp → stamp_in (stamp_bytes stamp) ≡ stamp
stamp_read ledger stamp is in_it =
    let good = stamp_of_ledger ledger stamp is in_it in
    let high = in_it.high in
    let file : file_stamp_in (stamp_bytes stamp) ≡ stamp.file = file_stamp_read stamp.file (to_be_bytes w32 stamp.number) good in
    let number : from_be_bytes w32 (slice_range (stamp_bytes stamp) 11 15) ≡ stamp.number = search rules in
    λ i. record { file = file i; number = number i }

-- a stamp whose file is in the ledger has 15 bytes
pub stamp_width : (ledger : List LedgerItem) (stamp : Stamp) → IsLedger ledger → IsStampIn ledger stamp → length (stamp_bytes stamp) ≡ 15
stamp_width ledger stamp is in_it =
    let good = stamp_of_ledger ledger stamp is in_it in
    let size = good.reference in
    let joined = length-append stamp.file.reference (to_be_bytes w32 stamp.number) in
    omega arith

association_bytes : AssociationKey → List ℕ
association_bytes key = key.base ++ (key.associated ++ (to_be_bytes w16 key.start ++ (key.location ++ (key.suffix ∷ key.indicator ∷ []))))

association_bytes_are : (key : AssociationKey) → key_bytes (association_key key) ≡ association_bytes key
unfolding association_bytes
association_bytes_are = search (rules, append_assoc)

association_read : (key : AssociationKey) → IsGoodAssociationKey key → association_key_in (association_bytes key) ≡ association_key key
unfolding association_bytes
association_read key good =
    let size_base = good.base.0 in
    let size_associated = good.associated.0 in
    let size_location = good.location.0.0 in
    let day = good.start in
    let end = key.suffix ∷ key.indicator ∷ [] in
    let behind_start = key.location ++ end in
    let behind_associated = to_be_bytes w16 key.start ++ behind_start in
    let behind_base = key.associated ++ behind_associated in
    let base : slice_range (association_bytes key) 0 6 ≡ key.base = take_at key.base behind_base 6 size_base in
    let associated : slice_range (association_bytes key) 6 12 ≡ key.associated =
    ap (take 6) (drop_past key.base behind_base 6 0 size_base) ∙ take_at key.associated behind_associated 6 size_associated in
    let from_start : (k : ℕ) → drop (6 + (6 + k)) (association_bytes key) ≡ drop k behind_associated =
    λ k. drop_past key.base behind_base 6 (6 + k) size_base ∙ drop_past key.associated behind_associated 6 k size_associated in
    let start : from_be_bytes w16 (slice_range (association_bytes key) 12 14) ≡ key.start = search (rules, read_16) in
    let location : slice_range (association_bytes key) 14 21 ≡ key.location = ap (take 7) (from_start 2) ∙ take_at key.location end 7 size_location in
    let at_end : (k : ℕ) → slice_index (association_bytes key) (21 + k) ≡ slice_index end k =
    λ k. get_or-append_right key.base behind_base 6 (21 + k) 0 size_base (omega arith)
    ∙ ap (λ n. slice_index behind_base n) (omega arith) ∙ get_or-append_right key.associated behind_associated 6 (15 + k) 0 size_associated (omega arith)
    ∙ ap (λ n. slice_index behind_associated n) (by_nine k) ∙ get_or-append_right key.location end 7 (7 + k) 0 size_location (omega arith)
    ∙ ap (λ n. slice_index end n) (omega arith) in
    let suffix : slice_index (association_bytes key) 21 ≡ key.suffix = at_end 0 in
    let indicator : slice_index (association_bytes key) 22 ≡ key.indicator = at_end 1 in
    search rules
  where
    by_nine : (k : ℕ) → 15 + k - 6 ≡ suc (suc (7 + k))
    by_nine k = omega arith

schedule_bytes : ScheduleKey → List ℕ
schedule_bytes key = key.uid ++ (to_be_bytes w16 key.runs_from ++ (key.indicator ∷ []))

schedule_bytes_are : (key : ScheduleKey) → key_bytes (schedule_key key) ≡ schedule_bytes key
unfolding schedule_bytes
schedule_bytes_are key = append_assoc key.uid (to_be_bytes w16 key.runs_from) (key.indicator ∷ [])

schedule_read : (key : ScheduleKey) → IsGoodScheduleKey key → schedule_key_in (schedule_bytes key) ≡ schedule_key key
unfolding schedule_bytes
schedule_read key good =
    let size = good.uid.0 in
    let day = good.runs_from in
    let behind = to_be_bytes w16 key.runs_from ++ (key.indicator ∷ []) in
    let uid : slice_range (schedule_bytes key) 0 6 ≡ key.uid = take_at key.uid behind 6 size in
    let runs_from : from_be_bytes w16 (slice_range (schedule_bytes key) 6 8) ≡ key.runs_from =
    ap (λ bytes. from_be_bytes w16 (take 2 bytes)) (drop_past key.uid behind 6 0 size) ∙ read_16 key.runs_from (omega arith) in
    let indicator : slice_index (schedule_bytes key) 8 ≡ key.indicator = get_or-append_right key.uid behind 6 8 0 size (omega arith) in
    λ i. schedule_key (record { uid = uid i; runs_from = runs_from i; indicator = indicator i })

-- a well-formed key can be decoded from its bytes
pub key_read : (key : Key) → IsGoodKey key → key_in (key_tag key) (key_bytes key) ≡ key
key_read = search (rules, association_bytes_are, association_read, schedule_bytes_are, schedule_read)

-- `key_width` computes the number of bytes of a well-formed key from the key's tag
pub key_width_is : (key : Key) → IsGoodKey key → length (key_bytes key) ≡ key_width (key_tag key)
key_width_is = search (rules, association_bytes_are, schedule_bytes_are, length-append)
