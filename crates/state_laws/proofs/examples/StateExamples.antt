-- Worked examples of states and of their texts.
use Rattle.cif_laws.proofs.Common.{◌≡◌, [], ◌∷◌, ◌++◌, length, refl, take, drop, codes, slice_range, concat, schedule_key, schedule_named, schedule_body}
use Rattle.cif_laws.proofs.Common.{LedgerItem, ledger_item_of, put_with, body_end, State, dks_1, state_text, item_in, stamp_in, key_in}
use Rattle.jiff_core.specs.Calendar.{days_from_civil, day_count, days_of_years, days_of_months}
use Rattle.cif_laws.proofs.records.Builders.{f2, f2_basic, f2_schedule}

-- the ledger item of the example file
abbrev pub f2_item : LedgerItem
f2_item = record {
  stamp = record { moment = record { day = 23536; minute = 1260 }; reference = codes "DFROC1A" };
  indicator = 85;
  last_reference = codes "DFROC1Z";
}

-- the ledger item of the example file is `f2_item`
pub item_of_f2 : ledger_item_of f2 ≡ f2_item
unfolding days_from_civil day_count days_of_years days_of_months
item_of_f2 = refl

-- the key of the schedule in the example file has the UID C10001, the first day 23537 and the STP
-- indicator 80, which is `P`
pub key_of_f2 : schedule_named f2_basic ≡ schedule_key (record { uid = codes "C10001"; runs_from = 23537; indicator = 80 })
unfolding days_from_civil day_count days_of_years days_of_months
key_of_f2 = refl

-- the body of the schedule in the example file ends on day 23541, which is 14 June 2024
pub end_of_f2 : body_end (schedule_body f2_schedule) ≡ 23541
unfolding days_from_civil day_count days_of_years days_of_months
end_of_f2 = refl

-- the state of the example file
abbrev pub f2_state : State
f2_state = record {
  horizon = 0;
  ledger = f2_item ∷ [];
  entries = (
    schedule_key (record { uid = codes "C10001"; runs_from = 23537; indicator = 80 }),
    record { stamp = record { file = f2_item.stamp; number = 2 }; op = put_with (schedule_body f2_schedule) },
  ) ∷ [];
}

-- the state of an office that knows no file
abbrev pub empty_state : State
empty_state = record { horizon = 0; ledger = []; entries = [] }

empty_text : state_text dks_1 empty_state ≡ 0x44 ∷ 0x4b ∷ 0x53 ∷ 0x31 ∷ 0 ∷ 0 ∷ 0 ∷ 0 ∷ 0 ∷ 0 ∷ 0 ∷ 0 ∷ 0 ∷ 0 ∷ 0 ∷ 0 ∷ 0 ∷ 0 ∷ 0 ∷ 0 ∷ []
empty_text = refl

length_of_text : length (state_text dks_1 f2_state) ≡ 309
length_of_text = refl

-- the text of the example state starts with the mark, the number of ledger items, the ledger item,
-- and the number of entries
start_of_text : take 39 (state_text dks_1 f2_state)
    ≡ codes "DKS1" ++ (0 ∷ 0 ∷ 0 ∷ 0 ∷ 0 ∷ 0 ∷ 0 ∷ 1 ∷ [])
    ++ (0x5b ∷ 0xf0 ∷ 0x04 ∷ 0xec ∷ 0x44 ∷ 0x46 ∷ 0x52 ∷ 0x4f ∷ 0x43 ∷ 0x31 ∷ 0x41 ∷ 0x55 ∷ 0x44 ∷ 0x46 ∷ 0x52 ∷ 0x4f ∷ 0x43 ∷ 0x31 ∷ 0x5a ∷ [])
    ++ (0 ∷ 0 ∷ 0 ∷ 0 ∷ 0 ∷ 0 ∷ 0 ∷ 1 ∷ [])
start_of_text = refl

-- in the text of the example state, the entry starts with its tag, key, stamp, op and number of
-- lines
start_of_entry : slice_range (state_text dks_1 f2_state) 39 69
    ≡ (3 ∷ 0x43 ∷ 0x31 ∷ 0x30 ∷ 0x30 ∷ 0x30 ∷ 0x31 ∷ 0x5b ∷ 0xf1 ∷ 0x50 ∷ [])
    ++ (0x5b ∷ 0xf0 ∷ 0x04 ∷ 0xec ∷ 0x44 ∷ 0x46 ∷ 0x52 ∷ 0x4f ∷ 0x43 ∷ 0x31 ∷ 0x41 ∷ 0 ∷ 0 ∷ 0 ∷ 2 ∷ [])
    ++ (1 ∷ 0 ∷ 0 ∷ 0 ∷ 3 ∷ [])
start_of_entry = refl

lines_in_text : drop 69 (state_text dks_1 f2_state) ≡ concat f2_schedule
lines_in_text = refl

-- the ledger item, the key and the stamp can be decoded from their bytes in the text of the example
-- state
item_again : item_in (slice_range (state_text dks_1 f2_state) 12 31) ≡ f2_item
item_again = refl

key_again : key_in 3 (slice_range (state_text dks_1 f2_state) 40 49) ≡ schedule_key (record { uid = codes "C10001"; runs_from = 23537; indicator = 80 })
key_again = refl

stamp_again : stamp_in (slice_range (state_text dks_1 f2_state) 49 64) ≡ record { file = f2_item.stamp; number = 2 }
stamp_again = refl
