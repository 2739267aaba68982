-- The names of the libraries and of docker_model that proofs cite, passed on from one place. Declares nothing.
pub use Rattle.std.proofs.Common.{All, AllPairs, Bool, Bor, Contains, Equal, Err, Greater, IfErr, IfOk, IfSome, IsErr, IsErrAnd, IsOk, IsPermutation, IsSorted}
pub use Rattle.std.proofs.Common.{IsTrue, Less, List, MatchOption, None, Ok, OnErr, OnOk, Option, Ordering, Result, Some, [], ap, append-nil, append_assoc}
pub use Rattle.std.proofs.Common.{ap₂, arith, bytes_eq, codes, cond, deque_len, drop, drop_of_length-le, eq-eqb, eqb-true, false, filter, filter_map, find}
pub use Rattle.std.proofs.Common.{flat_map, fold, get_or, get_or-drop, get_or-take, inl, inr, is_eq, is_lt, is_none, is_ok, is_some, le-leb, le-ltb, leb-false}
pub use Rattle.std.proofs.Common.{leb-true, length, length-append, length-drop, length-take-le, lit<, lit≤, lt-ltb, ltb-false, ltb-true, map, max, nat_cmp}
pub use Rattle.std.proofs.Common.{nat_eq, nat_le, nat_lt, not, option_and_then, option_map, option_to_list, pos, refl, replicate, rules, set, slice_get}
pub use Rattle.std.proofs.Common.{slice_index, slice_index_or, slice_range, string_bytes, subst, suc, sym, take, take-append-drop, take_all, tests, true}
pub use Rattle.std.proofs.Common.{true≢false, unsigned_abs, vec_capacity, vec_len, w16, w32, w64, w8, zero, zip, ℕ, ◌%◌, ◌&&◌, ◌*◌, ◌++◌, ◌+◌, ◌-◌, ◌/◌, ◌<◌}
pub use Rattle.std.proofs.Common.{◌==◌, ◌^◌, ◌||◌, ◌↔◌, ◌∙◌, ◌∷◌, ◌≡◌, ◌≢◌, ◌≤◌, ◌⊎◌}
pub use Rattle.std.proofs.Math.Nat.{le-max_left, le-max_right, max-eq_left, max-eq_right, max-zero, max_comm}
pub use Rattle.std.proofs.Math.Seq.{get_or-append_seam, take-append-add, take-append_seam}
pub use Rattle.std.proofs.lemmas.Bool.{cases_lt, cases_order, false≢true, lt-leb}
pub use Rattle.std.proofs.lemmas.Bool.Decides.{eqb_tells, leb_tells, nat_tests}
pub use Rattle.std.proofs.lemmas.Fmt.{decimal_digit}
pub use Rattle.std.proofs.lemmas.Fn.{always_returns_same, filter_same}
pub use Rattle.std.proofs.lemmas.Grind.{common_steps, flat_map-append}
pub use Rattle.std.proofs.lemmas.List.{drop_all, get_or_default, length-map, map-append, take-append-le, take_more}
pub use Rattle.std.proofs.lemmas.List.Elements.{All-append, All-cons, All-contains, All-from_recursion, All-get_or, All-head, All-nil, All-push, All-set}
pub use Rattle.std.proofs.lemmas.List.Elements.{All-tail, Contains-append_cases, Contains-append_left, Contains-append_right, filter-append, filter_map-append}
pub use Rattle.std.proofs.lemmas.List.Elements.{recursion_from_All}
pub use Rattle.std.proofs.lemmas.List.Sorted.{Contains-permutation, IsPermutation-sym, IsPermutation-trans, searchable_from_sorted}
pub use Rattle.std.proofs.lemmas.List.Splits.{length-slice_split, slice_split-cons_yes, slice_split_none}
pub use Rattle.std.proofs.lemmas.List.Sums.{AllPass-from_list_all}
pub use Rattle.std.proofs.lemmas.Map.Lookups.{exact_bytes, exact_unsigned}
pub use Rattle.std.proofs.lemmas.Option.{slice_get-get_or}
pub use Rattle.std.proofs.lemmas.Result.{IfOk-weaker, err_from_is_err_and, on_err_weaker, on_ok_weaker}
pub use Rattle.std.proofs.lemmas.Simd.{chunk-fits, length-chunk}
pub use Rattle.std.proofs.lemmas.Slice.Eq.{bytes_eq-Decides}
pub use Rattle.std.proofs.raw_atomic.Walks.{proved}
pub use Rattle.std.specs.BTreeMap.{Updates, get}
pub use Rattle.std.specs.Char.{is_ascii_digit}
pub use Rattle.std.specs.Cmp.{IsTotalOrder, nat_cmp_total, on_total, then_total, tied_itself}
pub use Rattle.std.specs.Cmp.Lexicographic.{nat_list_cmp_total}
pub use Rattle.std.specs.Global.{Vec}
pub use Rattle.std.specs.Int.{from_be_bytes, to_be_bytes}
pub use Rattle.std.specs.List.{AllByRecursion, AllPass, AllWithin, AllZip, concat, cons_option, list_all, list_any, position_or_len, prefix_len, slice_split}
pub use Rattle.std.specs.List.Sorted.{IsNonDecreasingBy, IsPartitionPoint, IsPartitionedBy}
pub use Rattle.std.specs.Ordering.{on, ordering_index, ordering_reverse, ordering_then}
pub use Rattle.std.specs.Prelude.{⊤}
pub use Rattle.std.specs.Str.Lines.{strip_carriage_return}
pub use Rattle.std.specs.Vec.Iter.{into_iter_items}
pub use lib.Lanes.{chunk, mask_l, top}
pub use mir.Syntax.{named}
pub use mir.Val.{vnil, vstruct}
pub use Rattle.docker_model.specs.docker.Association.{IsAssociationLine, IsIdentityOn, IsPartnerIdentity, category_occasion, partner_start}
pub use Rattle.docker_model.specs.docker.Choice.{Group, IsAssociated, IsChosen, IsChosenAssociation, IsChosenOn, IsRunning, Train, TrainRuns}
pub use Rattle.docker_model.specs.docker.Choice.{association_choice_cmp, association_runs, group_of, schedule_choice_cmp, schedule_runs}
pub use Rattle.docker_model.specs.docker.DetailedText.{IsDetailedText, IsOrigin, detailed_line, padded}
pub use Rattle.docker_model.specs.docker.DockerLine.{Detail, DockerLine, docker_line_cmp, line_of_association, line_of_event, tiploc_of_first}
pub use Rattle.docker_model.specs.docker.DockerList.{IsDockerList, IsEventLine}
pub use Rattle.docker_model.specs.docker.DockerText.{IsDockerText, description_in, docker_text, ended, heading, last_line, line_text}
pub use Rattle.docker_model.specs.docker.Event.{Event, changed_identity, event_day, event_identity, event_line, events_of, falls_to, first_event_at}
pub use Rattle.docker_model.specs.docker.Event.{has_identity}
pub use Rattle.docker_model.specs.docker.Permanent.{permanent_table}
pub use Rattle.docker_model.specs.file.Change.{Act, AssociationKey, Body, Change, Key, ScheduleKey, acts_by_kind, association_body, association_key, changes}
pub use Rattle.docker_model.specs.file.Change.{changes_from, changes_of_record, delete, put, schedule_body, schedule_key, schedule_named, schedule_rest}
pub use Rattle.docker_model.specs.file.Change.{tiploc_body, tiploc_key}
pub use Rattle.docker_model.specs.file.FaultSoFar.{IsFaultSoFar, sure_lines}
pub use Rattle.docker_model.specs.file.File.{AreExtraDetails, BeginsFile, BeginsSchedule, IsFile, IsJourney, IsSchedule, IsUnit, IsWithinJourney, first_record}
pub use Rattle.docker_model.specs.file.File.{follows_basic, most_records}
pub use Rattle.docker_model.specs.file.FileFault.{FileCause, FileFault, HoldsOf, IsCause, IsFileFault, IsFileText, IsRecordFault, after_trailer, bad_byte}
pub use Rattle.docker_model.specs.file.FileFault.{bad_field, bad_kind, bad_length, bad_place, cause_rank, no_end, third_midnight, too_many}
pub use Rattle.docker_model.specs.file.Journey.{CallsAt, Occasion, arrival, calls_at, departure, dividing, fall_count, midnights, next_working, pass, timed}
pub use Rattle.docker_model.specs.file.Journey.{times_along, times_by_kind, times_of}
pub use Rattle.docker_model.specs.file.Text.{complete_lines, lines_of, without_empty_last}
pub use Rattle.docker_model.specs.lists.KnownText.{IsKnownText}
pub use Rattle.docker_model.specs.lists.PlacesText.{IsPlacesText}
pub use Rattle.docker_model.specs.lists.TrainText.{IsStampOf, IsTrainText, Stamped}
pub use Rattle.docker_model.specs.records.Clock.{half_minutes, is_blank, is_clock, is_present_time, is_public_time, is_scheduled_time, scheduled_time}
pub use Rattle.docker_model.specs.records.Date.{IsDay, date_number, day_number, end_number, full_year, is_calendar_day, is_date, is_date_day_first, is_days}
pub use Rattle.docker_model.specs.records.Date.{is_end_date, last_day, no_end_number, two_digits}
pub use Rattle.docker_model.specs.records.Field.{CheckedField, HasGoodFields, IsTiploc, as_new, checked, checked_fields, is_deletion, is_new_tiploc}
pub use Rattle.docker_model.specs.records.Field.{is_stp_indicator, is_stp_letter, is_tiploc, is_transaction, leftmost_bad_field}
pub use Rattle.docker_model.specs.records.PrintedTime.{date_text, day_text, spaces}
pub use Rattle.docker_model.specs.records.Record.{HasKind, IsRecord, IsTextOfLength, Kind, Lines, association, basic_schedule, change_en_route, column, columns}
pub use Rattle.docker_model.specs.records.Record.{header, intermediate_location, is_location, is_printable, kind_of, leftmost_bad_byte, origin_location}
pub use Rattle.docker_model.specs.records.Record.{terminating_location, tiploc_amend, tiploc_insert, trailer}
pub use Rattle.docker_model.specs.run.Knowledge.{AreFiles, AreOneKnowledge, HaveSameFiles, IsGoodKnown}
pub use Rattle.docker_model.specs.run.Run.{AreReplies, IsOffice, IsStateOf, Known, KnownSets, Reply, RunEvent, after_reply, deliver, done, horizon_event}
pub use Rattle.docker_model.specs.run.Run.{known_sets, message_known, none_known, nothing, office_known, reload, send_state, take_file, united}
pub use Rattle.docker_model.specs.state.Lapse.{HasNotToLapse, IsDayRefused, lapse, lapse_entries, lapse_entry, lapse_keyed, lapse_table}
pub use Rattle.docker_model.specs.state.Op.{Entry, Op, association_key_cmp, body_end, body_of, deleted, entry_cmp, key_cmp, key_tag, lapsed, op_cmp, op_of}
pub use Rattle.docker_model.specs.state.Op.{put_with, readable_end, schedule_key_cmp}
pub use Rattle.docker_model.specs.state.Order.{IsAtMost, IsBelow, IsStrictlyAscending, bytes_cmp}
pub use Rattle.docker_model.specs.state.Row.{AreInKeyOrder, AreRowsOf, Row}
pub use Rattle.docker_model.specs.state.Stamp.{FileStamp, IsFloor, IsFull, IsKept, LedgerItem, Stamp, file_stamp_cmp, file_stamp_of, ledger_item_cmp}
pub use Rattle.docker_model.specs.state.Stamp.{ledger_item_of, moment_cmp, moment_of, stamp_cmp}
pub use Rattle.docker_model.specs.state.State.{AreAscending, AreEntries, HasGoodBodies, HaveLapsed, IsAssociationOf, IsBodyOf, IsGoodEntry, IsGoodItem}
pub use Rattle.docker_model.specs.state.State.{IsGoodKey, IsGoodScheduleKey, IsGreatestAmong, IsJoin, IsLedger, IsOpOf, IsScheduleOf, IsStampIn, IsValid, State}
pub use Rattle.docker_model.specs.state.State.{entry_at, lapse_state, live_table, raise_horizon}
pub use Rattle.docker_model.specs.state.StateFault.{HasBadPart, IsBadPart, IsLong, IsStateFault, IsStateText, StateCause, StateFault, bad_body, bad_mark}
pub use Rattle.docker_model.specs.state.StateFault.{has_tail, too_short}
pub use Rattle.docker_model.specs.state.StatePart.{AreGood, AreLinesUpTo, Before, EntryPart, HaveNotToLapse, IsAboveEntries, IsAboveItems, IsLineCount}
pub use Rattle.docker_model.specs.state.StatePart.{IsPartHere, IsStampHere, IsTag, RaisesFloor, at_end, before_body, before_entry_count, before_horizon}
pub use Rattle.docker_model.specs.state.StatePart.{before_item, before_key, before_ledger_count, before_line, before_mark, before_op, before_stamp, before_tag}
pub use Rattle.docker_model.specs.state.StatePart.{in_entry, key_text, key_width, text_before, width}
pub use Rattle.docker_model.specs.state.StateText.{Format, IsHorizonOf, IsOpByte, IsToldState, TellsOp, dks_1, dks_2, entries_text, entry_bytes, item_bytes}
pub use Rattle.docker_model.specs.state.StateText.{item_in, key_bytes, key_in, stamp_bytes, stamp_in, state_text}
pub use Rattle.docker_model.specs.state.Summary.{HaveDistinctMoments, IsEntryOf, IsGreatestEntryOf, IsKeptFile, IsSummary, entry_of}
pub use Rattle.docker_model.specs.state.Table.{IsPlainTable, Table, after_change, after_files, empty_table, from_last_full}
