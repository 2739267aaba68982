-- If all events of a run are good, all knowledge after the run is good: every known file is a CIF
-- file, and the format allows every known horizon.
use Rattle.cif_laws.proofs.Common.{◌≡◌, ℕ, ◌≤◌, Bool, true, false, List, [], ◌∷◌, length, get_or, refl, arith, All, rules, common_steps, max, nat_lt, fold, zip}
use Rattle.cif_laws.proofs.Common.{ltb-true, ltb-false, All-cons, All-append, All-set, All-push, All-nil, All-head, All-tail, IsFile, most_records, lines_of}
use Rattle.cif_laws.proofs.Common.{IsFileText, Format, IsHorizonOf, RunEvent, take_file, send_state, deliver, reload, horizon_event, Reply, done, Known}
use Rattle.cif_laws.proofs.Common.{KnownSets, nothing, united, office_known, message_known, after_reply, none_known, known_sets, AreReplies, AreFiles}
use Rattle.cif_laws.proofs.Common.{IsGoodKnown}
use Rattle.std.specs.Prelude.{slice_set}
use Rattle.std.proofs.Math.Nat.{zero-max}
use Rattle.std.proofs.lemmas.List.Elements.{All-replicate}
use Rattle.docker_model.specs.run.Run.{refused}
use Rattle.docker_model.specs.run.Run.{after_done, IsReply}
use Rattle.docker_model.specs.run.Knowledge.{IsGoodEvent}
use Rattle.state_laws.proofs.states.Lapse.{max_most}

-- ---- if the knowledge of each of two offices is good, their knowledge together is good

-- if a format allows two horizons, it allows the greater of them
max_good : (format : Format) (a b : ℕ) → IsHorizonOf format a → IsHorizonOf format b → IsHorizonOf format (max a b)
max_good = search (rules, zero-max, max_most)

none_good : (format : Format) → IsHorizonOf format 0
none_good = search rules

no_files_good : AreFiles []
no_files_good = (All-nil IsFile, All-nil (λ file. length file ≤ most_records))

-- if an office knows no files and no horizon, its knowledge is good (`IsGoodKnown`)
pub nothing_good : (format : Format) → IsGoodKnown format nothing
nothing_good format = (no_files_good, none_good format)

-- if the knowledge of each of two offices is good (`IsGoodKnown`), so is the union of their
-- knowledge
pub united_good : (format : Format) (first second : Known) → IsGoodKnown format first → IsGoodKnown format second → IsGoodKnown format (united first second)
united_good format first second one two = (
  (All-append IsFile first.files second.files one.0.0 two.0.0, All-append (λ file. length file ≤ most_records) first.files second.files one.0.1 two.0.1),
  max_good format first.horizon second.horizon one.1 two.1,
)

-- if an office accepts a file under a limit, and knows only this file, its knowledge is good
-- (`IsGoodKnown`)
pub file_good : (format : Format) (text : List ℕ) (limit : ℕ) → limit ≤ most_records → IsFileText limit text (lines_of text)
    → IsGoodKnown format (record { files = lines_of text ∷ []; horizon = 0 })
file_good format text limit low file =
    let within : length (lines_of text) ≤ limit = file.within in
    let few : length (lines_of text) ≤ most_records = omega arith in (
      (
        All-cons IsFile (lines_of text) [] file.is (All-nil IsFile),
        All-cons (λ f. length f ≤ most_records) (lines_of text) [] few (All-nil (λ f. length f ≤ most_records)),
      ),
      none_good _,
    )

-- if a format allows a horizon, and an office knows only this horizon and no files, its knowledge
-- is good (`IsGoodKnown`)
pub horizon_good : (format : Format) (day : ℕ) → IsHorizonOf format day → IsGoodKnown format (record { files = []; horizon = day })
horizon_good format day is = (no_files_good, is)

-- ---- the knowledge after a run of good events is good

good_at : {A : Type 0} (P : A → Type 0) (xs : List A) (i : ℕ) (d : A) → All P xs → P d → P (get_or xs i d)
good_at = grind (common_steps, arith)

-- the knowledge of each office is good (`IsGoodKnown`), and so is the knowledge that each message
-- carries
abbrev pub AllGood : Format → KnownSets → Type 0
AllGood format known = All (IsGoodKnown format) known.offices × All (IsGoodKnown format) known.messages

module _ (format : Format) where
  office_good : (known : KnownSets) (office : ℕ) → AllGood format known → IsGoodKnown format (office_known known office)
  office_good known office good = good_at (IsGoodKnown format) known.offices office nothing good.0 (nothing_good format)

  message_good : (known : KnownSets) (message : ℕ) → AllGood format known → IsGoodKnown format (message_known known message)
  message_good known message good = good_at (IsGoodKnown format) known.messages message nothing good.1 (nothing_good format)

  with_good : (known : KnownSets) (office : ℕ) (now : Known) → AllGood format known → IsGoodKnown format now
      → All (IsGoodKnown format) (slice_set known.offices office now)
  with_good known office now good one = All-set (IsGoodKnown format) known.offices office now one good.0

  good_done : (known : KnownSets) (event : RunEvent) → AllGood format known → IsGoodEvent format event → IsReply known event done
      → AllGood format (after_done known event)
  good_done known (take_file office text limit) good low reply = by (nat_lt office (length known.offices)) refl
    where
      by : (b : Bool) → nat_lt office (length known.offices) ≡ b → AllGood format (after_done known (take_file office text limit))
      by true h = search (rules, with_good, united_good, file_good, ltb-true, office_good, reply.there, good.1)
      by false h = search (rules, ltb-false, known.offices, reply.absent)
  good_done known (send_state office) good event reply =
      (good.0, All-push (IsGoodKnown format) known.messages (office_known known office) good.1 (office_good known office good))
  good_done known (deliver office message) good event reply = search (rules, with_good, united_good, message_good, office_good)
  good_done known (reload office message) good event reply = search (rules, with_good, message_good)
  good_done known (horizon_event office day) good event reply = search (rules, with_good, united_good, horizon_good, office_good)

  good_after : (known : KnownSets) (event : RunEvent) (reply : Reply) → AllGood format known → IsGoodEvent format event → IsReply known event reply
      → AllGood format (after_reply known (event, reply))
  good_after known event done good is told = good_done known event good is told
  good_after known event (refused why) good is told = good

  good_along : (known : KnownSets) (events : List RunEvent) (replies : List Reply) → AllGood format known → All (IsGoodEvent format) events
      → AreReplies known events replies
      → AllGood format (fold after_reply known (zip events replies))
  good_along known [] replies good each are = good
  good_along known (event ∷ events) [] good each are = absurd are
  good_along known (event ∷ events) (reply ∷ replies) good each are =
      good_along (after_reply known (event, reply)) events replies (good_after known event reply good (All-head (IsGoodEvent format) event events each) are.0)
      (All-tail (IsGoodEvent format) event events each) are.1

  -- after a run of good events (`IsGoodEvent`), the knowledge of each office is good
  -- (`IsGoodKnown`), and so is the knowledge that each message carries
  pub good_in_run : (offices : ℕ) (events : List RunEvent) (replies : List Reply) → All (IsGoodEvent format) events
      → AreReplies (none_known offices) events replies
      → AllGood format (known_sets offices events replies)
  good_in_run offices events replies each are = good_along _ _ _ (
    All-replicate (IsGoodKnown format) offices nothing (nothing_good _),
    All-nil (IsGoodKnown format),
  ) each are
