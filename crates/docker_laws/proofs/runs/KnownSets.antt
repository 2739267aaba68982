-- Lemmas on the knowledge after one more event of a run, and on the numbers of offices and
-- messages.
use Rattle.cif_laws.proofs.Common.{◌≡◌, ℕ, suc, ◌+◌, Bool, true, false, cond, List, [], ◌∷◌, ◌++◌, length, refl, ap, ◌∙◌, arith, length-append, rules, fold}
use Rattle.cif_laws.proofs.Common.{filter, zip, RunEvent, Reply, KnownSets, nothing, after_reply, none_known, known_sets, AreReplies}
use Rattle.std.proofs.Common.{length-set}
use Rattle.std.proofs.lemmas.List.Sums.{fold-append}
use Rattle.std.proofs.lemmas.List.{length-replicate}
use Rattle.docker_model.specs.run.Run.{IsReply}
use Rattle.docker_model.specs.run.Knowledge.{is_sent, sent_count}

zip_more : {A B : Type 0} (xs : List A) (ys : List B) (x : A) (y : B) → length xs ≡ length ys → zip (xs ++ x ∷ []) (ys ++ y ∷ []) ≡ zip xs ys ++ (x, y) ∷ []
zip_more [] [] x y same = refl
zip_more (a ∷ xs) (b ∷ ys) x y same = ap (λ rest. (a, b) ∷ rest) (zip_more xs ys x y (omega arith))
zip_more xs ys x y same = absurd (omega arith)

-- `after_reply` computes the knowledge after one more event from the knowledge before the event,
-- from the event and from its reply
pub sets_more : (offices : ℕ) (events : List RunEvent) (replies : List Reply) (event : RunEvent) (reply : Reply) → length events ≡ length replies
    → known_sets offices (events ++ event ∷ []) (replies ++ reply ∷ []) ≡ after_reply (known_sets offices events replies) (event, reply)
sets_more = search (rules, zip_more, fold-append)

-- ---- appending an event with an allowed reply leaves all replies of a run allowed

-- in a run, the number of replies equals the number of events
pub replies_long : (known : KnownSets) (events : List RunEvent) (replies : List Reply) → AreReplies known events replies → length events ≡ length replies
replies_long known [] [] are = refl
replies_long known (event ∷ events) (reply ∷ replies) are = ap suc (replies_long (after_reply known (event, reply)) events replies are.1)
replies_long known events replies are = absurd are

-- if all replies of a run are allowed, and an event with an allowed reply is appended, all replies
-- of the longer run are allowed. The run may begin with any knowledge
pub replies_after : (known : KnownSets) (events : List RunEvent) (replies : List Reply) (event : RunEvent) (reply : Reply)
    → AreReplies known events replies → IsReply (fold after_reply known (zip events replies)) event reply → AreReplies known (events ++ event ∷ [])
    (replies ++ reply ∷ [])
replies_after known [] [] event reply are is = (is, tt)
replies_after known (other ∷ events) (answer ∷ replies) event reply are is =
    (are.0, replies_after (after_reply known (other, answer)) events replies event reply are.1 is)
replies_after known events replies event reply are is = absurd are

-- like `replies_after`, for a run in which the offices know nothing at the start
pub replies_more : (offices : ℕ) (events : List RunEvent) (replies : List Reply) (event : RunEvent) (reply : Reply)
    → AreReplies (none_known offices) events replies → IsReply (known_sets offices events replies) event reply → AreReplies (none_known offices)
    (events ++ event ∷ []) (replies ++ reply ∷ [])
replies_more offices events replies event reply are is = replies_after (none_known offices) events replies event reply are is

-- ---- the number of offices stays the same, and the number of messages equals the number of states
-- sent

offices_stay : (known : KnownSets) (event : RunEvent) (reply : Reply) → length (after_reply known (event, reply)).offices ≡ length known.offices
offices_stay = search (rules, length-set)

messages_grow : (known : KnownSets) (event : RunEvent) (reply : Reply) → length (after_reply known (event, reply)).messages ≡ length known.messages + length
    (filter is_sent ((event, reply) ∷ []))
messages_grow = search (rules, length-append)

offices_along : (known : KnownSets) (events : List RunEvent) (replies : List Reply) → length (fold after_reply known (zip events replies)).offices
    ≡ length known.offices
offices_along known (event ∷ events) (reply ∷ replies) = offices_along (after_reply known (event, reply)) events replies ∙ offices_stay known event reply
offices_along known events replies = refl

messages_along : (known : KnownSets) (events : List RunEvent) (replies : List Reply) → length (fold after_reply known (zip events replies)).messages
    ≡ length known.messages + sent_count events replies
messages_along known [] replies = omega arith
messages_along known (event ∷ events) [] = omega arith
messages_along known (event ∷ events) (reply ∷ replies) =
    let rest = messages_along (after_reply known (event, reply)) events replies in
    let here = messages_grow known event reply in
    let split = first_counts (event, reply) (zip events replies) in
    omega arith
  where
    first_counts : (x : RunEvent × Reply) (xs : List (RunEvent × Reply)) → length (filter is_sent (x ∷ xs)) ≡ length (filter is_sent (x ∷ [])) + length
        (filter is_sent xs)
    first_counts x xs = by (is_sent x)
      where
        by : (b : Bool) → length (cond b (x ∷ filter is_sent xs) (filter is_sent xs)) ≡ length (cond b (x ∷ []) []) + length (filter is_sent xs)
        by true = omega arith
        by false = omega arith

-- after a run, the number of offices is the same as at its start
pub offices_are : (offices : ℕ) (events : List RunEvent) (replies : List Reply) → length (known_sets offices events replies).offices ≡ offices
offices_are offices events replies = offices_along (none_known offices) events replies ∙ length-replicate offices nothing

-- in a run, the number of messages equals the number of states that were sent
pub messages_are : (offices : ℕ) (events : List RunEvent) (replies : List Reply)
    → length (known_sets offices events replies).messages ≡ sent_count events replies
messages_are = search (rules, messages_along)
