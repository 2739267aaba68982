-- What a taker has been fed after each read of the source that feeds it.
use Rattle.std.proofs.Common.{◌≡◌, ℕ, ◌+◌, ◌<◌, ◌≤◌, List, [], ◌∷◌, ◌++◌, length, take, drop, Some, None, refl, sym, ◌∙◌, rules, subst, arith, append_assoc}
use Rattle.std.proofs.Common.{append-nil, length-append, ◌^◌, Err, Result, Fits, w64, Option, Bool, false}
use Rattle.std.proofs.lemmas.Grind.{common_steps}
use Rattle.std.proofs.lemmas.List.{length-take-le, take-append-le, take-take}
use Rattle.cif_device.specs.Device.{Reads, IsEnd, Ends}
use Rattle.cif_device.specs.declared.feed.FeedFault.{FeedFault}
use Rattle.cif_device.specs.declared.feed.FeedFault.TheVariants as feed
use Rattle.cif_device.specs.Taken.{Taking, Refusing, HasFed, HasRefused, LosesOnePieceMore}

-- an unchanged source has returned no bytes
pub lost_nothing : (left : Option (List ℕ)) → Reads left [] left
lost_nothing = search rules

-- if a source returns a text and then a piece, it returns their concatenation
pub lost_more : (initial now next : Option (List ℕ)) (text piece : List ℕ) → Reads initial text now → Reads now piece next → Reads initial (text ++ piece) next
lost_more = search (rules, append_assoc)

-- before the first read, the number of fed bytes is 0
pub at_start : {T S : Type 0} (takes : Taking T S) (settings : S) (text : List ℕ) (left : Option (List ℕ)) (taker : T) → takes taker settings text
    → HasFed takes 0 settings text left left taker
at_start = search (rules, lost_nothing, append-nil)

-- if a taker has been fed bytes and then takes the next piece, it has been fed these bytes followed
-- by the piece
pub next_turn : {T S : Type 0} (takes : Taking T S) (fed n : ℕ) (settings : S) (text : List ℕ) (initial now next : Option (List ℕ)) (before after : T)
    (piece : List ℕ) → (at : HasFed takes fed settings text initial now before) → length piece ≡ n → Reads now piece next
    → takes after settings ((text ++ at.bytes) ++ piece) → HasFed takes (fed + n) settings text initial next after
next_turn = search (rules, length-append, lost_more, append_assoc)

-- a read of no bytes leaves the fed bytes unchanged
pub nothing_more : {T S : Type 0} (takes : Taking T S) (fed n : ℕ) (settings : S) (text : List ℕ) (initial now next : Option (List ℕ)) (taker : T)
    (into : List ℕ) → HasFed takes fed settings text initial now taker → n ≡ 0 → Reads now (take n into) next
    → HasFed takes fed settings text initial next taker
nothing_more = search (rules, append-nil, lost_more)

-- a failed read leaves the fed bytes unchanged
pub fed_where_failed : {T S : Type 0} (takes : Taking T S) (fed : ℕ) (settings : S) (text : List ℕ) (initial now next : Option (List ℕ)) (taker : T)
    → HasFed takes fed settings text initial now taker → next ≡ now → (count : ℕ) × HasFed takes count settings text initial next taker
fed_where_failed = search rules

-- suppose that a source returns one more piece of at most 65,536 bytes. Then it has returned at
-- most this piece beyond the bytes that the taker has taken
pub one_more : {T S : Type 0} (takes : Taking T S) (fed : ℕ) (settings : S) (text : List ℕ) (initial now next : Option (List ℕ)) (taker : T)
    (piece : List ℕ) → HasFed takes fed settings text initial now taker → Reads now piece next → length piece ≤ 65536
    → LosesOnePieceMore takes 65536 settings text initial next
one_more = grind (common_steps, arith, lost_more)

-- suppose that the taker has taken all bytes that a source returned. Then the source has returned
-- at most one piece beyond the bytes that the taker has taken
pub no_more : {T S : Type 0} (takes : Taking T S) (fed : ℕ) (settings : S) (text : List ℕ) (initial now next : Option (List ℕ)) (taker : T)
    → HasFed takes fed settings text initial now taker → next ≡ now → LosesOnePieceMore takes 65536 settings text initial next
no_more takes fed settings text initial now next taker at same =
    one_more takes fed settings text initial now next taker [] at (subst (Reads now []) (sym same) (lost_nothing now)) (omega arith)

-- if a source returned nothing, it has returned at most one piece beyond the bytes that the taker
-- has taken
pub nothing_read : {T S : Type 0} (takes : Taking T S) (settings : S) (text : List ℕ) (left : Option (List ℕ)) (taker : T) → takes taker settings text
    → LosesOnePieceMore takes 65536 settings text left left
nothing_read takes settings text left taker taken = no_more takes 0 settings text left left left taker (at_start takes settings text left taker taken) refl

-- if the taker refuses the next piece, it has taken the earlier text followed by the fed bytes, and then refused this piece
pub refused_behind : {T S Fault : Type 0} (takes : Taking T S) (refuses : Refusing T S Fault) (fed : ℕ) (settings : S) (text : List ℕ)
    (initial now next : Option (List ℕ)) (before after : T) (piece : List ℕ) (fault : Fault) → (at : HasFed takes fed settings text initial now before)
    → Reads now piece next → length piece ≤ 65536 → refuses after settings (text ++ at.bytes) piece fault
    → HasRefused takes refuses 65536 settings text initial next after fault
unfolding one_more
refused_behind takes refuses fed settings text initial now next before after piece fault at more few refused =
    record { more = one_more takes fed settings text initial now next before piece at more few; refused = refused }

-- suppose that the text, the fed bytes and the next piece have fewer than 2^64 bytes in total. Then
-- the number of fed bytes plus the length of the piece fits in 64 bits
pub fits_still : (fed n : ℕ) (text bytes piece : List ℕ) → length bytes ≡ fed → length piece ≡ n → length ((text ++ bytes) ++ piece) < 2 ^ 64
    → Fits w64 (fed + n)
fits_still = search (rules, length-append)

-- one read returns at most 65,536 bytes, the length of the buffer
pub at_once : (n len : ℕ) (into : List ℕ) → length into ≡ len → len ≡ 65536 → n ≤ length into → length (take n into) ≤ 65536
at_once n len into long room within = let size = length-take-le n into within in omega arith

-- after a read, a source that was at its end is still at its end
pub end_stays : (now next : Option (List ℕ)) (piece : List ℕ) → Reads now piece next → IsEnd now → IsEnd next
end_stays now None piece more end = tt
end_stays None (Some rest) piece more end = cc
end_stays (Some left) (Some rest) [] more end = cc
end_stays (Some left) (Some rest) (byte ∷ piece) more end = let none : ⊥ = cc in absurd none

-- if the end wasn't reported before a read of at least one byte, it isn't reported after that read
pub going_on : (n room : ℕ) (ended now_ended passed now_passed : Bool) → Ends n room ended now_ended passed now_passed → ¬ (n ≡ 0) → ended ≡ false
    → now_ended ≡ false
going_on n room ended now_ended passed now_passed (_, going, _, _) some was = going (omega (arith, some)) ∙ was

-- the first bytes in the buffer are the bytes that were read
pub same_front : (n len : ℕ) (piece into items : List ℕ) → piece ≡ take len (into ++ drop (length into) items) → length into ≡ len → n ≤ length into
    → take n piece ≡ take n into
same_front = search (rules, take-append-le, take-take)

-- if feeding ended without the error `Source`, the source didn't fail
pub none_failed : {Fault : Type 0} (result : Result ℕ (FeedFault Fault)) (before now after : ℕ) → ¬ (result ≡ Err feed.Source) → after ≡ now → now ≡ before
    → (result ≡ Err feed.Source → after ≡ before + 1) × (after ≡ before + 1 → result ≡ Err feed.Source)
none_failed result before now after other same kept = (λ is. absurd (other is), λ more. let none : ⊥ = omega (arith, same, kept, more) in absurd none)
