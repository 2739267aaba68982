-- Taking bytes from streams, and the reads that this needs.
use Rattle.cif_laws.proofs.Common.{◌≡◌, ◌≢◌, ℕ, ◌+◌, ◌-◌, ◌^◌, ◌≤◌, List, [], ◌∷◌, ◌++◌, length, refl, sym, ap, subst, arith, Some, Ok, Err, common_steps}
use Rattle.cif_laws.proofs.Common.{append_assoc, append-nil, length-append, rules, Result}
use Rattle.cif_device.specs.Device.{Reads}
use Rattle.docker_host.specs.History.{Text}
use Rattle.docker_host.specs.Exchanges.{Exchange, read, unread, AreReads, bytes_read}
use Rattle.docker_host.specs.Streams.{StreamsView}
use Rattle.docker_host.proofs.StreamsLemmas.{read_append}
use Rattle.docker_desk.specs.declared.lines.Asked.{Asked}
use Rattle.docker_desk.specs.declared.lines.Asked.TheVariants as asked
use Rattle.docker_desk.specs.declared.lines.InputFault.{InputFault}
use Rattle.docker_desk.specs.declared.lines.InputFault.TheVariants.{Failed, Endless}
use Rattle.docker_desk.specs.Lines.{EndsLine, EndsSkipping, IsWithoutFeed}
use Rattle.docker_desk.specs.Lines.{ReadsInLine, Uses, UsesLine, asked_meant, cut_or_end, whole_line}
use Rattle.docker_desk.proofs.LineLemmas.{ArePrintable, IsSpoiled, printable_without, reads_bad, reads_cut, reads_whole, without_both}

-- ---- reads within a line

pub in_line_append : (text : Text) (one two : List Exchange) → ReadsInLine text one → ReadsInLine (text ++ bytes_read one) two
    → ReadsInLine text (one ++ two)
in_line_append text [] two first second = subst (λ (t : Text). ReadsInLine t two) (append-nil text) second
in_line_append text (read bytes ∷ one) two first second = (
  first.0,
  in_line_append (text ++ bytes) one two first.1
      (subst (λ (t : Text). ReadsInLine t two) (sym (append_assoc text bytes (bytes_read one))) second),
)
in_line_append text (unread ∷ one) two first second = (first.0, in_line_append text one two first.1 second)
in_line_append text _ two first second = absurd first

-- reads within a line are still within the line if more bytes without a line feed stand before it
pub in_line_behind : (line text : Text) (gained : List Exchange) → IsWithoutFeed line → ReadsInLine text gained
    → ReadsInLine (line ++ text) gained
in_line_behind line text [] one reads = tt
in_line_behind line text (read bytes ∷ gained) one reads = grind (arith, without_both, append_assoc, (in_line_behind line (text ++ bytes) gained one reads.1))
in_line_behind line text (unread ∷ gained) one reads = (without_both line text one reads.0, in_line_behind line text gained one reads.1)
in_line_behind line text _ one reads = absurd reads

pub in_line_are_reads : (text : Text) (gained : List Exchange) → ReadsInLine text gained → AreReads gained
in_line_are_reads text [] reads = tt
in_line_are_reads text (read bytes ∷ gained) reads = (tt, in_line_are_reads (text ++ bytes) gained reads.1)
in_line_are_reads text (unread ∷ gained) reads = (tt, in_line_are_reads text gained reads.1)
in_line_are_reads text _ reads = absurd reads

-- ---- only reads

-- the streams after these reads
abbrev read_on : StreamsView → StreamsView → List Exchange → StreamsView
read_on old new gained =
    record old {
      input = new.input;
      ended = new.ended;
      passed = new.passed;
      input_failures = new.input_failures;
      exchanges = old.exchanges ++ gained;
    }

only_both : (one two : List Exchange) (old mid new : StreamsView) → mid ≡ read_on old mid one → new ≡ read_on mid new two
    → new ≡ read_on old new (one ++ two)
only_both = search (rules, append_assoc)

-- ---- one read

-- ---- several bytes

-- if bytes without a line feed were used and then more bytes, their concatenation was used
pub uses_more : (used more ahead mid_ahead ahead_now : Text) (old mid new : StreamsView) → IsWithoutFeed used
    → Uses used ahead mid_ahead old mid → Uses more mid_ahead ahead_now mid new → Uses (used ++ more) ahead ahead_now old new
uses_more = search (rules, in_line_append, in_line_behind, only_both, read_append, append_assoc)

-- if bytes were used, the bytes to read were these bytes, followed by those that are read ahead now
pub used_reads : (used ahead ahead_now : Text) (old new : StreamsView) (uses : Uses used ahead ahead_now old new)
    → Reads (Some (ahead ++ bytes_read uses.gained)) used (Some ahead_now)
used_reads used ahead ahead_now old new uses = ap Some uses.whole

-- ---- a line

-- if a line of printable bytes and its line feed were used, a whole line was read
pub uses_whole : (line ahead ahead_now : Text) (old new : StreamsView) → Uses (line ++ 10 ∷ []) ahead ahead_now old new → ArePrintable line
    → length line ≤ 255 → (result : Result Asked InputFault) (found : Asked) → result ≡ Ok found → asked_meant found ≡ Some (whole_line line)
    → UsesLine EndsLine ahead ahead_now old new result
uses_whole = grind (common_steps, arith, reads_whole, used_reads, append_assoc)

-- if printable bytes were used and the input is then at its end, they are a cut line, or there is no line
pub uses_cut : (line ahead ahead_now : Text) (old new : StreamsView) → Uses line ahead ahead_now old new → ahead_now ≡ [] → ArePrintable line
    → (found : Asked) → asked_meant found ≡ cut_or_end line → UsesLine EndsLine ahead ahead_now old new (Ok found)
uses_cut = search (rules, reads_cut, used_reads)

-- if the input fails, the bytes that were used are lost
pub uses_failed : (line ahead ahead_now : Text) (old new : StreamsView) → Uses line ahead ahead_now old new
    → UsesLine EndsLine ahead ahead_now old new (Err Failed)
uses_failed = search (rules, used_reads)

-- if a byte makes a line bad and the rest of the line is skipped, a bad line was read
pub uses_bad : (line : Text) (b : ℕ) (ahead mid_ahead ahead_now : Text) (old mid new : StreamsView) (result : Result Asked InputFault)
    → Uses (line ++ b ∷ []) ahead mid_ahead old mid → ArePrintable line → IsSpoiled line b
    → UsesLine EndsSkipping mid_ahead ahead_now mid new result → UsesLine EndsLine ahead ahead_now old new result
uses_bad line b ahead mid_ahead ahead_now old mid new result first good spoiled second = record {
  gained = first.gained ++ second.gained;
  reads = record {
    reads = search (rules, in_line_append, in_line_behind, without_both, printable_without);
    only = only_both first.gained second.gained old mid new first.reads.only second.reads.only;
  };
  ends =
      reads_bad (Some (ahead ++ bytes_read (first.gained ++ second.gained))) (Some (b ∷ mid_ahead ++ bytes_read second.gained))
      (Some (mid_ahead ++ bytes_read second.gained)) (Some ahead_now) line b result (ap Some total) refl good spoiled second.ends;
}
  where
    total : ahead ++ bytes_read (first.gained ++ second.gained) ≡ line ++ (b ∷ mid_ahead ++ bytes_read second.gained)
    total = search (rules, read_append, append_assoc)

-- ---- the rest of a bad line

-- these bytes of a bad line were used. None of them is a line feed, and there are `count` of them
pub record UsesRest (count : ℕ) (ahead ahead_now : Text) (old new : StreamsView) : Type 0 where
  pub skipped : Text
  pub one : IsWithoutFeed skipped
  pub many : length skipped ≡ count
  pub uses : Uses skipped ahead ahead_now old new

pub rest_more : (count b : ℕ) (ahead mid_ahead ahead_now : Text) (old mid new : StreamsView) → UsesRest count ahead mid_ahead old mid → b ≢ 10
    → Uses (b ∷ []) mid_ahead ahead_now mid new → UsesRest (count + 1) ahead ahead_now old new
rest_more count b ahead mid_ahead ahead_now old mid new rest other next = record {
  skipped = rest.skipped ++ b ∷ [];
  one = without_both rest.skipped (b ∷ []) rest.one (other, tt);
  many = (let long = length-append rest.skipped (b ∷ []) in let had = rest.many in omega (arith, long, had));
  uses = uses_more rest.skipped (b ∷ []) ahead mid_ahead ahead_now old mid new rest.one rest.uses next;
}

-- the rest of a bad line and its line feed were used
pub rest_feed : (count : ℕ) (ahead mid_ahead ahead_now : Text) (old mid new : StreamsView) → UsesRest count ahead mid_ahead old mid
    → Uses (10 ∷ []) mid_ahead ahead_now mid new → UsesLine EndsSkipping ahead ahead_now old new (Ok asked.Bad)
rest_feed count ahead mid_ahead ahead_now old mid new rest next =
    let all = uses_more rest.skipped (10 ∷ []) ahead mid_ahead ahead_now old mid new rest.one rest.uses next in search
    (rules, append_assoc, all.gained, all.reads, rest.skipped, all.whole, rest.one)

-- the input ended before the line feed of a bad line
pub rest_end : (count : ℕ) (ahead mid_ahead ahead_now : Text) (old mid new : StreamsView) → UsesRest count ahead mid_ahead old mid
    → Uses [] mid_ahead ahead_now mid new → ahead_now ≡ [] → UsesLine EndsSkipping ahead ahead_now old new (Ok asked.Cut)
rest_end count ahead mid_ahead ahead_now old mid new rest next none =
    let all = uses_more _ _ _ _ _ _ _ _ rest.one rest.uses next in search rules

-- the input failed within a bad line
pub rest_failed : (count : ℕ) (ahead mid_ahead ahead_now : Text) (old mid new : StreamsView) → UsesRest count ahead mid_ahead old mid
    → Uses [] mid_ahead ahead_now mid new → UsesLine EndsSkipping ahead ahead_now old new (Err Failed)
rest_failed count ahead mid_ahead ahead_now old mid new rest next =
    let all = uses_more rest.skipped [] ahead mid_ahead ahead_now old mid new rest.one rest.uses next in search
    (rules, used_reads, all.gained, all.reads, rest.skipped)

-- the rest of a bad line has too many bytes to count
pub rest_endless : (count : ℕ) (ahead ahead_now : Text) (old new : StreamsView) → UsesRest count ahead ahead_now old new → count ≡ 2 ^ 64 - 1
    → UsesLine EndsSkipping ahead ahead_now old new (Err Endless)
rest_endless = search (rules, used_reads)
