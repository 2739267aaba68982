-- What is left in an input at the end of a session.
use Rattle.cif_laws.proofs.Common.{◌≡◌, ℕ, List, [], ◌∷◌, Some, None, ◌⊎◌, inl, inr, subst, rules, Option, Ok}
use Rattle.docker_cmd.specs.Prepared.{DeviceBytes}
use Rattle.docker_desk.specs.Lines.{EndsLine, LineView, ReadsAsked, ReadsNext, asked_meant, cut_line, with_ahead}
use Rattle.docker_desk.specs.Answering.{LeavesNone}
use Rattle.docker_desk.specs.declared.lines.Asked.{Asked}
use Rattle.docker_desk.specs.declared.ending.Ending.{Ending}
use Rattle.docker_desk.specs.declared.ending.Ending.TheVariants.{Ended, OutputFailed}
use Rattle.docker_desk.proofs.ReadLinesLemmas.{ReadsFirst}

-- if no bytes are to be read, none are left in the source
none_left : (ahead : List ℕ) (left : DeviceBytes) → with_ahead ahead left ≡ Some [] → left ≡ Some []
none_left ahead None same = let never : ⊥ = cc in absurd never
none_left [] (Some rest) same = same
none_left (byte ∷ ahead) (Some rest) same = let never : ⊥ = cc in absurd never

-- after a cut line, no bytes are left
pub left_after_cut : (old : DeviceBytes) (ahead : List ℕ) (left : DeviceBytes) → ReadsNext old cut_line (with_ahead ahead left) → LeavesNone old left
left_after_cut = search (rules, none_left)

-- at the end of a source, no bytes are left
pub left_at_end : (old : DeviceBytes) (ahead : List ℕ) (left : DeviceBytes) → ReadsAsked old None (with_ahead ahead left) → LeavesNone old left
left_at_end = search (rules, none_left)

-- if reading a line met the end of the source, the source was at its end
pub end_read : (old new : DeviceBytes) (read : Asked) → asked_meant read ≡ None → EndsLine old (Ok read) new → ReadsAsked old None new
end_read old new read is ends = subst (λ (met : Option LineView). ReadsAsked old met new) is ends

-- if the session continues after the answer to a line, or the output failed, the input didn't end
pub not_ended : {P A B : Type 0} (result : Option Ending) → ((result ≡ None) × A) ⊎ ((result ≡ Some OutputFailed) × B) → result ≡ Some Ended → P
not_ended result (inl whole) is = absurd (let never : ⊥ = cc in never)
not_ended result (inr part) is = absurd (let never : ⊥ = cc in never)

-- if no bytes are left after the last line, none are left of the whole input
pub left_of_all : (old now left : DeviceBytes) (lines : List LineView) → ReadsFirst old lines now → LeavesNone now left → LeavesNone old left
left_of_all = search rules
