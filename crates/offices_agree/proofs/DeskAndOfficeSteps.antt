-- The commands after the session of the desk, and what the desk and the office print.
use Rattle.cif_laws.proofs.Common.{◌≡◌, ℕ, List, [], ◌∷◌, ◌++◌, Some, None, refl, sym, ◌∙◌, ap, subst, arith, codes, rules, decimal_digit, dks_2, Known}
use Rattle.cif_laws.proofs.Common.{nothing, united, HaveSameFiles}
use Rattle.std.specs.Prelude.{decimal}
use Rattle.std.proofs.lemmas.Fmt.{decimal-digits_of}
use Rattle.cif_device.specs.Device.{Takes}
use Rattle.docker_host.specs.History.{Bytes, Event}
use Rattle.docker_host.specs.Host.{HostView}
use Rattle.docker_host.specs.Shelf.{ShelfView, text_under}
use Rattle.docker_program.specs.Commands.{HoldsKnown, PrintsKnown, of_file}
use Rattle.docker_program.proofs.VersionLemmas.{plain_known_docker}
use Rattle.docker_desk.specs.Answers.{answer_text}
use Rattle.offices_agree.specs.DeskAndOffice.{IsServedNorth, IsShownSouth, KnowApart, LearnApart, ServesNorth, ShowsSouth}
use Rattle.offices_agree.proofs.TwoOfficesFiles.{full_file, full_is, full_text, place, update_file, update_is, update_text}
use Rattle.offices_agree.proofs.TwoOfficesDocker.{both, both_distinct, text_of_both, the_docker}
use Rattle.offices_agree.proofs.TwoOfficesSteps.{After, IsPrinted, Stands, date_is, full_name, merge_south, new_south, north, print_shows}
use Rattle.offices_agree.proofs.TwoOfficesSteps.{same_files, south, update_name}

-- after the last commands `south` has printed the docker of what `north` knew
pub shown_south : (a b c d : HostView) → After (codes "new" ∷ south ∷ []) a b → After (codes "merge" ∷ south ∷ north ∷ []) b c
    → After (codes "print" ∷ south ∷ place ∷ codes "2024-06-10" ∷ []) c d → ShowsSouth a d
shown_south a b c d to_b to_c to_d known holds = record {
  docker = printed.text;
  is = printed.is;
  takes = subst (λ (o : Bytes). Takes o printed.text d.output) there.unprinted printed.takes;
}
  where
    there_a : Stands a a None None (Some known) None
    there_a = record { full_held = tt; update_held = tt; north_held = holds; south_held = tt; unprinted = refl }

    there : Stands a c None None (Some known) (Some (united nothing known))
    there = merge_south (new_south there_a to_b) to_c

    printed : IsPrinted c d (united nothing known) place 23537
    printed = print_shows south _ (codes "2024-06-10") _ (united nothing known) _ d refl refl date_is there.south_held to_d

-- ---- what both print

-- whoever knows both files prints the docker of their plain table
pub docker_of_both : (known : Known) (text : List ℕ) → HaveSameFiles both known.files → PrintsKnown known place 23537 text → text ≡ the_docker
docker_of_both known text same is =
    let plain = plain_known_docker known place 23537 text is (both_distinct known.files same) in
    text_of_both known.files plain.0 text same plain.1 plain.2

hundreds : decimal 228 ≡ codes "228"
hundreds = decimal-digits_of 228 (omega arith) (omega arith)

-- the answer with this docker
told_docker : answer_text 0 the_docker ≡ codes "0 4 228\n" ++ the_docker
told_docker = λ i. decimal_digit 0 (omega arith) i ++ codes " " ++ decimal_digit 4 (omega arith) i ++ codes " " ++ hundreds i ++ codes "\n" ++ the_docker

-- what the desk answers and what `south` prints. `a` and `b` are the host before and after the first commands, and `c` and `d` before and after the last. `x`
-- and `y` are the folder before and after the session
pub both_agree : (a b c d : HostView) (x y : ShelfView) (answers : List ℕ) → text_under a.history full_name ≡ Some full_text
    → text_under a.history update_name ≡ Some update_text → LearnApart a b → x.events ≡ b.history → ServesNorth x y answers
    → c.history ≡ y.events → a.output ≡ Some [] → c.output ≡ b.output → ShowsSouth c d
    → (answers ≡ codes "0 0 0\n" ++ codes "0 0 0\n" ++ codes "0 4 228\n" ++ the_docker) × (d.output ≡ Some the_docker)
both_agree a b c d x y answers full update learn same serves also empty kept shows = (
  served.told ∙ ap (λ (t : List ℕ). codes "0 0 0\n" ++ codes "0 0 0\n" ++ answer_text 0 t) desk_is
      ∙ ap (λ (t : List ℕ). codes "0 0 0\n" ++ codes "0 0 0\n" ++ t) told_docker,
  subst (λ (o : Bytes). Takes o shown.docker d.output) (kept ∙ knows.unprinted ∙ empty) shown.takes ∙ ap Some south_is,
)
  where
    knows : KnowApart a b full_file update_file
    knows = learn full_file update_file (full_text, full, full_is) (update_text, update, update_is)

    known_north : Known
    known_north = united nothing (of_file full_file)

    known_south : Known
    known_south = united (united nothing (of_file update_file)) (of_file update_file)

    served : IsServedNorth y answers known_north known_south
    served = serves known_north known_south (subst (λ (h : List Event). HoldsKnown dks_2 (text_under h north) known_north) (sym same) knows.north)
        (subst (λ (h : List Event). HoldsKnown dks_2 (text_under h south) known_south) (sym same) knows.south)

    shown : IsShownSouth c d (united known_north known_south)
    shown = shows (united known_north known_south)
        (subst (λ (h : List Event). HoldsKnown dks_2 (text_under h north) (united known_north known_south)) (sym also) served.north)

    desk_is : served.docker ≡ the_docker
    desk_is = docker_of_both _ _ (same_files _ _) served.is

    south_is : shown.docker ≡ the_docker
    south_is = docker_of_both _ _ (same_files _ _) shown.is

-- the sinks have taken what was printed
pub sinks_have : (desk south : List ℕ) (output : Bytes) → Some south ≡ output
    → (desk ≡ codes "0 0 0\n" ++ codes "0 0 0\n" ++ codes "0 4 228\n" ++ the_docker) × (output ≡ Some the_docker)
    → (desk ≡ codes "0 0 0\n" ++ codes "0 0 0\n" ++ codes "0 4 228\n" ++ south) × (south ≡ the_docker)
sinks_have = search (rules, both, codes, south, the_docker)
