-- A docker's lines, each with its origin, are the detailed docker.
use Rattle.cif_laws.proofs.Common.{◌≡◌, ℕ, List, [], ◌∷◌, ◌++◌, ◌+◌, ◌<◌, length, sym, ◌∙◌, subst, append_assoc, arith, rules, All, IsPermutation, IsSorted}
use Rattle.cif_laws.proofs.Common.{length-map, map-append, Contains-permutation, IsPermutation-sym, IsPermutation-trans, is_lt, IsBelow, IsStrictlyAscending}
use Rattle.cif_laws.proofs.Common.{Row, AreRowsOf, Table, DockerLine, docker_line_cmp}
use Rattle.std.proofs.lemmas.List.{get_or-map}
use Rattle.std.proofs.lemmas.List.Sorted.{All-permutation, IsPermutation-map}
use Rattle.cif_laws.proofs.lists.Later.{later_weaker}
use Rattle.cif_laws.proofs.lists.Membership.{all_members, map-Contains, member_of}
use Rattle.cif_laws.proofs.lists.Sorted.{AreApart, sort_ascends}
use Rattle.cif_laws.proofs.orders.Ascending.{later_of}
use Rattle.cif_laws.proofs.orders.Orders.{docker_line_total}
use Rattle.docker_day.specs.DockerValue.{Docker}
use Rattle.docker_day.specs.Dockers.{IsDockerOf}
use Rattle.docker_detail.specs.DetailedValue.{DetailedDocker, IsDetailedOf}
use Rattle.docker_detail.specs.Finding.{AreFound, Detailed, IsLineFound, firsts}
use Rattle.docker_detail.proofs.FoundOrigins.{found_is_origin}

-- no two lines of a strictly ascending list tie
ascending_apart : (lines : List DockerLine) → IsStrictlyAscending docker_line_cmp lines → AreApart docker_line_cmp lines
ascending_apart lines up = later_weaker (IsBelow docker_line_cmp) _ lines (λ a b in_a in_b less same. cc) (later_of _ lines up)

-- the lines of a docker, each with its origin, are the lines of the detailed docker
pub detailed_is : (live : Table) (place : List ℕ) (day : ℕ) (rows : List Row) (docker : Docker) (detailed : List Detailed) → AreRowsOf live rows
    → IsDockerOf live place day docker → AreFound live docker.place docker.lines detailed → (result : DetailedDocker)
    → result ≡ record { place = docker.place; day = docker.day; description = docker.description; lines = detailed }
    → IsDetailedOf live place day result
detailed_is live place day rows docker detailed are is made result told =
    let back = IsPermutation-sym docker.lines (firsts detailed) made.same in subst (IsDetailedOf live place day) (sym told) (record {
      place_is = is.place_is;
      day_is = is.day_is;
      described = is.described;
      list = record {
        ascending = sort_ascends docker_line_total docker.lines _ (ascending_apart docker.lines is.list.ascending) made.same made.sorted;
        members = λ line. (
          λ among. (is.list.members line).0 (Contains-permutation (firsts detailed) docker.lines line back among),
          λ meant. Contains-permutation docker.lines (firsts detailed) line made.same ((is.list.members line).1 meant),
        );
      };
      origins = all_members _ detailed (λ line among. found_is_origin _ place _ rows are _ line.1
          ((is.list.members line.0).0 (Contains-permutation (firsts detailed) docker.lines line.0 back (map-Contains _ detailed _ among)))
          (subst (λ (p : List ℕ). IsLineFound live p line) is.place_is (member_of (IsLineFound live docker.place) _ line made.found among)));
    })

-- the lines that were looked up, in the order of a docker, are what is found for the lines
pub found_in_order : (live : Table) (place : List ℕ) (lines ordered : List DockerLine) (each sorted : List Detailed) → IsPermutation lines ordered
    → firsts each ≡ ordered → All (IsLineFound live place) each → IsPermutation each sorted → IsSorted docker_line_cmp (firsts sorted)
    → AreFound live place lines sorted
found_in_order live place lines ordered each sorted by_train are found same up = record {
  same = IsPermutation-trans lines (firsts each) (firsts sorted) (subst (IsPermutation lines) (sym are) by_train)
      (IsPermutation-map (λ (line : Detailed). line.0) each sorted same);
  sorted = up;
  found = All-permutation (IsLineFound live place) each sorted same found;
}

-- if pairs are sorted by their lines, their lines are sorted
pub firsts_sorted : (lines : List Detailed) → IsSorted (λ (a b : Detailed). docker_line_cmp a.0 b.0) lines → IsSorted docker_line_cmp (firsts lines)
firsts_sorted lines sorted k d low below =
    let long : length (firsts lines) ≡ length lines = length-map lines (λ (line : Detailed). line.0) in
    let high : k + 1 < length lines = omega arith in
    let here : k < length lines = omega arith in
    (λ i. is_lt (docker_line_cmp (get_or-map (λ (line : Detailed). line.0) lines (k + 1) (d, []) d high i)
    (get_or-map (λ (line : Detailed). line.0) lines k (d, []) d here i)))
    ∙ sorted k (d, []) low high

-- one more line is looked up
pub one_more : (items : List Detailed) (more : Detailed) (line : DockerLine) (before rest lines : List DockerLine) → before ≡ line ∷ rest → more.0 ≡ line
    → firsts items ++ before ≡ lines → firsts (items ++ more ∷ []) ++ rest ≡ lines
one_more = search (rules, map-append, append_assoc)

-- the docker that the code makes is the detailed docker of the definitions
pub detailed_made : (live : Table) (place : List ℕ) (day : ℕ) (rows : List Row) (docker : Docker) (detailed : List Detailed) (own : List ℕ) (told : ℕ)
    (described : List ℕ) (lines : List DockerLine) (result : DetailedDocker) → AreRowsOf live rows → own ≡ docker.place → told ≡ docker.day
    → described ≡ docker.description → lines ≡ docker.lines → AreFound live own lines detailed
    → result ≡ record { place = own; day = told; description = described; lines = detailed } → IsDockerOf live place day docker
    → IsDetailedOf live place day result
detailed_made live place day rows docker detailed own told described lines result are own_is told_is described_is lines_are found is made =
    detailed_is _ _ _ _ _ _ are made (subst (λ (v : List ℕ × List DockerLine). AreFound live v.0 v.1 detailed) (λ i. (own_is i, lines_are i)) found) _
    (is ∙ (λ i. record { place = own_is i; day = told_is i; description = described_is i; lines = detailed }))
