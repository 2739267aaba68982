use Rattle.cif_laws.proofs.Common.{◌≡◌, ◌∙◌, ◌<◌, ◌+◌, ◌||◌, ℕ, List, [], ◌∷◌, ◌++◌, Bor, length, slice_index_or, take, map, sym, ap, ap₂, map-append}
use Rattle.cif_laws.proofs.Common.{take_more}
use Rattle.clap.specs.Words.{App, Text, with_rule}
use Rattle.docker_cmd.specs.Grammar.{required_rule, words_shape}
use Rattle.docker_cmd.specs.Tasks.{name_of}
use Rattle.docker_cmd.proofs.grammar.command_of.Goals as goal

-- the subcommand with the arguments that have these ids
abbrev of_ids : Text → List Text → App
of_ids name ids = record { top = words_shape name ids; subs = [] }

-- if the argument of id `i` is added to the subcommand with the arguments before `i`, the result is
-- the subcommand with the arguments up to and including `i`
one_more : (name : Text) (ids : List (Bor Text)) (i : ℕ) (d : Bor Text) → i < length ids
    → with_rule (of_ids name (map (λ id. id.now) (take i ids))) (required_rule (slice_index_or ids i d).now)
    ≡ of_ids name (map (λ id. id.now) (take (i + 1) ids))
one_more name ids i d lt =
    let texts : map (λ id. id.now) (take (i + 1) ids) ≡ map (λ id. id.now) (take i ids) ++ (slice_index_or ids i d).now ∷ [] =
    ap (map (λ id. id.now)) (take_more ids i d lt) ∙ map-append (λ id. id.now) (take i ids) (slice_index_or ids i d ∷ []) in
    let rules = ap (map required_rule) texts ∙ map-append required_rule (map (λ id. id.now) (take i ids)) ((slice_index_or ids i d).now ∷ []) in
    sym (ap (λ rs. record { top = record (words_shape name []) { rules = rs }; subs = [] }) rules)

pub loop-id-preserved : goal.loop-id-preserved
loop-id-preserved c =
    let added = c.in_ok-command.ensures in
    let local = c.required_word.ensures.local in
    record {
      shape = added.shape local ∙ ap₂ with_rule c.loop-id.invariant.shape c.required_word.ensures.rule
          ∙ one_more (name_of c.args.subcommand) c.ids-id-items.result.now c.loop-id.id-index _ c.loop-id-test.true;
      local = added.globals ∙ ap₂ (λ a b. a || b) c.loop-id.invariant.local local;
      ids = c.loop-id.invariant.ids;
    }
