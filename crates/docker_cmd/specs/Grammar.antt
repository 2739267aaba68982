-- The command line as `clap` parses it.
use Rattle.std.specs.Prelude.{List, [], ◌∷◌, true, false, codes, map, Option, Some, option_map, option_and_then}
use Rattle.clap.specs.Walk.{Row, Rule, Text, first_of}
use Rattle.clap.specs.Simple.{App, Shape, new_rule, new_shape}
use Rattle.docker_cmd.specs.Tasks.{ids_of, name_of, subcommand_named, subcommands}
use Rattle.docker_cmd.specs.declared.tasks.Subcommand.{Subcommand}

-- the rule of a required word with this id
abbrev pub required_rule : Text → Rule
required_rule id = record (new_rule id) { required = true }

-- the subcommand with this name and these required words
abbrev pub words_shape : Text → List Text → Shape
words_shape name ids = record (new_shape name) { rules = map required_rule ids }

-- the program without its subcommands: a subcommand is required, and there is no `--help`, `help`
-- or `--version`
abbrev pub docker_shape : Shape
docker_shape = record (new_shape (codes "docker")) {
  no_binary_name = true;
  disable_help_flag = true;
  disable_help_subcommand = true;
  disable_version_flag = true;
  subcommand_required = true;
}

-- a subcommand of the program, as `clap` describes it
abbrev pub shape_of : Subcommand → Shape
shape_of subcommand = words_shape (name_of subcommand) (ids_of subcommand)

-- the program with its subcommands
abbrev pub docker_app : App
docker_app = record {
  top = record docker_shape { is_leaf = false };
  subs = map shape_of subcommands;
}

-- the first value that `clap` found for each of these ids, in order; None if any of the ids has no
-- value
abbrev pub found_words : List Text → List Row → Option (List Text)
found_words [] rows = Some []
found_words (id ∷ ids) rows = option_and_then (λ word. option_map (λ words. word ∷ words) (found_words ids rows)) (first_of id rows)

-- the pair of a subcommand and the words after it
abbrev pub pair_of : Subcommand → List Text → Subcommand × List Text
pair_of subcommand words = (subcommand, words)

-- the subcommand with this name, and the words that `clap` found for its ids
abbrev pub found_at : Text → List Row → Option (Subcommand × List Text)
found_at name rows = option_and_then (λ subcommand. option_map (pair_of subcommand) (found_words (ids_of subcommand) rows)) (subcommand_named name)

-- the subcommand in `clap`'s result, and the words after it; None if there is no subcommand, or a
-- word is missing
abbrev pub found_in : Option (Text × List Row) → Option (Subcommand × List Text)
found_in = option_and_then (λ found. found_at found.0 found.1)
