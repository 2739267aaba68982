-- Converts formats from the code's type to the definitions' type.
use Rattle.docker_model.specs.state.StateText.{Format, dks_1, dks_2}
use Rattle.state_text.specs.declared.format.Format as code
use Rattle.state_text.specs.declared.format.Format.TheVariants as format

-- converts a format from the code's type to the definitions' type
abbrev pub format_meant : code.Format → Format
format_meant format.Dks1 = dks_1
format_meant format.Dks2 = dks_2
