use Rattle.state_text.specs.FormatMeaning.{format_meant}
use Rattle.docker_bytes.proofs.reading.StateReading.judge.Given as goal

-- the format in which the part is judged equals the text's format
abbrev pub ghost-step : goal.ghost-step
ghost-step g a = format_meant a.format
