use Rattle.cif_laws.proofs.Common.{◌≡◌, List, ap, sym, subst, ◌∙◌, Option, IfOk, option_map, columns, category_occasion, Occasion, Row, AreRowsOf}
use Rattle.docker_laws.specs.LiveRows.{train_in}
use Rattle.docker_state.specs.Timetables.{live_in}
use Rattle.train_choice.specs.Meaning.{occasion_meant}
use Rattle.docker_day.specs.Lines.{listed, link_line_with}
use Rattle.docker_day.proofs.link_lines.line_with.Goals as goal

pub returns-in-Some-clause-line : goal.returns-in-Some-clause-line
returns-in-Some-clause-line c =
    let visit = c.args.visit.now in
    let link = c.args.link.now in
    subst (λ (occasion : Option Occasion). IfOk c.line_by.result (λ line. (rows : List Row) → AreRowsOf (live_in visit.timetable) rows
    → listed line ≡ link_line_with (train_in rows) visit.day visit.start link occasion (train_in rows link.key.base visit.start)))
    (ap (option_map occasion_meant) (sym c.in-Some.is) ∙ c.occasion_of.ensures ∙ ap category_occasion
    (c.category.ensures.value ∙ ap (columns 35 36) c.record.ensures))
    c.line_by.ensures.line
