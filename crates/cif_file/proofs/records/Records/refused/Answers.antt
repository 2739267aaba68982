-- A line beyond the limit is refused with the cause `TooMany`, and a line after the trailer with
-- the cause `After`. Any other line is refused because it isn't a record.
use Rattle.cif_laws.proofs.Common.{◌≡◌, ap, subst, refl, true, false, ◌↔◌, IsFile}
use Rattle.cif_change.specs.Cause.{cause_meant}
use Rattle.cif_file.proofs.ParserLemmas.{refused_over, refused_within}
use Rattle.cif_file.proofs.records.Records.refused.Goals as goal
use Rattle.cif_file.proofs.records.Records.refused.Goals.{then-self, else-self+then-is_ended, else-self+else-is_ended}

pub returns : goal.returns
returns g c = λ limit records counted.
    elim c.if-self.branch [
      | then-self w ↦
          refused_over g.K.ChangeKeeper.keeps c.args.self.now limit records (cause_meant c.args.cause) _ counted refl w.if-self.true (ap cause_meant w.first-is)
      | else-self+then-is_ended w ↦
          refused_within g.K.ChangeKeeper.keeps c.args.self.now limit records (cause_meant c.args.cause) _ true counted refl w.if-self.false
          (subst (λ b. (b ≡ true) ↔ IsFile records) w.if-is_ended.true (w.is_ended.ensures records counted.has)) (ap cause_meant w.first-is)
      | else-self+else-is_ended w ↦
          refused_within g.K.ChangeKeeper.keeps c.args.self.now limit records (cause_meant c.args.cause) _ false counted refl w.if-self.false
          (subst (λ b. (b ≡ true) ↔ IsFile records) w.if-is_ended.false (w.is_ended.ensures records counted.has)) (ap cause_meant w.first-is)
    ]
