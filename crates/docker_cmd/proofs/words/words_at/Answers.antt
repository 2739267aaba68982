use Rattle.cif_laws.proofs.Common.{◌∙◌, ap, subst, sym, rules, option_map}
use Rattle.clap.specs.Words.{found_of, rows_of}
use Rattle.docker_cmd.specs.Words.{texts}
use Rattle.docker_cmd.proofs.FoundWords.{HasFound, none_here, none_yet}
use Rattle.docker_cmd.proofs.words.words_at.Goals as goal

pub loop-id-init : goal.loop-id-init
loop-id-init c = record {
  so_far = subst (λ items. HasFound c.args.ids.now (rows_of (found_of c.args.words.now)) 0 (texts items)) (sym c.clear.ensures)
      (none_yet c.args.ids.now (rows_of (found_of c.args.words.now)));
  counted = search rules;
}

pub returns-in_err-word_at : goal.returns-in_err-word_at
returns-in_err-word_at c = ap (option_map (λ found. texts found.items)) c.from_residual.ensures
    ∙ sym (none_here _ _ _ _ _ c.loop-id-test.true (sym c.in_err-word_at.ensures) c.loop-id.invariant.so_far)
