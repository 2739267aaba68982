use Rattle.cif_laws.proofs.Common.{rules}
use Rattle.state_laws.proofs.texts.LedgerGrown.{no_items}
use Rattle.state_text.proofs.receiving.Receiving.new.Goals as goal

pub returns-clause-receiving : goal.returns-clause-receiving
returns-clause-receiving g c = record {
  own_is = c.requires.own;
  valid = c.requires.valid;
  ledger = search (rules, no_items);
  last = search rules;
  count = search rules;
  none = λ is. c.new-2.ensures;
  some = λ staging is. cc;
}
