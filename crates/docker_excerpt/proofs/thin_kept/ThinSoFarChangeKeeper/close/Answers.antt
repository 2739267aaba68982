-- The schedule's change was kept if the docker may need it, and dropped otherwise. No lines remain.
use Rattle.cif_laws.proofs.Common.{◌∙◌, ◌++◌, ◌∷◌, []}
use Rattle.cif_file.specs.KeeperRead.{change_renewed}
use Rattle.docker_excerpt.proofs.thin_kept.ThinSoFarChangeKeeper.close.Goals as goal

pub returns-clause-kept : goal.returns-clause-kept
returns-clause-kept g c = λ lines made read whole keeps. record {
  lines_are = c.clear.ensures.items;
  runs_near_is = tt;
  thinned =
      c.in_ok-add_opened.ensures g.P.PlaceDay.place g.P.PlaceDay.day lines (c.as_slice.ensures.value ∙ keeps.lines_are)
      read whole keeps.runs_near_is made keeps.thinned;
  so_far =
      c.with_opened-self.ensures
      ∙ (λ i. keeps.so_far i ++ change_renewed c.args.opened (keeps.lines_are i) ∷ []);
}
