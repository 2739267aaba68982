-- After the trailer the file ends. A TIPLOC record or an association makes its changes at once.
use Rattle.cif_laws.proofs.Common.{refl, subst, OnOk}
use Rattle.cif_file.specs.KeeperRead.{AddsSingle}
use Rattle.cif_file.specs.RecordsRead.{BeginsAnew}
use Rattle.cif_file.specs.UnitRead.{IsUnitByKind}
use Rattle.cif_file.proofs.FrontLemmas.{trailer_added, single_added, on_ok_one}
use Rattle.cif_file.proofs.UnitLemmas.{single_leads, single_has_kind, schedule_is}
use Rattle.cif_file.proofs.records.front.Front.add_unit.Goals as goal

pub add_single-requires : goal.add_single-requires
add_single-requires g c = single_has_kind c.args.unit c.in-Single.single c.requires c.in-Single.is

pub open-requires : goal.open-requires
open-requires g c = schedule_is c.args.unit c.in-Schedule.view c.requires c.in-Schedule.is

pub returns-in-Single-clause-read : goal.returns-in-Single-clause-read
returns-in-Single-clause-read g c = λ line is.
    let told = subst (IsUnitByKind line) c.in-Single.is is.by_kind in
    on_ok_one c.add_single.result c.add_single.ensures.kept
    (λ made. λ records over counted.
    single_added g.K.ChangeKeeper.keeps c.args.self.now _ records line over is.is is.good_fields refl c.args.number
    (single_leads line c.in-Single.single told.1) counted refl
    (subst (λ l. AddsSingle g.K.ChangeKeeper.keeps c.args.self.now.keeper c.args.number l c.add_single.new.self) told.0 made))

pub returns-in-Schedule-clause-read : goal.returns-in-Schedule-clause-read
returns-in-Schedule-clause-read g c = λ line is.
    let told = subst (IsUnitByKind line) c.in-Schedule.is is.by_kind in
    subst (λ l. OnOk c.open.result (BeginsAnew g.K.ChangeKeeper.keeps c.args.self.now c.args.number l c.open.new.self)) told.0 c.open.ensures.read

pub returns-in-Trailer-clause-read : goal.returns-in-Trailer-clause-read
returns-in-Trailer-clause-read g c = λ line is records over counted. trailer_added _ _ _ _ _ over is.is is.good_fields refl
    (subst (IsUnitByKind line) c.in-Trailer.is is.by_kind) refl refl
